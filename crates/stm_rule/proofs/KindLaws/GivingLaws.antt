-- The give-back keeps the one rule: its entry, and the gate without the fence.
use Rattle.std.proofs.Common.{◌≡◌, ℕ, ◌+◌, ◌<◌, ◌≤◌, List, ◌∷◌, Bool, true, false, inr, refl, sym, subst, ap, ◌∙◌, le_refl, arith}
use Rattle.std.specs.Prelude.{if◌then◌else◌, ◌%◌, length}
use Rattle.stm_model.specs.Algorithms.{entry_rise}
use Rattle.stm_model.specs.declared.alg.Alg.{Alg}
use Rattle.stm_model.specs.declared.alg.Alg.TheVariants.{Cgl, Tml, OrecLazy, OrecEager, RingSw, Serial}
use Rattle.stm_model.specs.declared.config.Config.{Config}
use Rattle.rule_base.specs.declared.entries.Cell.{Cell}
use Rattle.rule_base.specs.declared.entries.Entry.{Entry}
use Rattle.rule_base.specs.declared.views.Phase.TheVariants.{In, Closing}
use Rattle.rule_base.specs.declared.views.View.{View}
use Rattle.rule_base.specs.Lemmas.EncodingLemmas.{alg_of-gate, fence_of-gate}
use Rattle.rule_base.specs.Encodings.{alg_of, holder_of, fence_of, fenced, gate_word}
use Rattle.rule_base.specs.Fence.{heap_without_fence, without_fence, fence_projection, FenceHolder}
use Rattle.rule_base.specs.FenceLaws.{heap_without_fence-none, heap_without_fence-out, heap_without_fence-rest, fence-held, fence-goes}
use Rattle.rule_base.specs.FenceSteps.{fence_entry, fence_commit, CanFenceCommit, FenceCommits, unfence, CanUnfence}
use Rattle.rule_base.specs.GateLaws.{gate-marked, fence-gate, holder-closed, closed-fits}
use Rattle.rule_base.specs.GateRule.{gate_projection, may_hold}
use Rattle.rule_base.specs.History.{over, touches, word_now, Below, Follows}
use Rattle.rule_base.specs.Lemmas.HistoryLemmas.{over-miss, below-more, upto-all, legal-good, legal-small}
use Rattle.rule_base.specs.Lemmas.HistoryRuleLemmas.{advances-entry, history-kept, history-entry}
use Rattle.rule_base.specs.InstallLaws.{given-install, install-given}
use Rattle.rule_base.specs.InstallSteps.{settle}
use Rattle.rule_base.specs.Lemmas.PutLemmas.{put-all, put-here}
use Rattle.rule_base.specs.Lemmas.RecordLemmas.{records-stay}
use Rattle.rule_base.specs.Regime.{Regime, mode_of, regime}
use Rattle.rule_base.specs.Regime.Mode.{Plain}
use Rattle.rule_base.specs.Regime.Regime.{Running, Giving}
use Rattle.rule_base.specs.Lemmas.RegimeLemmas.{named-regime, plain-mode, regime-running, regime-giving}
use Rattle.rule_base.specs.Rest.{IsQuiet}
use Rattle.rule_base.specs.RunProjection.{run_view, run_projection}
use Rattle.rule_base.specs.StepKinds.{view_after, world_after, Nothing, Advances, StepLaw}
use Rattle.rule_base.specs.Lemmas.StepsLemmas.{steps-kept, steps-raised}
use Rattle.rule_base.specs.World.{World}
use Rattle.rule_seq.specs.AttemptLemmas.{attempts-after}
use Rattle.rule_seq.specs.LockLemmas.{lock_projection-kept}
use Rattle.rule_seq.specs.LockRule.{LockRule}
use Rattle.stm_rule.specs.Alone.{alone-kept}
use Rattle.stm_rule.proofs.KindLaws.ClosingLaws.{regime-handed}
use Rattle.stm_rule.specs.FenceFindings.{FindsEven, CanSettleBack}
use Rattle.stm_rule.specs.Kinds.Frames.{same-horizon, ungranted-out, uncommitted}
use Rattle.stm_rule.proofs.KindLaws.Lifted.{settles_within}
use Rattle.stm_rule.specs.Product.{Gives, Runs, Invariant}
use Rattle.stm_rule.specs.Kinds.Raised.{raised-put}
use Rattle.stm_rule.proofs.KindLaws.RestLaws.{quiet-ease, heap-rests, nobody-else}
use Rattle.stm_rule.specs.Kinds.Running.{Ready, from-rest, ease-own, runs-fresh, runs-stays, run_projection-kept}

entry_rise-some : (alg : Alg) → 0 < entry_rise alg
entry_rise-some Cgl = omega arith
entry_rise-some Tml = omega arith
entry_rise-some OrecLazy = omega arith
entry_rise-some OrecEager = omega arith
entry_rise-some RingSw = omega arith
entry_rise-some Serial = omega arith

module _ (good : (ℕ → ℕ) → Type 0) (c : Config) (n : ℕ) where
  -- the holder is in no attempt, and the memory lies in the heap outside the range
  outside-lies : (w : World) → Invariant good c w → IsQuiet c n (without_fence w) → (a : ℕ) → fenced (fence_of w.gate) a ≡ false → w.heap a ≡ word_now w.history a
  outside-lies w g quiet a out = sym (heap_without_fence-out (fence_of w.gate) w.heap w.history a out) ∙ (quiet-ease good c n (without_fence w) g.core quiet).heap a

  -- THE CLOCK before a give-back
  pub settles_back : (alg : Alg) → StepLaw (Invariant good c) settle (FindsEven alg) n (CanSettleBack c.callers n alg)
  settles_back alg w g may =
      let o = settles_within good c n w g may.settle in
      let quiet : IsQuiet c n (without_fence w) = record { closing = may.closing; checked = may.settle.quiet } in record {
        rule = o.rule;
        advances = o.advances;
        shown = (o.shown, λ tml. (heap-rests good c n (without_fence w) g.core quiet).1 (g.core.gate.held n may.settle.holds ∙ (may.named ∙ tml)));
      }

  -- THE ENTRY of a give-back
  pub fence_commits : (alg : Alg) (t : ℕ) → StepLaw (Invariant good c) (fence_commit n alg t) (FenceCommits good c n t) n (CanFenceCommit good alg t)
  fence_commits alg t w g may = record {
    rule = record {
      core = record {
        history = history-entry good c w x n e v refl refl refl refl refl later may.limit follows g.core.history;
        steps = steps-raised c (fence_commit n alg t) n w (entry_rise alg) low next refl refl g.core.steps;
        gate = gate-marked c.callers w x n v refl refl refl refl refl refl refl refl refl refl g.core.gate;
        install = given-install c w x n t v refl refl refl refl refl up may.quiescent may.phase g.core.gate g.core.install;
        records = records-stay w x n v refl up refl refl refl g.core.records;
        lock = subst LockRule (sym (lock_projection-kept w x n v refl refl refl refl)) g.core.lock;
        attempts = attempts-after w x n v refl (λ f. g.core.attempts.busy n f) (λ f. ap may_hold may.phase) g.core.attempts;
        running = subst (λ (r : Regime). Runs c r (run_projection (without_fence x))) (sym giving) gives;
        alone = alone-kept c (fence_commit n alg t) n w refl (λ sole. inr refl) g.core.alone;
        raised = raised-put w x n v refl (λ f. f) (λ f k. may.quiescent) g.core.raised;
      };
      fence = fence-held c w x n v refl refl up advances.seen may.holds may.holds refl (record {
        stored = h.stored;
        still = λ a f. refl;
        sees = λ a. refl;
        reads_inside = λ a f. absurd cc;
        stores_inside = λ a f. absurd cc;
        stores_small = λ a d l. l;
      }) (record { seen = sym (upto-all (e ∷ w.history) (t + 1) t (omega arith, below) (le_refl (t + 1))); front = le_refl t }) refl refl g.fence;
    };
    advances = advances;
    shown = record {
      legal = (follows, g.core.history.legal);
      below = (omega arith, below);
      seen = (g.core.history.known n).seen;
      front = (let f = (g.core.history.known n).front in let l = later in omega arith);
      past = (g.fence.past n).seen;
      past_front = (let f = (g.fence.past n).front in let l = later in omega arith);
    };
  }
    where
      x : World
      x = world_after (fence_commit n alg t) n w

      v : View
      v = view_after (fence_commit n alg t) w (w.views n) t

      e : Entry
      e = fence_entry n t (w.views n)

      h : FenceHolder (fence_projection w) (w.views n).fence
      h = g.fence.holder n may.holds

      low : n < c.callers
      low = g.fence.few n may.holds

      holds : (w.views n).gate.holds ≡ true
      holds = g.core.gate.closing n may.phase

      named : alg_of w.gate ≡ alg
      named = g.core.gate.held n holds ∙ may.named

      quiet : IsQuiet c n (without_fence w)
      quiet = record { closing = may.phase; checked = λ k few other. g.core.install.alone n k may.quiescent few other }

      next : t ≡ w.clock + entry_rise alg
      next = may.time ∙ ap (λ k. k + entry_rise alg) (sym (g.core.install.time n may.quiescent))

      later : w.clock < t
      later = let k = next in let s = entry_rise-some alg in omega arith

      up : w.clock ≤ t
      up = let k = later in omega arith

      advances : Advances w x
      advances = advances-entry w x e refl later (le_refl t) (le_refl w.done) refl

      below : Below w.history t
      below = below-more w.history (w.clock + 1) t g.core.history.below (let l = later in omega arith)

      ours : (a : ℕ) → fenced (w.views n).fence.number a ≡ true → fenced (fence_of w.gate) a ≡ true
      ours a f = ap (λ k. fenced k a) (g.fence.mine n may.holds).1 ∙ f

      follows : Follows good c (fence_entry n t (w.views n)) w.history
      follows = record {
        caller = low;
        number = ap length (g.core.history.known n).made;
        later = let k = later in let o = g.core.history.opened in omega arith;
        reads = h.sees;
        reads_inside = λ a f. g.fence.inside a (h.reads_inside a f);
        writes_inside = λ a f. g.fence.inside a (h.stores_inside a f);
        writes_small = h.stores_small;
        writes_some = may.wrote;
        leaves = may.keeps (word_now w.history) (legal-good good c w.history g.core.history.legal) (λ a f. h.still a (ours a f)) (λ a. legal-small good c w.history a g.core.history.legal);
      }

      plain : (w.views n).gate.granted ≡ false
      plain = ungranted-out good c (without_fence w) n g.core (λ f. let q : Closing ≡ In = sym may.phase ∙ f in cc)

      giving : regime x ≡ Giving (alg_of w.gate)
      giving = regime-giving x n (g.core.gate.mine n holds) (ap (λ (u : View). u.gate.granted) (put-here w.views n v) ∙ plain) (ap (λ (u : View). u.gate.giving) (put-here w.views n v))

      -- outside the range nothing was stored
      kept : (a : ℕ) (b : Bool) → touches (w.views n).fence.stores a ≡ b → fenced (fence_of w.gate) a ≡ false → touches (w.views n).fence.stores a ≡ false
      kept a true f out = absurd (let q : true ≡ false = sym (h.stores_inside a f) ∙ out in cc)
      kept a false f out = f

      lies : (a : ℕ) (b : Bool) → fenced (fence_of w.gate) a ≡ b → (if b then word_now (e ∷ w.history) a else w.heap a) ≡ word_now (e ∷ w.history) a
      lies a true f = refl
      lies a false f = outside-lies w g quiet a f ∙ sym (over-miss (w.views n).fence.stores a (word_now w.history a) (kept a (touches (w.views n).fence.stores a) refl f))

      entered : (x.views n).attempt.entered ≡ true
      entered = ap (λ (u : View). u.attempt.entered) (put-here w.views n v)

      gives : Gives (alg_of w.gate) (run_projection (without_fence x))
      gives = record {
        heap = λ a. lies a (fenced (fence_of w.gate) a) refl;
        even = λ q. even_after (heap-rests good c n (without_fence w) g.core quiet).1 q;
        fresh = λ q. put-all w.views n v (λ m u. u.attempt.entered ≡ false → u.history.front ≤ w.done)
            (λ f. absurd cc)
            (λ m d f.
            runs-fresh c (regime (without_fence w)) (run_projection (without_fence w)) m g.core.running (named-regime (without_fence w) ∙ q)
            (uncommitted good c (without_fence w) m g.core (nobody-else good c n (without_fence w) g.core quiet.checked m d)) f);
        level = λ q settled. absurd (let f : true ≡ false = sym entered ∙ settled n in cc);
      }
        where
          even_after : (alg_of w.gate ≡ Tml → w.clock % 2 ≡ 0) → alg_of w.gate ≡ Tml → t % 2 ≡ 0
          even_after before q =
              let z : w.clock % 2 ≡ 0 = before q in
              let two : entry_rise alg ≡ 2 = ap entry_rise (sym named ∙ q) in
              let k : t ≡ w.clock + entry_rise alg = next in omega arith

  -- THE GATE WITHOUT THE FENCE
  pub unfences : (alg : Alg) → StepLaw (Invariant good c) (unfence n alg) Nothing n (CanUnfence c.callers n alg)
  unfences alg w g may = record {
    rule = record {
      core = record {
        history = history-kept good c w x n v refl refl refl refl g.core.history;
        steps = steps-kept c (unfence n alg) n w refl refl refl g.core.steps;
        gate = fence-gate c.callers 0 false alg w x n v refl refl refl refl may.named may.phase may.quiet g.core.gate;
        install = install-given c w x n 0 v refl refl refl refl refl g.core.install;
        records = records-stay w x n v refl (le_refl w.clock) refl refl refl g.core.records;
        lock = subst LockRule (sym (lock_projection-kept w x n v refl refl refl refl)) g.core.lock;
        attempts = attempts-after w x n v refl (λ f. g.core.attempts.busy n f) (λ f. absurd cc) g.core.attempts;
        running = runs (w.views n).gate.giving refl;
        alone = alone-kept c (unfence n alg) n w refl (λ sole. inr refl) g.core.alone;
        raised = raised-put w x n v refl (λ f. same ∙ (sym named ∙ f)) (λ f k. absurd cc) g.core.raised;
      };
      fence = fence-goes c w x n v refl unfenced refl refl may.holds refl g.fence;
    };
    advances = record { clock = le_refl w.clock; horizon = same-horizon w x (named ∙ sym same) (le_refl w.clock) (le_refl w.done); seen = λ f l. refl };
    shown = tt;
  }
    where
      x : World
      x = world_after (unfence n alg) n w

      v : View
      v = view_after (unfence n alg) w (w.views n) (gate_word 0 (1 + n) alg)

      h : FenceHolder (fence_projection w) (w.views n).fence
      h = g.fence.holder n may.holds

      low : n < c.callers
      low = g.fence.few n may.holds

      holds : (w.views n).gate.holds ≡ true
      holds = g.core.gate.closing n may.phase

      same : alg_of w.gate ≡ alg
      same = g.core.gate.held n holds ∙ may.named

      named : alg_of (gate_word 0 (1 + n) alg) ≡ alg
      named = alg_of-gate 0 (1 + n) alg

      unfenced : fence_of (gate_word 0 (1 + n) alg) ≡ 0
      unfenced = fence_of-gate 0 (1 + n) alg (closed-fits c.callers (gate_projection w) g.core.gate n low)

      quiet : IsQuiet c n (without_fence w)
      quiet = record { closing = may.phase; checked = may.quiet }

      plain : (w.views n).gate.granted ≡ false
      plain = ungranted-out good c (without_fence w) n g.core (λ f. let q : Closing ≡ In = sym may.phase ∙ f in cc)

      -- leaving the fence out hides nothing, before and after
      bare : heap_without_fence (fence_of (gate_word 0 (1 + n) alg)) w.heap w.history ≡ heap_without_fence (fence_of w.gate) w.heap w.history
      bare =
          ap (λ k. heap_without_fence k w.heap w.history) unfenced
          ∙ (heap_without_fence-none w.heap w.history
          ∙ sym (heap_without_fence-rest (fence_of w.gate) w.heap w.history (λ a f.
          h.stored a f ∙ ap (λ (l : List Cell). over l a (word_now w.history a)) may.unstored)))

      alone : (m : ℕ) → holder_of (gate_word 0 (1 + n) alg) ≡ 1 + m → m ≡ n
      alone m f = let k = holder-closed c.callers (gate_projection w) g.core.gate n low 0 alg in omega arith

      runs : (b : Bool) → (w.views n).gate.giving ≡ b → Runs c (regime (without_fence x)) (run_projection (without_fence x))
      runs true f = subst (λ (r : Regime). Runs c r (run_projection (without_fence x))) (sym is)
          (from-rest c alg (run_projection (without_fence x)) (ease-own (without_fence w) (without_fence x) n v refl (le_refl w.clock) refl bare refl refl refl refl refl refl (quiet-ease good c n (without_fence w) g.core quiet)) ready)
        where
          own : (m : ℕ) → m ≡ n → mode_of (x.views m).gate ≡ Plain
          own m k = ap (λ (j : ℕ). mode_of (x.views j).gate) k ∙ (ap (λ (u : View). mode_of u.gate) (put-here w.views n v) ∙ plain-mode v.gate plain refl)

          is : regime x ≡ Running alg
          is = regime-running x (λ m k. own m (alone m k)) ∙ ap Running named

          marked : ((w.views n).gate.quiescent ≡ true) × ((w.views n).gate.rebased ≡ true) × ((w.views n).gate.completed ≡ true)
          marked = may.marked f

          ready : Ready alg (run_projection (without_fence x))
          ready = record {
            even = λ q. (heap-rests good c n (without_fence w) g.core quiet).1 (same ∙ q);
            based = (g.core.install.rebased n marked.1).1 ∙ sym (g.core.install.time n marked.0);
            done = (g.core.install.completed n marked.2).1 ∙ sym (g.core.install.time n marked.0);
            fronts = put-all w.views n v (λ m u. u.history.front ≤ w.clock) (g.core.history.known n).front (λ m d. (g.core.history.known m).front);
          }
      runs false f = runs-stays c (regime (without_fence w)) (regime (without_fence x)) (run_projection (without_fence w)) (run_projection (without_fence x))
          (regime-handed good c n (without_fence w) (without_fence x) v refl (named ∙ sym same)
          (λ m k.
          subst (λ (j : ℕ). mode_of (w.views j).gate ≡ Plain) (let o = g.core.gate.mine n holds in let q : n ≡ m = omega arith in q)
          (plain-mode (w.views n).gate plain f)) alone (plain-mode v.gate plain refl))
          (run_projection-kept (without_fence w) (without_fence x) n v refl refl refl refl refl refl refl bare refl (λ i. record (run_view (w.views n)) { attempt = record (w.views n).attempt { entered = sym (may.plain f) i } })) g.core.running
