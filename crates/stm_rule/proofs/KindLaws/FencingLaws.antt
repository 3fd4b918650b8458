-- The kinds of step of a fence keep the one rule: it comes, and its holder loads and stores in its range.
use Rattle.std.proofs.Common.{◌≡◌, ℕ, ◌+◌, ◌<◌, ◌∷◌, Bool, true, false, inr, refl, sym, subst, ap, ◌∙◌, le_refl, arith}
use Rattle.std.specs.Prelude.{if◌then◌else◌}
use Rattle.std.proofs.Math.Path.{fun_ext}
use Rattle.stm_model.specs.declared.alg.Alg.{Alg}
use Rattle.stm_model.specs.declared.config.Config.{Config}
use Rattle.rule_base.specs.declared.views.Phase.TheVariants.{Idle, In, Closing}
use Rattle.rule_base.specs.declared.views.View.{View}
use Rattle.rule_base.specs.Lemmas.EncodingLemmas.{alg_of-gate, fence_of-gate}
use Rattle.rule_base.specs.Encodings.{alg_of, fence_of, fence_number, fenced, gate_word}
use Rattle.rule_base.specs.Fence.{heap_without_fence, without_fence, fence_projection, FenceHolder}
use Rattle.rule_base.specs.FenceLaws.{heap_without_fence-none, heap_without_fence-rest, fence-held, fence-comes}
use Rattle.rule_base.specs.FenceSteps.{fence, CanFence, fence_load, CanFenceLoad, FenceLoads, fence_store, CanFenceStore}
use Rattle.rule_base.specs.GateLaws.{gate_projection-kept, fence-gate, holder-closed, closed-fits}
use Rattle.rule_base.specs.GateRule.{gate_projection, GateRule}
use Rattle.rule_base.specs.History.{over, touches, word_now}
use Rattle.rule_base.specs.Lemmas.HistoryLemmas.{over-miss, small-more}
use Rattle.rule_base.specs.Lemmas.HistoryRuleLemmas.{advances-same, history-kept}
use Rattle.rule_base.specs.InstallLaws.{install_projection-kept, install-stood}
use Rattle.rule_base.specs.InstallRule.{InstallRule}
use Rattle.rule_base.specs.Lemmas.PutLemmas.{put-all, put-else}
use Rattle.rule_base.specs.Lemmas.RecordLemmas.{records-stay}
use Rattle.rule_base.specs.Regime.{mode_of, regime}
use Rattle.rule_base.specs.Regime.Mode.{Plain}
use Rattle.rule_base.specs.Lemmas.RegimeLemmas.{plain-mode, regime-kept}
use Rattle.rule_base.specs.Rest.{IsQuiet}
use Rattle.rule_base.specs.RunProjection.{run_projection}
use Rattle.rule_base.specs.StepKinds.{view_after, world_after, Nothing, StepLaw}
use Rattle.rule_base.specs.Lemmas.StepsLemmas.{steps-kept}
use Rattle.rule_base.specs.World.{World, put}
use Rattle.rule_seq.specs.AttemptLemmas.{attempts-stay}
use Rattle.rule_seq.specs.LockLemmas.{lock_projection-kept}
use Rattle.rule_seq.specs.LockRule.{LockRule}
use Rattle.stm_rule.specs.Alone.{alone-kept}
use Rattle.stm_rule.proofs.KindLaws.ClosingLaws.{regime-handed}
use Rattle.stm_rule.specs.FenceFindings.{FindsPast}
use Rattle.stm_rule.specs.Kinds.Frames.{is-caller, same-horizon, ungranted-out}
use Rattle.stm_rule.specs.Product.{Invariant}
use Rattle.stm_rule.specs.Kinds.Raised.{raised-put}
use Rattle.stm_rule.proofs.KindLaws.RestLaws.{quiet-ease, nobody-else}
use Rattle.stm_rule.specs.Kinds.Running.{runs-stays, run_projection-kept}

module _ (good : (ℕ → ℕ) → Type 0) (c : Config) (n : ℕ) where
  -- the fence that stands is its holder's
  number-is : (w : World) → Invariant good c w → (w.views n).fence.holds ≡ true → (a : ℕ) → fenced (w.views n).fence.number a ≡ true → fenced (fence_of w.gate) a ≡ true
  number-is w g has a inside = ap (λ k. fenced k a) (g.fence.mine n has).1 ∙ inside

  -- A LOAD of a word of the range
  pub fence_loads : (a : ℕ) → StepLaw (Invariant good c) (fence_load a) (FenceLoads a) n (CanFenceLoad a)
  fence_loads a w g may = record {
    rule = record {
      core = record {
        history = history-kept good c w x n v refl refl refl refl g.core.history;
        steps = steps-kept c (fence_load a) n w refl refl refl g.core.steps;
        gate = subst (GateRule c.callers) (sym (gate_projection-kept w x n v refl refl refl refl)) g.core.gate;
        install = subst (InstallRule c) (sym (install_projection-kept w x n v refl refl refl refl refl)) g.core.install;
        records = records-stay w x n v refl (le_refl w.clock) refl refl refl g.core.records;
        lock = subst LockRule (sym (lock_projection-kept w x n v refl refl refl refl)) g.core.lock;
        attempts = attempts-stay w x n v refl refl refl refl g.core.attempts;
        running =
            runs-stays c (regime w) (regime x) (run_projection (without_fence w)) (run_projection (without_fence x))
            (regime-kept w x n v refl refl refl)
            (run_projection-kept (without_fence w) (without_fence x) n v refl refl refl refl refl refl refl refl refl refl) g.core.running;
        alone = alone-kept c (fence_load a) n w refl (λ sole. inr refl) g.core.alone;
        raised = raised-put w x n v refl (λ e. e) (λ e k. g.core.raised e n k) g.core.raised;
      };
      fence = fence-held c w x n v refl refl (le_refl w.clock) (λ f l. refl) may.holds may.holds refl (record {
        stored = h.stored;
        still = h.still;
        sees = λ b. logged (touches (w.views n).fence.stores a) refl b;
        reads_inside = λ b e. listed (touches (w.views n).fence.stores a) b e;
        stores_inside = h.stores_inside;
        stores_small = h.stores_small;
      }) (record { seen = (g.fence.past n).seen; front = (g.fence.past n).front }) refl refl g.fence;
    };
    advances = advances-same w x refl (le_refl w.clock) (le_refl w.done) refl;
    shown = h.stored a here ∙ ap (over (w.views n).fence.stores a) (h.still a here);
  }
    where
      x : World
      x = world_after (fence_load a) n w

      v : View
      v = view_after (fence_load a) w (w.views n) (w.heap a)

      h : FenceHolder (fence_projection w) (w.views n).fence
      h = g.fence.holder n may.holds

      here : fenced (fence_of w.gate) a ≡ true
      here = number-is w g may.holds a may.inside

      logged : (k : Bool) → touches (w.views n).fence.stores a ≡ k → (b : ℕ)
          → over (if k then (w.views n).fence.reads else record { at = a; value = w.heap a } ∷ (w.views n).fence.reads) b
          (word_now w.history b) ≡ word_now w.history b
      logged true e b = h.sees b
      logged false e b = let there : w.heap a ≡ word_now w.history a = h.stored a here ∙ over-miss (w.views n).fence.stores a (word_now w.history a) e in grind (arith, there, h.sees b)

      listed : (k : Bool) (b : ℕ) → touches (if k then (w.views n).fence.reads else record { at = a; value = w.heap a } ∷ (w.views n).fence.reads) b ≡ true → fenced (fence_of w.gate) b ≡ true
      listed true b e = h.reads_inside b e
      listed false b e = grind (arith, e, here, h.reads_inside b)

  -- A STORE of a word of the range
  pub fence_stores : (a k : ℕ) → StepLaw (Invariant good c) (fence_store a k) Nothing n (CanFenceStore a k)
  fence_stores a k w g may = record {
    rule = record {
      core = record {
        history = history-kept good c w x n v refl refl refl refl g.core.history;
        steps = steps-kept c (fence_store a k) n w refl refl refl g.core.steps;
        gate = subst (GateRule c.callers) (sym (gate_projection-kept w x n v refl refl refl refl)) g.core.gate;
        install = subst (InstallRule c) (sym (install_projection-kept w x n v refl refl refl refl refl)) g.core.install;
        records = records-stay w x n v refl (le_refl w.clock) refl refl refl g.core.records;
        lock = subst LockRule (sym (lock_projection-kept w x n v refl refl refl refl)) g.core.lock;
        attempts = attempts-stay w x n v refl refl refl refl g.core.attempts;
        running =
            runs-stays c (regime w) (regime x) (run_projection (without_fence w)) (run_projection (without_fence x))
            (regime-kept w x n v refl refl refl)
            (run_projection-kept (without_fence w) (without_fence x) n v refl refl refl refl refl refl refl hidden refl refl)
            g.core.running;
        alone = alone-kept c (fence_store a k) n w refl (λ sole. inr refl) g.core.alone;
        raised = raised-put w x n v refl (λ e. e) (λ e j. g.core.raised e n j) g.core.raised;
      };
      fence = fence-held c w x n v refl refl (le_refl w.clock) (λ f l. refl) may.holds may.holds refl (record {
        stored = λ b e. grind (arith, h.stored b e);
        still = h.still;
        sees = h.sees;
        reads_inside = h.reads_inside;
        stores_inside = λ b e. grind (arith, e, here, h.stores_inside b);
        stores_small = small-more (record { at = a; value = k }) (w.views n).fence.stores may.small h.stores_small;
      }) (record { seen = (g.fence.past n).seen; front = (g.fence.past n).front }) refl refl g.fence;
    };
    advances = advances-same w x refl (le_refl w.clock) (le_refl w.done) refl;
    shown = tt;
  }
    where
      x : World
      x = world_after (fence_store a k) n w

      v : View
      v = view_after (fence_store a k) w (w.views n) k

      h : FenceHolder (fence_projection w) (w.views n).fence
      h = g.fence.holder n may.holds

      here : fenced (fence_of w.gate) a ≡ true
      here = number-is w g may.holds a may.inside

      -- it is without the fence
      hidden : heap_without_fence (fence_of w.gate) (put w.heap a k) w.history ≡ heap_without_fence (fence_of w.gate) w.heap w.history
      hidden = fun_ext (λ b. go b (fenced (fence_of w.gate) b) refl)
        where
          go : (b : ℕ) (t : Bool) → fenced (fence_of w.gate) b ≡ t → (if t then word_now w.history b else put w.heap a k b) ≡ (if t then word_now w.history b else w.heap b)
          go b true e = refl
          go b false e = put-else w.heap a b k (λ same. let f : true ≡ false = sym here ∙ (ap (fenced (fence_of w.gate)) (sym same) ∙ e) in cc)

  -- THE FENCE COMES
  pub fences : (from count : ℕ) (alg : Alg) → StepLaw (Invariant good c) (fence n (fence_number n from count) alg) (FindsPast good c) n (CanFence c n from count alg)
  fences from count alg w g may = record {
    rule = record {
      core = record {
        history = history-kept good c w x n v refl refl refl refl g.core.history;
        steps = steps-kept c (fence n (fence_number n from count) alg) n w refl refl refl g.core.steps;
        gate = fence-gate c.callers (fence_number n from count) (w.views n).gate.giving alg w x n v refl refl refl refl may.named may.phase may.quiet g.core.gate;
        install = install-stood c w x n (fence_number n from count) v refl refl refl refl refl g.core.install;
        records = records-stay w x n v refl (le_refl w.clock) refl refl refl g.core.records;
        lock = subst LockRule (sym (lock_projection-kept w x n v refl refl refl refl)) g.core.lock;
        attempts = attempts-stay w x n v refl refl refl refl g.core.attempts;
        running =
            runs-stays c (regime w) (regime x) (run_projection (without_fence w)) (run_projection (without_fence x)) handed
            (run_projection-kept (without_fence w) (without_fence x) n v refl refl refl refl refl refl refl bare refl refl) g.core.running;
        alone = alone-kept c (fence n (fence_number n from count) alg) n w refl (λ sole. inr refl) g.core.alone;
        raised = raised-put w x n v refl (λ e. same ∙ (sym named ∙ e)) (λ e j. g.core.raised (same ∙ (sym named ∙ e)) n j) g.core.raised;
      };
      fence = fence-comes c w x n from count v refl refl refl refl may.on caller none (fence_of-gate (fence_number n from count) (1 + n) alg (closed-fits c.callers (gate_projection w) g.core.gate n caller))
          may.fits may.inside g.core.history.below refl lies out g.fence;
    };
    advances = record { clock = le_refl w.clock; horizon = same-horizon w x (named ∙ sym same) (le_refl w.clock) (le_refl w.done); seen = λ f l. refl };
    shown = record { legal = g.core.history.legal; below = g.core.history.below; seen = (g.core.history.known n).seen; front = (g.core.history.known n).front };
  }
    where
      x : World
      x = world_after (fence n (fence_number n from count) alg) n w

      v : View
      v = view_after (fence n (fence_number n from count) alg) w (w.views n) (gate_word (fence_number n from count) (1 + n) alg)

      holds : (w.views n).gate.holds ≡ true
      holds = g.core.gate.closing n may.phase

      same : alg_of w.gate ≡ alg
      same = g.core.gate.held n holds ∙ may.named

      named : alg_of (gate_word (fence_number n from count) (1 + n) alg) ≡ alg
      named = alg_of-gate (fence_number n from count) (1 + n) alg

      none : fence_of w.gate ≡ 0
      none = g.core.gate.guarded n holds ∙ may.free

      caller : n < c.callers
      caller = is-caller good c (without_fence w) g.core n (λ idle. let q : Closing ≡ Idle = sym may.phase ∙ idle in cc)

      plain : (w.views n).gate.granted ≡ false
      plain = ungranted-out good c (without_fence w) n g.core (λ e. let q : Closing ≡ In = sym may.phase ∙ e in cc)

      quiet : IsQuiet c n (without_fence w)
      quiet = record { closing = may.phase; checked = may.quiet }

      -- the memory lies in the heap
      unveiled : heap_without_fence (fence_of w.gate) w.heap w.history ≡ w.heap
      unveiled = ap (λ k. heap_without_fence k w.heap w.history) none ∙ heap_without_fence-none-here
        where
          heap_without_fence-none-here : heap_without_fence 0 w.heap w.history ≡ w.heap
          heap_without_fence-none-here = heap_without_fence-none w.heap w.history

      lies : (a : ℕ) → w.heap a ≡ word_now w.history a
      lies a = sym (ap (λ (f : ℕ → ℕ). f a) unveiled) ∙ (quiet-ease good c n (without_fence w) g.core quiet).heap a

      bare : heap_without_fence (fence_of (gate_word (fence_number n from count) (1 + n) alg)) w.heap w.history ≡ heap_without_fence (fence_of w.gate) w.heap w.history
      bare = heap_without_fence-rest (fence_of (gate_word (fence_number n from count) (1 + n) alg)) w.heap w.history (λ a e. lies a) ∙ sym unveiled

      handed : regime x ≡ regime w
      handed =
          regime-handed good c n w x v refl (named ∙ sym same) (λ m h.
          subst (λ (k : ℕ). mode_of (w.views k).gate ≡ Plain) (let o = g.core.gate.mine n holds in let q : n ≡ m = omega arith in q)
          (plain-mode (w.views n).gate plain may.ungiven))
          (λ m h. let k = holder-closed c.callers (gate_projection w) g.core.gate n caller (fence_number n from count) alg in omega arith) (plain-mode v.gate plain may.ungiven)

      out : (m : ℕ) → put (fence_projection w).phases n v.gate.phase m ≡ In → ⊥
      out = put-all (fence_projection w).phases n v.gate.phase (λ m p. p ≡ In → ⊥) (λ e. let q : Closing ≡ In = sym may.phase ∙ e in cc) (λ m d e. nobody-else good c n (without_fence w) g.core may.quiet m d e)
