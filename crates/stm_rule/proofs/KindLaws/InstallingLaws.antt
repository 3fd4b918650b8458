-- Each kind of step of who installs an algorithm keeps the one rule.
use Rattle.std.proofs.Common.{inl, inr, ◌≡◌, ℕ, ◌+◌, ◌<◌, ◌≤◌, List, Bool, true, false, arith, refl, sym, subst, ap, ◌∙◌, le_refl, le_trans}
use Rattle.std.specs.Prelude.{◌%◌}
use Rattle.stm_model.specs.declared.alg.Alg.{Alg}
use Rattle.stm_model.specs.declared.config.Config.{Config}
use Rattle.stm_model.specs.declared.config.TheConstants.{CLOCK_LIMIT}
use Rattle.rule_base.specs.declared.views.Phase.TheVariants.{Idle, In, Closing}
use Rattle.rule_base.specs.declared.views.View.{View}
use Rattle.rule_base.specs.Lemmas.EncodingLemmas.{alg_of-gate}
use Rattle.rule_base.specs.Regime.{mode_of, Regime, regime}
use Rattle.rule_base.specs.Regime.Mode.{Plain}
use Rattle.rule_base.specs.Regime.Regime.{Running}
use Rattle.rule_base.specs.Lemmas.RegimeLemmas.{regime-running, regime-kept, regime-granted, plain-mode, regime-given}
use Rattle.rule_base.specs.RunProjection.{RunView, run_view, run_projection}
use Rattle.rule_base.specs.Encodings.{alg_of, gate_word}
use Rattle.rule_base.specs.GateRule.{gate_projection, may_hold}
use Rattle.rule_base.specs.GateLaws.{gate-marked, install-gate, holder-closed, is-caller-at}
use Rattle.rule_base.specs.InstallLaws.{settle-install, even_clock-install, store_base-install, store_done-install, install-install}
use Rattle.rule_base.specs.InstallSteps.{Settles, settle, CanSettle, even_clock, CanEvenClock, store_base, store_done, CanMark, install, CanInstall}
use Rattle.rule_base.specs.HistoryRule.{HistoryRule, history_projection}
use Rattle.rule_base.specs.Lemmas.HistoryRuleLemmas.{advances-same, history-raised}
use Rattle.rule_base.specs.Lemmas.PutLemmas.{put-all, put-here, parts-kept}
use Rattle.rule_base.specs.Lemmas.RecordLemmas.{records-stay}
use Rattle.rule_base.specs.Rest.{IsQuiet}
use Rattle.rule_base.specs.Lemmas.StepsLemmas.{steps-raised}
use Rattle.rule_base.specs.StepKinds.{view_after, world_after, Nothing, StepLaw}
use Rattle.rule_base.specs.History.{over, touches, word_now}
use Rattle.rule_base.specs.World.{World, put, parts, horizon}
use Rattle.rule_seq.specs.AttemptLemmas.{attempts-after}
use Rattle.rule_base.specs.declared.entries.Entry.{Entry}
use Rattle.rule_ring.specs.SlotFilter.{slot_filter}
use Rattle.rule_ring.specs.Slots.{slot_place, writes_of, has_entry}
use Rattle.rule_promoted.specs.PromotedRule.{direct_part, DirectRule, DirectRuns, suit_part}
use Rattle.rule_promoted.proofs.PromotedLaws.{suits-later}
use Rattle.rule_base.specs.Ranks.{home_of}
use Rattle.rule_seq.specs.LockLemmas.{lock_projection-kept}
use Rattle.rule_seq.specs.LockRule.{LockRule}
use Rattle.stm_rule.specs.Kinds.Frames.{same-horizon, horizon-low, horizon-level, by-gate, by-running, ungranted-out}
use Rattle.stm_rule.specs.Kinds.Running.{Ready, from-rest, Moved, ease-moved, ease-own, runs-moved}
use Rattle.stm_rule.specs.Alone.{alone-kept}
use Rattle.stm_rule.specs.Kinds.Raised.{Raised, raised-put}
use Rattle.stm_rule.specs.Product.{Gives, Runs, Core}
use Rattle.stm_rule.proofs.KindLaws.RestLaws.{quiet-regime, quiet-ease, heap-rests, else-unentered}

module _ (good : (ℕ → ℕ) → Type 0) (c : Config) (n : ℕ) where
  -- who has loaded the clock to install has seen all others idle
  quiescent_is_quiet : (w : World) → Core good c w → (w.views n).gate.phase ≡ Closing → (w.views n).gate.quiescent ≡ true → IsQuiet c n w
  quiescent_is_quiet w g closing quiescent = record { closing = closing; checked = λ k low other. g.install.alone n k quiescent low other }

  pub settles : StepLaw (Core good c) settle Settles n (CanSettle c.callers n)
  settles w g may =
      let o = by-gate good c settle n w (record {
        common = record {
          words = λ w. (refl, refl, refl);
          history = λ w. (refl, refl);
          steps = λ w. (refl, refl);
          held = λ w. (refl, refl);
          busy = λ w. refl;
        };
        marks = λ w. (refl, refl);
        memory = λ w. (refl, refl);
        view = λ w. refl;
      }) g (λ e. e) (λ e. g.attempts.entered n e) (λ k e. refl)
      (gate-marked c.callers w x n v refl refl refl refl refl refl refl refl refl refl g.gate) (settle-install c w n may g.install) (regime-kept w x n v refl refl refl) in
      record { rule = o.0; advances = o.1; shown = g.history.limit }
    where
      x : World
      x = world_after settle n w

      v : View
      v = view_after settle w (w.views n) w.clock

  -- the gate's holder stores a word that what runs sees, BASE or DONE: it is at rest, or it is promoted
  marked : (w x : World) (v : View) → Core good c w → ((w.views n).gate.granted ≡ false → (w.views n).gate.phase ≡ Closing)
      → (w.views n).gate.quiescent ≡ true → x.views ≡ put w.views n v → x.clock ≡ w.clock → x.gate ≡ w.gate
      → Moved (run_projection w) (run_projection x) → mode_of v.gate ≡ mode_of (w.views n).gate → run_view v ≡ run_view (w.views n)
      → ((w.done ≡ w.clock) → x.done ≡ x.clock)
      → Runs c (regime x) (run_projection x)
  marked w x v g closing quiescent is clock gate moved granted own level = subst (λ (r : Regime). Runs c r (run_projection x)) (sym (regime-kept w x n v is gate granted)) (by (w.views n).gate.granted refl)
    where
      views : (run_projection x).views ≡ (run_projection w).views
      views = ap (parts run_view) is ∙ parts-kept run_view w.views n v own

      by : (b : Bool) → (w.views n).gate.granted ≡ b → Runs c (regime w) (run_projection x)
      by true e =
          let at = regime-granted c w n g.gate g.install e in
          let d : DirectRuns c (w.views n).gate.algorithm n (run_projection w) = subst (λ (r : Regime). Runs c r (run_projection w)) at g.running in
          subst (λ (r : Regime). Runs c r (run_projection x)) (sym at) (record {
            direct = subst (DirectRule c.words) (sym path) d.direct;
            suits = suits-later (home_of c) (w.views n).gate.algorithm (suit_part n (run_projection w)) (suit_part n (run_projection x)) (ap (λ k. k % 2) clock) (record {
              tml = ap (λ (f : ℕ → RunView). (f n).tml.writer) views;
              base = moved.base;
              stamps = λ e. (moved.history, moved.records, ap (λ (f : ℕ → RunView). (f n).owned) views, own_entered e);
              clock = moved.clock;
              entered = λ e. inl (sym (ap (λ (f : ℕ → RunView). (f n).attempt.entered) views) ∙ e);
              held = λ r t. (ap (λ (f : ℕ → RunView). touches (f n).owned.held r) (sym views) ∙ t, ap (λ (f : ℕ → RunView). over (f n).owned.held r 0) views, ap (λ (f : ℕ → ℕ). f r) moved.records);
              raised = ap (λ (f : ℕ → RunView). (f n).owned.raised) views;
              committed = ap (λ (f : ℕ → RunView). (f n).owned.committed) views;
            }) d.suits;
            ring = λ q. let k = d.ring q in record {
              base = moved.based;
              done = moved.within;
              fresh = λ m o. subst (λ (t : ℕ). t ≤ x.done) (sym (moved.fronts m)) (le_trans (k.fresh m o) moved.done);
              level = λ f. level (k.level (own_entered f));
              slots =
                  λ f t i b near h low.
                  ap (λ (s : ℕ → ℕ). s (slot_place c.ring t i)) moved.slots
                  ∙ (k.slots (own_entered f) t i (let z = moved.base in omega arith) (let z = moved.clock in omega arith)
                  (subst (λ (l : List Entry). has_entry l t ≡ true) moved.history h) low
                  ∙ ap (λ (l : List Entry). slot_filter.word (writes_of l t) i) (sym moved.history));
            };
          })
        where
          own_entered : (x.views n).attempt.entered ≡ false → (w.views n).attempt.entered ≡ false
          own_entered f = sym (ap (λ (q : ℕ → RunView). (q n).attempt.entered) views) ∙ f

          path : direct_part n (run_projection x) ≡ direct_part n (run_projection w)
          path = λ i. record { clock = clock i; heap = moved.heap i; history = moved.history i; own = record { attempt = (views i n).attempt; lock = (views i n).lock; tml = (views i n).tml; front = (views i n).front } }
      by false e =
          given (w.views n).gate.giving refl (quiescent_is_quiet w g (closing e) quiescent)
        where
          -- who gave a fence back, until BASE and DONE have its time
          given : (b : Bool) → (w.views n).gate.giving ≡ b → IsQuiet c n w → Runs c (regime w) (run_projection x)
          given true f quiet =
              let at = regime-given c w n g.gate g.install f in
              let k : Gives (w.views n).gate.algorithm (run_projection w) = subst (λ (r : Regime). Runs c r (run_projection w)) at g.running in
              subst (λ (r : Regime). Runs c r (run_projection x)) (sym at) (record {
                heap = λ a. ap (λ (q : ℕ → ℕ). q a) moved.heap ∙ (k.heap a ∙ ap (λ (l : List Entry). word_now l a) (sym moved.history));
                even = λ q. ap (λ (t : ℕ). t % 2) clock ∙ k.even q;
                fresh = λ q m o. subst (λ (t : ℕ). t ≤ x.done) (sym (moved.fronts m)) (le_trans (k.fresh q m (ap (λ (z : ℕ → RunView). (z m).attempt.entered) (sym views) ∙ o)) moved.done);
                level = λ q settled. level (k.level q (λ m. ap (λ (z : ℕ → RunView). (z m).attempt.entered) (sym views) ∙ settled m));
              })
          given false f quiet =
              let at = quiet-regime good c n w g quiet f in
              subst (λ (r : Regime). Runs c r (run_projection x)) (sym at)
              (runs-moved c (alg_of w.gate) (run_projection w) (run_projection x)
              (subst (λ (r : Regime). Runs c r (run_projection w)) at g.running) (quiet-ease good c n w g quiet)
              (ease-moved (run_projection w) (run_projection x) moved.clock moved.records moved.heap moved.history views
              (quiet-ease good c n w g quiet)) moved (λ a. ap (λ k. k % 2) clock ∙ (heap-rests good c n w g quiet).1 a)
              (λ a settled. level ((heap-rests good c n w g quiet).2 a (λ m. ap (λ (f : ℕ → RunView). (f m).attempt.entered) (sym views) ∙ settled m))))

  pub stores_base : (t : ℕ) → StepLaw (Core good c) (store_base t) Nothing n (CanMark t)
  stores_base t w g may =
      let o = by-running good c (store_base t) n w (record {
        words = λ w. (refl, refl, refl);
        history = λ w. (refl, refl);
        steps = λ w. (refl, refl);
        held = λ w. (refl, refl);
        busy = λ w. refl;
      }) g (λ e. e) (λ e. g.attempts.entered n e) (raised-put w x n v refl (λ e. e) (λ e k. g.raised e n k) g.raised)
      (same-horizon w x refl (le_refl w.clock) (le_refl w.done))
      (gate-marked c.callers w x n v refl refl refl refl refl refl refl refl refl refl g.gate) (store_base-install c t w n may g.gate g.install)
      (marked w x v g may.closing may.quiescent refl refl refl (record {
        clock = le_refl w.clock;
        base = (let b = g.install.base in let k = clock in omega arith);
        based = (let k = clock in omega arith);
        done = le_refl w.done;
        within = g.install.done;
        lock = refl;
        records = refl;
        slots = refl;
        heap = refl;
        history = refl;
        fronts = λ m. ap (λ (f : ℕ → RunView). (f m).front) (parts-kept run_view w.views n v refl);
      }) refl refl (λ e. e)) in
      record { rule = o.0; advances = o.1; shown = tt }
    where
      clock : w.clock ≡ t
      clock = g.install.time n may.quiescent ∙ sym may.time

      x : World
      x = world_after (store_base t) n w

      v : View
      v = view_after (store_base t) w (w.views n) t

  pub stores_done : (t : ℕ) → StepLaw (Core good c) (store_done t) Nothing n (CanMark t)
  stores_done t w g may =
      let o = by-running good c (store_done t) n w (record {
        words = λ w. (refl, refl, refl);
        history = λ w. (refl, refl);
        steps = λ w. (refl, refl);
        held = λ w. (refl, refl);
        busy = λ w. refl;
      }) g (λ e. e) (λ e. g.attempts.entered n e) (raised-put w x n v refl (λ e. e) (λ e k. g.raised e n k) g.raised)
      (same-horizon w x refl (le_refl w.clock) up)
      (gate-marked c.callers w x n v refl refl refl refl refl refl refl refl refl refl g.gate) (store_done-install c t w n may g.gate g.install)
      (marked w x v g may.closing may.quiescent refl refl refl (record {
        clock = le_refl w.clock;
        base = le_refl w.base;
        based = g.install.base;
        done = up;
        within = (let k = clock in omega arith);
        lock = refl;
        records = refl;
        slots = refl;
        heap = refl;
        history = refl;
        fronts = λ m. ap (λ (f : ℕ → RunView). (f m).front) (parts-kept run_view w.views n v refl);
      }) refl refl (λ e. sym clock)) in
      record { rule = o.0; advances = o.1; shown = tt }
    where
      clock : w.clock ≡ t
      clock = g.install.time n may.quiescent ∙ sym may.time

      up : w.done ≤ t
      up = (let d = g.install.done in let k = clock in omega arith)

      x : World
      x = world_after (store_done t) n w

      v : View
      v = view_after (store_done t) w (w.views n) t

  -- an odd clock is below its limit, which is even
  limit_even : (time t : ℕ) → time ≤ CLOCK_LIMIT → time % 2 ≡ 1 → t ≡ time + 1 → t ≤ CLOCK_LIMIT
  limit_even time t low odd next = omega arith

  next_even : (time t : ℕ) → time % 2 ≡ 1 → t ≡ time + 1 → t % 2 ≡ 0
  next_even time t odd next = omega arith

  pub evens_clock : (t : ℕ) → n < c.callers → StepLaw (Core good c) (even_clock t) Nothing n (CanEvenClock t)
  evens_clock t low w g may = record {
    rule = record {
      history = subst (HistoryRule good c) (sym path) (history-raised good c (history_projection w) t up limit g.history);
      steps = steps-raised c (even_clock t) n w 1 low next refl refl g.steps;
      gate = gate-marked c.callers w x n v refl refl refl refl refl refl refl refl refl refl g.gate;
      install = even_clock-install c t w n may g.gate g.install;
      records = records-stay w x n v refl up refl refl refl g.records;
      lock = subst LockRule (sym (lock_projection-kept w x n v refl refl refl refl)) g.lock;
      attempts = attempts-after w x n v refl (λ e. g.attempts.busy n e) (λ e. ap may_hold may.phase) g.attempts;
      running = subst (λ (r : Regime). Runs c r (run_projection x)) (sym (regime-kept w x n v refl refl refl ∙ quiet-regime good c n w g quiet may.ungiven))
          (runs-moved c (alg_of w.gate) (run_projection w) (run_projection x) (subst (λ (r : Regime). Runs c r (run_projection w)) (quiet-regime good c n w g quiet may.ungiven) g.running) (quiet-ease good c n w g quiet)
          (ease-own w x n v refl up refl refl refl refl refl refl refl refl (quiet-ease good c n w g quiet))
          (record {
            clock = up;
            base = le_refl w.base;
            based = (let b = g.install.base in let u = up in omega arith);
            done = le_refl w.done;
            within = (let b = g.install.done in let u = up in omega arith);
            lock = refl;
            records = refl;
            slots = refl;
            heap = refl;
            history = refl;
            fronts = put-all w.views n v (λ m u. u.history.front ≡ (w.views m).history.front) refl (λ m d. refl);
          })
          (λ a. next_even (w.views n).gate.time t may.odd may.next)
          (λ a settled. absurd (let f : true ≡ false = sym (ap (λ (u : View). u.attempt.entered) (put-here w.views n v)) ∙ settled n in cc)));
      alone = alone-kept c (even_clock t) n w refl (λ sole. inr refl) g.alone;
      raised = raised-put w x n v refl (λ e. e) (λ e k. may.quiescent) g.raised;
    };
    advances = advances-same w x refl up (le_refl w.done) refl;
    shown = tt;
  }
    where
      x : World
      x = world_after (even_clock t) n w

      v : View
      v = view_after (even_clock t) w (w.views n) t

      quiet : IsQuiet c n w
      quiet = quiescent_is_quiet w g may.phase may.quiescent

      clock : w.clock ≡ (w.views n).gate.time
      clock = g.install.time n may.quiescent

      next : t ≡ w.clock + 1
      next = (let e = may.next in let k = clock in omega arith)

      up : w.clock ≤ t
      up = (let e = next in omega arith)

      limit : t ≤ CLOCK_LIMIT
      limit = limit_even (w.views n).gate.time t (let l = g.history.limit in let k = clock in omega arith) may.odd may.next

      path : history_projection x ≡ record (history_projection w) { clock = t }
      path = λ i. record { clock = t; history = w.history; views = parts-kept (λ (u : View). u.history) w.views n v refl i }

  pub installs : (fence : ℕ) (alg : Alg) → StepLaw (Core good c) (install n fence alg) Nothing n (CanInstall fence alg)
  installs fence alg w g may =
      let o = by-running good c (install n fence alg) n w (record {
        words = λ w. (refl, refl, refl);
        history = λ w. (refl, refl);
        steps = λ w. (refl, refl);
        held = λ w. (refl, refl);
        busy = λ w. refl;
      }) g (λ e. e) (λ e. absurd cc) raised
      (subst (λ (k : ℕ). horizon w ≤ k) (sym (horizon-level x ready.done)) (horizon-low w g.install.done))
      (install-gate c.callers fence alg w n may.guarded may.phase quiet.checked g.gate) (install-install c fence alg w n g.install)
      (subst (λ (r : Regime). Runs c r (run_projection x)) (sym runs) (from-rest c alg (run_projection x)
      (ease-own w x n v refl (le_refl w.clock) refl refl refl refl refl refl refl refl (quiet-ease good c n w g quiet)) ready)) in
      record { rule = o.0; advances = o.1; shown = tt }
    where
      x : World
      x = world_after (install n fence alg) n w

      v : View
      v = view_after (install n fence alg) w (w.views n) (gate_word fence (1 + n) alg)

      quiet : IsQuiet c n w
      quiet = quiescent_is_quiet w g may.phase may.quiescent

      plain : (w.views n).gate.granted ≡ false
      plain = ungranted-out good c w n g (λ e. let k : Closing ≡ In = sym may.phase ∙ e in cc)

      raised : Raised x
      raised e = put-all w.views n v (λ m u. u.attempt.entered ≡ true → u.gate.quiescent ≡ true) (λ k. absurd cc) (λ m d k. absurd (else-unentered good c n w g quiet.checked m d k))

      ready : Ready alg (run_projection x)
      ready = record {
        even = λ a. ap (λ k. k % 2) (g.install.time n may.quiescent) ∙ may.even a;
        based = (g.install.rebased n may.rebased).1 ∙ sym (g.install.time n may.quiescent);
        done = (g.install.completed n may.completed).1 ∙ sym (g.install.time n may.quiescent);
        fronts = put-all w.views n v (λ m u. u.history.front ≤ w.clock) (g.history.known n).front (λ m d. (g.history.known m).front);
      }

      own : (m : ℕ) → m ≡ n → mode_of (x.views m).gate ≡ Plain
      own m e = ap (λ (k : ℕ). mode_of (x.views k).gate) e ∙ (ap (λ (u : View). mode_of u.gate) (put-here w.views n v) ∙ plain-mode v.gate plain may.ungiven)

      runs : regime x ≡ Running alg
      runs =
          regime-running x (λ m h.
          own m (let k = holder-closed c.callers (gate_projection w) g.gate n
          (is-caller-at c.callers (gate_projection w) g.gate n (λ idle. let q : Closing ≡ Idle = sym may.phase ∙ idle in cc)) fence alg in
          omega arith)) ∙ ap Running (alg_of-gate fence (1 + n) alg)
