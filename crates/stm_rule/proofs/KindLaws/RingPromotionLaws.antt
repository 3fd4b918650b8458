-- The check of RingSW by which an attempt is promoted keeps the one rule.
use Rattle.std.proofs.Common.{◌≡◌, ℕ, ◌+◌, ◌<◌, List, [], Bool, true, false, arith, refl, sym, subst, ap, ◌∙◌, le_refl}
use Rattle.std.specs.Prelude.{if◌then◌else◌, ◌==◌, ◌^◌}
use Rattle.std.proofs.lemmas.Bool.{eqb-true}
use Rattle.std.proofs.Math.Path.{fun_ext}
use Rattle.stm_model.specs.declared.alg.Alg.{Alg}
use Rattle.stm_model.specs.declared.alg.Alg.TheVariants.{RingSw}
use Rattle.rule_base.specs.declared.entries.Cell.{Cell}
use Rattle.stm_model.specs.declared.config.Config.{Config}
use Rattle.rule_base.specs.declared.views.Phase.TheVariants.{In}
use Rattle.rule_base.specs.declared.views.TracedStep.{TracedStep}
use Rattle.rule_base.specs.declared.views.View.{View}
use Rattle.rule_base.specs.GateLaws.{gate-marked}
use Rattle.rule_base.specs.GateSteps.{granted_at}
use Rattle.rule_base.specs.History.{over, word_now, Inside}
use Rattle.rule_base.specs.Lemmas.HistoryLemmas.{word_at-all}
use Rattle.rule_base.specs.Lemmas.HistoryRuleLemmas.{history-kept}
use Rattle.rule_base.specs.InstallLaws.{grant-install}
use Rattle.rule_base.specs.InstallSteps.{HasChecked}
use Rattle.rule_base.specs.Lemmas.PutLemmas.{put-all, put-here, put-else, parts-kept}
use Rattle.rule_base.specs.Lemmas.RecordLemmas.{records-stay}
use Rattle.rule_base.specs.Regime.{Regime, regime}
use Rattle.rule_base.specs.Regime.Regime.{Running, Promoted}
use Rattle.rule_base.specs.Lemmas.RegimeLemmas.{regime-promoted, regime-inside}
use Rattle.rule_base.specs.RunProjection.{run_view, run_projection}
use Rattle.rule_base.specs.StepKinds.{view_after, StepLaw}
use Rattle.rule_base.specs.StepsRule.{steps_projection, StepsRule}
use Rattle.rule_base.specs.World.{World, put, parts, horizon}
use Rattle.rule_promoted.specs.PromotedRule.{DirectRuns}
use Rattle.rule_promoted.specs.PromotedSteps.{ring_look_grant, CanRingGrant, ring_move_grant, CanRingMoveGrant}
use Rattle.rule_ring.specs.RingReadLaws.{not_late}
use Rattle.rule_ring.specs.RingRule.{late, ring_part, RingReader, RingRule}
use Rattle.rule_ring.specs.RingSteps.{read_in, passed, ring_look, RingLooks, moved, ring_move, RingMoves}
use Rattle.rule_ring.specs.SlotFilter.{slot_filter}
use Rattle.rule_seq.specs.AttemptLemmas.{attempts-stay}
use Rattle.rule_seq.specs.AttemptRule.{is_busy}
use Rattle.rule_seq.specs.LockLemmas.{lock_projection-kept}
use Rattle.rule_seq.specs.LockRule.{LockRule}
use Rattle.stm_rule.specs.Alone.{left_at}
use Rattle.stm_rule.specs.Kinds.Raised.{raised-put}
use Rattle.stm_rule.specs.Product.{Runs, Core}
use Rattle.stm_rule.proofs.KindLaws.RestLaws.{lock-rests, nobody-commits, nobody-enters}
use Rattle.stm_rule.proofs.KindLaws.RingLaws as rings
use Rattle.stm_rule.specs.Kinds.Running.{runs-stays, run_projection-kept}

module _ (good : (ℕ → ℕ) → Type 0) (c : Config) (n : ℕ) where
  -- what the view of a promoter whose check has ended says
  record Ended (clock : ℕ) (u : View) : Type 0 where
    phase : u.gate.phase ≡ In
    algorithm : u.gate.algorithm ≡ RingSw
    plain : u.gate.granted ≡ false
    inside : u.ring_read.inside ≡ true
    quiescent : u.gate.quiescent ≡ true
    unlocked : u.lock.taken ≡ false
    uncommitted : u.ring_commit.committed ≡ false
    unwritten : u.tml.writer ≡ false
    start : u.attempt.start ≡ clock

  -- THE GRANT UNDER RINGSW: who is alone, with its start at the clock, meets the clauses of a promoted attempt
  ring-granted : (y : World) → Core good c y → Ended y.clock (y.views n) → DirectRuns c RingSw n (run_projection y)
  ring-granted y g o = record {
    direct = record {
      stored = λ a. r.free lock a ∙ ap (λ (k : List Cell). over k a (word_now y.history a)) (sym h.unstored);
      start = o.start;
      front = h.front ∙ o.start;
      sees = λ a. subst (λ (k : ℕ). over (y.views n).attempt.reads a k ≡ k) (word_at-all y.history (y.clock + 1) (y.views n).attempt.start a g.history.below (let e = o.start in omega arith)) (h.sees a);
      reads_inside = h.reads_inside;
      stores_inside = subst (Inside c.words) (sym h.unstored) (λ a f. absurd cc);
      stores_small = λ a d l. subst (λ (k : List Cell). over k a d < 2 ^ 64) (sym h.unstored) l;
      unlocked = o.unlocked;
    };
    suits = tt;
    ring = λ e. record {
      base = r.base;
      done = r.done;
      fresh = λ m d. r.fresh m (punctual m);
      level = λ q. r.level punctual (nobody-enters good c n y g checked q);
      slots = λ q. r.slots;
    };
  }
    where
      r : RingRule slot_filter c.ring c.words (ring_part (run_projection y))
      r = subst (λ (q : Regime). Runs c q (run_projection y)) (regime-inside c y n g.gate g.install o.phase o.plain ∙ ap Running o.algorithm) g.running

      h : RingReader slot_filter c.ring c.words y.clock y.done y.base y.history ((ring_part (run_projection y)).views n)
      h = r.reader n o.inside

      checked : HasChecked c.callers n (y.views n)
      checked k low other = g.install.alone n k o.quiescent low other

      lock : y.lock ≡ 0
      lock = lock-rests good c n y g checked o.unlocked

      punctual : (m : ℕ) → late ((ring_part (run_projection y)).views m) ≡ false
      punctual m = go (y.views m).ring_commit.committed refl
        where
          go : (b : Bool) → (y.views m).ring_commit.committed ≡ b → late ((ring_part (run_projection y)).views m) ≡ false
          go true q = absurd (nobody-commits good c n y g checked o.unlocked o.unwritten o.uncommitted m q)
          go false q = not_late ((ring_part (run_projection y)).views m) q

  -- the grant as a change of the view u that a load left
  grants_after : (w : World) (u : View) (t : ℕ) → Core good c (record w { views = put w.views n u }) → Ended w.clock u → t ≡ w.clock → Core good c (record w { views = put w.views n (record u { gate = granted_at t u.gate }) })
  grants_after w u t g o clock = record {
    history = history-kept good c y z n v twice refl refl (ap (λ (q : View). q.history) (sym own)) g.history;
    steps = subst (StepsRule c) (sym steps) g.steps;
    gate =
        gate-marked c.callers y z n v twice refl refl (ap (λ (q : View). q.gate.phase) (sym own))
        (ap (λ (q : View). q.gate.present) (sym own)) (ap (λ (q : View). q.gate.algorithm) (sym own))
        (ap (λ (q : View). q.gate.fence) (sym own)) (ap (λ (q : View). q.gate.aim) (sym own)) (ap (λ (q : View). q.gate.holds) (sym own))
        (ap (λ (q : View). q.gate.checked) (sym own)) g.gate;
    install =
        grant-install c y z n v twice refl refl refl
        ((λ i. granted_at (clock i) u.gate) ∙ ap (λ (q : View). granted_at w.clock q.gate) (sym own)) e.phase
        (g.install.holding n e.quiescent) (λ k low other. g.install.alone n k e.quiescent low other) g.install;
    records = records-stay y z n v twice (le_refl w.clock) refl (ap (λ (q : View). q.owned.held) (sym own)) (ap (λ (q : View). q.gate.phase) (sym own)) g.records;
    lock = subst LockRule (sym (lock_projection-kept y z n v twice refl (ap (λ (q : View). q.lock.taken) (sym own)) (ap (λ (q : View). q.gate.phase) (sym own)))) g.lock;
    attempts = attempts-stay y z n v twice (ap (λ (q : View). is_busy q) (sym own)) (ap (λ (q : View). q.attempt.entered) (sym own)) (ap (λ (q : View). q.gate.phase) (sym own)) g.attempts;
    running = runs-stays c (Promoted RingSw n) (regime z) (run_projection y) (run_projection z)
        (regime-promoted z n (g.gate.mine n (g.install.holding n e.quiescent)) (ap (λ (q : View). q.gate.granted) (put-here w.views n v)) ∙ ap (λ (a : Alg). Promoted a n) (g.gate.named n e.phase ∙ e.algorithm))
        (run_projection-kept y z n v twice refl refl refl refl refl refl refl refl (ap run_view (sym own)))
        (ring-granted y g e);
    alone = λ sole r x l. g.alone sole r x (ap (λ (t : List TracedStep). left_at r t) (sym (same_step_traces 0)) ∙ l);
    raised = raised-put y z n v twice (λ e. e) (λ q k. refl) g.raised;
  }
    where
      y : World
      y = record w { views = put w.views n u }

      v : View
      v = record u { gate = granted_at t u.gate }

      z : World
      z = record w { views = put w.views n v }

      own : y.views n ≡ u
      own = put-here w.views n u

      e : Ended y.clock (y.views n)
      e = subst (Ended w.clock) (sym own) o

      same_step_traces : (m : ℕ) → (z.views m).steps.step_trace ≡ (y.views m).steps.step_trace
      same_step_traces = put-all w.views n v (λ m q. q.steps.step_trace ≡ (y.views m).steps.step_trace) (ap (λ (q : View). q.steps.step_trace) (sym own)) (λ m d. ap (λ (q : View). q.steps.step_trace) (sym (put-else w.views n m u d)))

      twice : z.views ≡ put y.views n v
      twice = fun_ext (put-all w.views n v (λ m q. q ≡ put y.views n v m) (sym (put-here y.views n v)) (λ m d. sym (put-else y.views n m v d ∙ put-else w.views n m u d)))

      steps : steps_projection z ≡ steps_projection y
      steps = λ i. record { clock = w.clock; views = (ap (parts (λ (q : View). q.steps)) twice ∙ parts-kept (λ (q : View). q.steps) y.views n v (ap (λ (q : View). q.steps) (sym own))) i }

  pub look_grants : StepLaw (Core good c) ring_look_grant (RingLooks good c) n CanRingGrant
  look_grants w g may = record {
    rule = go (w.clock == (w.views n).attempt.start) (λ e. eqb-true w.clock (w.views n).attempt.start e);
    advances = record { clock = le_refl w.clock; horizon = le_refl (horizon w); seen = λ f l. refl };
    shown = (rings.ring_looks good c n w g (record { has = may.has })).shown;
  }
    where
      u : View
      u = view_after ring_look w (w.views n) w.clock

      at : Bool → World
      at b = record w { views = put w.views n (record u { gate = if b then granted_at w.clock (w.views n).gate else (w.views n).gate }) }

      start : (b : Bool) → (if b then record (w.views n).attempt { reads = read_in (w.views n) } else (w.views n).attempt).start ≡ (w.views n).attempt.start
      start true = refl
      start false = refl

      inside : (b : Bool) → (if b then passed (w.views n).ring_read else record (w.views n).ring_read { checking = true; clock = w.clock; words = []; sure = false }).inside ≡ (w.views n).ring_read.inside
      inside true = refl
      inside false = refl

      go : (b : Bool) → (b ≡ true → w.clock ≡ (w.views n).attempt.start) → Core good c (at b)
      go true e = grants_after w u w.clock (rings.ring_looks good c n w g (record { has = may.has })).rule (record {
        phase = may.has.runs.phase;
        algorithm = may.has.runs.algorithm;
        plain = may.has.runs.plain;
        inside = inside (w.clock == (w.views n).attempt.start) ∙ may.has.inside;
        quiescent = may.quiescent;
        unlocked = may.unlocked;
        uncommitted = may.uncommitted;
        unwritten = may.unwritten;
        start = start (w.clock == (w.views n).attempt.start) ∙ sym (e refl);
      }) refl
      go false e = (rings.ring_looks good c n w g (record { has = may.has })).rule

  pub move_grants : StepLaw (Core good c) ring_move_grant (RingMoves good c) n (CanRingMoveGrant slot_filter)
  move_grants w g may = record {
    rule = go (moved (w.views n) w.done == (w.views n).gate.time) (λ e. eqb-true (moved (w.views n) w.done) (w.views n).gate.time e);
    advances = record { clock = le_refl w.clock; horizon = le_refl (horizon w); seen = λ f l. refl };
    shown = (rings.ring_moves good c n w g may.move).shown;
  }
    where
      u : View
      u = view_after ring_move w (w.views n) w.done

      at : Bool → World
      at b = record w { views = put w.views n (record u { gate = if b then granted_at (w.views n).gate.time (w.views n).gate else (w.views n).gate }) }

      -- the clock stands at the number settled
      clock : w.clock ≡ (w.views n).gate.time
      clock = g.install.time n may.grant.quiescent

      go : (b : Bool) → (b ≡ true → moved (w.views n) w.done ≡ (w.views n).gate.time) → Core good c (at b)
      go true e = grants_after w u (w.views n).gate.time (rings.ring_moves good c n w g may.move).rule (record {
        phase = may.grant.has.runs.phase;
        algorithm = may.grant.has.runs.algorithm;
        plain = may.grant.has.runs.plain;
        inside = may.grant.has.inside;
        quiescent = may.grant.quiescent;
        unlocked = may.grant.unlocked;
        uncommitted = may.grant.uncommitted;
        unwritten = may.grant.unwritten;
        start = e refl ∙ sym clock;
      }) (sym clock)
      go false e = (rings.ring_moves good c n w g may.move).rule
