-- Each kind of step of a promotion, and of the attempt promoted, keeps the one rule.
use Rattle.std.proofs.Common.{inr, ◌≡◌, ◌≢◌, ℕ, ◌+◌, ◌<◌, ◌≤◌, List, Bool, true, false, arith, refl, sym, subst, ap, ◌∙◌, le_refl, inl}
use Rattle.std.specs.Prelude.{if◌then◌else◌, ◌==◌, ltb}
use Rattle.std.proofs.lemmas.Bool.{eqb-true}
use Rattle.stm_model.specs.declared.alg.Alg.{Alg}
use Rattle.stm_model.specs.declared.alg.Alg.TheVariants.{Cgl, Tml, OrecLazy, OrecEager, RingSw, Serial}
use Rattle.rule_base.specs.declared.entries.Cell.{Cell}
use Rattle.stm_model.specs.declared.config.Config.{Config}
use Rattle.rule_base.specs.declared.views.Phase.TheVariants.{Idle, In, Closing}
use Rattle.rule_base.specs.declared.views.View.{View}
use Rattle.rule_base.specs.Lemmas.EncodingLemmas.{alg_of-gate, holder_of-open}
use Rattle.rule_base.specs.Encodings.{alg_of, holder_of, fence_of, gate_word, version_of}
use Rattle.rule_base.specs.GateLaws.{gate_projection-kept, gate-marked, seize-gate, return_gate-gate, holder-closed, is-caller-at}
use Rattle.rule_base.specs.GateRule.{gate_projection, GateRule, may_hold}
use Rattle.stm_model.specs.Algorithms.{has_records}
use Rattle.rule_base.specs.GateSteps.{look_gate, CanLookGate, seized, seize, CanSeize, granted_at, returned, return_gate, CanReturn}
use Rattle.rule_base.specs.History.{over, touches, word_at, word_now}
use Rattle.rule_base.specs.HistoryRule.{HistoryRule, history_projection}
use Rattle.rule_base.specs.Ranks.{rec_of, home_of}
use Rattle.rule_base.specs.RecordRule.{record_projection, RecordRule}
use Rattle.rule_base.specs.declared.views.GateView.{GateView}
use Rattle.stm_model.specs.declared.config.TheConstants.{CLOCK_LIMIT}
use Rattle.rule_base.specs.Lemmas.HistoryRuleLemmas.{history-kept, history-seen, advances-same}
use Rattle.rule_base.specs.InstallLaws.{install_projection-kept, install-view, grant-install}
use Rattle.rule_base.specs.InstallSteps.{HasChecked}
use Rattle.rule_base.specs.InstallRule.{install_projection, InstallRule}
use Rattle.rule_base.specs.Lemmas.PutLemmas.{put-all, put-here}
use Rattle.rule_base.specs.Lemmas.RecordLemmas.{records-stay}
use Rattle.rule_base.specs.Regime.{Regime, mode_of, regime}
use Rattle.rule_base.specs.Regime.Mode.{Plain}
use Rattle.rule_base.specs.Regime.Regime.{Running, Promoted}
use Rattle.rule_base.specs.Lemmas.RegimeLemmas.{plain-mode, regime-running, regime-promoted, regime-kept, regime-inside, regime-granted, granted-regime}
use Rattle.rule_base.specs.RunProjection.{run_view, run_projection}
use Rattle.rule_base.specs.StepKinds.{view_after, world_after, Nothing, StepLaw}
use Rattle.rule_base.specs.Lemmas.StepsLemmas.{steps-kept}
use Rattle.rule_base.specs.World.{World, put, parts}
use Rattle.rule_seq.specs.AttemptLemmas.{busy-owned, busy-tml, busy-writer, busy-ring, busy-turn, attempts-in}
use Rattle.rule_seq.specs.CglSteps.{Loads, Commits}
use Rattle.rule_seq.specs.LockLemmas.{lock_projection-kept}
use Rattle.rule_seq.specs.LockRule.{LockRule, lock_projection}
use Rattle.rule_seq.specs.RunWorld.{RunWorld}
use Rattle.rule_promoted.proofs.PromotedLaws.{tml-granted}
use Rattle.rule_promoted.proofs.PromotedLaws as direct
use Rattle.rule_promoted.specs.PromotedRule.{DirectRuns}
use Rattle.rule_promoted.specs.PromotedSteps.{tml_grants, tml_grant, CanTmlGrant, direct_load, CanDirectLoad, direct_store, CanDirectStore, direct_commit, CanDirectCommit, direct_release, CanDirectRelease}
use Rattle.rule_promoted.specs.RaisingSteps.{direct_raise_clock, CanDirectRaiseClock, direct_up, CanDirectUp}
use Rattle.rule_promoted.proofs.RaisingLaws as raising
use Rattle.stm_rule.proofs.KindLaws.ClosingLaws.{regime-handed}
use Rattle.stm_rule.specs.Findings.{NamesOther, FindsHolder, FindsTaken, OrecFails}
use Rattle.stm_rule.specs.Alone.{alone-kept}
use Rattle.stm_rule.specs.Kinds.Raised.{raised-put}
use Rattle.stm_rule.specs.Kinds.Frames.{by-gate, by-running, by-direct, by-raise, risen-step_trace, ungranted, ungiven-out, same-horizon, owner-holds, none-apart, orec-world}
use Rattle.stm_rule.specs.Kinds.Laws.{closer}
use Rattle.stm_rule.proofs.KindLaws.RecordLaws.{fails}
use Rattle.stm_rule.specs.Product.{Runs, Core}
use Rattle.stm_rule.proofs.KindLaws.RestLaws.{nobody-else, nobody-by}
use Rattle.rule_seq.specs.AttemptRule.{attempt_projection, AttemptRule}
use Rattle.rule_promoted.proofs.PromotedLaws as direct
use Rattle.rule_orec.specs.OrecRule.{orec_view, orec_projection, OrecRule, OrecWorld}
use Rattle.rule_orec.specs.OrecRely.{rule_of, with_view}
use Rattle.rule_orec.specs.OrecReading.{no_sample, no_check, forget-kept, validated, validated-all}
use Rattle.rule_orec.specs.OrecSteps.{RunsOrec, HasOpen, passes, direct_attempt, direct_owned, HasStores, orec_grant, CanOrecGrant, orec_grant_all, CanOrecGrantAll}
use Rattle.rule_orec.specs.OrecLaws.{rec-free, passed-at, orec_projection-put, full-world}
use Rattle.rule_promoted.proofs.OrecGranted.{orec-granted}
use Rattle.stm_rule.specs.Kinds.Running.{back, runs-stays, runs-leave, run_projection-kept, run_projection-put}

-- only a clock that is the start grants
grants-at : (clock : ℕ) (v : View) → tml_grants clock v ≡ true → clock ≡ v.attempt.start
grants-at clock v e = grind (arith, e)

module _ (good : (ℕ → ℕ) → Type 0) (c : Config) (n : ℕ) where
  pub looks_gate : StepLaw (Core good c) look_gate (FindsHolder c n) n CanLookGate
  looks_gate w g may =
      let o = by-gate good c look_gate n w (record {
        common = record {
          words = λ w. (refl, refl, refl);
          history = λ w. (refl, refl);
          steps = λ w. (refl, refl);
          held = λ w. (refl, refl);
          busy = λ w. refl;
        };
        marks = λ w. (refl, refl);
        memory = λ w. (refl, refl);
        view = λ w. refl;
      }) g (λ e. e) (λ e. g.attempts.entered n e) (λ k e. k)
      (subst (GateRule c.callers) (sym (gate_projection-kept w x n v refl refl refl refl)) g.gate)
      (subst (InstallRule c) (sym (install_projection-kept w x n v refl refl refl refl refl)) g.install) (regime-kept w x n v refl refl refl) in
      record { rule = o.0; advances = o.1; shown = λ free other. closer good c n w g w.gate refl other free }
    where
      x : World
      x = world_after look_gate n w

      v : View
      v = view_after look_gate w (w.views n) w.gate

  pub seizes : (fence : ℕ) (alg : Alg) → StepLaw (Core good c) (seize n fence alg) (FindsTaken c n (gate_word fence 0 alg)) n (CanSeize fence alg)
  seizes fence alg w g may =
      let o = by-gate good c (seize n fence alg) n w (record {
        common = record {
          words = λ w. (refl, refl, refl);
          history = λ w. (refl, refl);
          steps = λ w. (refl, refl);
          held = λ w. (refl, refl);
          busy = λ w. refl;
        };
        marks = λ w. (refl, refl);
        memory = λ w. (refl, refl);
        view = λ w. refl;
      }) g (inside (w.gate == gate_word fence 0 alg))
      (λ e. held (w.gate == gate_word fence 0 alg) (g.attempts.entered n e))
      (λ k e. absurd (let f : true ≡ false = sym (g.install.holding n k) ∙ may.free in cc)) (seize-gate c.callers fence alg w n may g.gate)
      (settled (w.gate == gate_word fence 0 alg)) (runs (w.gate == gate_word fence 0 alg) (λ e. eqb-true w.gate (gate_word fence 0 alg) e))
      in
      record { rule = o.0; advances = o.1; shown = other }
    where
      next : Bool → View
      next b = record (view_after (seize n fence alg) w (w.views n) w.gate) { gate = if b then seized (w.views n).gate else (w.views n).gate }

      at : Bool → World
      at b = record w { gate = if b then gate_word fence (1 + n) alg else w.gate; views = put w.views n (next b) }

      plain : (w.views n).gate.granted ≡ false
      plain = ungranted good c w n g may.free

      closed : w.gate ≢ gate_word fence 0 alg → holder_of w.gate ≢ 0
      closed differs none =
          differs (g.gate.formed
          ∙ (ap (λ h. gate_word (fence_of w.gate) h (alg_of w.gate)) none
          ∙ (ap (λ f. gate_word f 0 (alg_of w.gate)) (g.gate.spared n may.phase ∙ may.spared)
          ∙ ap (gate_word fence 0) (g.gate.named n may.phase ∙ may.named))))

      other : w.gate ≢ gate_word fence 0 alg → NamesOther c n (holder_of w.gate)
      other differs = closer good c n w g w.gate refl (closed differs) may.free

      inside : (b : Bool) → (w.views n).gate.phase ≡ In → (if b then seized (w.views n).gate else (w.views n).gate).phase ≡ In
      inside true e = e
      inside false e = e

      held : (b : Bool) → may_hold (w.views n).gate.phase ≡ true → may_hold (if b then seized (w.views n).gate else (w.views n).gate).phase ≡ true
      held true e = e
      held false e = e

      settled : (b : Bool) → InstallRule c (install_projection (at b))
      settled true = install-view c w (at true) n (seized (w.views n).gate) (next true) refl refl refl refl refl refl refl refl plain refl g.install
      settled false = subst (InstallRule c) (sym (install_projection-kept w (at false) n (next false) refl refl refl refl refl)) g.install

      runs : (b : Bool) → (b ≡ true → w.gate ≡ gate_word fence 0 alg) → regime (at b) ≡ regime w
      runs true e =
          let none : holder_of w.gate ≡ 0 = ap holder_of (e refl) ∙ holder_of-open fence alg in
          let same : alg_of w.gate ≡ alg = ap alg_of (e refl) ∙ alg_of-gate fence 0 alg in
          regime-handed good c n w (at true) (next true) refl (alg_of-gate fence (1 + n) alg ∙ sym same) (λ m h. absurd (omega arith))
          (λ m h.
          let k = holder-closed c.callers (gate_projection w) g.gate n
          (is-caller-at c.callers (gate_projection w) g.gate n (λ idle. let q : In ≡ Idle = sym may.phase ∙ idle in cc)) fence alg in
          omega arith) (plain-mode (next true).gate plain refl)
      runs false e = regime-kept w (at false) n (next false) refl refl refl

  -- THE GRANT: what ran is the promoted attempt's
  pub grants : StepLaw (Core good c) tml_grant Nothing n (CanTmlGrant c.callers n)
  grants w g may = let p = go (tml_grants w.clock (w.views n)) (λ e. grants-at w.clock (w.views n) e) in
      let o = by-running good c tml_grant n w (record {
        words = λ w. (refl, refl, refl);
        history = λ w. (refl, refl);
        steps = λ w. (refl, refl);
        held = λ w. (refl, refl);
        busy = λ w. refl;
      }) g (inside (tml_grants w.clock (w.views n))) (λ e. held (tml_grants w.clock (w.views n)) (g.attempts.entered n e))
      (λ e. absurd (let f : Tml ≡ RingSw = sym named ∙ e in cc))
      (same-horizon w (world_after tml_grant n w) refl (le_refl w.clock) (le_refl w.done)) p.0 p.1 p.2 in
      record { rule = o.0; advances = o.1; shown = tt }
    where
      next : Bool → View
      next b = record (view_after tml_grant w (w.views n) w.clock) { gate = if b then granted_at w.clock (w.views n).gate else (w.views n).gate }

      at : Bool → World
      at b = record w { views = put w.views n (next b) }

      inside : (b : Bool) → (w.views n).gate.phase ≡ In → (if b then granted_at w.clock (w.views n).gate else (w.views n).gate).phase ≡ In
      inside true e = e
      inside false e = e

      held : (b : Bool) → may_hold (w.views n).gate.phase ≡ true → may_hold (if b then granted_at w.clock (w.views n).gate else (w.views n).gate).phase ≡ true
      held true e = e
      held false e = e

      named : alg_of w.gate ≡ Tml
      named = g.gate.named n may.has.runs.phase ∙ may.has.runs.algorithm

      was : regime w ≡ Running Tml
      was = regime-inside c w n g.gate g.install may.has.runs.phase may.has.runs.plain ∙ ap Running may.has.runs.algorithm

      go : (b : Bool) → (b ≡ true → w.clock ≡ (w.views n).attempt.start) → GateRule c.callers (gate_projection (at b)) × InstallRule c (install_projection (at b)) × Runs c (regime (at b)) (run_projection (at b))
      go true e = (
        gate-marked c.callers w (at true) n (next true) refl refl refl refl refl refl refl refl refl refl g.gate,
        grant-install c w (at true) n (next true) refl refl refl refl refl may.has.runs.phase may.holds may.quiet g.install,
        runs-stays c (Promoted Tml n) (regime (at true)) (run_projection w) (run_projection (at true))
            (regime-promoted (at true) n (g.gate.mine n may.holds) (ap (λ (u : View). u.gate.granted) (put-here w.views n (next true))) ∙ ap (λ (a : Alg). Promoted a n) named)
            (run_projection-kept w (at true) n (next true) refl refl refl refl refl refl refl refl refl refl)
            (tml-granted c n w (subst (λ (r : Regime). Runs c r (run_projection w)) was g.running) g.history.below may.has.inside may.reads may.unlocked
            (λ m d t. nobody-else good c n w g may.quiet m d (g.attempts.busy m (busy-writer (w.views m) t))) (e refl)),
      )
      go false e = (
        subst (GateRule c.callers) (sym (gate_projection-kept w (at false) n (next false) refl refl refl refl)) g.gate,
        subst (InstallRule c) (sym (install_projection-kept w (at false) n (next false) refl refl refl refl refl)) g.install,
        runs-stays c (regime w) (regime (at false)) (run_projection w) (run_projection (at false))
            (regime-kept w (at false) n (next false) refl refl refl)
            (run_projection-kept w (at false) n (next false) refl refl refl refl refl refl refl refl refl refl) g.running,
      )

  pub direct_loads : (a : ℕ) → StepLaw (Core good c) (direct_load a) (Loads good c a) n (CanDirectLoad c.words a)
  direct_loads a =
      by-direct good c (direct_load a) (Loads good c a) n (CanDirectLoad c.words a)
      (record { gate = λ w. refl; status = λ w. refl; view = λ w. refl; marks = λ w. (refl, refl); step_trace = λ w. refl }) (λ w. refl)
      (λ v m. m.granted) (λ v m. direct.direct_loads good c v.gate.algorithm n a)

  pub direct_stores : (a x : ℕ) → StepLaw (Core good c) (direct_store a x) Nothing n (CanDirectStore c.words a x)
  direct_stores a x =
      by-direct good c (direct_store a x) Nothing n (CanDirectStore c.words a x)
      (record { gate = λ w. refl; status = λ w. refl; view = λ w. refl; marks = λ w. (refl, refl); step_trace = λ w. refl }) (λ w. refl)
      (λ v m. m.granted) (λ v m. direct.direct_stores good c v.gate.algorithm n a x)

  pub direct_commits : (alg : Alg) (t : ℕ) → n < c.callers → StepLaw (Core good c) (direct_commit n alg t) (Commits good c n t) n (CanDirectCommit good alg t)
  direct_commits alg t low =
      by-raise good c (direct_commit n alg t) (Commits good c n t) n (CanDirectCommit good alg t) alg
      (record
      { gate = λ w. refl; status = λ w. refl; records = λ w. refl; view = λ w. refl; marks = λ w. (refl, refl); step_trace = λ w. refl })
      (λ v m. (m.granted, m.named)) (direct.direct_commits good c alg n t low)

  pub direct_raises_clock : (least : ℕ) → n < c.callers → StepLaw (Core good c) (direct_raise_clock least) Nothing n (CanDirectRaiseClock least)
  direct_raises_clock least low =
      by-raise good c (direct_raise_clock least) Nothing n (CanDirectRaiseClock least) OrecEager
      (record {
        gate = λ w. refl;
        status = λ w. refl;
        records = λ w. refl;
        view = λ w. refl;
        marks = λ w. (refl, refl);
        step_trace = λ w. risen-step_trace (ltb w.clock least) (w.views n) ((w.views n).steps.rises + 1);
      }) (λ v m. (m.granted, m.named))
      (raising.direct_raises_clock good c n least low)

  pub direct_ups : (r version : ℕ) → StepLaw (Core good c) (direct_up r version) Nothing n (CanDirectUp r version)
  direct_ups r version =
      by-direct good c (direct_up r version) Nothing n (CanDirectUp r version)
      (record { gate = λ w. refl; status = λ w. refl; view = λ w. refl; marks = λ w. (refl, refl); step_trace = λ w. refl }) (λ w. refl)
      (λ v m. m.granted)
      (λ v m. subst (λ (a : Alg). StepLaw (RunWorld (Runs c (Promoted a n)) good c) (direct_up r version) Nothing n (CanDirectUp r version)) (sym m.named) (raising.direct_ups good c n r version))

  -- nobody else is inside the records
  none_inside : (w : World) → Core good c w → HasChecked c.callers n (w.views n) → (m : ℕ) → m ≢ n → (w.views m).owned.inside ≡ true → ⊥
  none_inside w g quiet m d t = nobody-else good c n w g quiet m d (g.attempts.busy m (busy-owned (w.views m) t))

  -- what a validated attempt is granted: x is the world after it, at the time t, which is the clock
  orec_promoted : (w x : World) (v : View) (t : ℕ) → Core good c w → HasOpen (w.views n) → HasChecked c.callers n (w.views n) → (w.views n).gate.holds ≡ true → HasStores c.words (w.views n) → t ≡ w.clock
      → x ≡ record w { views = put w.views n v } → v.attempt ≡ direct_attempt t (w.views n) → v.owned ≡ direct_owned (w.views n).owned → v.history.front ≡ t → v.lock.taken ≡ false → v.gate ≡ granted_at t (w.views n).gate
      → ((a : ℕ) → over (w.views n).attempt.reads a (word_at w.history t a) ≡ word_at w.history t a)
      → Runs c (regime x) (run_projection x)
  orec_promoted w x v t g may quiet holds stores now is attempt owned front unlocked gate sees =
      subst (λ (r : Regime). Runs c r (run_projection x)) (sym (regime-promoted x n
      (ap (λ (y : World). holder_of y.gate) is ∙ g.gate.mine n holds) (ap (λ (f : ℕ → View). (f n).gate.granted)
      (ap (λ (y : World). y.views) is) ∙ (ap (λ (u : View). u.gate.granted) (put-here w.views n v) ∙ ap (λ (q : GateView). q.granted) gate))
      ∙ ap (λ (a : Alg). Promoted a n) (ap (λ (y : World). alg_of y.gate) is ∙ g.gate.named n may.has.runs.phase)))
      (orec-granted c (w.views n).gate.algorithm n t w x v may.has.runs.algorithm (ap (λ (y : World). y.views) is)
      (ap (λ (y : World). y.clock) is) (ap (λ (y : World). y.heap) is) (ap (λ (y : World). y.history) is) (ap (λ (y : World). y.base) is)
      (ap (λ (y : World). y.records) is)
      attempt owned front unlocked now may.has.inside may.open_yet stores (none_inside w g quiet) sees (full-world good c w (orec-world good c w n g may.has.runs)))

  -- a check that failed: the sample and the validation are forgotten
  forgotten : (w x : World) (v : View) → Core good c w → RunsOrec (w.views n) → x ≡ record w { views = put w.views n v }
      → orec_view v ≡ record (orec_view (w.views n)) { sample = no_sample; check = no_check } → mode_of v.gate ≡ mode_of (w.views n).gate
      → Runs c (regime x) (run_projection x)
  forgotten w x v g may is own plain = by (w.views n).gate.algorithm may.algorithm (regime-inside c w n g.gate g.install may.phase may.plain)
    where
      f : OrecRule (home_of c) c.words (orec_projection x)
      f =
          subst (OrecRule (home_of c) c.words) (sym (orec_projection-put w x n v (ap (λ (y : World). y.views) is)
          ∙ (λ i.
          record {
            clock = (is i).clock;
            base = (is i).base;
            records = parts rec_of (is i).records;
            heap = (is i).heap;
            history = (is i).history;
            views = put (orec_projection w).views n (own i);
          })))
          (rule_of (home_of c) c.words
          (with_view (home_of c) c.words (orec_projection w) n (record (orec_view (w.views n)) { sample = no_sample; check = no_check }))
          (forget-kept (home_of c) c.words (orec_projection w) n (full-world good c w (orec-world good c w n g may))).0)

      stays : regime x ≡ regime w
      stays = regime-kept w x n v (ap (λ (y : World). y.views) is) (ap (λ (y : World). y.gate) is) plain

      by : (a : Alg) → has_records a ≡ true → regime w ≡ Running a → Runs c (regime x) (run_projection x)
      by Cgl e at = absurd cc
      by Tml e at = absurd cc
      by OrecLazy e at = subst (λ (r : Regime). Runs c r (run_projection x)) (sym (stays ∙ at)) f
      by OrecEager e at = subst (λ (r : Regime). Runs c r (run_projection x)) (sym (stays ∙ at)) f
      by RingSw e at = absurd cc
      by Serial e at = absurd cc

  -- the gate doesn't name RingSW
  unringed : (w : World) → Core good c w → RunsOrec (w.views n) → alg_of w.gate ≡ RingSw → ⊥
  unringed w g runs e = let f : true ≡ false = sym runs.algorithm ∙ ap has_records (sym (g.gate.named n runs.phase) ∙ e) in cc

  pub orec_grants : (q b : ℕ) → StepLaw (Core good c) (orec_grant q b) (OrecFails n) n (CanOrecGrant (home_of c) c.words q b)
  orec_grants q b w g may = let p = go (passes (w.records q) (w.views n)) refl in record {
    rule = record {
      history = p.0;
      steps = steps-kept c (orec_grant q b) n w refl refl refl g.steps;
      gate = p.1;
      install = p.2;
      records = p.3;
      lock = p.4;
      attempts = p.5;
      running = p.6;
      alone = alone-kept c (orec_grant q b) n w refl (λ sole. inr refl) g.alone;
      raised = λ e. absurd (unringed w g may.last.opens.has.runs e);
    };
    advances = advances-same w (world_after (orec_grant q b) n w) refl (le_refl w.clock) (le_refl w.done) refl;
    shown = fails good c n q w g;
  }
    where
      next : Bool → View
      next t = record (view_after (orec_grant q b) w (w.views n) (w.records q)) {
        history = if t then record (w.views n).history { seen = w.history; front = (w.views n).gate.time } else (w.views n).history;
        attempt = if t then direct_attempt (w.views n).gate.time (w.views n) else (w.views n).attempt;
        owned = if t then direct_owned (w.views n).owned else (w.views n).owned;
        gate = if t then granted_at (w.views n).gate.time (w.views n).gate else (w.views n).gate;
      }

      at : Bool → World
      at t = record w { views = put w.views n (next t) }

      now : w.clock ≡ (w.views n).gate.time
      now = g.install.time n may.quiescent

      holds : (w.views n).gate.holds ≡ true
      holds = g.install.holding n may.quiescent

      quiet : HasChecked c.callers n (w.views n)
      quiet k low other = g.install.alone n k may.quiescent low other

      o : OrecWorld good c w
      o = orec-world good c w n g may.last.opens.has.runs

      go : (t : Bool) → passes (w.records q) (w.views n) ≡ t
          → HistoryRule good c (history_projection (at t)) × GateRule c.callers (gate_projection (at t))
          × InstallRule c (install_projection (at t)) × RecordRule (record_projection (at t)) × LockRule (lock_projection (at t))
          × AttemptRule (attempt_projection (at t)) × Runs c (regime (at t)) (run_projection (at t))
      go true e = let p = passed-at (w.records q) (w.views n) e in (
        history-seen good c w (at true) n (next true) refl refl refl (ap (λ k. record (w.views n).history { seen = w.history; front = k }) (sym now)) g.history,
        gate-marked c.callers w (at true) n (next true) refl refl refl refl refl refl refl refl refl refl g.gate,
        grant-install c w (at true) n (next true) refl refl refl refl (ap (λ k. granted_at k (w.views n).gate) (sym now)) may.last.opens.has.runs.phase holds quiet g.install,
        records-stay w (at true) n (next true) refl (le_refl w.clock) refl refl refl g.records,
        subst LockRule (sym (lock_projection-kept w (at true) n (next true) refl refl refl refl)) g.lock,
        attempts-in w (at true) n (next true) refl may.last.opens.has.runs.phase g.attempts,
        orec_promoted w (at true) (next true) (w.views n).gate.time g may.last.opens quiet holds may.stores (sym now) refl refl refl refl may.stores.unlocked refl
            (subst (λ (k : ℕ). (a : ℕ) → over (w.views n).attempt.reads a (word_at w.history k a) ≡ word_at w.history k a) may.upto
            (validated (home_of c) c.words (orec_projection w) n b (version_of (w.records q)) may.last.opens.has.inside
            (ap (λ (k : ℕ). rec_of (w.records k)) may.last.its ∙ rec-free (w.records q) p.0) p.1 may.last.checking may.last.rest
            (full-world good c w o))),
      )
      go false e = (
        history-kept good c w (at false) n (next false) refl refl refl refl g.history,
        subst (GateRule c.callers) (sym (gate_projection-kept w (at false) n (next false) refl refl refl refl)) g.gate,
        subst (InstallRule c) (sym (install_projection-kept w (at false) n (next false) refl refl refl refl refl)) g.install,
        records-stay w (at false) n (next false) refl (le_refl w.clock) refl refl refl g.records,
        subst LockRule (sym (lock_projection-kept w (at false) n (next false) refl refl refl refl)) g.lock,
        attempts-in w (at false) n (next false) refl may.last.opens.has.runs.phase g.attempts,
        forgotten w (at false) (next false) g may.last.opens.has.runs refl refl refl,
      )

  pub orec_grants_all : StepLaw (Core good c) orec_grant_all Nothing n (CanOrecGrantAll (home_of c) c.words c.callers n)
  orec_grants_all w g may = let p = go (ltb w.clock CLOCK_LIMIT) in record {
    rule = record {
      history = p.0;
      steps = steps-kept c orec_grant_all n w refl refl refl g.steps;
      gate = p.1;
      install = p.2;
      records = p.3;
      lock = p.4;
      attempts = p.5;
      running = p.6;
      alone = alone-kept c orec_grant_all n w refl (λ sole. inr refl) g.alone;
      raised = λ e. absurd (unringed w g may.all.opens.has.runs e);
    };
    advances = advances-same w (world_after orec_grant_all n w) refl (le_refl w.clock) (le_refl w.done) refl;
    shown = tt;
  }
    where
      next : Bool → View
      next t = record (view_after orec_grant_all w (w.views n) w.clock) {
        history = if t then record (w.views n).history { seen = w.history; front = w.clock } else (w.views n).history;
        attempt = if t then direct_attempt w.clock (w.views n) else (w.views n).attempt;
        owned = if t then direct_owned (w.views n).owned else (w.views n).owned;
        gate = if t then granted_at w.clock (w.views n).gate else (w.views n).gate;
      }

      at : Bool → World
      at t = record w { views = put w.views n (next t) }

      o : OrecWorld good c w
      o = orec-world good c w n g may.all.opens.has.runs

      go : (t : Bool)
          → HistoryRule good c (history_projection (at t)) × GateRule c.callers (gate_projection (at t))
          × InstallRule c (install_projection (at t)) × RecordRule (record_projection (at t)) × LockRule (lock_projection (at t))
          × AttemptRule (attempt_projection (at t)) × Runs c (regime (at t)) (run_projection (at t))
      go true = (
        history-seen good c w (at true) n (next true) refl refl refl refl g.history,
        gate-marked c.callers w (at true) n (next true) refl refl refl refl refl refl refl refl refl refl g.gate,
        grant-install c w (at true) n (next true) refl refl refl refl refl may.all.opens.has.runs.phase may.holds may.quiet g.install,
        records-stay w (at true) n (next true) refl (le_refl w.clock) refl refl refl g.records,
        subst LockRule (sym (lock_projection-kept w (at true) n (next true) refl refl refl refl)) g.lock,
        attempts-in w (at true) n (next true) refl may.all.opens.has.runs.phase g.attempts,
        orec_promoted w (at true) (next true) w.clock g may.all.opens may.quiet may.holds may.stores refl refl refl refl refl may.stores.unlocked refl
            (validated-all (home_of c) c.words (orec_projection w) n may.all.opens.has.inside may.all.opens.open_yet (λ a t. may.all.mine a t refl) (λ a t. may.all.old a t refl) (full-world good c w o)),
      )
      go false = (
        history-kept good c w (at false) n (next false) refl refl refl refl g.history,
        subst (GateRule c.callers) (sym (gate_projection-kept w (at false) n (next false) refl refl refl refl)) g.gate,
        subst (InstallRule c) (sym (install_projection-kept w (at false) n (next false) refl refl refl refl refl)) g.install,
        records-stay w (at false) n (next false) refl (le_refl w.clock) refl refl refl g.records,
        subst LockRule (sym (lock_projection-kept w (at false) n (next false) refl refl refl refl)) g.lock,
        attempts-in w (at false) n (next false) refl may.all.opens.has.runs.phase g.attempts,
        forgotten w (at false) (next false) g may.all.opens.has.runs refl refl refl,
      )

  pub direct_releases : (q t : ℕ) → StepLaw (Core good c) (direct_release q t) Nothing n (CanDirectRelease q t)
  direct_releases q t =
      by-direct good c (direct_release q t) Nothing n (CanDirectRelease q t)
      (record { gate = λ w. refl; status = λ w. refl; view = λ w. refl; marks = λ w. (refl, refl); step_trace = λ w. refl }) (λ w. refl)
      (λ v m. m.granted) (λ v m. direct.direct_releases good c v.gate.algorithm n q t)

  -- THE RETURN: after a promoted attempt its algorithm starts from rest;
  -- an attempt that wasn't promoted leaves what runs
  pub returns : (fence : ℕ) (alg : Alg) → StepLaw (Core good c) (return_gate fence alg) Nothing n (CanReturn fence alg)
  returns fence alg w g may = record {
    rule = record {
      history = history-kept good c w x n v refl refl refl refl g.history;
      steps = steps-kept c (return_gate fence alg) n w refl refl refl g.steps;
      gate = return_gate-gate c.callers fence alg w n may g.gate;
      install = install-view c w x n (returned (w.views n).gate) v refl refl refl refl refl refl refl refl refl refl g.install;
      records = records-stay w x n v refl (le_refl w.clock) refl refl refl g.records;
      lock = subst LockRule (sym (lock_projection-kept w x n v refl refl refl refl)) g.lock;
      attempts = attempts-in w x n v refl may.phase g.attempts;
      running = runs (w.views n).gate.granted refl;
      alone = alone-kept c (return_gate fence alg) n w refl (λ sole. inr refl) g.alone;
      raised = raised-put w x n v refl (λ e. same ∙ (sym named ∙ e)) (λ e k. absurd cc) g.raised;
    };
    advances = record { clock = le_refl w.clock; horizon = same-horizon w x (named ∙ sym same) (le_refl w.clock) (le_refl w.done); seen = λ f l. refl };
    shown = tt;
  }
    where
      x : World
      x = world_after (return_gate fence alg) n w

      v : View
      v = view_after (return_gate fence alg) w (w.views n) (gate_word fence 0 alg)

      named : alg_of (gate_word fence 0 alg) ≡ alg
      named = alg_of-gate fence 0 alg

      same : alg_of w.gate ≡ alg
      same = g.gate.held n may.holds ∙ may.named

      bare_now : (r : ℕ) → touches (w.views n).owned.held r ≡ false
      bare_now r = ap (λ q. touches q r) may.disowned

      runs : (b : Bool) → (w.views n).gate.granted ≡ b → Runs c (regime x) (run_projection x)
      runs true e =
          let d : DirectRuns c alg n (run_projection w) = subst (λ (r : Regime). Runs c r (run_projection w)) (regime-granted c w n g.gate g.install e ∙ ap (λ (a : Alg). Promoted a n) may.named) g.running in
          let is : regime x ≡ Running alg = regime-running x (λ m h. absurd (let k = holder_of-open fence alg in omega arith)) ∙ ap Running named in
          subst (λ (r : Regime). Runs c r (run_projection x)) (sym is) (back c alg n (run_projection w) (run_projection x) d (record {
            heap = λ a. d.direct.stored a ∙ ap (λ (l : List Cell). over l a (word_now w.history a)) may.unstored;
            unlocked = put-all w.views n v (λ m u. u.lock.taken ≡ true → ⊥) (λ t. let f : true ≡ false = sym t ∙ may.unlocked in cc) (λ m o t. others e m o (g.lock.inside m t));
            outside = put-all w.views n v (λ m u. u.tml.inside ≡ true → ⊥) (λ t. cc) (λ m o t. others e m o (g.attempts.busy m (busy-tml (w.views m) t)));
            unwritten = put-all w.views n v (λ m u. u.tml.writer ≡ true → ⊥) (λ t. let f : true ≡ false = sym t ∙ may.unwritten in cc) (λ m o t. others e m o (g.attempts.busy m (busy-writer (w.views m) t)));
            inside = put-all w.views n v (λ m u. u.owned.inside ≡ true → ⊥) (λ t. cc) (λ m o t. others e m o (g.attempts.busy m (busy-owned (w.views m) t)));
            unheld = put-all w.views n v (λ m u. (r : ℕ) → touches u.owned.held r ≡ true → ⊥) (λ r t. let f : true ≡ false = sym t ∙ bare_now r in cc) (λ m o r t. others e m o (g.records.inside m r t));
            freed =
                λ r m k.
                nobody-by good c n w g (checked e) (λ j. touches (w.views j).owned.held r ≡ true)
                (λ t. let f : true ≡ false = sym t ∙ bare_now r in cc) (λ j t. g.records.inside j r t) m (owner-holds good c w g r m k);
            below = g.history.below;
            unread = put-all w.views n v (λ m u. u.ring_read.inside ≡ true → ⊥) (λ t. cc) (λ m o t. others e m o (g.attempts.busy m (busy-ring (w.views m) t)));
            uncommitted = put-all w.views n v (λ m u. u.ring_commit.committed ≡ true → ⊥) (λ t. let f : true ≡ false = sym t ∙ may.uncommitted in cc) (λ m o t. others e m o (g.attempts.busy m (busy-turn (w.views m) t)));
          })
          (record {
            clock = le_refl w.clock;
            base = le_refl w.base;
            based = g.install.base;
            done = le_refl w.done;
            within = g.install.done;
            lock = refl;
            records = refl;
            slots = refl;
            heap = refl;
            history = refl;
            fronts = put-all w.views n v (λ m u. u.history.front ≡ (w.views m).history.front) refl (λ m d. refl);
          }) refl
          (λ q. let m = may.marked q in let t = g.install.time n (g.install.promoted n e).0 in ((g.install.rebased n m.0).1 ∙ sym t, (g.install.completed n m.1).1 ∙ sym t))
          (put-all w.views n v (λ m u. u.history.front ≤ w.clock) (g.history.known n).front (λ m d. (g.history.known m).front)))
        where
          checked : (w.views n).gate.granted ≡ true → HasChecked c.callers n (w.views n)
          checked e k low other = g.install.alone n k (g.install.promoted n e).0 low other

          others : (w.views n).gate.granted ≡ true → (m : ℕ) → m ≢ n → (w.views m).gate.phase ≡ In → ⊥
          others e = nobody-else good c n w g (checked e)
      runs false e = runs-stays c (regime w) (regime x) (record (run_projection w) { views = put (run_projection w).views n (run_view v) }) (run_projection x)
          (regime-handed good c n w x v refl (named ∙ sym same) (λ m h.
          subst (λ (k : ℕ). mode_of (w.views k).gate ≡ Plain) (let o = g.gate.mine n may.holds in let q : n ≡ m = omega arith in q)
          (plain-mode (w.views n).gate e (ungiven-out good c w n g (λ k. let f : In ≡ Closing = sym may.phase ∙ k in cc))))
          (λ m h. absurd (let k = holder_of-open fence alg in omega arith)) refl)
          (run_projection-put w x n v refl refl refl refl refl refl refl refl refl)
          (runs-leave c (regime w) (run_projection w) n (run_view v)
          (record {
            was = record { unlocked = may.unlocked; unwritten = may.unwritten; uncommitted = may.uncommitted };
            out = record { unlocked = may.unlocked; unwritten = may.unwritten; uncommitted = may.uncommitted };
            tml = refl;
            owned = refl;
            bare = bare_now;
            apart = none-apart good c w n g bare_now;
            unread = refl;
            entered = sym (may.plain e);
          }) (inl refl)
          (λ a q. let t : true ≡ false = sym (granted-regime c w n g.gate g.install a q) ∙ e in cc) g.running)
