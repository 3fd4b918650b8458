-- What the clock shows beside what each step shows: of its limit, and of the other callers.
use Rattle.std.proofs.Common.{◌≡◌, ℕ, ◌+◌, ◌<◌, Bool, true, false, arith, refl, sym, subst, ap, ◌∙◌}
use Rattle.std.specs.Prelude.{ltb, ◌%◌}
use Rattle.std.proofs.lemmas.Bool.Decides.{nat_tests}
use Rattle.stm_model.specs.declared.alg.Alg.TheVariants.{Tml}
use Rattle.stm_model.specs.declared.config.Config.{Config}
use Rattle.rule_base.specs.declared.views.Phase.TheVariants.{Idle, In}
use Rattle.rule_base.specs.Regime.{Regime}
use Rattle.rule_base.specs.Regime.Regime.{Running}
use Rattle.rule_base.specs.Lemmas.RegimeLemmas.{regime-inside}
use Rattle.rule_base.specs.RunProjection.{run_projection}
use Rattle.rule_base.specs.InstallSteps.{settle, CanSettle}
use Rattle.rule_base.specs.StepKinds.{StepLaw}
use Rattle.rule_base.specs.StepsRule.{steps_projection, all_rises}
use Rattle.rule_base.specs.World.{World}
use Rattle.rule_promoted.specs.PromotedSteps.{tml_grant, CanTmlGrant}
use Rattle.rule_seq.specs.AttemptLemmas.{busy-writer}
use Rattle.rule_seq.specs.TmlRule.{tml_part, TmlRule}
use Rattle.rule_seq.specs.TmlSteps.{tml_begin, CanTmlBegin, tml_again, CanTmlAgain, tml_write, CanTmlWrite}
use Rattle.stm_rule.specs.Findings.{FindsSole, FindsWithin, FindsBegin, FindsAgain}
use Rattle.stm_rule.specs.Kinds.Frames.{is-caller}
use Rattle.stm_rule.proofs.KindLaws.InstallingLaws.{settles}
use Rattle.stm_rule.specs.Kinds.Laws.{tml_begins, tml_agains, tml_writes}
use Rattle.stm_rule.specs.Product.{Runs, Core}
use Rattle.stm_rule.proofs.KindLaws.PromotionLaws.{grants}

module _ (good : (ℕ → ℕ) → Type 0) (c : Config) (n : ℕ) where
  low : (w : World) → Core good c w → (w.views n).gate.phase ≡ In → n < c.callers
  low w g inside = is-caller good c w g n (λ idle. let e : In ≡ Idle = sym inside ∙ idle in cc)

  -- the rises of one caller alone are all rises
  pub sole-of : (w : World) → Core good c w → (w.views n).gate.phase ≡ In → FindsSole c w (w.views n) w.clock
  sole-of w g inside one =
      let first : n ≡ 0 = (let l = low w g inside in omega arith) in
      let all : all_rises c.callers (steps_projection w).views ≡ 0 + (w.views 0).steps.rises = ap (λ k. all_rises k (steps_projection w).views) one in
      let own : (w.views n).steps.rises ≡ (w.views 0).steps.rises = ap (λ k. (w.views k).steps.rises) first in
      let risen : w.clock ≡ c.clock + all_rises c.callers (steps_projection w).views = g.steps.risen in
      omega arith

  -- an odd clock is a writer's, which is another caller
  writer-of : (w : World) → Core good c w → (w.views n).gate.phase ≡ In → (w.views n).gate.algorithm ≡ Tml → (w.views n).gate.granted ≡ false → (w.views n).tml.writer ≡ false → w.clock % 2 ≡ 1 → 1 < c.callers
  writer-of w g inside tml plain reads odd = by (ltb 1 c.callers) refl
    where
      r : TmlRule c.words (tml_part (run_projection w))
      r = subst (λ (q : Regime). Runs c q (run_projection w)) (regime-inside c w n g.gate g.install inside plain ∙ ap Running tml) g.running

      by : (b : Bool) → ltb 1 c.callers ≡ b → 1 < c.callers
      by true q = grind (arith, nat_tests)
      by false q =
          let few : c.callers < 2 = grind (arith, nat_tests) in
          let none : (m : ℕ) → (w.views m).tml.writer ≡ true → ⊥ = λ m t.
          let k : m < c.callers = is-caller good c w g m (λ idle. let e : In ≡ Idle = sym (g.attempts.busy m (busy-writer (w.views m) t)) ∙ idle in cc) in
          let l = low w g inside in
          let same : m ≡ n = omega arith in
          let f : true ≡ false = sym (subst (λ (i : ℕ). (w.views i).tml.writer ≡ true) same t) ∙ reads in cc in
          absurd (let e = (r.free none).0 in omega arith)

  pub not_quiescent : (w : World) → Core good c w → (w.views n).gate.holds ≡ false → (b : Bool) → (w.views n).gate.quiescent ≡ b → b ≡ false
  not_quiescent w g free true e = absurd (let f : true ≡ false = sym (g.install.holding n e) ∙ free in cc)
  not_quiescent w g free false e = refl

  pub begins_beside : StepLaw (Core good c) tml_begin (FindsBegin good c) n CanTmlBegin
  begins_beside w g may = let o = tml_begins good c n w g may in record {
    rule = o.rule;
    advances = o.advances;
    shown = record { begins = o.shown; sole = sole-of w g may.runs.phase; writer = writer-of w g may.runs.phase may.runs.algorithm may.runs.plain may.unwritten; not_quiescent = λ free. not_quiescent w g free (w.views n).gate.quiescent refl };
  }

  pub agains_beside : StepLaw (Core good c) tml_again (FindsAgain good c) n CanTmlAgain
  agains_beside w g may = let o = tml_agains good c n w g may in record { rule = o.rule; advances = o.advances; shown = record { again = o.shown; sole = sole-of w g may.has.runs.phase } }

  pub writes_beside : (start : ℕ) → n < c.callers → StepLaw (Core good c) (tml_write start) (FindsSole c) n (CanTmlWrite start)
  writes_beside start few w g may = let o = tml_writes good c n start few w g may in record { rule = o.rule; advances = o.advances; shown = sole-of w g may.has.runs.phase }

  pub grants_beside : StepLaw (Core good c) tml_grant (FindsSole c) n (CanTmlGrant c.callers n)
  grants_beside w g may = let o = grants good c n w g may in record { rule = o.rule; advances = o.advances; shown = sole-of w g may.has.runs.phase }

  pub settles_within : StepLaw (Core good c) settle FindsWithin n (CanSettle c.callers n)
  settles_within w g may = let o = settles good c n w g may in record { rule = o.rule; advances = o.advances; shown = g.history.limit }
