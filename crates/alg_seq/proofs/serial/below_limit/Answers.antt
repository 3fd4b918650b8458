use Rattle.std.proofs.Common.{◌≡◌, [], ◌∷◌, refl, sym, subst, arith, rules, false}
use Rattle.std.specs.Prelude.{Some}
use Rattle.rule_base.specs.declared.layout.At.TheVariants.{Clock}
use Rattle.rule_base.specs.declared.views.Act.TheVariants.{Load}
use Rattle.rule_base.specs.declared.views.View.{View}
use Rattle.rule_seq.specs.CglSteps.{load_limit, LoadsLimit}
use Rattle.stm_rule.proofs.StandLemmas.{tells-of}
use Rattle.stm_answers.specs.Evidence.{Found}
use Rattle.stm_answers.specs.CallerState.{known_of}
use Rattle.alg_seq.specs.Storing.{IsClocked}
use Rattle.alg_seq.proofs.serial.below_limit.Goals as goal

pub returns-then-clock-ge-CLOCK_LIMIT-clause-below : goal.returns-then-clock-ge-CLOCK_LIMIT-clause-below
returns-then-clock-ge-CLOCK_LIMIT-clause-below g c =
    let t = tells-of (load_limit false) LoadsLimit _ _ _ c.load_limit-clock.ensures.step in
    let clean : c.args.local.now.wrote ≡ false = search rules in (
      subst (λ (y : View). IsClocked c.args.seat.now.me.0.view y) (sym t.2) (record { more = record { place = Clock; act = Load; found = Some c.load_limit-clock.result } ∷ []; is = refl }),
      clean,
      (search rules),
      λ o.
          subst (λ (y : View). Found Clock c.load_limit-clock.result (known_of c.args.seat.now.me.0.view o) (known_of y o)) (sym t.2)
          (record { place = Clock; act = Load; found = Some c.load_limit-clock.result } ∷ [], refl, Load, (0, omega arith, refl)),
    )

pub returns-clause-below : goal.returns-clause-below
returns-clause-below g c =
    let t = tells-of (load_limit false) LoadsLimit _ _ _ c.load_limit-clock.ensures.step in
    let start : c.args.seat.now.me.0.view.attempt.start ≡ c.args.local.now.start = c.requires.attempt.start in (
      subst (λ (y : View). IsClocked c.args.seat.now.me.0.view y) (sym t.2) (record { more = record { place = Clock; act = Load; found = Some c.load_limit-clock.result } ∷ []; is = refl }),
      omega arith,
    )
