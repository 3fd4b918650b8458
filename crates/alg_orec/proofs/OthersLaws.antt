-- What was found of others shows that there are others: who is alone meets none of it.
use Rattle.std.proofs.Common.{◌≡◌, ◌≢◌, ℕ, ◌+◌, ◌<◌, List, ◌∷◌, Bool, true, false, arith, refl, sym, ap, ◌∙◌}
use Rattle.std.specs.Prelude.{ltb, ◌==◌, if◌then◌else◌, Some}
use Rattle.std.proofs.lemmas.Bool.Decides.{nat_tests}
use Rattle.stm_model.specs.declared.config.Config.{Config}
use Rattle.rule_base.specs.declared.layout.At.TheVariants.{Record}
use Rattle.rule_base.specs.declared.views.Act.TheVariants.{Load}
use Rattle.rule_base.specs.declared.views.TracedStep.{TracedStep}
use Rattle.rule_base.specs.declared.views.View.{View}
use Rattle.rule_base.specs.Encodings.{is_owned, version_of}
use Rattle.rule_base.specs.History.{touches}
use Rattle.rule_base.specs.World.{World}
use Rattle.stm_rule.specs.Alone.{left_at}
use Rattle.alg_orec.specs.RecordFindings.{FindsRecord, FindsClock}

-- a load leaves its record as it found it
pub left-found : (r x : ℕ) (t : List TracedStep) → left_at r (record { place = Record r; act = Load; found = Some x } ∷ t) ≡ Some x
left-found r x t = ap (λ (b : Bool). if b then Some x else left_at r t) same
  where
    same : (r == r) ≡ true
    same = grind (arith, nat_tests)

module _ (c : Config) (n : ℕ) (low : n < c.callers) where
  many : (c.callers ≡ 1 → ⊥) → 1 < c.callers
  many alone = by (ltb 1 c.callers) refl
    where
      by : (b : Bool) → ltb 1 c.callers ≡ b → 1 < c.callers
      by true q = grind (arith, nat_tests)
      by false q = absurd (alone (let few : c.callers < 2 = grind (arith, nat_tests) in omega arith))

  module _ (w : World) (v : View) (x : ℕ) where
    -- an owned record
    pub owned-others : (r : ℕ) → FindsRecord c n r w v x → is_owned x ≡ true → touches v.owned.held r ≡ false → 1 < c.callers
    owned-others r f owned free = let k = f.others owned free in two k.0 k.1 k.2
      where
        two : (k : ℕ) → k < c.callers → k ≢ n → 1 < c.callers
        two k few apart = grind arith

    -- one that is newer than a start at the clock
    pub newer-others : (r : ℕ) → FindsRecord c n r w v x → is_owned x ≡ false → (c.callers ≡ 1 → v.attempt.start ≡ c.clock + v.steps.rises) → v.attempt.start < version_of x → 1 < c.callers
    newer-others r f free level newer = many (λ sole. let l = f.sole sole free in let s = level sole in absurd (omega arith))

    -- one that isn't as the last step there left it
    pub moved-others : (r y : ℕ) → FindsRecord c n r w v x → left_at r v.steps.step_trace ≡ Some y → x ≢ y → 1 < c.callers
    moved-others r y f was moved = many (λ sole. moved (f.left sole y was))

    -- a clock that isn't the start
    pub clock-others : FindsClock c w v x → (c.callers ≡ 1 → v.attempt.start ≡ c.clock + v.steps.rises) → x ≢ v.attempt.start → 1 < c.callers
    clock-others f level moved = many (λ sole. moved (f.sole sole ∙ sym (level sole)))
