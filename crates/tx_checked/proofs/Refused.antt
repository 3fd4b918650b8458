-- What the refusals of one call are to another.
use Rattle.std.proofs.Common.{ℕ, ◌≡◌, Bool, subst}
use Rattle.stm_model.specs.declared.config.Config.{Config}
use Rattle.stm_answers.specs.declared.answers.Give.{Give}
use Rattle.stm_answers.specs.declared.answers.Give.TheVariants as gives
use Rattle.stm_answers.specs.Answers.{Reopens}
use Rattle.stm_answers.specs.Fences.{Gives}
use Rattle.stm_answers.specs.CallerState.{CallerState}
use Rattle.tx_checked.specs.Alone.{IsAlone, FindsFullAt}
use Rattle.tx_checked.specs.Phases.{Any}

module _ (c : Config) (n : ℕ) (closing : Bool) where
  pub finds-full : (r : Give) (m : ℕ) (u v w x : CallerState) → m ≡ n → IsAlone c n closing u v → Gives Any c m r v w → Reopens Any c n w x → FindsFullAt c n closing r u x
  finds-full (gives.Committed time) m u v w x same alone given reopened = tt
  finds-full gives.Unchanged m u v w x same alone given reopened = tt
  finds-full (gives.ClockFull clock) m u v w x same alone given reopened = (v, alone, w, subst (λ k. Gives Any c k (gives.ClockFull clock) v w) same given, reopened)
