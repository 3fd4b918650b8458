-- What is written down of a caller that has done nothing.
use Rattle.std.proofs.Common.{◌≡◌, ℕ, [], sym, subst, arith}
use Rattle.std.specs.Prelude.{Some, None}
use Rattle.stm_answers.specs.CallerState.{CallerState, Fenced, IsIdle}
use Rattle.tx_checked.specs.declared.phase.CallerPhase.TheVariants.{Idle, Running, Beside, Committing, Closing}
use Rattle.tx_checked.specs.Dates.{AllBy, IsDated}
use Rattle.tx_checked.specs.Phases.{HasRange, IsInPhase}

pub no-range : (words : ℕ) (f : Fenced) → HasRange None words f
no-range words f r e = absurd (let no : None ≡ Some r = e in cc)

pub idle-in_phase : (v : CallerState) → IsIdle v → IsInPhase Idle v
idle-in_phase v h = (
  λ e.
      h,
  λ e. absurd (let no : Idle ≡ Running = e in cc),
  λ e. absurd (let no : Idle ≡ Beside = e in cc),
  λ e. absurd (let no : Idle ≡ Committing = e in cc),
  λ e. absurd (let no : Idle ≡ Closing = e in cc),
)

pub dated-none : (v : CallerState) → v.made ≡ [] → IsDated 0 v
dated-none v none = (subst (AllBy 0) (sym none) (λ i d lt. absurd (omega (arith, lt))), omega arith)
