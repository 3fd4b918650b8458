-- What contracts say of a caller with its memory.
use Rattle.std.specs.Prelude.{ℕ, Bool, true, not, ◌≡◌, ◌==◌, ◌&&◌}
use Rattle.std.specs.Arc.{arc_value}
use Rattle.stm_model.specs.declared.alg.Alg.{Alg}
use Rattle.stm_model.specs.declared.config.Config.{Config}
use Rattle.stm_model.specs.declared.rule.AnyMem.{AnyMem}
use Rattle.stm_rule.specs.declared.stm.Stm.{Stm}
use Rattle.stm_rule.specs.Callers.{IsSameCaller}
use Rattle.stm_tx.specs.Descs.{Serves, known, number}
use Rattle.stm_answers.specs.CallerState.{CallerState}
use Rattle.tx_checked.specs.declared.checked_caller.CheckedCaller.{CheckedCaller}

abbrev pub memory_of : CheckedCaller → Stm AnyMem
memory_of m = arc_value m.stm

abbrev pub config_of : CheckedCaller → Config
config_of m = (memory_of m).config

abbrev pub number_of : CheckedCaller → ℕ
number_of m = number m.desc

abbrev pub known_to : CheckedCaller → CallerState
known_to m = known m.desc

-- a range was out of the transactions as its attempt began
abbrev pub is_beside : CallerState → Bool
is_beside v = v.running && not (v.fence == 0)

-- who takes attempts for such ones serves its attempt, if it is in one
abbrev pub IsServed : (Alg → Bool → Alg × Bool) → CallerState → Type 0
IsServed acts_as v = v.running ≡ true → Serves acts_as v

-- the same caller of the same memory
pub record IsSameCheckedCaller (m n : CheckedCaller) : Type 0 where
  pub stm : n.stm ≡ m.stm
  pub caller : IsSameCaller m.desc n.desc

-- nothing of it has changed
pub record IsUntouched (m n : CheckedCaller) : Type 0 where
  pub stm : n.stm ≡ m.stm
  pub note_exchange : n.note_exchange ≡ m.note_exchange
  pub desc : n.desc ≡ m.desc
  pub phase : n.phase ≡ m.phase
  pub errand : n.errand ≡ m.errand
  pub range : n.range ≡ m.range
  pub refusal : n.refusal ≡ m.refusal
  pub counts : n.counts ≡ m.counts
  pub latest : n.latest ≡ m.latest
