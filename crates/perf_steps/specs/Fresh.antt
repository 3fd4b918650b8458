use Rattle.stm_model.specs.declared.rule.AnyMem.{AnyMem}
use Rattle.stm_rule.specs.Callers.{Handle, IsOf}
use Rattle.stm_rule.specs.declared.stm.Stm.{Stm}
use Rattle.stm_answers.specs.CallerState.{IsIdle}
use Rattle.stm_tx.specs.Descs.{known}

-- a descriptor of this memory that is in no attempt
abbrev pub IsFresh : Stm AnyMem → Handle AnyMem → Type 0
IsFresh m d = IsOf d m × IsIdle (known d)
