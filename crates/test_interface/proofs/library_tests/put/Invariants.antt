use Rattle.stm_rule.specs.Callers.{IsSameCaller}
use Rattle.stm_answers.specs.CallerState.{IsIdle}
use Rattle.stm_tx.specs.Descs.{known}
use Rattle.test_interface.proofs.library_tests.put.Given as goal

abbrev pub invariant-loop-attempt : goal.invariant-loop-attempt
invariant-loop-attempt l = IsSameCaller l.fn.desc l.desc × IsIdle (known l.desc)
