use Rattle.stm_rule.specs.Callers.{IsSameCaller}
use Rattle.stm_answers.specs.CallerState.{IsIdle}
use Rattle.stm_tx.specs.Descs.{known}
use Rattle.test_callers.proofs.tx_atomic_tests.count.Given as goal

abbrev pub invariant-loop : goal.invariant-loop
invariant-loop g l = IsSameCaller l.fn.desc l.desc × IsIdle (known l.desc)
