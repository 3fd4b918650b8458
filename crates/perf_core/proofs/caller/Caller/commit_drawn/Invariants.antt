use Rattle.stm_rule.specs.Callers.{IsSameCaller}
use Rattle.stm_answers.specs.CallerState.{IsIdle}
use Rattle.stm_tx.specs.Descs.{known}
use Rattle.perf_core.proofs.caller.Caller.commit_drawn.Given as goal

abbrev pub invariant-loop : goal.invariant-loop
invariant-loop g l = IsSameCaller l.fn.self.desc l.self.desc × IsIdle (known l.self.desc)
