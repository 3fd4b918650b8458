use Rattle.std.proofs.Common.{◌≡◌, true}
use Rattle.stm_answers.specs.CallerState.{IsRunning, is_irrevocable}
use Rattle.tx_checked.specs.CheckedCallers.{known_to}
use Rattle.tx_loops.specs.Loops.{MadeNothing}
use Rattle.tx_loops.proofs.attempts.mark_often.Given as goal

abbrev pub invariant-loop : goal.invariant-loop
invariant-loop l = record {
  nothing : MadeNothing l.fn.caller l.caller;
  log : (known_to l.caller).log ≡ (known_to l.fn.caller).log;
  runs : IsRunning (known_to l.caller);
  irrevocable : is_irrevocable (known_to l.caller) ≡ true;
}
