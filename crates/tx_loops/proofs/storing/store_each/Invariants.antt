use Rattle.std.proofs.Common.{◌≡◌, ◌≤◌, true, take}
use Rattle.stm_answers.specs.CallerState.{IsRunning, is_irrevocable}
use Rattle.tx_checked.specs.CheckedCallers.{known_to}
use Rattle.tx_loops.specs.Loops.{MadeNothing}
use Rattle.tx_parts.specs.Laying.{Lays}
use Rattle.tx_loops.proofs.storing.store_each.Given as goal

abbrev pub invariant-loop-i : goal.invariant-loop-i
invariant-loop-i l = record {
  nothing : MadeNothing l.fn.caller l.caller;
  runs : IsRunning (known_to l.caller);
  fence : (known_to l.caller).fence ≡ (known_to l.fn.caller).fence;
  alg : (known_to l.caller).alg ≡ (known_to l.fn.caller).alg;
  granted : (known_to l.caller).granted ≡ (known_to l.fn.caller).granted;
  later : (known_to l.fn.caller).start ≤ (known_to l.caller).start;
  irrevocable : is_irrevocable (known_to l.fn.caller) ≡ true → is_irrevocable (known_to l.caller) ≡ true;
  lays : Lays (take l.i l.buffer.items) (known_to l.fn.caller).log (known_to l.caller).log;
}
