use Rattle.std.proofs.Common.{◌≡◌, ◌≤◌, []}
use Rattle.std.specs.Prelude.{replicate, vec_len, vec_capacity}
use Rattle.work_driver.proofs.parting.empty_parts.Given as goal

abbrev pub invariant-loop : goal.invariant-loop
invariant-loop l = record {
  none : l.parts.items ≡ replicate l.counter [];
  room : vec_len l.parts ≡ l.counter;
  capacity : l.callers ≤ vec_capacity l.parts;
}
