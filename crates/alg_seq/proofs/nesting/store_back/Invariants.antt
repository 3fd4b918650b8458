use Rattle.std.proofs.Common.{◌≡◌, ◌≤◌, ◌+◌, ◌-◌, List, length, take}
use Rattle.std.specs.Prelude.{min}
use Rattle.rule_base.specs.declared.views.TracedStep.{TracedStep}
use Rattle.rule_base.specs.Bridge.{items}
use Rattle.alg_seq.proofs.Undoing.{taken}
use Rattle.alg_seq.proofs.nesting.store_back.Given as goal

abbrev pub invariant-loop-count : goal.invariant-loop-count
invariant-loop-count g l = record {
  table : l.seat.table_id ≡ l.initial.seat.table_id;
  id : l.seat.id ≡ l.initial.seat.id;
  bare : l.seat.me.1 ≡ l.initial.seat.me.1;
  more : List TracedStep;
  seat : l.seat.me.0 ≡ record l.initial.seat.me.0 { view = taken l.initial.seat.me.0.view l.seat.me.0.view.attempt.stores more };
  stores : items l.seat.me.0.view.attempt.stores ≡ take l.count (items l.initial.seat.me.0.view.attempt.stores);
  low : min l.left (length l.writes.items) ≤ l.count;
  high : l.count ≤ length l.writes.items;
  steps : length l.seat.me.0.view.steps.step_trace + l.count ≤ length l.initial.seat.me.0.view.steps.step_trace + length l.writes.items;
}

abbrev pub decreases-loop-count : goal.decreases-loop-count
decreases-loop-count g l = l.count - l.left
