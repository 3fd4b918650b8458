use Rattle.std.proofs.Common.{◌≡◌, ◌++◌, take, drop}
use Rattle.work_script.specs.Scripts.{before_cancel, has_cancel}
use Rattle.work_script.proofs.interpret.first_cancel.Given as goal

abbrev pub invariant-loop-op : goal.invariant-loop-op
invariant-loop-op l = record {
  place : l.end ≡ l.op-index;
  before : take l.end l.ops ++ before_cancel (drop l.end l.ops) ≡ before_cancel l.ops;
  found : has_cancel (drop l.end l.ops) ≡ has_cancel l.ops;
}
