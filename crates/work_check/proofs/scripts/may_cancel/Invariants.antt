use Rattle.std.proofs.Common.{◌≡◌, drop}
use Rattle.work_script.specs.Scripts.{has_cancel, has_irrev, before_cancel}
use Rattle.work_check.proofs.scripts.may_cancel.Given as goal

abbrev pub invariant-loop-op : goal.invariant-loop-op
invariant-loop-op l = record {
  cancel : has_cancel (drop l.op-index l.ops) ≡ has_cancel l.ops;
  irrev : has_irrev (before_cancel (drop l.op-index l.ops)) ≡ has_irrev (before_cancel l.ops);
}
