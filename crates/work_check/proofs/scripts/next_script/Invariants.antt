use Rattle.std.proofs.Common.{◌≡◌, drop}
use Rattle.work_script.specs.Reports.{scripts_of}
use Rattle.work_check.proofs.scripts.next_script.Given as goal

abbrev pub invariant-loop-i : goal.invariant-loop-i
invariant-loop-i l = scripts_of l.caller (drop l.from l.items) ≡ scripts_of l.caller (drop l.i l.items)
