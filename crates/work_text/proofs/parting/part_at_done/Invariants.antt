use Rattle.std.proofs.Common.{◌≤◌, ◌+◌, length}
use Rattle.work_text.proofs.PartingLaws.{Gone}
use Rattle.work_text.proofs.parting.part_at_done.Given as goal

abbrev pub invariant-loop-i : goal.invariant-loop-i
invariant-loop-i l = record {
  gone : Gone l.text l.rest l.at;
  within : l.at + length l.rest ≤ length l.text;
}

abbrev pub decreases-loop-i : goal.decreases-loop-i
decreases-loop-i l = length l.rest
