use Rattle.std.proofs.Common.{length, ◌-◌}
use Rattle.stm_logs.proofs.BucketLemmas.{IsSearch}
use Rattle.stm_logs.proofs.index.look_up.Given as goal

abbrev pub invariant-loop-bucket : goal.invariant-loop-bucket
invariant-loop-bucket l = IsSearch l.fn.homes l.generation l.items l.index l.a l.at l.distance

abbrev pub decreases-loop-bucket : goal.decreases-loop-bucket
decreases-loop-bucket l = length l.index - l.distance
