use Rattle.work_script.proofs.RegionKeeping.{operation-keeps}
use Rattle.work_script.proofs.laws.operations_keep_regions.Goals as goal

pub returns : goal.returns
returns c = let good = c.memories_stay_good.ensures in operation-keeps good.plain good.add good.list good.hash good.tree good.queue good.sums
