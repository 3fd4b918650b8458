use Rattle.std.proofs.Common.{sym, subst}
use Rattle.data_regions.specs.Regions.{AllWellFormed}
use Rattle.test_data.proofs.data_regions_tests.zeros.Goals as goal

pub returns-clause-good : goal.returns-clause-good
returns-clause-good c = λ regions. subst (AllWellFormed regions) (sym c.in_ok-memory.ensures.zeros) (c.memories_stay_good.ensures.opening regions c.args.words)
