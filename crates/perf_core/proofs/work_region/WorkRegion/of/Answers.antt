use Rattle.data_cells.specs.Structures.{list_of, hash_of}
use Rattle.perf_core.proofs.work_region.WorkRegion.of.Goals as goal

pub returns-in-Hash-clause-opening : goal.returns-in-Hash-clause-opening
returns-in-Hash-clause-opening c = c.chains_are_apart.ensures.empty (hash_of c.new-in-Hash.result) c.args.words

pub returns-in-List-clause-opening : goal.returns-in-List-clause-opening
returns-in-List-clause-opening c = c.chains_are_apart.ensures.empty (list_of c.new-in-List.result) c.args.words
