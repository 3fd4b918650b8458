use Rattle.std.proofs.Common.{◌≡◌, ◌/◌}
use Rattle.work_gen.specs.Draws.{generator_at}
use Rattle.work_gen.specs.Generated.{draws_before, items_for, switched}
use Rattle.work_gen.proofs.generate.make_items.Given as goal

abbrev pub invariant-loop-i : goal.invariant-loop-i
invariant-loop-i l = record {
  items : l.items.items ≡ items_for l.i l.callers l.seed;
  draws : l.draws ≡ generator_at l.seed (draws_before l.i);
  alg : l.alg ≡ switched (l.i / 16);
}
