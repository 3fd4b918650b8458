use Rattle.std.proofs.Common.{◌∙◌}
use Rattle.work_gen.proofs.DrawLaws.{at-start}
use Rattle.work_gen.proofs.draws.seeded.Goals as goal

pub returns : goal.returns
returns c = c.seed_from_u64.ensures ∙ at-start c.args.seed
