use Rattle.std.proofs.Common.{refl}
use Rattle.work_text.proofs.laws.limits_are.Goals as goal

pub returns : goal.returns
returns c = record { items = refl; operations = refl; turns = refl; text = refl; key = refl; words_one = refl; begin = refl; end = refl; stripes_one = refl; regions = refl; stripes = refl; cells = refl }
