use Rattle.std.proofs.Common.{refl}
use Rattle.work_text.proofs.laws.codes_are.Goals as goal

pub returns : goal.returns
returns c = record { long = refl; bytes = refl; unended = refl; word = refl; number = refl; range = refl; alg = refl; region = refl; order = refl; many = refl; extra = refl; report = refl; long_report = refl }
