use Rattle.work_text.proofs.PartingLaws.{text-parted}
use Rattle.work_text.proofs.laws.text_is_parted.Goals as goal

pub returns : goal.returns
returns c = text-parted
