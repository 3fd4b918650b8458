use Rattle.work_text.proofs.TextLaws.{text-read}
use Rattle.work_text.proofs.laws.text_is_read.Goals as goal

pub returns : goal.returns
returns c = text-read
