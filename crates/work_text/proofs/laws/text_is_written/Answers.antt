use Rattle.work_text.proofs.WrittenLaws.{text-written}
use Rattle.work_text.proofs.laws.text_is_written.Goals as goal

pub returns : goal.returns
returns c = text-written
