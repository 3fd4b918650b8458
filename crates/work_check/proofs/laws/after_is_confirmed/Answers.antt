use Rattle.work_check.proofs.AfterLaws.{behind-confirmed}
use Rattle.work_check.proofs.laws.after_is_confirmed.Goals as goal

pub returns : goal.returns
returns c = λ m text w r parses is fits le.
    behind-confirmed c.text_is_read.ensures c.text_is_written.ensures c.text_is_parsed.ensures m text w r parses is (c.replayed_is_confirmed.ensures m text w r parses is fits le).text
