use Rattle.work_check.proofs.ConfirmedLaws.{confirmed}
use Rattle.work_check.proofs.laws.replayed_is_confirmed.Goals as goal

pub returns : goal.returns
returns c = λ m text w r parses is fits le.
    confirmed w r (c.parsed_workloads_fit.ensures m w (c.text_is_parsed.ensures m text w parses)) is fits le
