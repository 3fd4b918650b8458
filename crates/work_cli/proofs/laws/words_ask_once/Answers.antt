use Rattle.work_cli.proofs.AskingLaws.{ask-once}
use Rattle.work_cli.proofs.laws.words_ask_once.Goals as goal

pub returns : goal.returns
returns c = ask-once
