use Rattle.tx_loops.proofs.CommitLaws.{end-back}
use Rattle.tx_loops.proofs.ends.take_back.Goals as goal

pub returns : goal.returns
returns c =
    let b = end-back c.args.caller.now c.cancel.new.self c.cancel.result c.requires.running c.requires.revocable c.cancel.ensures in
    record { idle = b.0; nothing = b.1; refusal = b.2 }
