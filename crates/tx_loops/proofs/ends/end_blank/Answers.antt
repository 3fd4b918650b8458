use Rattle.tx_loops.proofs.CommitLaws.{end-blank}
use Rattle.tx_loops.proofs.ends.end_blank.Goals as goal

pub returns : goal.returns
returns c =
    let b = end-blank c.args.caller.now c.commit.new.self c.commit.result c.requires.running c.requires.blank c.commit.ensures in
    record { idle = b.0; nothing = b.1; refusal = b.2 }
