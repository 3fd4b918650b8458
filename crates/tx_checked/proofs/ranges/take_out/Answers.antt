use Rattle.stm_tx.specs.Descs.{known}
use Rattle.tx_checked.proofs.Beside.{beside-between}
use Rattle.tx_checked.proofs.ranges.take_out.Goals as goal

pub returns-clause-grew : goal.returns-clause-grew
returns-clause-grew c =
    beside-between (known c.args.desc.now) (known c.close_alone_for_range.new.desc) (known c.fence-answer.new.desc) (known c.reopen.new.desc)
    c.close_alone_for_range.ensures.grew c.in-Fenced.ensures.fences.closed.grows c.reopen.ensures.reopens.grows
