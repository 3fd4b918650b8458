use Rattle.stm_tx.specs.Descs.{known}
use Rattle.stm_answers.specs.CallerStateLaws.{grows-trans}
use Rattle.tx_checked.proofs.alone_for_range.close_alone_for_range.Goals as goal

pub returns-in-Quiet-clause-grew : goal.returns-in-Quiet-clause-grew
returns-in-Quiet-clause-grew c =
    grows-trans (known c.args.desc.now) (known c.close_without_range.new.desc) (known c.look.new.desc) c.close_without_range.ensures.grew
    c.in-Quiet.ensures.looks.0.closed.grows

pub returns-in-Busy-clause-grew : goal.returns-in-Busy-clause-grew
returns-in-Busy-clause-grew c =
    grows-trans (known c.args.desc.now) (known c.close_without_range.new.desc) (known c.look.new.desc) c.close_without_range.ensures.grew
    c.in-Busy.ensures.looks.0.closed.grows
