use Rattle.work_script.proofs.KeepingLaws.{keeps-op, well-op}
use Rattle.work_script.proofs.operation.run_op.Goals as goal

pub returns-clause-keeps_rule : goal.returns-clause-keeps_rule
returns-clause-keeps_rule g c =
    keeps-op (g.A.Access.good c.args.acc.now) (g.A.Access.words c.args.acc.now) c.args.regions.now c.args.op.now _ c.in_ok-reply.reply _ c.in_ok-reply.ensures.reply

pub returns-clause-well : goal.returns-clause-well
returns-clause-well g c =
    well-op c.operations_keep_regions.ensures (g.A.Access.good c.args.acc.now) _ (g.A.Access.words c.args.acc.now) _ c.args.regions.now c.args.op.now _ c.in_ok-reply.reply _
    c.requires.within c.in_ok-reply.ensures.reply c.requires.well c.in_ok-reply.ensures.frame.good c.in_ok-reply.ensures.frame.words
