use Rattle.std.proofs.Common.{subst}
use Rattle.work_script.specs.Operations.{OpFits}
use Rattle.work_script.proofs.WellLaws.{queue-well, queue-fits}
use Rattle.work_script.proofs.structures.run_on_queue.Goals as goal

pub put-requires-clause-well : goal.put-requires-clause-well
put-requires-clause-well g c =
    queue-well (g.A.Access.good c.args.acc.now) (g.A.Access.words c.args.acc.now) (g.A.Access.log c.args.acc.now) c.args.regions.now c.requires.well c.in-QueuePut.r c.queue.result c.queue.ensures
    (subst (OpFits c.args.regions.now (g.A.Access.words c.args.acc.now)) c.in-QueuePut.is c.requires.within).0

pub put-requires-clause-within : goal.put-requires-clause-within
put-requires-clause-within g c =
    queue-fits c.args.regions.now (g.A.Access.words c.args.acc.now) c.in-QueuePut.r c.queue.result c.queue.ensures
    (subst (OpFits c.args.regions.now (g.A.Access.words c.args.acc.now)) c.in-QueuePut.is c.requires.within).0 (subst (OpFits c.args.regions.now (g.A.Access.words c.args.acc.now)) c.in-QueuePut.is c.requires.within).1

pub get-requires-clause-well : goal.get-requires-clause-well
get-requires-clause-well g c =
    queue-well (g.A.Access.good c.args.acc.now) (g.A.Access.words c.args.acc.now) (g.A.Access.log c.args.acc.now) c.args.regions.now c.requires.well c.in-QueueGet.r c.queue-in-QueueGet.result c.queue-in-QueueGet.ensures
    (subst (OpFits c.args.regions.now (g.A.Access.words c.args.acc.now)) c.in-QueueGet.is c.requires.within).0

pub get-requires-clause-within : goal.get-requires-clause-within
get-requires-clause-within g c =
    queue-fits c.args.regions.now (g.A.Access.words c.args.acc.now) c.in-QueueGet.r c.queue-in-QueueGet.result c.queue-in-QueueGet.ensures
    (subst (OpFits c.args.regions.now (g.A.Access.words c.args.acc.now)) c.in-QueueGet.is c.requires.within).0 (subst (OpFits c.args.regions.now (g.A.Access.words c.args.acc.now)) c.in-QueueGet.is c.requires.within).1
