use Rattle.std.proofs.Common.{subst}
use Rattle.work_script.specs.Operations.{OpFits}
use Rattle.work_script.proofs.WellLaws.{hash-well}
use Rattle.work_script.proofs.structures.run_on_hash.Goals as goal

pub insert-requires-clause-well : goal.insert-requires-clause-well
insert-requires-clause-well g c =
    hash-well (g.A.Access.good c.args.acc.now) (g.A.Access.words c.args.acc.now) (g.A.Access.log c.args.acc.now) c.args.regions.now c.requires.well c.in-HashInsert.r c.hash.result c.hash.ensures
    (subst (OpFits c.args.regions.now (g.A.Access.words c.args.acc.now)) c.in-HashInsert.is c.requires.within).0

pub remove-requires-clause-well : goal.remove-requires-clause-well
remove-requires-clause-well g c =
    hash-well (g.A.Access.good c.args.acc.now) (g.A.Access.words c.args.acc.now) (g.A.Access.log c.args.acc.now) c.args.regions.now c.requires.well c.in-HashRemove.r c.hash-in-HashRemove.result c.hash-in-HashRemove.ensures
    (subst (OpFits c.args.regions.now (g.A.Access.words c.args.acc.now)) c.in-HashRemove.is c.requires.within).0

pub contains-requires-clause-well : goal.contains-requires-clause-well
contains-requires-clause-well g c =
    hash-well (g.A.Access.good c.args.acc.now) (g.A.Access.words c.args.acc.now) (g.A.Access.log c.args.acc.now) c.args.regions.now c.requires.well c.in-HashContains.r c.hash-in-HashContains.result c.hash-in-HashContains.ensures
    (subst (OpFits c.args.regions.now (g.A.Access.words c.args.acc.now)) c.in-HashContains.is c.requires.within).0
