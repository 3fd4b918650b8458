use Rattle.std.proofs.Common.{subst}
use Rattle.work_script.specs.Operations.{OpFits}
use Rattle.work_script.proofs.WellLaws.{list-well}
use Rattle.work_script.proofs.structures.run_on_list.Goals as goal

pub insert-requires-clause-well : goal.insert-requires-clause-well
insert-requires-clause-well g c =
    list-well (g.A.Access.good c.args.acc.now) (g.A.Access.words c.args.acc.now) (g.A.Access.log c.args.acc.now) c.args.regions.now c.requires.well c.in-ListInsert.r c.list.result c.list.ensures
    (subst (OpFits c.args.regions.now (g.A.Access.words c.args.acc.now)) c.in-ListInsert.is c.requires.within).0

pub remove-requires-clause-well : goal.remove-requires-clause-well
remove-requires-clause-well g c =
    list-well (g.A.Access.good c.args.acc.now) (g.A.Access.words c.args.acc.now) (g.A.Access.log c.args.acc.now) c.args.regions.now c.requires.well c.in-ListRemove.r c.list-in-ListRemove.result c.list-in-ListRemove.ensures
    (subst (OpFits c.args.regions.now (g.A.Access.words c.args.acc.now)) c.in-ListRemove.is c.requires.within).0

pub contains-requires-clause-well : goal.contains-requires-clause-well
contains-requires-clause-well g c =
    list-well (g.A.Access.good c.args.acc.now) (g.A.Access.words c.args.acc.now) (g.A.Access.log c.args.acc.now) c.args.regions.now c.requires.well c.in-ListContains.r c.list-in-ListContains.result c.list-in-ListContains.ensures
    (subst (OpFits c.args.regions.now (g.A.Access.words c.args.acc.now)) c.in-ListContains.is c.requires.within).0

pub len-requires-clause-well : goal.len-requires-clause-well
len-requires-clause-well g c =
    list-well (g.A.Access.good c.args.acc.now) (g.A.Access.words c.args.acc.now) (g.A.Access.log c.args.acc.now) c.args.regions.now c.requires.well c.in-ListLength.r c.list-in-ListLength.result c.list-in-ListLength.ensures
    (subst (OpFits c.args.regions.now (g.A.Access.words c.args.acc.now)) c.in-ListLength.is c.requires.within)
