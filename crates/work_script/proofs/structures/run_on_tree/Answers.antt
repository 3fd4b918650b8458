use Rattle.std.proofs.Common.{subst}
use Rattle.work_script.specs.Operations.{OpFits}
use Rattle.work_script.proofs.WellLaws.{tree-well}
use Rattle.work_script.proofs.structures.run_on_tree.Goals as goal

pub insert-requires-clause-well : goal.insert-requires-clause-well
insert-requires-clause-well g c =
    tree-well (g.A.Access.good c.args.acc.now) (g.A.Access.words c.args.acc.now) (g.A.Access.log c.args.acc.now) c.args.regions.now c.requires.well c.in-TreeInsert.r c.tree.result c.tree.ensures
    (subst (OpFits c.args.regions.now (g.A.Access.words c.args.acc.now)) c.in-TreeInsert.is c.requires.within).0

pub remove-requires-clause-well : goal.remove-requires-clause-well
remove-requires-clause-well g c =
    tree-well (g.A.Access.good c.args.acc.now) (g.A.Access.words c.args.acc.now) (g.A.Access.log c.args.acc.now) c.args.regions.now c.requires.well c.in-TreeRemove.r c.tree-in-TreeRemove.result c.tree-in-TreeRemove.ensures
    (subst (OpFits c.args.regions.now (g.A.Access.words c.args.acc.now)) c.in-TreeRemove.is c.requires.within).0

pub contains-requires-clause-well : goal.contains-requires-clause-well
contains-requires-clause-well g c =
    tree-well (g.A.Access.good c.args.acc.now) (g.A.Access.words c.args.acc.now) (g.A.Access.log c.args.acc.now) c.args.regions.now c.requires.well c.in-TreeContains.r c.tree-in-TreeContains.result c.tree-in-TreeContains.ensures
    (subst (OpFits c.args.regions.now (g.A.Access.words c.args.acc.now)) c.in-TreeContains.is c.requires.within).0

pub min-requires-clause-well : goal.min-requires-clause-well
min-requires-clause-well g c =
    tree-well (g.A.Access.good c.args.acc.now) (g.A.Access.words c.args.acc.now) (g.A.Access.log c.args.acc.now) c.args.regions.now c.requires.well c.in-TreeLeast.r c.tree-in-TreeLeast.result c.tree-in-TreeLeast.ensures
    (subst (OpFits c.args.regions.now (g.A.Access.words c.args.acc.now)) c.in-TreeLeast.is c.requires.within)
