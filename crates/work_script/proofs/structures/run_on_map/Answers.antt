use Rattle.std.proofs.Common.{subst}
use Rattle.work_script.specs.Operations.{OpFits}
use Rattle.work_script.proofs.WellLaws.{map-well, map-fits}
use Rattle.work_script.proofs.structures.run_on_map.Goals as goal

pub put-requires-clause-well : goal.put-requires-clause-well
put-requires-clause-well g c =
    map-well (g.A.Access.good c.args.acc.now) (g.A.Access.words c.args.acc.now) (g.A.Access.log c.args.acc.now) c.args.regions.now c.requires.well c.in-MapPut.r c.sum_map.result c.sum_map.ensures
    (subst (OpFits c.args.regions.now (g.A.Access.words c.args.acc.now)) c.in-MapPut.is c.requires.within).0

pub put-requires-clause-within : goal.put-requires-clause-within
put-requires-clause-within g c =
    map-fits c.args.regions.now (g.A.Access.words c.args.acc.now) c.in-MapPut.r c.sum_map.result c.sum_map.ensures
    (subst (OpFits c.args.regions.now (g.A.Access.words c.args.acc.now)) c.in-MapPut.is c.requires.within).0

pub remove-requires-clause-well : goal.remove-requires-clause-well
remove-requires-clause-well g c =
    map-well (g.A.Access.good c.args.acc.now) (g.A.Access.words c.args.acc.now) (g.A.Access.log c.args.acc.now) c.args.regions.now c.requires.well c.in-MapRemove.r c.sum_map-in-MapRemove.result c.sum_map-in-MapRemove.ensures
    (subst (OpFits c.args.regions.now (g.A.Access.words c.args.acc.now)) c.in-MapRemove.is c.requires.within).0

pub remove-requires-clause-within : goal.remove-requires-clause-within
remove-requires-clause-within g c =
    map-fits c.args.regions.now (g.A.Access.words c.args.acc.now) c.in-MapRemove.r c.sum_map-in-MapRemove.result c.sum_map-in-MapRemove.ensures
    (subst (OpFits c.args.regions.now (g.A.Access.words c.args.acc.now)) c.in-MapRemove.is c.requires.within).0

pub get-requires-clause-well : goal.get-requires-clause-well
get-requires-clause-well g c =
    map-well (g.A.Access.good c.args.acc.now) (g.A.Access.words c.args.acc.now) (g.A.Access.log c.args.acc.now) c.args.regions.now c.requires.well c.in-MapGet.r c.sum_map-in-MapGet.result c.sum_map-in-MapGet.ensures
    (subst (OpFits c.args.regions.now (g.A.Access.words c.args.acc.now)) c.in-MapGet.is c.requires.within).0

pub get-requires-clause-within : goal.get-requires-clause-within
get-requires-clause-within g c =
    map-fits c.args.regions.now (g.A.Access.words c.args.acc.now) c.in-MapGet.r c.sum_map-in-MapGet.result c.sum_map-in-MapGet.ensures
    (subst (OpFits c.args.regions.now (g.A.Access.words c.args.acc.now)) c.in-MapGet.is c.requires.within).0

pub sum-requires-clause-well : goal.sum-requires-clause-well
sum-requires-clause-well g c =
    map-well (g.A.Access.good c.args.acc.now) (g.A.Access.words c.args.acc.now) (g.A.Access.log c.args.acc.now) c.args.regions.now c.requires.well c.in-MapSum.r c.sum_map-in-MapSum.result c.sum_map-in-MapSum.ensures
    (subst (OpFits c.args.regions.now (g.A.Access.words c.args.acc.now)) c.in-MapSum.is c.requires.within).0

pub sum-requires-clause-within : goal.sum-requires-clause-within
sum-requires-clause-within g c =
    map-fits c.args.regions.now (g.A.Access.words c.args.acc.now) c.in-MapSum.r c.sum_map-in-MapSum.result c.sum_map-in-MapSum.ensures
    (subst (OpFits c.args.regions.now (g.A.Access.words c.args.acc.now)) c.in-MapSum.is c.requires.within).0
