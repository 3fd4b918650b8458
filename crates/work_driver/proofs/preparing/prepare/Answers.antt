use Rattle.std.proofs.Common.{List, [], ◌∙◌, arith, subst}
use Rattle.std.specs.Prelude.{slice_index_or}
use Rattle.data_regions.specs.declared.region.Region.{Region}
use Rattle.work_driver.specs.AllWorkers.{AreMade, workers_in}
use Rattle.work_driver.proofs.OpeningLaws.{numbered}
use Rattle.work_driver.proofs.preparing.prepare.Goals as goal

pub make_workers-requires-clause-numbered : goal.make_workers-requires-clause-numbered
make_workers-requires-clause-numbered g c = λ _ _ n d lt. numbered c.in_ok-stm.stm c.args.header.now.alg 0 c.in_ok-stm.descs.items c.in_ok-stm.ensures.opens.new n d lt ∙ (omega arith)

pub returns-clause-prepared : goal.returns-clause-prepared
returns-clause-prepared g c =
    let o = c.in_ok-stm.ensures.opens in
    record {
      sized = o.sized;
      descs = c.in_ok-stm.descs.items;
      count = o.count;
      new = o.new;
      knows = o.knows;
      made =
          subst (λ (rs : List Region).
          AreMade (λ n. slice_index_or c.args.parts.now n []) rs c.args.header.now.alg c.args.policy 0 c.in_ok-stm.descs.items
          (workers_in c.in_ok-runners.runners.items)) c.requires.regions c.in_ok-runners.ensures;
    }
