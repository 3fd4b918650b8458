use Rattle.std.proofs.Common.{◌<◌, length, sym, ap, ◌∙◌, arith}
use Rattle.std.proofs.lemmas.List.{length-set}
use Rattle.stm_model.specs.declared.config.Config.{Config}
use Rattle.work_driver.proofs.OpeningLaws.{all-know, all-new}
use Rattle.work_driver.proofs.opening.open.Goals as goal

pub returns-clause-opens : goal.returns-clause-opens
returns-clause-opens g c =
    let stm = c.in-Ok.stm in
    let ds = c.in-Ok.descs.items in
    let sized = c.in-Ok.ensures.stm.0 ∙ c.config.ensures in
    let count = c.in-Ok.ensures.descs.1 ∙ ap (λ (x : Config). x.callers) c.config.ensures in
    let low = c.requires.fits.config.callers in
    let some : 0 < length ds = omega arith in
    record {
      sized = sized;
      count = length-set ds 0 c.install_first.new.desc ∙ count;
      new =
          all-new stm c.args.header.now.alg ds c.index_mut.result.now c.index_mut.result.now c.install_first.new.desc
          c.in-Ok.ensures.descs.0 some c.index_mut.ensures.value c.install_first.ensures.same c.install_first.ensures.new
          c.install_first.ensures.lengths;
      knows = all-know stm c.args.header.now.alg ds c.install_first.new.desc some (c.in-Ok.ensures.descs.1 ∙ ap (λ (x : Config). x.callers) (sym c.in-Ok.ensures.stm.0)) c.install_first.ensures.knows;
    }
