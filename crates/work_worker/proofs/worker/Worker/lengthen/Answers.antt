use Rattle.std.proofs.lemmas.Result.{err_from_is_err_and}
use Rattle.work_worker.proofs.TurnLaws.{outside, starved, turned-lengthened}
use Rattle.work_worker.proofs.worker.Worker.lengthen.Goals as goal

pub returns : goal.returns
returns g c =
    let good = g.K.MemRule.good c.args._stm.now.rule in
    let stm = c.args._stm.now in
    let u = c.args.self.now in
    let s = c.requires.sound in
    let d = c.reserve.new.desc in
    record {
      turned = turned-lengthened good stm u s d c.reserve.ensures.same c.args.reads c.args.writes c.tail-self.result
          c.requires.between c.requires.unasked c.requires.here c.tail-self.ensures c.in_ok-reserve.ensures.reserves
          (outside u.desc d c.reserve.ensures.view);
    }

pub returns-in_err-reserve : goal.returns-in_err-reserve
returns-in_err-reserve g c =
    let good = g.K.MemRule.good c.args._stm.now.rule in
    let stm = c.args._stm.now in
    let u = c.args.self.now in
    let s = c.requires.sound in
    let p = err_from_is_err_and c.from_residual.result c.from_residual.ensures.1 in
    rw p.1 (record { turned = starved good stm u s c.reserve.new.desc c.reserve.ensures.same c.args.reads c.args.writes c.requires.between c.requires.here c.in_err-reserve.ensures.reserves })
