use Rattle.work_worker.proofs.TurnLaws.{turned-reopened, closed-now}
use Rattle.work_worker.proofs.worker.Worker.open_again.Goals as goal

pub returns : goal.returns
returns g c =
    let good = g.K.MemRule.good c.args.stm.now.rule in
    let stm = c.args.stm.now in
    let u = c.args.self.now in
    let s = c.requires.sound in
    record { turned = turned-reopened good stm u s c.reopen.new.desc c.reopen.ensures.same c.requires.closing c.reopen.ensures.reopens }

pub reopen-requires-clause-closing : goal.reopen-requires-clause-closing
reopen-requires-clause-closing g c =
    let good = g.K.MemRule.good c.args.stm.now.rule in
    let stm = c.args.stm.now in
    let u = c.args.self.now in
    let s = c.requires.sound in
    closed-now good stm u s c.requires.closing
