use Rattle.work_worker.proofs.TurnLaws.{turned-cancelled, turned-refused}
use Rattle.work_worker.proofs.worker.Worker.cancel.Goals as goal

pub returns-in-Cancelled : goal.returns-in-Cancelled
returns-in-Cancelled g c =
    let good = g.K.MemRule.good c.args.stm.now.rule in
    let stm = c.args.stm.now in
    let u = c.args.self.now in
    let s = c.requires.sound in
    record {
      turned = turned-cancelled good stm u s c.cancel.new.desc c.cancel.ensures.same c.in-Cancelled.time c.reply.new.self
          c.end.new.self c.requires.comes c.in-Cancelled.ensures.cancels c.reply.ensures c.end.ensures.ends;
    }

pub returns-in-Irrevocable : goal.returns-in-Irrevocable
returns-in-Irrevocable g c =
    let good = g.K.MemRule.good c.args.stm.now.rule in
    let stm = c.args.stm.now in
    let u = c.args.self.now in
    let s = c.requires.sound in
    record {
      turned = turned-refused good stm u s c.cancel.new.desc c.cancel.ensures.same c.tail-self.result c.reply-in-Irrevocable.new.self
          c.requires.comes c.tail-self.ensures c.in-Irrevocable.ensures.cancels.0 c.in-Irrevocable.ensures.cancels.1
          c.reply-in-Irrevocable.ensures;
    }
