use Rattle.std.proofs.Common.{ap}
use Rattle.std.specs.Prelude.{◌||◌}
use Rattle.stm_tx.specs.Descs.{known}
use Rattle.work_trace.specs.Places.{script_at}
use Rattle.work_worker.proofs.GoingLaws.{going-well}
use Rattle.work_worker.proofs.TurnLaws.{turned-operated, turned-stopped, attempt-now}
use Rattle.work_worker.proofs.worker.Worker.operation.Goals as goal

pub operate-requires-clause-well : goal.operate-requires-clause-well
operate-requires-clause-well g c =
    let good = g.K.MemRule.good c.args.stm.now.rule in
    let stm = c.args.stm.now in
    let u = c.args.self.now in
    going-well good stm.config.words u.regions.now (script_at u.items_left.now) u.operations_left.now c.args.op (known u.desc) u.alg
    u.granted u.out u.wrote c.requires.comes.2 (attempt-now good stm u c.requires.sound c.requires.comes.0).going

pub returns-in-Ok : goal.returns-in-Ok
returns-in-Ok g c =
    let good = g.K.MemRule.good c.args.stm.now.rule in
    let stm = c.args.stm.now in
    let u = c.args.self.now in
    let s = c.requires.sound in
    record {
      turned =
          turned-operated good stm u s c.operate.new.desc c.operate.ensures.same c.args.op c.in-Ok.reply c.args.later c.operate.new.out
          (u.wrote || c.writes.result) c.requires.comes c.requires.plain c.requires.later (ap (λ b. u.wrote || b) c.writes.ensures)
          c.in-Ok.ensures.goes.0 c.in-Ok.ensures.goes.1 c.in-Ok.ensures.gave c.in-Ok.ensures.explained c.in-Ok.ensures.told;
    }

pub returns-in-Err : goal.returns-in-Err
returns-in-Err g c =
    let good = g.K.MemRule.good c.args.stm.now.rule in
    let stm = c.args.stm.now in
    let u = c.args.self.now in
    let s = c.requires.sound in
    record {
      turned = turned-stopped good stm u s c.operate.new.desc c.operate.ensures.same c.args.op c.in-Err.stop c.operate.new.out
          c.stop.new.self c.requires.comes c.requires.plain c.in-Err.ensures.stopped c.in-Err.ensures.untold c.stop.ensures;
    }

pub operate-requires-clause-unfenced : goal.operate-requires-clause-unfenced
operate-requires-clause-unfenced g c = (attempt-now (g.K.MemRule.good c.args.stm.now.rule) c.args.stm.now c.args.self.now c.requires.sound c.requires.comes.0).unfenced
