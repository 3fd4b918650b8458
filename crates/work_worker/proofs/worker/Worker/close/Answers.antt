use Rattle.std.proofs.Common.{refl}
use Rattle.work_trace.specs.declared.said.Phase.TheVariants.{Closing}
use Rattle.work_trace.specs.declared.said.Said.TheVariants.{TryClose}
use Rattle.stm_answers.specs.declared.answers.CloseGate.TheVariants.{Closed, Taken}
use Rattle.work_worker.proofs.StandLaws.{rest-between}
use Rattle.work_worker.proofs.TurnLaws.{turned-closed, turned-stayed, idle-now}
use Rattle.work_worker.proofs.worker.Worker.close.Goals as goal

pub returns-in-Closed : goal.returns-in-Closed
returns-in-Closed g c =
    let good = g.K.MemRule.good c.args.stm.now.rule in
    let stm = c.args.stm.now in
    let u = c.args.self.now in
    let s = c.requires.sound in
    let h = c.in-Closed.ensures.closes in
    record {
      turned = turned-closed good stm u s c.close_gate.new.desc c.close_gate.ensures.same (TryClose Closed) Closing
          (rest-between u.phase c.requires.between) tt (c.requires.between, c.requires.here) (idle-now good stm u s c.requires.between).1 h refl
          h.grows h.made h.holds c.requires.here;
    }

pub returns-in-Taken : goal.returns-in-Taken
returns-in-Taken g c =
    let good = g.K.MemRule.good c.args.stm.now.rule in
    let stm = c.args.stm.now in
    let u = c.args.self.now in
    let s = c.requires.sound in
    record {
      turned = turned-stayed good stm u s c.close_gate.new.desc c.close_gate.ensures.same (TryClose (Taken c.in-Taken.gate))
          c.requires.between (c.requires.between, c.requires.here) (idle-now good stm u s c.requires.between).1 c.in-Taken.ensures.closes refl
          c.in-Taken.ensures.closes.0;
    }
