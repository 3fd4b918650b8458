use Rattle.std.proofs.Common.{refl}
use Rattle.work_trace.specs.declared.said.Said.TheVariants.{TryBegin}
use Rattle.stm_answers.specs.declared.answers.Begin.TheVariants.{Closed, Held, ClockFull}
use Rattle.work_worker.proofs.TurnLaws.{turned-began, turned-stayed, idle-now}
use Rattle.work_worker.proofs.worker.Worker.begin.Goals as goal

pub returns-in-Begun : goal.returns-in-Begun
returns-in-Begun g c =
    let good = g.K.MemRule.good c.args.stm.now.rule in
    let stm = c.args.stm.now in
    let u = c.args.self.now in
    let s = c.requires.sound in
    record {
      turned = turned-began good stm u s c.try_begin.new.desc c.try_begin.ensures.same c.in-Begun.alg c.args.script c.clear.new.self
          c.requires.between c.requires.here c.requires.unasked c.requires.script c.clear.ensures c.in-Begun.ensures.begins;
    }

pub returns-in-Closed : goal.returns-in-Closed
returns-in-Closed g c =
    let good = g.K.MemRule.good c.args.stm.now.rule in
    let stm = c.args.stm.now in
    let u = c.args.self.now in
    let s = c.requires.sound in
    record {
      turned = turned-stayed good stm u s c.try_begin.new.desc c.try_begin.ensures.same (TryBegin (Closed c.in-Closed.gate))
          c.requires.between (c.requires.between, c.requires.here, c.requires.unasked) (idle-now good stm u s c.requires.between).1
          c.in-Closed.ensures.begins refl c.in-Closed.ensures.begins.0;
    }

pub returns-in-Held : goal.returns-in-Held
returns-in-Held g c =
    let good = g.K.MemRule.good c.args.stm.now.rule in
    let stm = c.args.stm.now in
    let u = c.args.self.now in
    let s = c.requires.sound in
    record {
      turned = turned-stayed good stm u s c.try_begin.new.desc c.try_begin.ensures.same (TryBegin (Held c.in-Held.word))
          c.requires.between (c.requires.between, c.requires.here, c.requires.unasked) (idle-now good stm u s c.requires.between).1
          c.in-Held.ensures.begins refl c.in-Held.ensures.begins.0;
    }

pub returns-in-ClockFull : goal.returns-in-ClockFull
returns-in-ClockFull g c =
    let good = g.K.MemRule.good c.args.stm.now.rule in
    let stm = c.args.stm.now in
    let u = c.args.self.now in
    let s = c.requires.sound in
    record {
      turned = turned-stayed good stm u s c.try_begin.new.desc c.try_begin.ensures.same (TryBegin (ClockFull c.in-ClockFull.clock))
          c.requires.between (c.requires.between, c.requires.here, c.requires.unasked) (idle-now good stm u s c.requires.between).1
          c.in-ClockFull.ensures.begins refl c.in-ClockFull.ensures.begins.0;
    }

pub try_begin-requires-clause-idle : goal.try_begin-requires-clause-idle
try_begin-requires-clause-idle g c =
    let good = g.K.MemRule.good c.args.stm.now.rule in
    let stm = c.args.stm.now in
    let u = c.args.self.now in
    let s = c.requires.sound in
    idle-now good stm u s c.requires.between
