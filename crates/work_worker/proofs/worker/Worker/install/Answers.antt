use Rattle.std.proofs.Common.{inr, subst, sym}
use Rattle.work_trace.specs.declared.said.Said.TheVariants.{Installed}
use Rattle.work_trace.specs.Turns.{MaySay}
use Rattle.stm_tx.specs.Descs.{known}
use Rattle.work_worker.specs.Workers.{Turned}
use Rattle.work_worker.proofs.StandLaws.{same-twice}
use Rattle.work_worker.proofs.TurnLaws.{turned-switched, turned-besides, closed-now, quiet-now}
use Rattle.work_worker.proofs.worker.Worker.install.Goals as goal

pub returns-in-None : goal.returns-in-None
returns-in-None g c =
    let good = g.K.MemRule.good c.args.stm.now.rule in
    let stm = c.args.stm.now in
    let u = c.args.self.now in
    let s = c.requires.sound in
    record {
      turned = turned-switched good stm u s c.reopen.new.desc
          (same-twice u.desc c.install.new.desc c.reopen.new.desc c.install.ensures.same c.reopen.ensures.same) c.args.alg c.tail-self.result
          (known c.install.new.desc) c.requires.quiet c.in-None.is c.requires.to c.tail-self.ensures c.install.ensures.installs
          c.reopen.ensures.reopens;
    }

pub returns-in-Some : goal.returns-in-Some
returns-in-Some g c =
    let good = g.K.MemRule.good c.args.stm.now.rule in
    let stm = c.args.stm.now in
    let u = c.args.self.now in
    let s = c.requires.sound in
    let is = c.begin_anew.ensures in
    record {
      turned = subst (Turned good stm MaySay u (Installed c.args.alg)) (sym is)
          (turned-besides good stm u s c.reopen.new.desc
          (same-twice u.desc c.install.new.desc c.reopen.new.desc c.install.ensures.same c.reopen.ensures.same) c.args.alg _
          (known c.install.new.desc) c.requires.quiet c.in-Some.is c.requires.to c.install.ensures.installs c.reopen.ensures.reopens);
    }

pub install-requires-clause-closing : goal.install-requires-clause-closing
install-requires-clause-closing g c =
    let good = g.K.MemRule.good c.args.stm.now.rule in
    let stm = c.args.stm.now in
    let u = c.args.self.now in
    let s = c.requires.sound in
    closed-now good stm u s (inr c.requires.quiet)

pub install-requires-clause-quiet : goal.install-requires-clause-quiet
install-requires-clause-quiet g c =
    let good = g.K.MemRule.good c.args.stm.now.rule in
    let stm = c.args.stm.now in
    let u = c.args.self.now in
    let s = c.requires.sound in
    quiet-now good stm u s c.requires.quiet
