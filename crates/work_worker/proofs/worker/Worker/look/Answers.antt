use Rattle.std.proofs.Common.{refl, subst, sym}
use Rattle.work_trace.specs.declared.said.Phase.TheVariants as Phase
use Rattle.work_trace.specs.declared.said.Said.TheVariants.{Looked}
use Rattle.std.proofs.Common.{inl}
use Rattle.stm_answers.specs.declared.answers.Look.TheVariants.{Quiet, Busy}
use Rattle.stm_answers.specs.CallerState.{caller_of}
use Rattle.stm_tx.specs.Descs.{known}
use Rattle.work_worker.specs.Workers.{ToSwitch, IsAt}
use Rattle.work_worker.proofs.StandLaws.{rest-closing}
use Rattle.work_worker.proofs.TurnLaws.{turned-closed, closed-now}
use Rattle.work_worker.proofs.worker.Worker.look.Goals as goal

pub returns-in-Quiet : goal.returns-in-Quiet
returns-in-Quiet g c =
    let good = g.K.MemRule.good c.args.stm.now.rule in
    let stm = c.args.stm.now in
    let u = c.args.self.now in
    let s = c.requires.sound in
    let h = c.in-Quiet.ensures.looks in
    let k = h.0.closed in
    let turning = subst (λ p. ToSwitch p u.chosen u.items_left.now) c.requires.closing s.turning in
    record {
      turned = turned-closed good stm u s c.look.new.desc c.look.ensures.same (Looked Quiet) Phase.Quiet
          (rest-closing u.phase c.requires.closing) tt c.requires.closing (closed-now good stm u s (inl c.requires.closing)).running h refl
          k.grows k.made (k.holds, h.1) turning;
    }

pub returns-in-Busy : goal.returns-in-Busy
returns-in-Busy g c =
    let good = g.K.MemRule.good c.args.stm.now.rule in
    let stm = c.args.stm.now in
    let u = c.args.self.now in
    let s = c.requires.sound in
    let h = c.in-Busy.ensures.looks in
    let k = h.0.closed in
    let r = rest-closing u.phase c.requires.closing in
    record {
      turned = turned-closed good stm u s c.look.new.desc c.look.ensures.same (Looked (Busy c.in-Busy.caller c.in-Busy.status))
          u.phase r r c.requires.closing (closed-now good stm u s (inl c.requires.closing)).running h refl k.grows k.made
          (subst (λ p. IsAt good stm.config (caller_of u.desc.who.role) p (known c.look.new.desc)) (sym c.requires.closing) k.holds) s.turning;
    }
