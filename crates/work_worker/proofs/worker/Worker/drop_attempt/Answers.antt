use Rattle.std.proofs.Common.{refl, sym, subst}
use Rattle.work_profile.specs.declared.outcome.Outcome.TheVariants as outcomes
use Rattle.work_profile.specs.Profiles.{with_outcome}
use Rattle.work_trace.specs.declared.said.Said.TheVariants.{Dropped}
use Rattle.work_trace.specs.Turns.{MayWind}
use Rattle.work_worker.specs.Workers.{Turned, cleared}
use Rattle.work_worker.proofs.TurnLaws.{turned-over, dropped-refused, irrevocable-place, runs-now}
use Rattle.std.proofs.Common.{◌∙◌}
use Rattle.work_worker.proofs.worker.Worker.drop_attempt.Goals as goal

pub returns-in-Cancelled : goal.returns-in-Cancelled
returns-in-Cancelled g c =
    let good = g.K.MemRule.good c.args.stm.now.rule in
    let stm = c.args.stm.now in
    let u = c.args.self.now in
    let s = c.requires.sound in
    let h = c.in-Cancelled.ensures.cancels in
    subst (Turned good stm MayWind u Dropped) (sym c.give_up_as.ensures)
    (turned-over good stm u s c.cancel.new.desc c.cancel.ensures.same MayWind Dropped (with_outcome u.profile outcomes.Cancelled) u.must
    u.passed u.failed (cleared u.out) (λ m. m) c.requires.inside (c.requires.inside, irrevocable-place good stm u s c.requires.inside ∙ h.3)
    (runs-now good stm u s c.requires.inside) (c.in-Cancelled.time, h) refl
    h.0.ends.grows h.0.ends.idle h.0.made refl s.counted)

pub returns-in-Irrevocable : goal.returns-in-Irrevocable
returns-in-Irrevocable g c =
    let good = g.K.MemRule.good c.args.stm.now.rule in
    let stm = c.args.stm.now in
    let u = c.args.self.now in
    let s = c.requires.sound in
    dropped-refused good stm u s c.cancel.new.desc c.cancel.ensures.same c.requires.inside c.in-Irrevocable.ensures.cancels.0 c.in-Irrevocable.ensures.cancels.1
