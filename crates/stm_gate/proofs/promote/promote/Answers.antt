use Rattle.std.proofs.Common.{ℕ, subst, ap, ◌∙◌}
use Rattle.rule_base.specs.declared.seats.Who.{Who}
use Rattle.stm_answers.specs.declared.answers.Look.TheVariants.{Quiet, Busy}
use Rattle.stm_answers.specs.CallerState.{caller_of}
use Rattle.stm_gate.specs.Knowing.{number}
use Rattle.stm_gate.specs.Looking.{LooksUntil}
use Rattle.stm_gate.proofs.PromotingLaws.{promotes-taken, promotes-alone, promotes-busy}
use Rattle.stm_gate.proofs.Standing.{in-of}
use Rattle.stm_gate.proofs.promote.promote.Goals as goal

pub returns-in-Some-clause-promotes : goal.returns-in-Some-clause-promotes
returns-in-Some-clause-promotes g c =
    promotes-taken c.args.stm.now.config (number c.args.desc.now) (g.K.MemRule.good c.args.stm.now.rule) c.in-Some.gate c.args.desc.now.view
    c.close_for.new.desc.view c.args.desc.now.own c.close_for.new.desc.own c.close_for.ensures.own
    (in-of c.args.desc.now.view.gate.phase c.requires.running.0) c.requires.running.1 c.requires.closes c.requires.revocable
    c.close_for.ensures.opaque c.in-Some.ensures.closes

pub returns-in-Quiet-clause-promotes : goal.returns-in-Quiet-clause-promotes
returns-in-Quiet-clause-promotes g c =
    promotes-alone c.args.stm.now.config (number c.args.desc.now) (g.K.MemRule.good c.args.stm.now.rule) c.args.desc.now.view
    c.close_for.new.desc.view c.look_on.new.desc.view c.args.desc.now.own c.look_on.new.desc.own
    (c.look_on.ensures.own ∙ c.close_for.ensures.own) (in-of c.args.desc.now.view.gate.phase c.requires.running.0) c.requires.running.1
    c.requires.closes c.requires.revocable c.close_for.ensures.opaque c.in-None.ensures.closes
    (subst (λ (k : ℕ).
    LooksUntil c.args.stm.now.config k (g.K.MemRule.good c.args.stm.now.rule) Quiet c.close_for.new.desc.view c.look_on.new.desc.view)
    (ap (λ (w : Who g.row.K.Denot). caller_of w.role) c.close_for.ensures.same.who) c.in-Quiet.ensures.looks)

pub returns-in-Busy-clause-promotes : goal.returns-in-Busy-clause-promotes
returns-in-Busy-clause-promotes g c =
    promotes-busy c.args.stm.now.config (number c.args.desc.now) (g.K.MemRule.good c.args.stm.now.rule) c.in-Busy.caller c.in-Busy.status
    c.args.desc.now.view c.close_for.new.desc.view c.look_on.new.desc.view c.args.desc.now.own c.look_on.new.desc.own
    (c.look_on.ensures.own ∙ c.close_for.ensures.own) (in-of c.args.desc.now.view.gate.phase c.requires.running.0) c.requires.running.1
    c.requires.closes c.requires.revocable c.close_for.ensures.opaque c.in-None.ensures.closes
    (subst (λ (k : ℕ).
    LooksUntil c.args.stm.now.config k (g.K.MemRule.good c.args.stm.now.rule) (Busy c.in-Busy.caller c.in-Busy.status)
    c.close_for.new.desc.view c.look_on.new.desc.view) (ap (λ (w : Who g.row.K.Denot). caller_of w.role) c.close_for.ensures.same.who)
    c.in-Busy.ensures.looks)
