use Rattle.std.proofs.Common.{ℕ, ap, refl, subst, sym}
use Rattle.rule_base.specs.Encodings.{gate_word}
use Rattle.rule_base.specs.GateSteps.{reopen}
use Rattle.rule_base.specs.StepKinds.{Nothing}
use Rattle.stm_rule.specs.Attempts.{own_of}
use Rattle.stm_rule.specs.Callers.{Handle, handle_of}
use Rattle.stm_rule.proofs.StandLemmas.{tells-of}
use Rattle.stm_answers.specs.Answers.{HoldsClosed, Reopens}
use Rattle.stm_answers.specs.CallerState.{CallerState, caller_of}
use Rattle.stm_gate.specs.Knowing.{known}
use Rattle.stm_gate.proofs.Standing.{shown-of}
use Rattle.stm_gate.proofs.Closing.{tells-reopened}
use Rattle.stm_gate.proofs.gate.reopen.Goals as goal

pub returns-clause-reopens : goal.returns-clause-reopens
returns-clause-reopens g c =
    let unlocked = (subst (λ (p : Handle g.row.K.Denot). HoldsClosed (known p)) (sym c.desc.view_is) c.requires.closing).unlocked in
    shown-of (λ (n : ℕ) (v w : CallerState). Reopens (g.K.MemRule.good c.args.stm.now.rule) c.args.stm.now.config n v w)
    (handle_of c.desc.inside.seat (own_of c.desc.inside.local)) c.args.desc.now c.desc.inside.number c.reopen.new.seat.me.0.view
    c.desc.inside.local c.desc.inside.local c.desc.view_is refl (ap caller_of c.desc.invariant.0.named)
    (tells-reopened (g.K.MemRule.good c.args.stm.now.rule) c.args.stm.now.config c.desc.inside.number c.desc.inside.local.fence
    c.desc.inside.local.algorithm c.desc.inside.seat.me.0.view c.reopen.new.seat.me.0.view (own_of c.desc.inside.local) unlocked
    (tells-of (reopen c.desc.inside.local.fence c.desc.inside.local.algorithm) Nothing c.desc.inside.seat.me.0
    (gate_word c.desc.inside.local.fence 0 c.desc.inside.local.algorithm) c.reopen.new.seat.me.0 c.reopen.ensures.step))
