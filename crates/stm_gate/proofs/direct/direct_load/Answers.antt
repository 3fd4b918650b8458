use Rattle.std.proofs.Common.{ℕ, ◌≡◌, subst, sym, ap, refl, true, ◌∙◌}
use Rattle.stm_model.specs.Algorithms.{closes_gate}
use Rattle.stm_rule.specs.Attempts.{own_of}
use Rattle.stm_rule.specs.Callers.{Handle}
use Rattle.stm_rule.proofs.StandLemmas.{tells-of}
use Rattle.stm_answers.specs.CallerState.{CallerState, caller_of}
use Rattle.stm_gate.specs.Knowing.{known}
use Rattle.stm_gate.proofs.Standing.{runs-of, shown-of}
use Rattle.rule_seq.specs.CglSteps.{Loads}
use Rattle.rule_promoted.specs.PromotedSteps.{direct_load}
use Rattle.stm_rule.specs.Kept.{good_of}
use Rattle.stm_answers.specs.declared.answers.Read.TheVariants.{Value}
use Rattle.stm_answers.specs.Answers.{HasRead}
use Rattle.stm_gate.proofs.DirectLaws.{tells-load}
use Rattle.stm_gate.proofs.direct.direct_load.Goals as goal

pub returns-clause-read : goal.returns-clause-read
returns-clause-read g c =
    shown-of (λ (n : ℕ) (v w : CallerState).
    HasRead (g.K.MemRule.good c.args.stm.now.rule) c.args.stm.now.config n c.args.a (Value c.direct_load.result) v w) _ _ _
    c.direct_load.new.seat.me.0.view c.desc.inside.local c.desc.inside.local c.desc.view_is refl (ap caller_of c.desc.invariant.0.named)
    (tells-load _ _ _ c.args.a c.direct_load.result c.desc.inside.local c.desc.inside.seat.me.0.view c.direct_load.new.seat.me.0.view
    (own_of c.desc.inside.local) (ap (λ (p : Handle g.row.K.Denot). (known p).committing) c.desc.view_is ∙ c.requires.running.1)
    c.requires.inside (subst (λ (p : Handle g.row.K.Denot). closes_gate (known p).alg ≡ true) (sym c.desc.view_is) c.requires.closes)
    (subst (λ (p : Handle g.row.K.Denot). (known p).granted ≡ true) (sym c.desc.view_is) c.requires.granted)
    (runs-of g.K.MemRule.good _ _ _ _ _ _ c.desc.view_is c.requires.stm.config c.requires.stm.rule c.requires.running.0 c.desc.invariant.1)
    (tells-of (direct_load c.args.a)
    (Loads (good_of g.K.MemRule.good c.args.stm.now.config c.args.stm.now.rule) c.args.stm.now.config c.args.a) _ _ _
    c.direct_load.ensures.step))
