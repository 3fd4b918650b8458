use Rattle.std.proofs.Common.{ℕ, ap, refl}
use Rattle.rule_base.specs.FenceSteps.{fence_store}
use Rattle.rule_base.specs.StepKinds.{Nothing}
use Rattle.stm_rule.specs.Attempts.{own_of}
use Rattle.stm_rule.proofs.StandLemmas.{tells-of}
use Rattle.stm_answers.specs.Fences.{WritesDirect}
use Rattle.stm_answers.specs.CallerState.{CallerState, caller_of}
use Rattle.stm_gate.proofs.Standing.{shown-of}
use Rattle.stm_gate.proofs.FenceLaws.{tells-direct_write}
use Rattle.stm_gate.proofs.fence.direct_write.Goals as goal

pub returns-clause-writes : goal.returns-clause-writes
returns-clause-writes g c =
    shown-of
    (λ (n : ℕ) (v w : CallerState). WritesDirect (g.K.MemRule.good c.args.stm.now.rule) c.args.stm.now.config n c.args.a c.args.x v w) _ _ _
    c.fence_store.new.seat.me.0.view c.desc.inside.local c.desc.inside.local c.desc.view_is refl (ap caller_of c.desc.invariant.0.named)
    (tells-direct_write _ _ _ c.args.a c.args.x c.desc.inside.seat.me.0.view c.fence_store.new.seat.me.0.view (own_of c.desc.inside.local) (tells-of (fence_store c.args.a c.args.x) Nothing _ c.args.x _ c.fence_store.ensures.step))
