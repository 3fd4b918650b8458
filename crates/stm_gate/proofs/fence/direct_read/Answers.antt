use Rattle.std.proofs.Common.{ℕ, ap, refl}
use Rattle.rule_base.specs.FenceSteps.{fence_load, FenceLoads}
use Rattle.stm_rule.specs.Attempts.{own_of}
use Rattle.stm_rule.proofs.StandLemmas.{tells-of}
use Rattle.stm_answers.specs.Fences.{ReadsDirect}
use Rattle.stm_answers.specs.CallerState.{CallerState, caller_of}
use Rattle.stm_gate.proofs.Standing.{shown-of}
use Rattle.stm_gate.proofs.FenceLaws.{tells-direct_read}
use Rattle.stm_gate.proofs.fence.direct_read.Goals as goal

pub returns-clause-reads : goal.returns-clause-reads
returns-clause-reads g c =
    shown-of (λ (n : ℕ) (v w : CallerState).
    ReadsDirect (g.K.MemRule.good c.args.stm.now.rule) c.args.stm.now.config n c.args.a c.fence_load.result v w) _ _ _
    c.fence_load.new.seat.me.0.view c.desc.inside.local c.desc.inside.local c.desc.view_is refl (ap caller_of c.desc.invariant.0.named)
    (tells-direct_read _ _ _ c.args.a c.fence_load.result c.desc.inside.seat.me.0.view c.fence_load.new.seat.me.0.view
    (own_of c.desc.inside.local) c.requires.inside (tells-of (fence_load c.args.a) (FenceLoads c.args.a) _ _ _ c.fence_load.ensures.step))
