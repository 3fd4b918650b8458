use Rattle.std.proofs.Common.{ℕ, ◌≡◌, ◌<◌, ◌+◌, ◌∙◌, ap, refl, subst, sym, arith, rules}
use Rattle.stm_model.specs.declared.config.Config.{Config}
use Rattle.rule_base.specs.Encodings.{gate_word, fence_number}
use Rattle.rule_base.specs.FenceSteps.{fence}
use Rattle.rule_base.specs.Lemmas.EncodingLemmas.{named-in}
use Rattle.stm_rule.specs.Attempts.{good_by, own_of}
use Rattle.stm_rule.specs.Callers.{Handle}
use Rattle.stm_rule.specs.FenceFindings.{FindsPast}
use Rattle.stm_rule.specs.Kept.{good_of}
use Rattle.stm_rule.proofs.StandLemmas.{tells-of, closing-of}
use Rattle.stm_answers.specs.declared.answers.Fence.TheVariants.{Fenced}
use Rattle.stm_answers.specs.Answers.{HoldsClosed}
use Rattle.stm_answers.specs.Fences.{Fences}
use Rattle.stm_answers.specs.CallerState.{CallerState, caller_of}
use Rattle.stm_gate.specs.Knowing.{known}
use Rattle.stm_gate.proofs.Standing.{shown-of}
use Rattle.stm_gate.proofs.FenceLaws.{tells-fenced}
use Rattle.stm_gate.proofs.fence.fence.Goals as goal

pub returns-clause-fences : goal.returns-clause-fences
returns-clause-fences g c =
    let holds = subst (λ (p : Handle g.row.K.Denot). HoldsClosed (known p)) (sym c.desc.view_is) c.requires.closing in
    let low = subst (λ (q : Config). c.desc.inside.number < q.callers) (subst (λ (p : Handle g.row.K.Denot). p.who.config ≡ c.args.stm.now.config) (sym c.desc.view_is) c.requires.stm.config) c.desc.invariant.0.low in
    shown-of (λ (n : ℕ) (v w : CallerState).
    Fences (g.K.MemRule.good c.args.stm.now.rule) c.args.stm.now.config n c.args.from c.args.count Fenced v w) _ _ _
    c.fence.new.seat.me.0.view c.desc.inside.local (record c.desc.inside.local { fence = c.fence_number-desc-inside.result }) c.desc.view_is
    refl (ap caller_of c.desc.invariant.0.named)
    (tells-fenced _ _ _ c.args.from c.args.count c.desc.inside.local.algorithm c.desc.inside.seat.me.0.view c.fence.new.seat.me.0.view
    (own_of c.desc.inside.local)
    (named-in c.args.stm.now.config c.desc.inside.number c.args.from c.args.count c.args.stm.now.ranges low c.requires.some c.requires.inside c.requires.blocks) holds
    ((closing-of (good_by g.K.MemRule.good c.desc.inside.seat.me.0.who.rule) c.desc.inside.seat.me.0.who.config c.desc.inside.number
    c.desc.inside.local c.desc.inside.seat.me.0.view holds.phase c.desc.invariant.1).guarded.is ∙ (search rules))
    (tells-of (fence c.desc.inside.number (fence_number c.desc.inside.number c.args.from c.args.count) c.desc.inside.local.algorithm)
    (FindsPast (good_of g.K.MemRule.good c.args.stm.now.config c.args.stm.now.rule) c.args.stm.now.config) c.desc.inside.seat.me.0
    (gate_word (fence_number c.desc.inside.number c.args.from c.args.count) (1 + c.desc.inside.number) c.desc.inside.local.algorithm)
    c.fence.new.seat.me.0 c.fence.ensures.step))
