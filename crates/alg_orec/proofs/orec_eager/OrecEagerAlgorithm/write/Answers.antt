use Rattle.std.proofs.Common.{ℕ, ◌≡◌, ◌∙◌, true, rules}
use Rattle.stm_model.specs.Memories.{item_at}
use Rattle.rule_base.specs.History.{member}
use Rattle.stm_rule.specs.Attempts.{own_of}
use Rattle.stm_rule.specs.Callers.{handle_of}
use Rattle.stm_answers.specs.Causes.{is_some}
use Rattle.stm_answers.specs.CallerState.{CallerState}
use Rattle.stm_gate.proofs.Opening.{is-known}
use Rattle.alg_orec.proofs.Eager.EagerOpening.{EagerOpening, opens-eager}
use Rattle.alg_orec.proofs.Eager.EagerWriteLaws as laws
use Rattle.alg_orec.proofs.orec_eager.OrecEagerAlgorithm.write.Goals.{After-desc}
use Rattle.alg_orec.proofs.orec_eager.OrecEagerAlgorithm.write.Goals as goal

opened : (g : _) (c : After-desc g) → EagerOpening g.K.MemRule.good c.args.stm.now c.args.desc.now c.desc.inside.seat.me c.desc.inside.number c.desc.inside.local
opened g c =
    opens-eager g.K.MemRule.good c.args.stm.now c.desc.inside.number c.desc.inside.local c.desc.inside.seat.me
    (handle_of c.desc.inside.seat (own_of c.desc.inside.local)) c.desc.view_is c.desc.invariant.0 c.desc.invariant.1 c.requires.stm
    c.requires.running c.requires.algorithm c.requires.unpromoted

-- what was written has its old value
pub write_again-requires-clause-saved : goal.write_again-requires-clause-saved
write_again-requires-clause-saved g c =
    let o = opened g (goal.at.write_again-requires-clause-saved g c).After-desc in
    let there : is_some (item_at c.args.a c.desc.inside.local.writes.items) ≡ true = search rules in
    is-known _ _ o.call.opening (λ (n : ℕ) (v : CallerState). member v.kept c.args.a ≡ true) (laws.is-kept _ _ _ _ _ o.runs c.args.a ∙ laws.written-logged _ _ _ _ _ o.runs c.args.a there)
