use Rattle.std.proofs.Common.{ℕ, ◌≡◌, ap, rules, ◌∙◌}
use Rattle.std.specs.Prelude.{None}
use Rattle.stm_model.specs.Memories.{item_at}
use Rattle.stm_rule.specs.Attempts.{own_of}
use Rattle.stm_rule.specs.Callers.{handle_of}
use Rattle.stm_answers.specs.CallerState.{CallerState}
use Rattle.stm_gate.proofs.Opening.{is-known}
use Rattle.alg_orec.proofs.Eager.EagerHolding.{unwritten}
use Rattle.alg_orec.proofs.Eager.EagerLaws as laws
use Rattle.alg_orec.proofs.Eager.EagerOpening.{EagerOpening, opens-eager}
use Rattle.alg_orec.proofs.orec_eager.OrecEagerAlgorithm.read.Goals.{After-desc}
use Rattle.alg_orec.proofs.orec_eager.OrecEagerAlgorithm.read.Goals as goal

opened : (g : _) (c : After-desc g) → EagerOpening g.K.MemRule.good c.args.stm.now c.args.desc.now c.desc.inside.seat.me c.desc.inside.number c.desc.inside.local
opened g c =
    opens-eager g.K.MemRule.good c.args.stm.now c.desc.inside.number c.desc.inside.local c.desc.inside.seat.me
    (handle_of c.desc.inside.seat (own_of c.desc.inside.local)) c.desc.view_is c.desc.invariant.0 c.desc.invariant.1 c.requires.stm
    c.requires.running c.requires.algorithm c.requires.unpromoted

pub read_unwritten-requires-clause-unwritten : goal.read_unwritten-requires-clause-unwritten
read_unwritten-requires-clause-unwritten g c =
    let o = opened g (goal.at.read_unwritten-requires-clause-unwritten g c).After-desc in
    is-known _ _ o.call.opening (λ (n : ℕ) (v : CallerState). item_at c.args.a v.log.writes ≡ None)
    (ap (item_at c.args.a) (laws.written-here _ _ _ _ _ o.runs) ∙ unwritten _ _ _ o.runs.kept (search rules) c.args.a)
