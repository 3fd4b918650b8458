use Rattle.std.proofs.Common.{ℕ, rules}
use Rattle.stm_rule.specs.Attempts.{own_of}
use Rattle.stm_rule.specs.Callers.{handle_of}
use Rattle.stm_answers.specs.declared.answers.Read.TheVariants as reads
use Rattle.stm_answers.specs.Answers.{HasRead}
use Rattle.stm_answers.specs.CallerState.{CallerState}
use Rattle.stm_gate.proofs.Opening.{is-known}
use Rattle.alg_orec.proofs.Eager.EagerLaws as laws
use Rattle.alg_orec.proofs.RecordOpening.{place-here, unwritten}
use Rattle.alg_orec.proofs.RecordReads as records
use Rattle.alg_orec.proofs.Eager.EagerOpening.{EagerOpening, opens-eager}
use Rattle.alg_orec.proofs.orec_eager.read_unwritten.Goals.{After-desc}
use Rattle.alg_orec.proofs.orec_eager.read_unwritten.Goals as goal

opened : (g : _) (c : After-desc g) → EagerOpening g.K.MemRule.good c.args.stm.now c.args.desc.now c.desc.inside.seat.me c.desc.inside.number c.desc.inside.local
opened g c =
    opens-eager g.K.MemRule.good c.args.stm.now c.desc.inside.number c.desc.inside.local c.desc.inside.seat.me
    (handle_of c.desc.inside.seat (own_of c.desc.inside.local)) c.desc.view_is c.desc.invariant.0 c.desc.invariant.1 c.requires.stm
    c.requires.running c.requires.algorithm c.requires.revocable

pub returns-in-Some-clause-read : goal.returns-in-Some-clause-read
returns-in-Some-clause-read g c =
    let o = opened g (goal.at.returns-in-Some-clause-read g c).After-desc in
    is-known _ _ o.call.opening
    (λ (n : ℕ) (v : CallerState).
    HasRead (g.K.MemRule.good c.args.stm.now.rule) c.args.stm.now.config n c.args.a (reads.Value c.in-Some.x) v v)
    (records.reads-old (laws.reading _ _ _ _ _ o.runs) c.args.a c.in-Some.x (unwritten _ _ o.call c.args.a c.requires.unwritten) (search rules) (search rules))

pub at-requires : goal.at-requires
at-requires g c =
    let o = opened g (goal.at.at-requires g c).After-desc in
    place-here _ _ o.call c.args.a c.read_place-place.result c.read_place-place.ensures
