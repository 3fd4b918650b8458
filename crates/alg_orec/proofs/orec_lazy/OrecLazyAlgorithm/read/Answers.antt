use Rattle.std.proofs.Common.{ℕ, ◌≡◌, ap, rules, ◌∙◌}
use Rattle.std.specs.Prelude.{None}
use Rattle.stm_model.specs.Memories.{item_at}
use Rattle.stm_rule.specs.Attempts.{own_of}
use Rattle.stm_rule.specs.Callers.{handle_of}
use Rattle.stm_answers.specs.declared.answers.Read.TheVariants as reads
use Rattle.stm_answers.specs.Answers.{HasRead}
use Rattle.stm_answers.specs.CallerState.{CallerState}
use Rattle.stm_gate.proofs.Opening.{is-known}
use Rattle.alg_orec.proofs.Lazy.LazyOpening.{LazyOpening, opens-lazy}
use Rattle.alg_orec.proofs.RecordOpening.{place-told}
use Rattle.alg_orec.proofs.RecordReads as laws
use Rattle.alg_orec.proofs.orec_lazy.OrecLazyAlgorithm.read.Goals.{After-desc}
use Rattle.alg_orec.proofs.orec_lazy.OrecLazyAlgorithm.read.Goals as goal

opened : (g : _) (c : After-desc g) → LazyOpening g.K.MemRule.good c.args.stm.now c.args.desc.now c.desc.inside.seat.me c.desc.inside.number c.desc.inside.local
opened g c =
    opens-lazy g.K.MemRule.good c.args.stm.now c.desc.inside.number c.desc.inside.local c.desc.inside.seat.me
    (handle_of c.desc.inside.seat (own_of c.desc.inside.local)) c.desc.view_is c.desc.invariant.0 c.desc.invariant.1 c.requires.stm
    c.requires.running c.requires.algorithm c.requires.unpromoted

pub returns-in-Some-clause-read : goal.returns-in-Some-clause-read
returns-in-Some-clause-read g c =
    let o = opened g (goal.at.returns-in-Some-clause-read g c).After-desc in
    is-known _ _ o.call.opening
    (λ (n : ℕ) (v : CallerState).
    HasRead (g.K.MemRule.good c.args.stm.now.rule) c.args.stm.now.config n c.args.a (reads.Value c.in-Some.x) v v)
    (laws.reads-own o.call.reading c.args.a c.in-Some.x (search rules) (search rules))

pub returns-in-Some-at-clause-read : goal.returns-in-Some-at-clause-read
returns-in-Some-at-clause-read g c =
    let o = opened g (goal.at.returns-in-Some-at-clause-read g c).After-desc in
    is-known _ _ o.call.opening
    (λ (n : ℕ) (v : CallerState).
    HasRead (g.K.MemRule.good c.args.stm.now.rule) c.args.stm.now.config n c.args.a (reads.Value c.in-Some-at.x) v v)
    (laws.reads-old o.call.reading c.args.a c.in-Some-at.x (search rules) (search rules) (search rules))

pub first_read-requires-clause-unwritten : goal.first_read-requires-clause-unwritten
first_read-requires-clause-unwritten g c =
    let o = opened g (goal.at.first_read-requires-clause-unwritten g c).After-desc in
    let unwritten : item_at c.args.a c.desc.inside.local.writes.items ≡ None = search rules in
    is-known _ _ o.call.opening (λ (n : ℕ) (v : CallerState). item_at c.args.a v.log.writes ≡ None) (ap (item_at c.args.a) (laws.written-here o.call.reading) ∙ unwritten)

pub first_read-requires-clause-place : goal.first_read-requires-clause-place
first_read-requires-clause-place g c =
    let o = opened g (goal.at.first_read-requires-clause-place g c).After-desc in
    place-told _ _ o.call c.args.a c.place-place.result c.place-place.ensures
