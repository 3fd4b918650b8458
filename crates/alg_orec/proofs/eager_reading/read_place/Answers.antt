use Rattle.stm_rule.specs.Attempts.{own_of}
use Rattle.stm_rule.specs.Callers.{handle_of}
use Rattle.alg_orec.proofs.Eager.EagerOpening.{EagerOpening, opens-eager}
use Rattle.alg_orec.proofs.RecordOpening.{place-told}
use Rattle.alg_orec.proofs.eager_reading.read_place.Goals.{After-desc}
use Rattle.alg_orec.proofs.eager_reading.read_place.Goals as goal

opened : (g : _) (c : After-desc g) → EagerOpening g.K.MemRule.good c.args.stm.now c.args.desc.now c.desc.inside.seat.me c.desc.inside.number c.desc.inside.local
opened g c =
    opens-eager g.K.MemRule.good c.args.stm.now c.desc.inside.number c.desc.inside.local c.desc.inside.seat.me
    (handle_of c.desc.inside.seat (own_of c.desc.inside.local)) c.desc.view_is c.desc.invariant.0 c.desc.invariant.1 c.requires.stm
    c.requires.running c.requires.algorithm c.requires.revocable

pub returns : goal.returns
returns g c =
    let o = opened g (goal.at.returns g c).After-desc in
    place-told _ _ o.call c.args.a c.place.result c.place.ensures
