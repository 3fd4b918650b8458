use Rattle.std.proofs.Common.{ℕ, ◌≡◌, ◌<◌, sym, subst}
use Rattle.std.specs.Prelude.{None}
use Rattle.stm_model.specs.Logs.{IsExplained}
use Rattle.tx_parts.specs.Laying.{Top, IsFilled}
use Rattle.tx_parts.proofs.RoomLaws.{overflows-short}
use Rattle.tx_parts.proofs.overlay.Overlay.no_room.Goals as goal

pub returns-then-self-clause-some : goal.returns-then-self-clause-some
returns-then-self-clause-some g c =
    let a = g.A.Access in
    let s = c.self.inside in
    let i = c.self.invariant in
    let e = c.if-self.true in
    let less = overflows-short (a.words s.below) s.room.now.len s.room.now.items i.within c.count-count.ensures.once (i.full e) in
    let came : (c.len.result ≡ s.room.now.len) × (c.len.result < a.words s.below) × IsExplained (a.good s.below) (a.words s.below) (a.log s.below) × IsFilled (a.words s.below) s.room.now =
    (c.len.ensures, subst (λ (n : ℕ). n < a.words s.below) (sym c.len.ensures) less, i.knew e, (i.full e, c.count-count.ensures.once, i.within)) in
    subst (λ (t : Top g.row.A.Denot).
    (c.len.result ≡ t.room.len) × (c.len.result < a.words t.below) × IsExplained (a.good t.below) (a.words t.below) (a.log t.below)
    × IsFilled (a.words t.below) t.room) c.self.view_is came

pub returns-then-self-clause-goes : goal.returns-then-self-clause-goes
returns-then-self-clause-goes g c = subst (λ (t : Top g.row.A.Denot). g.A.Access.stopped t.below ≡ None) c.self.view_is (c.self.invariant.goes c.if-self.true).0
