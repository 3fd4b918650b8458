use Rattle.std.proofs.Common.{◌≡◌, subst, rules}
use Rattle.std.specs.Prelude.{Some, None}
use Rattle.stm_model.specs.Memories.{item_at}
use Rattle.stm_model.specs.Logs.{Reads}
use Rattle.tx_parts.specs.Laying.{over, Top}
use Rattle.tx_parts.specs.LayingLaws.{reads-top, reads-below}
use Rattle.tx_parts.proofs.overlay.OverlayAccess.read.Goals as goal

pub returns-in-Some-clause-value : goal.returns-in-Some-clause-value
returns-in-Some-clause-value g c =
    let log = g.A.Access.log in
    let s = c.self.inside in
    let v = c.in-Some.v in
    let found : item_at c.args.a s.room.now.items ≡ Some v = search rules in
    subst (λ (t : Top g.row.A.Denot). Reads (over t.room.items (log t.below)) c.args.a v (over t.room.items (log t.below))) c.self.view_is
    (reads-top s.room.now.items (log s.below) c.args.a v c.count-count.ensures.once found)

pub returns-in-Ok-clause-value : goal.returns-in-Ok-clause-value
returns-in-Ok-clause-value g c =
    let log = g.A.Access.log in
    let s = c.self.inside in
    let v = c.in-Ok.v in
    let k = log c.read.new.self in
    let absent : item_at c.args.a s.room.now.items ≡ None = search rules in
    subst (λ (t : Top g.row.A.Denot). Reads (over t.room.items (log t.below)) c.args.a v (over s.room.now.items k)) c.self.view_is
    (reads-below s.room.now.items (log s.below) k c.args.a v c.count-count.ensures.once absent c.in-Ok.ensures.value)
