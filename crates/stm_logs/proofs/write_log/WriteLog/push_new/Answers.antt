use Rattle.std.proofs.Common.{◌≡◌, ap, ◌∙◌, arith}
use Rattle.std.specs.Prelude.{None}
use Rattle.stm_model.specs.Memories.{item_at}
use Rattle.stm_logs.specs.LogStates.{LogState}
use Rattle.stm_logs.proofs.MarkTies.{new-stands, new-view}
use Rattle.stm_logs.proofs.write_log.WriteLog.push_new.Goals as goal

pub invariant_of-self : goal.invariant_of-self
invariant_of-self c =
    let i = c.self.invariant in
    let g = c.self.inside.log in
    let new : item_at c.args.a g.items ≡ None = ap (λ (l : LogState). item_at c.args.a l.items) c.self.view_is ∙ c.requires.new in
    new-stands c.self.inside.marks.items c.self.inside.depth c.args.a c.args.v g _ c.push_new.result (omega (arith, i.0)) new c.count-count.ensures.once i c.push_new.ensures

pub returns : goal.returns
returns c =
    let i = c.self.invariant in
    let g = c.self.inside.log in
    let new : item_at c.args.a g.items ≡ None = ap (λ (l : LogState). item_at c.args.a l.items) c.self.view_is ∙ c.requires.new in
    rw (← c.self.view_is) (new-view c.self.inside.marks.items c.self.inside.depth c.args.a c.args.v g _ c.push_new.result (omega (arith, i.0)) new c.count-count.ensures.once i.2 c.push_new.ensures)
