use Rattle.std.proofs.Common.{◌+◌, ◌-◌, ℕ, Some, sym, ap, ◌∙◌, arith}
use Rattle.draw_pictures.proofs.Boxes.{length-boxes, part-some, part-none}
use Rattle.draw_pictures.proofs.shape.part.Goals as goal

pub overflow_sub-result : goal.overflow_sub-result
overflow_sub-result c =
    let same = length-boxes c.args.rest.now in
    let within = c.before-end.ensures.within in
    let rows = c.more.ensures in
    let lt = c.if-first-end.true in
    omega (arith, same, within, rows, lt)

pub returns-then-first-end : goal.returns-then-first-end
returns-then-first-end c =
    let k = c.before-end.result in
    let m = c.before-first.result in
    ap (λ (n : ℕ). Some (c.args.row + 1 + m, n - (m + 1))) c.more.ensures
    ∙ sym (part-some c.args.sought c.args.row c.args.lane k m c.args.rest.now c.before-end.ensures.place c.before-first.ensures.place c.if-first-end.true)

pub returns-else-first-end : goal.returns-else-first-end
returns-else-first-end c =
    sym (part-none c.args.sought c.args.row c.args.lane c.before-end.result c.before-first.result c.args.rest.now c.before-end.ensures.place c.before-first.ensures.place c.if-first-end.false)
