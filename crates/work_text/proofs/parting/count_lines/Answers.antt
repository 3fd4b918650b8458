use Rattle.std.proofs.Common.{◌+◌, ◌∙◌, sym, subst}
use Rattle.work_text.proofs.PartingLaws.{Counted, counted-none, counted-line, counted-rest}
use Rattle.work_text.proofs.parting.count_lines.Goals as goal

pub loop-i-init : goal.loop-i-init
loop-i-init c = counted-none c.args.text.now

pub loop-i-preserved : goal.loop-i-preserved
loop-i-preserved c =
    let s = c.loop-i.rest.now in
    let i = c.in-Some.i in
    subst (λ t. Counted c.args.text.now t (c.loop-i.count + 1)) (sym c.past-rest.ensures)
    (counted-line c.args.text.now s c.loop-i.count i c.in-Some.ensures.1 c.in-Some.ensures.2 c.in-Some.ensures.0 c.loop-i.invariant)

pub returns-else-is_empty-clause-count : goal.returns-else-is_empty-clause-count
returns-else-is_empty-clause-count c =
    counted-rest c.args.text.now c.loop-i.rest.now c.loop-i.count c.in_default.ensures (sym c.is_empty.ensures ∙ c.if-is_empty.false) c.loop-i.invariant
