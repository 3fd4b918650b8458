use Rattle.std.proofs.Common.{◌+◌, drop, take, sym, ap, ◌∙◌}
use Rattle.draw_core.specs.Chosen.{dotted}
use Rattle.draw_core.proofs.Cutting.{lines-none, lines-some}
use Rattle.draw_core.proofs.chosen.lines_of.Goals as goal

pub returns-in-None : goal.returns-in-None
returns-in-None c = sym (lines-none c.args.bytes.now c.in-None.ensures)

pub returns-in-Some : goal.returns-in-Some
returns-in-Some c =
    let s = c.args.bytes.now in
    let i = c.in-Some.dot in
    c.dotted.ensures ∙ (ap (λ r. dotted (take i s) r) c.past.ensures ∙ sym (lines-some s (drop (i + 1) s) i c.in-Some.ensures.1 c.in-Some.ensures.2))
