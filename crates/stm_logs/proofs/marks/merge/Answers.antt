use Rattle.std.proofs.Common.{◌≡◌, ◌-◌, length, get_or, set, sym, ap, subst, ◌∙◌, arith}
use Rattle.std.proofs.lemmas.List.{get_or_default}
use Rattle.stm_logs.specs.declared.marks.Mark.{Mark}
use Rattle.stm_logs.specs.LogStates.{keep, Pushes}
use Rattle.stm_logs.specs.Marks.{blank_mark}
use Rattle.stm_logs.proofs.MarkLemmas.{merged-next}
use Rattle.stm_logs.proofs.marks.merge.Goals as goal

pub loop-i-preserved : goal.loop-i-preserved
loop-i-preserved c =
    let ms = c.args.marks.now in
    let u = c.args.upper in
    let high = c.requires.high in
    let size : length (get_or ms u c.index-marks-upper.result).olds.items ≡ length (get_or ms u blank_mark).olds.items = ap
    (λ (m : Mark). length m.olds.items) (get_or_default ms u c.index-marks-upper.result blank_mark high) in
    ap (λ (m : Mark). let k : Mark = record { count = m.count; olds = c.push.new.self } in set c.loop-i.marks (u - 1) k) (sym c.index-marks-upper-in-loop-i-2.is)
    ∙ merged-next ms c.loop-i.marks u c.loop-i.i c.item-a.result c.index-marks-upper-in-loop-i.result c.index-marks-upper-in-loop-i-2.result
    c.push.new.self c.push.result c.requires.low high c.requires.can c.loop-i.invariant
    c.index-marks-upper-in-loop-i.is c.index-marks-upper-in-loop-i-2.is
    (omega (arith, c.loop-i-test.true, c.count-i-end.ensures.count, size))
    (c.item-a.ensures ∙ ap (λ (m : Mark). get_or m.olds.items c.loop-i.i (0, 0)) (sym c.index-marks-upper-in-loop-i.is))
    (subst
    (λ (m : Mark). Pushes m.olds c.item-a.result.0 (keep c.item-a.result.0 c.item-a.result.1 m.olds.items) c.push.result c.push.new.self)
    (sym c.index-marks-upper-in-loop-i-2.is) c.push.ensures)
