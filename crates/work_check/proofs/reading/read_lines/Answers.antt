use Rattle.std.proofs.Common.{◌≡◌, ◌-◌, ◌+◌, ◌∷◌, ◌∙◌, sym, ap, drop, length, length-drop, arith}
use Rattle.work_check.proofs.ReadingLaws.{read-wrong, read-more}
use Rattle.work_check.proofs.reading.read_lines.Goals as goal

pub returns-in-Err-Wrong : goal.returns-in-Err-Wrong
returns-in-Err-Wrong c =
    let s = c.loop-i.rest.now in
    let i = c.in-Some.i in
    c.loop-i.invariant.rest ∙ read-wrong c.loop-i.draft c.loop-i.number s i (drop (i + 1) s) c.in-Some.ensures.1 c.in-Some.ensures.2 (rw c.in-Err-Wrong.field-0-is at c.in-Err-Wrong.ensures)

pub loop-i-preserved : goal.loop-i-preserved
loop-i-preserved c =
    let s = c.loop-i.rest.now in
    let i = c.in-Some.i in
    let at = c.in-Some.ensures.2 ∙ ap (λ t. 10 ∷ t) (sym c.past-rest.ensures) in
    let room = c.loop-i.invariant.count in
    let within = c.in-Some.ensures.0 in
    let long : length c.past-rest.result.now ≡ length s - (i + 1) = ap length c.past-rest.ensures ∙ length-drop (i + 1) s in
    record {
      rest = c.loop-i.invariant.rest ∙ read-more c.loop-i.draft c.loop-i.number s i c.past-rest.result.now c.in-Some.ensures.1 at c.take.new.self c.in-Ok.ensures;
      count = omega arith;
    }
