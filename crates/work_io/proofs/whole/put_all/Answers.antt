use Rattle.std.proofs.Common.{◌≤◌, ◌++◌, ◌-◌, ◌∙◌, ap, sym, subst, arith, length, length-drop, take}
use Rattle.std.proofs.lemmas.List.{take_rest}
use Rattle.std.proofs.Math.Seq.{take-add}
use Rattle.work_io.specs.Ends.{Gained}
use Rattle.work_io.proofs.Laws.{Gained-append}
use Rattle.work_io.proofs.whole.put_all.Goals as goal

pub loop-done-preserved : goal.loop-done-preserved
loop-done-preserved g c =
    let text = c.args.text.now in
    let done = c.loop-done.done in
    let count = c.in_ok-done.field-0 in
    let start = c.loop-done.invariant in
    let put = c.in_ok-done.ensures in
    let rest = take_rest text done in
    let within : count ≤ length text - done = omega (arith, put.count, length-drop done text, ap length rest) in
    record {
      within = omega (arith, within, start.within);
      gained = subst (Gained (g.K.Sink.held c.args.sink.now) (g.K.Sink.held c.put.new.self)) (ap (λ piece. take done text ++ take count piece) rest ∙ sym (take-add done count text))
          (Gained-append _ _ _ (take done text) _ start.gained put.gained);
      calm = put.calm ∙ start.calm;
    }
