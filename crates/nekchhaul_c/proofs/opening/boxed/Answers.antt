use Rattle.std.proofs.Common.{length, ◌≡◌, ◌∙◌, ◌++◌, ◌∷◌, [], sym, ap, arith, append_assoc}
use Rattle.std.proofs.lemmas.List.{map-append}
use Rattle.std.specs.Vec.Iter.{into_iter_items}
use Rattle.tx_loops.specs.declared.looping_caller.LoopingCaller.{LoopingCaller}
use Rattle.nekchhaul_c.specs.Opens.{value_in, values_in}
use Rattle.nekchhaul_c.proofs.opening.boxed.Goals as goal

pub loop-looping_caller-preserved : goal.loop-looping_caller-preserved
loop-looping_caller-preserved c =
    let at = c.loop-looping_caller in
    let m = c.in-Some.looping_caller in
    let rest = into_iter_items c.next.new.self in
    let steps : into_iter_items at.looping_caller-iterator ≡ m ∷ rest = c.in-Some.ensures.steps.0 in
    let items = at.boxes.items in
    let pushed : values_in c.push.new.self.items ≡ values_in items ++ c.in-Ok.looping_caller.value ∷ [] = ap values_in c.in-Ok-push.ensures.items ∙ map-append value_in items _ in
    let same : c.in-Ok.looping_caller.value ≡ m = c.in-Ok.ensures.ok in
    record {
      values = ap (λ l. l ++ rest) (pushed ∙ ap (λ (k : LoopingCaller). values_in items ++ k ∷ []) same)
          ∙ (append_assoc (values_in items) (m ∷ []) rest ∙ (ap (λ l. values_in items ++ l) (sym steps) ∙ at.invariant.values));
      len = (let was = at.invariant.len in let gone = c.in-Some.ensures.steps.1 in let short = ap length steps in omega arith);
    }
