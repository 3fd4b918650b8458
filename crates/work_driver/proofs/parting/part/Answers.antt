use Rattle.std.proofs.Common.{◌≡◌, ◌<◌, ◌++◌, ◌∷◌, [], All, length, slice_set, slice_index_or, sym, ap, ◌∙◌, arith, subst, append_assoc}
use Rattle.std.specs.Vec.Iter.{into_iter_items}
use Rattle.work_trace.specs.Places.{caller_in}
use Rattle.work_driver.specs.Partings.{parted, parts-length}
use Rattle.work_driver.proofs.PartingLaws.{all-middle, given, part-at, written}
use Rattle.work_driver.proofs.parting.part.Goals as goal

pub give-requires : goal.give-requires
give-requires c =
    let at = c.loop-item in
    let x = c.in-Some.item in
    let steps : into_iter_items at.item-iterator ≡ x ∷ into_iter_items c.next.new.self = c.in-Some.ensures.steps.0 in
    let all = ap (λ l. at.yielded ++ l) (sym steps) ∙ (at.invariant.all ∙ c.into_iter-item-iterator.ensures.into_iter_gives.0) in
    let below : caller_in x < c.args.callers = all-middle (λ i. caller_in i < c.args.callers) at.yielded x (into_iter_items c.next.new.self) (subst (All (λ i. caller_in i < c.args.callers)) (sym all) c.requires) in
    let count = ap length (c.as_mut_slice.ensures.value ∙ at.invariant.given) ∙ parts-length 0 c.args.callers at.yielded in
    omega arith

pub loop-item-preserved : goal.loop-item-preserved
loop-item-preserved c =
    let at = c.loop-item in
    let x = c.in-Some.item in
    let steps : into_iter_items at.item-iterator ≡ x ∷ into_iter_items c.next.new.self = c.in-Some.ensures.steps.0 in
    let all = ap (λ l. at.yielded ++ l) (sym steps) ∙ (at.invariant.all ∙ c.into_iter-item-iterator.ensures.into_iter_gives.0) in
    let below : caller_in x < c.args.callers = all-middle (λ i. caller_in i < c.args.callers) at.yielded x (into_iter_items c.next.new.self) (subst (All (λ i. caller_in i < c.args.callers)) (sym all) c.requires) in
    let was = c.as_mut_slice.ensures.value ∙ at.invariant.given in
    let now : c.give.new.parts ≡ parted c.args.callers (at.yielded ++ x ∷ []) =
    c.in_ok-give.ensures ∙ (ap (λ l. slice_set l (caller_in x) (slice_index_or l (caller_in x) [] ++ x ∷ [])) was
    ∙ (ap (λ l. slice_set (parted c.args.callers at.yielded) (caller_in x) (l ++ x ∷ [])) (part-at c.args.callers at.yielded (caller_in x) [] below) ∙ sym (given c.args.callers at.yielded x below))) in
    let old = ap length at.invariant.given ∙ parts-length 0 c.args.callers at.yielded in
    let long = ap length now ∙ parts-length 0 c.args.callers (at.yielded ++ x ∷ []) in
    let slice = ap length c.as_mut_slice.ensures.value in
    let len = c.as_mut_slice.ensures.len in
    record {
      all = append_assoc at.yielded (x ∷ []) _ ∙ rw (← steps) at.invariant.all;
      given = written at.parts.len c.give.new.parts at.parts.items (omega arith) (omega arith) ∙ now;
      len = (let was_len = at.invariant.len in let gone = c.in-Some.ensures.steps.1 in let short = ap length steps in omega arith);
    }
