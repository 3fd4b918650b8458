use Rattle.std.proofs.Common.{ℕ, ◌≡◌, ◌<◌, ◌∙◌, ◌++◌, ◌∷◌, [], List, length, length-append, get_or, sym, ap, subst, arith, rules}
use Rattle.std.proofs.lemmas.List.{get_or-map, length-set}
use Rattle.std.specs.declared.alloc.Global.{Global}
use Rattle.std_alloc.specs.declared.boxed.Box.{Box}
use Rattle.tx_loops.specs.declared.looping_caller.LoopingCaller.{LoopingCaller}
use Rattle.nekchhaul_c.specs.Opens.{HoldsAt, IsAt, value_in, values_in}
use Rattle.nekchhaul_c.proofs.Dealing.{dealt-more, each-first, each-last, at-none}
use Rattle.nekchhaul_c.proofs.opening.deal.Goals as goal

pub loop-looping_caller-init : goal.loop-looping_caller-init
loop-looping_caller-init c =
    let bs = c.args.looping_callers.items in
    let full = c.requires in
    record {
      count = search rules;
      low = omega (arith, full);
      new = λ i b lt d. get_or-map value_in bs i b d lt;
      dealt = λ k d le lt. absurd (omega (arith, full, le, lt));
    }

pub loop-looping_caller-preserved : goal.loop-looping_caller-preserved
loop-looping_caller-preserved c =
    let at = c.loop-looping_caller.invariant in
    let ms = values_in c.args.looping_callers.items in
    let callers = c.loop-looping_caller.callers in
    let box = c.in-Some.looping_caller in
    let rest = c.pop.new.self.items in
    let place = c.len.result in
    let popped : c.loop-looping_caller.looping_callers.items ≡ rest ++ box ∷ [] = c.in-Some.ensures.items in
    let many = ap length popped ∙ length-append rest (box ∷ []) in
    let here : place ≡ length rest = c.len.ensures ∙ c.pop.new.self.ok.0 in
    let was = at.low in
    let low : place < length callers = omega (arith, was, many, here) in
    let kept = length-set callers place c.hold.new.self in
    let all = subst (λ (l : List (Box LoopingCaller Global)). (i : ℕ) (b : Box LoopingCaller Global) → i < length l → IsAt ms i (get_or l i b).value) popped at.new in
    let last : IsAt ms (length rest) box.value = each-last (λ i b. IsAt ms i b.value) rest box all in
    record {
      count = kept ∙ at.count;
      low = omega (arith, was, many, kept);
      new = each-first (λ i b. IsAt ms i b.value) rest box all;
      dealt =
          λ k d le lt.
          dealt-more (HoldsAt ms) place callers c.hold.new.self low
          (box.value, c.hold.ensures, subst (λ j. IsAt ms j box.value) (sym here) last)
          (λ j e l m. at.dealt j e (omega (arith, l, here, many)) m) k d (omega (arith, le, here)) lt;
    }

pub returns-clause-held : goal.returns-clause-held
returns-clause-held c =
    let empty = at-none _ _ c.pop.result c.in_default.not-Some c.pop.ensures.cases in
    let long : length c.loop-looping_caller.looping_callers.items ≡ 0 = sym c.loop-looping_caller.looping_callers.ok.0 ∙ empty.0 in
    λ i h lt. c.loop-looping_caller.invariant.dealt i h (omega (arith, long)) lt
