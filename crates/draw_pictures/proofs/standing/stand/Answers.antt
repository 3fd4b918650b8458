use Rattle.std.proofs.Common.{suc, ◌≡◌, ◌+◌, map, length-set, refl, ap, ◌∙◌, arith}
use Rattle.std.proofs.lemmas.List.{length-map}
use Rattle.draw_pictures.specs.Shapes.{box_of}
use Rattle.draw_pictures.specs.Standing.{after_row, standing_of}
use Rattle.draw_pictures.proofs.Slots.{after_first, after-more, after-all}
use Rattle.draw_pictures.proofs.standing.stand.Goals as goal

pub loop-i-init : goal.loop-i-init
loop-i-init c = record { are = refl; long = refl }

pub loop-i-preserved : goal.loop-i-preserved
loop-i-preserved c =
    let i = c.loop-i.i in
    let b = box_of c.args.row in
    let ss = map standing_of c.args.slots.now.items in
    let inv = c.loop-i.invariant in
    let long = inv.long in
    let len = c.len-i-end.ensures in
    let lt = c.loop-i-test.true in
    let next : suc i ≡ i + 1 = omega arith in
    record {
      are = after-more b i c.loop-i.slots.items ss c.index.result.now c.after.result (omega (arith, long, len, lt)) inv.are (c.after.ensures ∙ ap (λ x. after_row b (standing_of x)) c.index.ensures) ∙ ap (λ k. after_first b k ss) next;
      long = length-set c.loop-i.slots.items i c.after.result ∙ long;
    }

pub returns : goal.returns
returns c =
    let b = box_of c.args.row in
    let ss = map standing_of c.args.slots.now.items in
    let many = length-map c.args.slots.now.items standing_of in
    let len = c.len-i-end.ensures in
    let ge = c.loop-i-test.false in
    c.loop-i.invariant.are ∙ after-all b c.loop-i.i ss (omega (arith, many, len, ge))
