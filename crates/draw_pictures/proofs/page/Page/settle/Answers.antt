use Rattle.std.proofs.Common.{◌≡◌, ◌++◌, [], ◌∷◌, length, map, true, false, sym, ap, ◌∙◌, arith, length-append}
use Rattle.draw_pictures.specs.Shapes.{Box, box_of, boxes_of}
use Rattle.draw_pictures.specs.Parts.{is_before, is_own, own_rows, rows_before}
use Rattle.draw_pictures.specs.Standing.{after_row, none_stand, stood}
use Rattle.draw_pictures.proofs.Parting.{before-is-not-own, kept-before, kept-one, left-out}
use Rattle.draw_pictures.proofs.Paging.{stood-more}
use Rattle.draw_pictures.proofs.Slots.{boxes-append}
use Rattle.draw_pictures.proofs.page.Page.settle.Goals as goal

pub returns-then-is_after-clause-is : goal.returns-then-is_after-clause-is
returns-then-is_after-clause-is c = λ rows s.
    let b = box_of c.args.row in
    let part = c.args.self.now.part in
    let before : is_before part.lines b.number ≡ true = sym c.is_after.ensures ∙ c.if-is_after.true in
    let same = left-out (is_own part) rows b (before-is-not-own part b before) in
    let came = kept-one (λ (x : Box). is_before part.lines x.number) rows b before in
    record {
      count = s.count ∙ ap length (sym same);
      above = c.stand.ensures
          ∙ (ap (map (after_row b)) s.above ∙ (sym (stood-more none_stand (rows_before part rows) b) ∙ ap (stood none_stand) (sym came)));
      own = λ k. s.own k ∙ sym same;
    }

pub returns-clause-is : goal.returns-clause-is
returns-clause-is c = λ rows s.
    let b = box_of c.args.row in
    let part = c.args.self.now.part in
    let apart : is_before part.lines b.number ≡ false = sym c.is_after.ensures ∙ c.if-is_after.false in
    let mine : is_own part b ≡ true = sym c.has.ensures ∙ c.if-not-has.false in
    let more = kept-one (is_own part) rows b mine in
    let same = left-out (λ (x : Box). is_before part.lines x.number) rows b apart in
    let n = length-append (own_rows part rows) (b ∷ []) in
    let long = ap length more in
    let count = s.count in
    record {
      count = omega (arith, n, long, count);
      above = s.above ∙ ap (stood none_stand) (sym same);
      own = λ k.
          ap boxes_of c.in_ok-push.ensures.items
          ∙ (boxes-append c.args.self.now.own.items (c.args.row ∷ []) ∙ (ap (λ l. l ++ b ∷ []) (s.own (kept-before part.lines c.args.self.now.count k)) ∙ sym more));
    }
