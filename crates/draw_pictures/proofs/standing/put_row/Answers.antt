use Rattle.std.proofs.Common.{◌≡◌, ◌++◌, [], ◌∷◌, sym, ap, ◌∙◌}
use Rattle.std.specs.Prelude.{Some}
use Rattle.draw_pictures.specs.Shapes.{boxes_of}
use Rattle.draw_pictures.specs.Standing.{box_in, row_in}
use Rattle.draw_pictures.proofs.Slots.{boxes-append}
use Rattle.draw_pictures.proofs.standing.put_row.Goals as goal

pub returns-in_ok-push : goal.returns-in_ok-push
returns-in_ok-push c =
    let old = c.args.rows.now.items in
    let row = c.in-Some.row in
    let is = c.in-Some.is in
    let e : c.args.row ≡ Some row = cc in
    ap boxes_of c.in_ok-push.ensures.items ∙ (boxes-append old (row ∷ []) ∙ ap (λ o. boxes_of old ++ row_in (box_in o)) (sym e))
