use Rattle.std.proofs.Common.{List, ap, ◌∙◌}
use Rattle.draw_pictures.specs.declared.row.Row.{Row}
use Rattle.draw_pictures.specs.Parts.{leaf_by}
use Rattle.draw_pictures.specs.Shapes.{boxes_of}
use Rattle.draw_pictures.specs.Texts.{svg_of}
use Rattle.draw_core.proofs.PageDrawn.{drawn-by}
use Rattle.draw_core.proofs.draw.drawn_page.Goals as goal

pub returns : goal.returns
returns c = λ steps s.
    drawn-by c.args.made.now steps s c.in_ok-rows.rows.items c.put_own.new.rows.items c.leaf-leaf.result _ (c.fits.ensures.few c.if-not-fits.false) c.in_ok-rows.ensures c.in_ok-put_own.ensures
    (c.leaf-leaf.ensures ∙ ap (λ (l : List Row). leaf_by c.args.made.now.part (boxes_of l)) c.as_slice.ensures.value)
    (c.in_ok-picture.ensures.is ∙ ap (λ (l : List Row). svg_of c.leaf-leaf.result (boxes_of l)) c.as_slice-2.ensures.value) c.in_ok-picture.ensures.markup
