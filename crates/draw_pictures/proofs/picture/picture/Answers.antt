use Rattle.std.proofs.Common.{◌≡◌, rules, subst, sym}
use Rattle.draw_pictures.specs.Markup.{IsMarkup}
use Rattle.draw_pictures.specs.Shapes.{boxes_of}
use Rattle.draw_pictures.specs.Texts.{svg_of}
use Rattle.draw_pictures.proofs.Pictured.{picture-is-markup}
use Rattle.draw_pictures.proofs.picture.picture.Goals as goal

pub returns-clause-markup : goal.returns-clause-markup
returns-clause-markup c =
    let is : c.into_bytes.result.items ≡ svg_of c.args.leaf (boxes_of c.args.lines.now) = search rules in
    subst IsMarkup (sym is) (picture-is-markup c.args.leaf c.args.lines.now)
