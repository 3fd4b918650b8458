use Rattle.std.proofs.Common.{string_bytes, ◌∙◌}
use Rattle.std.proofs.lemmas.List.{drop_more}
use Rattle.draw_pictures.proofs.Drawing.{layer-step}
use Rattle.draw_pictures.proofs.picture.put_layer.Goals as goal

pub loop-row-preserved : goal.loop-row-preserved
loop-row-preserved c =
    layer-step c.args.sheet c.args.sort c.loop-row.row c.args.lines.now _ (string_bytes c.loop-row.text) (string_bytes c.put_at.new.text)
    (drop_more c.args.lines.now c.loop-row.row _ c.loop-row-test.true) c.in_ok-put_at.ensures
    ∙ c.loop-row.invariant
