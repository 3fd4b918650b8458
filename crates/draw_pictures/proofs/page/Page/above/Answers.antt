use Rattle.std.proofs.Common.{◌∙◌}
use Rattle.std.proofs.lemmas.List.{drop_more}
use Rattle.draw_pictures.specs.Parts.{is_shown}
use Rattle.draw_pictures.proofs.Parting.{shown-step}
use Rattle.draw_pictures.proofs.page.Page.above.Goals as goal

pub loop-row-preserved : goal.loop-row-preserved
loop-row-preserved c =
    shown-step (is_shown c.args.self.now.part) c.loop-row.shown.items c.put_shown.new.shown.items c.as_slice-rows.result.now c.loop-row.row-index _
    (drop_more c.as_slice-rows.result.now c.loop-row.row-index _ c.loop-row-test.true) c.in_ok-put_shown.ensures
    ∙ c.loop-row.invariant
