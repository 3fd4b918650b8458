use Rattle.std.proofs.Common.{◌∙◌}
use Rattle.std.proofs.lemmas.List.{drop_more}
use Rattle.draw_pictures.proofs.Slots.{rows-step}
use Rattle.draw_pictures.proofs.page.Page.put_own.Goals as goal

pub loop-row-preserved : goal.loop-row-preserved
loop-row-preserved c =
    rows-step c.loop-row.rows.items c.push.new.self.items c.as_slice-own.result.now c.loop-row.row-index _
    (drop_more c.as_slice-own.result.now c.loop-row.row-index _ c.loop-row-test.true) c.in_ok-push.ensures.items
    ∙ c.loop-row.invariant
