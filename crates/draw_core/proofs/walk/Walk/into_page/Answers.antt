use Rattle.draw_pictures.specs.Shapes.{line_boxes}
use Rattle.draw_core.proofs.WalkLaws.{none-by, unfit-all, walked-all, walked-by}
use Rattle.draw_core.proofs.walk.Walk.into_page.Goals as goal

pub returns-in-Some-clause-fault : goal.returns-in-Some-clause-fault
returns-in-Some-clause-fault c = λ lines w. unfit-all c.args.self.misfit c.in-Some.unfit c.args.self lines c.in-Some.is w

pub returns-clause-told : goal.returns-clause-told
returns-clause-told c = λ lines w.
    let h = walked-by c.args.self.misfit c.args.self lines (none-by c.args.self.misfit c.in_default.not-Some) w in
    record { steps = h.steps; are = walked-all c.args.self lines h; settled = c.in_ok-end.ensures.is (line_boxes 1 h.steps) h.page }
