use Rattle.std.proofs.Common.{sym, ◌∙◌}
use Rattle.draw_pictures.specs.Parts.{is_shown}
use Rattle.draw_pictures.proofs.Parting.{row-shown}
use Rattle.draw_pictures.proofs.page.Page.put_shown.Goals as goal

pub returns-then-shows : goal.returns-then-shows
returns-then-shows c =
    row-shown (is_shown c.args.self.now.part) c.args.shown.now.items c.push.new.self.items c.args.row (sym c.shows.ensures ∙ c.if-shows.true) c.in_ok-push.ensures.items
