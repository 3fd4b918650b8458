use Rattle.std.proofs.Common.{◌≡◌, List, replicate, sym, ap, ◌∙◌, subst}
use Rattle.draw_core.specs.declared.cursor.Cursor.{Cursor}
use Rattle.draw_core.specs.Walks.{stands_of, AreWithin}
use Rattle.draw_core.proofs.Walking.{first_cursor, first-stands, first-within}
use Rattle.draw_core.proofs.walk.first_cursors.Goals as goal

pub returns-clause-is : goal.returns-clause-is
returns-clause-is c = λ items.
    let is : c.in_ok-vec.field-0.items ≡ replicate c.args.callers first_cursor = c.in_ok-vec.ensures.items_if_clones_equal (λ y e. e) in
    ap (λ (l : List Cursor). stands_of items 0 l) is ∙ first-stands items 0 c.args.callers

pub returns-clause-within : goal.returns-clause-within
returns-clause-within c = λ items.
    let is : c.in_ok-vec.field-0.items ≡ replicate c.args.callers first_cursor = c.in_ok-vec.ensures.items_if_clones_equal (λ y e. e) in
    subst (λ (l : List Cursor). AreWithin items l) (sym is) (first-within items c.args.callers)
