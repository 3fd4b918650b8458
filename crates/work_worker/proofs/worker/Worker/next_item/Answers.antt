use Rattle.std.proofs.Common.{◌≡◌, List, [], ◌∷◌, refl, rules, subst, sym}
use Rattle.std.specs.List.{slice_get}
use Rattle.std.specs.Prelude.{None}
use Rattle.work_script.specs.declared.workload.Item.{Item}
use Rattle.work_trace.specs.Turns.{BeforeSwitch, MustSwitch}
use Rattle.work_worker.proofs.TurnLaws.{turned-idle}
use Rattle.work_worker.proofs.worker.Worker.next_item.Goals as goal

none-first : (items : List Item) → slice_get items 0 ≡ None → items ≡ []
none-first [] e = refl
none-first (i ∷ items) e = absurd cc

pub returns-in-None : goal.returns-in-None
returns-in-None g c =
    let u = c.args.self.now in
    let first : slice_get u.items_left.now 0 ≡ None = search rules in
    let none : u.items_left.now ≡ [] = none-first u.items_left.now first in
    record { turned = turned-idle (g.K.MemRule.good c.args.stm.now.rule) c.args.stm.now u c.requires.sound c.requires.between none c.requires.unasked }

pub close-requires-clause-here : goal.close-requires-clause-here
close-requires-clause-here g c =
    let u = c.args.self.now in
    let here : BeforeSwitch u.items_left.now = search rules in
    subst (λ chosen. MustSwitch chosen u.items_left.now) (sym c.requires.unasked) here
