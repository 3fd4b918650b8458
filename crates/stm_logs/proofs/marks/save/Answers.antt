use Rattle.std.proofs.Common.{ℕ, ◌≡◌, sym, ap, ◌∙◌, arith}
use Rattle.std.specs.Prelude.{Option, Some, is_some, IsSome}
use Rattle.stm_model.specs.Memories.{item_at}
use Rattle.stm_logs.specs.declared.marks.Mark.{Mark}
use Rattle.stm_logs.specs.LogStates.{LogState}
use Rattle.stm_logs.specs.Marks.{keep_some}
use Rattle.stm_logs.proofs.MarkLemmas.{push-kept}
use Rattle.stm_logs.proofs.marks.save.Goals as goal

pub returns-in-Some : goal.returns-in-Some
returns-in-Some c =
    let m = c.args.mark.now in
    let ws = c.args.log.now.items in
    let a = c.args.a in
    let s = c.requires.saves in
    let found : item_at a ws ≡ Some c.in-Some.old = sym c.find.ensures ∙ c.in-Some.is in
    let some : IsSome (item_at a ws) = ap (λ (o : Option ℕ). is_some o) found in
    let done = push-kept c.push.result m.olds c.push.new.self a c.in-Some.old ws s.once s.there some (omega (arith, c.count-count.ensures.count, c.count-count.ensures.within, c.requires.room)) c.push.ensures in
    ap (λ (l : LogState). let k : Mark = record m { olds = l } in k) done ∙ ap (λ (o : Option ℕ). let k : Mark = record m { olds = record m.olds { items = keep_some o a m.olds.items } } in k) (sym found)
