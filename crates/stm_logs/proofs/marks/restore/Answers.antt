use Rattle.std.proofs.Common.{ℕ, ◌≡◌, ◌+◌, List, map, take, length, sym, ap, ◌∙◌, arith}
use Rattle.std.proofs.lemmas.List.{length-map}
use Rattle.stm_logs.specs.LogStates.{LogState}
use Rattle.stm_logs.specs.Marks.{old_or}
use Rattle.stm_logs.proofs.MarkLemmas.{old-none, restored-next}
use Rattle.stm_logs.proofs.marks.restore.Goals as goal

pub loop-i-init : goal.loop-i-init
loop-i-init c = ap (λ (ws : List (ℕ × ℕ)). let l : LogState = record c.args.log.now { items = ws } in l) (sym (old-none c.args.log.now.items))

pub loop-i-preserved : goal.loop-i-preserved
loop-i-preserved c =
    let ms = c.args.mark.now.olds.items in
    let s = c.requires.saves in
    let is = c.loop-i.invariant in
    restored-next ms c.args.log.now.items c.loop-i.i c.item-a.result c.loop-i.log c.push.new.self c.push.result s.once s.there
    c.count-count.ensures.once (omega (arith, c.loop-i-test.true, c.count-i-end.ensures.count)) (sym c.item-a.ensures)
    (ap (λ (l : LogState). l.items) is) c.push.ensures
    ∙ ap (λ (l : LogState). let k : LogState = record l { items = map (old_or (take (c.loop-i.i + 1) ms)) c.args.log.now.items } in k) is

pub truncate-requires : goal.truncate-requires
truncate-requires c =
    let ws = c.args.log.now.items in
    let f = old_or (take c.loop-i.i c.args.mark.now.olds.items) in
    let is : c.loop-i.log.items ≡ map f ws = ap (λ (l : LogState). l.items) c.loop-i.invariant in
    let size : length c.loop-i.log.items ≡ length ws = ap length is ∙ length-map ws f in
    let low = c.requires.saves.count in
    omega arith
