use Rattle.std.proofs.Common.{◌<◌, ◌+◌, ◌∙◌, sym, arith, set, subst}
use Rattle.data_effects.specs.EffectLaws.{does-stay, does-change, turns-write, turns-then, under-after, same-trans}
use Rattle.data_queue.specs.declared.queue.Put.TheVariants.{Added, NoRoom}
use Rattle.data_queue.specs.Queues.{QueueFits, IsQueue, cell_at, put_in}
use Rattle.data_queue.specs.QueueLaws.{no-room, put-added, put-keeps, wrap-inside}
use Rattle.data_queue.proofs.QueueReads.{HasCount, HasFront, read-count, read-front, is-inside}
use Rattle.data_queue.proofs.queue.Queue.put.Goals as goal

pub returns-then-self-count-clause-reply : goal.returns-then-self-count-clause-reply
returns-then-self-count-clause-reply g c =
    let good = g.A.Access.good c.args.acc.now in
    let words = g.A.Access.words c.args.acc.now in
    let log = g.A.Access.log c.args.acc.now in
    let q = c.args.self.now in
    let n = c.in_ok-count.count in
    let one = c.in_ok-count.ensures in
    does-stay good words log (put_in q c.args.value) _ NoRoom (IsQueue q) c.requires.well one.value.0 (HasCount q n) (read-count good words log q c.requires.within c.requires.well _ n one.value)
    (λ m w p. no-room q m c.args.value n p.1 c.if-self-count.true)

pub returns-then-self-count-clause-well : goal.returns-then-self-count-clause-well
returns-then-self-count-clause-well g c =
    let q = c.args.self.now in
    let one = c.in_ok-count.ensures in
    under-after (g.A.Access.good c.args.acc.now) (g.A.Access.words c.args.acc.now) (g.A.Access.log c.args.acc.now) (put_in q c.args.value) _
    _ _ NoRoom (IsQueue q) (IsQueue q) (returns-then-self-count-clause-reply g c) c.requires.well one.good one.words
    (λ m len w. put-keeps q m c.args.value w (subst (QueueFits q) (sym len) c.requires.within) c.ranges.value.fits)

inside : (g : _) (c : goal.In_ok-front g) → c.in_ok-front.front < c.args.self.now.cells
inside g c =
    let one = c.in_ok-count.ensures in let two = c.in_ok-front.ensures in
    is-inside (g.A.Access.good c.args.acc.now) (g.A.Access.words c.args.acc.now) (g.A.Access.log c.args.acc.now) c.args.self.now c.requires.within c.requires.well _ _ c.in_ok-count.count c.in_ok-front.front _ _ one.value one.value.0 two.value
    (same-trans _ _ _ one.good two.good) (two.words ∙ one.words) two.explained

pub advance-end-requires-clause-from : goal.advance-end-requires-clause-from
advance-end-requires-clause-from g c = inside g c

end-inside : (g : _) (c : goal.After-write-arg-1 g) → c.advance-end.result < c.args.self.now.cells
end-inside g c =
    let one = c.in_ok-count.ensures in let two = c.in_ok-front.ensures in
    let q = c.args.self.now in
    let lt = is-inside (g.A.Access.good c.args.acc.now) (g.A.Access.words c.args.acc.now) (g.A.Access.log c.args.acc.now) q c.requires.within c.requires.well _ _ c.in_ok-count.count c.in_ok-front.front _ _ one.value one.value.0 two.value
    (same-trans _ _ _ one.good two.good) (two.words ∙ one.words) two.explained in
    let n = c.if-self-count.false in
    let i = wrap-inside q.cells c.in_ok-front.front c.in_ok-count.count lt (omega arith) in
    let e = c.advance-end.ensures in omega arith

pub overflow_add-self-3 : goal.overflow_add-self-3
overflow_add-self-3 g c = let i = end-inside g c in let w = c.requires.within.2 in omega arith

pub write-requires-clause-within : goal.write-requires-clause-within
write-requires-clause-within g c =
    let i = end-inside g c in let w = c.requires.within.1 in let a = c.in_ok-count.ensures.words in let b = c.in_ok-front.ensures.words in omega arith

pub returns-clause-reply : goal.returns-clause-reply
returns-clause-reply g c =
    let good = g.A.Access.good c.args.acc.now in
    let words = g.A.Access.words c.args.acc.now in
    let log = g.A.Access.log c.args.acc.now in
    let q = c.args.self.now in
    let n = c.in_ok-count.count in
    let f = c.in_ok-front.front in
    let e = c.advance-end.result in
    let v = c.args.value in
    let one = c.in_ok-count.ensures in let two = c.in_ok-front.ensures in
    let w1 = turns-write _ _ (cell_at q e) v c.in_ok-write.ensures.value in
    let w2 = turns-write _ _ (q.at + 1) (n + 1) c.in_ok-write-2.ensures.value in
    does-change good words log (put_in q v) _ _ Added (IsQueue q) c.requires.well (two.value.0 ∙ one.value.0) (HasFront q n f)
    (read-front good words log q c.requires.within c.requires.well _ _ n f one.value one.value.0 two.value)
    (λ m. set (set m (cell_at q e) v) (q.at + 1) (n + 1)) (turns-then _ _ _ _ _ w1 w2)
    (λ m w p. put-added q m v n f e p.1 p.2 c.if-self-count.false c.advance-end.ensures)

pub returns-clause-well : goal.returns-clause-well
returns-clause-well g c =
    let q = c.args.self.now in
    let q0 = c.in_ok-count.ensures in let q1 = c.in_ok-front.ensures in let q2 = c.in_ok-write.ensures in let q3 = c.in_ok-write-2.ensures in
    under-after (g.A.Access.good c.args.acc.now) (g.A.Access.words c.args.acc.now) (g.A.Access.log c.args.acc.now) (put_in q c.args.value) _ _ _ Added (IsQueue q) (IsQueue q) (returns-clause-reply g c) c.requires.well
    (same-trans _ _ _ q0.good (same-trans _ _ _ q1.good (same-trans _ _ _ q2.good q3.good))) (q3.words ∙ (q2.words ∙ (q1.words ∙ q0.words)))
    (λ m len w. put-keeps q m c.args.value w (subst (QueueFits q) (sym len) c.requires.within) c.ranges.value.fits)
