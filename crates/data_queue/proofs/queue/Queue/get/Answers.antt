use Rattle.std.proofs.Common.{ℕ, ◌≢◌, ◌<◌, ◌+◌, ◌-◌, ◌∙◌, sym, arith, set, subst}
use Rattle.std.specs.Prelude.{Some, None}
use Rattle.data_effects.specs.EffectLaws.{does-stay, does-change, turns-write, turns-then, under-after, same-trans}
use Rattle.data_queue.specs.Queues.{QueueFits, IsQueue, cell_at, got_in}
use Rattle.data_queue.specs.QueueLaws.{got-none, got-some, got-keeps}
use Rattle.data_queue.proofs.QueueReads.{HasCount, HasFirst, read-count, read-first, is-inside, is-small}
use Rattle.data_queue.proofs.queue.Queue.get.Goals as goal

pub returns-then-count-eq0-clause-reply : goal.returns-then-count-eq0-clause-reply
returns-then-count-eq0-clause-reply g c =
    let good = g.A.Access.good c.args.acc.now in
    let words = g.A.Access.words c.args.acc.now in
    let log = g.A.Access.log c.args.acc.now in
    let q = c.args.self.now in
    let n = c.in_ok-count.count in
    let one = c.in_ok-count.ensures in
    does-stay good words log (got_in q) _ None (IsQueue q) c.requires.well one.value.0 (HasCount q n) (read-count good words log q c.requires.within c.requires.well _ n one.value)
    (λ m w p. got-none q m n p.1 c.if-count-eq0.true)

pub returns-then-count-eq0-clause-well : goal.returns-then-count-eq0-clause-well
returns-then-count-eq0-clause-well g c =
    let q = c.args.self.now in
    let one = c.in_ok-count.ensures in
    under-after (g.A.Access.good c.args.acc.now) (g.A.Access.words c.args.acc.now) (g.A.Access.log c.args.acc.now) (got_in q) _ _ _ None (IsQueue q) (IsQueue q) (returns-then-count-eq0-clause-reply g c) c.requires.well one.good one.words
    (λ m len w. got-keeps q m w (subst (QueueFits q) (sym len) c.requires.within))

inside : (g : _) (c : goal.In_ok-front g) → c.in_ok-front.front < c.args.self.now.cells
inside g c =
    let one = c.in_ok-count.ensures in let two = c.in_ok-front.ensures in
    is-inside (g.A.Access.good c.args.acc.now) (g.A.Access.words c.args.acc.now) (g.A.Access.log c.args.acc.now) c.args.self.now c.requires.within c.requires.well _ _ c.in_ok-count.count c.in_ok-front.front _ _ one.value one.value.0 two.value
    (same-trans _ _ _ one.good two.good) (two.words ∙ one.words) two.explained

pub overflow_add-cell-2 : goal.overflow_add-cell-2
overflow_add-cell-2 g c = let i = inside g c in let w = c.requires.within.2 in omega arith

pub read-requires-3-clause-within : goal.read-requires-3-clause-within
read-requires-3-clause-within g c =
    let one = c.in_ok-count.ensures in let two = c.in_ok-front.ensures in
    let i = is-inside (g.A.Access.good c.args.acc.now) (g.A.Access.words c.args.acc.now) (g.A.Access.log c.args.acc.now) c.args.self.now c.requires.within c.requires.well _ _ c.in_ok-count.count c.in_ok-front.front _ _ one.value one.value.0 two.value
    (same-trans _ _ _ one.good two.good) (two.words ∙ one.words) two.explained in
    let w = c.requires.within.1 in let a = one.words in let b = two.words in omega arith

inside-found : (g : _) (c : goal.In_ok-found g) → c.in_ok-front.front < c.args.self.now.cells
inside-found g c =
    let one = c.in_ok-count.ensures in let two = c.in_ok-front.ensures in
    is-inside (g.A.Access.good c.args.acc.now) (g.A.Access.words c.args.acc.now) (g.A.Access.log c.args.acc.now) c.args.self.now c.requires.within c.requires.well _ _ c.in_ok-count.count c.in_ok-front.front _ _ one.value one.value.0 two.value
    (same-trans _ _ _ one.good two.good) (two.words ∙ one.words) two.explained

some-found : (n : ℕ) → n ≢ 0 → 0 < n
some-found n h = omega arith

pub overflow_cast-value : goal.overflow_cast-value
overflow_cast-value g c =
    let one = c.in_ok-count.ensures in let two = c.in_ok-front.ensures in let three = c.in_ok-found.ensures in
    let z = c.if-count-eq0.false in
    let small = is-small (g.A.Access.good c.args.acc.now) (g.A.Access.words c.args.acc.now) (g.A.Access.log c.args.acc.now) c.args.self.now
    c.requires.within c.requires.well _ _ _ c.in_ok-count.count c.in_ok-front.front c.in_ok-found.found _ _ (inside-found g c) (omega arith)
    one.value one.value.0 two.value (two.value.0 ∙ one.value.0) three.value (same-trans _ _ _ one.good (same-trans _ _ _ two.good three.good)) (three.words ∙ (two.words ∙ one.words)) three.explained in
    omega arith

pub advance-next-requires-clause-from : goal.advance-next-requires-clause-from
advance-next-requires-clause-from g c = inside-found g c

pub write-requires-clause-within : goal.write-requires-clause-within
write-requires-clause-within g c =
    let one = c.in_ok-count.ensures in let two = c.in_ok-front.ensures in
    let i = is-inside (g.A.Access.good c.args.acc.now) (g.A.Access.words c.args.acc.now) (g.A.Access.log c.args.acc.now) c.args.self.now c.requires.within c.requires.well _ _ c.in_ok-count.count c.in_ok-front.front _ _ one.value one.value.0 two.value
    (same-trans _ _ _ one.good two.good) (two.words ∙ one.words) two.explained in
    let w = c.requires.within.1 in let a = one.words in let b = two.words in let d = c.in_ok-found.ensures.words in omega arith

pub returns-clause-reply : goal.returns-clause-reply
returns-clause-reply g c =
    let good = g.A.Access.good c.args.acc.now in
    let words = g.A.Access.words c.args.acc.now in
    let log = g.A.Access.log c.args.acc.now in
    let q = c.args.self.now in
    let n = c.in_ok-count.count in
    let f = c.in_ok-front.front in
    let x = c.in_ok-found.found in
    let e = c.advance-next.result in
    let one = c.in_ok-count.ensures in let two = c.in_ok-front.ensures in let three = c.in_ok-found.ensures in
    let lt = is-inside good words log q c.requires.within c.requires.well _ _ n f _ _ one.value one.value.0 two.value (same-trans _ _ _ one.good two.good) (two.words ∙ one.words) two.explained in
    let z = c.if-count-eq0.false in
    let w1 = turns-write _ _ (cell_at q f) 0 c.in_ok-write.ensures.value in
    let w2 = turns-write _ _ q.at e c.in_ok-write-2.ensures.value in
    let w3 = turns-write _ _ (q.at + 1) (n - 1) c.in_ok-write-3.ensures.value in
    does-change good words log (got_in q) _ _ (Some x) (IsQueue q) c.requires.well (three.value.0 ∙ (two.value.0 ∙ one.value.0)) (HasFirst q n f x)
    (read-first good words log q c.requires.within c.requires.well _ _ _ n f x lt one.value one.value.0 two.value (two.value.0 ∙ one.value.0) three.value)
    (λ m. set (set (set m (cell_at q f) 0) q.at e) (q.at + 1) (n - 1)) (turns-then _ _ _ _ _ (turns-then _ _ _ _ _ w1 w2) w3)
    (λ m w p. got-some q m n f x e p.1 p.2 p.3 (omega arith) c.advance-next.ensures)

pub returns-clause-well : goal.returns-clause-well
returns-clause-well g c =
    let q = c.args.self.now in
    let q0 = c.in_ok-count.ensures in let q1 = c.in_ok-front.ensures in let q2 = c.in_ok-found.ensures in let q3 = c.in_ok-write.ensures in let q4 = c.in_ok-write-2.ensures in let q5 = c.in_ok-write-3.ensures in
    under-after (g.A.Access.good c.args.acc.now) (g.A.Access.words c.args.acc.now) (g.A.Access.log c.args.acc.now) (got_in q) _ _ _ _ (IsQueue q) (IsQueue q) (returns-clause-reply g c) c.requires.well
    (same-trans _ _ _ q0.good (same-trans _ _ _ q1.good (same-trans _ _ _ q2.good (same-trans _ _ _ q3.good (same-trans _ _ _ q4.good q5.good))))) (q5.words ∙ (q4.words ∙ (q3.words ∙ (q2.words ∙ (q1.words ∙ q0.words)))))
    (λ m len w. got-keeps q m w (subst (QueueFits q) (sym len) c.requires.within))
