use Rattle.std.proofs.Common.{◌≡◌, ◌<◌, ◌≤◌, ◌+◌, ◌-◌, ◌%◌, ◌^◌, ◌∙◌, refl, get_or, arith}
use Rattle.data_effects.specs.EffectLaws.{shows-none, shows-read, shows-then, shown, same-trans}
use Rattle.data_tree.proofs.ShapeWalks.{cell-inside}
use Rattle.data_sums.specs.Sums.{pool, IsSumMap, tag, tag_at, left_at, right_at, sum_at, sum_under, passed}
use Rattle.data_sums.proofs.SumBelow.{pass-left, pass-right}
use Rattle.data_sums.proofs.sum_map.SumMap.pass.Goals as goal

-- A CELL ABOVE THE BOUND
pub returns-then-tag-bound-clause-passes : goal.returns-then-tag-bound-clause-passes
returns-then-tag-bound-clause-passes g c =
    let good = g.A.Access.good c.args.acc.now in
    let words = g.A.Access.words c.args.acc.now in
    let log = g.A.Access.log c.args.acc.now in
    let r = c.args.self.now in
    let j = c.args.cell in
    let t = c.in_ok-tag.tag in
    let u = c.in_ok-next.next in
    let one = c.in_ok-tag.ensures in
    let two = c.in_ok-next.ensures in
    let w = c.requires.within in
    let le = c.if-tag-bound.true in
    let q1 = shows-read good words log log _ (IsSumMap r) (λ m. t ≡ tag r m j) (tag_at r j) t (shows-none good words log (IsSumMap r) c.requires.well) refl (omega arith) one.value (λ m h x. x) in
    shows-read good words log _ _ (λ m. t ≡ tag r m j) (λ m. record { next = u; added = 0 } ≡ passed r m c.args.bound j) (left_at r j) u q1 one.value.0 (omega arith) two.value (λ m h x. pass-left r m c.args.bound j t u h le x)

pub returns-then-tag-bound-clause-inside : goal.returns-then-tag-bound-clause-inside
returns-then-tag-bound-clause-inside g c =
    let good = g.A.Access.good c.args.acc.now in
    let words = g.A.Access.words c.args.acc.now in
    let log = g.A.Access.log c.args.acc.now in
    let r = c.args.self.now in
    let j = c.args.cell in
    let u = c.in_ok-next.next in
    let one = c.in_ok-tag.ensures in
    let two = c.in_ok-next.ensures in
    let w = c.requires.within in
    let q1 = shows-read good words log log _ (IsSumMap r) (IsSumMap r) (tag_at r j) c.in_ok-tag.tag (shows-none good words log (IsSumMap r) c.requires.well) refl (omega arith) one.value (λ m h x. h) in
    let q2 = shows-read good words log _ _ (IsSumMap r) (λ m. u ≤ r.cells) (left_at r j) u q1 one.value.0 (omega arith) two.value (λ m h x. let le = (cell-inside (pool r) m h.0 j h.1.shape w.0).0 in omega arith) in
    shown good words log (g.A.Access.log c.read-then-tag-bound.new.self) _ _ (λ m. u ≤ r.cells) (u ≤ r.cells) q2 (same-trans _ _ _ one.good two.good) (two.words ∙ one.words) two.explained (λ m h. h)

-- A CELL BELOW IT
pub sum_under-requires-clause-within : goal.sum_under-requires-clause-within
sum_under-requires-clause-within g c =
    let good = g.A.Access.good c.args.acc.now in
    let words = g.A.Access.words c.args.acc.now in
    let log = g.A.Access.log c.args.acc.now in
    let r = c.args.self.now in
    let j = c.args.cell in
    let u = c.in_ok-next-2.next in
    let one = c.in_ok-tag.ensures in
    let two = c.in_ok-whole.ensures in
    let three = c.in_ok-next-2.ensures in
    let w = c.requires.within in
    let q1 = shows-read good words log log _ (IsSumMap r) (IsSumMap r) (tag_at r j) c.in_ok-tag.tag (shows-none good words log (IsSumMap r) c.requires.well) refl (omega arith) one.value (λ m h x. h) in
    let q2 = shows-read good words log _ _ (IsSumMap r) (IsSumMap r) (sum_at r j) c.in_ok-whole.whole q1 one.value.0 (omega arith) two.value (λ m h x. h) in
    let q3 = shows-read good words log _ _ (IsSumMap r) (λ m. u ≤ r.cells) (right_at r j) u q2 (two.value.0 ∙ one.value.0) (omega arith) three.value (λ m h x. let le = (cell-inside (pool r) m h.0 j h.1.shape w.0).1 in omega arith) in
    let words' = three.words ∙ (two.words ∙ one.words) in
    let most = shown good words log (g.A.Access.log c.read-3.new.self) _ _ (λ m. u ≤ r.cells) (u ≤ r.cells) q3 (same-trans _ _ _ one.good (same-trans _ _ _ two.good three.good)) words' three.explained (λ m h. h) in
    (most, (omega arith, w.1.1))

pub returns-clause-inside : goal.returns-clause-inside
returns-clause-inside g c =
    let good = g.A.Access.good c.args.acc.now in
    let words = g.A.Access.words c.args.acc.now in
    let log = g.A.Access.log c.args.acc.now in
    let r = c.args.self.now in
    let j = c.args.cell in
    let u = c.in_ok-next-2.next in
    let one = c.in_ok-tag.ensures in
    let two = c.in_ok-whole.ensures in
    let three = c.in_ok-next-2.ensures in
    let w = c.requires.within in
    let q1 = shows-read good words log log _ (IsSumMap r) (IsSumMap r) (tag_at r j) c.in_ok-tag.tag (shows-none good words log (IsSumMap r) c.requires.well) refl (omega arith) one.value (λ m h x. h) in
    let q2 = shows-read good words log _ _ (IsSumMap r) (IsSumMap r) (sum_at r j) c.in_ok-whole.whole q1 one.value.0 (omega arith) two.value (λ m h x. h) in
    let q3 = shows-read good words log _ _ (IsSumMap r) (λ m. u ≤ r.cells) (right_at r j) u q2 (two.value.0 ∙ one.value.0) (omega arith) three.value (λ m h x. let le = (cell-inside (pool r) m h.0 j h.1.shape w.0).1 in omega arith) in
    shown good words log (g.A.Access.log c.read-3.new.self) _ _ (λ m. u ≤ r.cells) (u ≤ r.cells) q3 (same-trans _ _ _ one.good (same-trans _ _ _ two.good three.good)) (three.words ∙ (two.words ∙ one.words)) three.explained (λ m h. h)

pub returns-clause-passes : goal.returns-clause-passes
returns-clause-passes g c =
    let good = g.A.Access.good c.args.acc.now in
    let words = g.A.Access.words c.args.acc.now in
    let log = g.A.Access.log c.args.acc.now in
    let r = c.args.self.now in
    let j = c.args.cell in
    let b = c.args.bound in
    let t = c.in_ok-tag.tag in
    let whole = c.in_ok-whole.whole in
    let u = c.in_ok-next-2.next in
    let rest = c.in_ok-rest.rest in
    let one = c.in_ok-tag.ensures in
    let two = c.in_ok-whole.ensures in
    let three = c.in_ok-next-2.ensures in
    let four = c.in_ok-rest.ensures in
    let w = c.requires.within in
    let f = c.if-tag-bound.false in
    let lt : t < b = omega arith in
    let q1 = shows-read good words log log _ (IsSumMap r) (λ m. t ≡ tag r m j) (tag_at r j) t (shows-none good words log (IsSumMap r) c.requires.well) refl (omega arith) one.value (λ m h x. x) in
    let q2 = shows-read good words log _ _ (λ m. t ≡ tag r m j) (λ m. (t ≡ tag r m j) × (whole ≡ get_or m (sum_at r j) 0)) (sum_at r j) whole q1 one.value.0 (omega arith) two.value (λ m h x. (h, x)) in
    let q3 = shows-read good words log _ _ (λ m. (t ≡ tag r m j) × (whole ≡ get_or m (sum_at r j) 0))
    (λ m. ((t ≡ tag r m j) × (whole ≡ get_or m (sum_at r j) 0)) × (u ≡ get_or m (right_at r j) 0)) (right_at r j) u q2
    (two.value.0 ∙ one.value.0) (omega arith) three.value (λ m h x. (h, x)) in
    let both = shows-then good words log (g.A.Access.log c.read-3.new.self) (g.A.Access.log c.sum_under.new.acc) _ _
    (λ m. ((t ≡ tag r m j) × (whole ≡ get_or m (sum_at r j) 0)) × (u ≡ get_or m (right_at r j) 0)) (λ m. rest ≡ sum_under r m u) q3
    (three.value.0 ∙ (two.value.0 ∙ one.value.0)) (same-trans _ _ _ one.good (same-trans _ _ _ two.good three.good))
    (three.words ∙ (two.words ∙ one.words)) four.sums in
    λ m fine len ex. let x = both m fine len ex in
    (x.0, pass-right r _ b j t u whole rest ((whole + (2 ^ 64 - rest)) % 2 ^ 64) x.1.0.0.0 lt x.1.0.0.1 x.1.0.1 x.1.1 refl)
