use Rattle.std.proofs.Common.{◌≡◌, ◌≤◌, ◌+◌, ◌-◌, ◌%◌, ◌^◌, ◌∙◌, refl, sym, subst, arith}
use Rattle.stm_model.specs.Memories.{overlay}
use Rattle.data_effects.specs.EffectLaws.{shows-none, shows-read, shows-then, does-stay, under-after, same-trans}
use Rattle.data_sums.specs.Sums.{IsSumMap, sum_within, summed_in}
use Rattle.data_sums.proofs.SumBelow.{summed-is, crossed-is}
use Rattle.data_sums.proofs.sum_map.SumMap.sum.Goals as goal

-- BOUNDS THAT CROSS
pub returns-then-lo-hi-clause-reply : goal.returns-then-lo-hi-clause-reply
returns-then-lo-hi-clause-reply g c =
    let good = g.A.Access.good c.args.acc.now in
    let words = g.A.Access.words c.args.acc.now in
    let log = g.A.Access.log c.args.acc.now in
    let r = c.args.self.now in
    let one = c.in_ok-read.ensures in
    let w = c.requires.within in
    let lt = c.if-lo-hi.true in
    does-stay good words log (summed_in r c.args.lo c.args.hi) _ 0 (IsSumMap r) c.requires.well one.value.0 (IsSumMap r)
    (shows-read good words log log _ (IsSumMap r) (IsSumMap r) r.at _ (shows-none good words log (IsSumMap r) c.requires.well) refl (omega arith) one.value (λ m h x. h))
    (λ m h e. crossed-is r m c.args.lo c.args.hi lt)

pub returns-then-lo-hi-clause-well : goal.returns-then-lo-hi-clause-well
returns-then-lo-hi-clause-well g c =
    let r = c.args.self.now in
    let one = c.in_ok-read.ensures in
    under-after (g.A.Access.good c.args.acc.now) (g.A.Access.words c.args.acc.now) (g.A.Access.log c.args.acc.now)
    (summed_in r c.args.lo c.args.hi) _ _ _ 0 (IsSumMap r) (IsSumMap r) (returns-then-lo-hi-clause-reply g c) c.requires.well one.good
    one.words (λ m len w. w)

-- THE TWO WALKS
pub sum_below-requires-2-clause-well : goal.sum_below-requires-2-clause-well
sum_below-requires-2-clause-well g c = λ m fine len ex.
    let r = c.args.self.now in
    let one = c.in_ok-upper.ensures in
    let x = one.sums m ((one.frame.good m).1 fine) (len ∙ one.frame.words) ex in
    subst (λ w. IsSumMap r (overlay m w)) (sym one.writes) (c.requires.well m ((one.frame.good m).1 fine) (len ∙ one.frame.words) x.0)

pub returns-clause-reply : goal.returns-clause-reply
returns-clause-reply g c =
    let good = g.A.Access.good c.args.acc.now in
    let words = g.A.Access.words c.args.acc.now in
    let log = g.A.Access.log c.args.acc.now in
    let r = c.args.self.now in
    let lo = c.args.lo in
    let hi = c.args.hi in
    let upper = c.in_ok-upper.upper in
    let lower = c.in_ok-lower.lower in
    let one = c.in_ok-upper.ensures in
    let two = c.in_ok-lower.ensures in
    let f = c.if-lo-hi.false in
    let le : lo ≤ hi = omega arith in
    let both = shows-then good words log (g.A.Access.log c.sum_below.new.acc) (g.A.Access.log c.sum_below-2.new.acc) _ _
    (λ m. upper ≡ sum_within r m 0 (hi + 2) r.cells % 2 ^ 64) (λ m. lower ≡ sum_within r m 0 (lo + 1) r.cells % 2 ^ 64) one.sums one.writes
    one.frame.good one.frame.words two.sums in
    does-stay good words log (summed_in r lo hi) (g.A.Access.log c.sum_below-2.new.acc) ((upper + (2 ^ 64 - lower)) % 2 ^ 64) (IsSumMap r) c.requires.well (two.writes ∙ one.writes)
    (λ m. (upper ≡ sum_within r m 0 (hi + 2) r.cells % 2 ^ 64) × (lower ≡ sum_within r m 0 (lo + 1) r.cells % 2 ^ 64)) both
    (λ m h e. summed-is r m lo hi upper lower ((upper + (2 ^ 64 - lower)) % 2 ^ 64) le e.0 e.1 refl)

pub returns-clause-well : goal.returns-clause-well
returns-clause-well g c =
    let r = c.args.self.now in
    let one = c.in_ok-upper.ensures in
    let two = c.in_ok-lower.ensures in
    under-after (g.A.Access.good c.args.acc.now) (g.A.Access.words c.args.acc.now) (g.A.Access.log c.args.acc.now)
    (summed_in r c.args.lo c.args.hi) _ _ _ _ (IsSumMap r) (IsSumMap r) (returns-clause-reply g c) c.requires.well
    (same-trans _ _ _ one.frame.good two.frame.good) (two.frame.words ∙ one.frame.words) (λ m len w. w)
