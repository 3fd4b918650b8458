use Rattle.std.proofs.Common.{◌≡◌, ◌<◌, ◌-◌, ◌^◌, ◌∙◌, refl, arith, suc, Some, None}
use Rattle.data_effects.specs.EffectLaws.{does-stay, shows-read, under-after, same-trans}
use Rattle.data_sums.specs.Sums.{IsSumMap, value, value_at, position_of, got_in}
use Rattle.data_sums.proofs.SumPuts.{got-none, got-some}
use Rattle.data_sums.proofs.sum_map.SumMap.get.Goals as goal

pub find-requires-clause-well : goal.find-requires-clause-well
find-requires-clause-well g c = λ m fine len ex. let h = c.requires.well m fine len ex in (h.0, h.1.shape)

pub returns-then-position-eq0-clause-reply : goal.returns-then-position-eq0-clause-reply
returns-then-position-eq0-clause-reply g c =
    let r = c.args.self.now in
    let key = c.args.key in
    let s = c.in_ok-position.position in
    let one = c.in_ok-position.ensures in
    let f = c.ranges.key in
    let small : key < 2 ^ 32 = omega arith in
    does-stay (g.A.Access.good c.args.acc.now) (g.A.Access.words c.args.acc.now) (g.A.Access.log c.args.acc.now) (got_in r key) _ None (IsSumMap r) c.requires.well one.writes
    (λ m. s ≡ position_of r m key) one.finds (λ m w e. got-none r m key s w small e c.if-position-eq0.true)

pub returns-clause-reply : goal.returns-clause-reply
returns-clause-reply g c =
    let good = g.A.Access.good c.args.acc.now in
    let words = g.A.Access.words c.args.acc.now in
    let log = g.A.Access.log c.args.acc.now in
    let r = c.args.self.now in
    let key = c.args.key in
    let s = c.in_ok-position.position in
    let j = s.next - 1 in
    let v = c.in_ok-value.value in
    let one = c.in_ok-position.ensures in
    let two = c.in_ok-value.ensures in
    let f = c.ranges.key in
    let small : key < 2 ^ 32 = omega arith in
    let z = c.if-position-eq0.false in
    let most = one.inside.1 in
    let room = c.requires.within.0 in
    let n : s.next ≡ suc j = omega arith in
    does-stay good words log (got_in r key) (g.A.Access.log c.read.new.self) (Some v) (IsSumMap r) c.requires.well (two.value.0 ∙ one.writes)
    (λ m. (s ≡ position_of r m key) × (v ≡ value r m j))
    (shows-read good words log (g.A.Access.log c.find.new.acc) (g.A.Access.log c.read.new.self) (λ m. s ≡ position_of r m key)
    (λ m. (s ≡ position_of r m key) × (v ≡ value r m j)) (value_at r j) v one.finds one.writes (omega arith) two.value (λ m h x. (h, x)))
    (λ m w e. got-some r m key j s w small e.0 n ∙ (let q = e.1 in rw q refl))

pub returns-clause-well : goal.returns-clause-well
returns-clause-well g c =
    let r = c.args.self.now in
    let one = c.in_ok-position.ensures in
    let two = c.in_ok-value.ensures in
    under-after (g.A.Access.good c.args.acc.now) (g.A.Access.words c.args.acc.now) (g.A.Access.log c.args.acc.now) (got_in r c.args.key)
    (g.A.Access.log c.read.new.self) _ _ (Some c.in_ok-value.value) (IsSumMap r) (IsSumMap r) (returns-clause-reply g c) c.requires.well
    (same-trans _ _ _ one.frame.good two.good) (two.words ∙ one.frame.words) (λ m len w. w)
