-- The walk to a bound, by the sums beside it: what it has passed is the sum of what is below.
use Rattle.std.proofs.Common.{ℕ, zero, suc, ◌≡◌, ◌<◌, ◌≤◌, ◌+◌, ◌-◌, ◌*◌, ◌/◌, ◌%◌, ◌^◌, List, [], ◌∷◌, Bool, true, false, refl, sym, ap, ◌∙◌, arith, subst, inl, inr}
use Rattle.std.specs.Prelude.{◌&&◌, leb, ltb, if◌then◌else◌, slice_index}
use Rattle.std.proofs.Math.Nat.{mod-add-mod, add-mod-mod, mod-lt, div-add-mod, add-mul-mod_self_left}
use Rattle.std.proofs.lemmas.Bool.Decides.{nat_tests}
use Rattle.data_effects.specs.Effects.{unchanged}
use Rattle.data_effects.proofs.KeyLaws.{how_many-most}
use Rattle.data_tree.specs.Shapes.{Ranges, LinkOf, Names, top}
use Rattle.data_tree.proofs.ShapeWalks.{left, left-less, named-used, left-link, right-link}
use Rattle.data_sums.specs.declared.sum_map.SumMap.{SumMap}
use Rattle.data_sums.specs.declared.sum_map.Passed.{Passed}
use Rattle.data_sums.specs.Sums.{pool, left_at, right_at, sum_at, tag, value, Holds, IsSumMap, sum_within, sum_under, step_to, passed_by, passed, pair_of, pairs_to, pairs, sum_of, summed_in}
use Rattle.data_sums.proofs.SumTrees.{part, part-step, part-in, part-out, within-none}
use Rattle.data_sums.proofs.SumPairs.{sum-with}

-- SUMS OF RANGES that meet at a tag
part-split : (r : SumMap) (m : List ℕ) (l t h n : ℕ) → l ≤ t → t < h → part r m l h n ≡ part r m l (suc t) n + part r m t h n
part-split r m l t h n lo hi = by (ltb l (tag r m n)) refl (ltb (tag r m n) h) refl (ltb t (tag r m n)) refl
  where
    by : (a : Bool) → ltb l (tag r m n) ≡ a → (b : Bool) → ltb (tag r m n) h ≡ b → (c : Bool) → ltb t (tag r m n) ≡ c → part r m l h n ≡ part r m l (suc t) n + part r m t h n
    by true p true q true s =
        let a = part-in r m l h n (grind (arith, nat_tests)) (grind (arith, nat_tests)) in
        let b = part-in r m t h n (grind (arith, nat_tests)) (grind (arith, nat_tests)) in
        let c = part-out r m l (suc t) n (λ x y. (let z : t < tag r m n = grind (arith, nat_tests) in absurd (omega arith))) in omega arith
    by true p true q false s =
        let z : tag r m n ≤ t = grind (arith, nat_tests) in
        let a = part-in r m l h n (grind (arith, nat_tests)) (grind (arith, nat_tests)) in
        let b = part-out r m t h n (λ x y. absurd (omega arith)) in
        let c = part-in r m l (suc t) n (grind (arith, nat_tests)) (omega arith) in omega arith
    by true p false q c s =
        let z : h ≤ tag r m n = grind (arith, nat_tests) in
        let a = part-out r m l h n (λ x y. absurd (omega arith)) in
        let b = part-out r m t h n (λ x y. absurd (omega arith)) in
        let c = part-out r m l (suc t) n (λ x y. absurd (omega arith)) in omega arith
    by false p b q c s =
        let z : tag r m n ≤ l = grind (arith, nat_tests) in
        let a = part-out r m l h n (λ x y. absurd (omega arith)) in
        let b = part-out r m t h n (λ x y. absurd (omega arith)) in
        let c = part-out r m l (suc t) n (λ x y. absurd (omega arith)) in omega arith

pub within-split : (r : SumMap) (m : List ℕ) (l t h n : ℕ) → l ≤ t → t < h → sum_within r m l h n ≡ sum_within r m l (suc t) n + sum_within r m t h n
within-split r m l t h zero lo hi = refl
within-split r m l t h (suc n) lo hi =
    let e = within-split r m l t h n lo hi in
    let p = part-split r m l t h n lo hi in
    let a = part-step r m l h n in
    let b = part-step r m l (suc t) n in
    let c = part-step r m t h n in omega arith

-- THE SUM OF THE PAIRS of a range of keys is that of a range of tags
pub pairs-within : (r : SumMap) (m : List ℕ) (lo hi n : ℕ) → sum_of lo hi (pairs_to r m n) ≡ sum_within r m lo (hi + 2) n
pairs-within r m lo hi zero = refl
pairs-within r m lo hi (suc n) = by (tag r m n) refl (pairs-within r m lo hi n)
  where
    by : (t : ℕ) → tag r m n ≡ t → sum_of lo hi (pairs_to r m n) ≡ sum_within r m lo (hi + 2) n → sum_of lo hi (pair_of t (value r m n) (pairs_to r m n)) ≡ sum_within r m lo (hi + 2) (suc n)
    by zero e h = let a = part-step r m lo (hi + 2) n in let b = part-out r m lo (hi + 2) n (λ x y. absurd (omega arith)) in omega arith
    by (suc k) e h = sum-with lo hi (k, value r m n) (pairs_to r m n) ∙ at (leb lo k) refl (leb k hi) refl
      where
        at : (b : Bool) → leb lo k ≡ b → (c : Bool) → leb k hi ≡ c → (if b && c then value r m n + sum_of lo hi (pairs_to r m n) else sum_of lo hi (pairs_to r m n)) ≡ sum_within r m lo (hi + 2) (suc n)
        at true p true q =
            let x : lo ≤ k = grind (arith, nat_tests) in let y : k ≤ hi = grind (arith, nat_tests) in
            let a = part-step r m lo (hi + 2) n in let b = part-in r m lo (hi + 2) n (omega arith) (omega arith) in omega arith
        at true p false q =
            let y : hi < k = grind (arith, nat_tests) in
            let a = part-step r m lo (hi + 2) n in let b = part-out r m lo (hi + 2) n (λ x z. absurd (omega arith)) in omega arith
        at false p c q =
            let x : k < lo = grind (arith, nat_tests) in
            let a = part-step r m lo (hi + 2) n in let b = part-out r m lo (hi + 2) n (λ z y. absurd (omega arith)) in omega arith

-- of bounds that cross there is nothing between
pub sum-crossed : (lo hi : ℕ) (qs : List (ℕ × ℕ)) → hi < lo → sum_of lo hi qs ≡ 0
sum-crossed lo hi [] lt = refl
sum-crossed lo hi (q ∷ qs) lt = by (leb lo q.0) refl (leb q.0 hi) refl (sum-crossed lo hi qs lt)
  where
    by : (b : Bool) → leb lo q.0 ≡ b → (c : Bool) → leb q.0 hi ≡ c → sum_of lo hi qs ≡ 0 → (if b && c then q.1 + sum_of lo hi qs else sum_of lo hi qs) ≡ 0
    by true e true f h = let x : lo ≤ q.0 = grind (arith, nat_tests) in let y : q.0 ≤ hi = grind (arith, nat_tests) in absurd (omega arith)
    by true e false f h = h
    by false e c f h = h

-- a sum less one of its two parts is the other
mod-less : (w b c x y : ℕ) → 0 < w → x ≡ (b + c) % w → y ≡ c % w → (x + (w - y)) % w ≡ b % w
mod-less w b c x y pos e f =
    let d : w * (c / w) + c % w ≡ c = div-add-mod c w in
    let lt : y ≤ w = small in
    let q : b + c + (w - y) ≡ b + w * (c / w + 1) = whole d in
    ap (λ i. (i + (w - y)) % w) e ∙ (mod-add-mod (b + c) w (w - y) ∙ (ap (λ i. i % w) q ∙ add-mul-mod_self_left b w (c / w + 1)))
  where
    small : y ≤ w
    small = let z : c % w < w = mod-lt c pos in omega arith

    whole : w * (c / w) + c % w ≡ c → b + c + (w - y) ≡ b + w * (c / w + 1)
    whole d = let s = small in omega arith

-- THE WALK: the link is that of a range that has the bound, and all below the range is passed
pub record Passing (r : SumMap) (bound link total n : ℕ) (m : List ℕ) : Type 0 where
  pub ranges : Ranges
  pub holds : Holds r m ranges
  pub low : ℕ
  pub high : ℕ
  pub address : ℕ
  pub is_link : LinkOf (pool r) m ranges low high address
  pub at : link ≡ slice_index m address
  pub above : low < bound
  pub below : bound ≤ high
  pub few : left (pool r) m low high ≤ n
  pub total_is : total ≡ sum_within r m 0 (suc low) r.cells % 2 ^ 64

pub passing-begins : (r : SumMap) (bound link : ℕ) (m : List ℕ) → IsSumMap r m → link ≡ slice_index m r.at → 0 < bound → bound ≤ top → Passing r bound link 0 r.cells m
passing-begins r bound link m w e lo hi = record {
  ranges = w.0;
  holds = w.1;
  low = 0;
  high = top;
  address = r.at;
  is_link = inl (refl, refl, refl);
  at = e;
  above = lo;
  below = hi;
  few = how_many-most _ r.cells;
  total_is = ap (λ x. x % 2 ^ 64) (sym (within-none r m 0 1 r.cells (λ i lt a b. absurd (omega arith))));
}

-- what stands under a link of a range is the range's sum
pub under-is : (r : SumMap) (m : List ℕ) (g : Ranges) (l h a v : ℕ) → Holds r m g → LinkOf (pool r) m g l h a → v ≡ slice_index m a → sum_under r m v ≡ sum_within r m l h r.cells % 2 ^ 64
under-is r m g l h a v w k e = by v (subst (Names (pool r) m g l h) (sym e) (w.shape.names l h a k))
  where
    by : (v : ℕ) → Names (pool r) m g l h v → sum_under r m v ≡ sum_within r m l h r.cells % 2 ^ 64
    by zero z = ap (λ x. x % 2 ^ 64) (sym (within-none r m l h r.cells (λ i lt a b. z i (record { inside = lt; above = a; below = b }))))
    by (suc j) z = w.sums j (named-used (pool r) m g l h j z) ∙ (ap (λ x. sum_within r m x (g.high j) r.cells % 2 ^ 64) z.1 ∙ ap (λ x. sum_within r m l x r.cells % 2 ^ 64) z.2)

pub passing-on : (r : SumMap) (bound link total j n less : ℕ) (p : Passed) (m : List ℕ) → Passing r bound link total n m → link ≡ suc j
    → n ≡ suc less → p ≡ passed r m bound j → Passing r bound p.next ((total + p.added) % 2 ^ 64) less m
passing-on r bound link total j n less p m s e k f = subst (λ q. Passing r bound q.next ((total + q.added) % 2 ^ 64) less m) (sym f) (by (ltb (tag r m j) bound) refl)
  where
    z : Names (pool r) m s.ranges s.low s.high (suc j)
    z = subst (Names (pool r) m s.ranges s.low s.high) (sym s.at ∙ e) (s.holds.shape.names s.low s.high s.address s.is_link)

    rl : LinkOf (pool r) m s.ranges (tag r m j) s.high (right_at r j)
    rl = right-link (pool r) m s.ranges s.low s.high j z

    ll : LinkOf (pool r) m s.ranges s.low (tag r m j) (left_at r j)
    ll = left-link (pool r) m s.ranges s.low s.high j z

    whole : slice_index m (sum_at r j) ≡ (sum_within r m s.low (suc (tag r m j)) r.cells + sum_within r m (tag r m j) s.high r.cells) % 2 ^ 64
    whole = under-is r m s.ranges s.low s.high s.address (suc j) s.holds s.is_link (sym e ∙ s.at)
        ∙ ap (λ x. x % 2 ^ 64) (within-split r m s.low (tag r m j) s.high r.cells (let a = z.0.above in omega arith) z.0.below)

    adds : step_to (sum_under r m (slice_index m (right_at r j))) (slice_index m (sum_at r j)) ≡ sum_within r m s.low (suc (tag r m j)) r.cells % 2 ^ 64
    adds =
        mod-less (2 ^ 64) (sum_within r m s.low (suc (tag r m j)) r.cells) (sum_within r m (tag r m j) s.high r.cells) _ _ (omega arith)
        whole (under-is r m s.ranges (tag r m j) s.high (right_at r j) _ s.holds rl refl)

    total-on : (a : ℕ) → a ≡ sum_within r m s.low (suc (tag r m j)) r.cells % 2 ^ 64 → (total + a) % 2 ^ 64 ≡ sum_within r m 0 (suc (tag r m j)) r.cells % 2 ^ 64
    total-on a h =
        let x : ℕ = sum_within r m 0 (suc s.low) r.cells in
        let y : ℕ = sum_within r m s.low (suc (tag r m j)) r.cells in
        let split : sum_within r m 0 (suc (tag r m j)) r.cells ≡ x + y = within-split r m 0 s.low (suc (tag r m j)) r.cells (omega arith) (let b = z.0.above in omega arith) in
        ap (λ i. (i + a) % 2 ^ 64) s.total_is ∙ (mod-add-mod x (2 ^ 64) a ∙ (ap (λ i. (x + i) % 2 ^ 64) h ∙ (add-mod-mod x y (2 ^ 64) ∙ ap (λ i. i % 2 ^ 64) (sym split))))

    by : (b : Bool) → ltb (tag r m j) bound ≡ b → Passing r bound (passed_by r m j b).next ((total + (passed_by r m j b).added) % 2 ^ 64) less m
    by true q = record {
      ranges = s.ranges;
      holds = s.holds;
      low = tag r m j;
      high = s.high;
      address = right_at r j;
      is_link = rl;
      at = refl;
      above = grind (arith, nat_tests);
      below = s.below;
      few = let x = left-less (pool r) m s.low s.high (tag r m j) s.high j z.0 (let a = z.0.above in omega arith) (omega arith) (inl (omega arith)) in let c = s.few in omega arith;
      total_is = total-on _ adds;
    }
    by false q = record {
      ranges = s.ranges;
      holds = s.holds;
      low = s.low;
      high = tag r m j;
      address = left_at r j;
      is_link = ll;
      at = refl;
      above = s.above;
      below = grind (arith, nat_tests);
      few = let x = left-less (pool r) m s.low s.high s.low (tag r m j) j z.0 (omega arith) (let a = z.0.below in omega arith) (inr (omega arith)) in let c = s.few in omega arith;
      total_is = let x : ℕ = sum_within r m 0 (suc s.low) r.cells in let y : x + 0 ≡ x = omega arith in ap (λ i. (i + 0) % 2 ^ 64) s.total_is ∙ (mod-add-mod x (2 ^ 64) 0 ∙ ap (λ i. i % 2 ^ 64) y);
    }

pub passing-ends : (r : SumMap) (bound link total n : ℕ) (m : List ℕ) → Passing r bound link total n m → link ≡ 0 → total ≡ sum_within r m 0 bound r.cells % 2 ^ 64
passing-ends r bound link total n m s e =
    let z : Names (pool r) m s.ranges s.low s.high 0 = subst (Names (pool r) m s.ranges s.low s.high) (sym s.at ∙ e) (s.holds.shape.names s.low s.high s.address s.is_link) in
    let none = within-none r m s.low bound r.cells (λ i lt a b. z i (record { inside = lt; above = a; below = (let c = s.below in omega arith) })) in
    let split = within-split r m 0 s.low bound r.cells (omega arith) s.above in
    let q : sum_within r m 0 bound r.cells ≡ sum_within r m 0 (suc s.low) r.cells = omega arith in
    s.total_is ∙ ap (λ x. x % 2 ^ 64) (sym q)

-- with no step left there is no cell left
pub passing-stops : (r : SumMap) (bound link total n : ℕ) (m : List ℕ) → Passing r bound link total n m → n ≡ 0 → total ≡ sum_within r m 0 bound r.cells % 2 ^ 64
passing-stops r bound link total n m s e = by link refl (subst (Names (pool r) m s.ranges s.low s.high) (sym s.at) (s.holds.shape.names s.low s.high s.address s.is_link))
  where
    by : (v : ℕ) → link ≡ v → Names (pool r) m s.ranges s.low s.high v → total ≡ sum_within r m 0 bound r.cells % 2 ^ 64
    by zero f z = passing-ends r bound link total n m s f
    by (suc j) f z =
        let x = left-less (pool r) m s.low s.high s.low s.low j z.0 (omega arith) (let p = z.0.above in let q = z.0.below in omega arith)
        (inr (let p = z.0.above in omega arith)) in
        let c = s.few in absurd (omega arith)

-- WHAT A SUM ANSWERS
pub summed-is : (r : SumMap) (m : List ℕ) (lo hi upper lower v : ℕ) → lo ≤ hi → upper ≡ sum_within r m 0 (hi + 2) r.cells % 2 ^ 64 → lower ≡ sum_within r m 0 (lo + 1) r.cells % 2 ^ 64
    → v ≡ (upper + (2 ^ 64 - lower)) % 2 ^ 64 → summed_in r lo hi m ≡ unchanged v m
summed-is r m lo hi upper lower v le u l e =
    let one : lo + 1 ≡ suc lo = omega arith in
    let l' : lower ≡ sum_within r m 0 (suc lo) r.cells % 2 ^ 64 = l ∙ ap (λ i. sum_within r m 0 i r.cells % 2 ^ 64) one in
    let split : sum_within r m 0 (hi + 2) r.cells ≡ sum_within r m lo (hi + 2) r.cells + sum_within r m 0 (suc lo) r.cells = (let s = within-split r m 0 lo (hi + 2) r.cells (omega arith) (omega arith) in omega arith) in
    let d = mod-less (2 ^ 64) (sum_within r m lo (hi + 2) r.cells) (sum_within r m 0 (suc lo) r.cells) upper lower (omega arith) (u ∙ ap (λ i. i % 2 ^ 64) split) l' in
    let p = pairs-within r m lo hi r.cells in
    ap (λ i. unchanged i m) (ap (λ i. i % 2 ^ 64) p ∙ (sym d ∙ sym e))

pub crossed-is : (r : SumMap) (m : List ℕ) (lo hi : ℕ) → hi < lo → summed_in r lo hi m ≡ unchanged 0 m
crossed-is r m lo hi lt = ap (λ i. unchanged (i % 2 ^ 64) m) (sum-crossed lo hi (pairs r m) lt)

pub under-some : (r : SumMap) (m : List ℕ) (link j v : ℕ) → link ≡ suc j → v ≡ slice_index m (sum_at r j) → v ≡ sum_under r m link
under-some r m link j v e f = rw e f

-- the two ways to pass a cell
pub pass-left : (r : SumMap) (m : List ℕ) (bound j t u : ℕ) → t ≡ tag r m j → bound ≤ t → u ≡ slice_index m (left_at r j) → record { next = u; added = 0 } ≡ passed r m bound j
pass-left r m bound j t u e le f = let q : ltb (tag r m j) bound ≡ false = grind (arith, nat_tests) in rw (q, f) refl

pub pass-right : (r : SumMap) (m : List ℕ) (bound j t u whole rest d : ℕ) → t ≡ tag r m j → t < bound → whole ≡ slice_index m (sum_at r j)
    → u ≡ slice_index m (right_at r j) → rest ≡ sum_under r m u → d ≡ (whole + (2 ^ 64 - rest)) % 2 ^ 64
    → record { next = u; added = d } ≡ passed r m bound j
pass-right r m bound j t u whole rest d e lt f g h k = let q : ltb (tag r m j) bound ≡ true = grind (arith, nat_tests) in
    let a : step_to (sum_under r m (slice_index m (right_at r j))) (slice_index m (sum_at r j)) ≡ d = sym
    (k
    ∙ (ap (λ i. (i + (2 ^ 64 - rest)) % 2 ^ 64) f
    ∙ ap (λ i. (slice_index m (sum_at r j) + (2 ^ 64 - i)) % 2 ^ 64) (h ∙ ap (sum_under r m) g))) in
    rw (q, a, g) refl
