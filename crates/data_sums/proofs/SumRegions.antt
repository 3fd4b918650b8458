-- A map in a region: its subtrees, its own words, and what a put leaves.
use Rattle.std.proofs.Common.{ℕ, zero, suc, ◌≡◌, ◌<◌, ◌≤◌, ◌≢◌, ◌+◌, ◌*◌, ◌%◌, ◌^◌, List, [], length, get_or, set, replicate, Bool, true, false, refl, sym, ap, ◌∙◌, arith, subst, inl, inr}
use Rattle.std.specs.Prelude.{◌==◌, if◌then◌else◌, Option, Some, None, slice_index}
use Rattle.std.proofs.Math.Nat.{add-mod-mod}
use Rattle.std.proofs.lemmas.List.{get_or-set_other}
use Rattle.std.proofs.lemmas.Bool.Decides.{nat_tests}
use Rattle.data_effects.specs.EffectLaws.{zero-at}
use Rattle.data_effects.specs.Keys.{free_from}
use Rattle.data_effects.proofs.KeyLaws.{free-is}
use Rattle.data_tree.specs.Shapes.{Ranges, Names}
use Rattle.data_tree.proofs.ShapeWalks.{Found, position-found}
use Rattle.data_tree.proofs.ShapeSame.{same-shape, zeros-shape, Outside, out-of, link-place}
use Rattle.data_sums.specs.declared.sum_map.SumMap.{SumMap}
use Rattle.data_sums.specs.Sums.{pool, tag_at, left_at, right_at, value_at, sum_at, tag, value, Holds, LinksInside, sum_within, sum_under, pairs_to, raised, mended_by, mended, attached, step_to, side_at, position_of, put_by, added_by, put_in}
use Rattle.data_sums.specs.Statements.{SumsSubtrees, ZerosAreEmpty, DependsOnOwnWords, ChangesOwnWords}
use Rattle.data_sums.proofs.SumTrees.{part-step, part-in, part-out, within-none}
use Rattle.data_sums.proofs.SumBelow.{within-split, under-is}
use Rattle.data_sums.proofs.SumWalks.{raised-links, side-most}
use Rattle.data_sums.proofs.SumPuts.{tree-links, leaf-tree, value-tree}

-- THE SUM OF A SUBTREE
within-one : (r : SumMap) (m : List ℕ) (g : Ranges) (l c n : ℕ) → Holds r m g → n ≤ r.cells → c < n → tag r m c ≡ suc l → sum_within r m l (suc (suc l)) n ≡ value r m c
within-one r m g l c zero w le lt t = absurd (omega arith)
within-one r m g l c (suc n) w le lt t = by (n == c) refl (λ less. within-one r m g l c n w (omega arith) less t)
  where
    by : (b : Bool) → (n == c) ≡ b → (c < n → sum_within r m l (suc (suc l)) n ≡ value r m c) → sum_within r m l (suc (suc l)) (suc n) ≡ value r m c
    by true q go =
        let s : n ≡ c = grind (arith, nat_tests) in
        let tn : tag r m n ≡ suc l = ap (tag r m) s ∙ t in
        let vn : value r m n ≡ value r m c = ap (value r m) s in
        let a = part-step r m l (suc (suc l)) n in
        let b = part-in r m l (suc (suc l)) n (omega arith) (omega arith) in
        let z = within-none r m l (suc (suc l)) n (λ i li x y. (let e = w.shape.differ i c (record { inside = omega arith; pos = omega arith }) (record { inside = omega arith; pos = omega arith }) (omega arith) in absurd (omega arith))) in
        omega arith
    by false q go =
        let d : n ≢ c = grind (arith, nat_tests) in
        let h = go (omega arith) in
        let a = part-step r m l (suc (suc l)) n in
        let b = part-out r m l (suc (suc l)) n (λ x y. (let e = w.shape.differ n c (record { inside = omega arith; pos = omega arith }) (record { inside = omega arith; pos = omega arith }) (omega arith) in absurd (omega arith))) in
        omega arith

pub sums-subtrees : SumsSubtrees
sums-subtrees r m i w u = by (tag r m i) refl
  where
    total : (w' v a b x y s : ℕ) → s ≡ (a + v + b) % w' → x ≡ a % w' → y ≡ b % w' → s ≡ (v + x + y) % w'
    total w' v a b x y s e f h =
        let p : a + v + b ≡ v + a + b = omega arith in
        let one : (v + x + y) % w' ≡ (v + a + y) % w' = (let q : v + x + y ≡ v + y + x = omega arith in let q' : v + y + a ≡ v + a + y = omega arith in
        ap (λ i. i % w') q ∙ (ap (λ i. (v + y + i) % w') f ∙ (add-mod-mod (v + y) a w' ∙ ap (λ i. i % w') q'))) in
        let two : (v + a + y) % w' ≡ (v + a + b) % w' = ap (λ i. (v + a + i) % w') h ∙ add-mod-mod (v + a) b w' in
        e ∙ (ap (λ i. i % w') p ∙ sym (one ∙ two))

    by : (t : ℕ) → tag r m i ≡ t → slice_index m (sum_at r i) ≡ (value r m i + sum_under r m (slice_index m (left_at r i)) + sum_under r m (slice_index m (right_at r i))) % 2 ^ 64
    by zero e = let p = u.pos in absurd (omega arith)
    by (suc k) e =
        let g : Ranges = w.0 in
        let lo = (w.1.shape.lows i u).0 in
        let hi = (w.1.shape.highs i u).0 in
        let whole = within-split r m (w.0.low i) (tag r m i) (w.0.high i) r.cells (omega arith) hi in
        let low = within-split r m (w.0.low i) k (suc (tag r m i)) r.cells (omega arith) (omega arith) in
        let own : sum_within r m k (suc (tag r m i)) r.cells ≡ value r m i = ap (λ x. sum_within r m k (suc x) r.cells) e ∙ within-one r m w.0 k i r.cells w.1 (omega arith) u.inside e in
        let below : sum_within r m (w.0.low i) (suc k) r.cells ≡ sum_within r m (w.0.low i) (tag r m i) r.cells = ap (λ x. sum_within r m (w.0.low i) x r.cells) (sym e) in
        let q : sum_within r m (w.0.low i) (w.0.high i) r.cells ≡ sum_within r m (w.0.low i) (tag r m i) r.cells + value r m i + sum_within r m (tag r m i) (w.0.high i) r.cells = omega arith in
        total (2 ^ 64) (value r m i) (sum_within r m (w.0.low i) (tag r m i) r.cells) (sum_within r m (tag r m i) (w.0.high i) r.cells) _ _ _ (w.1.sums i u ∙ ap (λ x. x % 2 ^ 64) q)
        (under-is r m w.0 (w.0.low i) (tag r m i) (left_at r i) _ w.1 (inr (inl (i, refl, refl, refl, u))) refl)
        (under-is r m w.0 (tag r m i) (w.0.high i) (right_at r i) _ w.1 (inr (inr (i, refl, refl, refl, u))) refl)

-- THE MEMORY OF ZEROS
zero-pairs : (r : SumMap) (n k : ℕ) → pairs_to r (replicate n 0) k ≡ []
zero-pairs r n zero = refl
zero-pairs r n (suc k) = let z = zero-at n (tag_at r k) in rw z (zero-pairs r n k)

pub zeros-map : ZerosAreEmpty
zeros-map r n = (
  (
    _,
    record {
      shape = zeros-shape (pool r) n;
      bare = λ i lt z. (zero-at n (value_at r i), zero-at n (sum_at r i));
      sums = λ i u. let z = zero-at n (tag_at r i) in let p = u.pos in absurd (omega arith);
    },
  ),
  zero-pairs r n r.cells,
)

-- what leaves the words of the region leaves its map
module _ (r : SumMap) (m k : List ℕ) (g : Ranges) (w : Holds r m g) (same : (x : ℕ) → r.at ≤ x → x < r.at + 1 + 5 * r.cells → slice_index k x ≡ slice_index m x) where
  tags : (i : ℕ) → i < r.cells → tag r k i ≡ tag r m i
  tags i lt = same (tag_at r i) (omega arith) (omega arith)

  within-new : (l h n : ℕ) → n ≤ r.cells → sum_within r k l h n ≡ sum_within r m l h n
  within-new l h zero le = refl
  within-new l h (suc n) le =
      let e = within-new l h n (omega arith) in
      let a = tags n (omega arith) in
      let b : value r k n ≡ value r m n = same (value_at r n) (omega arith) (omega arith) in rw (a, b, e) refl

  pub map-same : Holds r k g
  map-same = record {
    shape = same-shape (pool r) m k g w.shape (same r.at (omega arith) (omega arith)) tags (λ i lt. same (left_at r i) (omega arith) (omega arith)) (λ i lt. same (right_at r i) (omega arith) (omega arith));
    bare = λ i lt z. let s = w.bare i lt (sym (tags i lt) ∙ z) in (same (value_at r i) (omega arith) (omega arith) ∙ s.0, same (sum_at r i) (omega arith) (omega arith) ∙ s.1);
    sums = λ i u. let lt = u.inside in
        same (sum_at r i) (omega arith) (omega arith)
        ∙ (w.sums i (record { inside = lt; pos = subst (λ z. 0 < z) (tags i lt) u.pos }) ∙ ap (λ x. x % 2 ^ 64) (sym (within-new (g.low i) (g.high i) r.cells (omega arith))));
  }

pub own-words : DependsOnOwnWords
own-words r m k w same = (w.0, map-same r m k w.0 w.1 same)

-- WHAT IS OUTSIDE
pub mended-outside : (r : SumMap) (key d n a x : ℕ) (m : List ℕ) → LinksInside r m → slice_index m a ≤ r.cells → Outside (pool r) x → get_or (mended r key d n a m) x 0 ≡ get_or m x 0
mended-outside r key d zero a x m w le out = refl
mended-outside r key d (suc n) a x m w le out = by (slice_index m a) le (λ j lt s. mended-outside r key d n (side_at r m key j) x (raised r d j m) (raised-links r d j m w) s out)
  where
    off : (j : ℕ) → j < r.cells → get_or (raised r d j m) x 0 ≡ get_or m x 0
    off j lt = get_or-set_other m (sum_at r j) x _ 0 (out-of (pool r) x (sum_at r j) out (omega arith) (omega arith))

    by : (v : ℕ) → v ≤ r.cells
        → ((j : ℕ) → j < r.cells → slice_index (raised r d j m) (side_at r m key j) ≤ r.cells → get_or (mended r key d n (side_at r m key j) (raised r d j m)) x 0 ≡ get_or (raised r d j m) x 0)
        → get_or (mended_by (λ j. if tag r m j == suc key then raised r d j m else mended r key d n (side_at r m key j) (raised r d j m)) m v) x 0 ≡ get_or m x 0
    by zero l go = refl
    by (suc j) l go = at (tag r m j == suc key)
      where
        at : (b : Bool) → get_or (if b then raised r d j m else mended r key d n (side_at r m key j) (raised r d j m)) x 0 ≡ get_or m x 0
        at true = off j (omega arith)
        at false = go j (omega arith) (side-most r key (tag r m j) j (side_at r m key j) (raised r d j m) (raised-links r d j m w) (omega arith) refl) ∙ off j (omega arith)

pub put-outside : ChangesOwnWords
put-outside r m key v x w fits values small out = by (position_of r m key).next refl (free_from (tag r m) 0 r.cells) refl
  where
    f : Found (pool r) m w.0 key (position_of r m key)
    f = position-found (pool r) m w.0 key w.1.shape small

    room : r.at + 1 + 5 * r.cells ≤ length m
    room = fits.0

    by : (n : ℕ) → (position_of r m key).next ≡ n → (o : Option ℕ) → free_from (tag r m) 0 r.cells ≡ o → slice_index (put_in r key v m).memory x ≡ slice_index m x
    by zero e None q = ap (λ y. slice_index y.memory x) (ap (put_by r key v m) e ∙ ap (added_by r key v m) q)
    by zero e (Some c) q =
        let z = free-is (tag r m) 0 r.cells c q in
        let lt : c < r.cells = (let y = z.0 in omega arith) in
        let s = position_of r m key in
        let k : List ℕ = attached r key v c s.link m in
        let l = link-place (pool r) m w.0 f.low f.high s.link f.link in
        let links = tree-links r k _ (leaf-tree r m w.0 key v c s w.1 f small e lt z.1 room) in
        let same : get_or k x 0 ≡ get_or m x 0 = get_or-set_other (set (set m (tag_at r c) (suc key)) (value_at r c) v) s.link x (suc c) 0 (out-of (pool r) x s.link out l.0 l.1)
        ∙ (get_or-set_other (set m (tag_at r c) (suc key)) (value_at r c) x v 0
        (out-of (pool r) x (value_at r c) out (omega arith) (omega arith))
        ∙ get_or-set_other m (tag_at r c) x (suc key) 0 (out-of (pool r) x (tag_at r c) out (omega arith) (omega arith))) in
        ap (λ y. slice_index y.memory x) (ap (put_by r key v m) e ∙ ap (added_by r key v m) q) ∙ (mended-outside r key v r.cells r.at x k links links.0 out ∙ same)
    by (suc j) e o q =
        let z : Names (pool r) m w.0 f.low f.high (suc j) = subst (Names (pool r) m w.0 f.low f.high) (f.word ∙ e) (w.1.shape.names f.low f.high (position_of r m key).link f.link) in
        let lt = z.0.inside in
        let k : List ℕ = set m (value_at r j) v in
        let links = tree-links r k w.0 (value-tree r m w.0 key v j w.1 small lt (f.some j e).1 (values j lt) room) in
        ap (λ y. slice_index y.memory x) (ap (put_by r key v m) e) ∙ (mended-outside r key (step_to (value r m j) v) r.cells r.at x k links links.0 out
        ∙ get_or-set_other m (value_at r j) x v 0 (out-of (pool r) x (value_at r j) out (omega arith) (omega arith)))
