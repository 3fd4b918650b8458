-- The tree of a map, whatever its sums: what leaves tags and links leaves it.
use Rattle.std.proofs.Common.{ℕ, zero, suc, ◌≡◌, ◌<◌, ◌≤◌, ◌≢◌, ◌+◌, ◌-◌, ◌%◌, ◌^◌, List, Bool, true, false, refl, sym, ap, ◌∙◌, arith, subst}
use Rattle.std.specs.Prelude.{◌==◌, ◌&&◌, ltb, if◌then◌else◌, slice_index}
use Rattle.std.proofs.Math.Nat.{add-mod-mod, mod-add-mod, add-mod_left}
use Rattle.std.proofs.lemmas.Bool.Decides.{nat_tests}
use Rattle.data_tree.specs.Shapes.{Ranges, LinkOf}
use Rattle.data_tree.specs.Shapes as shapes
use Rattle.data_tree.proofs.ShapeSame.{same-shape}
use Rattle.data_tree.proofs.ShapeSame.{same-link as shape-link}
use Rattle.data_sums.specs.declared.sum_map.SumMap.{SumMap}
use Rattle.data_sums.specs.Sums.{pool, left_at, right_at, sum_at, tag, value, Used, sum_within, Holds}

-- as Holds, without the sums
pub record Tree (r : SumMap) (m : List ℕ) (g : Ranges) : Type 0 where
  pub shape : shapes.Holds (pool r) m g
  pub bare : (i : ℕ) → i < r.cells → tag r m i ≡ 0 → (value r m i ≡ 0) × (slice_index m (sum_at r i) ≡ 0)

pub tree-of : (r : SumMap) (m : List ℕ) (g : Ranges) → Holds r m g → Tree r m g
tree-of r m g w = record { shape = w.shape; bare = w.bare }

-- what the sum word of a cell should be
abbrev pub due : SumMap → List ℕ → Ranges → ℕ → ℕ
due r m g i = sum_within r m (g.low i) (g.high i) r.cells % 2 ^ 64

pub holds-of : (r : SumMap) (m : List ℕ) (g : Ranges) → Tree r m g → ((i : ℕ) → Used r m i → slice_index m (sum_at r i) ≡ due r m g i) → Holds r m g
holds-of r m g w s = record { shape = w.shape; bare = w.bare; sums = s }

-- k has the tags and links of m
module _ (r : SumMap) (m k : List ℕ) (g : Ranges) (w : Tree r m g) (root : slice_index k r.at ≡ slice_index m r.at) (tags : (i : ℕ) → tag r k i ≡ tag r m i)
    (lefts : (i : ℕ) → slice_index k (left_at r i) ≡ slice_index m (left_at r i)) (rights : (i : ℕ) → slice_index k (right_at r i) ≡ slice_index m (right_at r i))
    (spares : (i : ℕ) → i < r.cells → tag r m i ≡ 0 → (value r k i ≡ 0) × (slice_index k (sum_at r i) ≡ 0)) where
  pub same-tree : Tree r k g
  same-tree = record { shape = same-shape (pool r) m k g w.shape root (λ i lt. tags i) (λ i lt. lefts i) (λ i lt. rights i); bare = λ i lt z. spares i lt (sym (tags i) ∙ z) }

  pub same-used-old : (i : ℕ) → Used r k i → Used r m i
  same-used-old i u = record { inside = u.inside; pos = subst (λ z. 0 < z) (tags i) u.pos }

  pub same-link : (l h a : ℕ) → LinkOf (pool r) m g l h a → LinkOf (pool r) k g l h a
  same-link l h a x = shape-link (pool r) m k g w.shape root (λ i lt. tags i) (λ i lt. lefts i) (λ i lt. rights i) l h a x

-- SUMS OVER RANGES
abbrev pub part : SumMap → List ℕ → ℕ → ℕ → ℕ → ℕ
part r m l h n = if ltb l (tag r m n) && ltb (tag r m n) h then value r m n else 0

pub part-step : (r : SumMap) (m : List ℕ) (l h n : ℕ) → sum_within r m l h (suc n) ≡ sum_within r m l h n + part r m l h n
part-step r m l h n = by (ltb l (tag r m n) && ltb (tag r m n) h)
  where
    by : (b : Bool) → (if b then sum_within r m l h n + value r m n else sum_within r m l h n) ≡ sum_within r m l h n + (if b then value r m n else 0)
    by true = refl
    by false = omega arith

pub within-same : (r : SumMap) (m k : List ℕ) (l h n : ℕ) → ((i : ℕ) → i < n → (tag r k i ≡ tag r m i) × (value r k i ≡ value r m i)) → sum_within r k l h n ≡ sum_within r m l h n
within-same r m k l h zero s = refl
within-same r m k l h (suc n) s = let e = within-same r m k l h n (λ i lt. s i (omega arith)) in let t = s n (omega arith) in let a = t.0 in let b = t.1 in rw (a, b, e) refl

pub within-set : (r : SumMap) (m k : List ℕ) (l h c n : ℕ) → c < n → ((i : ℕ) → i ≢ c → (tag r k i ≡ tag r m i) × (value r k i ≡ value r m i)) → sum_within r k l h n + part r m l h c ≡ sum_within r m l h n + part r k l h c
within-set r m k l h c zero lt s = absurd (omega arith)
within-set r m k l h c (suc n) lt s = by (n == c) refl (λ less. within-set r m k l h c n less s)
  where
    by : (b : Bool) → (n == c) ≡ b → (c < n → sum_within r k l h n + part r m l h c ≡ sum_within r m l h n + part r k l h c) → sum_within r k l h (suc n) + part r m l h c ≡ sum_within r m l h (suc n) + part r k l h c
    by true q go =
        let e : n ≡ c = grind (arith, nat_tests) in
        let x = within-same r m k l h n (λ i l. s i (λ z. absurd (omega arith))) in
        let y = part-step r k l h n in
        let z = part-step r m l h n in
        let a : part r k l h n ≡ part r k l h c = ap (part r k l h) e in
        let b : part r m l h n ≡ part r m l h c = ap (part r m l h) e in
        omega arith
    by false q go =
        let d : n ≢ c = grind (arith, nat_tests) in
        let t = s n d in
        let t0 = t.0 in
        let t1 = t.1 in
        let x = go (omega arith) in
        let y = part-step r k l h n in
        let z = part-step r m l h n in
        let a : part r k l h n ≡ part r m l h n = rw (t0, t1) refl in
        omega arith

pub part-in : (r : SumMap) (m : List ℕ) (l h c : ℕ) → l < tag r m c → tag r m c < h → part r m l h c ≡ value r m c
part-in r m l h c a b = let p : ltb l (tag r m c) ≡ true = grind (arith, nat_tests) in let q : ltb (tag r m c) h ≡ true = grind (arith, nat_tests) in rw (p, q) refl

pub part-out : (r : SumMap) (m : List ℕ) (l h c : ℕ) → (l < tag r m c → tag r m c < h → ⊥) → part r m l h c ≡ 0
part-out r m l h c out = by (ltb l (tag r m c)) refl (ltb (tag r m c) h) refl
  where
    by : (p : Bool) → ltb l (tag r m c) ≡ p → (q : Bool) → ltb (tag r m c) h ≡ q → (if p && q then value r m c else 0) ≡ 0
    by true p true q = absurd (out (grind (arith, nat_tests)) (grind (arith, nat_tests)))
    by true p false q = refl
    by false p b q = refl

-- a cell whose value stays counts in two ranges alike, if it is in both or in neither
pub part-same : (r : SumMap) (m k : List ℕ) (l h l' h' c : ℕ) → value r k c ≡ value r m c
    → (l < tag r m c → tag r m c < h → (l' < tag r k c) × (tag r k c < h'))
    → (l' < tag r k c → tag r k c < h' → (l < tag r m c) × (tag r m c < h)) → part r k l' h' c ≡ part r m l h c
part-same r m k l h l' h' c v to from = by (ltb l (tag r m c)) refl (ltb (tag r m c) h) refl
  where
    off : (l < tag r m c → tag r m c < h → ⊥) → part r k l' h' c ≡ part r m l h c
    off out = part-out r k l' h' c (λ p q. let f = from p q in out f.0 f.1) ∙ sym (part-out r m l h c out)

    by : (p : Bool) → ltb l (tag r m c) ≡ p → (q : Bool) → ltb (tag r m c) h ≡ q → part r k l' h' c ≡ part r m l h c
    by true p true q = let a : l < tag r m c = grind (arith, nat_tests) in let b : tag r m c < h = grind (arith, nat_tests) in let f = to a b in part-in r k l' h' c f.0 f.1 ∙ (v ∙ sym (part-in r m l h c a b))
    by true p false q = off (λ a b. (let z : h ≤ tag r m c = grind (arith, nat_tests) in absurd (omega arith)))
    by false p b q = off (λ a b. (let z : tag r m c ≤ l = grind (arith, nat_tests) in absurd (omega arith)))

pub within-none : (r : SumMap) (m : List ℕ) (l h n : ℕ) → ((i : ℕ) → i < n → l < tag r m i → tag r m i < h → ⊥) → sum_within r m l h n ≡ 0
within-none r m l h zero out = refl
within-none r m l h (suc n) out = let e = within-none r m l h n (λ i lt. out i (omega arith)) in let p = part-out r m l h n (out n (omega arith)) in let s = part-step r m l h n in omega arith

-- a sum that grows by d
pub mod-grows : (w s x y d : ℕ) → s ≡ x % w → y ≡ x + d → (s + d) % w ≡ y % w
mod-grows w s x y d e f = ap (λ i. (i + d) % w) e ∙ (mod-add-mod x w d ∙ ap (λ i. i % w) (sym f))

-- one of whose parts changes from a to v
pub mod-changes : (w s x y a v : ℕ) → s ≡ x % w → y + a ≡ x + v → a ≤ w → (s + (v + (w - a)) % w) % w ≡ y % w
mod-changes w s x y a v e f le =
    let q : x + (v + (w - a)) ≡ w + y = omega arith in
    ap (λ i. (i + (v + (w - a)) % w) % w) e ∙ (mod-add-mod x w ((v + (w - a)) % w) ∙ (add-mod-mod x (v + (w - a)) w ∙ (ap (λ i. i % w) q ∙ add-mod_left w y)))
