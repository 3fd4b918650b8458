-- What a put and a removal leave: words as values, and each word outside.
use Rattle.std.proofs.Common.{ℕ, ◌≡◌, ◌<◌, ◌≤◌, ◌≢◌, ◌+◌, ◌*◌, ◌^◌, List, length, get_or, set, Bool, true, false, refl, sym, ◌∙◌, arith, subst, inl, inr}
use Rattle.std.specs.Prelude.{◌⊎◌, ◌==◌, slice_index}
use Rattle.std.proofs.Math.ListN.{length-set}
use Rattle.std.proofs.lemmas.List.{get_or-set_same, get_or-set_other}
use Rattle.std.proofs.lemmas.Bool.Decides.{nat_tests}
use Rattle.data_tree.proofs.ShapeSame.{Outside, out-of}
use Rattle.data_sums.specs.declared.sum_map.SumMap.{SumMap}
use Rattle.data_sums.specs.Sums.{pool, tag_at, left_at, right_at, value_at, sum_at, value, LinksInside, HasWords, mended, spliced}
use Rattle.data_sums.proofs.SumContents.{mended-value}
use Rattle.data_sums.proofs.SumRegions.{mended-outside}
use Rattle.data_sums.proofs.SumTakes.{mended-length}

-- what a change within the region leaves
pub record Kept (r : SumMap) (m k : List ℕ) : Type 0 where
  pub words : HasWords r k
  pub out : (x : ℕ) → Outside (pool r) x → get_or k x 0 ≡ get_or m x 0
  pub long : length k ≡ length m

pub kept-self : (r : SumMap) (m : List ℕ) → HasWords r m → Kept r m m
kept-self r m w = record { words = w; out = λ x o. refl; long = refl }

pub kept-set : (r : SumMap) (m k : List ℕ) (a v : ℕ) → Kept r m k → r.at + 1 + 5 * r.cells ≤ length m → r.at ≤ a → a < r.at + 1 + 5 * r.cells → (v < 2 ^ 64) ⊎ ((i : ℕ) → value_at r i ≢ a) → Kept r m (set k a v)
kept-set r m k a v w room lo hi ok = record {
  words = λ i lt. by ok i (w.words i lt) (value_at r i == a) refl;
  out = λ x o. get_or-set_other k a x v 0 (out-of (pool r) x a o lo hi) ∙ w.out x o;
  long = length-set k a v ∙ w.long;
}
  where
    by : (v < 2 ^ 64) ⊎ ((i : ℕ) → value_at r i ≢ a) → (i : ℕ) → value r k i < 2 ^ 64 → (b : Bool) → (value_at r i == a) ≡ b → value r (set k a v) i < 2 ^ 64
    by (inl s) i h true q =
        let e : value_at r i ≡ a = grind (arith, nat_tests) in
        let l = w.long in
        subst (λ z. get_or (set k a v) z 0 < 2 ^ 64) (sym e) (subst (λ z. z < 2 ^ 64) (sym (get_or-set_same k a v 0 (omega arith))) s)
    by (inr d) i h true q = absurd (d i (grind (arith, nat_tests)))
    by ok i h false q = let e : value_at r i ≢ a = grind (arith, nat_tests) in subst (λ z. z < 2 ^ 64) (sym (get_or-set_other k a (value_at r i) v 0 e)) h

pub kept-mended : (r : SumMap) (m k : List ℕ) (key d n a : ℕ) → Kept r m k → LinksInside r k → slice_index k a ≤ r.cells → Kept r m (mended r key d n a k)
kept-mended r m k key d n a w links le = record {
  words = λ i lt. subst (λ z. z < 2 ^ 64) (sym (mended-value r key d n a k i)) (w.words i lt);
  out = λ x o. mended-outside r key d n a x k links le o ∙ w.out x o;
  long = mended-length r key d n a k ∙ w.long;
}

pub kept-spliced : (r : SumMap) (m k : List ℕ) (y e v : ℕ) → Kept r m k → r.at + 1 + 5 * r.cells ≤ length m → y < r.cells → r.at ≤ e
    → e < r.at + 1 + 5 * r.cells → ((i : ℕ) → value_at r i ≢ e) → Kept r m (spliced r y e v k)
kept-spliced r m k y e v w room lt lo hi d =
    let a = kept-set r m k e v w room lo hi (inr d) in
    let b = kept-set r m _ (tag_at r y) 0 a room (omega arith) (omega arith) (inl (omega arith)) in
    let c = kept-set r m _ (left_at r y) 0 b room (omega arith) (omega arith) (inl (omega arith)) in
    let f = kept-set r m _ (right_at r y) 0 c room (omega arith) (omega arith) (inl (omega arith)) in
    let g = kept-set r m _ (value_at r y) 0 f room (omega arith) (omega arith) (inl (omega arith)) in
    kept-set r m _ (sum_at r y) 0 g room (omega arith) (omega arith) (inl (omega arith))
