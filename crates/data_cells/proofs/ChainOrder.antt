-- How the links of chains stand to each other.
use Rattle.std.proofs.Common.{ℕ, ◌≡◌, ◌<◌, ◌≤◌, ◌≢◌, ◌+◌, ◌*◌, List, length, get_or, set, Bool, true, false, refl, sym, ap, ◌∙◌, arith, subst, inl, inr}
use Rattle.std.specs.Prelude.{ltb}
use Rattle.std.proofs.Math.ListN.{length-set}
use Rattle.std.proofs.lemmas.List.{get_or-set_same, get_or-set_other}
use Rattle.std.proofs.lemmas.Bool.Decides.{nat_tests}
use Rattle.data_effects.specs.Keys.{less_one}
use Rattle.data_cells.specs.declared.chains.Chains.{Chains}
use Rattle.data_cells.specs.Chains.{tag_at, next_at, tag, bucket, Above, LinkOf, IsChains}

-- an address is that of a link of one chain and one tag
pub link-one : (r : Chains) (m : List ℕ) (b c low high a : ℕ) → LinkOf r m b low a → LinkOf r m c high a → (b ≡ c) × (low ≡ high)
link-one r m b c low high a (inl x) (inl y) = let p = x.0 in let q = y.0 in let u = x.2 in let v = y.2 in (omega arith, omega arith)
link-one r m b c low high a (inl x) (inr y) = let p = x.0 in let q = y.1 in let lt = x.1 in absurd (omega arith)
link-one r m b c low high a (inr x) (inl y) = let p = x.1 in let q = y.0 in let lt = y.1 in absurd (omega arith)
link-one r m b c low high a (inr x) (inr y) =
    let p = x.1 in let q = y.1 in let e : x.0 ≡ y.0 = omega arith in
    let t : tag r m x.0 ≡ tag r m y.0 = ap (tag r m) e in
    (sym x.3.chain ∙ (ap (λ t. bucket r (less_one t)) t ∙ y.3.chain), x.2 ∙ (t ∙ sym y.2))

-- a chain has one link of a tag
pub link-same : (r : Chains) (m : List ℕ) (b low a d : ℕ) → IsChains r m → LinkOf r m b low a → LinkOf r m b low d → a ≡ d
link-same r m b low a d w (inl x) (inl y) = let p = x.0 in let q = y.0 in omega arith
link-same r m b low a d w (inl x) (inr y) = let p = x.2 in let q = y.2 in let lt = y.3.above in absurd (omega arith)
link-same r m b low a d w (inr x) (inl y) = let p = y.2 in let q = x.2 in let lt = x.3.above in absurd (omega arith)
link-same r m b low a d w (inr x) (inr y) =
    let e = w.differ x.0 y.0 x.3.inside y.3.inside x.3.above (sym x.2 ∙ y.2) in
    let p = x.1 in let q = y.1 in omega arith

-- of two links of a chain, the one of the greater tag is in a cell that is above the other
pub link-above : (r : Chains) (m : List ℕ) (b low high a : ℕ) → LinkOf r m b high a → low < high → (i : ℕ) × (tag r m i ≡ high) × Above r m b low i
link-above r m b low high a (inl x) lt = let p = x.2 in absurd (omega arith)
link-above r m b low high a (inr x) lt = let p = x.2 in (x.0, sym p, record { inside = x.3.inside; above = omega arith; chain = x.3.chain })

pub link-inside : (r : Chains) (m : List ℕ) (b low a : ℕ) → LinkOf r m b low a → ((j : ℕ) → a ≢ tag_at r j) × (a < r.at + r.heads + 2 * r.cells)
link-inside r m b low a (inl x) = let p = x.0 in let lt = x.1 in ((λ j e. absurd (omega arith)), omega arith)
link-inside r m b low a (inr x) = let p = x.1 in let lt = x.3.inside in ((λ j e. absurd (omega arith)), omega arith)

-- a link isn't that of a free cell
pub link-used : (r : Chains) (m : List ℕ) (b low a c : ℕ) → LinkOf r m b low a → tag r m c ≡ 0 → a ≢ next_at r c
link-used r m b low a c (inl x) z = λ e. let p = x.0 in let lt = x.1 in absurd (omega arith)
link-used r m b low a c (inr x) z = λ e. let p = x.1 in let s : x.0 ≡ c = omega arith in let t : tag r m x.0 ≡ tag r m c = ap (tag r m) s in let lt = x.3.above in absurd (omega arith)

-- three words set
module _ (m : List ℕ) (a u b v c w : ℕ) where
  pub three-other : (x : ℕ) → x ≢ a → x ≢ b → x ≢ c → get_or (set (set (set m a u) b v) c w) x 0 ≡ get_or m x 0
  three-other x p q s = get_or-set_other (set (set m a u) b v) c x w 0 s ∙ (get_or-set_other (set m a u) b x v 0 q ∙ get_or-set_other m a x u 0 p)

  pub three-last : c < length m → get_or (set (set (set m a u) b v) c w) c 0 ≡ w
  three-last lt = get_or-set_same (set (set m a u) b v) c w 0 (simp length-set lt)

  pub three-second : b < length m → b ≢ c → get_or (set (set (set m a u) b v) c w) b 0 ≡ v
  three-second lt n = get_or-set_other (set (set m a u) b v) c b w 0 n ∙ get_or-set_same (set m a u) b v 0 (simp length-set lt)

  pub three-first : a < length m → a ≢ b → a ≢ c → get_or (set (set (set m a u) b v) c w) a 0 ≡ u
  three-first lt n o = get_or-set_other (set (set m a u) b v) c a w 0 o ∙ (get_or-set_other (set m a u) b a v 0 n ∙ get_or-set_same m a u 0 lt)

pub weaker : (r : Chains) (m : List ℕ) (b low high k : ℕ) → low ≤ high → Above r m b high k → Above r m b low k
weaker r m b low high k le h = record { inside = h.inside; above = (let a = h.above in omega arith); chain = h.chain }

-- how two links of one chain stand: where the tag of d is not more than the next tag t after a, d is a, or it is before
-- a's cell
pub before-or : (r : Chains) (m : List ℕ) (b low high a d t : ℕ) → IsChains r m → LinkOf r m b low a → LinkOf r m b high d → a ≢ d → high < t → ((k : ℕ) → Above r m b low k → t ≤ tag r m k)
    → (i : ℕ) × (tag r m i ≡ low) × Above r m b high i
before-or r m b low high a d t w la ld n lt far = by (ltb high low) refl (ltb low high) refl
  where
    by : (p : Bool) → ltb high low ≡ p → (q : Bool) → ltb low high ≡ q → (i : ℕ) × (tag r m i ≡ low) × Above r m b high i
    by true p q e = link-above r m b high low a la (grind (arith, nat_tests))
    by false p true e = let x = link-above r m b low high d ld (grind (arith, nat_tests)) in let le = far x.0 x.2 in let y = x.1 in absurd (omega arith)
    by false p false e = let same : high ≡ low = grind (arith, nat_tests) in absurd (n (link-same r m b low a d w la (subst (λ h. LinkOf r m b h d) same ld)))
