-- The walk that counts a chain.
use Rattle.std.proofs.Common.{ℕ, zero, suc, ◌≡◌, ◌≤◌, ◌+◌, List, length, false, refl, sym, ◌∙◌, arith, subst, inl, inr}
use Rattle.std.specs.Prelude.{ltb, slice_index}
use Rattle.std.proofs.Math.Nat.{mod-lt}
use Rattle.std.proofs.lemmas.Bool.Decides.{nat_tests}
use Rattle.data_effects.specs.Keys.{less_one}
use Rattle.data_cells.specs.declared.chains.Chains.{Chains}
use Rattle.data_effects.specs.Effects.{unchanged}
use Rattle.data_effects.proofs.KeyLaws.{how_many-most, keys-many}
use Rattle.data_cells.specs.Chains.{next_at, tag, keys, LinkOf, Names, IsChains, counted_in}
use Rattle.data_cells.proofs.ChainLaws.{is_above, left, left-step, left-none, is-above}

-- n cells of chain 0 are passed, and the next link is v
pub record Counted (r : Chains) (n v : ℕ) (m : List ℕ) : Type 0 where
  pub well : IsChains r m
  pub low : ℕ
  pub at : ℕ
  pub link : LinkOf r m 0 low at
  pub word : v ≡ slice_index m at
  pub sum : n + left r m 0 low ≡ left r m 0 0

pub counted-start : (r : Chains) (m : List ℕ) (v : ℕ) → IsChains r m → r.heads ≡ 1 → v ≡ slice_index m r.at → Counted r 0 v m
counted-start r m v w one e = record { well = w; low = 0; at = r.at; link = inl (omega arith, omega arith, refl); word = e; sum = omega arith }

counted-names : (r : Chains) (n v j : ℕ) (m : List ℕ) (c : Counted r n v m) → v ≡ suc j → Names r m 0 c.low (suc j)
counted-names r n v j m c e = subst (Names r m 0 c.low) (sym c.word ∙ e) (c.well.names 0 c.low c.at c.link)

pub counted-on : (r : Chains) (m : List ℕ) (n v j u : ℕ) → Counted r n v m → v ≡ suc j → u ≡ slice_index m (next_at r j) → Counted r (n + 1) u m
counted-on r m n v j u c e f =
    let x = counted-names r n v j m c e in
    record {
      well = c.well;
      low = tag r m j;
      at = next_at r j;
      link = inr (j, refl, refl, record { inside = x.0.inside; above = (let a = x.0.above in omega arith); chain = x.0.chain });
      word = f;
      sum = (let s = c.sum in let l = left-step r m 0 c.low j c.well x in omega arith);
    }

pub counted-inside : (r : Chains) (m : List ℕ) (n v : ℕ) → Counted r n v m → v ≤ r.cells
counted-inside r m n zero c = omega arith
counted-inside r m n (suc j) c = let x = (counted-names r n (suc j) j m c refl).0.inside in omega arith

keys-left : (r : Chains) (m : List ℕ) → r.heads ≡ 1 → length (keys r m) ≡ left r m 0 0
keys-left r m one = keys-many (tag r m) (is_above r m 0 0) r.cells
    (λ i lt z. let q : ltb 0 (tag r m i) ≡ false = grind (arith, nat_tests) in rw q refl)
    (λ i lt pos. is-above r m 0 0 i (record { inside = lt; above = pos; chain = (let x = mod-lt (less_one (tag r m i)) {m = r.heads} (omega arith) in omega arith) }))

pub counted-end : (r : Chains) (m : List ℕ) (n v : ℕ) → r.heads ≡ 1 → Counted r n v m → v ≡ 0 → counted_in r m ≡ unchanged n m
counted-end r m n v one c z =
    let x = subst (Names r m 0 c.low) (sym c.word ∙ z) (c.well.names 0 c.low c.at c.link) in
    let l = left-none r m 0 c.low x in
    let s = c.sum in
    let k = keys-left r m one in
    let q : length (keys r m) ≡ n = omega arith in rw q refl

-- after as many cells as there are, none follows
pub counted-out : (r : Chains) (m : List ℕ) (n v : ℕ) → r.heads ≡ 1 → Counted r n v m → r.cells ≤ n → counted_in r m ≡ unchanged n m
counted-out r m n v one c le =
    let most : left r m 0 0 ≤ r.cells = how_many-most (is_above r m 0 0) r.cells in
    let s = c.sum in
    let k = keys-left r m one in
    let q : length (keys r m) ≡ n = omega arith in rw q refl
