-- A removal keeps chains well formed.
use Rattle.std.proofs.Common.{ℕ, zero, suc, ◌≡◌, ◌<◌, ◌≤◌, ◌≢◌, ◌+◌, ◌*◌, ◌^◌, List, length, get_or, Bool, true, false, refl, sym, ap, ◌∙◌, arith, subst, inl, inr}
use Rattle.std.specs.Prelude.{◌==◌, slice_index}
use Rattle.std.proofs.lemmas.Bool.Decides.{nat_tests}
use Rattle.data_effects.specs.Keys.{less_one}
use Rattle.data_cells.specs.declared.chains.Chains.{Chains}
use Rattle.data_cells.specs.Chains.{tag_at, next_at, tag, bucket, Above, LinkOf, Names, IsChains, unlinked}
use Rattle.data_cells.proofs.ChainLaws.{Found}
use Rattle.data_effects.specs.declared.position.Position.{Position}
use Rattle.data_cells.proofs.ChainOrder.{link-one, link-inside, link-used, weaker, before-or, three-other, three-last, three-second, three-first}

-- A CELL UNLINKED. k is m with the cell c of the key out of its chain
module _ (r : Chains) (m k : List ℕ) (key c : ℕ) (s : Position) (w : IsChains r m) (f : Found r m key s) (named : s.next ≡ suc c) (tagged : tag r m c ≡ suc key)
    (others : (i : ℕ) → i ≢ c → tag r k i ≡ tag r m i) (freed : tag r k c ≡ 0)
    (words : (b low a : ℕ) → LinkOf r m b low a → a ≢ s.link → a ≢ next_at r c → slice_index k a ≡ slice_index m a)
    (at : slice_index k s.link ≡ slice_index m (next_at r c)) (own : slice_index k (next_at r c) ≡ 0)
    (spares : (i : ℕ) → tag r m i ≡ 0 → slice_index k (next_at r i) ≡ slice_index m (next_at r i)) where
  c-next : Names r m (bucket r key) f.low (suc c)
  c-next = subst (Names r m (bucket r key) f.low) (f.word ∙ named) (w.names (bucket r key) f.low s.link f.link)

  -- what is after the place, other than c, is after c
  behind : (i : ℕ) → i ≢ c → Above r m (bucket r key) f.low i → Above r m (bucket r key) (tag r m c) i
  behind i n h = let le = c-next.1 i h in let d : tag r m c ≢ tag r m i = λ e. n (sym (w.differ c i c-next.0.inside h.inside (omega arith) e)) in
      record { inside = h.inside; above = omega arith; chain = h.chain }

  used-new : (i : ℕ) → 0 < tag r k i → i ≢ c
  used-new i lt e = let t : tag r k i ≡ tag r k c = ap (tag r k) e in absurd (omega arith)

  from-new : (b low i : ℕ) → Above r k b low i → (i ≢ c) × Above r m b low i
  from-new b low i h = let n = used-new i (let a = h.above in omega arith) in let t = others i n in
      (n, record { inside = h.inside; above = subst (λ x. low < x) t h.above; chain = subst (λ x. bucket r (less_one x) ≡ b) t h.chain })

  to-new : (b low i : ℕ) → i ≢ c → Above r m b low i → Above r k b low i
  to-new b low i n h = let t = others i n in
      record { inside = h.inside; above = subst (λ x. low < x) (sym t) h.above; chain = subst (λ x. bucket r (less_one x) ≡ b) (sym t) h.chain }

  -- a word that names the next cell, which isn't c, still does
  names-new : (b low v : ℕ) → Names r m b low v → v ≢ suc c → Names r k b low v
  names-new b low zero n d = λ i a. n i (from-new b low i a).1
  names-new b low (suc j) n d = let jc : j ≢ c = λ e. d (ap suc e) in
      (to-new b low j jc n.0, λ i a. let x = from-new b low i a in let t = others j jc in let u = others i x.0 in let le = n.1 i x.1 in omega arith)

  place-names : Names r k (bucket r key) f.low (slice_index m (next_at r c))
  place-names = by (slice_index m (next_at r c)) (w.names (bucket r key) (tag r m c) (next_at r c) (inr (c, refl, refl, record { inside = c-next.0.inside; above = omega arith; chain = c-next.0.chain })))
    where
      by : (v : ℕ) → Names r m (bucket r key) (tag r m c) v → Names r k (bucket r key) f.low v
      by zero n = λ i a. let x = from-new (bucket r key) f.low i a in n i (behind i x.0 x.1)
      by (suc j) n =
          let jc : j ≢ c = λ e. (let t : tag r m j ≡ tag r m c = ap (tag r m) e in let a = n.0.above in absurd (omega arith)) in
          let le = c-next.0.above in (
            to-new (bucket r key) f.low j jc (weaker r m (bucket r key) f.low (tag r m c) j (omega arith) n.0),
            λ i a. let x = from-new (bucket r key) f.low i a in let t = others j jc in let u = others i x.0 in let q = n.1 i (behind i x.0 x.1) in omega arith,
          )

  old-names : (b low a : ℕ) → LinkOf r m b low a → a ≢ next_at r c → Names r k b low (slice_index k a)
  old-names b low a l own' = by (a == s.link) refl
    where
      -- one link alone names c
      once : a ≢ s.link → Names r m b low (suc c) → ⊥
      once n names =
          let q : b ≡ bucket r key = sym names.0.chain ∙ c-next.0.chain in
          let lt = names.0.above in
          let x = before-or r m (bucket r key) f.low low s.link a (suc key) w f.link (subst (λ y. LinkOf r m y low a) q l) (λ y. n (sym y)) (omega arith) (λ i h. let le = c-next.1 i h in omega arith) in
          let le = names.1 x.0 (subst (λ y. Above r m y low x.0) (sym q) x.2) in
          let u = x.1 in let v = f.under in absurd (omega arith)

      by : (t : Bool) → (a == s.link) ≡ t → Names r k b low (slice_index k a)
      by true q =
          let e : a ≡ s.link = grind (arith, nat_tests) in
          let o = link-one r m b (bucket r key) low f.low a l (subst (LinkOf r m (bucket r key) f.low) (sym e) f.link) in
          let v : slice_index k a ≡ slice_index m (next_at r c) = ap (λ x. get_or k x 0) e ∙ at in
          rw (o.0, o.1, v) place-names
      by false q =
          let n : a ≢ s.link = grind (arith, nat_tests) in
          rw (words b low a l n own') (names-new b low (slice_index m a) (w.names b low a l) (λ e. once n (subst (Names r m b low) e (w.names b low a l))))

  pub unlink-keeps : IsChains r k
  unlink-keeps = record {
    names = λ b low a l. names b low a l;
    differ = λ i j il jl pos e. let n = used-new i pos in let o = used-new j (subst (λ x. 0 < x) e pos) in let t = others i n in let u = others j o in w.differ i j il jl (omega arith) (omega arith);
    spare = λ i lt z. spare i lt z (i == c) refl;
    small = λ i lt. low i (i == c) refl (w.small i lt);
  }
    where
      names : (b low a : ℕ) → LinkOf r k b low a → Names r k b low (slice_index k a)
      names b low a (inl x) = old-names b low a (inl x) (λ e. (let p = x.0 in let lt = x.1 in absurd (omega arith)))
      names b low a (inr (i, p, q, h)) = let x = from-new b 0 i h in old-names b low a (inr (i, p, q ∙ others i x.0, x.1)) (λ e. x.0 (omega arith))

      spare : (i : ℕ) → i < r.cells → tag r k i ≡ 0 → (t : Bool) → (i == c) ≡ t → slice_index k (next_at r i) ≡ 0
      spare i lt z true q = let e : i ≡ c = grind (arith, nat_tests) in ap (λ x. get_or k (next_at r x) 0) e ∙ own
      spare i lt z false q = let t = others i (grind (arith, nat_tests)) in let z' : tag r m i ≡ 0 = omega arith in spares i z' ∙ w.spare i lt z'

      low : (i : ℕ) (t : Bool) → (i == c) ≡ t → tag r m i ≤ 2 ^ 32 → tag r k i ≤ 2 ^ 32
      low i true q le = let e : i ≡ c = grind (arith, nat_tests) in let t : tag r k i ≡ tag r k c = ap (tag r k) e in omega arith
      low i false q le = let t = others i (grind (arith, nat_tests)) in omega arith

pub unlinked-keeps : (r : Chains) (m : List ℕ) (key c : ℕ) (s : Position) → IsChains r m → Found r m key s → r.at + r.heads + 2 * r.cells ≤ length m → s.next ≡ suc c → tag r m c ≡ suc key
    → IsChains r (unlinked r c s.link (slice_index m (next_at r c)) m)
unlinked-keeps r m key c s w f room named tagged =
    let l = link-inside r m (bucket r key) f.low s.link f.link in
    let lt = l.1 in
    let v = slice_index m (next_at r c) in
    let t = tag_at r c in
    let n = next_at r c in
    let names : Names r m (bucket r key) f.low (suc c) = subst (Names r m (bucket r key) f.low) (f.word ∙ named) (w.names (bucket r key) f.low s.link f.link) in
    let inside : c < r.cells = names.0.inside in
    let own : LinkOf r m (bucket r key) (tag r m c) n = inr (c, refl, refl, record { inside = inside; above = omega arith; chain = names.0.chain }) in
    let a-n : s.link ≢ n = λ e. (let x = (link-one r m (bucket r key) (bucket r key) f.low (tag r m c) n (subst (LinkOf r m (bucket r key) f.low) e f.link) own).1 in let u = f.under in absurd (omega arith)) in
    let t-n : t ≢ n = λ e. absurd (omega arith) in
    unlink-keeps r m (unlinked r c s.link v m) key c s w f named tagged
    (λ i d. three-other m s.link v t 0 n 0 (tag_at r i) (λ e. l.0 i (sym e)) (λ e. d (omega arith)) (λ e. absurd (omega arith)))
    (three-second m s.link v t 0 n 0 (omega arith) t-n)
    (λ b low a x d o. let y = link-inside r m b low a x in three-other m s.link v t 0 n 0 a d (y.0 c) o)
    (three-first m s.link v t 0 n 0 (omega arith) (l.0 c) a-n)
    (three-last m s.link v t 0 n 0 (omega arith))
    (λ i z. three-other m s.link v t 0 n 0 (next_at r i) (λ e. link-used r m (bucket r key) f.low s.link i f.link z (sym e)) (λ e. absurd (omega arith))
    (λ e. let q : i ≡ c = omega arith in let u : tag r m i ≡ tag r m c = ap (tag r m) q in absurd (omega arith)))
