-- An insert keeps chains well formed.
use Rattle.std.proofs.Common.{ℕ, zero, suc, ◌≡◌, ◌<◌, ◌≤◌, ◌≢◌, ◌+◌, ◌*◌, ◌^◌, List, length, get_or, Bool, true, false, refl, sym, ap, ◌∙◌, arith, subst, inl, inr}
use Rattle.std.specs.Prelude.{◌⊎◌, ◌==◌, slice_index}
use Rattle.std.proofs.lemmas.Bool.Decides.{nat_tests}
use Rattle.data_effects.specs.Keys.{less_one}
use Rattle.data_cells.specs.declared.chains.Chains.{Chains}
use Rattle.data_cells.specs.Chains.{tag_at, next_at, tag, bucket, Above, LinkOf, Names, IsChains, linked}
use Rattle.data_cells.proofs.ChainLaws.{Found}
use Rattle.data_effects.specs.declared.position.Position.{Position}
use Rattle.data_cells.proofs.ChainOrder.{link-one, link-inside, link-used, weaker, before-or, three-other, three-last, three-second, three-first}

-- A CELL LINKED IN. k is m with the key in the free cell c, and c in the chain at the key's place
module _ (r : Chains) (m k : List ℕ) (key c : ℕ) (s : Position) (w : IsChains r m) (f : Found r m key s) (inside : c < r.cells) (free : tag r m c ≡ 0)
    (absent : (i : ℕ) → i < r.cells → tag r m i ≢ suc key) (small : key < 2 ^ 32)
    (others : (i : ℕ) → i ≢ c → tag r k i ≡ tag r m i) (new : tag r k c ≡ suc key)
    (words : (b low a : ℕ) → LinkOf r m b low a → a ≢ s.link → slice_index k a ≡ slice_index m a)
    (at : slice_index k s.link ≡ suc c) (own : slice_index k (next_at r c) ≡ s.next)
    (spares : (i : ℕ) → tag r m i ≡ 0 → i ≢ c → slice_index k (next_at r i) ≡ slice_index m (next_at r i)) where
  next-names : Names r m (bucket r key) f.low s.next
  next-names = subst (Names r m (bucket r key) f.low) f.word (w.names (bucket r key) f.low s.link f.link)

  -- what is after the place has a greater key
  far : (i : ℕ) → Above r m (bucket r key) f.low i → suc (suc key) ≤ tag r m i
  far i h = by s.next refl next-names
    where
      by : (v : ℕ) → s.next ≡ v → Names r m (bucket r key) f.low v → suc (suc key) ≤ tag r m i
      by zero e n = absurd (n i h)
      by (suc j) e n = let le = n.1 i h in let g = (f.some j e).1 in let d = absent i h.inside in omega arith

  not-c : (i : ℕ) → 0 < tag r m i → i ≢ c
  not-c i lt e = let t : tag r m i ≡ tag r m c = ap (tag r m) e in absurd (omega arith)

  to-new : (b low i : ℕ) → Above r m b low i → Above r k b low i
  to-new b low i h = let t = others i (not-c i (let a = h.above in omega arith)) in
      record { inside = h.inside; above = subst (λ x. low < x) (sym t) h.above; chain = subst (λ x. bucket r (less_one x) ≡ b) (sym t) h.chain }

  from-new : (b low i : ℕ) → Above r k b low i → ((i ≡ c) × (low ≤ key) × (bucket r key ≡ b)) ⊎ Above r m b low i
  from-new b low i h = by (i == c) refl
    where
      by : (t : Bool) → (i == c) ≡ t → ((i ≡ c) × (low ≤ key) × (bucket r key ≡ b)) ⊎ Above r m b low i
      by true q = let e : i ≡ c = grind (arith, nat_tests) in let t : tag r k i ≡ suc key = ap (tag r k) e ∙ new in let a = h.above in
          inl (e, omega arith, subst (λ x. bucket r (less_one x) ≡ b) t h.chain)
      by false q = let t = others i (grind (arith, nat_tests)) in inr (record { inside = h.inside; above = subst (λ x. low < x) t h.above; chain = subst (λ x. bucket r (less_one x) ≡ b) t h.chain })

  -- a word that names the next cell still does, if the new cell isn't before that
  names-new : (b low v : ℕ) → Names r m b low v → (bucket r key ≡ b → low ≤ key → (j : ℕ) × (v ≡ suc j) × (tag r m j ≤ suc key)) → Names r k b low v
  names-new b low zero n h = λ i a. by i (from-new b low i a)
    where
      by : (i : ℕ) → ((i ≡ c) × (low ≤ key) × (bucket r key ≡ b)) ⊎ Above r m b low i → ⊥
      by i (inl x) = let y = h x.2 x.1 in let z = y.1 in absurd cc
      by i (inr x) = n i x
  names-new b low (suc j) n h = (to-new b low j n.0, λ i a. by i (from-new b low i a))
    where
      tj : tag r k j ≡ tag r m j
      tj = others j (not-c j (let a = n.0.above in omega arith))

      by : (i : ℕ) → ((i ≡ c) × (low ≤ key) × (bucket r key ≡ b)) ⊎ Above r m b low i → tag r k j ≤ tag r k i
      by i (inl x) = let y = h x.2 x.1 in let e : j ≡ y.0 = cc in let t : tag r m j ≡ tag r m y.0 = ap (tag r m) e in let u : tag r k i ≡ suc key = ap (tag r k) x.0 ∙ new in
          let le = y.2 in let q = tj in omega arith
      by i (inr x) = let q = tj in let t = others i (not-c i (let a = x.above in omega arith)) in let le = n.1 i x in omega arith

  -- the links: the new cell's own, the one at the place, and the others
  own-names : Names r k (bucket r key) (suc key) s.next
  own-names = by s.next refl next-names
    where
      back : (i : ℕ) → ((i ≡ c) × (suc key ≤ key) × (bucket r key ≡ bucket r key)) ⊎ Above r m (bucket r key) (suc key) i → Above r m (bucket r key) f.low i
      back i (inl x) = let y = x.1 in absurd (omega arith)
      back i (inr x) = weaker r m (bucket r key) f.low (suc key) i (let u = f.under in omega arith) x

      by : (v : ℕ) → s.next ≡ v → Names r m (bucket r key) f.low v → Names r k (bucket r key) (suc key) v
      by zero e n = λ i a. n i (back i (from-new (bucket r key) (suc key) i a))
      by (suc j) e n =
          let t = others j (not-c j (let a = n.0.above in omega arith)) in
          let g = far j n.0 in (
            to-new (bucket r key) (suc key) j (record { inside = n.0.inside; above = omega arith; chain = n.0.chain }),
            λ i a. let x = back i (from-new (bucket r key) (suc key) i a) in let le = n.1 i x in let u = others i (not-c i (let y = x.above in omega arith)) in omega arith,
          )

  place-names : Names r k (bucket r key) f.low (suc c)
  place-names = (record { inside = inside; above = (let u = f.under in omega arith); chain = ap (λ t. bucket r (less_one t)) new }, λ i a. by i (from-new (bucket r key) f.low i a))
    where
      by : (i : ℕ) → ((i ≡ c) × (f.low ≤ key) × (bucket r key ≡ bucket r key)) ⊎ Above r m (bucket r key) f.low i → tag r k c ≤ tag r k i
      by i (inl x) = let t : tag r k i ≡ tag r k c = ap (tag r k) x.0 in omega arith
      by i (inr x) = let g = far i x in let u = others i (not-c i (omega arith)) in omega arith

  old-names : (b low a : ℕ) → LinkOf r m b low a → Names r k b low (slice_index k a)
  old-names b low a l = by (a == s.link) refl
    where
      before : a ≢ s.link → bucket r key ≡ b → low ≤ key → (v : ℕ) → slice_index m a ≡ v → Names r m b low v → (j : ℕ) × (v ≡ suc j) × (tag r m j ≤ suc key)
      before n q le v e names =
          let l' = subst (λ x. LinkOf r m x low a) (sym q) l in
          let x = before-or r m (bucket r key) f.low low s.link a (suc key) w f.link l' (λ y. n (sym y)) (omega arith) (λ i h. let g = far i h in omega arith) in
          named x.0 x.1 (subst (λ y. Above r m y low x.0) q x.2) v names
        where
          named : (i : ℕ) → tag r m i ≡ f.low → Above r m b low i → (v : ℕ) → Names r m b low v → (j : ℕ) × (v ≡ suc j) × (tag r m j ≤ suc key)
          named i u x zero names = absurd (names i x)
          named i u x (suc j) names = (j, refl, let t = names.1 i x in let v = f.under in omega arith)

      by : (t : Bool) → (a == s.link) ≡ t → Names r k b low (slice_index k a)
      by true q =
          let e : a ≡ s.link = grind (arith, nat_tests) in
          let o = link-one r m b (bucket r key) low f.low a l (subst (LinkOf r m (bucket r key) f.low) (sym e) f.link) in
          let v : slice_index k a ≡ suc c = ap (λ x. get_or k x 0) e ∙ at in
          rw (o.0, o.1, v) place-names
      by false q =
          let n : a ≢ s.link = grind (arith, nat_tests) in
          rw (words b low a l n) (names-new b low (slice_index m a) (w.names b low a l) (λ e le. before n e le (slice_index m a) refl (w.names b low a l)))

  pub link-keeps : IsChains r k
  link-keeps = record {
    names = λ b low a l. names b low a l;
    differ = λ i j il jl pos e. differ i j il jl pos e (i == c) refl (j == c) refl;
    spare = λ i lt z. let n : i ≢ c = λ e. (let t : tag r k i ≡ tag r k c = ap (tag r k) e in absurd (omega arith)) in
        let t = others i n in let z' : tag r m i ≡ 0 = omega arith in spares i z' n ∙ w.spare i lt z';
    small = λ i lt. low i (i == c) refl (w.small i lt);
  }
    where
      names : (b low a : ℕ) → LinkOf r k b low a → Names r k b low (slice_index k a)
      names b low a (inl x) = old-names b low a (inl x)
      names b low a (inr (i, p, q, h)) = by (from-new b 0 i h)
        where
          by : ((i ≡ c) × (0 ≤ key) × (bucket r key ≡ b)) ⊎ Above r m b 0 i → Names r k b low (slice_index k a)
          by (inl x) =
              let u : a ≡ next_at r c = p ∙ ap (next_at r) x.0 in
              let t : low ≡ suc key = q ∙ (ap (tag r k) x.0 ∙ new) in
              let v : slice_index k a ≡ s.next = ap (λ y. get_or k y 0) u ∙ own in
              let e : b ≡ bucket r key = sym x.2 in
              rw (e, t, v) own-names
          by (inr x) = old-names b low a (inr (i, p, q ∙ others i (not-c i x.above), x))

      differ : (i j : ℕ) → i < r.cells → j < r.cells → 0 < tag r k i → tag r k i ≡ tag r k j → (x : Bool) → (i == c) ≡ x → (y : Bool) → (j == c) ≡ y → i ≡ j
      differ i j il jl pos e true p true q = let a : i ≡ c = grind (arith, nat_tests) in let b : j ≡ c = grind (arith, nat_tests) in a ∙ sym b
      differ i j il jl pos e true p false q = let a : i ≡ c = grind (arith, nat_tests) in let b : j ≢ c = grind (arith, nat_tests) in absurd (absent j jl (sym (others j b) ∙ (sym e ∙ (ap (tag r k) a ∙ new))))
      differ i j il jl pos e false p true q = let a : j ≡ c = grind (arith, nat_tests) in let b : i ≢ c = grind (arith, nat_tests) in absurd (absent i il (sym (others i b) ∙ (e ∙ (ap (tag r k) a ∙ new))))
      differ i j il jl pos e false p false q = let a = others i (grind (arith, nat_tests)) in let b = others j (grind (arith, nat_tests)) in w.differ i j il jl (omega arith) (omega arith)

      low : (i : ℕ) (t : Bool) → (i == c) ≡ t → tag r m i ≤ 2 ^ 32 → tag r k i ≤ 2 ^ 32
      low i true q le = let e : i ≡ c = grind (arith, nat_tests) in let t : tag r k i ≡ suc key = ap (tag r k) e ∙ new in omega arith
      low i false q le = let t = others i (grind (arith, nat_tests)) in omega arith

pub linked-keeps : (r : Chains) (m : List ℕ) (key c : ℕ) (s : Position) → IsChains r m → Found r m key s → r.at + r.heads + 2 * r.cells ≤ length m → c < r.cells → tag r m c ≡ 0
    → ((i : ℕ) → i < r.cells → tag r m i ≢ suc key) → key < 2 ^ 32 → IsChains r (linked r key c s.link s.next m)
linked-keeps r m key c s w f room inside free absent small =
    let l = link-inside r m (bucket r key) f.low s.link f.link in
    let a-t = λ (i : ℕ) (e : s.link ≡ tag_at r i). l.0 i e in
    let a-c : s.link ≢ next_at r c = link-used r m (bucket r key) f.low s.link c f.link free in
    let lt = l.1 in
    let t = tag_at r c in
    let n = next_at r c in
    let t-n : t ≢ n = λ e. absurd (omega arith) in
    link-keeps r m (linked r key c s.link s.next m) key c s w f inside free absent small
    (λ i d. three-other m t (suc key) n s.next s.link (suc c) (tag_at r i) (λ e. d (omega arith)) (λ e. absurd (omega arith)) (λ e. l.0 i (sym e)))
    (three-first m t (suc key) n s.next s.link (suc c) (omega arith) t-n (λ e. l.0 c (sym e)))
    (λ b low a x d. let y = link-inside r m b low a x in three-other m t (suc key) n s.next s.link (suc c) a (y.0 c) (link-used r m b low a c x free) d)
    (three-last m t (suc key) n s.next s.link (suc c) (omega arith))
    (three-second m t (suc key) n s.next s.link (suc c) (omega arith) (λ e. a-c (sym e)))
    (λ i z d. three-other m t (suc key) n s.next s.link (suc c) (next_at r i) (λ e. absurd (omega arith)) (λ e. d (omega arith)) (λ e. link-used r m (bucket r key) f.low s.link i f.link z (sym e)))
