-- What a removal does to the pairs: the key goes, and each other key keeps its value.
use Rattle.std.proofs.Common.{ℕ, zero, suc, ◌≡◌, ◌<◌, ◌≤◌, ◌≢◌, ◌+◌, ◌*◌, ◌^◌, List, length, set, Bool, true, false, refl, sym, ap, ◌∙◌, arith, subst, inl, inr}
use Rattle.std.specs.Option.{is_some}
use Rattle.std.specs.Prelude.{◌⊎◌, ◌==◌, if◌then◌else◌, Some, None, slice_index}
use Rattle.std.proofs.lemmas.List.{get_or-set_same, get_or-set_other}
use Rattle.std.proofs.lemmas.Bool.Decides.{nat_tests}
use Rattle.data_effects.specs.declared.position.Position.{Position}
use Rattle.data_effects.specs.Keys.{less_one}
use Rattle.data_effects.proofs.KeyLaws.{how_many-most}
use Rattle.data_tree.specs.Shapes.{Ranges, LinkOf, Names}
use Rattle.data_tree.proofs.ShapeWalks.{named-used, Found, position-found}
use Rattle.data_tree.proofs.ShapeLeast.{Leftmost, leftmost-found}
use Rattle.data_sums.specs.declared.sum_map.SumMap.{SumMap}
use Rattle.data_sums.specs.Sums.{pool, HasWords, IsSumMap, Used, Holds, value, value_at, tag_at, left_at, right_at, step_to, tag, position_of, pairs, value_of, replaced_in, removed_in, taken_out, spliced, leftmost, moved_up, retagged, replaced_by}
use Rattle.data_sums.specs.Statements.{RemovesKey}
use Rattle.data_sums.proofs.SumTrees.{Tree, tree-of}
use Rattle.data_sums.proofs.SumPairs.{value-none, value-some}
use Rattle.data_sums.proofs.SumContents.{mended-tag, mended-value}
use Rattle.data_sums.proofs.SumRemovals.{s-tags, s-tag, s-values}
use Rattle.data_sums.proofs.SumTakes.{emptied-link, emptied-of, remove-none, remove-some, moved_out, least-names, least-apart, least-tags, least-freed, least-values, least-room}
use Rattle.data_sums.proofs.SumWithin.{replaced-kept, removes-within}

-- the cells of k hold what those of m do, but for the cell x
record Gone (r : SumMap) (x : ℕ) (m k : List ℕ) : Type 0 where
  none : (j : ℕ) → j < r.cells → tag r k j ≢ tag r m x
  kept : (i : ℕ) → Used r m i → i ≢ x → (j : ℕ) × (j < r.cells) × (tag r k j ≡ tag r m i) × (value r k j ≡ value r m i)
  old : (j : ℕ) → Used r k j → (i : ℕ) × Used r m i × (tag r m i ≡ tag r k j)

-- a cell spliced out
gone-spliced : (r : SumMap) (m : List ℕ) (g : Ranges) (l h e x v : ℕ) → Holds r m g → LinkOf (pool r) m g l h e → slice_index m e ≡ suc x → Used r m x → r.at + 1 + 5 * r.cells ≤ length m → Gone r x m (spliced r x e v m)
gone-spliced r m g l h e x v w k named u room = record {
  none = λ j lt. by j lt (j == x) refl;
  kept = λ i ui d. (i, ui.inside, tags i d, s-values r m g l h e x v tree k named room i d);
  old = λ j uj. (j, record { inside = uj.inside; pos = subst (λ z. 0 < z) (tags j (other j uj)) uj.pos }, sym (tags j (other j uj)));
}
  where
    tree : Tree r m g
    tree = tree-of r m g w

    tags : (i : ℕ) → i ≢ x → tag r (spliced r x e v m) i ≡ tag r m i
    tags i d = s-tags r m g l h e x v tree k named room i d

    freed : tag r (spliced r x e v m) x ≡ 0
    freed = s-tag r m g l h e x v tree k named room

    other : (j : ℕ) → Used r (spliced r x e v m) j → j ≢ x
    other j uj q = let a = ap (tag r (spliced r x e v m)) q in let b = freed in let p = uj.pos in absurd (omega arith)

    by : (j : ℕ) → j < r.cells → (b : Bool) → (j == x) ≡ b → tag r (spliced r x e v m) j ≢ tag r m x
    by j lt true q c = let is : j ≡ x = grind (arith, nat_tests) in let a = ap (tag r (spliced r x e v m)) is in let f = freed in let p = u.pos in absurd (omega arith)
    by j lt false q c = let d : j ≢ x = grind (arith, nat_tests) in let p = u.pos in let t = tags j d in d (w.shape.differ j x (record { inside = lt; pos = omega arith }) u (omega arith))

-- the cell x gets value and tag of y, the least on its right, which is spliced out
module _ (r : SumMap) (m : List ℕ) (g : Ranges) (x y : ℕ) (s : Position) (w : Holds r m g) (u : Used r m x) (none : value r m x ≡ 0) (f : Leftmost (pool r) m g (tag r m x) (g.high x) s) (e : s.next ≡ suc y) (fits : value r m y < 2 ^ 64)
    (room : r.at + 1 + 5 * r.cells ≤ length m) where
  abbrev k : List ℕ
  k = moved_out r x y s m

  abbrev n : List ℕ
  n = retagged r x s.tag k

  apart : x ≢ y
  apart = least-apart r m g x y s w u none f e fits room

  names : Names (pool r) m g (tag r m x) f.high (suc y)
  names = least-names r m g x y s w u none f e fits room

  values2 : (i : ℕ) → i ≢ x → i ≢ y → value r (moved_up r x y (less_one s.tag) m) i ≡ value r m i
  values2 i a b = mended-value r (less_one s.tag) (step_to (value r m y) 0) r.cells (right_at r x) (set (set m (value_at r x) (value r m y)) (value_at r y) 0) i
      ∙ (get_or-set_other (set m (value_at r x) (value r m y)) (value_at r y) (value_at r i) 0 0 (λ q. b (omega arith)) ∙ get_or-set_other m (value_at r x) (value_at r i) (value r m y) 0 (λ q. a (omega arith)))

  value2 : value r (moved_up r x y (less_one s.tag) m) x ≡ value r m y
  value2 = mended-value r (less_one s.tag) (step_to (value r m y) 0) r.cells (right_at r x) (set (set m (value_at r x) (value r m y)) (value_at r y) 0) x
      ∙ (get_or-set_other (set m (value_at r x) (value r m y)) (value_at r y) (value_at r x) 0 0 (λ q. apart (omega arith)) ∙ get_or-set_same m (value_at r x) (value r m y) 0 (let i = u.inside in omega arith))

  tags : (i : ℕ) → i ≢ x → i ≢ y → tag r n i ≡ tag r m i
  tags i a b = get_or-set_other k (tag_at r x) (tag_at r i) s.tag 0 (λ q. a (omega arith)) ∙ least-tags r m g x y s w u none f e fits room i b

  new-tag : tag r n x ≡ tag r m y
  new-tag = get_or-set_same k (tag_at r x) s.tag 0 (let i = u.inside in let l = least-room r m g x y s w u none f e fits room in omega arith) ∙ (f.some y e).0

  freed : tag r n y ≡ 0
  freed = get_or-set_other k (tag_at r x) (tag_at r y) s.tag 0 (λ q. apart (omega arith)) ∙ least-freed r m g x y s w u none f e fits room

  values : (i : ℕ) → i ≢ y → value r n i ≡ value r (moved_up r x y (less_one s.tag) m) i
  values i b = get_or-set_other k (tag_at r x) (value_at r i) s.tag 0 (λ q. absurd (omega arith)) ∙ least-values r m g x y s w u none f e fits room i b

  at-x : (j : ℕ) → j ≡ x → tag r n j ≡ tag r m y
  at-x j q = ap (tag r n) q ∙ new-tag

  at-y : (j : ℕ) → j ≡ y → tag r n j ≡ 0
  at-y j q = ap (tag r n) q ∙ freed

  none-left : (j : ℕ) → j < r.cells → (b : Bool) → (j == x) ≡ b → (c : Bool) → (j == y) ≡ c → tag r n j ≢ tag r m x
  none-left j lt true p c q z = let a = at-x j (grind (arith, nat_tests)) in let b = names.0.above in absurd (omega arith)
  none-left j lt false p true q z = let a = at-y j (grind (arith, nat_tests)) in let b = u.pos in absurd (omega arith)
  none-left j lt false p false q z =
      let a : j ≢ x = grind (arith, nat_tests) in
      let b : j ≢ y = grind (arith, nat_tests) in
      let t = tags j a b in let o = u.pos in a (w.shape.differ j x (record { inside = lt; pos = omega arith }) u (omega arith))

  keeps : (i : ℕ) → Used r m i → i ≢ x → (c : Bool) → (i == y) ≡ c → (j : ℕ) × (j < r.cells) × (tag r n j ≡ tag r m i) × (value r n j ≡ value r m i)
  keeps i ui d true q = let a : y ≡ i = grind (arith, nat_tests) in (x, u.inside, new-tag ∙ ap (tag r m) a, values x apart ∙ (value2 ∙ ap (value r m) a))
  keeps i ui d false q = let b : i ≢ y = grind (arith, nat_tests) in (i, ui.inside, tags i d b, values i b ∙ values2 i d b)

  was : (j : ℕ) → Used r n j → (b : Bool) → (j == x) ≡ b → (c : Bool) → (j == y) ≡ c → (i : ℕ) × Used r m i × (tag r m i ≡ tag r n j)
  was j uj true p c q = (y, record { inside = names.0.inside; pos = (let a = names.0.above in omega arith) }, sym (at-x j (grind (arith, nat_tests))))
  was j uj false p true q = let a = at-y j (grind (arith, nat_tests)) in let o = uj.pos in absurd (omega arith)
  was j uj false p false q = let t = tags j (grind (arith, nat_tests)) (grind (arith, nat_tests)) in (j, record { inside = uj.inside; pos = subst (λ z. 0 < z) t uj.pos }, sym t)

  gone-least : Gone r x m (replaced_by r x s m)
  gone-least = subst (λ z. Gone r x m (retagged r x s.tag (spliced r z s.link (slice_index m (right_at r z)) (moved_up r x z (less_one s.tag) m)))) (sym (ap less_one e))
      (record { none = λ j lt. none-left j lt (j == x) refl (j == y) refl; kept = λ i ui d. keeps i ui d (i == y) refl; old = λ j uj. was j uj (j == x) refl (j == y) refl })

-- a cell taken out that has no value
gone-taken : (r : SumMap) (m : List ℕ) (g : Ranges) (l h e x : ℕ) → Holds r m g → LinkOf (pool r) m g l h e → slice_index m e ≡ suc x
    → value r m x ≡ 0 → HasWords r m → r.at + 1 + 5 * r.cells ≤ length m → Used r m x × Gone r x m (taken_out r x e m)
gone-taken r m g l h e x w k named none words room = (u, by (slice_index m (left_at r x) == 0) (slice_index m (right_at r x) == 0) refl)
  where
    u : Used r m x
    u = named-used (pool r) m g l h x (subst (Names (pool r) m g l h) named (w.shape.names l h e k))

    rl : LinkOf (pool r) m g (tag r m x) (g.high x) (right_at r x)
    rl = inr (inr (x, refl, refl, refl, u))

    least : Leftmost (pool r) m g (tag r m x) (g.high x) (leftmost r m r.cells (right_at r x))
    least = leftmost-found (pool r) m g r.cells (tag r m x) (g.high x) (right_at r x) w.shape rl (how_many-most _ r.cells)

    by : (b : Bool) (c : Bool) → (slice_index m (right_at r x) == 0) ≡ c
        → Gone r x m (if b then spliced r x e (slice_index m (right_at r x)) m else (if c then spliced r x e (slice_index m (left_at r x)) m else replaced_by r x (leftmost r m r.cells (right_at r x)) m))
    by true c q = gone-spliced r m g l h e x (slice_index m (right_at r x)) w k named u room
    by false true q = gone-spliced r m g l h e x (slice_index m (left_at r x)) w k named u room
    by false false q = at (leftmost r m r.cells (right_at r x)).next refl (slice_index m (right_at r x)) refl (w.shape.names (tag r m x) (g.high x) (right_at r x) rl)
      where
        at : (n : ℕ) → (leftmost r m r.cells (right_at r x)).next ≡ n → (v : ℕ) → slice_index m (right_at r x) ≡ v
            → Names (pool r) m g (tag r m x) (g.high x) v → Gone r x m (replaced_by r x (leftmost r m r.cells (right_at r x)) m)
        at n c zero d nm = absurd (grind (arith, nat_tests))
        at zero c (suc j) d nm = absurd (least.none c j nm.0)
        at (suc y) c (suc j) d nm =
            let ny : Names (pool r) m g (tag r m x) least.high (suc y) = subst (Names (pool r) m g (tag r m x) least.high) (least.word ∙ c)
            (w.shape.names (tag r m x) least.high (leftmost r m r.cells (right_at r x)).link least.link) in
            gone-least r m g x y (leftmost r m r.cells (right_at r x)) w u none least c (words y ny.0.inside) room

-- some cell of the first n has the tag, or none has
some-cell : (t : ℕ → ℕ) (v n : ℕ) → ((i : ℕ) × (i < n) × (t i ≡ v)) ⊎ ((i : ℕ) → i < n → t i ≢ v)
some-cell t v zero = inr (λ i lt. absurd (omega arith))
some-cell t v (suc n) = by (t n == v) refl (some-cell t v n)
  where
    none : t n ≢ v → ((i : ℕ) → i < n → t i ≢ v) → (i : ℕ) → i < suc n → (b : Bool) → (i == n) ≡ b → t i ≢ v
    none d rest i lt true q = let e : n ≡ i = grind (arith, nat_tests) in subst (λ z. t z ≢ v) e d
    none d rest i lt false q = let e : i ≢ n = grind (arith, nat_tests) in rest i (omega arith)

    by : (b : Bool) → (t n == v) ≡ b → ((i : ℕ) × (i < n) × (t i ≡ v)) ⊎ ((i : ℕ) → i < n → t i ≢ v) → ((i : ℕ) × (i < suc n) × (t i ≡ v)) ⊎ ((i : ℕ) → i < suc n → t i ≢ v)
    by true q rest = inl (n, omega arith, grind (arith, nat_tests))
    by false q (inl (i, lt, e)) = inl (i, omega arith, e)
    by false q (inr rest) = inr (λ i lt. none (grind (arith, nat_tests)) rest i lt (i == n) refl)

-- the value of a key that a cell has
valued : (r : SumMap) (m : List ℕ) (g : Ranges) (key c : ℕ) → Holds r m g → c < r.cells → tag r m c ≡ suc key → value_of key (pairs r m) ≡ Some (value r m c)
valued r m g key c w lt t = value-some r m key c r.cells lt t (λ i li d e. d (w.shape.differ i c (record { inside = li; pos = omega arith }) (record { inside = lt; pos = omega arith }) (e ∙ sym t)))

-- without the cell x, and with its value another one before
gone-values : (r : SumMap) (o m k : List ℕ) (g a : Ranges) (key x : ℕ) → Holds r o g → Holds r k a → x < r.cells → tag r o x ≡ suc key
    → ((i : ℕ) → tag r m i ≡ tag r o i) → ((i : ℕ) → i ≢ x → value r m i ≡ value r o i) → Gone r x m k
    → (n : ℕ) → value_of n (pairs r k) ≡ (if n == key then None else value_of n (pairs r o))
gone-values r o m k g a key x w wk lt t tags values gone n = by (n == key) refl (some-cell (tag r o) (suc n) r.cells)
  where
    by : (b : Bool) → (n == key) ≡ b → ((i : ℕ) × (i < r.cells) × (tag r o i ≡ suc n)) ⊎ ((i : ℕ) → i < r.cells → tag r o i ≢ suc n)
        → value_of n (pairs r k) ≡ (if b then None else value_of n (pairs r o))
    by true q c = let e : n ≡ key = grind (arith, nat_tests) in let same = tags x in value-none r k n r.cells (λ j lj z. gone.none j lj (omega arith))
    by false q (inl (i, li, e)) =
        let d : n ≢ key = grind (arith, nat_tests) in
        let off : i ≢ x = λ z. (let u : tag r o i ≡ tag r o x = ap (tag r o) z in d (omega arith)) in
        let same = tags i in
        let h = gone.kept i (record { inside = li; pos = omega arith }) off in
        valued r k a n h.0 wk h.1 (h.2 ∙ (same ∙ e)) ∙ (ap Some (h.3 ∙ values i off) ∙ sym (valued r o g n i w li e))
    by false q (inr none) =
        value-none r k n r.cells (λ j lj z. (let h = gone.old j (record { inside = lj; pos = omega arith }) in let i = h.1.inside in none h.0 i (sym (tags h.0) ∙ (h.2 ∙ z))))
        ∙ sym (value-none r o n r.cells none)

pub removes-key : RemovesKey
removes-key r m key w fits words small = by (position_of r m key).next refl
  where
    f : Found (pool r) m w.0 key (position_of r m key)
    f = position-found (pool r) m w.0 key w.1.shape small

    by : (n : ℕ) → (position_of r m key).next ≡ n → ((removed_in r key m).reply ≡ is_some (value_of key (pairs r m)))
        × ((n : ℕ) → value_of n (pairs r (removed_in r key m).memory) ≡ (if n == key then None else value_of n (pairs r m)))
    by zero e =
        let z : Names (pool r) m w.0 f.low f.high 0 = subst (Names (pool r) m w.0 f.low f.high) (f.word ∙ e) (w.1.shape.names f.low f.high (position_of r m key).link f.link) in
        let none : value_of key (pairs r m) ≡ None = value-none r m key r.cells (λ i lt t. z i (record { inside = lt; above = (let a = f.above in omega arith); below = (let b = f.below in omega arith) })) in
        let is = remove-none r m key (position_of r m key) refl e in
        (ap (λ x. x.reply) is ∙ ap is_some (sym none), λ n. ap (λ x. value_of n (pairs r x.memory)) is ∙ same n none (n == key) refl)
      where
        same : (n : ℕ) → value_of key (pairs r m) ≡ None → (b : Bool) → (n == key) ≡ b → value_of n (pairs r m) ≡ (if b then None else value_of n (pairs r m))
        same n none true q = let e : n ≡ key = grind (arith, nat_tests) in ap (λ z. value_of z (pairs r m)) e ∙ none
        same n none false q = refl
    by (suc j) e =
        let z : Names (pool r) m w.0 f.low f.high (suc j) = subst (Names (pool r) m w.0 f.low f.high) (f.word ∙ e) (w.1.shape.names f.low f.high (position_of r m key).link f.link) in
        let t : tag r m j ≡ suc key = (f.some j e).1 in
        let d = step_to (value r m j) 0 in
        let k = (replaced_in r key 0 j m).memory in
        let a = (position_of r m key).link in
        let kept = replaced-kept r m key 0 j w fits words small (omega arith) e in
        let h = emptied-of r m key j (position_of r m key) w small refl e fits.0 kept.0 in
        let o = emptied-link r k h.well.0 a h.link in
        let long = kept.1.long in
        let room = fits.0 in
        let gone = (gone-taken r k h.well.0 o.0 o.1 a j h.well.1 o.2 h.named h.none kept.1.words (omega arith)).1 in
        let is = remove-some r m key j (position_of r m key) refl e in
        let after = subst (λ x. IsSumMap r x.memory) is (removes-within r m key w fits words small).0 in (
          ap (λ x. x.reply) is ∙ ap is_some (sym (valued r m w.0 key j w.1 z.0.inside t)),
          λ n. ap (λ x. value_of n (pairs r x.memory)) is
              ∙ gone-values r m k (taken_out r j a k) w.0 after.0 key j w.1 after.1 z.0.inside t
              (λ i. mended-tag r key d r.cells r.at (set m (value_at r j) 0) i ∙ get_or-set_other m (value_at r j) (tag_at r i) 0 0 (λ q. absurd (omega arith)))
              (λ i off. mended-value r key d r.cells r.at (set m (value_at r j) 0) i ∙ get_or-set_other m (value_at r j) (value_at r i) 0 0 (λ q. off (omega arith)))
              gone n,
        )
