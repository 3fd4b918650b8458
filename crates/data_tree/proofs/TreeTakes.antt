-- The least cell of a part of a tree, and a removal whole.
use Rattle.std.proofs.Common.{ℕ, zero, suc, ◌≡◌, ◌<◌, ◌≤◌, ◌≢◌, ◌+◌, ◌*◌, ◌^◌, List, length, Bool, true, false, refl, sym, ap, ◌∙◌, arith, subst, inl, inr}
use Rattle.std.specs.Prelude.{◌⊎◌, ◌==◌, ltb, if◌then◌else◌, slice_index}
use Rattle.std.proofs.Math.ListN.{length-set}
use Rattle.std.proofs.lemmas.List.{get_or-set_same, get_or-set_other}
use Rattle.std.proofs.lemmas.Bool.Decides.{nat_tests}
use Rattle.data_tree.specs.declared.tree.Tree.{Tree}
use Rattle.data_effects.specs.declared.position.Position.{Position}
use Rattle.std.specs.Prelude.{Some, None}
use Rattle.data_effects.specs.Keys.{least, less_one}
use Rattle.data_effects.proofs.KeyLaws.{how_many-most, least-is, least-none}
use Rattle.data_tree.specs.Shapes.{Ranges, Used, Within, LinkOf, Names, Holds, top}
use Rattle.data_tree.proofs.ShapeOrder.{link-inside}
use Rattle.data_tree.proofs.ShapeWalks.{left-link, named-used}
use Rattle.data_tree.proofs.ShapeLeast.{Leftmost, leftmost-found, least-gap}
use Rattle.data_tree.proofs.ShapeSplices.{shifted}
use Rattle.data_tree.proofs.ShapeRetags.{retag-keeps}
use Rattle.data_tree.specs.Trees.{pool, tag_at, left_at, right_at, tag, keys, IsTree, spliced, retagged, leftmost, replaced, taken_out}
use Rattle.data_tree.proofs.TreeWrites.{spliced-tags, spliced-freed, spliced-keeps}

-- a cell x with something on its right takes the tag of the least there
pub replaced-keeps : (r : Tree) (m : List ℕ) (g : Ranges) (x y : ℕ) (s : Position) → Holds (pool r) m g → Used (pool r) m x → Leftmost (pool r) m g (tag r m x) (g.high x) s → s.next ≡ suc y
    → r.at + 1 + 3 * r.cells ≤ length m → IsTree r (replaced r x s m)
replaced-keeps r m g x y s w u f e room =
    let so = f.some y e in
    let named : slice_index m s.link ≡ suc y = f.word ∙ e in
    let names : Names (pool r) m g (tag r m x) f.high (suc y) = subst (Names (pool r) m g (tag r m x) f.high) named (w.names (tag r m x) f.high s.link f.link) in
    let yu : Used (pool r) m y = record { inside = names.0.inside; pos = (let a = names.0.above in omega arith) } in
    let v : ℕ = slice_index m (right_at r y) in
    let k : List ℕ = spliced r y s.link v m in
    let g1 : Ranges = shifted g (tag r m y) (tag r m x) f.high in
    let h : Holds (pool r) k g1 = spliced-keeps r m g (tag r m x) f.high s.link y v w f.link named (inl (so.1, refl)) room in
    let c : less_one s.next ≡ y = ap less_one e in
    let d : x ≢ y = λ q. (let a : tag r m x ≡ tag r m y = ap (tag r m) q in let b = names.0.above in absurd (omega arith)) in
    let li = (link-inside (pool r) m g (tag r m x) f.high s.link f.link).0 in
    let tags : (i : ℕ) → i ≢ y → tag r k i ≡ tag r m i = spliced-tags r m s.link y v li in
    let freed : tag r k y ≡ 0 = spliced-freed r m s.link y v li yu.inside room in
    let not-y : (i : ℕ) → Used (pool r) k i → i ≢ y = λ i o q. (let a : tag r k i ≡ tag r k y = ap (tag r k) q in let b = o.pos in absurd (omega arith)) in
    let ux : Used (pool r) k x = record { inside = u.inside; pos = subst (λ z. 0 < z) (sym (tags x d)) u.pos } in
    let kl : length k ≡ length m = simp length-set in
    let tx = tags x d in
    let ab = names.0.above in
    let so0 = so.0 in
    let tree : IsTree r (retagged r x s.tag k) = (
      _,
      retag-keeps (pool r) k (retagged r x s.tag k) g1 x s.tag h ux (omega arith) (let b = w.small y yu.inside in omega arith)
          (λ i o lt. let iy = not-y i o in let ti = tags i iy in subst (λ c. s.tag < c) (sym ti) (least-gap (pool r) m g (tag r m x) (g.high x) y i s w f e (record { inside = o.inside; pos = subst (λ z. 0 < z) ti o.pos }) iy (omega arith)))
          (λ i q. get_or-set_other k (tag_at r x) (tag_at r i) s.tag 0 (λ z. q (omega arith)))
          (get_or-set_same k (tag_at r x) s.tag 0 (let q = u.inside in omega arith))
          (λ lo hi a z. get_or-set_other k (tag_at r x) a s.tag 0 ((link-inside (pool r) k g1 lo hi a z).0 x))
          (λ i lt z. let sp = h.spare i lt z in (get_or-set_other k (tag_at r x) (left_at r i) s.tag 0 (λ q. absurd (omega arith)) ∙ sp.0, get_or-set_other k (tag_at r x) (right_at r i) s.tag 0 (λ q. absurd (omega arith)) ∙ sp.1)),
    ) in
    subst (λ z. IsTree r (retagged r x s.tag (spliced r z s.link (slice_index m (right_at r z)) m))) (sym c) tree

-- A CELL TAKEN OUT
pub taken_out-keeps : (r : Tree) (m : List ℕ) (g : Ranges) (l h e x : ℕ) → Holds (pool r) m g → LinkOf (pool r) m g l h e → slice_index m e ≡ suc x → r.at + 1 + 3 * r.cells ≤ length m → IsTree r (taken_out r x e m)
taken_out-keeps r m g l h e x w k named room = by (slice_index m (left_at r x) == 0) refl (slice_index m (right_at r x) == 0) refl
  where
    names : Names (pool r) m g l h (suc x)
    names = subst (Names (pool r) m g l h) named (w.names l h e k)

    u : Used (pool r) m x
    u = named-used (pool r) m g l h x names

    rl : LinkOf (pool r) m g (tag r m x) (g.high x) (right_at r x)
    rl = inr (inr (x, refl, refl, refl, u))

    least : Leftmost (pool r) m g (tag r m x) (g.high x) (leftmost r m r.cells (right_at r x))
    least = leftmost-found (pool r) m g r.cells (tag r m x) (g.high x) (right_at r x) w rl (how_many-most _ r.cells)

    by : (b : Bool) → (slice_index m (left_at r x) == 0) ≡ b → (c : Bool) → (slice_index m (right_at r x) == 0) ≡ c
        → IsTree r (if b then spliced r x e (slice_index m (right_at r x)) m else (if c then spliced r x e (slice_index m (left_at r x)) m else replaced r x (leftmost r m r.cells (right_at r x)) m))
    by true p c q = (_, spliced-keeps r m g l h e x (slice_index m (right_at r x)) w k named (inl (grind (arith, nat_tests), refl)) room)
    by false p true q = (_, spliced-keeps r m g l h e x (slice_index m (left_at r x)) w k named (inr (grind (arith, nat_tests), refl)) room)
    by false p false q = at (leftmost r m r.cells (right_at r x)).next refl (slice_index m (right_at r x)) refl (w.names (tag r m x) (g.high x) (right_at r x) rl)
      where
        at : (n : ℕ) → (leftmost r m r.cells (right_at r x)).next ≡ n → (v : ℕ) → slice_index m (right_at r x) ≡ v → Names (pool r) m g (tag r m x) (g.high x) v → IsTree r (replaced r x (leftmost r m r.cells (right_at r x)) m)
        at n c zero d nm = absurd (grind (arith, nat_tests))
        at zero c (suc j) d nm = absurd (least.none c j nm.0)
        at (suc y) c (suc j) d nm = replaced-keeps r m g x y (leftmost r m r.cells (right_at r x)) w u least c room

-- the answer of min: from the root, the least cell has the least key
module _ (r : Tree) (m : List ℕ) (g : Ranges) (w : Holds (pool r) m g) where
  root : LinkOf (pool r) m g 0 top r.at
  root = inl (refl, refl, refl)

  bottom : Leftmost (pool r) m g 0 top (leftmost r m r.cells r.at)
  bottom = leftmost-found (pool r) m g r.cells 0 top r.at w root (how_many-most _ r.cells)

  pub least-key : (s : Position) → s ≡ leftmost r m r.cells r.at → ((s.tag ≡ 0) × (least (keys r m) ≡ None)) ⊎ ((k : ℕ) × (s.tag ≡ suc k) × (k < 2 ^ 32) × (least (keys r m) ≡ Some k))
  least-key s e = subst (λ x. ((x.tag ≡ 0) × (least (keys r m) ≡ None)) ⊎ ((k : ℕ) × (x.tag ≡ suc k) × (k < 2 ^ 32) × (least (keys r m) ≡ Some k))) (sym e) (by (leftmost r m r.cells r.at).next refl)
    where
      of : (j k : ℕ) → (leftmost r m r.cells r.at).next ≡ suc j → tag r m j ≡ suc k → (k < 2 ^ 32) × (least (keys r m) ≡ Some k)
      of j k f t =
          let nm : Names (pool r) m g 0 bottom.high (suc j) = subst (Names (pool r) m g 0 bottom.high) (bottom.word ∙ f) (w.names 0 bottom.high (leftmost r m r.cells r.at).link bottom.link) in
          let small = w.small j nm.0.inside in
          let empty : (i : ℕ) → Within (pool r) m 0 (tag r m j) i → ⊥ = subst (Names (pool r) m g 0 (tag r m j)) (bottom.some j f).1 (w.names 0 (tag r m j) (left_at r j) (left-link (pool r) m g 0 bottom.high j nm)) in
          (omega arith, least-is (tag r m) k r.cells j nm.0.inside t (λ i lt pos. from empty i lt pos t (ltb (tag r m i) (tag r m j)) refl))
        where
          from : ((i : ℕ) → Within (pool r) m 0 (tag r m j) i → ⊥) → (i : ℕ) → i < r.cells → 0 < tag r m i → tag r m j ≡ suc k → (b : Bool) → ltb (tag r m i) (tag r m j) ≡ b → suc k ≤ tag r m i
          from empty i lt pos t true q = absurd (empty i (record { inside = lt; above = pos; below = grind (arith, nat_tests) }))
          from empty i lt pos t false q = let ge : tag r m j ≤ tag r m i = grind (arith, nat_tests) in omega arith

      by : (n : ℕ) → (leftmost r m r.cells r.at).next ≡ n
          → (((leftmost r m r.cells r.at).tag ≡ 0) × (least (keys r m) ≡ None)) ⊎ ((k : ℕ) × ((leftmost r m r.cells r.at).tag ≡ suc k) × (k < 2 ^ 32) × (least (keys r m) ≡ Some k))
      by zero f = inl (bottom.tagless f, least-none (tag r m) r.cells (λ i lt. zero-or (tag r m i) refl lt (bottom.none f i)))
        where
          zero-or : {i : ℕ} → (v : ℕ) → tag r m i ≡ v → i < r.cells → (Within (pool r) m 0 top i → ⊥) → v ≡ 0
          zero-or zero e lt h = refl
          zero-or {i = i} (suc a) e lt h = let s = w.small i lt in absurd (h (record { inside = lt; above = omega arith; below = s }))
      by (suc j) f = at (tag r m j) refl
        where
          at : (v : ℕ) → tag r m j ≡ v → (((leftmost r m r.cells r.at).tag ≡ 0) × (least (keys r m) ≡ None)) ⊎ ((k : ℕ) × ((leftmost r m r.cells r.at).tag ≡ suc k) × (k < 2 ^ 32) × (least (keys r m) ≡ Some k))
          at zero e = let nm : Names (pool r) m g 0 bottom.high (suc j) = subst (Names (pool r) m g 0 bottom.high) (bottom.word ∙ f) (w.names 0 bottom.high (leftmost r m r.cells r.at).link bottom.link) in let a = nm.0.above in absurd (omega arith)
          at (suc k) e = let o = of j k f e in inr (k, (bottom.some j f).0 ∙ e, o.0, o.1)
