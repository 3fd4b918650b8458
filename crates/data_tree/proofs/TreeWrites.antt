-- The words after a splice and after a leaf is attached.
use Rattle.std.proofs.Common.{ℕ, suc, ◌≡◌, ◌<◌, ◌≤◌, ◌≢◌, ◌+◌, ◌*◌, List, length, get_or, set, true, false, refl, sym, ap, ◌∙◌, arith, subst, inl, inr}
use Rattle.std.specs.Prelude.{◌⊎◌, ◌==◌, slice_index}
use Rattle.std.proofs.Math.ListN.{length-set}
use Rattle.std.proofs.lemmas.List.{get_or-set_same, get_or-set_other}
use Rattle.std.proofs.lemmas.Bool.Decides.{nat_tests}
use Rattle.data_tree.specs.declared.tree.Tree.{Tree}
use Rattle.data_effects.specs.declared.position.Position.{Position}
use Rattle.data_tree.specs.Shapes.{Ranges, Used, LinkOf, Names, Holds}
use Rattle.data_tree.proofs.ShapeWalks.{Found}
use Rattle.data_tree.proofs.ShapeOrder.{over, link-one, link-used, link-inside}
use Rattle.data_tree.proofs.ShapeInserts.{attach-keeps, with_range}
use Rattle.data_tree.proofs.ShapeSplices.{splice-keeps, shifted}
use Rattle.data_tree.specs.Trees.{pool, tag_at, left_at, right_at, tag, IsTree, attached, spliced}

-- a splice frees the cell, and leaves the other tags
module _ (r : Tree) (m : List ℕ) (e y v : ℕ) (off : (j : ℕ) → e ≢ tag_at r j) where
  pub spliced-tags : (i : ℕ) → i ≢ y → tag r (spliced r y e v m) i ≡ tag r m i
  spliced-tags i q =
      get_or-set_other (set (set (set m e v) (tag_at r y) 0) (left_at r y) 0) (right_at r y) (tag_at r i) 0 0 (λ z. absurd (omega arith))
      ∙ (get_or-set_other (set (set m e v) (tag_at r y) 0) (left_at r y) (tag_at r i) 0 0 (λ z. absurd (omega arith))
      ∙ (get_or-set_other (set m e v) (tag_at r y) (tag_at r i) 0 0 (λ z. q (omega arith)) ∙ get_or-set_other m e (tag_at r i) v 0 (λ z. off i (sym z))))

  pub spliced-freed : y < r.cells → r.at + 1 + 3 * r.cells ≤ length m → tag r (spliced r y e v m) y ≡ 0
  spliced-freed lt room =
      get_or-set_other (set (set (set m e v) (tag_at r y) 0) (left_at r y) 0) (right_at r y) (tag_at r y) 0 0 (λ z. absurd (omega arith))
      ∙ (get_or-set_other (set (set m e v) (tag_at r y) 0) (left_at r y) (tag_at r y) 0 0 (λ z. absurd (omega arith))
      ∙ get_or-set_same (set m e v) (tag_at r y) 0 0 (simp length-set (omega arith)))

pub spliced-keeps : (r : Tree) (m : List ℕ) (g : Ranges) (l h e y v : ℕ) → Holds (pool r) m g → LinkOf (pool r) m g l h e → slice_index m e ≡ suc y
    → ((slice_index m (left_at r y) ≡ 0) × (slice_index m (right_at r y) ≡ v)) ⊎ ((slice_index m (right_at r y) ≡ 0) × (slice_index m (left_at r y) ≡ v))
    → r.at + 1 + 3 * r.cells ≤ length m → Holds (pool r) (spliced r y e v m) (shifted g (tag r m y) l h)
spliced-keeps r m g l h e y v w x named one room =
    let names : Names (pool r) m g l h (suc y) = subst (Names (pool r) m g l h) named (w.names l h e x) in
    let inside : y < r.cells = names.0.inside in
    let used : Used (pool r) m y = record { inside = inside; pos = (let a = names.0.above in omega arith) } in
    let li = link-inside (pool r) m g l h e x in
    let lt = li.1 in
    let tn = tag_at r y in
    let ln = left_at r y in
    let rn = right_at r y in
    let e-l : e ≢ ln = λ q. (let o = (link-one (pool r) m g l h (g.low y) (tag r m y) ln w (subst (LinkOf (pool r) m g l h) q x) (inr (inl (y, refl, refl, refl, used)))).1 in let b = names.0.below in absurd (omega arith)) in
    let e-r : e ≢ rn = λ q. (let o = (link-one (pool r) m g l h (tag r m y) (g.high y) rn w (subst (LinkOf (pool r) m g l h) q x) (inr (inr (y, refl, refl, refl, used)))).0 in let b = names.0.above in absurd (omega arith)) in
    let e-t : e ≢ tn = li.0 y in
    let m1 : List ℕ = set m e v in
    let m2 : List ℕ = set m1 tn 0 in
    let m3 : List ℕ = set m2 ln 0 in
    let k : List ℕ = set m3 rn 0 in
    let other : (z : ℕ) → z ≢ e → z ≢ tn → z ≢ ln → z ≢ rn → get_or k z 0 ≡ get_or m z 0 =
    λ z a b c d. get_or-set_other m3 rn z 0 0 d ∙ (get_or-set_other m2 ln z 0 0 c ∙ (get_or-set_other m1 tn z 0 0 b ∙ get_or-set_other m e z v 0 a)) in
    let r-l : ln ≢ rn = λ q. absurd (omega arith) in
    let t-l : tn ≢ ln = λ q. absurd (omega arith) in
    let t-r : tn ≢ rn = λ q. absurd (omega arith) in
    splice-keeps (pool r) m k g l h e y v w x named one
    (λ i d. other (tag_at r i) (λ q. li.0 i (sym q)) (λ q. d (omega arith)) (λ q. absurd (omega arith)) (λ q. absurd (omega arith)))
    (get_or-set_other m3 rn tn 0 0 t-r ∙ (get_or-set_other m2 ln tn 0 0 t-l ∙ get_or-set_same m1 tn 0 0 (simp length-set (omega arith))))
    (λ lo hi a z d nl nr. let o = link-inside (pool r) m g lo hi a z in other a d (o.0 y) nl nr)
    (get_or-set_other m3 rn e 0 0 e-r ∙ (get_or-set_other m2 ln e 0 0 e-l ∙ (get_or-set_other m1 tn e 0 0 e-t ∙ get_or-set_same m e v 0 (omega arith))))
    (get_or-set_other m3 rn ln 0 0 r-l ∙ get_or-set_same m2 ln 0 0 (simp length-set (omega arith)), get_or-set_same m3 rn 0 0 (simp length-set (omega arith)))
    (λ i lt z. let o = link-used (pool r) m g l h e i x z in let sp = w.spare i lt z in
    let d : i ≢ y = λ q. (let a : tag r m i ≡ tag r m y = ap (tag r m) q in let b = used.pos in absurd (omega arith)) in (
      other (left_at r i) (λ q. o.0 (sym q)) (λ q. absurd (omega arith)) (λ q. d (omega arith)) (λ q. absurd (omega arith)) ∙ sp.0,
      other (right_at r i) (λ q. o.1 (sym q)) (λ q. absurd (omega arith)) (λ q. absurd (omega arith)) (λ q. d (omega arith)) ∙ sp.1,
    ))

pub attached-keeps : (r : Tree) (m : List ℕ) (g : Ranges) (key c : ℕ) (s : Position) → Holds (pool r) m g → Found (pool r) m g key s → s.next ≡ 0 → r.at + 1 + 3 * r.cells ≤ length m → c < r.cells → tag r m c ≡ 0
    → ((i : ℕ) → i < r.cells → tag r m i ≢ suc key) → IsTree r (attached r key c s.link m)
attached-keeps r m g key c s w f empty room inside free absent =
    let a = s.link in
    let t = tag_at r c in
    let k : List ℕ = attached r key c a m in
    let l = link-inside (pool r) m g f.low f.high a f.link in
    let al = l.1 in
    let n : ℕ = over (pool r) m g f.low f.high a f.link in
    let other : (x : ℕ) → x ≢ a → x ≢ t → get_or k x 0 ≡ get_or m x 0 = λ x p q. get_or-set_other (set m t (suc key)) a x (suc c) 0 p ∙ get_or-set_other m t x (suc key) 0 q in (
      with_range g c f.low f.high n,
      attach-keeps (pool r) m k g (with_range g c f.low f.high n) key c s w f empty inside free absent
          (λ i d. other (tag_at r i) (λ e. l.0 i (sym e)) (λ e. d (omega arith)))
          (get_or-set_other (set m t (suc key)) a t (suc c) 0 (λ e. l.0 c (sym e)) ∙ get_or-set_same m t (suc key) 0 (omega arith))
          (λ lo hi x y d. other x d ((link-inside (pool r) m g lo hi x y).0 c))
          (get_or-set_same (set m t (suc key)) a (suc c) 0 (simp length-set (omega arith)))
          (λ i lt z. let u = link-used (pool r) m g f.low f.high a i f.link z in let v = w.spare i lt z in
          (other (left_at r i) (λ e. u.0 (sym e)) (λ e. absurd (omega arith)) ∙ v.0, other (right_at r i) (λ e. u.1 (sym e)) (λ e. absurd (omega arith)) ∙ v.1))
          (λ i d. let q : (i == c) ≡ false = grind (arith, nat_tests) in (rw q refl, rw q refl, rw q refl))
          (let q : (c == c) ≡ true = grind (arith, nat_tests) in (rw q refl, rw q refl, rw q refl)),
    )
