-- A tree in a region: what leaves the region's words, and that each used cell is reached.
use Rattle.std.proofs.Common.{ℕ, zero, suc, ◌≡◌, ◌<◌, ◌≤◌, ◌≢◌, ◌+◌, ◌*◌, ◌^◌, List, get_or, set, Bool, true, false, refl, sym, ap, ◌∙◌, arith, subst, inr}
use Rattle.std.specs.Prelude.{◌==◌, if◌then◌else◌, Option, Some, None, slice_index}
use Rattle.std.proofs.lemmas.List.{get_or-set_other}
use Rattle.std.proofs.lemmas.Bool.Decides.{nat_tests}
use Rattle.data_tree.specs.declared.tree.Tree.{Tree}
use Rattle.data_effects.specs.declared.position.Position.{Position}
use Rattle.data_effects.specs.declared.insert.Insert.TheVariants.{Present}
use Rattle.data_effects.specs.Effects.{unchanged, changed}
use Rattle.data_effects.specs.Keys.{has, free_from, less_one}
use Rattle.data_effects.proofs.KeyLaws.{free-is, has-yes, how_many-most}
use Rattle.data_tree.specs.Shapes.{Ranges, Used, LinkOf, Names, Holds}
use Rattle.data_tree.proofs.ShapeWalks.{Found, has-found}
use Rattle.data_tree.proofs.ShapeSame.{same-shape, Outside, out-of, link-place}
use Rattle.data_tree.proofs.ShapeLeast.{Leftmost, leftmost-found}
use Rattle.data_tree.specs.Trees.{pool, tag_at, left_at, right_at, tag, keys, IsTree, position_of, spliced, leftmost, replaced, taken_out, inserted_by, inserted_in, removed_in}
use Rattle.data_tree.proofs.TreeEffects.{found}

-- EACH USED CELL IS REACHED: the walk from the root to its key ends at it
pub reached : (r : Tree) (m : List ℕ) (i key : ℕ) → IsTree r m → Used (pool r) m i → tag r m i ≡ suc key → (position_of r m key).next ≡ suc i
reached r m i key w u t = at (position_of r m key).next refl
  where
    small : key < 2 ^ 32
    small = let s = w.1.small i u.inside in omega arith

    f : Found (pool r) m w.0 key (position_of r m key)
    f = found r m key w small

    there : (position_of r m key).tag ≡ suc key
    there = let q : ((position_of r m key).tag == suc key) ≡ true = has-found (pool r) m w.0 key (position_of r m key) w.1 f ∙ has-yes (tag r m) key r.cells i u.inside t in grind (arith, nat_tests)

    at : (n : ℕ) → (position_of r m key).next ≡ n → n ≡ suc i
    at zero e = let z = f.none e in let y = there in absurd (omega arith)
    at (suc j) e =
        let n : Names (pool r) m w.0 f.low f.high (suc j) = subst (Names (pool r) m w.0 f.low f.high) (f.word ∙ e) (w.1.names f.low f.high (position_of r m key).link f.link) in
        ap suc (w.1.differ j i (record { inside = n.0.inside; pos = (let a = n.0.above in omega arith) }) u ((f.some j e).1 ∙ sym t))

-- what leaves the words of the region leaves its tree
pub tree-same : (r : Tree) (m k : List ℕ) (g : Ranges) → Holds (pool r) m g → ((x : ℕ) → r.at ≤ x → x < r.at + 1 + 3 * r.cells → slice_index k x ≡ slice_index m x) → Holds (pool r) k g
tree-same r m k g w same =
    same-shape (pool r) m k g w (same r.at (omega arith) (omega arith)) (λ i lt. same (tag_at r i) (omega arith) (omega arith)) (λ i lt. same (left_at r i) (omega arith) (omega arith)) (λ i lt. same (right_at r i) (omega arith) (omega arith))

-- an insert leaves the words outside the region
pub inserted-outside : (r : Tree) (m : List ℕ) (key x : ℕ) → IsTree r m → key < 2 ^ 32 → Outside (pool r) x → get_or (inserted_in r key m).memory x 0 ≡ get_or m x 0
inserted-outside r m key x w small out = by (has key (keys r m)) (free_from (tag r m) 0 r.cells) refl
  where
    by : (t : Bool) (o : Option ℕ) → free_from (tag r m) 0 r.cells ≡ o → get_or (if t then unchanged Present m else inserted_by r key m o).memory x 0 ≡ get_or m x 0
    by true o q = refl
    by false None q = refl
    by false (Some c) q =
        let z = (free-is (tag r m) 0 r.cells c q).0 in
        let f = found r m key w small in
        let l = link-place (pool r) m w.0 f.low f.high (position_of r m key).link f.link in
        get_or-set_other (set m (tag_at r c) (suc key)) (position_of r m key).link x (suc c) 0 (out-of (pool r) x (position_of r m key).link out l.0 l.1)
        ∙ get_or-set_other m (tag_at r c) x (suc key) 0 (out-of (pool r) x (tag_at r c) out (omega arith) (omega arith))

spliced-outside : (r : Tree) (m : List ℕ) (e y v x : ℕ) → y < r.cells → r.at ≤ e → e < r.at + 1 + 3 * r.cells → Outside (pool r) x → get_or (spliced r y e v m) x 0 ≡ get_or m x 0
spliced-outside r m e y v x lt lo hi out =
    get_or-set_other (set (set (set m e v) (tag_at r y) 0) (left_at r y) 0) (right_at r y) x 0 0 (out-of (pool r) x (right_at r y) out (omega arith) (omega arith))
    ∙ (get_or-set_other (set (set m e v) (tag_at r y) 0) (left_at r y) x 0 0 (out-of (pool r) x (left_at r y) out (omega arith) (omega arith))
    ∙ (get_or-set_other (set m e v) (tag_at r y) x 0 0 (out-of (pool r) x (tag_at r y) out (omega arith) (omega arith)) ∙ get_or-set_other m e x v 0 (out-of (pool r) x e out lo hi)))

taken-outside : (r : Tree) (m : List ℕ) (g : Ranges) (l h e c x : ℕ) → Holds (pool r) m g → LinkOf (pool r) m g l h e → slice_index m e ≡ suc c → Outside (pool r) x → get_or (taken_out r c e m) x 0 ≡ get_or m x 0
taken-outside r m g l h e c x w k named out = by (slice_index m (left_at r c) == 0) (slice_index m (right_at r c) == 0) refl
  where
    names : Names (pool r) m g l h (suc c)
    names = subst (Names (pool r) m g l h) named (w.names l h e k)

    u : Used (pool r) m c
    u = record { inside = names.0.inside; pos = (let a = names.0.above in omega arith) }

    rl : LinkOf (pool r) m g (tag r m c) (g.high c) (right_at r c)
    rl = inr (inr (c, refl, refl, refl, u))

    le : (r.at ≤ e) × (e < r.at + 1 + 3 * r.cells)
    le = link-place (pool r) m g l h e k

    both : (s : Position) → Leftmost (pool r) m g (tag r m c) (g.high c) s → slice_index m (right_at r c) ≢ 0 → get_or (replaced r c s m) x 0 ≡ get_or m x 0
    both s f d = at s.next refl (slice_index m (right_at r c)) refl (w.names (tag r m c) (g.high c) (right_at r c) rl)
      where
        at : (n : ℕ) → s.next ≡ n → (v : ℕ) → slice_index m (right_at r c) ≡ v → Names (pool r) m g (tag r m c) (g.high c) v → get_or (replaced r c s m) x 0 ≡ get_or m x 0
        at n q zero p nm = absurd (d p)
        at zero q (suc j) p nm = absurd (f.none q j nm.0)
        at (suc y) q (suc j) p nm =
            let ny : Names (pool r) m g (tag r m c) f.high (suc y) = subst (Names (pool r) m g (tag r m c) f.high) (f.word ∙ q) (w.names (tag r m c) f.high s.link f.link) in
            let ls = link-place (pool r) m g (tag r m c) f.high s.link f.link in
            let less : less_one s.next ≡ y = ap less_one q in
            let ci = u.inside in
            let end : get_or (set (spliced r y s.link (slice_index m (right_at r y)) m) (tag_at r c) s.tag) x 0 ≡ get_or m x 0 =
            get_or-set_other (spliced r y s.link (slice_index m (right_at r y)) m) (tag_at r c) x s.tag 0 (out-of (pool r) x (tag_at r c) out (omega arith) (omega arith))
            ∙ spliced-outside r m s.link y (slice_index m (right_at r y)) x ny.0.inside ls.0 ls.1 out in
            rw less end

    by : (b d : Bool) → (slice_index m (right_at r c) == 0) ≡ d
        → get_or (if b then spliced r c e (slice_index m (right_at r c)) m else (if d then spliced r c e (slice_index m (left_at r c)) m else replaced r c (leftmost r m r.cells (right_at r c)) m)) x 0 ≡ get_or m x 0
    by true d q = spliced-outside r m e c (slice_index m (right_at r c)) x u.inside le.0 le.1 out
    by false true q = spliced-outside r m e c (slice_index m (left_at r c)) x u.inside le.0 le.1 out
    by false false q = both (leftmost r m r.cells (right_at r c)) (leftmost-found (pool r) m g r.cells (tag r m c) (g.high c) (right_at r c) w rl (how_many-most _ r.cells)) (grind (arith, nat_tests))

pub removed-outside : (r : Tree) (m : List ℕ) (key x : ℕ) → IsTree r m → key < 2 ^ 32 → Outside (pool r) x → get_or (removed_in r key m).memory x 0 ≡ get_or m x 0
removed-outside r m key x w small out = by (has key (keys r m)) refl
  where
    f : Found (pool r) m w.0 key (position_of r m key)
    f = found r m key w small

    by : (t : Bool) → has key (keys r m) ≡ t → get_or (if t then changed true (taken_out r (less_one (position_of r m key).next) (position_of r m key).link m) else unchanged false m).memory x 0 ≡ get_or m x 0
    by false h = refl
    by true h = at (position_of r m key).next refl
      where
        u : (position_of r m key).tag ≡ suc key
        u = let q : ((position_of r m key).tag == suc key) ≡ true = has-found (pool r) m w.0 key (position_of r m key) w.1 f ∙ h in grind (arith, nat_tests)

        at : (n : ℕ) → (position_of r m key).next ≡ n → get_or (taken_out r (less_one (position_of r m key).next) (position_of r m key).link m) x 0 ≡ get_or m x 0
        at zero e = let z = f.none e in let y = u in absurd (omega arith)
        at (suc c) e = rw e (taken-outside r m w.0 f.low f.high (position_of r m key).link c x w.1 f.link (f.word ∙ e) out)
