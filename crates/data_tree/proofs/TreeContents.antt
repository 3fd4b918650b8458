-- What inserts and removals do to the contents of a tree.
use Rattle.std.proofs.Common.{ℕ, zero, suc, ◌≡◌, ◌<◌, ◌≤◌, ◌≢◌, ◌+◌, ◌*◌, ◌^◌, List, length, set, Bool, true, false, refl, sym, ap, ◌∙◌, arith, subst, inr}
use Rattle.std.specs.Prelude.{◌==◌, if◌then◌else◌, Option, Some, None, slice_index}
use Rattle.std.proofs.Math.ListN.{length-set}
use Rattle.std.proofs.lemmas.List.{get_or-set_same, get_or-set_other}
use Rattle.std.proofs.lemmas.Bool.Decides.{nat_tests}
use Rattle.data_tree.specs.declared.tree.Tree.{Tree}
use Rattle.data_effects.specs.declared.position.Position.{Position}
use Rattle.data_effects.specs.declared.insert.Insert.TheVariants.{Present}
use Rattle.data_effects.specs.Effects.{unchanged, changed}
use Rattle.data_effects.specs.Keys.{has, keys_after, with_key, without_key, with_tag, free_from, less_one}
use Rattle.data_effects.proofs.KeyLaws.{free-is, keys-set, without-with, without-none, with-swap, how_many-most}
use Rattle.data_tree.specs.Shapes.{Ranges, Used, LinkOf, Names, Holds}
use Rattle.data_tree.proofs.ShapeWalks.{Found, has-found}
use Rattle.data_tree.proofs.ShapeOrder.{link-inside}
use Rattle.data_tree.proofs.ShapeLeast.{Leftmost, leftmost-found}
use Rattle.data_tree.specs.Trees.{pool, tag_at, left_at, right_at, tag, keys, IsTree, position_of, attached, spliced, retagged, leftmost, replaced, taken_out, inserted_by, inserted_in, removed_in}
use Rattle.data_tree.proofs.TreeWrites.{spliced-tags, spliced-freed}
use Rattle.data_tree.proofs.TreeEffects.{found}

pub inserted-keys : (r : Tree) (m : List ℕ) (key : ℕ) → IsTree r m → key < 2 ^ 32 → r.at + 1 + 3 * r.cells ≤ length m → keys r (inserted_in r key m).memory ≡ keys_after (inserted_in r key m).reply key (keys r m)
inserted-keys r m key w small room = by (has key (keys r m)) (free_from (tag r m) 0 r.cells) refl
  where
    f : Found (pool r) m w.0 key (position_of r m key)
    f = found r m key w small

    off : (j : ℕ) → (position_of r m key).link ≢ tag_at r j
    off = (link-inside (pool r) m w.0 f.low f.high (position_of r m key).link f.link).0

    by : (t : Bool) (o : Option ℕ) → free_from (tag r m) 0 r.cells ≡ o → keys r (if t then unchanged Present m else inserted_by r key m o).memory ≡ keys_after (if t then unchanged Present m else inserted_by r key m o).reply key (keys r m)
    by true o q = refl
    by false None q = refl
    by false (Some c) q =
        let z = free-is (tag r m) 0 r.cells c q in
        let a = (position_of r m key).link in
        let lt = z.0 in
        let k : List ℕ = attached r key c a m in
        let new : tag r k c ≡ suc key = get_or-set_other (set m (tag_at r c) (suc key)) a (tag_at r c) (suc c) 0 (λ e. off c (sym e)) ∙ get_or-set_same m (tag_at r c) (suc key) 0 (omega arith) in
        keys-set (tag r m) (tag r k) c r.cells
        (λ i l d. get_or-set_other (set m (tag_at r c) (suc key)) a (tag_at r i) (suc c) 0 (λ e. off i (sym e)) ∙ get_or-set_other m (tag_at r c) (tag_at r i) (suc key) 0 (λ e. d (omega arith))) (omega arith) z.1
        ∙ ap (λ t. with_tag t (keys r m)) new

spliced-keys : (r : Tree) (m : List ℕ) (e y v : ℕ) (off : (j : ℕ) → e ≢ tag_at r j) (k : ℕ) → y < r.cells → r.at + 1 + 3 * r.cells ≤ length m → tag r m y ≡ suc k → keys r m ≡ with_key k (keys r (spliced r y e v m))
spliced-keys r m e y v off k lt room t =
    keys-set (tag r (spliced r y e v m)) (tag r m) y r.cells (λ i l d. sym (spliced-tags r m e y v off i d)) lt (spliced-freed r m e y v off lt room) ∙ ap (λ z. with_tag z (keys r (spliced r y e v m))) t

-- a tag that moves: the key goes, and another comes
retagged-keys : (r : Tree) (m : List ℕ) (x k v : ℕ) → x < r.cells → r.at + 1 + 3 * r.cells ≤ length m → tag r m x ≡ suc k → with_key k (keys r (retagged r x (suc v) m)) ≡ with_key v (keys r m)
retagged-keys r m x k v lt room t =
    let b : List ℕ = set m (tag_at r x) 0 in
    let n : List ℕ = retagged r x (suc v) m in
    let zero' : tag r b x ≡ 0 = get_or-set_same m (tag_at r x) 0 0 (omega arith) in
    let new : tag r n x ≡ suc v = get_or-set_same m (tag_at r x) (suc v) 0 (omega arith) in
    let off : (i : ℕ) → i ≢ x → tag r b i ≡ tag r m i = λ i d. get_or-set_other m (tag_at r x) (tag_at r i) 0 0 (λ z. d (omega arith)) in
    let offn : (i : ℕ) → i ≢ x → tag r n i ≡ tag r m i = λ i d. get_or-set_other m (tag_at r x) (tag_at r i) (suc v) 0 (λ z. d (omega arith)) in
    let one : keys r m ≡ with_key k (keys r b) = keys-set (tag r b) (tag r m) x r.cells (λ i l d. sym (off i d)) lt zero' ∙ ap (λ z. with_tag z (keys r b)) t in
    let two : keys r n ≡ with_key v (keys r b) = keys-set (tag r b) (tag r n) x r.cells (λ i l d. offn i d ∙ sym (off i d)) lt zero' ∙ ap (λ z. with_tag z (keys r b)) new in
    ap (with_key k) two ∙ (with-swap k v (keys r b) ∙ ap (with_key v) (sym one))

taken-keys : (r : Tree) (m : List ℕ) (g : Ranges) (l h e x key : ℕ) → Holds (pool r) m g → LinkOf (pool r) m g l h e → slice_index m e ≡ suc x → tag r m x ≡ suc key → r.at + 1 + 3 * r.cells ≤ length m
    → keys r m ≡ with_key key (keys r (taken_out r x e m))
taken-keys r m g l h e x key w k named t room = by (slice_index m (left_at r x) == 0) (slice_index m (right_at r x) == 0) refl
  where
    names : Names (pool r) m g l h (suc x)
    names = subst (Names (pool r) m g l h) named (w.names l h e k)

    u : Used (pool r) m x
    u = record { inside = names.0.inside; pos = omega arith }

    rl : LinkOf (pool r) m g (tag r m x) (g.high x) (right_at r x)
    rl = inr (inr (x, refl, refl, refl, u))

    off : (j : ℕ) → e ≢ tag_at r j
    off = (link-inside (pool r) m g l h e k).0

    both : (s : Position) → Leftmost (pool r) m g (tag r m x) (g.high x) s → slice_index m (right_at r x) ≢ 0 → keys r m ≡ with_key key (keys r (replaced r x s m))
    both s f d = at s.next refl (slice_index m (right_at r x)) refl (w.names (tag r m x) (g.high x) (right_at r x) rl)
      where
        at : (n : ℕ) → s.next ≡ n → (v : ℕ) → slice_index m (right_at r x) ≡ v → Names (pool r) m g (tag r m x) (g.high x) v → keys r m ≡ with_key key (keys r (replaced r x s m))
        at n c zero q nm = absurd (d q)
        at zero c (suc j) q nm = absurd (f.none c j nm.0)
        at (suc y) c (suc j) q nm = tagged (tag r m y) refl
          where
            ny : Names (pool r) m g (tag r m x) f.high (suc y)
            ny = subst (Names (pool r) m g (tag r m x) f.high) (f.word ∙ c) (w.names (tag r m x) f.high s.link f.link)

            tagged : (v : ℕ) → tag r m y ≡ v → keys r m ≡ with_key key (keys r (replaced r x s m))
            tagged zero z = let a = ny.0.above in absurd (omega arith)
            tagged (suc ky) z =
                let o = (link-inside (pool r) m g (tag r m x) f.high s.link f.link).0 in
                let v : ℕ = slice_index m (right_at r y) in
                let k1 : List ℕ = spliced r y s.link v m in
                let xy : x ≢ y = λ q. (let a : tag r m x ≡ tag r m y = ap (tag r m) q in let b = ny.0.above in absurd (omega arith)) in
                let tx : tag r k1 x ≡ suc key = spliced-tags r m s.link y v o x xy ∙ t in
                let kl : length k1 ≡ length m = simp length-set in
                let one = spliced-keys r m s.link y v o ky ny.0.inside room z in
                let two = retagged-keys r k1 x key ky u.inside (omega arith) tx in
                let st : s.tag ≡ suc ky = (f.some y c).0 ∙ z in
                let less : less_one s.next ≡ y = ap less_one c in
                let end : keys r m ≡ with_key key (keys r (retagged r x (suc ky) k1)) = one ∙ sym two in
                rw (less, st) end

    by : (b c : Bool) → (slice_index m (right_at r x) == 0) ≡ c
        → keys r m ≡ with_key key (keys r (if b then spliced r x e (slice_index m (right_at r x)) m else (if c then spliced r x e (slice_index m (left_at r x)) m else replaced r x (leftmost r m r.cells (right_at r x)) m)))
    by true c q = spliced-keys r m e x (slice_index m (right_at r x)) off key names.0.inside room t
    by false true q = spliced-keys r m e x (slice_index m (left_at r x)) off key names.0.inside room t
    by false false q = both (leftmost r m r.cells (right_at r x)) (leftmost-found (pool r) m g r.cells (tag r m x) (g.high x) (right_at r x) w rl (how_many-most _ r.cells)) (grind (arith, nat_tests))

pub removed-keys : (r : Tree) (m : List ℕ) (key : ℕ) → IsTree r m → key < 2 ^ 32 → r.at + 1 + 3 * r.cells ≤ length m → keys r (removed_in r key m).memory ≡ without_key key (keys r m)
removed-keys r m key w small room = by (has key (keys r m)) refl
  where
    f : Found (pool r) m w.0 key (position_of r m key)
    f = found r m key w small

    by : (t : Bool) → has key (keys r m) ≡ t → keys r (if t then changed true (taken_out r (less_one (position_of r m key).next) (position_of r m key).link m) else unchanged false m).memory ≡ without_key key (keys r m)
    by false h = sym (without-none key (keys r m) h)
    by true h = at (position_of r m key).next refl
      where
        u : (position_of r m key).tag ≡ suc key
        u = let q : ((position_of r m key).tag == suc key) ≡ true = has-found (pool r) m w.0 key (position_of r m key) w.1 f ∙ h in grind (arith, nat_tests)

        at : (n : ℕ) → (position_of r m key).next ≡ n → keys r (taken_out r (less_one (position_of r m key).next) (position_of r m key).link m) ≡ without_key key (keys r m)
        at zero e = let z = f.none e in let y = u in absurd (omega arith)
        at (suc c) e =
            let a = (position_of r m key).link in
            let ks : keys r m ≡ with_key key (keys r (taken_out r c a m)) = taken-keys r m w.0 f.low f.high a c key w.1 f.link (f.word ∙ e) (f.some c e).1 room in
            let done : keys r (taken_out r c a m) ≡ without_key key (keys r m) = sym (without-with key (keys r (taken_out r c a m))) ∙ ap (without_key key) (sym ks) in
            rw e done
