-- What a put and a removal keep: a well-formed map, words as values, and each word outside it.
use Rattle.std.proofs.Common.{ℕ, zero, suc, ◌≡◌, ◌<◌, ◌≤◌, ◌+◌, ◌*◌, ◌^◌, List, length, set, Bool, true, false, refl, sym, ap, ◌∙◌, arith, subst, inl, inr}
use Rattle.std.specs.Prelude.{◌==◌, if◌then◌else◌, Option, Some, None, slice_index}
use Rattle.std.proofs.lemmas.Bool.Decides.{nat_tests}
use Rattle.data_effects.specs.declared.position.Position.{Position}
use Rattle.data_effects.specs.Keys.{free_from, less_one}
use Rattle.data_effects.proofs.KeyLaws.{free-is, how_many-most}
use Rattle.data_tree.specs.Shapes.{Ranges, LinkOf, Names}
use Rattle.data_tree.proofs.ShapeWalks.{named-used, Found, position-found}
use Rattle.data_tree.proofs.ShapeSame.{link-place}
use Rattle.data_tree.proofs.ShapeLeast.{Leftmost, leftmost-found}
use Rattle.data_sums.specs.declared.sum_map.SumMap.{SumMap}
use Rattle.data_sums.specs.Sums.{pool, SumMapFits, HasWords, IsSumMap, Used, Holds, value, value_at, tag_at, left_at, right_at, step_to, tag, position_of, attached, put_by, added_by, put_in, replaced_in, removed_in, taken_out, spliced, leftmost, moved_up, retagged, replaced_by}
use Rattle.data_sums.specs.Statements.{RemovesWithin, WordsStay}
use Rattle.data_sums.proofs.SumPuts.{link-off, leaf-tree, value-holds, value-tree, tree-links}
use Rattle.data_sums.proofs.SumTakes.{less-one, k-tree, emptied-link, emptied-of, remove-none, remove-some, taken_out-keeps}
use Rattle.data_sums.proofs.SumWords.{Kept, kept-self, kept-set, kept-mended, kept-spliced}

-- the cell x gets value and tag of y, the least on its right; o is a memory before
least-kept : (r : SumMap) (o m : List ℕ) (g : Ranges) (x y : ℕ) (s : Position) → Kept r o m → Holds r m g → Used r m x → value r m x ≡ 0
    → Leftmost (pool r) m g (tag r m x) (g.high x) s → s.next ≡ suc y → r.at + 1 + 5 * r.cells ≤ length o
    → Kept r o (replaced_by r x s m)
least-kept r o m g x y s kept w u none f e room =
    subst (λ z. Kept r o (retagged r x s.tag (spliced r z s.link (slice_index m (right_at r z)) (moved_up r x z (less_one s.tag) m)))) (sym (ap less_one e))
    (let i = u.inside in kept-set r o _ (tag_at r x) s.tag out room (omega arith) (omega arith) (inr (λ j q. absurd (omega arith))))
  where
    names : Names (pool r) m g (tag r m x) f.high (suc y)
    names = subst (Names (pool r) m g (tag r m x) f.high) (f.word ∙ e) (w.shape.names (tag r m x) f.high s.link f.link)

    at : tag r m y ≡ suc (less_one s.tag)
    at = let q = (f.some y e).0 in let c = names.0.above in sym (less-one s.tag (omega arith) ∙ q)

    fit : value r m y < 2 ^ 64
    fit = kept.words y names.0.inside

    k1 : List ℕ
    k1 = set m (value_at r x) (value r m y)

    moved : Kept r o (moved_up r x y (less_one s.tag) m)
    moved =
        let ix = u.inside in
        let iy = names.0.inside in
        let long = kept.long in
        let one = kept-set r o m (value_at r x) (value r m y) kept room (omega arith) (omega arith) (inl fit) in
        let two = kept-set r o _ (value_at r y) 0 one room (omega arith) (omega arith) (inl (omega arith)) in
        let links = tree-links r _ g (k-tree r m g x y f.high s.link (less_one s.tag) w u none f.link (f.word ∙ e) (f.some y e).1 at fit (omega arith)) in
        kept-mended r o _ (less_one s.tag) (step_to (value r m y) 0) r.cells (right_at r x) two links (links.1 x ix).1

    out : Kept r o (spliced r y s.link (slice_index m (right_at r y)) (moved_up r x y (less_one s.tag) m))
    out =
        let p = link-place (pool r) m g (tag r m x) f.high s.link f.link in
        kept-spliced r o _ y s.link (slice_index m (right_at r y)) moved room names.0.inside p.0 p.1 (λ i q. (link-off r m g (tag r m x) f.high s.link f.link i).0 (sym q))

-- a cell taken out that has no value
taken-kept : (r : SumMap) (o m : List ℕ) (g : Ranges) (l h e x : ℕ) → Kept r o m → Holds r m g → LinkOf (pool r) m g l h e
    → slice_index m e ≡ suc x → value r m x ≡ 0 → r.at + 1 + 5 * r.cells ≤ length o → Kept r o (taken_out r x e m)
taken-kept r o m g l h e x kept w k named none room = by (slice_index m (left_at r x) == 0) (slice_index m (right_at r x) == 0) refl
  where
    u : Used r m x
    u = named-used (pool r) m g l h x (subst (Names (pool r) m g l h) named (w.shape.names l h e k))

    rl : LinkOf (pool r) m g (tag r m x) (g.high x) (right_at r x)
    rl = inr (inr (x, refl, refl, refl, u))

    least : Leftmost (pool r) m g (tag r m x) (g.high x) (leftmost r m r.cells (right_at r x))
    least = leftmost-found (pool r) m g r.cells (tag r m x) (g.high x) (right_at r x) w.shape rl (how_many-most _ r.cells)

    cut : (v : ℕ) → Kept r o (spliced r x e v m)
    cut v = let p = link-place (pool r) m g l h e k in kept-spliced r o m x e v kept room u.inside p.0 p.1 (λ i q. (link-off r m g l h e k i).0 (sym q))

    by : (b : Bool) (c : Bool) → (slice_index m (right_at r x) == 0) ≡ c
        → Kept r o (if b then spliced r x e (slice_index m (right_at r x)) m else (if c then spliced r x e (slice_index m (left_at r x)) m else replaced_by r x (leftmost r m r.cells (right_at r x)) m))
    by true c q = cut (slice_index m (right_at r x))
    by false true q = cut (slice_index m (left_at r x))
    by false false q = at (leftmost r m r.cells (right_at r x)).next refl (slice_index m (right_at r x)) refl (w.shape.names (tag r m x) (g.high x) (right_at r x) rl)
      where
        at : (n : ℕ) → (leftmost r m r.cells (right_at r x)).next ≡ n → (v : ℕ) → slice_index m (right_at r x) ≡ v
            → Names (pool r) m g (tag r m x) (g.high x) v → Kept r o (replaced_by r x (leftmost r m r.cells (right_at r x)) m)
        at n c zero d nm = absurd (grind (arith, nat_tests))
        at zero c (suc j) d nm = absurd (least.none c j nm.0)
        at (suc y) c (suc j) d nm = least-kept r o m g x y (leftmost r m r.cells (right_at r x)) kept w u none least c room

-- the state in which the key's value is another
pub replaced-kept : (r : SumMap) (m : List ℕ) (key v j : ℕ) → (w : IsSumMap r m) → SumMapFits r (length m) → HasWords r m → key < 2 ^ 32 → v < 2 ^ 64 → (position_of r m key).next ≡ suc j
    → IsSumMap r (replaced_in r key v j m).memory × Kept r m (replaced_in r key v j m).memory
replaced-kept r m key v j w fits words small fv e =
    let f : Found (pool r) m w.0 key (position_of r m key) = position-found (pool r) m w.0 key w.1.shape small in
    let z : Names (pool r) m w.0 f.low f.high (suc j) = subst (Names (pool r) m w.0 f.low f.high) (f.word ∙ e) (w.1.shape.names f.low f.high (position_of r m key).link f.link) in
    let i = z.0.inside in
    let t : tag r m j ≡ suc key = (f.some j e).1 in
    let links = tree-links r (set m (value_at r j) v) w.0 (value-tree r m w.0 key v j w.1 small i t (words j i) fits.0) in (
      (w.0, value-holds r m w.0 key v j w.1 small i t (words j i) fits.0),
      kept-mended r m (set m (value_at r j) v) key (step_to (value r m j) v) r.cells r.at (kept-set r m m (value_at r j) v (kept-self r m words) fits.0 (omega arith) (omega arith) (inl fv)) links links.0,
    )

-- a removal
removed-kept : (r : SumMap) (m : List ℕ) (key : ℕ) → IsSumMap r m → SumMapFits r (length m) → HasWords r m → key < 2 ^ 32 → IsSumMap r (removed_in r key m).memory × Kept r m (removed_in r key m).memory
removed-kept r m key w fits words small = by (position_of r m key).next refl
  where
    by : (n : ℕ) → (position_of r m key).next ≡ n → IsSumMap r (removed_in r key m).memory × Kept r m (removed_in r key m).memory
    by zero e = subst (λ x. IsSumMap r x.memory × Kept r m x.memory) (sym (remove-none r m key (position_of r m key) refl e)) (w, kept-self r m words)
    by (suc j) e =
        let z = replaced-kept r m key 0 j w fits words small (omega arith) e in
        let h = emptied-of r m key j (position_of r m key) w small refl e fits.0 z.0 in
        let k = (replaced_in r key 0 j m).memory in
        let a = (position_of r m key).link in
        let o = emptied-link r k h.well.0 a h.link in
        let long = z.1.long in
        let room = fits.0 in
        subst (λ x. IsSumMap r x.memory × Kept r m x.memory) (sym (remove-some r m key j (position_of r m key) refl e))
        (taken_out-keeps r k h.well.0 o.0 o.1 a j h.well.1 o.2 h.named h.none z.1.words (omega arith), taken-kept r m k h.well.0 o.0 o.1 a j z.1 h.well.1 o.2 h.named h.none room)

pub removes-within : RemovesWithin
removes-within r m key w fits words small = let z = removed-kept r m key w fits words small in (z.0, z.1.out)

-- a put
put-kept : (r : SumMap) (m : List ℕ) (key v : ℕ) → IsSumMap r m → SumMapFits r (length m) → HasWords r m → key < 2 ^ 32 → v < 2 ^ 64 → Kept r m (put_in r key v m).memory
put-kept r m key v w fits words small fv = by (position_of r m key).next refl (free_from (tag r m) 0 r.cells) refl
  where
    f : Found (pool r) m w.0 key (position_of r m key)
    f = position-found (pool r) m w.0 key w.1.shape small

    by : (n : ℕ) → (position_of r m key).next ≡ n → (o : Option ℕ) → free_from (tag r m) 0 r.cells ≡ o → Kept r m (put_in r key v m).memory
    by zero e None q = subst (λ x. Kept r m x.memory) (sym (ap (put_by r key v m) e ∙ ap (added_by r key v m) q)) (kept-self r m words)
    by zero e (Some c) q =
        let z = free-is (tag r m) 0 r.cells c q in
        let lt : c < r.cells = (let y = z.0 in omega arith) in
        let s = position_of r m key in
        let room = fits.0 in
        let p = link-place (pool r) m w.0 f.low f.high s.link f.link in
        let one = kept-set r m m (tag_at r c) (suc key) (kept-self r m words) room (omega arith) (omega arith) (inr (λ i x. absurd (omega arith))) in
        let two = kept-set r m _ (value_at r c) v one room (omega arith) (omega arith) (inl fv) in
        let all = kept-set r m _ s.link (suc c) two room p.0 p.1 (inr (λ i x. (link-off r m w.0 f.low f.high s.link f.link i).0 (sym x))) in
        let links = tree-links r (attached r key v c s.link m) _ (leaf-tree r m w.0 key v c s w.1 f small e lt z.1 room) in
        subst (λ x. Kept r m x.memory) (sym (ap (put_by r key v m) e ∙ ap (added_by r key v m) q)) (kept-mended r m (attached r key v c s.link m) key v r.cells r.at all links links.0)
    by (suc j) e o q = subst (λ x. Kept r m x.memory) (sym (ap (put_by r key v m) e)) (replaced-kept r m key v j w fits words small fv e).1

pub words-stay : WordsStay
words-stay r m key v w fits words small fv = ((put-kept r m key v w fits words small fv).words, (removed-kept r m key w fits words small).1.words)
