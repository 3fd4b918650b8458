-- What the calls on trees do to a memory.
use Rattle.std.proofs.Common.{ℕ, zero, suc, ◌≡◌, ◌<◌, ◌≤◌, ◌≢◌, ◌+◌, ◌-◌, ◌*◌, ◌^◌, List, length, set, Bool, true, false, refl, sym, ap, ◌∙◌, arith, subst}
use Rattle.std.specs.Prelude.{◌==◌, if◌then◌else◌, Option, Some, None, slice_index}
use Rattle.std.proofs.lemmas.Bool.Decides.{nat_tests}
use Rattle.data_tree.specs.declared.tree.Tree.{Tree}
use Rattle.data_effects.specs.declared.position.Position.{Position}
use Rattle.data_effects.specs.declared.insert.Insert.TheVariants.{Added, Present, NoRoom}
use Rattle.stm_model.specs.Logs.{Log, SameMemories}
use Rattle.data_effects.specs.Effects.{unchanged, changed, Under, DoesOver}
use Rattle.data_effects.specs.EffectLaws.{under-after}
use Rattle.data_effects.specs.Keys.{has, free_from, less_one}
use Rattle.data_effects.proofs.KeyLaws.{has-yes, free-is}
use Rattle.data_tree.specs.Shapes.{top}
use Rattle.data_tree.proofs.ShapeWalks.{Found, position-found, has-found}
use Rattle.data_tree.proofs.ShapeLeast.{leftmost-some}
use Rattle.data_tree.specs.Trees.{pool, tag, tag_at, left_at, right_at, keys, IsTree, position_of, spliced, retagged, leftmost, taken_out, contained_in, inserted_by, inserted_in, removed_in}
use Rattle.data_tree.proofs.TreeWrites.{attached-keeps}
use Rattle.data_tree.proofs.TreeTakes.{taken_out-keeps}

module _ (r : Tree) (m : List ℕ) (key : ℕ) (w : IsTree r m) (small : key < 2 ^ 32) where
  pub found : Found (pool r) m w.0 key (position_of r m key)
  found = position-found (pool r) m w.0 key w.1 small

  there : (t : Bool) → ((position_of r m key).tag == suc key) ≡ t → has key (keys r m) ≡ t
  there t q = sym (has-found (pool r) m w.0 key (position_of r m key) w.1 found) ∙ q

  pub contained : (s : Position) → s ≡ position_of r m key → contained_in r key m ≡ unchanged (s.tag == key + 1) m
  contained s e = let q : key + 1 ≡ suc key = omega arith in let h = there ((position_of r m key).tag == suc key) refl in rw (h, e, q) refl

  pub present : (s : Position) → s ≡ position_of r m key → s.tag ≡ key + 1 → inserted_in r key m ≡ unchanged Present m
  present s e t = let u : (position_of r m key).tag ≡ suc key = ap (λ x. x.tag) (sym e) ∙ (t ∙ (omega arith)) in
      let h = there true (grind (arith, nat_tests)) in rw h refl

  absent : (s : Position) → s ≡ position_of r m key → s.tag ≢ key + 1 → has key (keys r m) ≡ false
  absent s e t = let u : (position_of r m key).tag ≢ suc key = λ x. t (ap (λ y. y.tag) e ∙ (x ∙ (omega arith))) in there false (grind (arith, nat_tests))

  pub no-room : (s : Position) → s ≡ position_of r m key → s.tag ≢ key + 1 → None ≡ free_from (tag r m) 0 r.cells → inserted_in r key m ≡ unchanged NoRoom m
  no-room s e t f = let h = absent s e t in rw (h, ← f) refl

  pub added : (s : Position) (c : ℕ) → s ≡ position_of r m key → s.tag ≢ key + 1 → Some c ≡ free_from (tag r m) 0 r.cells → inserted_in r key m ≡ changed Added (set (set m (tag_at r c) (key + 1)) s.link (c + 1))
  added s c e t f = let k : key + 1 ≡ suc key = omega arith in let d : c + 1 ≡ suc c = omega arith in let h = absent s e t in rw (h, ← f, e, k, d) refl

  absent-tags : has key (keys r m) ≡ false → (i : ℕ) → i < r.cells → tag r m i ≢ suc key
  absent-tags h i lt e = let y = has-yes (tag r m) key r.cells i lt e in absurd cc

  -- where the key is absent its place is empty
  empty-position : has key (keys r m) ≡ false → (position_of r m key).next ≡ 0
  empty-position h = by (position_of r m key).next refl
    where
      by : (n : ℕ) → (position_of r m key).next ≡ n → n ≡ 0
      by zero e = refl
      by (suc j) e = let z = found.some j e in let a = z.0 in let b = z.1 in let q : ((position_of r m key).tag == suc key) ≡ true = grind (arith, nat_tests) in let y = there true q in absurd cc

  pub inserted-keeps : r.at + 1 + 3 * r.cells ≤ length m → IsTree r (inserted_in r key m).memory
  inserted-keeps room = by (has key (keys r m)) refl (free_from (tag r m) 0 r.cells) refl
    where
      by : (t : Bool) → has key (keys r m) ≡ t → (o : Option ℕ) → free_from (tag r m) 0 r.cells ≡ o → IsTree r (if t then unchanged Present m else inserted_by r key m o).memory
      by true h o q = w
      by false h None q = w
      by false h (Some c) q = let z = free-is (tag r m) 0 r.cells c q in let lt = z.0 in
          attached-keeps r m w.0 key c (position_of r m key) w.1 found (empty-position h) room (omega arith) z.1 (absent-tags h)

  pub absent-stays : (s : Position) → s ≡ position_of r m key → s.tag ≢ key + 1 → removed_in r key m ≡ unchanged false m
  absent-stays s e t = let h = absent s e t in rw h refl

  -- of a key that is there
  module _ (s : Position) (c : ℕ) (e : s ≡ position_of r m key) (t : s.tag ≡ key + 1) (n : s.next ≡ suc c) where
    takes : removed_in r key m ≡ changed true (taken_out r c s.link m)
    takes =
        let u : (position_of r m key).tag ≡ suc key = ap (λ x. x.tag) (sym e) ∙ (t ∙ (omega arith)) in
        let h = there true (grind (arith, nat_tests)) in
        let d : less_one (position_of r m key).next ≡ c = ap (λ x. less_one x.next) (sym e) ∙ ap less_one n in
        rw (h, d, e) refl

    pub removed-right : (u v : ℕ) → u ≡ slice_index m (left_at r c) → u ≡ 0 → v ≡ slice_index m (right_at r c) → removed_in r key m ≡ changed true (spliced r c s.link v m)
    removed-right u v a z b = takes ∙ (let q : (slice_index m (left_at r c) == 0) ≡ true = (let x : slice_index m (left_at r c) ≡ 0 = sym a ∙ z in grind (arith, nat_tests)) in rw (q, b) refl)

    pub removed-left : (u v : ℕ) → u ≡ slice_index m (left_at r c) → u ≢ 0 → v ≡ slice_index m (right_at r c) → v ≡ 0 → removed_in r key m ≡ changed true (spliced r c s.link u m)
    removed-left u v a z b o = takes ∙ (let q : (slice_index m (left_at r c) == 0) ≡ false = (let x : slice_index m (left_at r c) ≢ 0 = λ y. z (a ∙ y) in grind (arith, nat_tests)) in
        let p : (slice_index m (right_at r c) == 0) ≡ true = (let x : slice_index m (right_at r c) ≡ 0 = sym b ∙ o in grind (arith, nat_tests)) in rw (q, p, a) refl)

    pub removed-both : (u v : ℕ) (p : Position) (y a : ℕ) → u ≡ slice_index m (left_at r c) → u ≢ 0 → v ≡ slice_index m (right_at r c)
        → v ≢ 0 → p ≡ leftmost r m r.cells (right_at r c) → p.next ≡ suc y → a ≡ slice_index m (right_at r y)
        → removed_in r key m ≡ changed true (retagged r c p.tag (spliced r y p.link a m))
    removed-both u v p y a f z b o l i w' = takes ∙ (let q : (slice_index m (left_at r c) == 0) ≡ false = (let x : slice_index m (left_at r c) ≢ 0 = λ j. z (f ∙ j) in grind (arith, nat_tests)) in
        let k : (slice_index m (right_at r c) == 0) ≡ false = (let x : slice_index m (right_at r c) ≢ 0 = λ j. o (b ∙ j) in grind (arith, nat_tests)) in
        let d : less_one (leftmost r m r.cells (right_at r c)).next ≡ y = ap (λ x. less_one x.next) (sym l) ∙ ap less_one i in
        rw (q, k, d, l, w') refl)

    -- with something on its right there is a least cell there
    pub least-some : (v : ℕ) (p : Position) → c < r.cells → v ≡ slice_index m (right_at r c) → v ≢ 0 → p ≡ leftmost r m r.cells (right_at r c) → (p.next ≡ 0 → ⊥) × (p.tag < top)
    least-some v p lt b o l =
        let z = found.some c (ap (λ x. x.next) (sym e) ∙ n) in
        let q = z.1 in
        subst (λ x. (x.next ≡ 0 → ⊥) × (x.tag < top)) (sym l) (leftmost-some (pool r) m w.0 c w.1 (record { inside = lt; pos = omega arith }) (λ y. o (b ∙ y)))

  pub removed-keeps : r.at + 1 + 3 * r.cells ≤ length m → IsTree r (removed_in r key m).memory
  removed-keeps room = by (has key (keys r m)) refl
    where
      by : (t : Bool) → has key (keys r m) ≡ t → IsTree r (if t then changed true (taken_out r (less_one (position_of r m key).next) (position_of r m key).link m) else unchanged false m).memory
      by false h = w
      by true h = at (position_of r m key).next refl
        where
          u : (position_of r m key).tag ≡ suc key
          u = let q : ((position_of r m key).tag == suc key) ≡ true = has-found (pool r) m w.0 key (position_of r m key) w.1 found ∙ h in grind (arith, nat_tests)

          at : (n : ℕ) → (position_of r m key).next ≡ n → IsTree r (taken_out r (less_one (position_of r m key).next) (position_of r m key).link m)
          at zero e = let z = found.none e in let y = u in absurd (omega arith)
          at (suc c) e = rw e (taken_out-keeps r m w.0 found.low found.high (position_of r m key).link c w.1 found.link (found.word ∙ e) room)

-- a removal has found the key, and read the links of its cell
pub record Opened (r : Tree) (key : ℕ) (s : Position) (u v : ℕ) (m : List ℕ) : Type 0 where
  pub place : s ≡ position_of r m key
  pub left : u ≡ slice_index m (left_at r (s.next - 1))
  pub right : v ≡ slice_index m (right_at r (s.next - 1))

-- a removal keeps the tree, in a memory that code holds
pub removal-keeps : (good good' : List ℕ → Type 0) (words words' : ℕ) (log log' : Log) (r : Tree) (key : ℕ) (b : Bool) → key < 2 ^ 32
    → r.at + 1 + 3 * r.cells ≤ words → Under good words log (IsTree r) → DoesOver good words (removed_in r key) log b log'
    → SameMemories good good' → words' ≡ words → Under good' words' log' (IsTree r)
removal-keeps good good' words words' log log' r key b small room well does same long =
    under-after good words log (removed_in r key) _ _ _ b (IsTree r) (IsTree r) does well same long (λ m len w.
    removed-keeps r m key w small (omega arith))
