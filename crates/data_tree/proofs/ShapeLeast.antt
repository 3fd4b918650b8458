-- The least cell of a part of a tree, and the walk to it.
use Rattle.std.proofs.Common.{ℕ, zero, suc, ◌≡◌, ◌<◌, ◌≤◌, ◌≢◌, List, get_or, Bool, true, false, refl, sym, ap, ◌∙◌, arith, subst, inr}
use Rattle.std.specs.Prelude.{◌==◌, ltb, if◌then◌else◌, slice_index}
use Rattle.std.proofs.lemmas.Bool.Decides.{nat_tests}
use Rattle.data_effects.specs.declared.position.Position.{Position}
use Rattle.data_effects.proofs.KeyLaws.{how_many-most}
use Rattle.data_tree.specs.declared.pool.Pool.{Pool}
use Rattle.data_tree.specs.Shapes.{left_at, right_at, tag, top, Ranges, Used, Within, LinkOf, Names, Holds, leftmost_by, leftmost}
use Rattle.data_tree.proofs.ShapeWalks.{left, left-less, left-link, named-used}

-- the least cell of the range from l: its left link is empty
pub record Leftmost (r : Pool) (m : List ℕ) (g : Ranges) (l h : ℕ) (s : Position) : Type 0 where
  pub high : ℕ
  pub link : LinkOf r m g l high s.link
  pub word : slice_index m s.link ≡ s.next
  pub none : s.next ≡ 0 → (k : ℕ) → Within r m l h k → ⊥
  pub tagless : s.next ≡ 0 → s.tag ≡ 0
  pub some : (j : ℕ) → s.next ≡ suc j → (s.tag ≡ tag r m j) × (slice_index m (left_at r j) ≡ 0)

pub leftmost-found : (r : Pool) (m : List ℕ) (g : Ranges) (n l h a : ℕ) → Holds r m g → LinkOf r m g l h a → left r m l h ≤ n → Leftmost r m g l h (leftmost r m n a)
leftmost-found r m g zero l h a w x le = by (slice_index m a) refl (w.names l h a x)
  where
    by : (v : ℕ) → slice_index m a ≡ v → Names r m g l h v → Leftmost r m g l h (record { link = a; next = 0; tag = 0 })
    by zero e n = record { high = h; link = x; word = e; none = λ z. n; tagless = λ z. refl; some = λ j z. absurd cc }
    by (suc j) e n = let q = left-less r m l h l l j n.0 (omega arith) (let p = n.0.above in let b = n.0.below in omega arith) (inr (let p = n.0.above in omega arith)) in absurd (omega arith)
leftmost-found r m g (suc n) l h a w x le = by (slice_index m a) refl (w.names l h a x)
    (λ j z. leftmost-found r m g n l (tag r m j) (left_at r j) w (left-link r m g l h j z)
    (let q = left-less r m l h l (tag r m j) j z.0 (omega arith) (let b = z.0.below in omega arith) (inr (omega arith)) in omega arith))
  where
    by : (v : ℕ) → slice_index m a ≡ v → Names r m g l h v → ((j : ℕ) → Names r m g l h (suc j) → Leftmost r m g l (tag r m j) (leftmost r m n (left_at r j)))
        → Leftmost r m g l h (leftmost_by r m a (λ j. leftmost r m n (left_at r j)) v)
    by zero e z go = record { high = h; link = x; word = e; none = λ q. z; tagless = λ c. refl; some = λ j q. absurd cc }
    by (suc j) e z go = here (slice_index m (left_at r j) == 0) refl
      where
        here : (b : Bool) → (slice_index m (left_at r j) == 0) ≡ b → Leftmost r m g l h (if b then record { link = a; next = suc j; tag = tag r m j } else leftmost r m n (left_at r j))
        here true q = record {
          high = h;
          link = x;
          word = e;
          none = λ c. absurd (omega arith);
          tagless = λ c. absurd (omega arith);
          some = λ i c. let s : j ≡ i = omega arith in (ap (tag r m) s, ap (λ y. get_or m (left_at r y) 0) (sym s) ∙ grind (arith, nat_tests));
        }
        here false q = let o = go j z in record {
          high = o.high;
          link = o.link;
          word = o.word;
          tagless = o.tagless;
          some = o.some;
          none = λ c. absurd (filled (slice_index m (left_at r j)) refl (w.names l (tag r m j) (left_at r j) (left-link r m g l h j z)) (o.none c));
        }
          where
            filled : (v : ℕ) → slice_index m (left_at r j) ≡ v → Names r m g l (tag r m j) v → ((k : ℕ) → Within r m l (tag r m j) k → ⊥) → ⊥
            filled zero f nm gap = grind (arith, nat_tests)
            filled (suc i) f nm gap = gap i nm.0

-- no cell of the range stands before it
pub least-gap : (r : Pool) (m : List ℕ) (g : Ranges) (l h y i : ℕ) (s : Position) → Holds r m g → (f : Leftmost r m g l h s) → s.next ≡ suc y → Used r m i → i ≢ y → l < tag r m i → s.tag < tag r m i
least-gap r m g l h y i s w f e o iy lt = by (ltb (tag r m i) (tag r m y)) refl
  where
    names : Names r m g l f.high (suc y)
    names = subst (Names r m g l f.high) (f.word ∙ e) (w.names l f.high s.link f.link)

    empty : (k : ℕ) → Within r m l (tag r m y) k → ⊥
    empty = subst (Names r m g l (tag r m y)) (f.some y e).1 (w.names l (tag r m y) (left_at r y) (left-link r m g l f.high y names))

    by : (b : Bool) → ltb (tag r m i) (tag r m y) ≡ b → s.tag < tag r m i
    by true q = absurd (empty i (record { inside = o.inside; above = lt; below = grind (arith, nat_tests) }))
    by false q = let ne : tag r m i ≢ tag r m y = λ c. iy (w.differ i y o (named-used r m g l f.high y names) c) in let ge : tag r m y ≤ tag r m i = grind (arith, nat_tests) in let c = (f.some y e).0 in omega arith

pub leftmost-some : (r : Pool) (m : List ℕ) (g : Ranges) (x : ℕ) → Holds r m g → Used r m x → slice_index m (right_at r x) ≢ 0
    → ((leftmost r m r.cells (right_at r x)).next ≡ 0 → ⊥) × ((leftmost r m r.cells (right_at r x)).tag < top)
leftmost-some r m g x w u d = (λ z. filled (slice_index m (right_at r x)) refl (w.names (tag r m x) (g.high x) (right_at r x) rl) (least.none z), small (leftmost r m r.cells (right_at r x)).next refl)
  where
    rl : LinkOf r m g (tag r m x) (g.high x) (right_at r x)
    rl = inr (inr (x, refl, refl, refl, u))

    least : Leftmost r m g (tag r m x) (g.high x) (leftmost r m r.cells (right_at r x))
    least = leftmost-found r m g r.cells (tag r m x) (g.high x) (right_at r x) w rl (how_many-most _ r.cells)

    filled : (v : ℕ) → slice_index m (right_at r x) ≡ v → Names r m g (tag r m x) (g.high x) v → ((k : ℕ) → Within r m (tag r m x) (g.high x) k → ⊥) → ⊥
    filled zero f nm gap = d f
    filled (suc i) f nm gap = gap i nm.0

    small : (n : ℕ) → (leftmost r m r.cells (right_at r x)).next ≡ n → (leftmost r m r.cells (right_at r x)).tag < top
    small zero e = absurd (filled (slice_index m (right_at r x)) refl (w.names (tag r m x) (g.high x) (right_at r x) rl) (least.none e))
    small (suc j) e =
        let q = (least.some j e).0 in
        let nm : Names r m g (tag r m x) least.high (suc j) = subst (Names r m g (tag r m x) least.high) (least.word ∙ e)
        (w.names (tag r m x) least.high (leftmost r m r.cells (right_at r x)).link least.link) in
        let s = w.small j nm.0.inside in omega arith

-- the walk to the least, a step at a time
pub leftmost-end : (r : Pool) (m : List ℕ) (n a v : ℕ) → v ≡ slice_index m a → v ≡ 0 → record { link = a; next = v; tag = 0 } ≡ leftmost r m n a
leftmost-end r m zero a v e z = rw z refl
leftmost-end r m (suc n) a v e z = let q : slice_index m a ≡ 0 = sym e ∙ z in rw (z, q) refl

pub leftmost-stop : (r : Pool) (m : List ℕ) (n a v j u t : ℕ) → 0 < n → v ≡ slice_index m a → v ≡ suc j → u ≡ slice_index m (left_at r j)
    → u ≡ 0 → t ≡ tag r m j → record { link = a; next = v; tag = t } ≡ leftmost r m n a
leftmost-stop r m zero a v j u t lt e z s g o = absurd (omega arith)
leftmost-stop r m (suc n) a v j u t lt e z s g o =
    let q : slice_index m a ≡ suc j = sym e ∙ z in
    let p : (slice_index m (left_at r j) == 0) ≡ true = (let x : slice_index m (left_at r j) ≡ 0 = sym s ∙ g in grind (arith, nat_tests)) in
    rw (z, q, o, p) refl

pub leftmost-on : (r : Pool) (m : List ℕ) (n less a v j u : ℕ) → n ≡ suc less → v ≡ slice_index m a → v ≡ suc j → u ≡ slice_index m (left_at r j) → u ≢ 0 → leftmost r m n a ≡ leftmost r m less (left_at r j)
leftmost-on r m zero less a v j u k e z s g = absurd (omega arith)
leftmost-on r m (suc n) less a v j u k e z s g =
    let q : slice_index m a ≡ suc j = sym e ∙ z in
    let p : (slice_index m (left_at r j) == 0) ≡ false =
    (let x : slice_index m (left_at r j) ≢ 0 = λ y. g (s ∙ y) in grind (arith, nat_tests)) in
    let d : n ≡ less = omega arith in rw (q, p, d) refl
