use Rattle.std.proofs.Common.{◌≡◌, ◌<◌, ◌≤◌, ◌≢◌, ◌-◌, ◌^◌, ◌∙◌, ℕ, List, suc, refl, ap, arith, Some, None, inl, inr}
use Rattle.std.specs.Prelude.{◌⊎◌}
use Rattle.data_effects.specs.Effects.{Shows, unchanged}
use Rattle.data_effects.specs.EffectLaws.{does-stay, shows-none, shows-read, shows-then, shown, same-trans, under-after, under-now}
use Rattle.data_effects.specs.Keys.{least}
use Rattle.data_tree.specs.declared.tree.Tree.{Tree}
use Rattle.data_tree.specs.Shapes.{top, IsAt}
use Rattle.data_tree.proofs.ShapeWalks.{word-inside}
use Rattle.data_tree.specs.Trees.{pool, IsTree, keys, leftmost, least_in}
use Rattle.data_tree.proofs.TreeTakes.{least-key}
use Rattle.data_tree.proofs.tree.Tree.min.Goals.{In_ok-first, In_ok-least}
use Rattle.data_tree.proofs.tree.Tree.min.Goals as goal

none-by : (r : Tree) (m : List ℕ) (t : ℕ) → t ≡ 0 → ((t ≡ 0) × (least (keys r m) ≡ None)) ⊎ ((k : ℕ) × (t ≡ suc k) × (k < 2 ^ 32) × (least (keys r m) ≡ Some k)) → least_in r m ≡ unchanged None m
none-by r m t z (inl h) = let e = h.1 in rw e refl
none-by r m t z (inr h) = let e = h.1 in absurd (omega arith)

some-by : (r : Tree) (m : List ℕ) (t : ℕ) → t ≢ 0
    → ((t ≡ 0) × (least (keys r m) ≡ None)) ⊎ ((k : ℕ) × (t ≡ suc k) × (k < 2 ^ 32) × (least (keys r m) ≡ Some k))
    → (least_in r m ≡ unchanged (Some (t - 1)) m) × (t ≤ 2 ^ 32)
some-by r m t d (inl h) = absurd (d h.0)
some-by r m t d (inr h) = let e = h.1 in let q : h.0 ≡ t - 1 = omega arith in let lt = h.2 in (ap (λ o. unchanged o m) (h.3 ∙ ap Some q), omega arith)

-- what the root's word and the walk from it show
rooted : (g : _) (c : In_ok-first g)
    → Shows (g.A.Access.good c.args.acc.now) (g.A.Access.words c.args.acc.now) (g.A.Access.log c.args.acc.now)
    (g.A.Access.log c.read.new.self) (IsAt (pool c.args.self.now) c.args.self.now.at c.in_ok-first.first)
rooted g c =
    let r = c.args.self.now in
    let lies = c.requires.within in
    shows-read (g.A.Access.good c.args.acc.now) (g.A.Access.words c.args.acc.now) (g.A.Access.log c.args.acc.now)
    (g.A.Access.log c.args.acc.now) _ (IsTree r) (IsAt (pool r) r.at c.in_ok-first.first) r.at c.in_ok-first.first
    (shows-none (g.A.Access.good c.args.acc.now) (g.A.Access.words c.args.acc.now) (g.A.Access.log c.args.acc.now) (IsTree r)
    c.requires.well) refl (omega arith) c.in_ok-first.ensures.value (λ m w x. record { well = w; at = x })

walked : (g : _) (c : In_ok-least g)
    → Shows (g.A.Access.good c.args.acc.now) (g.A.Access.words c.args.acc.now) (g.A.Access.log c.args.acc.now)
    (g.A.Access.log c.read.new.self) (IsAt (pool c.args.self.now) c.args.self.now.at c.in_ok-first.first)
    → Shows (g.A.Access.good c.args.acc.now) (g.A.Access.words c.args.acc.now) (g.A.Access.log c.args.acc.now)
    (g.A.Access.log c.leftmost.new.acc) (λ m.
    IsAt (pool c.args.self.now) c.args.self.now.at c.in_ok-first.first m
    × (c.in_ok-least.least ≡ leftmost c.args.self.now m c.args.self.now.cells c.args.self.now.at))
walked g c root =
    let r = c.args.self.now in
    let one = c.in_ok-first.ensures in
    shows-then (g.A.Access.good c.args.acc.now) (g.A.Access.words c.args.acc.now) (g.A.Access.log c.args.acc.now)
    (g.A.Access.log c.read.new.self) (g.A.Access.log c.leftmost.new.acc) _ _ (IsAt (pool r) r.at c.in_ok-first.first)
    (λ m. c.in_ok-least.least ≡ leftmost r m r.cells r.at) root one.value.0 one.good one.words c.in_ok-least.ensures.finds

pub leftmost-requires-clause-within : goal.leftmost-requires-clause-within
leftmost-requires-clause-within g c =
    let r = c.args.self.now in
    let v = c.in_ok-first.first in
    let one = c.in_ok-first.ensures in
    let lies = c.requires.within in
    let below = shown (g.A.Access.good c.args.acc.now) (g.A.Access.words c.args.acc.now) (g.A.Access.log c.args.acc.now)
    (g.A.Access.log c.read.new.self) _ _ (IsAt (pool r) r.at v) (v ≤ r.cells)
    (rooted g (goal.at.leftmost-requires-clause-within g c).In_ok-first) one.good one.words one.explained
    (λ m h. let le = word-inside (pool r) m h.well.0 0 top r.at h.well.1 (inl (refl, refl, refl)) in let x = h.at in omega arith) in
    (omega arith, below, (omega arith, omega arith))

pub leftmost-requires-clause-well : goal.leftmost-requires-clause-well
leftmost-requires-clause-well g c =
    let r = c.args.self.now in
    let one = c.in_ok-first.ensures in
    let h = under-now (g.A.Access.good c.args.acc.now) (g.A.Access.words c.args.acc.now) (g.A.Access.log c.args.acc.now)
    (g.A.Access.log c.read.new.self) (g.A.Access.good c.read.new.self) (g.A.Access.words c.read.new.self) (IsTree r)
    (IsAt (pool r) r.at c.in_ok-first.first) c.requires.well (rooted g (goal.at.leftmost-requires-clause-well g c).In_ok-first) one.value.0
    one.good one.words in
    λ m fine len ex. (h m fine len ex).1

pub returns-then-least-eq0-clause-reply : goal.returns-then-least-eq0-clause-reply
returns-then-least-eq0-clause-reply g c =
    let at = goal.at.returns-then-least-eq0-clause-reply g c in
    let r = c.args.self.now in
    let s = c.in_ok-least.least in
    does-stay (g.A.Access.good c.args.acc.now) (g.A.Access.words c.args.acc.now) (g.A.Access.log c.args.acc.now) (least_in r) _ None
    (IsTree r) c.requires.well (c.in_ok-least.ensures.writes ∙ c.in_ok-first.ensures.value.0)
    (λ m. IsAt (pool r) r.at c.in_ok-first.first m × (s ≡ leftmost r m r.cells r.at)) (walked g at.In_ok-least (rooted g at.In_ok-first)) (λ m w h. none-by r m s.tag c.if-least-eq0.true (least-key r m w.0 w.1 s h.1))

pub returns-then-least-eq0-clause-well : goal.returns-then-least-eq0-clause-well
returns-then-least-eq0-clause-well g c =
    let r = c.args.self.now in
    let q0 = c.in_ok-first.ensures in
    let q1 = c.in_ok-least.ensures in
    under-after (g.A.Access.good c.args.acc.now) (g.A.Access.words c.args.acc.now) (g.A.Access.log c.args.acc.now) (least_in r) _ _ _ None
    (IsTree r) (IsTree r) (returns-then-least-eq0-clause-reply g c) c.requires.well (same-trans _ _ _ q0.good (q1.frame.good))
    (q1.frame.words ∙ q0.words) (λ m len w. w)

pub overflow_cast-key : goal.overflow_cast-key
overflow_cast-key g c =
    let at = goal.at.overflow_cast-key g c in
    let r = c.args.self.now in
    let one = c.in_ok-first.ensures in
    let two = c.in_ok-least.ensures in
    let s = c.in_ok-least.least in
    let z = c.if-least-eq0.false in
    let d : s.tag ≢ 0 = λ x. absurd (omega arith) in
    let small : s.tag ≤ 2 ^ 32 = shown (g.A.Access.good c.args.acc.now) (g.A.Access.words c.args.acc.now) (g.A.Access.log c.args.acc.now)
    (g.A.Access.log c.leftmost.new.acc) _ _ (λ m. IsAt (pool r) r.at c.in_ok-first.first m × (s ≡ leftmost r m r.cells r.at))
    (s.tag ≤ 2 ^ 32) (walked g at.In_ok-least (rooted g at.In_ok-first)) (same-trans _ _ _ one.good two.frame.good) (two.frame.words ∙ one.words)
    two.frame.explained
    (λ m h. (some-by r m s.tag d (least-key r m h.0.well.0 h.0.well.1 s h.1)).1) in
    omega arith

pub returns-clause-reply : goal.returns-clause-reply
returns-clause-reply g c =
    let at = goal.at.returns-clause-reply g c in
    let r = c.args.self.now in
    let s = c.in_ok-least.least in
    let z = c.if-least-eq0.false in
    let d : s.tag ≢ 0 = λ x. absurd (omega arith) in
    does-stay (g.A.Access.good c.args.acc.now) (g.A.Access.words c.args.acc.now) (g.A.Access.log c.args.acc.now) (least_in r) _
    (Some (s.tag - 1)) (IsTree r) c.requires.well (c.in_ok-least.ensures.writes ∙ c.in_ok-first.ensures.value.0)
    (λ m. IsAt (pool r) r.at c.in_ok-first.first m × (s ≡ leftmost r m r.cells r.at)) (walked g at.In_ok-least (rooted g at.In_ok-first)) (λ m w h. (some-by r m s.tag d (least-key r m w.0 w.1 s h.1)).0)

pub returns-clause-well : goal.returns-clause-well
returns-clause-well g c =
    let r = c.args.self.now in
    let q0 = c.in_ok-first.ensures in
    let q1 = c.in_ok-least.ensures in
    under-after (g.A.Access.good c.args.acc.now) (g.A.Access.words c.args.acc.now) (g.A.Access.log c.args.acc.now) (least_in r) _ _ _ _
    (IsTree r) (IsTree r) (returns-clause-reply g c) c.requires.well (same-trans _ _ _ q0.good (q1.frame.good)) (q1.frame.words ∙ q0.words) (λ m len w.
    w)
