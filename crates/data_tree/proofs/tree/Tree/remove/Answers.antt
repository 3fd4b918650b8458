use Rattle.std.proofs.Common.{rules, ◌≡◌, ◌<◌, ◌≤◌, ◌≢◌, ◌+◌, ◌-◌, ◌^◌, ◌∙◌, ℕ, List, suc, get_or, arith, true, false}
use Rattle.stm_model.specs.Logs.{SameMemories}
use Rattle.data_effects.specs.Effects.{Shows}
use Rattle.data_effects.specs.EffectLaws.{does-stay, does-change, shows-read, shows-then, shown, same-trans, turns-write, turns-then, under-now}
use Rattle.data_tree.proofs.ShapeWalks.{cell-inside}
use Rattle.data_tree.specs.Trees.{pool, IsTree, position_of, leftmost, spliced, retagged, tag_at, left_at, right_at, removed_in}
use Rattle.data_tree.proofs.TreeEffects.{Opened, absent-stays, removed-right, removed-left, removed-both, removal-keeps, least-some}
use Rattle.data_tree.proofs.tree.Tree.remove.Goals.{In_ok-greater}
use Rattle.data_tree.proofs.tree.Tree.remove.Goals as goal

pub returns-then-position-key-clause-reply : goal.returns-then-position-key-clause-reply
returns-then-position-key-clause-reply g c =
    let r = c.args.self.now in
    let s = c.in_ok-position.position in
    let one = c.in_ok-position.ensures in
    let t = c.if-position-key.true in
    let f = c.ranges.key in
    let small : c.args.key < 2 ^ 32 = omega arith in
    let n : s.tag ≢ c.args.key + 1 = λ e. absurd (omega arith) in
    does-stay (g.A.Access.good c.args.acc.now) (g.A.Access.words c.args.acc.now) (g.A.Access.log c.args.acc.now) (removed_in r c.args.key) _ false (IsTree r) c.requires.well one.writes
    (λ m. s ≡ position_of r m c.args.key) one.finds (λ m w e. absent-stays r m c.args.key w small s e n)

-- WITH THE KEY FOUND, its cell's links read
small-key : (g : _) (c : In_ok-greater g) → c.args.key < 2 ^ 32
small-key g c = let f = c.ranges.key in omega arith

tag-is : (g : _) (c : In_ok-greater g) → c.in_ok-position.position.tag ≡ c.args.key + 1
tag-is g c = let t = c.if-position-key.false in omega arith

next-is : (g : _) (c : In_ok-greater g) → c.in_ok-position.position.next ≡ suc (c.in_ok-position.position.next - 1)
next-is g c =
    let t = tag-is g c in
    let pos : c.in_ok-position.position.next ≢ 0 = λ z. (let y = c.in_ok-position.ensures.inside.2 z in absurd (omega arith)) in omega arith

opened : (g : _) (c : In_ok-greater g) → Shows (g.A.Access.good c.args.acc.now) (g.A.Access.words c.args.acc.now) (g.A.Access.log c.args.acc.now) (g.A.Access.log c.read-2.new.self)
    (Opened c.args.self.now c.args.key c.in_ok-position.position c.in_ok-lesser.lesser c.in_ok-greater.greater)
opened g c =
    let good = g.A.Access.good c.args.acc.now in
    let words = g.A.Access.words c.args.acc.now in
    let log = g.A.Access.log c.args.acc.now in
    let r = c.args.self.now in
    let s = c.in_ok-position.position in
    let i = s.next - 1 in
    let one = c.in_ok-position.ensures in
    let two = c.in_ok-lesser.ensures in
    let e = next-is g c in
    let in' = one.inside in
    let lies = c.requires.within in
    let P = λ (m : List ℕ). (s ≡ position_of r m c.args.key) × (c.in_ok-lesser.lesser ≡ get_or m (left_at r i) 0) in
    let q1 = shows-read good words log _ _ (λ m. s ≡ position_of r m c.args.key) P (left_at r i) c.in_ok-lesser.lesser one.finds one.writes (omega arith) two.value (λ m h x. (h, x)) in
    shows-read good words log _ _ P (Opened r c.args.key s c.in_ok-lesser.lesser c.in_ok-greater.greater) (right_at r i)
    c.in_ok-greater.greater q1 (two.value.0 ∙ one.writes) (omega arith) c.in_ok-greater.ensures.value (λ m h x.
    record { place = h.0; left = h.1; right = x })

opened-writes : (g : _) (c : In_ok-greater g) → (g.A.Access.log c.read-2.new.self).writes ≡ (g.A.Access.log c.args.acc.now).writes
opened-writes g c = c.in_ok-greater.ensures.value.0 ∙ (c.in_ok-lesser.ensures.value.0 ∙ c.in_ok-position.ensures.writes)

opened-good : (g : _) (c : In_ok-greater g) → SameMemories (g.A.Access.good c.args.acc.now) (g.A.Access.good c.read-2.new.self)
opened-good g c = same-trans _ _ _ c.in_ok-position.ensures.frame.good (same-trans _ _ _ c.in_ok-lesser.ensures.good c.in_ok-greater.ensures.good)

opened-words : (g : _) (c : In_ok-greater g) → g.A.Access.words c.read-2.new.self ≡ g.A.Access.words c.args.acc.now
opened-words g c = c.in_ok-greater.ensures.words ∙ (c.in_ok-lesser.ensures.words ∙ c.in_ok-position.ensures.frame.words)

opened-keeps : (g : _) (c : In_ok-greater g) → g.A.Access.keeps c.args.acc.now c.read-2.new.self
opened-keeps g c = g.met.A.Access.keeps_trans _ _ _ c.in_ok-position.ensures.frame.keeps (g.met.A.Access.keeps_trans _ _ _ c.in_ok-lesser.ensures.keeps c.in_ok-greater.ensures.keeps)

-- A CELL WITH ONE LINK AT MOST
pub returns-then-lesser-eq0-clause-reply : goal.returns-then-lesser-eq0-clause-reply
returns-then-lesser-eq0-clause-reply g c =
    let o = (goal.at.returns-then-lesser-eq0-clause-reply g c).In_ok-greater in
    let r = c.args.self.now in
    let s = c.in_ok-position.position in
    let i = s.next - 1 in
    does-change (g.A.Access.good c.args.acc.now) (g.A.Access.words c.args.acc.now) (g.A.Access.log c.args.acc.now) (removed_in r c.args.key)
    _ _ true (IsTree r) c.requires.well (opened-writes g o)
    (Opened c.args.self.now c.args.key c.in_ok-position.position c.in_ok-lesser.lesser c.in_ok-greater.greater) (opened g o)
    (spliced r i s.link c.in_ok-greater.greater) c.in_ok-splice.ensures.turns
    (λ m w h. removed-right r m c.args.key w (small-key g o) s i h.place (tag-is g o) (next-is g o) _ _ h.left c.if-lesser-eq0.true h.right)

pub returns-then-lesser-eq0-clause-well : goal.returns-then-lesser-eq0-clause-well
returns-then-lesser-eq0-clause-well g c =
    let o = (goal.at.returns-then-lesser-eq0-clause-well g c).In_ok-greater in
    let q = c.in_ok-splice.ensures in
    removal-keeps _ _ _ _ _ _ _ _ _ (small-key g o) c.requires.within.0 c.requires.well (returns-then-lesser-eq0-clause-reply g c) (same-trans _ _ _ (opened-good g o) q.frame.good) (q.frame.words ∙ opened-words g o)

pub returns-then-greater-eq0-clause-reply : goal.returns-then-greater-eq0-clause-reply
returns-then-greater-eq0-clause-reply g c =
    let o = (goal.at.returns-then-greater-eq0-clause-reply g c).In_ok-greater in
    let r = c.args.self.now in
    let s = c.in_ok-position.position in
    let i = s.next - 1 in
    let z = c.if-lesser-eq0.false in
    does-change (g.A.Access.good c.args.acc.now) (g.A.Access.words c.args.acc.now) (g.A.Access.log c.args.acc.now) (removed_in r c.args.key)
    _ _ true (IsTree r) c.requires.well (opened-writes g o)
    (Opened c.args.self.now c.args.key c.in_ok-position.position c.in_ok-lesser.lesser c.in_ok-greater.greater) (opened g o)
    (spliced r i s.link c.in_ok-lesser.lesser) c.in_ok-splice-2.ensures.turns
    (λ m w h. removed-left r m c.args.key w (small-key g o) s i h.place (tag-is g o) (next-is g o) _ _ h.left (λ x. absurd (omega arith)) h.right c.if-greater-eq0.true)

pub returns-then-greater-eq0-clause-well : goal.returns-then-greater-eq0-clause-well
returns-then-greater-eq0-clause-well g c =
    let o = (goal.at.returns-then-greater-eq0-clause-well g c).In_ok-greater in
    let q = c.in_ok-splice-2.ensures in
    removal-keeps _ _ _ _ _ _ _ _ _ (small-key g o) c.requires.within.0 c.requires.well (returns-then-greater-eq0-clause-reply g c) (same-trans _ _ _ (opened-good g o) q.frame.good) (q.frame.words ∙ opened-words g o)

-- ONE WITH TWO: the least on its right
pub leftmost-requires-clause-within : goal.leftmost-requires-clause-within
leftmost-requires-clause-within g c =
    let o = (goal.at.leftmost-requires-clause-within g c).In_ok-greater in
    let r = c.args.self.now in
    let i = c.in_ok-position.position.next - 1 in
    let e = next-is g o in
    let in' = c.in_ok-position.ensures.inside in
    let lies = c.requires.within in
    let below = shown (g.A.Access.good c.args.acc.now) (g.A.Access.words c.args.acc.now) (g.A.Access.log c.args.acc.now)
    (g.A.Access.log c.read-2.new.self) _ _ (λ m. IsTree r m × (c.in_ok-greater.greater ≡ get_or m (right_at r i) 0))
    (c.in_ok-greater.greater ≤ r.cells)
    (λ m fine len ex. (let x = opened g o m fine len ex in (x.0, (c.requires.well m fine len x.0, x.1.right)))) (opened-good g o) (opened-words g o) c.in_ok-greater.ensures.explained
    (λ m h. let le = (cell-inside (pool r) m h.0.0 i h.0.1 (omega arith)).1 in let x = h.1 in omega arith) in
    (omega arith, below, (omega arith, omega arith))

pub leftmost-requires-clause-well : goal.leftmost-requires-clause-well
leftmost-requires-clause-well g c =
    let o = (goal.at.leftmost-requires-clause-well g c).In_ok-greater in
    let h = under-now (g.A.Access.good c.args.acc.now) (g.A.Access.words c.args.acc.now) (g.A.Access.log c.args.acc.now)
    (g.A.Access.log c.read-2.new.self) (g.A.Access.good c.read-2.new.self) (g.A.Access.words c.read-2.new.self) (IsTree c.args.self.now)
    (Opened c.args.self.now c.args.key c.in_ok-position.position c.in_ok-lesser.lesser c.in_ok-greater.greater) c.requires.well (opened g o)
    (opened-writes g o) (opened-good g o) (opened-words g o) in
    λ m fine len ex. let x = h m fine len ex in record { well = x.0; at = x.1.right }

pub unreachable-requires : goal.unreachable-requires
unreachable-requires g c =
    let o = (goal.at.unreachable-requires g c).In_ok-greater in
    let r = c.args.self.now in
    let s = c.in_ok-position.position in
    let i = s.next - 1 in
    let four = c.in_ok-least.ensures in
    let p = c.in_ok-least.least in
    let least = shows-then (g.A.Access.good c.args.acc.now) (g.A.Access.words c.args.acc.now) (g.A.Access.log c.args.acc.now)
    (g.A.Access.log c.read-2.new.self) (g.A.Access.log c.leftmost.new.acc) _ _
    (Opened r c.args.key s c.in_ok-lesser.lesser c.in_ok-greater.greater) (λ m. p ≡ leftmost r m r.cells (right_at r i)) (opened g o)
    (opened-writes g o) (opened-good g o) (opened-words g o) four.finds in
    let e = next-is g o in
    let in' = c.in_ok-position.ensures.inside in
    let z = c.if-greater-eq0.false in
    let some = shown (g.A.Access.good c.args.acc.now) (g.A.Access.words c.args.acc.now) (g.A.Access.log c.args.acc.now)
    (g.A.Access.log c.leftmost.new.acc) _ _
    (λ m. IsTree r m × (Opened r c.args.key s c.in_ok-lesser.lesser c.in_ok-greater.greater m × (p ≡ leftmost r m r.cells (right_at r i))))
    (p.next ≡ 0 → ⊥)
    (λ m fine len ex. (let x = least m fine len ex in (x.0, (c.requires.well m fine len x.0, x.1)))) (same-trans _ _ _ (opened-good g o) four.frame.good) (four.frame.words ∙ opened-words g o) four.frame.explained
    (λ m h. (least-some r m c.args.key h.0 (small-key g o) s i h.1.0.place (tag-is g o) e c.in_ok-greater.greater p (omega arith) h.1.0.right (λ x. absurd (omega arith)) h.1.1).0) in
    some c.if-least-eq0.true

pub returns-clause-reply : goal.returns-clause-reply
returns-clause-reply g c =
    let o = (goal.at.returns-clause-reply g c).In_ok-greater in
    let good = g.A.Access.good c.args.acc.now in
    let words = g.A.Access.words c.args.acc.now in
    let log = g.A.Access.log c.args.acc.now in
    let r = c.args.self.now in
    let s = c.in_ok-position.position in
    let i = s.next - 1 in
    let u = c.in_ok-lesser.lesser in
    let v = c.in_ok-greater.greater in
    let four = c.in_ok-least.ensures in
    let p = c.in_ok-least.least in
    let least = shows-then (g.A.Access.good c.args.acc.now) (g.A.Access.words c.args.acc.now) (g.A.Access.log c.args.acc.now)
    (g.A.Access.log c.read-2.new.self) (g.A.Access.log c.leftmost.new.acc) _ _
    (Opened r c.args.key s c.in_ok-lesser.lesser c.in_ok-greater.greater) (λ m. p ≡ leftmost r m r.cells (right_at r i)) (opened g o)
    (opened-writes g o) (opened-good g o) (opened-words g o) four.finds in
    let y = p.next - 1 in
    let a = c.in_ok-after.after in
    let b = four.inside in
    let lies = c.requires.within in
    let np = c.if-least-eq0.false in
    let e4 : p.next ≡ suc y = omega arith in
    let z0 = c.if-lesser-eq0.false in
    let z1 = c.if-greater-eq0.false in
    let writes = four.writes ∙ opened-writes g o in
    let Q = λ (m : List ℕ). Opened r c.args.key s u v m × (p ≡ leftmost r m r.cells (right_at r i)) in
    let q = shows-read good words log _ _ Q (λ m. Q m × (a ≡ get_or m (right_at r y) 0)) (right_at r y) a least writes (omega arith) c.in_ok-after.ensures.value (λ m h x. (h, x)) in
    does-change good words log (removed_in r c.args.key) _ _ true (IsTree r) c.requires.well (c.in_ok-after.ensures.value.0 ∙ writes) (λ m. Q m × (a ≡ get_or m (right_at r y) 0)) q
    (λ m. retagged r i p.tag (spliced r y p.link a m)) (turns-then _ _ _ _ _ c.in_ok-splice-3.ensures.turns (turns-write _ _ (tag_at r i) p.tag c.in_ok-write.ensures.value))
    (λ m w h. removed-both r m c.args.key w (small-key g o) s i h.0.0.place (tag-is g o) (next-is g o) u v p y a h.0.0.left (λ x. absurd (omega arith)) h.0.0.right (λ x. absurd (omega arith)) h.0.1 e4 h.1)

pub returns-clause-well : goal.returns-clause-well
returns-clause-well g c =
    let o = (goal.at.returns-clause-well g c).In_ok-greater in
    let q3 = c.in_ok-least.ensures in
    let q4 = c.in_ok-after.ensures in
    let q5 = c.in_ok-splice-3.ensures in
    let q6 = c.in_ok-write.ensures in
    removal-keeps _ _ _ _ _ _ _ _ _ (small-key g o) c.requires.within.0 c.requires.well (returns-clause-reply g c)
    (same-trans _ _ _ (opened-good g o) (same-trans _ _ _ q3.frame.good (same-trans _ _ _ q4.good (same-trans _ _ _ q5.frame.good q6.good))))
    (q6.words ∙ (q5.frame.words ∙ (q4.words ∙ (q3.frame.words ∙ opened-words g o))))

pub returns-in_err-after-clause-frame : goal.returns-in_err-after-clause-frame
returns-in_err-after-clause-frame g c =
    let o = (goal.at.returns-in_err-after-clause-frame g c).In_ok-greater in
    let on = g.met.A.Access.keeps_trans in
    record {
      explained = search rules;
      goes = search rules;
      stops = search rules;
      good = same-trans _ _ _ (opened-good g o) (same-trans _ _ _ c.in_ok-least.ensures.frame.good c.in_err-after.ensures.good);
      words = c.in_err-after.ensures.words ∙ (c.in_ok-least.ensures.frame.words ∙ opened-words g o);
      keeps = on _ _ _ (opened-keeps g o) (on _ _ _ c.in_ok-least.ensures.frame.keeps c.in_err-after.ensures.keeps);
    }

pub returns-in_err-splice-3-clause-frame : goal.returns-in_err-splice-3-clause-frame
returns-in_err-splice-3-clause-frame g c =
    let o = (goal.at.returns-in_err-splice-3-clause-frame g c).In_ok-greater in
    let on = g.met.A.Access.keeps_trans in
    record {
      explained = search rules;
      goes = search rules;
      stops = search rules;
      good = same-trans _ _ _ (opened-good g o) (same-trans _ _ _ c.in_ok-least.ensures.frame.good (same-trans _ _ _ c.in_ok-after.ensures.good c.in_err-splice-3.ensures.frame.good));
      words = c.in_err-splice-3.ensures.frame.words ∙ (c.in_ok-after.ensures.words ∙ (c.in_ok-least.ensures.frame.words ∙ opened-words g o));
      keeps = on _ _ _ (opened-keeps g o) (on _ _ _ c.in_ok-least.ensures.frame.keeps (on _ _ _ c.in_ok-after.ensures.keeps c.in_err-splice-3.ensures.frame.keeps));
    }

pub returns-in_err-write-clause-frame : goal.returns-in_err-write-clause-frame
returns-in_err-write-clause-frame g c =
    let o = (goal.at.returns-in_err-write-clause-frame g c).In_ok-greater in
    let on = g.met.A.Access.keeps_trans in
    record {
      explained = search rules;
      goes = search rules;
      stops = search rules;
      good = same-trans _ _ _ (opened-good g o) (same-trans _ _ _ c.in_ok-least.ensures.frame.good (same-trans _ _ _ c.in_ok-after.ensures.good (same-trans _ _ _ c.in_ok-splice-3.ensures.frame.good c.in_err-write.ensures.good)));
      words = c.in_err-write.ensures.words ∙ (c.in_ok-splice-3.ensures.frame.words ∙ (c.in_ok-after.ensures.words ∙ (c.in_ok-least.ensures.frame.words ∙ opened-words g o)));
      keeps = on _ _ _ (opened-keeps g o) (on _ _ _ c.in_ok-least.ensures.frame.keeps (on _ _ _ c.in_ok-after.ensures.keeps (on _ _ _ c.in_ok-splice-3.ensures.frame.keeps c.in_err-write.ensures.keeps)));
    }

pub returns-clause-frame : goal.returns-clause-frame
returns-clause-frame g c =
    let o = (goal.at.returns-clause-frame g c).In_ok-greater in
    let on = g.met.A.Access.keeps_trans in
    record {
      explained = search rules;
      goes = search rules;
      stops = search rules;
      good = same-trans _ _ _ (opened-good g o) (same-trans _ _ _ c.in_ok-least.ensures.frame.good (same-trans _ _ _ c.in_ok-after.ensures.good (same-trans _ _ _ c.in_ok-splice-3.ensures.frame.good c.in_ok-write.ensures.good)));
      words = c.in_ok-write.ensures.words ∙ (c.in_ok-splice-3.ensures.frame.words ∙ (c.in_ok-after.ensures.words ∙ (c.in_ok-least.ensures.frame.words ∙ opened-words g o)));
      keeps = on _ _ _ (opened-keeps g o) (on _ _ _ c.in_ok-least.ensures.frame.keeps (on _ _ _ c.in_ok-after.ensures.keeps (on _ _ _ c.in_ok-splice-3.ensures.frame.keeps c.in_ok-write.ensures.keeps)));
    }
