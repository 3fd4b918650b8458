use Rattle.std.proofs.Common.{rules, ◌≡◌, ◌≢◌, ◌≤◌, ◌∙◌, ℕ, List, refl, sym, subst, length, get_or, arith, true}
use Rattle.stm_model.specs.Memories.{overlay}
use Rattle.stm_model.specs.Overlays.{overlay-length}
use Rattle.data_effects.specs.Effects.{Shows, changed}
use Rattle.data_effects.specs.EffectLaws.{shows-read, shown, same-trans}
use Rattle.data_tree.proofs.ShapeWalks.{cell-inside}
use Rattle.data_sums.specs.Sums.{pool, IsSumMap, HasRight, IsEmptied, left_at, right_at, least_taken, taken_in}
use Rattle.data_sums.proofs.SumWalks.{Walks, walks-end, wrote-here}
use Rattle.data_sums.proofs.SumCalls.{does-then}
use Rattle.data_sums.proofs.SumTakes.{Cutting, walks-cut, emptied-used, out-right, out-left, out-both}
use Rattle.data_sums.proofs.sum_map.SumMap.take_out.Goals.{In_ok-greater, In_ok-splice, In_ok-splice-2}
use Rattle.data_sums.proofs.sum_map.SumMap.take_out.Goals as goal

-- what is read of the cell's links
read-links : (g : _) (c : In_ok-greater g)
    → Shows (g.A.Access.good c.args.acc.now) (g.A.Access.words c.args.acc.now) (g.A.Access.log c.args.acc.now)
    (g.A.Access.log c.read-2.new.self)
    (Cutting c.args.self.now (g.A.Access.words c.args.acc.now) c.args.cell c.args.link c.in_ok-lesser.lesser c.in_ok-greater.greater)
read-links g c =
    let good = g.A.Access.good c.args.acc.now in
    let words = g.A.Access.words c.args.acc.now in
    let log = g.A.Access.log c.args.acc.now in
    let r = c.args.self.now in
    let x = c.args.cell in
    let u = c.in_ok-lesser.lesser in
    let v = c.in_ok-greater.greater in
    let w = c.requires.within in
    let P = λ (m : List ℕ). IsEmptied r x c.args.link m × (length m ≡ words) in
    let start : Shows good words log log P = λ m fine len ex. (ex, (c.requires.well m fine len ex, overlay-length m log.writes ∙ len)) in
    let q1 = shows-read good words log log (g.A.Access.log c.read.new.self) P (λ m. P m × (u ≡ get_or m (left_at r x) 0)) (left_at r x) u start refl (omega arith) c.in_ok-lesser.ensures.value (λ m h i. (h, i)) in
    shows-read good words log (g.A.Access.log c.read.new.self) (g.A.Access.log c.read-2.new.self)
    (λ m. P m × (u ≡ get_or m (left_at r x) 0)) (Cutting r words x c.args.link u v) (right_at r x) v q1 c.in_ok-lesser.ensures.value.0
    (omega arith) c.in_ok-greater.ensures.value (λ m h i. record { well = h.0.0; long = h.0.1; left = h.1; right = i })

-- NOTHING ON THE LEFT
right-out-right : (g : _) (c : In_ok-splice g)
    → Shows (g.A.Access.good c.args.acc.now) (g.A.Access.words c.args.acc.now) (g.A.Access.log c.args.acc.now)
    (g.A.Access.log c.read-2.new.self)
    (Cutting c.args.self.now (g.A.Access.words c.args.acc.now) c.args.cell c.args.link c.in_ok-lesser.lesser c.in_ok-greater.greater)
    → Walks (g.A.Access.good c.args.acc.now) (g.A.Access.words c.args.acc.now) (g.A.Access.log c.args.acc.now)
    (g.A.Access.log c.splice.new.acc) (λ m z.
    (taken_in c.args.self.now c.args.cell c.args.link m ≡ changed true z) × IsSumMap c.args.self.now z)
right-out-right g c reads =
    let w = c.requires.within in
    walks-cut (g.A.Access.good c.args.acc.now) (g.A.Access.words c.args.acc.now) (g.A.Access.log c.args.acc.now)
    (g.A.Access.log c.read-2.new.self) (g.A.Access.log c.splice.new.acc) c.args.self.now c.args.cell c.args.link c.in_ok-lesser.lesser
    c.in_ok-greater.greater c.in_ok-greater.greater reads (c.in_ok-greater.ensures.value.0 ∙ c.in_ok-lesser.ensures.value.0)
    c.in_ok-splice.ensures.turns
    (λ m h. let l = h.long in out-right c.args.self.now m c.args.cell c.args.link _ _ h.well (omega arith) h.left c.if-lesser-eq0.true h.right)

pub returns-then-lesser-eq0-clause-reply : goal.returns-then-lesser-eq0-clause-reply
returns-then-lesser-eq0-clause-reply g c =
    let at = goal.at.returns-then-lesser-eq0-clause-reply g c in
    let log = g.A.Access.log c.args.acc.now in
    walks-end (g.A.Access.good c.args.acc.now) (g.A.Access.words c.args.acc.now) log (g.A.Access.log c.splice.new.acc)
    (taken_in c.args.self.now c.args.cell c.args.link) true true
    (wrote-here log (g.A.Access.log c.splice.new.acc) true c.in_ok-splice.ensures.turns.wrote refl) (λ m fine len ex.
    let p = right-out-right g at.In_ok-splice (read-links g at.In_ok-greater) m fine len ex in (p.0, p.1.0))

pub returns-then-lesser-eq0-clause-well : goal.returns-then-lesser-eq0-clause-well
returns-then-lesser-eq0-clause-well g c =
    let at = goal.at.returns-then-lesser-eq0-clause-well g c in
    let q1 = c.in_ok-lesser.ensures in let q2 = c.in_ok-greater.ensures in let q3 = c.in_ok-splice.ensures in
    let all = same-trans _ _ _ q1.good (same-trans _ _ _ q2.good q3.frame.good) in
    λ m fine len ex. (right-out-right g at.In_ok-splice (read-links g at.In_ok-greater) m ((all m).1 fine) (len ∙ (q3.frame.words ∙ (q2.words ∙ q1.words))) ex).1.1

-- NOTHING ON THE RIGHT
left-out-left : (g : _) (c : In_ok-splice-2 g)
    → Shows (g.A.Access.good c.args.acc.now) (g.A.Access.words c.args.acc.now) (g.A.Access.log c.args.acc.now)
    (g.A.Access.log c.read-2.new.self)
    (Cutting c.args.self.now (g.A.Access.words c.args.acc.now) c.args.cell c.args.link c.in_ok-lesser.lesser c.in_ok-greater.greater)
    → Walks (g.A.Access.good c.args.acc.now) (g.A.Access.words c.args.acc.now) (g.A.Access.log c.args.acc.now)
    (g.A.Access.log c.splice-then-greater-eq0.new.acc) (λ m z.
    (taken_in c.args.self.now c.args.cell c.args.link m ≡ changed true z) × IsSumMap c.args.self.now z)
left-out-left g c reads =
    let w = c.requires.within in
    let z = c.if-lesser-eq0.false in
    walks-cut (g.A.Access.good c.args.acc.now) (g.A.Access.words c.args.acc.now) (g.A.Access.log c.args.acc.now)
    (g.A.Access.log c.read-2.new.self) (g.A.Access.log c.splice-then-greater-eq0.new.acc) c.args.self.now c.args.cell c.args.link
    c.in_ok-lesser.lesser c.in_ok-greater.greater c.in_ok-lesser.lesser reads
    (c.in_ok-greater.ensures.value.0 ∙ c.in_ok-lesser.ensures.value.0) c.in_ok-splice-2.ensures.turns
    (λ m h. let l = h.long in out-left c.args.self.now m c.args.cell c.args.link _ _ h.well (omega arith) h.left (λ i. absurd (omega arith)) h.right c.if-greater-eq0.true)

pub returns-then-greater-eq0-clause-reply : goal.returns-then-greater-eq0-clause-reply
returns-then-greater-eq0-clause-reply g c =
    let at = goal.at.returns-then-greater-eq0-clause-reply g c in
    let log = g.A.Access.log c.args.acc.now in
    walks-end (g.A.Access.good c.args.acc.now) (g.A.Access.words c.args.acc.now) log (g.A.Access.log c.splice-then-greater-eq0.new.acc)
    (taken_in c.args.self.now c.args.cell c.args.link) true true
    (wrote-here log (g.A.Access.log c.splice-then-greater-eq0.new.acc) true c.in_ok-splice-2.ensures.turns.wrote refl) (λ m fine len ex.
    let p = left-out-left g at.In_ok-splice-2 (read-links g at.In_ok-greater) m fine len ex in (p.0, p.1.0))

pub returns-then-greater-eq0-clause-well : goal.returns-then-greater-eq0-clause-well
returns-then-greater-eq0-clause-well g c =
    let at = goal.at.returns-then-greater-eq0-clause-well g c in
    let q1 = c.in_ok-lesser.ensures in let q2 = c.in_ok-greater.ensures in let q3 = c.in_ok-splice-2.ensures in
    let all = same-trans _ _ _ q1.good (same-trans _ _ _ q2.good q3.frame.good) in
    λ m fine len ex. (left-out-left g at.In_ok-splice-2 (read-links g at.In_ok-greater) m ((all m).1 fine) (len ∙ (q3.frame.words ∙ (q2.words ∙ q1.words))) ex).1.1

-- BOTH SIDES
pub take_least-requires-clause-within : goal.take_least-requires-clause-within
take_least-requires-clause-within g c =
    let good = g.A.Access.good c.args.acc.now in
    let words = g.A.Access.words c.args.acc.now in
    let log = g.A.Access.log c.args.acc.now in
    let r = c.args.self.now in
    let x = c.args.cell in
    let u = c.in_ok-lesser.lesser in
    let v = c.in_ok-greater.greater in
    let w = c.requires.within in
    let q1 = c.in_ok-lesser.ensures in let q2 = c.in_ok-greater.ensures in
    let z = c.if-greater-eq0.false in
    let most = shown good words log (g.A.Access.log c.read-2.new.self) _ _ (Cutting r words x c.args.link u v) (v ≤ r.cells)
    (read-links g (goal.at.take_least-requires-clause-within g c).In_ok-greater) (same-trans _ _ _ q1.good q2.good) (q2.words ∙ q1.words)
    q2.explained
    (λ m h. let le = (cell-inside (pool r) m h.well.well.0 x h.well.well.1.shape w.0).1 in let i = h.right in omega arith) in
    (w.0, omega arith, most, (omega arith, w.2.1))

pub take_least-requires-clause-well : goal.take_least-requires-clause-well
take_least-requires-clause-well g c = λ m fine len ex.
    let r = c.args.self.now in
    let q1 = c.in_ok-lesser.ensures in let q2 = c.in_ok-greater.ensures in
    let same = same-trans _ _ _ q1.good q2.good in
    let s = read-links g (goal.at.take_least-requires-clause-well g c).In_ok-greater m ((same m).1 fine) (len ∙ (q2.words ∙ q1.words)) ex in
    let ws = q2.value.0 ∙ q1.value.0 in
    subst (λ i. HasRight r c.args.cell c.in_ok-greater.greater (overlay m i)) (sym ws)
    (record { well = s.1.well.well; used = emptied-used r _ c.args.cell c.args.link s.1.well; none = s.1.well.none; right = s.1.right })

pub returns-clause-reply : goal.returns-clause-reply
returns-clause-reply g c =
    let good = g.A.Access.good c.args.acc.now in
    let words = g.A.Access.words c.args.acc.now in
    let log = g.A.Access.log c.args.acc.now in
    let r = c.args.self.now in
    let x = c.args.cell in
    let e = c.args.link in
    let u = c.in_ok-lesser.lesser in
    let v = c.in_ok-greater.greater in
    let q1 = c.in_ok-lesser.ensures in let q2 = c.in_ok-greater.ensures in
    let d : u ≢ 0 = (let z = c.if-lesser-eq0.false in λ i. absurd (omega arith)) in
    let f : v ≢ 0 = (let z = c.if-greater-eq0.false in λ i. absurd (omega arith)) in
    does-then good words log (g.A.Access.log c.read-2.new.self) (g.A.Access.log c.take_least.new.acc) _ _ (same-trans _ _ _ q1.good q2.good) (q2.words ∙ q1.words) (taken_in r x e) (least_taken r x) true (IsEmptied r x e)
    (Cutting r words x e u v) c.requires.well (q2.value.0 ∙ q1.value.0) (read-links g (goal.at.returns-clause-reply g c).In_ok-greater) c.in_ok-take_least.ensures.reply
    (λ m h i. out-both r m x e u v i.left d i.right f)

pub returns-clause-frame : goal.returns-clause-frame
returns-clause-frame g c =
    record {
      explained = search rules;
      goes = search rules;
      stops = search rules;
      good = same-trans _ _ _ c.in_ok-lesser.ensures.good (same-trans _ _ _ c.in_ok-greater.ensures.good c.in_ok-take_least.ensures.frame.good);
      words = c.in_ok-take_least.ensures.frame.words ∙ (c.in_ok-greater.ensures.words ∙ c.in_ok-lesser.ensures.words);
      keeps = g.met.A.Access.keeps_trans _ _ _ c.in_ok-lesser.ensures.keeps (g.met.A.Access.keeps_trans _ _ _ c.in_ok-greater.ensures.keeps c.in_ok-take_least.ensures.frame.keeps);
    }
