use Rattle.std.proofs.Common.{rules, ◌≡◌, ◌≢◌, ◌<◌, ◌+◌, ◌-◌, ◌%◌, ◌^◌, ◌∙◌, ℕ, List, refl, sym, subst, ap, set, length, get_or, arith, suc, true}
use Rattle.stm_model.specs.Overlays.{overlay-length}
use Rattle.data_effects.specs.Effects.{Shows, changed}
use Rattle.data_effects.specs.EffectLaws.{shows-read, shows-then, shown, turns-write, turns-then, same-trans}
use Rattle.data_tree.specs.Shapes.{top}
use Rattle.data_sums.specs.Sums.{IsSumMap, HasRight, LinksFrom, tag_at, right_at, value_at, leftmost, spliced, mended, mended_in, step_to, least_taken}
use Rattle.data_sums.proofs.SumWalks.{Walks, walks-shown, walks-turns, walks-does, walks-end, wrote-here}
use Rattle.data_sums.proofs.SumTakes.{Leaving, Taking, valued, least-facts, taking-links, taking-is}
use Rattle.data_sums.proofs.sum_map.SumMap.take_least.Goals.{In_ok-least, In_ok-value, In_ok-write-2, In_ok-write-3}
use Rattle.data_sums.proofs.sum_map.SumMap.take_least.Goals as goal

pub leftmost-requires-clause-well : goal.leftmost-requires-clause-well
leftmost-requires-clause-well g c = λ m fine len ex. let h = c.requires.well m fine len ex in record { well = (h.well.0, h.well.1.shape); at = h.right }

found : (g : _) (c : In_ok-least g)
    → Shows (g.A.Access.good c.args.acc.now) (g.A.Access.words c.args.acc.now) (g.A.Access.log c.args.acc.now)
    (g.A.Access.log c.leftmost.new.acc)
    (Leaving c.args.self.now (g.A.Access.words c.args.acc.now) c.args.cell c.args.greater c.in_ok-least.least)
found g c =
    let good = g.A.Access.good c.args.acc.now in
    let words = g.A.Access.words c.args.acc.now in
    let log = g.A.Access.log c.args.acc.now in
    let r = c.args.self.now in
    let x = c.args.cell in
    λ m fine len ex.
    let h = shows-then good words log log (g.A.Access.log c.leftmost.new.acc) good words
    (λ m. HasRight r x c.args.greater m × (length m ≡ words)) (λ m. c.in_ok-least.least ≡ leftmost r m r.cells (right_at r x))
    (λ m fine len ex. (ex, (c.requires.well m fine len ex, overlay-length m log.writes ∙ len))) refl (λ m. ((λ h. h), (λ h. h))) refl
    c.in_ok-least.ensures.finds m fine len ex in (h.0, record { right = h.1.0.0; long = h.1.0.1; place = h.1.1 })

facts : (g : _) (c : In_ok-least g) → (c.in_ok-least.least.next ≢ 0) × (0 < c.in_ok-least.least.tag) × (c.in_ok-least.least.tag < top)
facts g c =
    let one = c.in_ok-least.ensures in
    shown (g.A.Access.good c.args.acc.now) (g.A.Access.words c.args.acc.now) (g.A.Access.log c.args.acc.now)
    (g.A.Access.log c.leftmost.new.acc) _ _
    (Leaving c.args.self.now (g.A.Access.words c.args.acc.now) c.args.cell c.args.greater c.in_ok-least.least) _ (found g c) one.frame.good
    one.frame.words one.frame.explained
    (λ m h. least-facts c.args.self.now m c.args.cell c.args.greater c.in_ok-least.least h.right c.requires.within.1 h.place)

pub unreachable-requires : goal.unreachable-requires
unreachable-requires g c = (facts g (goal.at.unreachable-requires g c).In_ok-least).0 c.if-least-eq0.true

next-is : (n : ℕ) → n ≢ 0 → n ≡ suc (n - 1)
next-is n d = omega arith

-- all that is read
read-all : (g : _) (c : In_ok-value g)
    → Shows (g.A.Access.good c.args.acc.now) (g.A.Access.words c.args.acc.now) (g.A.Access.log c.args.acc.now)
    (g.A.Access.log c.leftmost.new.acc)
    (Leaving c.args.self.now (g.A.Access.words c.args.acc.now) c.args.cell c.args.greater c.in_ok-least.least)
    → Shows (g.A.Access.good c.args.acc.now) (g.A.Access.words c.args.acc.now) (g.A.Access.log c.args.acc.now)
    (g.A.Access.log c.read-2.new.self) (Taking c.args.self.now (g.A.Access.words c.args.acc.now) c.args.cell c.in_ok-least.least
    (c.in_ok-least.least.next - 1) c.in_ok-after.after c.in_ok-value.value)
read-all g c least =
    let good = g.A.Access.good c.args.acc.now in
    let words = g.A.Access.words c.args.acc.now in
    let log = g.A.Access.log c.args.acc.now in
    let r = c.args.self.now in
    let x = c.args.cell in
    let p = c.in_ok-least.least in
    let y = p.next - 1 in
    let a = c.in_ok-after.after in
    let b = c.in_ok-value.value in
    let one = c.in_ok-least.ensures in
    let two = c.in_ok-after.ensures in
    let three = c.in_ok-value.ensures in
    let most = one.inside.1 in
    let z = c.if-least-eq0.false in
    let w = c.requires.within.3.0 in
    let P = λ (m : List ℕ). Leaving r words x c.args.greater p m in
    let q1 = shows-read good words log (g.A.Access.log c.leftmost.new.acc) (g.A.Access.log c.read.new.self) P
    (λ m. P m × (a ≡ get_or m (right_at r y) 0)) (right_at r y) a least one.writes (omega arith) two.value (λ m h i. (h, i)) in
    shows-read good words log (g.A.Access.log c.read.new.self) (g.A.Access.log c.read-2.new.self)
    (λ m. P m × (a ≡ get_or m (right_at r y) 0)) (Taking r words x p y a b) (value_at r y) b q1 (two.value.0 ∙ one.writes) (omega arith)
    three.value
    (λ m h i. record { well = h.0.right.well; long = h.0.long; used = h.0.right.used; none = h.0.right.none; place = h.0.place; after = h.1; held = i })

written : (g : _) (c : In_ok-write-2 g)
    → Shows (g.A.Access.good c.args.acc.now) (g.A.Access.words c.args.acc.now) (g.A.Access.log c.args.acc.now)
    (g.A.Access.log c.read-2.new.self) (Taking c.args.self.now (g.A.Access.words c.args.acc.now) c.args.cell c.in_ok-least.least
    (c.in_ok-least.least.next - 1) c.in_ok-after.after c.in_ok-value.value)
    → Walks (g.A.Access.good c.args.acc.now) (g.A.Access.words c.args.acc.now) (g.A.Access.log c.args.acc.now) (g.A.Access.log c.write-2.new.self)
    (λ m z.
    Taking c.args.self.now (g.A.Access.words c.args.acc.now) c.args.cell c.in_ok-least.least (c.in_ok-least.least.next - 1)
    c.in_ok-after.after c.in_ok-value.value m
    × (z ≡ valued c.args.self.now c.args.cell (c.in_ok-least.least.next - 1) c.in_ok-value.value m))
written g c reads =
    let good = g.A.Access.good c.args.acc.now in
    let words = g.A.Access.words c.args.acc.now in
    let log = g.A.Access.log c.args.acc.now in
    let r = c.args.self.now in
    let x = c.args.cell in
    let p = c.in_ok-least.least in
    let y = p.next - 1 in
    let a = c.in_ok-after.after in
    let b = c.in_ok-value.value in
    let T = λ (m : List ℕ). Taking r words x p y a b m in
    let ws = c.in_ok-value.ensures.value.0 ∙ (c.in_ok-after.ensures.value.0 ∙ c.in_ok-least.ensures.writes) in
    let w0 = walks-shown good words log (g.A.Access.log c.read-2.new.self) T (λ m z. T m × (z ≡ m)) reads ws (λ m h. (h, refl)) in
    let t = turns-then _ _ _ _ _
    (turns-write (g.A.Access.log c.read-2.new.self) (g.A.Access.log c.write.new.self) (value_at r x) b c.in_ok-write.ensures.value)
    (turns-write (g.A.Access.log c.write.new.self) (g.A.Access.log c.write-2.new.self) (value_at r y) 0 c.in_ok-write-2.ensures.value) in
    walks-turns good words log (g.A.Access.log c.read-2.new.self) (g.A.Access.log c.write-2.new.self) (λ m z. T m × (z ≡ m))
    (λ m z. T m × (z ≡ valued r x y b m)) (λ z. set (set z (value_at r x) b) (value_at r y) 0) w0 t (λ m z h.
    (h.0, ap (λ i. valued r x y b i) h.1))

pub mend-requires-clause-links : goal.mend-requires-clause-links
mend-requires-clause-links g c =
    let r = c.args.self.now in
    let words = g.A.Access.words c.args.acc.now in
    let p = c.in_ok-least.least in
    let q0 = c.in_ok-least.ensures in let q1 = c.in_ok-after.ensures in let q2 = c.in_ok-value.ensures in let q3 = c.in_ok-write.ensures in let q4 = c.in_ok-write-2.ensures in
    let same = same-trans _ _ _ q0.frame.good (same-trans _ _ _ q1.good (same-trans _ _ _ q2.good (same-trans _ _ _ q3.good q4.good))) in
    let words' = q4.words ∙ (q3.words ∙ (q2.words ∙ (q1.words ∙ q0.frame.words))) in
    λ m fine len ex. let at = goal.at.mend-requires-clause-links g c in let s = written g at.In_ok-write-2 (read-all g at.In_ok-value (found g at.In_ok-least)) m ((same m).1 fine) (len ∙ words') ex in
    subst (LinksFrom r (right_at r c.args.cell)) (sym s.1.1) (taking-links r words c.args.cell p (p.next - 1) c.in_ok-after.after
    c.in_ok-value.value _ s.1.0 (next-is p.next c.if-least-eq0.false) q2.range c.requires.within.3.0)

whole-end : (g : _) (c : In_ok-write-3 g) → Walks (g.A.Access.good c.args.acc.now) (g.A.Access.words c.args.acc.now) (g.A.Access.log c.args.acc.now) (g.A.Access.log c.write-2.new.self)
    (λ m z.
    Taking c.args.self.now (g.A.Access.words c.args.acc.now) c.args.cell c.in_ok-least.least (c.in_ok-least.least.next - 1)
    c.in_ok-after.after c.in_ok-value.value m
    × (z ≡ valued c.args.self.now c.args.cell (c.in_ok-least.least.next - 1) c.in_ok-value.value m))
    → Walks (g.A.Access.good c.args.acc.now) (g.A.Access.words c.args.acc.now) (g.A.Access.log c.args.acc.now)
    (g.A.Access.log c.write-3.new.self) (λ m z. (least_taken c.args.self.now c.args.cell m ≡ changed true z) × IsSumMap c.args.self.now z)
whole-end g c valued-now =
    let good = g.A.Access.good c.args.acc.now in
    let words = g.A.Access.words c.args.acc.now in
    let log = g.A.Access.log c.args.acc.now in
    let r = c.args.self.now in
    let x = c.args.cell in
    let p = c.in_ok-least.least in
    let y = p.next - 1 in
    let a = c.in_ok-after.after in
    let b = c.in_ok-value.value in
    let T = λ (m : List ℕ). Taking r words x p y a b m in
    let q0 = c.in_ok-least.ensures in let q1 = c.in_ok-after.ensures in let q2 = c.in_ok-value.ensures in let q3 = c.in_ok-write.ensures in let q4 = c.in_ok-write-2.ensures in let q5 = c.in_ok-mend.ensures in
    let same = same-trans _ _ _ q0.frame.good (same-trans _ _ _ q1.good (same-trans _ _ _ q2.good (same-trans _ _ _ q3.good q4.good))) in
    let words' = q4.words ∙ (q3.words ∙ (q2.words ∙ (q1.words ∙ q0.frame.words))) in
    let key = p.tag - 1 in
    let d = (0 + (2 ^ 64 - b)) % 2 ^ 64 in
    let w2 = walks-does good words log (g.A.Access.log c.write-2.new.self) (g.A.Access.log c.mend.new.acc)
    (g.A.Access.good c.write-2.new.self) (g.A.Access.words c.write-2.new.self) (λ m z. T m × (z ≡ valued r x y b m)) (λ m z.
    T m × (z ≡ mended r key (step_to b 0) r.cells (right_at r x) (valued r x y b m)))
    (mended_in r (right_at r x) key d) c.in_ok-mend.field-0 valued-now same words' q5.reply (λ m z h i. (h.0, ap (λ i. mended r key (step_to b 0) r.cells (right_at r x) i) h.1)) in
    let t = turns-then _ _ _ _ _ c.in_ok-splice.ensures.turns (turns-write (g.A.Access.log c.splice.new.acc) (g.A.Access.log c.write-3.new.self) (tag_at r x) p.tag c.in_ok-write-3.ensures.value) in
    walks-turns good words log (g.A.Access.log c.mend.new.acc) (g.A.Access.log c.write-3.new.self)
    (λ m z. T m × (z ≡ mended r key (step_to b 0) r.cells (right_at r x) (valued r x y b m)))
    (λ m z. (least_taken r x m ≡ changed true z) × IsSumMap r z) (λ z. set (spliced r y p.link a z) (tag_at r x) p.tag) w2 t
    (λ m z h. taking-is r words x p y a b m h.0 (next-is p.next c.if-least-eq0.false) q2.range c.requires.within.3.0 _ (ap (λ i. set (spliced r y p.link a i) (tag_at r x) p.tag) h.1))

pub returns-clause-reply : goal.returns-clause-reply
returns-clause-reply g c =
    let at = goal.at.returns-clause-reply g c in
    let log = g.A.Access.log c.args.acc.now in
    let t = turns-write (g.A.Access.log c.splice.new.acc) (g.A.Access.log c.write-3.new.self) (tag_at c.args.self.now c.args.cell) c.in_ok-least.least.tag c.in_ok-write-3.ensures.value in
    walks-end (g.A.Access.good c.args.acc.now) (g.A.Access.words c.args.acc.now) log (g.A.Access.log c.write-3.new.self)
    (least_taken c.args.self.now c.args.cell) true true (wrote-here log (g.A.Access.log c.write-3.new.self) true t.wrote refl)
    (λ m fine len ex.
    let p = whole-end g at.In_ok-write-3 (written g at.In_ok-write-2 (read-all g at.In_ok-value (found g at.In_ok-least))) m fine len ex in
    (p.0, p.1.0))

pub returns-clause-well : goal.returns-clause-well
returns-clause-well g c =
    let at = goal.at.returns-clause-well g c in
    let q0 = c.in_ok-least.ensures in
    let q1 = c.in_ok-after.ensures in
    let q2 = c.in_ok-value.ensures in
    let q3 = c.in_ok-write.ensures in
    let q4 = c.in_ok-write-2.ensures in
    let q5 = c.in_ok-mend.ensures in let q6 = c.in_ok-splice.ensures in let q7 = c.in_ok-write-3.ensures in
    let all = same-trans _ _ _ q0.frame.good (same-trans _ _ _ q1.good (same-trans _ _ _ q2.good (same-trans _ _ _ q3.good (same-trans _ _ _ q4.good (same-trans _ _ _ q5.frame.good (same-trans _ _ _ q6.frame.good q7.good)))))) in
    let words' = q7.words ∙ (q6.frame.words ∙ (q5.frame.words ∙ (q4.words ∙ (q3.words ∙ (q2.words ∙ (q1.words ∙ q0.frame.words)))))) in
    λ m fine len ex. (whole-end g at.In_ok-write-3 (written g at.In_ok-write-2 (read-all g at.In_ok-value (found g at.In_ok-least))) m ((all m).1 fine) (len ∙ words') ex).1.1

pub overflow_sub-key : goal.overflow_sub-key
overflow_sub-key g c =
    let f = facts g (goal.at.overflow_sub-key g c).In_ok-least in
    let f1 = f.1 in let f2 = f.2 in omega arith

pub overflow_cast-key : goal.overflow_cast-key
overflow_cast-key g c =
    let f = facts g (goal.at.overflow_cast-key g c).In_ok-least in
    let f1 = f.1 in let f2 = f.2 in omega arith

pub returns-in_err-after-clause-frame : goal.returns-in_err-after-clause-frame
returns-in_err-after-clause-frame g c =
    record {
      explained = search rules;
      goes = search rules;
      stops = search rules;
      good = same-trans _ _ _ c.in_ok-least.ensures.frame.good c.in_err-after.ensures.good;
      words = c.in_err-after.ensures.words ∙ c.in_ok-least.ensures.frame.words;
      keeps = g.met.A.Access.keeps_trans _ _ _ c.in_ok-least.ensures.frame.keeps c.in_err-after.ensures.keeps;
    }

pub returns-in_err-value-clause-frame : goal.returns-in_err-value-clause-frame
returns-in_err-value-clause-frame g c =
    record {
      explained = search rules;
      goes = search rules;
      stops = search rules;
      good = same-trans _ _ _ c.in_ok-least.ensures.frame.good (same-trans _ _ _ c.in_ok-after.ensures.good c.in_err-value.ensures.good);
      words = c.in_err-value.ensures.words ∙ (c.in_ok-after.ensures.words ∙ c.in_ok-least.ensures.frame.words);
      keeps = g.met.A.Access.keeps_trans _ _ _ c.in_ok-least.ensures.frame.keeps (g.met.A.Access.keeps_trans _ _ _ c.in_ok-after.ensures.keeps c.in_err-value.ensures.keeps);
    }

pub returns-in_err-write-clause-frame : goal.returns-in_err-write-clause-frame
returns-in_err-write-clause-frame g c =
    record {
      explained = search rules;
      goes = search rules;
      stops = search rules;
      good = same-trans _ _ _ c.in_ok-least.ensures.frame.good (same-trans _ _ _ c.in_ok-after.ensures.good (same-trans _ _ _ c.in_ok-value.ensures.good c.in_err-write.ensures.good));
      words = c.in_err-write.ensures.words ∙ (c.in_ok-value.ensures.words ∙ (c.in_ok-after.ensures.words ∙ c.in_ok-least.ensures.frame.words));
      keeps = g.met.A.Access.keeps_trans _ _ _ c.in_ok-least.ensures.frame.keeps (g.met.A.Access.keeps_trans _ _ _ c.in_ok-after.ensures.keeps (g.met.A.Access.keeps_trans _ _ _ c.in_ok-value.ensures.keeps c.in_err-write.ensures.keeps));
    }

pub returns-in_err-write-2-clause-frame : goal.returns-in_err-write-2-clause-frame
returns-in_err-write-2-clause-frame g c =
    record {
      explained = search rules;
      goes = search rules;
      stops = search rules;
      good = same-trans _ _ _ c.in_ok-least.ensures.frame.good (same-trans _ _ _ c.in_ok-after.ensures.good (same-trans _ _ _ c.in_ok-value.ensures.good (same-trans _ _ _ c.in_ok-write.ensures.good c.in_err-write-2.ensures.good)));
      words = c.in_err-write-2.ensures.words ∙ (c.in_ok-write.ensures.words ∙ (c.in_ok-value.ensures.words ∙ (c.in_ok-after.ensures.words ∙ c.in_ok-least.ensures.frame.words)));
      keeps = g.met.A.Access.keeps_trans _ _ _ c.in_ok-least.ensures.frame.keeps (g.met.A.Access.keeps_trans _ _ _ c.in_ok-after.ensures.keeps (g.met.A.Access.keeps_trans _ _ _ c.in_ok-value.ensures.keeps (g.met.A.Access.keeps_trans _ _ _ c.in_ok-write.ensures.keeps c.in_err-write-2.ensures.keeps)));
    }

pub returns-in_err-mend-clause-frame : goal.returns-in_err-mend-clause-frame
returns-in_err-mend-clause-frame g c =
    record {
      explained = search rules;
      goes = search rules;
      stops = search rules;
      good = same-trans _ _ _ c.in_ok-least.ensures.frame.good (same-trans _ _ _ c.in_ok-after.ensures.good (same-trans _ _ _ c.in_ok-value.ensures.good (same-trans _ _ _ c.in_ok-write.ensures.good (same-trans _ _ _ c.in_ok-write-2.ensures.good c.in_err-mend.ensures.frame.good))));
      words = c.in_err-mend.ensures.frame.words ∙ (c.in_ok-write-2.ensures.words ∙ (c.in_ok-write.ensures.words ∙ (c.in_ok-value.ensures.words ∙ (c.in_ok-after.ensures.words ∙ c.in_ok-least.ensures.frame.words))));
      keeps = g.met.A.Access.keeps_trans _ _ _ c.in_ok-least.ensures.frame.keeps (g.met.A.Access.keeps_trans _ _ _ c.in_ok-after.ensures.keeps (g.met.A.Access.keeps_trans _ _ _ c.in_ok-value.ensures.keeps (g.met.A.Access.keeps_trans _ _ _ c.in_ok-write.ensures.keeps (g.met.A.Access.keeps_trans _ _ _ c.in_ok-write-2.ensures.keeps c.in_err-mend.ensures.frame.keeps))));
    }

pub returns-in_err-splice-clause-frame : goal.returns-in_err-splice-clause-frame
returns-in_err-splice-clause-frame g c =
    record {
      explained = search rules;
      goes = search rules;
      stops = search rules;
      good = same-trans _ _ _ c.in_ok-least.ensures.frame.good (same-trans _ _ _ c.in_ok-after.ensures.good (same-trans _ _ _ c.in_ok-value.ensures.good (same-trans _ _ _ c.in_ok-write.ensures.good (same-trans _ _ _ c.in_ok-write-2.ensures.good (same-trans _ _ _ c.in_ok-mend.ensures.frame.good c.in_err-splice.ensures.frame.good)))));
      words = c.in_err-splice.ensures.frame.words ∙ (c.in_ok-mend.ensures.frame.words ∙ (c.in_ok-write-2.ensures.words ∙ (c.in_ok-write.ensures.words ∙ (c.in_ok-value.ensures.words ∙ (c.in_ok-after.ensures.words ∙ c.in_ok-least.ensures.frame.words)))));
      keeps = g.met.A.Access.keeps_trans _ _ _ c.in_ok-least.ensures.frame.keeps (g.met.A.Access.keeps_trans _ _ _ c.in_ok-after.ensures.keeps (g.met.A.Access.keeps_trans _ _ _ c.in_ok-value.ensures.keeps (g.met.A.Access.keeps_trans _ _ _ c.in_ok-write.ensures.keeps (g.met.A.Access.keeps_trans _ _ _ c.in_ok-write-2.ensures.keeps (g.met.A.Access.keeps_trans _ _ _ c.in_ok-mend.ensures.frame.keeps c.in_err-splice.ensures.frame.keeps)))));
    }

pub returns-in_err-write-3-clause-frame : goal.returns-in_err-write-3-clause-frame
returns-in_err-write-3-clause-frame g c =
    record {
      explained = search rules;
      goes = search rules;
      stops = search rules;
      good = same-trans _ _ _ c.in_ok-least.ensures.frame.good (same-trans _ _ _ c.in_ok-after.ensures.good (same-trans _ _ _ c.in_ok-value.ensures.good (same-trans _ _ _ c.in_ok-write.ensures.good (same-trans _ _ _ c.in_ok-write-2.ensures.good (same-trans _ _ _ c.in_ok-mend.ensures.frame.good (same-trans _ _ _ c.in_ok-splice.ensures.frame.good c.in_err-write-3.ensures.good))))));
      words = c.in_err-write-3.ensures.words ∙ (c.in_ok-splice.ensures.frame.words ∙ (c.in_ok-mend.ensures.frame.words ∙ (c.in_ok-write-2.ensures.words ∙ (c.in_ok-write.ensures.words ∙ (c.in_ok-value.ensures.words ∙ (c.in_ok-after.ensures.words ∙ c.in_ok-least.ensures.frame.words))))));
      keeps = g.met.A.Access.keeps_trans _ _ _ c.in_ok-least.ensures.frame.keeps (g.met.A.Access.keeps_trans _ _ _ c.in_ok-after.ensures.keeps (g.met.A.Access.keeps_trans _ _ _ c.in_ok-value.ensures.keeps (g.met.A.Access.keeps_trans _ _ _ c.in_ok-write.ensures.keeps (g.met.A.Access.keeps_trans _ _ _ c.in_ok-write-2.ensures.keeps (g.met.A.Access.keeps_trans _ _ _ c.in_ok-mend.ensures.frame.keeps (g.met.A.Access.keeps_trans _ _ _ c.in_ok-splice.ensures.frame.keeps c.in_err-write-3.ensures.keeps))))));
    }

pub returns-clause-frame : goal.returns-clause-frame
returns-clause-frame g c =
    record {
      explained = search rules;
      goes = search rules;
      stops = search rules;
      good = same-trans _ _ _ c.in_ok-least.ensures.frame.good (same-trans _ _ _ c.in_ok-after.ensures.good (same-trans _ _ _ c.in_ok-value.ensures.good (same-trans _ _ _ c.in_ok-write.ensures.good (same-trans _ _ _ c.in_ok-write-2.ensures.good (same-trans _ _ _ c.in_ok-mend.ensures.frame.good (same-trans _ _ _ c.in_ok-splice.ensures.frame.good c.in_ok-write-3.ensures.good))))));
      words = c.in_ok-write-3.ensures.words ∙ (c.in_ok-splice.ensures.frame.words ∙ (c.in_ok-mend.ensures.frame.words ∙ (c.in_ok-write-2.ensures.words ∙ (c.in_ok-write.ensures.words ∙ (c.in_ok-value.ensures.words ∙ (c.in_ok-after.ensures.words ∙ c.in_ok-least.ensures.frame.words))))));
      keeps = g.met.A.Access.keeps_trans _ _ _ c.in_ok-least.ensures.frame.keeps (g.met.A.Access.keeps_trans _ _ _ c.in_ok-after.ensures.keeps (g.met.A.Access.keeps_trans _ _ _ c.in_ok-value.ensures.keeps (g.met.A.Access.keeps_trans _ _ _ c.in_ok-write.ensures.keeps (g.met.A.Access.keeps_trans _ _ _ c.in_ok-write-2.ensures.keeps (g.met.A.Access.keeps_trans _ _ _ c.in_ok-mend.ensures.frame.keeps (g.met.A.Access.keeps_trans _ _ _ c.in_ok-splice.ensures.frame.keeps c.in_ok-write-3.ensures.keeps))))));
    }
