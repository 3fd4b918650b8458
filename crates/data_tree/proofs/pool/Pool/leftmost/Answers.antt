use Rattle.std.proofs.Common.{rules, ◌≡◌, ◌<◌, ◌≤◌, ◌≢◌, ◌+◌, ◌-◌, ◌∙◌, suc, refl, sym, get_or, ap, arith}
use Rattle.stm_model.specs.Memories.{overlay}
use Rattle.data_effects.specs.EffectLaws.{shows-read, shown, same-trans}
use Rattle.data_tree.proofs.ShapeOrder.{cell-end}
use Rattle.data_tree.proofs.ShapeWalks.{cell-inside}
use Rattle.data_tree.proofs.ShapeLeast.{leftmost-end, leftmost-stop, leftmost-on}
use Rattle.data_tree.specs.Shapes.{leftmost, tag_at, left_at}
use Rattle.data_tree.proofs.Walking.{WalkedLeft}
use Rattle.data_tree.proofs.pool.Pool.leftmost.Goals as goal

pub loop-step-init : goal.loop-step-init
loop-step-init g c =
    let r = c.args.self.now in
    record {
      going = c.requires.going;
      words = refl;
      good = λ m. ((λ h. h), (λ h. h));
      keeps = g.met.A.Access.keeps_refl _;
      writes = refl;
      explained = c.requires.explained;
      inside = c.requires.within.0;
      below = c.requires.within.1;
      shows = λ m fine len ex. (ex, (let h = c.requires.well m fine len ex in let q : r.cells - 0 ≡ r.cells = omega arith in record { well = h.well; on = rw q refl; at = h.at }));
    }

pub returns-then-next-eq0-clause-finds : goal.returns-then-next-eq0-clause-finds
returns-then-next-eq0-clause-finds g c = λ m fine len ex.
    let r = c.args.self.now in
    let s = c.loop-step.invariant.shows m fine len ex in
    (s.0, leftmost-end r _ (r.cells - c.loop-step._step) c.loop-step.link c.loop-step.next s.1.at c.if-next-eq0.true ∙ sym s.1.on)

pub returns-then-left-eq0-clause-finds : goal.returns-then-left-eq0-clause-finds
returns-then-left-eq0-clause-finds g c =
    let good = g.A.Access.good c.args.acc.now in
    let words = g.A.Access.words c.args.acc.now in
    let log = g.A.Access.log c.args.acc.now in
    let r = c.args.self.now in
    let from = c.args.from in
    let a = c.loop-step.link in
    let v = c.loop-step.next in
    let j = v - 1 in
    let u = c.in_ok-left.left in
    let t = c.in_ok-tag.tag in
    let n = r.cells - c.loop-step._step in
    let inv = c.loop-step.invariant in
    let one = c.in_ok-left.ensures in
    let two = c.in_ok-tag.ensures in
    let z = c.if-next-eq0.false in
    let b = inv.below in
    let w = c.requires.within.2 in
    let s = c.loop-step-test.true in
    let pos : 0 < n = omega arith in
    let e : v ≡ suc j = omega arith in
    let none = c.if-left-eq0.true in
    let room = cell-end r j (omega arith) in
    let lefts = shows-read good words log _ _ (WalkedLeft r from a v n) (λ m. WalkedLeft r from a v n m × (u ≡ get_or m (left_at r j) 0)) (left_at r j) u inv.shows inv.writes (omega arith) one.value (λ m h x. (h, x)) in
    shows-read good words log _ _ (λ m. WalkedLeft r from a v n m × (u ≡ get_or m (left_at r j) 0))
    (λ m. record { link = a; next = v; tag = t } ≡ leftmost r m r.cells from) (tag_at r j) t lefts (one.value.0 ∙ inv.writes) (omega arith)
    two.value
    (λ m h x. leftmost-stop r m n a v j u t pos h.0.at e h.1 none x ∙ sym h.0.on)

pub loop-step-preserved : goal.loop-step-preserved
loop-step-preserved g c =
    let good = g.A.Access.good c.args.acc.now in
    let words = g.A.Access.words c.args.acc.now in
    let log = g.A.Access.log c.args.acc.now in
    let r = c.args.self.now in
    let from = c.args.from in
    let a = c.loop-step.link in
    let v = c.loop-step.next in
    let j = v - 1 in
    let u = c.in_ok-left.left in
    let n = r.cells - c.loop-step._step in
    let less = r.cells - (c.loop-step._step + 1) in
    let inv = c.loop-step.invariant in
    let one = c.in_ok-left.ensures in
    let z = c.if-next-eq0.false in
    let b = inv.below in
    let w = c.requires.within.2 in
    let s = c.loop-step-test.true in
    let e : v ≡ suc j = omega arith in
    let k : n ≡ suc less = omega arith in
    let in' : j < r.cells = omega arith in
    let room = cell-end r j in' in
    let other : u ≢ 0 = λ x. (let f = c.if-left-eq0.false in absurd (omega arith)) in
    let shows = shows-read good words log _ _ (WalkedLeft r from a v n) (WalkedLeft r from (left_at r j) u less) (left_at r j) u inv.shows inv.writes (omega arith) one.value
    (λ m h x. record { well = h.well; on = h.on ∙ leftmost-on r m n less a v j u k h.at e x other; at = x }) in
    let good' = same-trans _ _ _ inv.good one.good in
    let words' = one.words ∙ inv.words in
    record {
      going = one.goes;
      words = words';
      good = good';
      keeps = g.met.A.Access.keeps_trans _ _ _ inv.keeps one.keeps;
      writes = one.value.0 ∙ inv.writes;
      explained = one.explained;
      inside = omega arith;
      below = shown good words log (g.A.Access.log c.read.new.self) _ _ (WalkedLeft r from (left_at r j) u less) (u ≤ r.cells) shows good' words' one.explained
          (λ m h. let le = (cell-inside r m h.well.0 j h.well.1 in').0 in let x = h.at in omega arith);
      shows = shows;
    }

pub returns-clause-finds : goal.returns-clause-finds
returns-clause-finds g c = λ m fine len ex.
    let r = c.args.self.now in
    let s = c.loop-step.invariant.shows m fine len ex in
    let t = c.loop-step-test.false in
    let q : r.cells - c.loop-step._step ≡ 0 = omega arith in
    (s.0, sym (s.1.on ∙ ap (λ n. leftmost r (overlay m (g.A.Access.log c.args.acc.now).writes) n c.loop-step.link) q))

pub returns-in_err-left-clause-frame : goal.returns-in_err-left-clause-frame
returns-in_err-left-clause-frame g c =
    record {
      explained = search rules;
      goes = search rules;
      stops = search rules;
      good = same-trans _ _ _ c.loop-step.invariant.good c.in_err-left.ensures.good;
      words = c.in_err-left.ensures.words ∙ c.loop-step.invariant.words;
      keeps = g.met.A.Access.keeps_trans _ _ _ c.loop-step.invariant.keeps c.in_err-left.ensures.keeps;
    }

pub returns-in_err-tag-clause-frame : goal.returns-in_err-tag-clause-frame
returns-in_err-tag-clause-frame g c =
    record {
      explained = search rules;
      goes = search rules;
      stops = search rules;
      good = same-trans _ _ _ c.loop-step.invariant.good (same-trans _ _ _ c.in_ok-left.ensures.good c.in_err-tag.ensures.good);
      words = c.in_err-tag.ensures.words ∙ (c.in_ok-left.ensures.words ∙ c.loop-step.invariant.words);
      keeps = g.met.A.Access.keeps_trans _ _ _ c.loop-step.invariant.keeps (g.met.A.Access.keeps_trans _ _ _ c.in_ok-left.ensures.keeps c.in_err-tag.ensures.keeps);
    }

pub returns-then-left-eq0-clause-frame : goal.returns-then-left-eq0-clause-frame
returns-then-left-eq0-clause-frame g c =
    record {
      explained = search rules;
      goes = search rules;
      stops = search rules;
      good = same-trans _ _ _ c.loop-step.invariant.good (same-trans _ _ _ c.in_ok-left.ensures.good c.in_ok-tag.ensures.good);
      words = c.in_ok-tag.ensures.words ∙ (c.in_ok-left.ensures.words ∙ c.loop-step.invariant.words);
      keeps = g.met.A.Access.keeps_trans _ _ _ c.loop-step.invariant.keeps (g.met.A.Access.keeps_trans _ _ _ c.in_ok-left.ensures.keeps c.in_ok-tag.ensures.keeps);
    }
