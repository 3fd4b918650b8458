use Rattle.std.proofs.Common.{rules, ◌≡◌, ◌<◌, ◌≤◌, ◌+◌, ◌-◌, ◌∙◌, suc, refl, sym, subst, arith}
use Rattle.stm_model.specs.Memories.{overlay}
use Rattle.data_effects.specs.EffectLaws.{shows-none, shows-read, shows-then, shown, same-trans}
use Rattle.data_tree.proofs.ShapeWalks.{word-inside}
use Rattle.data_sums.specs.Sums.{pool, IsSumMap, passed}
use Rattle.data_sums.proofs.SumBelow.{Passing, passing-begins, passing-on, passing-ends, passing-stops}
use Rattle.data_sums.proofs.sum_map.SumMap.sum_below.Goals as goal

pub loop-step-init : goal.loop-step-init
loop-step-init g c =
    let good = g.A.Access.good c.args.acc.now in
    let words = g.A.Access.words c.args.acc.now in
    let log = g.A.Access.log c.args.acc.now in
    let r = c.args.self.now in
    let b = c.args.bound in
    let v = c.in_ok-link.link in
    let one = c.in_ok-link.ensures in
    let inside : r.at < words = (let w = c.requires.within in omega arith) in
    let q : r.cells - 0 ≡ r.cells = omega arith in
    let shows = shows-read good words log log _ (IsSumMap r) (Passing r b v 0 (r.cells - 0)) r.at v (shows-none good words log (IsSumMap r) c.requires.well) refl inside one.value
    (λ m w e. subst (λ n. Passing r b v 0 n m) (sym q) (passing-begins r b v m w e c.requires.bound.0 c.requires.bound.1)) in
    record {
      going = one.goes;
      words = one.words;
      good = one.good;
      keeps = one.keeps;
      writes = one.value.0;
      explained = one.explained;
      below = shown good words log (g.A.Access.log c.read.new.self) _ _ (Passing r b v 0 (r.cells - 0)) (v ≤ r.cells) shows one.good one.words one.explained
          (λ m h. let le = word-inside (pool r) m h.ranges h.low h.high h.address h.holds.shape h.is_link in let e = h.at in omega arith);
      shows = shows;
    }

pub returns-then-link-eq0-clause-sums : goal.returns-then-link-eq0-clause-sums
returns-then-link-eq0-clause-sums g c = λ m fine len ex.
    let s = c.loop-step.invariant.shows m fine len ex in
    (s.0, passing-ends c.args.self.now c.args.bound c.loop-step.link c.loop-step.total (c.args.self.now.cells - c.loop-step._step) _ s.1 c.if-link-eq0.true)

pub pass-requires-clause-well : goal.pass-requires-clause-well
pass-requires-clause-well g c = λ m fine len ex.
    let inv = c.loop-step.invariant in
    let s = inv.shows m ((inv.good m).1 fine) (len ∙ inv.words) ex in
    subst (λ w. IsSumMap c.args.self.now (overlay m w)) (sym inv.writes) (s.1.ranges, s.1.holds)

pub loop-step-preserved : goal.loop-step-preserved
loop-step-preserved g c =
    let good = g.A.Access.good c.args.acc.now in
    let words = g.A.Access.words c.args.acc.now in
    let log = g.A.Access.log c.args.acc.now in
    let r = c.args.self.now in
    let b = c.args.bound in
    let v = c.loop-step.link in
    let total = c.loop-step.total in
    let j = v - 1 in
    let p = c.in_ok-passed.passed in
    let n = r.cells - c.loop-step._step in
    let less = r.cells - (c.loop-step._step + 1) in
    let inv = c.loop-step.invariant in
    let one = c.in_ok-passed.ensures in
    let z = c.if-link-eq0.false in
    let s = c.loop-step-test.true in
    let e : v ≡ suc j = omega arith in
    let k : n ≡ suc less = omega arith in
    let both = shows-then good words log (g.A.Access.log c.loop-step.acc) (g.A.Access.log c.pass.new.acc) _ _ (Passing r b v total n) (λ m. p ≡ passed r m b j) inv.shows inv.writes inv.good inv.words one.passes in
    record {
      going = one.frame.goes;
      words = one.frame.words ∙ inv.words;
      good = same-trans _ _ _ inv.good one.frame.good;
      keeps = g.met.A.Access.keeps_trans _ _ _ inv.keeps one.frame.keeps;
      writes = one.writes ∙ inv.writes;
      explained = one.frame.explained;
      below = one.inside;
      shows = λ m fine len ex. let x = both m fine len ex in (x.0, passing-on r b v total j n less p _ x.1.0 e k x.1.1);
    }

pub returns-clause-sums : goal.returns-clause-sums
returns-clause-sums g c = λ m fine len ex.
    let r = c.args.self.now in
    let s = c.loop-step.invariant.shows m fine len ex in
    let t = c.loop-step-test.false in
    let q : r.cells - c.loop-step._step ≡ 0 = omega arith in
    (s.0, passing-stops r c.args.bound c.loop-step.link c.loop-step.total (r.cells - c.loop-step._step) _ s.1 q)

pub returns-in_err-passed-clause-frame : goal.returns-in_err-passed-clause-frame
returns-in_err-passed-clause-frame g c =
    record {
      explained = search rules;
      goes = search rules;
      stops = search rules;
      good = same-trans _ _ _ c.loop-step.invariant.good c.in_err-passed.ensures.frame.good;
      words = c.in_err-passed.ensures.frame.words ∙ c.loop-step.invariant.words;
      keeps = g.met.A.Access.keeps_trans _ _ _ c.loop-step.invariant.keeps c.in_err-passed.ensures.frame.keeps;
    }
