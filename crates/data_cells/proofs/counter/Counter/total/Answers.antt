use Rattle.std.proofs.Common.{rules, ◌≡◌, ◌+◌, ◌%◌, ◌^◌, ◌∙◌, refl, arith}
use Rattle.data_effects.specs.EffectLaws.{shows-read, does-stay, same-trans}
use Rattle.data_cells.specs.Counters.{sum_from, total_in}
use Rattle.data_cells.proofs.CounterLaws.{sum-on}
use Rattle.data_cells.proofs.counter.Counter.total.Goals as goal

pub loop-stripe-preserved : goal.loop-stripe-preserved
loop-stripe-preserved g c =
    let good = g.A.Access.good c.args.acc.now in
    let words = g.A.Access.words c.args.acc.now in
    let log = g.A.Access.log c.args.acc.now in
    let inv = c.loop-stripe.invariant in
    let one = c.in_ok-found.ensures in
    let i = c.loop-stripe.stripe in
    let at = c.args.self.now.at in
    record {
      going = one.goes;
      words = one.words ∙ inv.words;
      good = same-trans _ _ _ inv.good one.good;
      keeps = g.met.A.Access.keeps_trans _ _ _ inv.keeps one.keeps;
      writes = one.value.0 ∙ inv.writes;
      explained = λ lt. one.explained;
      shows = shows-read good words log _ _ (λ m. c.loop-stripe.total ≡ sum_from m at i % 2 ^ 64) (λ m. (c.loop-stripe.total + c.in_ok-found.found) % 2 ^ 64 ≡ sum_from m at (i + 1) % 2 ^ 64) (at + i) c.in_ok-found.found inv.shows inv.writes
          (let w = c.requires.within in let s = c.loop-stripe-test.true in omega arith) one.value (λ m p e. sum-on m at i _ _ p e);
    }

pub returns-clause-reply : goal.returns-clause-reply
returns-clause-reply g c =
    let t = c.loop-stripe-test.false in
    let e = c.loop-stripe.auto.stripe-end in
    let q : c.loop-stripe.stripe ≡ c.args.self.now.stripes = omega arith in
    let at = c.args.self.now.at in
    does-stay (g.A.Access.good c.args.acc.now) (g.A.Access.words c.args.acc.now) (g.A.Access.log c.args.acc.now) (total_in c.args.self.now) _ c.loop-stripe.total (λ m. Unit {0}) (λ m g len ex. tt) c.loop-stripe.invariant.writes
    (λ m. c.loop-stripe.total ≡ sum_from m at c.loop-stripe.stripe % 2 ^ 64) c.loop-stripe.invariant.shows (λ m p s. rw (s, q) refl)

pub returns-clause-frame : goal.returns-clause-frame
returns-clause-frame g c =
    let inv = c.loop-stripe.invariant in
    record {
      explained = inv.explained (let s = c.loop-stripe-test.false in let z = c.requires.some in omega arith);
      goes = inv.going;
      stops = search rules;
      good = inv.good;
      words = inv.words;
      keeps = inv.keeps;
    }
