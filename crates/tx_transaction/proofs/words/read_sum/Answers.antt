use Rattle.std.proofs.Common.{rules, ℕ, ◌≡◌, ◌∙◌, ◌%◌, ◌^◌, sum, arith, subst}
use Rattle.std.proofs.lemmas.List.Sums.{sum_by_push}
use Rattle.data_effects.specs.EffectLaws.{same-trans}
use Rattle.tx_transaction.specs.Words.{RangeRead}
use Rattle.tx_transaction.specs.WordLaws.{range-found}
use Rattle.tx_transaction.proofs.LoopLaws.{range-next}
use Rattle.tx_transaction.proofs.words.read_sum.Goals as goal

pub loop-a-preserved : goal.loop-a-preserved
loop-a-preserved g c =
    let was = c.loop-a.invariant in
    let one = c.in_ok-value.ensures in
    record {
      going = one.goes;
      words = one.words ∙ was.words;
      good = same-trans _ _ _ was.good one.good;
      keeps = g.met.A.Access.keeps_trans _ _ _ was.keeps one.keeps;
      explained = λ some. one.explained;
      read = range-next _ was.read (let low = c.loop-a-test.true in let within = c.requires.within in omega arith) one.value
          (λ vs is. let more = sum_by_push (λ (x : ℕ). x) vs c.in_ok-value.value in omega arith);
    }

pub returns-clause-read : goal.returns-clause-read
returns-clause-read g c =
    let past = c.loop-a-test.false in
    let within = c.requires.within in
    let upto = c.loop-a.auto.a-end in
    let is : c.loop-a.a ≡ c.args.range.end = omega arith in
    subst (λ (end : ℕ). RangeRead (g.A.Access.words c.args.memory.now) (g.A.Access.log c.args.memory.now) c.args.range.start end (λ vs. c.loop-a.sum ≡ sum vs % 2 ^ 64) (g.A.Access.log c.loop-a.memory)) is
    c.loop-a.invariant.read

pub returns-clause-found : goal.returns-clause-found
returns-clause-found g c =
    let all = c.loop-a.invariant in
    range-found (returns-clause-read g c) (all.explained (let past = c.loop-a-test.false in let within = c.requires.within in omega arith)) all.good all.words

pub returns-clause-frame : goal.returns-clause-frame
returns-clause-frame g c =
    let all = c.loop-a.invariant in
    record {
      explained = all.explained (let past = c.loop-a-test.false in let within = c.requires.within in omega arith);
      goes = all.going;
      stops = search rules;
      good = all.good;
      words = all.words;
      keeps = all.keeps;
    }
