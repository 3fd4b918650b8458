use Rattle.std.proofs.Common.{rules, ℕ, ◌≡◌, ◌≤◌, ◌+◌, ◌∙◌, Bool, true, false, List, [], ◌∷◌, ◌++◌, sym, ap, arith, subst}
use Rattle.std.specs.Prelude.{count_by, cond}
use Rattle.std.proofs.lemmas.List.Sums.{sum_by_push}
use Rattle.data_effects.specs.EffectLaws.{same-trans}
use Rattle.tx_transaction.specs.Words.{RangeRead}
use Rattle.tx_transaction.specs.WordLaws.{range-found}
use Rattle.tx_transaction.proofs.LoopLaws.{range-next}
use Rattle.tx_transaction.proofs.words.read_count.Goals as goal
use Rattle.tx_transaction.proofs.words.read_count.Goals.{then-test, else-test}

-- the count after one more word, by whether it passes
counts : (passes : ℕ → Bool) (v count after : ℕ) (b : Bool) → b ≡ passes v → after ≡ count + cond b 1 0 → (vs : List ℕ) → count ≡ count_by passes vs → after ≡ count_by passes (vs ++ v ∷ [])
counts passes v count after b is so vs was =
    let more : count_by passes (vs ++ v ∷ []) ≡ count_by passes vs + cond (passes v) 1 0 = sum_by_push (λ (x : ℕ). cond (passes x) 1 0) vs v in
    let here = subst (λ (t : Bool). after ≡ count + cond t 1 0) is so in
    omega arith

few-more : (b : Bool) (count after start a : ℕ) → after ≡ count + cond b 1 0 → start + count ≤ a → start + after ≤ a + 1
few-more true count after start a is few = omega arith
few-more false count after start a is few = omega arith

pub loop-a-preserved : goal.loop-a-preserved
loop-a-preserved g c =
    let was = c.loop-a.invariant in
    let one = c.in_ok-value.ensures in
    let step : (b : Bool) → c.test.result ≡ b → c.if-test.count ≡ c.loop-a.count + cond b 1 0 → c.if-test.count ≡ c.loop-a.count + cond c.test.result 1 0 = λ b is so. so ∙ ap (λ (t : Bool). c.loop-a.count + cond t 1 0) (sym is) in
    let after : c.if-test.count ≡ c.loop-a.count + cond c.test.result 1 0 =
    elim c.if-test.branch [ then-test w ↦ step true w.if-test.true w.count-is | else-test w ↦ step false w.if-test.false (let is = w.count-is in omega arith) ] in
    record {
      going = one.goes;
      words = one.words ∙ was.words;
      good = same-trans _ _ _ was.good one.good;
      keeps = g.met.A.Access.keeps_trans _ _ _ was.keeps one.keeps;
      explained = λ some. one.explained;
      few = few-more c.test.result _ _ _ _ after was.few;
      read = λ passes decides. range-next c.in_ok-value.value (was.read passes decides) (let low = c.loop-a-test.true in let within = c.requires.within in omega arith) one.value
          (counts passes c.in_ok-value.value c.loop-a.count c.if-test.count c.test.result (decides _ _ one.range c.test.ensures) after);
    }

pub returns-clause-read : goal.returns-clause-read
returns-clause-read g c passes decides =
    let past = c.loop-a-test.false in
    let within = c.requires.within in
    let upto = c.loop-a.auto.a-end in
    let is : c.loop-a.a ≡ c.args.range.end = omega arith in
    subst (λ (end : ℕ). RangeRead (g.A.Access.words c.args.memory.now) (g.A.Access.log c.args.memory.now) c.args.range.start end (λ vs. c.loop-a.count ≡ count_by passes vs) (g.A.Access.log c.loop-a.memory)) is
    (c.loop-a.invariant.read passes decides)

pub returns-clause-found : goal.returns-clause-found
returns-clause-found g c passes decides =
    let all = c.loop-a.invariant in
    range-found (returns-clause-read g c passes decides) (all.explained (let past = c.loop-a-test.false in let within = c.requires.within in omega arith)) all.good all.words

pub returns-clause-frame : goal.returns-clause-frame
returns-clause-frame g c =
    let all = c.loop-a.invariant in
    record {
      explained = all.explained (let past = c.loop-a-test.false in let within = c.requires.within in omega arith);
      goes = all.going;
      stops = search rules;
      good = all.good;
      words = all.words;
      keeps = all.keeps;
    }
