use Rattle.std.proofs.Common.{rules, ◌≡◌, ◌∙◌, ℕ, length, map, get_or, arith}
use Rattle.std.proofs.lemmas.List.{length-map, take_more, get_or-map}
use Rattle.data_effects.specs.EffectLaws.{same-trans}
use Rattle.tx_transaction.proofs.LoopLaws.{below-at, write-next}
use Rattle.tx_transaction.proofs.words.write_words.Goals as goal

pub write-requires-clause-within : goal.write-requires-clause-within
write-requires-clause-within g c =
    let long : length c.args.words ≡ g.row.N = search rules in
    let low = c.loop-a-test.true in
    let i = c.loop-a.a-index in
    let many = length-map c.args.words (λ (w : ℕ × ℕ). w.0) in
    let within = below-at _ (map (λ (w : ℕ × ℕ). w.0) c.args.words) i c.requires.within (omega arith) in
    let at = get_or-map (λ (w : ℕ × ℕ). w.0) c.args.words i (0, 0) 0 (omega arith) in
    let words = c.loop-a.invariant.words in
    omega arith

pub loop-a-preserved : goal.loop-a-preserved
loop-a-preserved g c =
    let was = c.loop-a.invariant in
    let one = c.in_ok-write.ensures in
    let long : length c.args.words ≡ g.row.N = search rules in
    let low = c.loop-a-test.true in
    record {
      going = one.goes;
      words = one.words ∙ was.words;
      good = same-trans _ _ _ was.good one.good;
      keeps = g.met.A.Access.keeps_trans _ _ _ was.keeps one.keeps;
      explained = λ some. one.explained;
      wrote = rw (take_more c.args.words c.loop-a.a-index (0, 0) (omega arith)) (write-next (get_or c.args.words c.loop-a.a-index (0, 0)) was.wrote one.value);
    }
