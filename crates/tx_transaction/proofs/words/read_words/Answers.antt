use Rattle.std.proofs.Common.{rules, ◌≡◌, ◌<◌, ◌∙◌, List, ℕ, length, take, get_or, sym, arith, subst, length-take-le, length-set, get_or-set_same}
use Rattle.std.proofs.lemmas.List.{take_more, take_all}
use Rattle.data_effects.specs.EffectLaws.{same-trans}
use Rattle.tx_transaction.specs.Words.{AllRead, valued}
use Rattle.tx_transaction.specs.WordLaws.{read-found}
use Rattle.tx_transaction.proofs.LoopLaws.{below-at, read-next}
use Rattle.tx_transaction.proofs.words.read_words.Goals as goal

pub read-requires-clause-within : goal.read-requires-clause-within
read-requires-clause-within g c =
    let long : length c.args.at ≡ g.row.N = search rules in
    let low = c.loop-i-test.true in
    subst (λ (n : ℕ). get_or c.args.at c.loop-i.i 0 < n) (sym c.loop-i.invariant.words) (below-at _ c.args.at c.loop-i.i c.requires.within (omega arith))

pub loop-i-preserved : goal.loop-i-preserved
loop-i-preserved g c =
    let was = c.loop-i.invariant in
    let one = c.in_ok-found.ensures in
    let long : length c.args.at ≡ g.row.N = search rules in
    let room = was.long in
    let low = c.loop-i-test.true in
    let within = below-at _ c.args.at c.loop-i.i c.requires.within (omega arith) in
    let next = read-next (take c.loop-i.i c.args.at) c.loop-i.found (get_or c.args.at c.loop-i.i 0) c.in_ok-found.field-0 c.loop-i.i was.read (length-take-le c.loop-i.i c.args.at (omega arith))
    (omega arith) within one.value (get_or-set_same c.loop-i.found c.loop-i.i c.in_ok-found.field-0 0 (omega arith)) in
    record {
      going = one.goes;
      words = one.words ∙ was.words;
      good = same-trans _ _ _ was.good one.good;
      keeps = g.met.A.Access.keeps_trans _ _ _ was.keeps one.keeps;
      explained = λ some. one.explained;
      long = length-set c.loop-i.found c.loop-i.i c.in_ok-found.field-0 ∙ room;
      read = rw (take_more c.args.at c.loop-i.i 0 (omega arith)) next;
    }

pub returns-clause-read : goal.returns-clause-read
returns-clause-read g c =
    let long : length c.args.at ≡ g.row.N = search rules in
    let past = c.loop-i-test.false in
    let all : take c.loop-i.i c.args.at ≡ c.args.at = take_all c.loop-i.i c.args.at (omega arith) in
    subst (λ (xs : List ℕ). AllRead (g.A.Access.words c.args.memory.now) (g.A.Access.log c.args.memory.now) (valued 0 xs c.loop-i.found) (g.A.Access.log c.loop-i.memory)) all c.loop-i.invariant.read

pub returns-clause-found : goal.returns-clause-found
returns-clause-found g c =
    let all = c.loop-i.invariant in
    read-found (returns-clause-read g c) (all.explained (let past = c.loop-i-test.false in let some = c.requires.some in omega arith)) all.good all.words
