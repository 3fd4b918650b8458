use Rattle.std.proofs.Common.{◌+◌, ◌∷◌, ◌∙◌, ap, sym, take, drop}
use Rattle.work_check.specs.Grammar.{words_left}
use Rattle.work_text.specs.LineLaws.{words_of-one, words_of-cut}
use Rattle.work_check.proofs.words.first_word.Goals as goal

pub returns-in-None-clause-words : goal.returns-in-None-clause-words
returns-in-None-clause-words c = words_of-one c.args.line.now c.in-None.ensures

pub returns-in-Some-clause-words : goal.returns-in-Some-clause-words
returns-in-Some-clause-words c =
    let s = c.args.line.now in
    let i = c.in-Some.i in
    words_of-cut s i (drop (i + 1) s) c.in-Some.ensures.1 c.in-Some.ensures.2 ∙ ap (λ l. take i s ∷ words_left l) (sym c.in-Some.ensures.2 ∙ sym c.tail.ensures)
