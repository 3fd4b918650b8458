use Rattle.std.proofs.Common.{◌∷◌, ◌∙◌, ap}
use Rattle.work_check.specs.Grammar.{memory_word_of}
use Rattle.work_check.proofs.WordsLaws.{not-empty, long-word}
use Rattle.work_check.proofs.words.memory_word.Goals as goal

pub returns-then-not-is_empty : goal.returns-then-not-is_empty
returns-then-not-is_empty c =
    ap memory_word_of (c.first_word.ensures.words ∙ ap (λ ws. c.first_word.result.0.now ∷ ws) (c.in_ok-address.ensures.some ∙ ap (λ ws. c.in_ok-address.address.now ∷ ws) c.in_ok-value.ensures.some))
    ∙ long-word c.first_word.result.0.now c.in_ok-address.address.now c.in_ok-value.value.now c.in_ok-value.rest.now (not-empty _ _ c.is_empty.ensures c.if-not-is_empty.true)
