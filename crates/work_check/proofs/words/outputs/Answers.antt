use Rattle.std.proofs.Common.{ℕ, List, ◌∙◌, ap, sym}
use Rattle.std.specs.Prelude.{Option, Some}
use Rattle.work_check.specs.Grammar.{outputs_of}
use Rattle.work_check.proofs.WordsLaws.{replied, not-empty, left-first, marked-some}
use Rattle.work_check.proofs.words.outputs.Goals as goal

pub returns-then-is : goal.returns-then-is
returns-then-is c =
    c.loop-rest.invariant
    ∙ (ap (λ ws. replied c.loop-rest.replies.items (outputs_of ws)) (left-first c.loop-rest.rest.now c.past.result.now (not-empty _ _ c.is_empty.ensures c.loop-rest-test.true) c.past.ensures ∙ c.first_word.ensures.words)
    ∙ (marked-some c.loop-rest.replies.items c.first_word.result.0.now c.first_word.result.1.now c.in_ok-emits.emits
    (sym c.is.ensures ∙ c.if-is.true) (not-empty _ _ c.is_empty-then-is.ensures c.if-is_empty.false) c.in_ok-emits.ensures
    ∙ ap (λ (l : List ℕ). let o : Option (List ℕ × List ℕ) = Some (l, c.in_ok-emits.emits) in o) (sym c.new.ensures)))
