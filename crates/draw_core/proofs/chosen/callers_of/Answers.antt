use Rattle.std.proofs.Common.{ℕ, ◌+◌, List, drop, sym, ap, ◌∙◌}
use Rattle.std.specs.Prelude.{Option}
use Rattle.work_check.specs.Grammar.{◌>>=◌}
use Rattle.draw_pictures.specs.declared.part.Callers.{Callers}
use Rattle.draw_core.specs.Chosen.{parted_by, with_words}
use Rattle.draw_core.proofs.Cutting.{words-last, words-more}
use Rattle.draw_core.proofs.chosen.callers_of.Goals as goal

pub returns-in_err-more : goal.returns-in_err-more
returns-in_err-more c =
    let s = c.loop-i.rest.now in
    let i = c.in-Some.i in
    let left = parted_by 44 (drop (i + 1) s) in
    c.from_residual.ensures
    ∙ sym (c.loop-i.invariant
    ∙ (words-more c.loop-i.callers s (drop (i + 1) s) i c.in-Some.ensures.1 c.in-Some.ensures.2
    ∙ ap (λ (o : Option Callers). o >>= λ m. with_words m left) (sym c.in_err-more.ensures)))

pub loop-i-preserved : goal.loop-i-preserved
loop-i-preserved c =
    let s = c.loop-i.rest.now in
    let i = c.in-Some.i in
    let left = parted_by 44 (drop (i + 1) s) in
    c.loop-i.invariant
    ∙ (words-more c.loop-i.callers s (drop (i + 1) s) i c.in-Some.ensures.1 c.in-Some.ensures.2
    ∙ (ap (λ (o : Option Callers). o >>= λ m. with_words m left) (sym c.in_ok-more.ensures)
    ∙ ap (λ (r : List ℕ). with_words c.in_ok-more.more (parted_by 44 r)) (sym c.past-rest.ensures)))

pub returns : goal.returns
returns c = c.with_word-2.ensures ∙ sym (c.loop-i.invariant ∙ words-last c.loop-i.callers c.loop-i.rest.now c.in_default.ensures)
