use Rattle.std.proofs.Common.{ℕ, ◌≡◌, ◌+◌, List, [], ◌∷◌, drop, refl, sym, ap, ◌∙◌}
use Rattle.std.specs.Prelude.{Option, Some, None, option_map}
use Rattle.std.specs.Borrow.{Bor}
use Rattle.std.proofs.lemmas.List.{drop_more}
use Rattle.work_check.specs.Grammar.{◌>>=◌}
use Rattle.draw_core.specs.Asking.{Asked, Text, ask_of, asked, complete, nothing, taken_all, texts_of}
use Rattle.draw_core.proofs.asking.asked.Goals as goal

none-left : (words : List Text) → taken_all None words ≡ None
none-left [] = refl
none-left (word ∷ words) = refl

asked-none : (words : List (Bor (List ℕ))) → taken_all (Some nothing) (texts_of (drop 1 words)) ≡ None → None ≡ asked (texts_of words)
asked-none [] e = refl
asked-none (word ∷ words) e = sym (ap (λ (o : Option Asked). o >>= complete) e)

pub returns-in_err-ask : goal.returns-in_err-ask
returns-in_err-ask c =
    let words = c.args.words.now in
    let i = c.loop-i.i in
    let left = texts_of (drop (i + 1) words) in
    ap (option_map ask_of) c.from_residual.ensures
    ∙ asked-none words
    (c.loop-i.invariant
    ∙ (ap (λ (l : List (Bor (List ℕ))). taken_all (Some (ask_of c.loop-i.ask)) (texts_of l)) (drop_more words i _ c.loop-i-test.true)
    ∙ (ap (λ (o : Option Asked). taken_all o left) (sym c.in_err-ask.ensures) ∙ none-left left)))
