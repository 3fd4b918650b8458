use Rattle.std.proofs.Common.{Err, ◌∙◌, ◌∷◌, refl, sym, take}
use Rattle.work_text.specs.declared.code.TheConstants.{WORD}
use Rattle.work_text.specs.Grammar.{by_words}
use Rattle.work_text.specs.Lines.{lines_of}
use Rattle.work_text.specs.Reading.{Leaves}
use Rattle.work_text.proofs.ReadingLaws.{space-at, line-at, read-space, read-line, read-bad, read-end, leaves-line, on-ok, judged-same}
use Rattle.work_text.proofs.table.after_three.Goals as goal

pub returns-in-Space-clause-step : goal.returns-in-Space-clause-step
returns-in-Space-clause-step c =
    let s = c.args.text.now in
    let i = c.first_word-i.result.0 in
    let seen = c.first_word-i.ensures.visible in
    let t = c.past.result.now in
    let at = space-at c.first_word-i.result.1 i s t c.in-Space.is c.first_word-i.ensures.end c.past.ensures in
    let many = judged-same (λ ws. by_words c.args._mode c.args.draft.now (c.args.w.now ∷ c.args.a.now ∷ c.args.b.now ∷ (take c.first_word-i.result.0 c.args.text.now) ∷ ws)) (λ ws. Err WORD) (lines_of t) (λ x xs. refl) in
    sym (read-space (λ ws. by_words c.args._mode c.args.draft.now (c.args.w.now ∷ c.args.a.now ∷ c.args.b.now ∷ ws)) s i t seen at ∙ (many ∙ c.too_many.ensures))

pub returns-in-Line-clause-step : goal.returns-in-Line-clause-step
returns-in-Line-clause-step c =
    let s = c.args.text.now in
    let i = c.first_word-i.result.0 in
    let seen = c.first_word-i.ensures.visible in
    let t = c.past-in-Line.result.now in
    let at = line-at c.first_word-i.result.1 i s t c.in-Line.is c.first_word-i.ensures.end c.past-in-Line.ensures in
    c.four_words.ensures ∙ sym (read-line (λ ws. by_words c.args._mode c.args.draft.now (c.args.w.now ∷ c.args.a.now ∷ c.args.b.now ∷ ws)) s i t seen at)

pub returns-in-Line-clause-rest : goal.returns-in-Line-clause-rest
returns-in-Line-clause-rest c =
    let s = c.args.text.now in
    let i = c.first_word-i.result.0 in
    let seen = c.first_word-i.ensures.visible in
    let t = c.past-in-Line.result.now in
    let at = line-at c.first_word-i.result.1 i s t c.in-Line.is c.first_word-i.ensures.end c.past-in-Line.ensures in
    on-ok c.four_words.result (Leaves s t) (leaves-line s i t seen at)

pub returns-in-Bad-clause-step : goal.returns-in-Bad-clause-step
returns-in-Bad-clause-step c =
    sym (read-bad (λ ws. by_words c.args._mode c.args.draft.now (c.args.w.now ∷ c.args.a.now ∷ c.args.b.now ∷ ws)) c.first_word-i.result.1
    c.args.text.now c.first_word-i.result.0 c.first_word-i.ensures.visible c.in-Bad.is c.first_word-i.ensures.end)

pub returns-in-Text-clause-step : goal.returns-in-Text-clause-step
returns-in-Text-clause-step c =
    sym (read-end (λ ws. by_words c.args._mode c.args.draft.now (c.args.w.now ∷ c.args.a.now ∷ c.args.b.now ∷ ws)) c.first_word-i.result.1
    c.args.text.now c.first_word-i.result.0 c.first_word-i.ensures.visible c.in-Text.is c.first_word-i.ensures.end)
