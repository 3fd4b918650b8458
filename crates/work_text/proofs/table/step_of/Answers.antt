use Rattle.std.proofs.Common.{◌∙◌, sym}
use Rattle.work_text.specs.Grammar.{by_words}
use Rattle.work_text.specs.Reading.{Leaves}
use Rattle.work_text.proofs.ReadingLaws.{space-at, line-at, read-space, read-line, read-bad, read-end, leaves-line, on-ok, on-space}
use Rattle.work_text.proofs.table.step_of.Goals as goal

pub returns-in-Space-clause-step : goal.returns-in-Space-clause-step
returns-in-Space-clause-step c =
    let s = c.args.text.now in
    let i = c.first_word-i.result.0 in
    let seen = c.first_word-i.ensures.visible in
    let t = c.past.result.now in
    let at = space-at c.first_word-i.result.1 i s t c.in-Space.is c.first_word-i.ensures.end c.past.ensures in
    c.after_one.ensures.step ∙ sym (read-space (by_words c.args.mode c.args.draft.now) s i t seen at)

pub returns-in-Space-clause-rest : goal.returns-in-Space-clause-rest
returns-in-Space-clause-rest c =
    let s = c.args.text.now in
    let i = c.first_word-i.result.0 in
    let seen = c.first_word-i.ensures.visible in
    let t = c.past.result.now in
    let at = space-at c.first_word-i.result.1 i s t c.in-Space.is c.first_word-i.ensures.end c.past.ensures in
    on-space c.after_one.result.0 s i t c.after_one.result.1.now seen at c.after_one.ensures.rest

pub returns-in-Line-clause-step : goal.returns-in-Line-clause-step
returns-in-Line-clause-step c =
    let s = c.args.text.now in
    let i = c.first_word-i.result.0 in
    let seen = c.first_word-i.ensures.visible in
    let t = c.past-in-Line.result.now in
    let at = line-at c.first_word-i.result.1 i s t c.in-Line.is c.first_word-i.ensures.end c.past-in-Line.ensures in
    c.one_word.ensures ∙ sym (read-line (by_words c.args.mode c.args.draft.now) s i t seen at)

pub returns-in-Line-clause-rest : goal.returns-in-Line-clause-rest
returns-in-Line-clause-rest c =
    let s = c.args.text.now in
    let i = c.first_word-i.result.0 in
    let seen = c.first_word-i.ensures.visible in
    let t = c.past-in-Line.result.now in
    let at = line-at c.first_word-i.result.1 i s t c.in-Line.is c.first_word-i.ensures.end c.past-in-Line.ensures in
    on-ok c.one_word.result (Leaves s t) (leaves-line s i t seen at)

pub returns-in-Bad-clause-step : goal.returns-in-Bad-clause-step
returns-in-Bad-clause-step c = sym (read-bad (by_words c.args.mode c.args.draft.now) c.first_word-i.result.1 c.args.text.now c.first_word-i.result.0 c.first_word-i.ensures.visible c.in-Bad.is c.first_word-i.ensures.end)

pub returns-in-Text-clause-step : goal.returns-in-Text-clause-step
returns-in-Text-clause-step c =
    sym (read-end (by_words c.args.mode c.args.draft.now) c.first_word-i.result.1 c.args.text.now c.first_word-i.result.0
    c.first_word-i.ensures.visible c.in-Text.is c.first_word-i.ensures.end)
