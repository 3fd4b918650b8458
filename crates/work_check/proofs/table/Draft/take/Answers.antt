use Rattle.std.proofs.Common.{◌∙◌, ap, sym, subst}
use Rattle.work_text.specs.Lines.{words_of}
use Rattle.work_check.specs.declared.table.NextReportLine.TheVariants.{Rows, Words}
use Rattle.work_check.specs.Grammar.{Reading, Leads, step_by, one_word, one_row}
use Rattle.work_check.proofs.WordsLaws.{not-empty}
use Rattle.work_check.proofs.TableLaws.{word-line, mem-line, row-line, rows-place}
use Rattle.work_check.proofs.table.Draft.take.Goals as goal

pub returns-in-Words : goal.returns-in-Words
returns-in-Words c =
    let d = c.args.self.now in
    let place = ap (λ (x : Reading). x.place) (sym c.self.view_is) ∙ c.in-Words.is in
    let words = c.first_word.ensures.words in
    let line = word-line d c.first_word.result.0.now c.first_word.result.1.now (not-empty _ _ c.is_empty.ensures c.if-is_empty.false) in
    subst (λ o. Leads c.add_word.result o c.add_word.new.self) (sym (ap (λ p. step_by p d (words_of c.args.line.now)) place ∙ (ap (step_by Words d) words ∙ (line ∙ ap (one_word d) (sym words))))) c.add_word.ensures

pub returns-then-is : goal.returns-then-is
returns-then-is c =
    let d = c.args.self.now in
    let place = ap (λ (x : Reading). x.place) (sym c.self.view_is) ∙ rows-place c.self.inside.place c.in_default.not-Title c.in_default-place.not-After c.in_default-place-2.not-Words in
    let words = c.first_word.ensures.words in
    let line = mem-line d c.first_word.result.0.now c.first_word.result.1.now (not-empty _ _ c.is_empty.ensures c.if-is_empty.false) (sym c.is-2.ensures ∙ c.if-is.true) in
    subst (λ o. Leads c.add_word-then-is.result o c.add_word-then-is.new.self)
    (sym (ap (λ p. step_by p d (words_of c.args.line.now)) place ∙ (ap (step_by Rows d) words ∙ (line ∙ ap (one_word d) (sym words)))))
    c.add_word-then-is.ensures

pub returns-else-is : goal.returns-else-is
returns-else-is c =
    let d = c.args.self.now in
    let place = ap (λ (x : Reading). x.place) (sym c.self.view_is) ∙ rows-place c.self.inside.place c.in_default.not-Title c.in_default-place.not-After c.in_default-place-2.not-Words in
    let words = c.first_word.ensures.words in
    let line = row-line d c.first_word.result.0.now c.first_word.result.1.now (not-empty _ _ c.is_empty.ensures c.if-is_empty.false) (sym c.is-2.ensures ∙ c.if-is.false) in
    subst (λ o. Leads c.add_row.result o c.add_row.new.self) (sym (ap (λ p. step_by p d (words_of c.args.line.now)) place ∙ (ap (step_by Rows d) words ∙ (line ∙ ap (one_row d) (sym words))))) c.add_row.ensures
