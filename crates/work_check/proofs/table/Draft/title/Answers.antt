use Rattle.std.proofs.Common.{◌∷◌, ◌∙◌, ap}
use Rattle.work_check.specs.declared.table.NextReportLine.TheVariants.{Title}
use Rattle.work_check.specs.Grammar.{step_by}
use Rattle.work_check.proofs.WordsLaws.{not-empty}
use Rattle.work_check.proofs.TableLaws.{long-title}
use Rattle.work_check.proofs.table.Draft.title.Goals as goal

pub returns-then-not-is_empty : goal.returns-then-not-is_empty
returns-then-not-is_empty c =
    ap (step_by Title c.args.self.now) (c.first_word.ensures.words ∙ ap (λ ws. c.first_word.result.0.now ∷ ws) c.in_ok-version.ensures.some)
    ∙ long-title c.args.self.now c.first_word.result.0.now c.in_ok-version.version.now c.in_ok-version.rest.now (not-empty _ _ c.is_empty.ensures c.if-not-is_empty.true)
