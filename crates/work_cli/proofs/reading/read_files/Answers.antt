use Rattle.std.proofs.Common.{List, [], ap, ◌∙◌, subst}
use Rattle.clap.specs.Words.{Text}
use Rattle.clap.specs.Faults.{fault_of, is_simple_and_free}
use Rattle.clap.specs.Kinds.{HasKind}
use Rattle.work_cli.specs.Grammar.{bench_app, AreTaken}
use Rattle.work_cli.specs.Asking.{texts_of}
use Rattle.work_cli.proofs.TakenLaws.{is-free, no-fault}
use Rattle.work_cli.proofs.reading.read_files.Goals as goal

pub returns : goal.returns
returns c =
    let words : List Text = texts_of c.args.words.now in
    let is = c.in_ok-bench_command.ensures in
    let kinds : HasKind (fault_of bench_app words) c.in-Err.error = subst (λ a. HasKind (fault_of a words) c.in-Err.error) is (c.in-Err.ensures.kinds (ap is_simple_and_free is ∙ is-free)) in
    let no : AreTaken words → ⊥ = no-fault words c.in-Err.error kinds (λ memory. c.in_default.not-OutOfMemory (c.kind.ensures ∙ memory)) in
    record { first = λ taken. absurd (no taken); report = λ taken. absurd (no taken) }
