use Rattle.std.proofs.Common.{◌≡◌, List, [], sym, ap, ◌∙◌, subst}
use Rattle.clap.specs.Words.{Text, is_simple, subcommand_of, subcommand_rows_of}
use Rattle.clap.specs.Faults.{fault_of, is_simple_and_free}
use Rattle.clap.specs.Kinds.{HasKind}
use Rattle.work_cli.specs.Grammar.{bench_app}
use Rattle.work_cli.specs.Asking.{texts_of}
use Rattle.work_cli.proofs.TakenLaws.{is-simple, is-free, asks-by, not-taken}
use Rattle.work_cli.proofs.reading.read_words.Goals as goal

pub returns-in-Ok : goal.returns-in-Ok
returns-in-Ok c =
    let words : List Text = texts_of c.args.words.now in
    let is = c.in_ok-bench_command.ensures in
    let taken : fault_of bench_app words ≡ [] = ap (λ a. fault_of a words) (sym is) ∙ c.in-Ok.ensures.kinds (ap is_simple_and_free is ∙ is-free) in
    let found : subcommand_rows_of c.in-Ok.matches ≡ subcommand_of bench_app words = (c.in-Ok.ensures.matches (ap is_simple is ∙ is-simple)).1 ∙ ap (λ a. subcommand_of a words) is in
    asks-by words (subcommand_rows_of c.in-Ok.matches) c.command_of.result taken found c.command_of.ensures

pub returns : goal.returns
returns c =
    let words : List Text = texts_of c.args.words.now in
    let is = c.in_ok-bench_command.ensures in
    let kinds : HasKind (fault_of bench_app words) c.in-Err.error = subst (λ a. HasKind (fault_of a words) c.in-Err.error) is (c.in-Err.ensures.kinds (ap is_simple_and_free is ∙ is-free)) in
    not-taken words c.in-Err.error kinds (λ memory. c.in_default.not-OutOfMemory (c.kind.ensures ∙ memory))
