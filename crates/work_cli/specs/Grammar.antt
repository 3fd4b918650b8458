-- THE COMMAND LINE'S GRAMMAR: `stm_bench run [--policy P] [FILE]`, `stm_bench step [FILE]`, `stm_bench gen N T SEED`,
-- `stm_bench check [FILE [REPORT]]`.
use Rattle.std.specs.Prelude.{◌≡◌, true, false, Some, List, [], codes}
use Rattle.clap.specs.Words.{App, Rule, Text, Shape, app_of, new_app, new_rule, with_rule, with_subcommand}
use Rattle.clap.specs.Simple.{shape_of, on_top}
use Rattle.clap.specs.Faults.{fault_of}
use Rattle.clap.specs.declared.builder.command.Command.{Command}
use Rattle.clap.specs.declared.builder.command.Command.TheViews.{out-Command}

-- `--policy P`
abbrev pub policy_option : Rule
policy_option = record (new_rule (codes "policy")) { long = Some (codes "policy") }

-- a word that has to be there
abbrev pub needed : Text → Rule
needed id = record (new_rule id) { required = true }

-- a file's name, which may be there
abbrev pub file_word : Rule
file_word = new_rule (codes "FILE")

abbrev pub report_word : Rule
report_word = new_rule (codes "REPORT")

abbrev pub run_shape : Shape
run_shape = (with_rule (with_rule (new_app (codes "run")) policy_option) file_word).top

abbrev pub step_shape : Shape
step_shape = (with_rule (new_app (codes "step")) file_word).top

-- `gen N T`
abbrev pub sized_shape : Shape
sized_shape = (with_rule (with_rule (new_app (codes "gen")) (needed (codes "N"))) (needed (codes "T"))).top

abbrev pub gen_shape : Shape
gen_shape = (with_rule (with_rule (with_rule (new_app (codes "gen")) (needed (codes "N"))) (needed (codes "T"))) (needed (codes "SEED"))).top

abbrev pub check_shape : Shape
check_shape = (with_rule (with_rule (new_app (codes "check")) file_word) report_word).top

-- the commands that read the workload that they run
abbrev pub reading_app : App
reading_app =
    with_subcommand (with_subcommand
    (on_top (λ s. record s { subcommand_required = true }) (new_app (codes "stm_bench")))
    run_shape) step_shape

-- those that run a workload
abbrev pub first_app : App
first_app = with_subcommand reading_app gen_shape

abbrev pub bench_app : App
bench_app = with_subcommand first_app check_shape

-- a command of this application
abbrev pub IsAbove : App → Command → Type 0
IsAbove app c = app_of c ≡ app

-- a command of this shape that stands below another
pub record IsLeafCommand (shape : Shape) (c : Command) : Type 0 where
  pub is : shape_of c ≡ shape
  pub local : (out-Command c).has_globals ≡ false

-- clap takes the words: it finds no fault in them
abbrev pub AreTaken : List Text → Type 0
AreTaken words = fault_of bench_app words ≡ []
