-- What the words of a command line ask for.
use Rattle.std.specs.Prelude.{ℕ, ◌≡◌, ◌<◌, ◌^◌, true, List, Option, Some, None, is_some, codes, map}
use Rattle.std.specs.Borrow.{Bor}
use Rattle.std.specs.Fmt.{decimal}
use Rattle.clap.specs.Words.{Row, Text, first_of, subcommand_of}
use Rattle.stm_model.specs.declared.config.TheConstants.{MAX_CALLERS}
use Rattle.work_profile.specs.declared.policy.Policy.{Policy}
use Rattle.work_profile.specs.declared.policy.Policy.TheVariants.{Fixed}
use Rattle.work_profile.specs.PolicyWords.{IsUpTo, IsWordOf}
use Rattle.work_cli.specs.declared.command.Command.{Command}
use Rattle.work_cli.specs.declared.command.Command.TheVariants.{Run, Step, Gen, Check, CheckWorkload, CheckApart}
use Rattle.work_cli.specs.declared.command.TheConstants.{MOST_TRANSACTIONS}
use Rattle.work_cli.specs.Grammar.{bench_app, AreTaken}

-- the policy that is named; fixed where none is
abbrev pub NamesPolicy : Option Text → Policy → Type 0
NamesPolicy None policy = policy ≡ Fixed
NamesPolicy (Some word) policy = IsWordOf word policy

-- the entries of `gen` name these numbers
abbrev pub IsGen : List Row → ℕ → ℕ → ℕ → Type 0
IsGen rows n t seed =
    (first_of (codes "N") rows ≡ Some (decimal n)) × IsUpTo MOST_TRANSACTIONS n
    × (first_of (codes "T") rows ≡ Some (decimal t)) × IsUpTo MAX_CALLERS t
    × (first_of (codes "SEED") rows ≡ Some (decimal seed)) × (seed < 2 ^ 64)

-- the entries of a subcommand ask for this
abbrev pub AsksBy : List Row → Command → Type 0
AsksBy rows (Run policy) = NamesPolicy (first_of (codes "policy") rows) policy
AsksBy rows Step = Unit {0}
AsksBy rows (Gen n t seed) = IsGen rows n t seed
AsksBy rows Check = (first_of (codes "REPORT") rows ≡ None) × (first_of (codes "FILE") rows ≡ None)
AsksBy rows CheckWorkload = (first_of (codes "REPORT") rows ≡ None) × (is_some (first_of (codes "FILE") rows) ≡ true)
AsksBy rows CheckApart = is_some (first_of (codes "REPORT") rows) ≡ true

abbrev pub subcommand_name : Command → Text
subcommand_name (Run policy) = codes "run"
subcommand_name Step = codes "step"
subcommand_name (Gen n t seed) = codes "gen"
subcommand_name Check = codes "check"
subcommand_name CheckWorkload = codes "check"
subcommand_name CheckApart = codes "check"

-- a subcommand and its entries, as clap finds them, ask for this
pub record AsksIn (found : Option (Text × List Row)) (command : Command) : Type 0 where
  pub rows : List Row
  pub names : found ≡ Some (subcommand_name command, rows)
  pub values : AsksBy rows command

-- the words, the first of them the program's name, ask for this
pub record Asks (words : List Text) (command : Command) : Type 0 where
  pub taken : AreTaken words
  pub asks : AsksIn (subcommand_of bench_app words) command

-- the names of the files that a subcommand and its entries give: of the text that is read first,
-- and of a report of its own
abbrev pub file_in : Option (Text × List Row) → Option Text
file_in None = None
file_in (Some found) = first_of (codes "FILE") found.1

abbrev pub report_in : Option (Text × List Row) → Option Text
report_in None = None
report_in (Some found) = first_of (codes "REPORT") found.1

-- the texts of words
abbrev pub texts_of : List (Bor (List ℕ)) → List Text
texts_of words = map (λ w. w.now) words

-- words ask for one command at most
abbrev pub AskOnce : Type 0
AskOnce = (words : List Text) (a b : Command) → Asks words a → Asks words b → a ≡ b
