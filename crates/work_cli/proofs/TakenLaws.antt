-- What clap's answer says of the words.
use Rattle.std.proofs.Common.{◌≡◌, ◌≢◌, true, List, Option, Some, None, refl, sym, subst, inl, inr}
use Rattle.std.specs.Prelude.{MatchOption}
use Rattle.clap.specs.Words.{Row, Text, is_simple, subcommand_of}
use Rattle.clap.specs.Faults.{fault_of, is_simple_and_free}
use Rattle.clap.specs.Kinds.{IsAmong, HasKind}
use Rattle.clap.specs.Values.{kind_of}
use Rattle.clap.specs.declared.error.Error.{Error}
use Rattle.clap.specs.declared.error.kind.ErrorKind.TheVariants.{OutOfMemory}
use Rattle.work_cli.specs.declared.command.Command.{Command}
use Rattle.work_cli.specs.Grammar.{bench_app, AreTaken}
use Rattle.work_cli.specs.Asking.{Asks, AsksIn}

pub is-simple : is_simple bench_app ≡ true
is-simple = refl

pub is-free : is_simple_and_free bench_app ≡ true
is-free = refl

-- the subcommand that clap found tells what the words ask for
pub asks-by : (words : List Text) (found : Option (Text × List Row)) (r : Option Command) → AreTaken words → found ≡ subcommand_of bench_app words
    → MatchOption r ((command : Command) → AsksIn found command → ⊥) (AsksIn found) → MatchOption r ((command : Command) → Asks words command → ⊥) (Asks words)
asks-by words found None taken e h = λ command asks. h command (subst (λ f. AsksIn f command) (sym e) asks.asks)
asks-by words found (Some command) taken e h = record { taken = taken; asks = subst (λ f. AsksIn f command) e h }

-- words that clap refuses for another reason than memory are not taken
pub not-taken : (words : List Text) (e : Error) → HasKind (fault_of bench_app words) e → kind_of e ≢ OutOfMemory → (command : Command) → Asks words command → ⊥
not-taken words e (inl memory) other command asks = other memory
not-taken words e (inr among) other command asks = subst (IsAmong (kind_of e)) asks.taken among

-- words that clap takes have no fault
pub no-fault : (words : List Text) (e : Error) → HasKind (fault_of bench_app words) e → kind_of e ≢ OutOfMemory → AreTaken words → ⊥
no-fault words e (inl memory) other taken = other memory
no-fault words e (inr among) other taken = subst (IsAmong (kind_of e)) taken among
