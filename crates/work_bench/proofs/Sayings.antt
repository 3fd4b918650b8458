-- What a command says is what is to be written, and what a call that is refused memory leaves of the source.
use Rattle.std.proofs.Common.{ℕ, ◌≡◌, ◌≤◌, List, Option, [], length, refl, subst, arith, rules}
use Rattle.std.specs.Prelude.{Result, Ok, Err, IfOk, OnErr, Some, None}
use Rattle.std.specs.Borrow.{Bor}
use Rattle.work_profile.specs.declared.policy.Policy.{Policy}
use Rattle.stm_rule.specs.Closings.{Ended}
use Rattle.work_cli.specs.declared.command.Command.{Command}
use Rattle.work_cli.specs.declared.command.Command.TheVariants as commands
use Rattle.work_cli.specs.Asking.{Asks, AskOnce, texts_of}
use Rattle.work_cli.specs.Helping.{help_of}
use Rattle.work_script.specs.declared.workload.Workload.{Workload}
use Rattle.work_text.specs.declared.parse.Mode.{Mode}
use Rattle.work_text.specs.Grammar.{workload_of}
use Rattle.work_bench.specs.declared.status.Status.{Status}
use Rattle.work_bench.specs.declared.status.Status.TheVariants.{Ok as Done, Help, Usage, Refused, ReadFault, WriteFault, Memory, ClockFull, No}
use Rattle.work_bench.specs.declared.commands.Saying.{Saying}
use Rattle.work_io.specs.Ends.{IsText, Took, TookSome}
use Rattle.work_bench.specs.Checks.{SaidOfApart}
use Rattle.work_bench.specs.Outcomes.{Asked, IsUnread, SaidOf, SaidOfRun, Says, SaysApart, SaysFor, Spared, most_checked, most_read}

module _ {S : Type 0} (left : S → Option (List ℕ)) (faults : S → ℕ) (source source' report report' : S) where
  no-usage : (command : Command) (closed : Option Ended) (said : List ℕ) → SaysFor left faults source source' report report' command Usage closed said → ⊥
  no-usage (commands.Run policy) closed said h = h.0
  no-usage commands.Step closed said h = h.0
  no-usage (commands.Gen n t seed) closed said h = h.0
  no-usage commands.Check closed said h = h.0
  no-usage commands.CheckWorkload closed said h = h.0
  no-usage commands.CheckApart closed said h = h

  no-write_fault : (command : Command) (closed : Option Ended) (said : List ℕ) → SaysFor left faults source source' report report' command WriteFault closed said → ⊥
  no-write_fault (commands.Run policy) closed said h = h.0
  no-write_fault commands.Step closed said h = h.0
  no-write_fault (commands.Gen n t seed) closed said h = h.0
  no-write_fault commands.Check closed said h = h.0
  no-write_fault commands.CheckWorkload closed said h = h.0
  no-write_fault commands.CheckApart closed said h = h

  no-memory : (command : Command) (closed : Option Ended) (said : List ℕ) → SaysFor left faults source source' report report' command Memory closed said → ⊥
  no-memory (commands.Run policy) closed said h = h.0
  no-memory commands.Step closed said h = h.0
  no-memory (commands.Gen n t seed) closed said h = h.0
  no-memory commands.Check closed said h = h.0
  no-memory commands.CheckWorkload closed said h = h.0
  no-memory commands.CheckApart closed said h = h

  no-help : (command : Command) (closed : Option Ended) (said : List ℕ) → SaysFor left faults source source' report report' command Help closed said → ⊥
  no-help (commands.Run policy) closed said h = h.0
  no-help commands.Step closed said h = h.0
  no-help (commands.Gen n t seed) closed said h = h.0
  no-help commands.Check closed said h = h.0
  no-help commands.CheckWorkload closed said h = h.0
  no-help commands.CheckApart closed said h = h

  module _ (words : List (Bor (List ℕ))) (command : Command) (once : AskOnce) (no_help : help_of (texts_of words) ≡ None) (asks : Asks (texts_of words) command) where
    by : (status : Status) (closed : Option Ended) (said : List ℕ) → SaysFor left faults source source' report report' command status closed said → Asked left faults source source' report report' words status closed said
    by status closed said says = record { command = command; words_are = asks; no_help = no_help; alone = λ other others. once (texts_of words) other command others asks; says = says }

    pub says-asked : (status : Status) (closed : Option Ended) (said : List ℕ) → SaysFor left faults source source' report report' command status closed said → Says left faults source source' report report' words status closed said
    says-asked Done closed said says = by Done closed said says
    says-asked Help closed said says = absurd (no-help command closed said says)
    says-asked Usage closed said says = absurd (no-usage command closed said says)
    says-asked (Refused line fault) closed said says = by (Refused line fault) closed said says
    says-asked ReadFault closed said says = by ReadFault closed said says
    says-asked WriteFault closed said says = no-write_fault command closed said says
    says-asked Memory closed said says = no-memory command closed said says
    says-asked (ClockFull clock) closed said says = by (ClockFull clock) closed said says
    says-asked (No line) closed said says = by (No line) closed said says

    pub command-asked : {E : Type 0} (r : Result Saying E) → IfOk r (λ s. SaysFor left faults source source' report report' command s.status s.closed s.text.items)
        → IfOk r (λ s. Says left faults source source' report report' words s.status s.closed s.text.items)
    command-asked (Ok s) h = says-asked s.status s.closed s.text.items h
    command-asked (Err e) h = h

-- beside what is said this holds
pub with-fact : {E : Type 0} (r : Result Saying E) (P : Saying → Type 0) (Q : Type 0) → IfOk r P → Q → IfOk r (λ s. P s × Q)
with-fact (Ok s) P Q h q = (h, q)
with-fact (Err e) P Q h q = h

pub with-two : {E : Type 0} (r : Result Saying E) (P : Saying → Type 0) (A B : Type 0) → IfOk r P → A → B → IfOk r (λ s. P s × A × B)
with-two (Ok s) P A B h a b = (h, a, b)
with-two (Err e) P A B h a b = h

-- what is said of the run of a text's workload is said of the text
module _ (m : Mode) (policy : Policy) (text : List ℕ) (w : Workload) (parses : workload_of m text ≡ Ok w) where
  said-of : (status : Status) (closed : Option Ended) (said : List ℕ) → SaidOfRun m policy w status closed said → SaidOf m policy text status closed said
  said-of Done closed said h = record { workload = w; parses = parses; run = h }
  said-of Help closed said h = h
  said-of Usage closed said h = h
  said-of (Refused line fault) closed said h = absurd h
  said-of ReadFault closed said h = h
  said-of WriteFault closed said h = h
  said-of Memory closed said h = h
  said-of (ClockFull clock) closed said h = record { workload = w; parses = parses; run = h }
  said-of (No line) closed said h = h

  pub said-of-text : {E : Type 0} (r : Result Saying E) → IfOk r (λ s. SaidOfRun m policy w s.status s.closed s.text.items) → IfOk r (λ s. SaidOf m policy text s.status s.closed s.text.items)
  said-of-text (Ok s) h = said-of s.status s.closed s.text.items h
  said-of-text (Err e) h = h

-- what is said of two texts that were read is what is to be written of their sources
module _ {S : Type 0} (left : S → Option (List ℕ)) (faults : S → ℕ) (source source' report report' : S) (text told : List ℕ)
    (read : IsText most_read (left source) text) (within : length text ≤ most_read) (taken : Took (left source) (left source') text) (calm : faults source' ≡ faults source)
    (read₂ : IsText most_checked (left report) told) (within₂ : length told ≤ most_checked) (taken₂ : Took (left report) (left report') told) (calm₂ : faults report' ≡ faults report) where
  says-apart : (status : Status) (closed : Option Ended) (said : List ℕ) → SaidOfApart text told status said → closed ≡ None → SaysApart left faults source source' report report' status closed said
  says-apart Done closed said h none = (record { text = text; read = read; within = within; taken = taken; calm = calm; of = record { text = told; read = read₂; within = within₂; taken = taken₂; calm = calm₂; of = h } }, none)
  says-apart Help closed said h none = h
  says-apart Usage closed said h none = h
  says-apart (Refused line fault) closed said h none = (record { text = text; read = read; within = within; taken = taken; calm = calm; of = record { text = told; read = read₂; within = within₂; taken = taken₂; calm = calm₂; of = h } }, none)
  says-apart ReadFault closed said h none = absurd h
  says-apart WriteFault closed said h none = h
  says-apart Memory closed said h none = h
  says-apart (ClockFull clock) closed said h none = h
  says-apart (No line) closed said h none = (record { text = text; read = read; within = within; taken = taken; calm = calm; of = record { text = told; read = read₂; within = within₂; taken = taken₂; calm = calm₂; of = h } }, none)

  says-of-both : {E : Type 0} (r : Result Saying E) → IfOk r (λ s. SaidOfApart text told s.status s.text.items) → IfOk r (λ s. s.closed ≡ None)
      → IfOk r (λ s. SaysApart left faults source source' report report' s.status s.closed s.text.items)
  says-of-both (Ok s) h none = says-apart s.status s.closed s.text.items h none
  says-of-both (Err e) h none = h

  pub both-says : {E : Type 0} (r : Result Saying E) (text' told' : List ℕ) → text' ≡ text → told' ≡ told → IfOk r (λ s. SaidOfApart text' told' s.status s.text.items) → IfOk r (λ s. s.closed ≡ None)
      → IfOk r (λ s. SaysApart left faults source source' report report' s.status s.closed s.text.items)
  both-says r text' told' is is' h none =
      says-of-both r (subst (λ t. IfOk r (λ s. SaidOfApart t told s.status s.text.items)) is (subst (λ t. IfOk r (λ s. SaidOfApart text' t s.status s.text.items)) is' h)) none

-- nothing was taken
pub took-none : (o : Option (List ℕ)) → TookSome most_checked o o
took-none None = ([], search rules, refl)
took-none (Some bytes) = ([], search rules, refl)

more : (o o' : Option (List ℕ)) → TookSome most_read o o' → TookSome most_checked o o'
more o o' t =
    let few : length t.0 ≤ 16777217 = t.1 in
    let le : length t.0 ≤ 150994945 = omega arith in
    (t.0, le, t.2)

pub took-more : {E : Type 0} (r : Result Saying E) (o o' : Option (List ℕ)) → OnErr r (TookSome most_read o o') → OnErr r (TookSome most_checked o o')
took-more (Ok s) o o' h = h
took-more (Err e) o o' h = more o o' h

-- a fact that holds anyway
pub still : {E : Type 0} (r : Result Saying E) (P Q : Type 0) → OnErr r P → Q → OnErr r Q
still (Ok s) P Q h q = h
still (Err e) P Q h q = q

abbrev pub IsNotGen : Command → Type 0
IsNotGen (commands.Run policy) = Unit {0}
IsNotGen commands.Step = Unit {0}
IsNotGen (commands.Gen n t seed) = ⊥
IsNotGen commands.Check = Unit {0}
IsNotGen commands.CheckWorkload = Unit {0}
IsNotGen commands.CheckApart = Unit {0}

-- what a command that reads leaves, where memory was refused
module _ {S : Type 0} (left : S → Option (List ℕ)) (faults : S → ℕ) (source source' report report' : S) (words : List (Bor (List ℕ))) (command : Command) (once : AskOnce) (asks : Asks (texts_of words) command) (reads : IsNotGen command) where
  pub spared-asked : {E : Type 0} (r : Result Saying E) → OnErr r (TookSome most_checked (left source) (left source')) → ((command ≡ commands.Check → ⊥) → OnErr r (TookSome most_read (left source) (left source')))
      → OnErr r (faults source' ≡ faults source) → OnErr r (TookSome most_checked (left report) (left report')) → OnErr r (faults report' ≡ faults report)
      → ((command ≡ commands.CheckApart → ⊥) → OnErr r (IsUnread left faults source source' report report')) → OnErr r (Spared left faults source source' report report' words)
  spared-asked (Ok s) lost run calm second second_calm unread = lost
  spared-asked (Err e) lost run calm second second_calm unread = record {
    lost = lost;
    run = λ no. run (λ is. no (subst (Asks (texts_of words)) is asks));
    calm = calm;
    drawn = λ n t seed draws. absurd (subst IsNotGen (once (texts_of words) command (commands.Gen n t seed) asks draws) reads);
    second = second;
    second_calm = second_calm;
    unread = λ no. unread (λ is. no (subst (Asks (texts_of words)) is asks));
  }
