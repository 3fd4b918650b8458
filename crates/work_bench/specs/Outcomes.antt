-- What a call of `bench` read and wrote, by the status that it answers.
use Rattle.std.specs.Prelude.{ℕ, ◌≡◌, ◌≤◌, ◌++◌, ◌⊎◌, false, length, List, Option, Some, None, Ok, Err, MatchOption}
use Rattle.std.specs.Borrow.{Bor}
use Rattle.work_profile.specs.declared.policy.Policy.{Policy}
use Rattle.work_profile.specs.declared.policy.Policy.TheVariants.{Fixed}
use Rattle.work_profile.specs.Policies.{ruling}
use Rattle.stm_rule.specs.Closings.{Ended}
use Rattle.work_io.specs.Ends.{Rose, IsText, Took, TookSome, Gained, GainedSome}
use Rattle.work_script.specs.declared.report.Report.{Report}
use Rattle.work_script.specs.declared.workload.Workload.{Workload}
use Rattle.work_text.specs.declared.parse.Mode.{Mode}
use Rattle.work_text.specs.declared.parse.Mode.TheVariants.{Run, Step as Stepwise}
use Rattle.work_text.specs.Grammar.{workload_of}
use Rattle.work_text.specs.Reports.{ReportFits, report_bytes}
use Rattle.work_bench.specs.declared.status.Status.{Status}
use Rattle.work_bench.specs.declared.status.Status.TheVariants.{Ok as Done, Help, Usage, Refused, ReadFault, WriteFault, Memory, ClockFull, No}
use Rattle.work_bench.specs.Checks.{SaidOfCheck, SaidOfAlone, SaidOfApart}
use Rattle.work_bench.specs.Messages.{help_text, usage_line, read_fault_line, refused_line, clock_full_line}
use Rattle.work_faults.specs.declared.fault.Fault.{Fault}
use Rattle.work_faults.specs.Faults.{number_of}
use Rattle.work_driver.specs.Runs.{IsShown, IsFull, IsTraced, IsCut}
use Rattle.work_trace.specs.declared.line.Line.{Line}
use Rattle.work_trace.specs.Texts.{trace_bytes}
use Rattle.work_gen.specs.Generated.{generated}
use Rattle.work_gen.specs.Summaries.{summary_bytes, summary_for, summary_of}
use Rattle.work_cli.specs.declared.command.Command.{Command}
use Rattle.work_cli.specs.declared.command.Command.TheVariants as commands
use Rattle.work_cli.specs.Asking.{Asks, texts_of}
use Rattle.work_cli.specs.Helping.{help_of}
use Rattle.work_cli.specs.declared.help.Topic.{Topic}

-- the run went to its end, and what is said is a report that replays the workload and shows the closed memory's
-- history; its numbers are words of the machine
pub record RanToEnd (policy : Policy) (w : Workload) (closed : Ended) (said : List ℕ) : Type 0 where
  pub report : Report
  pub fits : ReportFits report
  pub shown : IsShown false (ruling policy w.header.policy) w report closed
  pub is : said ≡ report_bytes report

-- the run came to a transaction at the clock's limit
pub record RanToLimit (policy : Policy) (w : Workload) (clock : ℕ) (closed : Ended) (said : List ℕ) : Type 0 where
  pub full : IsFull (ruling policy w.header.policy) w clock closed
  pub is : said ≡ clock_full_line clock

-- the run in turns went to its end, and what is said is its trace, which fits the workload and the report, and then the
-- report
pub record SteppedToEnd (w : Workload) (closed : Ended) (said : List ℕ) : Type 0 where
  pub lines : List Line
  pub report : Report
  pub traced : IsTraced w lines report closed
  pub is : said ≡ trace_bytes lines ++ report_bytes report

-- the run in turns came to a call that found the clock at its limit, and what is said is its trace so far, and then
-- that clock
pub record SteppedToLimit (w : Workload) (clock : ℕ) (closed : Ended) (said : List ℕ) : Type 0 where
  pub lines : List Line
  pub cut : IsCut w lines clock closed
  pub is : said ≡ trace_bytes lines ++ clock_full_line clock

-- what is said of a run that left this closed memory
abbrev pub SaidAtEnd : Mode → Policy → Workload → Ended → List ℕ → Type 0
SaidAtEnd Run policy w closed said = RanToEnd policy w closed said
SaidAtEnd Stepwise policy w closed said = SteppedToEnd w closed said

abbrev pub SaidAtLimit : Mode → Policy → Workload → ℕ → Ended → List ℕ → Type 0
SaidAtLimit Run policy w clock closed said = RanToLimit policy w clock closed said
SaidAtLimit Stepwise policy w clock closed said = SteppedToLimit w clock closed said

abbrev pub SaidOfRun : Mode → Policy → Workload → Status → Option Ended → List ℕ → Type 0
SaidOfRun m policy w Done closed said = MatchOption closed ⊥ (λ c. SaidAtEnd m policy w c said)
SaidOfRun m policy w (ClockFull clock) closed said = MatchOption closed ⊥ (λ c. SaidAtLimit m policy w clock c said)
SaidOfRun m policy w status closed said = ⊥

-- the text is a workload's, and this is said of its run
pub record WasRun (m : Mode) (policy : Policy) (text : List ℕ) (status : Status) (closed : Option Ended) (said : List ℕ) : Type 0 where
  pub workload : Workload
  pub parses : workload_of m text ≡ Ok workload
  pub run : SaidOfRun m policy workload status closed said

-- the text isn't a workload's; what is said is its first fault
pub record IsRefused (m : Mode) (text : List ℕ) (line : ℕ) (fault : Fault) (said : List ℕ) : Type 0 where
  pub first : workload_of m text ≡ Err (line, number_of fault)
  pub is : said ≡ refused_line line fault

-- what is said of a text that was read; without a run no closed memory is left
abbrev pub SaidOf : Mode → Policy → List ℕ → Status → Option Ended → List ℕ → Type 0
SaidOf m policy text Done closed said = WasRun m policy text Done closed said
SaidOf m policy text (Refused line fault) closed said = IsRefused m text line fault said × (closed ≡ None)
SaidOf m policy text (ClockFull clock) closed said = WasRun m policy text (ClockFull clock) closed said
SaidOf m policy text status closed said = ⊥

-- the run of the workload that is drawn went to its end, and what is said is the summary of a report that replays it
-- and shows the closed memory's history; the number of transactions alone tells which
pub record RanToSummary (n t seed : ℕ) (closed : Ended) (said : List ℕ) : Type 0 where
  pub report : Report
  pub shown : IsShown false Fixed (generated n t seed) report closed
  pub is : said ≡ summary_bytes (summary_of report)
  pub counted : summary_of report ≡ summary_for n

-- what is said of a workload that is drawn: no fault of the text, no full clock
abbrev pub SaidOfMade : ℕ → ℕ → ℕ → Status → Option Ended → List ℕ → Type 0
SaidOfMade n t seed Done closed said = MatchOption closed ⊥ (λ c. RanToSummary n t seed c said)
SaidOfMade n t seed status closed said = ⊥

-- what is left behind: the closed memory of this call's run, or what was there
abbrev pub kept : Option Ended → Option Ended → Option Ended
kept None last = last
kept (Some closed) last = Some closed

-- how many bytes a command that reads a text reads at most: one more than its texts may have
abbrev pub most_read : ℕ
most_read = 16777217

abbrev pub most_checked : ℕ
most_checked = 150994945

module _ {S : Type 0} (left : S → Option (List ℕ)) (faults : S → ℕ) (source source' : S) where
  pub record IsUntouched : Type 0 where
    pub same : left source' ≡ left source
    pub calm : faults source' ≡ faults source

  -- the source failed, and what was taken until then is gone
  pub record Unread (most : ℕ) (said : List ℕ) : Type 0 where
    pub cause : Rose (faults source) (faults source')
    pub lost : TookSome most (left source) (left source')
    pub is : said ≡ read_fault_line

  -- all that was left was read, or its first bytes, at most so many, and nothing more is gone from the source
  pub record HasRead (most : ℕ) (Of : List ℕ → Type 0) : Type 0 where
    pub text : List ℕ
    pub read : IsText most (left source) text
    pub within : length text ≤ most
    pub taken : Took (left source) (left source') text
    pub calm : faults source' ≡ faults source
    pub of : Of text

  -- what is to be written by a command that reads a workload and runs it
  abbrev pub SaysRead : Mode → Policy → Status → Option Ended → List ℕ → Type 0
  SaysRead m policy Done closed said = HasRead most_read (λ text. SaidOf m policy text Done closed said)
  SaysRead m policy (Refused line fault) closed said = HasRead most_read (λ text. SaidOf m policy text (Refused line fault) closed said)
  SaysRead m policy (ClockFull clock) closed said = HasRead most_read (λ text. SaidOf m policy text (ClockFull clock) closed said)
  SaysRead m policy ReadFault closed said = Unread most_read said × (closed ≡ None)
  SaysRead m policy status closed said = ⊥

  -- what is to be written by `check`; no closed memory is left
  abbrev pub SaysChecked : Status → Option Ended → List ℕ → Type 0
  SaysChecked Done closed said = HasRead most_checked (λ text. SaidOfCheck text Done said) × (closed ≡ None)
  SaysChecked (No line) closed said = HasRead most_checked (λ text. SaidOfCheck text (No line) said) × (closed ≡ None)
  SaysChecked (Refused line fault) closed said = HasRead most_checked (λ text. SaidOfCheck text (Refused line fault) said) × (closed ≡ None)
  SaysChecked ReadFault closed said = Unread most_checked said × (closed ≡ None)
  SaysChecked status closed said = ⊥

  -- what is to be written by `check` of a workload alone; no closed memory is left
  abbrev pub SaysAlone : Status → Option Ended → List ℕ → Type 0
  SaysAlone Done closed said = HasRead most_read (λ text. SaidOfAlone text Done said) × (closed ≡ None)
  SaysAlone (Refused line fault) closed said = HasRead most_read (λ text. SaidOfAlone text (Refused line fault) said) × (closed ≡ None)
  SaysAlone ReadFault closed said = Unread most_read said × (closed ≡ None)
  SaysAlone status closed said = ⊥

-- two sources: of the text that is read first, and of a report of its own text
module _ {S : Type 0} (left : S → Option (List ℕ)) (faults : S → ℕ) (source source' report report' : S) where
  abbrev pub IsUnread : Type 0
  IsUnread = IsUntouched left faults report report'

  -- both texts were read
  abbrev pub HasReadBoth : (List ℕ → List ℕ → Type 0) → Type 0
  HasReadBoth Of = HasRead left faults source source' most_read (λ text. HasRead left faults report report' most_checked (λ told. Of text told))

  -- one of the sources failed, the second only once the first was read
  abbrev pub OneFailed : List ℕ → Type 0
  OneFailed said =
      (Unread left faults source source' most_read said × IsUnread)
      ⊎ (HasRead left faults source source' most_read (λ text. Unit {0}) × Unread left faults report report' most_checked said)

  -- what is to be written by `check` of two texts; no closed memory is left
  abbrev pub SaysApart : Status → Option Ended → List ℕ → Type 0
  SaysApart Done closed said = HasReadBoth (λ text told. SaidOfApart text told Done said) × (closed ≡ None)
  SaysApart (No line) closed said = HasReadBoth (λ text told. SaidOfApart text told (No line) said) × (closed ≡ None)
  SaysApart (Refused line fault) closed said = HasReadBoth (λ text told. SaidOfApart text told (Refused line fault) said) × (closed ≡ None)
  SaysApart ReadFault closed said = OneFailed said × (closed ≡ None)
  SaysApart status closed said = ⊥

  -- what is to be written by each command; `gen` reads nothing
  abbrev pub SaysFor : Command → Status → Option Ended → List ℕ → Type 0
  SaysFor (commands.Run policy) status closed said = SaysRead left faults source source' Run policy status closed said × IsUnread
  SaysFor commands.Step status closed said = SaysRead left faults source source' Stepwise Fixed status closed said × IsUnread
  SaysFor (commands.Gen n t seed) status closed said = SaidOfMade n t seed status closed said × IsUntouched left faults source source' × IsUnread
  SaysFor commands.Check status closed said = SaysChecked left faults source source' status closed said × IsUnread
  SaysFor commands.CheckWorkload status closed said = SaysAlone left faults source source' status closed said × IsUnread
  SaysFor commands.CheckApart status closed said = SaysApart status closed said

  module _ (words : List (Bor (List ℕ))) where
    -- the words ask for no command, and for no help
    pub record Misused (said : List ℕ) : Type 0 where
      pub words_are : (command : Command) → Asks (texts_of words) command → ⊥
      pub no_help : help_of (texts_of words) ≡ None
      pub untouched : IsUntouched left faults source source'
      pub unread : IsUnread
      pub is : said ≡ usage_line

    -- the words ask for this help
    pub record Helped (said : List ℕ) : Type 0 where
      pub topic : Topic
      pub words_are : help_of (texts_of words) ≡ Some topic
      pub untouched : IsUntouched left faults source source'
      pub unread : IsUnread
      pub is : said ≡ help_text topic

    -- the words ask for no help, but for this command and no other, and this is to be written by it
    pub record Asked (status : Status) (closed : Option Ended) (said : List ℕ) : Type 0 where
      pub command : Command
      pub words_are : Asks (texts_of words) command
      pub no_help : help_of (texts_of words) ≡ None
      pub alone : (other : Command) → Asks (texts_of words) other → other ≡ command
      pub says : SaysFor command status closed said

    -- what is to be written by each status, and why
    abbrev pub Says : Status → Option Ended → List ℕ → Type 0
    Says Help closed said = Helped said × (closed ≡ None)
    Says Usage closed said = Misused said × (closed ≡ None)
    Says ReadFault closed said = Asked ReadFault closed said
    Says Done closed said = Asked Done closed said
    Says (Refused line fault) closed said = Asked (Refused line fault) closed said
    Says (ClockFull clock) closed said = Asked (ClockFull clock) closed said
    Says (No line) closed said = Asked (No line) closed said
    Says WriteFault closed said = ⊥
    Says Memory closed said = ⊥

    -- a call that was refused memory took at most the first 150,994,945 bytes of a source, but for `check` of one text
    -- the first 16,777,217 of the first one, and of the second one none but for `check` of two;
    -- under `gen` it took none; no take failed
    pub record Spared : Type 0 where
      pub lost : TookSome most_checked (left source) (left source')
      pub run : (Asks (texts_of words) commands.Check → ⊥) → TookSome most_read (left source) (left source')
      pub calm : faults source' ≡ faults source
      pub drawn : (n t seed : ℕ) → Asks (texts_of words) (commands.Gen n t seed) → IsUntouched left faults source source'
      pub second : TookSome most_checked (left report) (left report')
      pub second_calm : faults report' ≡ faults report
      pub unread : (Asks (texts_of words) commands.CheckApart → ⊥) → IsUnread

    module _ {K : Type 0} (held : K → Option (List ℕ)) (broken : K → ℕ) (sink sink' : K) (last last' : Option Ended) where
      -- the whole text was written, no put failed, and the closed memory of the run is kept, where there was a run
      pub record Wrote (status : Status) : Type 0 where
        pub said : List ℕ
        pub closed : Option Ended
        pub says : Says status closed said
        pub leaves : last' ≡ kept closed last
        pub written : Gained (held sink) (held sink') said
        pub whole : broken sink' ≡ broken sink

      -- the sink failed, and holds a prefix of the text that another status was to write
      pub record WroteSome : Type 0 where
        pub status : Status
        pub said : List ℕ
        pub closed : Option Ended
        pub says : Says status closed said
        pub leaves : last' ≡ last
        pub some : GainedSome (held sink) (held sink') said
        pub cause : Rose (broken sink) (broken sink')

      -- nothing was written
      pub record WroteNothing : Type 0 where
        pub spared : Spared
        pub nothing : held sink' ≡ held sink
        pub leaves : last' ≡ last
        pub whole : broken sink' ≡ broken sink

      abbrev pub IsOutcome : Status → Type 0
      IsOutcome Done = Wrote Done
      IsOutcome Help = Wrote Help
      IsOutcome Usage = Wrote Usage
      IsOutcome (Refused line fault) = Wrote (Refused line fault)
      IsOutcome ReadFault = Wrote ReadFault
      IsOutcome WriteFault = WroteSome
      IsOutcome Memory = WroteNothing
      IsOutcome (ClockFull clock) = Wrote (ClockFull clock)
      IsOutcome (No line) = Wrote (No line)
