-- THE HEADLINE, to be read aloud: what `run` at status 0 means, from the text read to the text written. `bench`
-- promises it (`laws::run_is_right`, of its clause `IsOutcome`).
--
-- A memory ran the text's transactions, its callers on threads of their own, across every switch of algorithm; then it
-- was closed. What is written is as if one thread had run them one after the other: the definitions say so, and stand
-- where their names are imported from.
--
--   workload_of   the text is a workload, by the grammar                                    work_text, Grammar.antt
--   report_bytes  the text of a report                                                      work_text, Reports.antt
--   IsHistory     the committed writing transactions stand in one legal history: each once, in the order of its
--                 caller; each read what those before it had left (IsLegal), and every structure was well formed at
--                 every moment                                                              work_driver, Runs.antt
--                                                                                           stm_model, Histories.antt
--   Replays       one thread that runs the script of each row in turn gets what the row says, and ends with the
--                 report's memory; each transaction has one row, a caller's in the order of the text
--                                                                                           work_script, Reports.antt
--   Shows         the report's writers are those of the history, in its order, and its memory is what the history
--                 leaves                                                                    work_script, Reports.antt
--   GoesAlong     each row is replayed on the memory after one prefix of the history: the one at its place
--                                                                                           work_driver, Along.antt
--   AreInstalls   each caller installed the algorithms of its text and those that its policy asked for, and no other
--                                                                                           work_driver, Runs.antt
--
-- What every attempt reads, aborted ones too, and that an irrevocable one ends committed, is said of the calls that
-- `run` makes (stm_tx): MODEL and PROMISES name those clauses.
use Rattle.std.specs.Prelude.{ℕ, ◌≡◌, true, false, length, List, Option, Some, Ok}
use Rattle.std.specs.Borrow.{Bor}
use Rattle.work_profile.specs.declared.policy.Policy.{Policy}
use Rattle.work_profile.specs.Policies.{ruling}
use Rattle.work_script.specs.declared.report.Report.{Report}
use Rattle.work_script.specs.declared.workload.Workload.{Workload}
use Rattle.work_script.specs.Reports.{Replays, Shows, regions_of, script_of, zeros}
use Rattle.work_text.specs.declared.parse.Mode.TheVariants.{Run}
use Rattle.work_text.specs.Grammar.{workload_of}
use Rattle.work_text.specs.Reports.{report_bytes}
use Rattle.work_io.specs.Ends.{IsText, Gained}
use Rattle.work_driver.specs.Along.{GoesAlong}
use Rattle.work_driver.specs.Runs.{AreInstalls, IsHistory}
use Rattle.stm_rule.specs.Closings.{Ended}
use Rattle.work_cli.specs.declared.command.Command.TheVariants as commands
use Rattle.work_cli.specs.Asking.{Asks, texts_of}
use Rattle.work_bench.specs.declared.status.Status.TheVariants.{Ok as Done}
use Rattle.work_bench.specs.Outcomes.{IsOutcome}

-- the run of this text under this policy wrote this, and left this closed memory
pub record RanRight (policy : Policy) (text said : List ℕ) (closed : Ended) : Type 0 where
  pub workload : Workload
  pub parses : workload_of Run text ≡ Ok workload
  pub history : IsHistory workload closed
  pub report : Report
  pub written : said ≡ report_bytes report
  pub replays : Replays workload report
  pub shows : Shows closed.history closed.opening closed.clock workload report
  pub along : GoesAlong (regions_of workload.header) (script_of workload.items) closed.history (zeros workload.header.words) (zeros workload.header.words) report.rows
  pub callers : length closed.installs ≡ workload.header.callers
  pub installs : AreInstalls false true (ruling policy workload.header.policy) workload report.rows 0 closed.installs

-- a text was read, its run under this policy was right, and what it says was written whole
pub record ReadAndRan {S : Type 0} (left : S → Option (List ℕ)) (source : S) {K : Type 0} (held : K → Option (List ℕ)) (sink sink' : K) (last : Option Ended) (policy : Policy) : Type 0 where
  pub text : List ℕ
  pub read : IsText 16777217 (left source) text
  pub said : List ℕ
  pub closed : Ended
  pub right : RanRight policy text said closed
  pub written : Gained (held sink) (held sink') said
  pub leaves : last ≡ Some closed

-- so it is where the words asked for `run`, and the call answered status 0
abbrev pub Headline : {S : Type 0} (left : S → Option (List ℕ)) (faults : S → ℕ) {K : Type 0} (held : K → Option (List ℕ)) (broken : K → ℕ) → Type 0
Headline {S = S} left faults {K = K} held broken =
    (source source' report report' : S) (words : List (Bor (List ℕ))) (sink sink' : K) (last last' : Option Ended) (policy : Policy) → Asks (texts_of words) (commands.Run policy)
    → IsOutcome left faults source source' report report' words held broken sink sink' last last' Done → ReadAndRan left source held sink sink' last' policy
