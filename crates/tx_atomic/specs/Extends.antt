-- How what a caller knows goes on, where its logs may be lengthened.
use Rattle.std.specs.Prelude.{◌≡◌, ◌≤◌, ◌++◌, List}
use Rattle.stm_model.specs.Histories.{Entry, Ascending}
use Rattle.stm_model.specs.HistoryLaws.{Within}
use Rattle.rule_base.specs.declared.views.TracedStep.{TracedStep}
use Rattle.stm_answers.specs.CallerState.{CallerState}

-- as `Grows`, but that its logs may be longer: it has seen at least as much, up to a later front; its step trace has
-- grown, its logs are no shorter, and its fence is as it was
pub record Extends (v w : CallerState) : Type 0 where
  pub later : List Entry
  pub is : w.seen ≡ v.seen ++ later
  pub ascending : Ascending v.front later
  pub up_to : Within w.front later
  pub front_rose : v.front ≤ w.front
  pub more : List TracedStep
  pub step_trace : w.step_trace ≡ more ++ v.step_trace
  pub reads_limit : v.reads_limit ≤ w.reads_limit
  pub writes_limit : v.writes_limit ≤ w.writes_limit
  pub fenced : w.fenced ≡ v.fenced
