-- What closing leaves of a run, by how its turns ended.
use Rattle.std.specs.Prelude.{ℕ, ◌≡◌, List, Result, Ok, Err, IsPermutation}
use Rattle.stm_rule.specs.declared.stm.Stm.{Stm}
use Rattle.work_script.specs.declared.report.Report.{Report}
use Rattle.work_script.specs.declared.report.Row.{Row}
use Rattle.work_script.specs.Reports.{nonzero, Ordered}
use Rattle.stm_rule.specs.Closings.{Closes, Ended}
use Rattle.work_worker.specs.declared.worker.Worker.{Worker}
use Rattle.work_driver.specs.declared.outcome.RunOutcome.{RunOutcome}
use Rattle.work_driver.specs.declared.outcome.RunOutcome.TheVariants as outcomes
use Rattle.work_driver.specs.declared.schedule.Halt.{Halt}
use Rattle.work_driver.specs.declared.schedule.Halt.TheVariants.{ClockFull, Memory}
use Rattle.work_driver.specs.AllWorkers.{AreMadeIdle, descs_of, rows_of}

-- the report has these rows in its order, and the memory of these words
pub record IsReport (rows : List Row) (words : List ℕ) (report : Report) : Type 0 where
  pub moved : IsPermutation rows report.rows
  pub ordered : Ordered report.rows
  pub memory : report.memory ≡ nonzero 0 words

module _ {K : Type 0} (good : List ℕ → Type 0) (stm : Stm K) where
  -- the report has the workers' rows, and the memory that was closed
  pub record Reported (ws : List (Worker K)) (report : Report) (closed : Ended) : Type 0 where
    pub words : List ℕ
    pub closes : Closes good stm.config (descs_of ws) words closed
    pub is : IsReport (rows_of ws) words report

  -- all that was open ended without a row, and then the memory was closed
  pub record CutShort (ws : List (Worker K)) (closed : Ended) : Type 0 where
    pub words : List ℕ
    pub after : List (Worker K)
    pub idle : AreMadeIdle good stm ws after
    pub closes : Closes good stm.config (descs_of after) words closed

  -- what a run came to, by how its turns ended
  abbrev pub Came : List (Worker K) → Result (Unit {0}) Halt → RunOutcome → Type 0
  Came ws (Ok x) (outcomes.ToEnd report closed) = Reported ws report closed
  Came ws (Ok x) (outcomes.ToLimit clock closed) = ⊥
  Came ws (Ok x) (outcomes.OutOfMemory closed) = (report : Report) × Reported ws report closed
  Came ws (Err (ClockFull found)) (outcomes.ToEnd report closed) = ⊥
  Came ws (Err (ClockFull found)) (outcomes.ToLimit clock closed) = (clock ≡ found) × CutShort ws closed
  Came ws (Err (ClockFull found)) (outcomes.OutOfMemory closed) = ⊥
  Came ws (Err Memory) (outcomes.ToEnd report closed) = ⊥
  Came ws (Err Memory) (outcomes.ToLimit clock closed) = ⊥
  Came ws (Err Memory) (outcomes.OutOfMemory closed) = CutShort ws closed
