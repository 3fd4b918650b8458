use Rattle.std.proofs.Common.{ℕ, List, [], ◌+◌, take, drop}
use Rattle.stm_model.specs.Plains.{openings}
use Rattle.work_script.specs.Reports.{zeros}
use Rattle.work_check.specs.Verdicts.{AreRight}
use Rattle.work_check.specs.Wanted.{WantsAt}
use Rattle.work_check.specs.declared.wanted.Wanted.{Wanted}
use Rattle.work_check.specs.Standing.{StandsAfter}
use Rattle.work_check.proofs.replay.replay.Given as goal

abbrev pub invariant-loop-i : goal.invariant-loop-i
invariant-loop-i l = record {
  stands : StandsAfter l.workload (take l.i l.report.rows) l.standing;
  right : (last : List ℕ) → AreRight l.workload (take l.i l.report.rows) (openings l.standing.ledger) (drop l.i l.report.rows) last → AreRight l.workload [] (zeros l.workload.header.words) l.report.rows last;
  wants : (n : ℕ) (wanted : Wanted)
      → WantsAt l.workload (take l.i l.report.rows) (openings l.standing.ledger) (drop l.i l.report.rows) n wanted
      → WantsAt l.workload [] (zeros l.workload.header.words) l.report.rows (l.i + n) wanted;
}
