use Rattle.std.proofs.Common.{List, refl, subst}
use Rattle.std.specs.Prelude.{IsPermutation}
use Rattle.work_script.specs.declared.report.Report.{Report}
use Rattle.work_script.specs.declared.report.Row.{Row}
use Rattle.work_script.specs.Reports.{nonzero}
use Rattle.work_driver.specs.ClosedRuns.{IsReport}
use Rattle.work_driver.proofs.ReportLaws.{if-err-any}
use Rattle.work_driver.proofs.closing.report_of.Goals as goal

pub returns-in_err-memory-clause-refused : goal.returns-in_err-memory-clause-refused
returns-in_err-memory-clause-refused c =
    let report : Report = record { rows = c.order.new.rows; memory = nonzero 0 c.args.words.now } in
    let is : IsReport c.args.rows.items c.args.words.now report = record {
      moved = subst (λ (l : List Row). IsPermutation l c.order.new.rows) c.as_mut_slice.ensures.value c.order.ensures.moved;
      ordered = c.order.ensures.ordered;
      memory = refl;
    } in
    if-err-any c.from_residual.result (report, is)
