use Rattle.std.proofs.Common.{sym, subst}
use Rattle.std.specs.Prelude.{Decides, IfSome}
use Rattle.work_script.specs.Reports.{IsBefore}
use Rattle.work_check.proofs.RowLaws.{last-some}
use Rattle.work_check.proofs.rows.comes_after.Goals as goal

pub returns-in-Some : goal.returns-in-Some
returns-in-Some c =
    let e = last-some c.args.above.now c.in-Some.last.now c.in-Some.ensures.value in
    subst (λ o. Decides c.is_before.result (IfSome o (λ x. IsBefore x c.args.row.now))) (sym e) c.is_before.ensures
