use Rattle.std.proofs.Common.{◌≡◌, ◌++◌, drop}
use Rattle.std.specs.List.{AllWithin}
use Rattle.work_text.specs.Reports.{row_lines, RowFits}
use Rattle.work_text.proofs.report.put_rows.Given as goal

abbrev pub invariant-loop-row : goal.invariant-loop-row
invariant-loop-row l = record {
  fits : AllWithin RowFits l.rows 0 l.row-index;
  text : l.text.items ++ row_lines (drop l.row-index l.rows) ≡ l.initial.text.items ++ row_lines l.rows;
}
