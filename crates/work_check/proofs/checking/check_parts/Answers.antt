use Rattle.std.proofs.Common.{◌≡◌, ◌≤◌, ◌+◌, ap, arith, length}
use Rattle.work_text.specs.Reports.{report_bytes}
use Rattle.work_check.proofs.CheckLaws.{report-line, judged-line}
use Rattle.work_check.proofs.checking.check_parts.Goals as goal

pub shifted-requires : goal.shifted-requires
shifted-requires c =
    let f = c.in-Err-Fault-read_report in
    let line : f.line ≤ 1 + length c.args.behind.now = report-line c.args.behind.now f.line f.code (rw f.field-0-is at f.ensures) in
    let same = f.line-is in
    let most = c.requires in
    omega arith

pub replay-requires : goal.replay-requires
replay-requires c = record { items = c.parsed_workloads_fit.ensures _ _ c.in-Ok.ensures.is_parsed }

pub overflow_add-finding : goal.overflow_add-finding
overflow_add-finding c =
    let report = c.in-Ok-read_report.report in
    let written : length c.args.behind.now ≡ length (report_bytes report) = ap length (c.report_is_written.ensures c.args.behind.now report c.in-Ok-read_report.ensures).0 in
    let judged = rw c.in-No.is at c.in_ok-judged.ensures.verdict in
    let line : c.in-No.line ≤ 2 + length (report_bytes report) = judged-line c.in-Ok.workload report c.in-No.line judged.1 in
    let most = c.requires in
    omega arith
