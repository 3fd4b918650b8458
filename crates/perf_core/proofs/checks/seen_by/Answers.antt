use Rattle.std.proofs.Common.{ap, ◌∙◌}
use Rattle.perf_core.specs.Rows.{seen_by}
use Rattle.perf_core.proofs.RowLaws.{half}
use Rattle.perf_core.proofs.checks.seen_by.Goals as goal

pub returns : goal.returns
returns c = half c.from-scans.result c.saturating_sub.result c.saturating_sub.ensures ∙ ap seen_by c.from-scans.ensures
