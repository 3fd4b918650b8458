use Rattle.std.proofs.Common.{subst}
use Rattle.work_profile.specs.Policies.{ruling}
use Rattle.work_driver.specs.Runs.{HasRun}
use Rattle.work_bench.proofs.commands.report.Goals as goal

pub returns-in-ToEnd : goal.returns-in-ToEnd
returns-in-ToEnd g c =
    record {
      report = c.in-ToEnd.report;
      fits = c.in_ok-report_text_by-in-ToEnd.ensures.fits;
      shown = subst (HasRun (ruling c.args.policy c.args.workload.header.policy) c.args.workload) c.in-ToEnd.is c.in_ok-outcome.ensures;
      is = c.in_ok-report_text_by-in-ToEnd.ensures.text;
    }

pub returns-in-ToLimit : goal.returns-in-ToLimit
returns-in-ToLimit g c =
    record { full = subst (HasRun (ruling c.args.policy c.args.workload.header.policy) c.args.workload) c.in-ToLimit.is c.in_ok-outcome.ensures; is = c.in_ok-clock_full-in-ToLimit.ensures }
