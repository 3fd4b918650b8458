use Rattle.std.proofs.Common.{subst, sym}
use Rattle.std.specs.Prelude.{IfOk}
use Rattle.work_text.specs.declared.parse.Mode.{Mode}
use Rattle.work_bench.specs.Outcomes.{SaidOfRun}
use Rattle.work_bench.proofs.Sayings.{said-of-text}
use Rattle.work_bench.proofs.bench.saying_of_text.Goals as goal

pub returns-in-Step : goal.returns-in-Step
returns-in-Step g c =
    said-of-text c.args.mode c.args.policy c.args.text.now c.in-Ok.workload c.in-Ok.ensures.workload c.trace.result
    (subst (λ (m : Mode). IfOk c.trace.result (λ s. SaidOfRun m c.args.policy c.in-Ok.workload s.status s.closed s.text.items)) (sym c.in-Step.is) (c.trace.ensures c.args.policy))
