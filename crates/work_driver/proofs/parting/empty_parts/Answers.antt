use Rattle.std.proofs.Common.{◌≡◌, [], ap, ◌∙◌, arith}
use Rattle.std.specs.Prelude.{replicate}
use Rattle.work_driver.proofs.PartingLaws.{parts-none}
use Rattle.work_driver.proofs.parting.empty_parts.Goals as goal

pub returns : goal.returns
returns c =
    let all : c.loop.counter ≡ c.args.callers = omega (arith, c.loop.auto.counter-end, c.loop-test.false) in
    c.loop.invariant.none ∙ (ap (λ n. replicate n []) all ∙ parts-none c.args.callers)
