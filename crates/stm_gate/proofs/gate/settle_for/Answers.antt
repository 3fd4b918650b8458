use Rattle.std.proofs.Common.{◌≡◌, ◌+◌, ◌∙◌, sym, arith, true, false, rules}
use Rattle.rule_base.specs.InstallSteps.{settle, even_clock}
use Rattle.rule_base.specs.StepKinds.{Nothing}
use Rattle.stm_rule.specs.Findings.{FindsWithin}
use Rattle.stm_rule.proofs.StandLemmas.{tells-of}
use Rattle.stm_gate.proofs.InstallLaws.{settles-so, settles-even}
use Rattle.stm_gate.proofs.gate.settle_for.Goals as goal

pub returns-then-clock-eq0-clause-settles : goal.returns-then-clock-eq0-clause-settles
returns-then-clock-eq0-clause-settles g c =
    settles-so c.args.alg c.settle-clock.result c.args.seat.now.me.0.view c.settle-clock.new.seat.me.0.view (λ q. (search rules)) (tells-of settle FindsWithin _ _ _ c.settle-clock.ensures.step)

pub returns-then-not-begins_even-clause-settles : goal.returns-then-not-begins_even-clause-settles
returns-then-not-begins_even-clause-settles g c =
    settles-so c.args.alg c.settle-clock.result c.args.seat.now.me.0.view c.settle-clock.new.seat.me.0.view (λ q. absurd (let f : false ≡ true = sym (search rules) ∙ q in cc)) (tells-of settle FindsWithin _ _ _ c.settle-clock.ensures.step)

pub returns-clause-settles : goal.returns-clause-settles
returns-clause-settles g c =
    settles-even c.args.alg c.settle-clock.result c.args.seat.now.me.0.view c.settle-clock.new.seat.me.0.view
    c.even_clock.new.seat.me.0.view (omega arith) (search rules) (tells-of settle FindsWithin _ _ _ c.settle-clock.ensures.step)
    (tells-of (even_clock (c.settle-clock.result + 1)) Nothing c.settle-clock.new.seat.me.0 (c.settle-clock.result + 1)
    c.even_clock.new.seat.me.0 c.even_clock.ensures.step)
