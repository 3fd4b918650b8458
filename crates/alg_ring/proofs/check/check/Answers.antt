use Rattle.std.proofs.Common.{rules}
use Rattle.rule_ring.specs.RingSteps.{ring_look}
use Rattle.alg_ring.specs.RingFindings.{FindsLook}
use Rattle.stm_rule.specs.Kept.{good_of}
use Rattle.stm_rule.proofs.StandLemmas.{tells-of}
use Rattle.alg_ring.proofs.Checks.{check-passes}
use Rattle.alg_ring.proofs.check.check.Goals as goal

pub returns-then-clock-start-clause-checks : goal.returns-then-clock-start-clause-checks
returns-then-clock-start-clause-checks g c =
    check-passes (g.K.MemRule.good c.args.stm.now.rule) c.args.stm.now.config c.args.start c.args.filter.now c.args.seat.now.me.0.view
    c.requires.view c.look-clock.result c.look-clock.new.seat.me.0.view
    (tells-of ring_look (FindsLook (good_of g.K.MemRule.good c.args.stm.now.config c.args.stm.now.rule) c.args.stm.now.config) _ _ _
    c.look-clock.ensures.step) (search rules)

pub returns-clause-checks : goal.returns-clause-checks
returns-clause-checks g c =
    c.catch_up.ensures.checks c.args.seat.now.me.0.view c.requires.view
    (tells-of ring_look (FindsLook (good_of g.K.MemRule.good c.args.stm.now.config c.args.stm.now.rule) c.args.stm.now.config) _ _ _
    c.look-clock.ensures.step)
