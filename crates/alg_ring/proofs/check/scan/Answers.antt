use Rattle.std.proofs.Common.{◌≤◌, ◌+◌, arith}
use Rattle.rule_ring.specs.RingSteps.{ring_again}
use Rattle.alg_ring.specs.RingFindings.{FindsAgain}
use Rattle.stm_rule.specs.Kept.{good_of}
use Rattle.stm_rule.proofs.StandLemmas.{tells-of}
use Rattle.alg_ring.proofs.Checks.{scans-far, scans-later, scans-met, scans-ok}
use Rattle.alg_ring.proofs.check.scan.Goals as goal

pub returns-then-clock-start-clause-scans : goal.returns-then-clock-start-clause-scans
returns-then-clock-start-clause-scans g c =
    let far : c.args.start + c.args.stm.now.config.ring ≤ c.args.clock = (let l = c.requires.view.later in omega arith) in
    scans-far c.args.stm.now.config c.args.start c.args.clock c.args.filter.now c.args.seat.now.me.0.view c.requires.view far

pub returns-then-later-start-clause-scans : goal.returns-then-later-start-clause-scans
returns-then-later-start-clause-scans g c =
    let far : c.args.start + c.args.stm.now.config.ring ≤ c.again-later.result = (let r = c.args.stm.now.ranges.ring.0 in omega arith) in
    scans-later c.args.stm.now.config c.args.start c.args.clock c.args.filter.now c.args.seat.now.me.0.view c.requires.view
    (g.K.MemRule.good c.args.stm.now.rule) c.first_met-met.new.seat.me.0.view c.again-later.new.seat.me.0.view c.again-later.result
    (tells-of (ring_again c.args.stm.now.config.ring)
    (FindsAgain (good_of g.K.MemRule.good c.args.stm.now.config c.args.stm.now.rule) c.args.stm.now.config) _ _ _
    c.again-later.ensures.step) c.first_met-met.result c.first_met-met.ensures.meets far

pub returns-in-Some-clause-scans : goal.returns-in-Some-clause-scans
returns-in-Some-clause-scans g c =
    scans-met c.args.stm.now.config c.args.start c.args.clock c.args.filter.now c.args.seat.now.me.0.view c.requires.view
    (g.K.MemRule.good c.args.stm.now.rule) c.first_met-met.new.seat.me.0.view c.again-later.new.seat.me.0.view c.again-later.result
    (tells-of (ring_again c.args.stm.now.config.ring)
    (FindsAgain (good_of g.K.MemRule.good c.args.stm.now.config c.args.stm.now.rule) c.args.stm.now.config) _ _ _
    c.again-later.ensures.step) c.in-Some.cause (omega arith) c.in-Some.ensures.meets

pub returns-in-None-clause-scans : goal.returns-in-None-clause-scans
returns-in-None-clause-scans g c =
    scans-ok c.args.stm.now.config c.args.start c.args.clock c.args.filter.now c.args.seat.now.me.0.view c.requires.view
    (g.K.MemRule.good c.args.stm.now.rule) c.first_met-met.new.seat.me.0.view c.again-later.new.seat.me.0.view c.again-later.result
    (tells-of (ring_again c.args.stm.now.config.ring)
    (FindsAgain (good_of g.K.MemRule.good c.args.stm.now.config c.args.stm.now.rule) c.args.stm.now.config) _ _ _
    c.again-later.ensures.step) c.in-None.ensures.meets (omega arith) _
