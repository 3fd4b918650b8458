use Rattle.std.proofs.Common.{◌≤◌, ◌+◌, rules}
use Rattle.stm_model.specs.declared.config.TheConstants.{CLOCK_LIMIT}
use Rattle.rule_base.specs.StepKinds.{Nothing}
use Rattle.rule_ring.specs.RingSteps.{ring_tick, ring_done}
use Rattle.stm_rule.specs.Kept.{good_of}
use Rattle.stm_rule.proofs.StandLemmas.{tells-of}
use Rattle.alg_ring.specs.RingFindings.{FindsTick}
use Rattle.alg_ring.proofs.Finishing as laws
use Rattle.alg_ring.proofs.ring.commit_locked.Goals as goal

pub tick-clock-requires-clause-view : goal.tick-clock-requires-clause-view
tick-clock-requires-clause-view g c = let b = c.requires.turn in laws.may-tick (g.K.MemRule.good c.args.stm.now.rule) c.args.stm.now.config c.args.caller c.args.local.now b.0 c.args.seat.now.me.0.view b.1

pub returns-then-clock-ge-CLOCK_LIMIT-clause-decides : goal.returns-then-clock-ge-CLOCK_LIMIT-clause-decides
returns-then-clock-ge-CLOCK_LIMIT-clause-decides g c = λ before turn.
    let f = c.args.stm.now.config in
    let good = g.K.MemRule.good c.args.stm.now.rule in
    let s = c.args.seat.now.me.0 in
    let u = c.tick-clock.new.seat.me.0 in
    let t = tells-of ring_tick (FindsTick (good_of g.K.MemRule.good f c.args.stm.now.rule) f) s c.tick-clock.result u c.tick-clock.ensures.step in
    let high : CLOCK_LIMIT ≤ c.tick-clock.result = search rules in
    laws.decides-full good f c.args.caller c.args.local.now before s.view turn c.tick-clock.result u.view t high

pub check-requires-clause-view : goal.check-requires-clause-view
check-requires-clause-view g c =
    laws.may-check (g.K.MemRule.good c.args.stm.now.rule) c.args.stm.now.config c.args.caller c.args.local.now c.requires.turn.0
    c.args.seat.now.me.0.view c.requires.turn.1 c.tick-clock.result c.tick-clock.new.seat.me.0.view
    (tells-of ring_tick (FindsTick (good_of g.K.MemRule.good c.args.stm.now.config c.args.stm.now.rule) c.args.stm.now.config) _ _ _
    c.tick-clock.ensures.step)

pub returns-in-Err-clause-decides : goal.returns-in-Err-clause-decides
returns-in-Err-clause-decides g c = λ before turn.
    let f = c.args.stm.now.config in
    let good = g.K.MemRule.good c.args.stm.now.rule in
    let s = c.args.seat.now.me.0 in
    let u = c.tick-clock.new.seat.me.0 in
    let t = tells-of ring_tick (FindsTick (good_of g.K.MemRule.good f c.args.stm.now.rule) f) s c.tick-clock.result u c.tick-clock.ensures.step in
    laws.decides-conflict good f c.args.caller c.args.local.now before s.view turn c.tick-clock.result u.view t c.requires.caller c.in-Err.cause c.check.new.seat.me.0.view c.in-Err.ensures.checks

pub enter-requires-clause-enter : goal.enter-requires-clause-enter
enter-requires-clause-enter g c =
    laws.may-enter (g.K.MemRule.good c.args.stm.now.rule) c.args.stm.now.config c.args.caller c.args.local.now c.requires.turn.0
    c.args.seat.now.me.0.view c.requires.turn.1 c.tick-clock.result c.tick-clock.new.seat.me.0.view
    (tells-of ring_tick (FindsTick (good_of g.K.MemRule.good c.args.stm.now.config c.args.stm.now.rule) c.args.stm.now.config) _ _ _
    c.tick-clock.ensures.step) c.in_default.field-0 c.check.new.seat.me.0.view c.in_default.ensures.checks (search rules)

pub write_back-requires-clause-back : goal.write_back-requires-clause-back
write_back-requires-clause-back g c =
    laws.may-write_back (g.K.MemRule.good c.args.stm.now.rule) c.args.stm.now.config c.args.caller c.args.local.now c.requires.turn.0
    c.args.seat.now.me.0.view c.requires.turn.1 c.tick-clock.result c.tick-clock.new.seat.me.0.view
    (tells-of ring_tick (FindsTick (good_of g.K.MemRule.good c.args.stm.now.config c.args.stm.now.rule) c.args.stm.now.config) _ _ _
    c.tick-clock.ensures.step) c.in_default.field-0 c.check.new.seat.me.0.view c.in_default.ensures.checks c.enter.new.seat.me.0.view
    c.enter.ensures.enters

pub done-requires-clause-view : goal.done-requires-clause-view
done-requires-clause-view g c =
    laws.may-done (g.K.MemRule.good c.args.stm.now.rule) c.args.stm.now.config c.args.caller c.args.local.now c.requires.turn.0
    c.args.seat.now.me.0.view c.requires.turn.1 c.tick-clock.result c.tick-clock.new.seat.me.0.view
    (tells-of ring_tick (FindsTick (good_of g.K.MemRule.good c.args.stm.now.config c.args.stm.now.rule) c.args.stm.now.config) _ _ _
    c.tick-clock.ensures.step) c.in_default.field-0 c.check.new.seat.me.0.view c.in_default.ensures.checks c.enter.new.seat.me.0.view
    c.enter.ensures.enters c.write_back.new.seat.me.0.view c.write_back.ensures.back

pub returns-clause-decides : goal.returns-clause-decides
returns-clause-decides g c = λ before turn.
    let f = c.args.stm.now.config in
    let good = g.K.MemRule.good c.args.stm.now.rule in
    let s = c.args.seat.now.me.0 in
    let u = c.tick-clock.new.seat.me.0 in
    let t = tells-of ring_tick (FindsTick (good_of g.K.MemRule.good f c.args.stm.now.rule) f) s c.tick-clock.result u c.tick-clock.ensures.step in
    let z = c.write_back.new.seat.me.0 in
    let q = c.done.new.seat.me.0 in
    laws.decides-committed good f c.args.caller c.args.local.now before s.view turn c.tick-clock.result u.view t c.in_default.field-0
    c.check.new.seat.me.0.view c.in_default.ensures.checks c.enter.new.seat.me.0.view c.enter.ensures.enters z.view
    c.write_back.ensures.back q.view
    (tells-of (ring_done (c.tick-clock.result + 1)) Nothing z (c.tick-clock.result + 1) q c.done.ensures.step)
