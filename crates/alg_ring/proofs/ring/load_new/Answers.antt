use Rattle.std.proofs.Common.{ap, sym, subst, ◌∙◌, rules}
use Rattle.rule_base.specs.StepKinds.{Nothing}
use Rattle.rule_ring.specs.RingSteps.{ring_load, ring_look}
use Rattle.alg_ring.specs.RingFindings.{FindsLook}
use Rattle.stm_rule.specs.declared.local.Local.{Local}
use Rattle.stm_rule.specs.Kept.{good_of}
use Rattle.stm_rule.proofs.StandLemmas.{tells-of}
use Rattle.stm_answers.specs.declared.answers.Read.TheVariants.{Conflict}
use Rattle.alg_ring.specs.Calls.{LoadsNew}
use Rattle.alg_ring.proofs.Checks as checks
use Rattle.alg_ring.proofs.Ending.{ring-of}
use Rattle.alg_ring.proofs.Reading as laws
use Rattle.alg_ring.proofs.ring.load_new.Goals as goal

pub look-clock-requires-clause-view : goal.look-clock-requires-clause-view
look-clock-requires-clause-view g c =
    record {
      has = (laws.may-check (g.K.MemRule.good c.args.stm.now.rule) c.args.stm.now.config c.args.caller.now c.args.a c.args.local.now
          c.args.seat.now.me.0.view c.requires.attempt (c.requires.attempt.named ∙ c.requires.ring.0) c.requires.ring.1
          (ring-of (g.K.MemRule.good c.args.stm.now.rule) c.args.stm.now.config c.args.caller.now c.args.local.now c.args.seat.now.me.0.view
          c.requires.attempt (c.requires.attempt.named ∙ c.requires.ring.0) c.requires.ring.1) c.load-x.result c.load-x.new.seat.me.0.view
          (tells-of (ring_load c.args.a) Nothing _ _ _ c.load-x.ensures.step) c.add.new.self c.add.ensures.words).has;
    }

pub returns-then-clock-local-clause-loads : goal.returns-then-clock-local-clause-loads
returns-then-clock-local-clause-loads g c =
    laws.loads-value (g.K.MemRule.good c.args.stm.now.rule) c.args.stm.now.config c.args.caller.now c.args.a c.args.local.now
    c.args.seat.now.me.0.view c.requires.attempt (c.requires.attempt.named ∙ c.requires.ring.0) c.requires.ring.1
    (ring-of (g.K.MemRule.good c.args.stm.now.rule) c.args.stm.now.config c.args.caller.now c.args.local.now c.args.seat.now.me.0.view
    c.requires.attempt (c.requires.attempt.named ∙ c.requires.ring.0) c.requires.ring.1) c.load-x.result c.load-x.new.seat.me.0.view
    (tells-of (ring_load c.args.a) Nothing _ _ _ c.load-x.ensures.step) c.add.new.self c.add.ensures.words c.args.local.now.start
    c.look-clock.new.seat.me.0.view
    (checks.check-passes (g.K.MemRule.good c.args.stm.now.rule) c.args.stm.now.config c.args.local.now.start c.add.new.self
    c.load-x.new.seat.me.0.view
    (laws.may-check (g.K.MemRule.good c.args.stm.now.rule) c.args.stm.now.config c.args.caller.now c.args.a c.args.local.now
    c.args.seat.now.me.0.view c.requires.attempt (c.requires.attempt.named ∙ c.requires.ring.0) c.requires.ring.1
    (ring-of (g.K.MemRule.good c.args.stm.now.rule) c.args.stm.now.config c.args.caller.now c.args.local.now c.args.seat.now.me.0.view
    c.requires.attempt (c.requires.attempt.named ∙ c.requires.ring.0) c.requires.ring.1) c.load-x.result c.load-x.new.seat.me.0.view
    (tells-of (ring_load c.args.a) Nothing _ _ _ c.load-x.ensures.step) c.add.new.self c.add.ensures.words) c.look-clock.result
    c.look-clock.new.seat.me.0.view
    (tells-of ring_look (FindsLook (good_of g.K.MemRule.good c.args.stm.now.config c.args.stm.now.rule) c.args.stm.now.config) _ _ _
    c.look-clock.ensures.step) (search rules)) c.requires.inside c.requires.fresh (search rules)

pub catch_up-requires-clause-view : goal.catch_up-requires-clause-view
catch_up-requires-clause-view g c =
    checks.may-scan (g.K.MemRule.good c.args.stm.now.rule) c.args.stm.now.config c.args.local.now.start c.add.new.self
    c.load-x.new.seat.me.0.view
    (laws.may-check (g.K.MemRule.good c.args.stm.now.rule) c.args.stm.now.config c.args.caller.now c.args.a c.args.local.now
    c.args.seat.now.me.0.view c.requires.attempt (c.requires.attempt.named ∙ c.requires.ring.0) c.requires.ring.1
    (ring-of (g.K.MemRule.good c.args.stm.now.rule) c.args.stm.now.config c.args.caller.now c.args.local.now c.args.seat.now.me.0.view
    c.requires.attempt (c.requires.attempt.named ∙ c.requires.ring.0) c.requires.ring.1) c.load-x.result c.load-x.new.seat.me.0.view
    (tells-of (ring_load c.args.a) Nothing _ _ _ c.load-x.ensures.step) c.add.new.self c.add.ensures.words) c.look-clock.result
    c.look-clock.new.seat.me.0.view
    (tells-of ring_look (FindsLook (good_of g.K.MemRule.good c.args.stm.now.config c.args.stm.now.rule) c.args.stm.now.config) _ _ _
    c.look-clock.ensures.step) (search rules)

pub returns-in-Ok-clause-loads : goal.returns-in-Ok-clause-loads
returns-in-Ok-clause-loads g c =
    laws.loads-value (g.K.MemRule.good c.args.stm.now.rule) c.args.stm.now.config c.args.caller.now c.args.a c.args.local.now
    c.args.seat.now.me.0.view c.requires.attempt (c.requires.attempt.named ∙ c.requires.ring.0) c.requires.ring.1
    (ring-of (g.K.MemRule.good c.args.stm.now.rule) c.args.stm.now.config c.args.caller.now c.args.local.now c.args.seat.now.me.0.view
    c.requires.attempt (c.requires.attempt.named ∙ c.requires.ring.0) c.requires.ring.1) c.load-x.result c.load-x.new.seat.me.0.view
    (tells-of (ring_load c.args.a) Nothing _ _ _ c.load-x.ensures.step) c.add.new.self c.add.ensures.words c.in-Ok.start
    c.catch_up.new.seat.me.0.view
    (c.in-Ok.ensures.checks c.load-x.new.seat.me.0.view
    (laws.may-check (g.K.MemRule.good c.args.stm.now.rule) c.args.stm.now.config c.args.caller.now c.args.a c.args.local.now
    c.args.seat.now.me.0.view c.requires.attempt (c.requires.attempt.named ∙ c.requires.ring.0) c.requires.ring.1
    (ring-of (g.K.MemRule.good c.args.stm.now.rule) c.args.stm.now.config c.args.caller.now c.args.local.now c.args.seat.now.me.0.view
    c.requires.attempt (c.requires.attempt.named ∙ c.requires.ring.0) c.requires.ring.1) c.load-x.result c.load-x.new.seat.me.0.view
    (tells-of (ring_load c.args.a) Nothing _ _ _ c.load-x.ensures.step) c.add.new.self c.add.ensures.words)
    (tells-of ring_look (FindsLook (good_of g.K.MemRule.good c.args.stm.now.config c.args.stm.now.rule) c.args.stm.now.config) _ _ _
    c.look-clock.ensures.step)) c.requires.inside c.requires.fresh (search rules)

pub leave-requires-clause-view : goal.leave-requires-clause-view
leave-requires-clause-view g c =
    (laws.may-end (g.K.MemRule.good c.args.stm.now.rule) c.args.stm.now.config c.args.caller.now c.args.a c.args.local.now
    c.args.seat.now.me.0.view c.requires.attempt (c.requires.attempt.named ∙ c.requires.ring.0) c.requires.ring.1
    (ring-of (g.K.MemRule.good c.args.stm.now.rule) c.args.stm.now.config c.args.caller.now c.args.local.now c.args.seat.now.me.0.view
    c.requires.attempt (c.requires.attempt.named ∙ c.requires.ring.0) c.requires.ring.1) c.load-x.result c.load-x.new.seat.me.0.view
    (tells-of (ring_load c.args.a) Nothing _ _ _ c.load-x.ensures.step) c.add.new.self c.add.ensures.words c.in-Err.cause
    c.catch_up.new.seat.me.0.view
    (c.in-Err.ensures.checks c.load-x.new.seat.me.0.view
    (laws.may-check (g.K.MemRule.good c.args.stm.now.rule) c.args.stm.now.config c.args.caller.now c.args.a c.args.local.now
    c.args.seat.now.me.0.view c.requires.attempt (c.requires.attempt.named ∙ c.requires.ring.0) c.requires.ring.1
    (ring-of (g.K.MemRule.good c.args.stm.now.rule) c.args.stm.now.config c.args.caller.now c.args.local.now c.args.seat.now.me.0.view
    c.requires.attempt (c.requires.attempt.named ∙ c.requires.ring.0) c.requires.ring.1) c.load-x.result c.load-x.new.seat.me.0.view
    (tells-of (ring_load c.args.a) Nothing _ _ _ c.load-x.ensures.step) c.add.new.self c.add.ensures.words)
    (tells-of ring_look (FindsLook (good_of g.K.MemRule.good c.args.stm.now.config c.args.stm.now.rule) c.args.stm.now.config) _ _ _
    c.look-clock.ensures.step)) c.requires.ring.2).0

pub leave-requires-clause-holds : goal.leave-requires-clause-holds
leave-requires-clause-holds g c =
    (laws.may-end (g.K.MemRule.good c.args.stm.now.rule) c.args.stm.now.config c.args.caller.now c.args.a c.args.local.now
    c.args.seat.now.me.0.view c.requires.attempt (c.requires.attempt.named ∙ c.requires.ring.0) c.requires.ring.1
    (ring-of (g.K.MemRule.good c.args.stm.now.rule) c.args.stm.now.config c.args.caller.now c.args.local.now c.args.seat.now.me.0.view
    c.requires.attempt (c.requires.attempt.named ∙ c.requires.ring.0) c.requires.ring.1) c.load-x.result c.load-x.new.seat.me.0.view
    (tells-of (ring_load c.args.a) Nothing _ _ _ c.load-x.ensures.step) c.add.new.self c.add.ensures.words c.in-Err.cause
    c.catch_up.new.seat.me.0.view
    (c.in-Err.ensures.checks c.load-x.new.seat.me.0.view
    (laws.may-check (g.K.MemRule.good c.args.stm.now.rule) c.args.stm.now.config c.args.caller.now c.args.a c.args.local.now
    c.args.seat.now.me.0.view c.requires.attempt (c.requires.attempt.named ∙ c.requires.ring.0) c.requires.ring.1
    (ring-of (g.K.MemRule.good c.args.stm.now.rule) c.args.stm.now.config c.args.caller.now c.args.local.now c.args.seat.now.me.0.view
    c.requires.attempt (c.requires.attempt.named ∙ c.requires.ring.0) c.requires.ring.1) c.load-x.result c.load-x.new.seat.me.0.view
    (tells-of (ring_load c.args.a) Nothing _ _ _ c.load-x.ensures.step) c.add.new.self c.add.ensures.words)
    (tells-of ring_look (FindsLook (good_of g.K.MemRule.good c.args.stm.now.config c.args.stm.now.rule) c.args.stm.now.config) _ _ _
    c.look-clock.ensures.step)) c.requires.ring.2).1

pub leave-requires-clause-fence : goal.leave-requires-clause-fence
leave-requires-clause-fence g c =
    (laws.may-end (g.K.MemRule.good c.args.stm.now.rule) c.args.stm.now.config c.args.caller.now c.args.a c.args.local.now
    c.args.seat.now.me.0.view c.requires.attempt (c.requires.attempt.named ∙ c.requires.ring.0) c.requires.ring.1
    (ring-of (g.K.MemRule.good c.args.stm.now.rule) c.args.stm.now.config c.args.caller.now c.args.local.now c.args.seat.now.me.0.view
    c.requires.attempt (c.requires.attempt.named ∙ c.requires.ring.0) c.requires.ring.1) c.load-x.result c.load-x.new.seat.me.0.view
    (tells-of (ring_load c.args.a) Nothing _ _ _ c.load-x.ensures.step) c.add.new.self c.add.ensures.words c.in-Err.cause
    c.catch_up.new.seat.me.0.view
    (c.in-Err.ensures.checks c.load-x.new.seat.me.0.view
    (laws.may-check (g.K.MemRule.good c.args.stm.now.rule) c.args.stm.now.config c.args.caller.now c.args.a c.args.local.now
    c.args.seat.now.me.0.view c.requires.attempt (c.requires.attempt.named ∙ c.requires.ring.0) c.requires.ring.1
    (ring-of (g.K.MemRule.good c.args.stm.now.rule) c.args.stm.now.config c.args.caller.now c.args.local.now c.args.seat.now.me.0.view
    c.requires.attempt (c.requires.attempt.named ∙ c.requires.ring.0) c.requires.ring.1) c.load-x.result c.load-x.new.seat.me.0.view
    (tells-of (ring_load c.args.a) Nothing _ _ _ c.load-x.ensures.step) c.add.new.self c.add.ensures.words)
    (tells-of ring_look (FindsLook (good_of g.K.MemRule.good c.args.stm.now.config c.args.stm.now.rule) c.args.stm.now.config) _ _ _
    c.look-clock.ensures.step)) c.requires.ring.2).2

pub leave-requires-clause-named : goal.leave-requires-clause-named
leave-requires-clause-named g c =
    (laws.may-end (g.K.MemRule.good c.args.stm.now.rule) c.args.stm.now.config c.args.caller.now c.args.a c.args.local.now
    c.args.seat.now.me.0.view c.requires.attempt (c.requires.attempt.named ∙ c.requires.ring.0) c.requires.ring.1
    (ring-of (g.K.MemRule.good c.args.stm.now.rule) c.args.stm.now.config c.args.caller.now c.args.local.now c.args.seat.now.me.0.view
    c.requires.attempt (c.requires.attempt.named ∙ c.requires.ring.0) c.requires.ring.1) c.load-x.result c.load-x.new.seat.me.0.view
    (tells-of (ring_load c.args.a) Nothing _ _ _ c.load-x.ensures.step) c.add.new.self c.add.ensures.words c.in-Err.cause
    c.catch_up.new.seat.me.0.view
    (c.in-Err.ensures.checks c.load-x.new.seat.me.0.view
    (laws.may-check (g.K.MemRule.good c.args.stm.now.rule) c.args.stm.now.config c.args.caller.now c.args.a c.args.local.now
    c.args.seat.now.me.0.view c.requires.attempt (c.requires.attempt.named ∙ c.requires.ring.0) c.requires.ring.1
    (ring-of (g.K.MemRule.good c.args.stm.now.rule) c.args.stm.now.config c.args.caller.now c.args.local.now c.args.seat.now.me.0.view
    c.requires.attempt (c.requires.attempt.named ∙ c.requires.ring.0) c.requires.ring.1) c.load-x.result c.load-x.new.seat.me.0.view
    (tells-of (ring_load c.args.a) Nothing _ _ _ c.load-x.ensures.step) c.add.new.self c.add.ensures.words)
    (tells-of ring_look (FindsLook (good_of g.K.MemRule.good c.args.stm.now.config c.args.stm.now.rule) c.args.stm.now.config) _ _ _
    c.look-clock.ensures.step)) c.requires.ring.2).3

pub returns-in-Err-clause-loads : goal.returns-in-Err-clause-loads
returns-in-Err-clause-loads g c =
    subst (λ (m : Local).
    LoadsNew (g.K.MemRule.good c.args.stm.now.rule) c.args.stm.now.config c.args.caller.now c.args.a (Conflict c.in-Err.cause)
    c.args.local.now c.args.seat.now.me.0.view m c.leave.new.seat.me.0.view) (sym c.leave.ensures.idle)
    (laws.loads-conflict (g.K.MemRule.good c.args.stm.now.rule) c.args.stm.now.config c.args.caller.now c.args.a c.args.local.now
    c.args.seat.now.me.0.view c.requires.attempt (c.requires.attempt.named ∙ c.requires.ring.0) c.requires.ring.1
    (ring-of (g.K.MemRule.good c.args.stm.now.rule) c.args.stm.now.config c.args.caller.now c.args.local.now c.args.seat.now.me.0.view
    c.requires.attempt (c.requires.attempt.named ∙ c.requires.ring.0) c.requires.ring.1) c.load-x.result c.load-x.new.seat.me.0.view
    (tells-of (ring_load c.args.a) Nothing _ _ _ c.load-x.ensures.step) c.add.new.self c.add.ensures.words c.in-Err.cause
    c.catch_up.new.seat.me.0.view
    (c.in-Err.ensures.checks c.load-x.new.seat.me.0.view
    (laws.may-check (g.K.MemRule.good c.args.stm.now.rule) c.args.stm.now.config c.args.caller.now c.args.a c.args.local.now
    c.args.seat.now.me.0.view c.requires.attempt (c.requires.attempt.named ∙ c.requires.ring.0) c.requires.ring.1
    (ring-of (g.K.MemRule.good c.args.stm.now.rule) c.args.stm.now.config c.args.caller.now c.args.local.now c.args.seat.now.me.0.view
    c.requires.attempt (c.requires.attempt.named ∙ c.requires.ring.0) c.requires.ring.1) c.load-x.result c.load-x.new.seat.me.0.view
    (tells-of (ring_load c.args.a) Nothing _ _ _ c.load-x.ensures.step) c.add.new.self c.add.ensures.words)
    (tells-of ring_look (FindsLook (good_of g.K.MemRule.good c.args.stm.now.config c.args.stm.now.rule) c.args.stm.now.config) _ _ _
    c.look-clock.ensures.step)) c.leave.new.seat.me.0.view c.requires.caller (ap (λ q. q.view) c.leave.ensures.left)
    c.leave.ensures.outside)
