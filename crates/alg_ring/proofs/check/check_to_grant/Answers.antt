use Rattle.std.proofs.Common.{ℕ, sym, subst, rules}
use Rattle.std.specs.Prelude.{Ok}
use Rattle.rule_promoted.specs.PromotedSteps.{ring_look_grant, ring_move_grant}
use Rattle.alg_ring.specs.RingFindings.{FindsLook, FindsLevel}
use Rattle.stm_rule.specs.Kept.{good_of}
use Rattle.stm_rule.proofs.StandLemmas.{tells-of}
use Rattle.alg_ring.specs.Checking as checking
use Rattle.alg_ring.proofs.Checks.{grant-passes, grant-fails, grant-moves}
use Rattle.alg_ring.proofs.check.check_to_grant.Goals as goal

pub returns-then-clock-start-clause-checks : goal.returns-then-clock-start-clause-checks
returns-then-clock-start-clause-checks g c =
    grant-passes (g.K.MemRule.good c.args.stm.now.rule) c.args.stm.now.config c.args.start c.args.filter.now c.args.seat.now.me.0.view
    c.requires.view c.look_grant-clock.result c.look_grant-clock.new.seat.me.0.view
    (tells-of ring_look_grant (FindsLook (good_of g.K.MemRule.good c.args.stm.now.config c.args.stm.now.rule) c.args.stm.now.config) _ _ _
    c.look_grant-clock.ensures.step) (search rules)

pub returns-in-Err-clause-checks : goal.returns-in-Err-clause-checks
returns-in-Err-clause-checks g c =
    grant-fails (g.K.MemRule.good c.args.stm.now.rule) c.args.stm.now.config c.args.start c.args.filter.now c.args.seat.now.me.0.view
    c.requires.view c.look_grant-clock.result c.look_grant-clock.new.seat.me.0.view
    (tells-of ring_look_grant (FindsLook (good_of g.K.MemRule.good c.args.stm.now.config c.args.stm.now.rule) c.args.stm.now.config) _ _ _
    c.look_grant-clock.ensures.step) c.in-Err.cause c.scan.new.seat.me.0.view (search rules) c.in-Err.ensures.scans

pub returns-in-Ok-clause-checks : goal.returns-in-Ok-clause-checks
returns-in-Ok-clause-checks g c =
    let rule = good_of g.K.MemRule.good c.args.stm.now.config c.args.stm.now.rule in
    subst (λ (k : ℕ).
    checking.ChecksToGrant (g.K.MemRule.good c.args.stm.now.rule) c.args.stm.now.config (Ok k) c.args.filter.now c.args.seat.now.me.0.view
    c.advance_grant-done.new.seat.me.0.view) (sym c.later_start.ensures)
    (grant-moves (g.K.MemRule.good c.args.stm.now.rule) c.args.stm.now.config c.args.start c.args.filter.now c.args.seat.now.me.0.view
    c.requires.view c.look_grant-clock.result c.look_grant-clock.new.seat.me.0.view
    (tells-of ring_look_grant (FindsLook rule c.args.stm.now.config) _ _ _ c.look_grant-clock.ensures.step) _ c.scan.new.seat.me.0.view
    c.advance_grant-done.new.seat.me.0.view c.advance_grant-done.result (search rules) c.in-Ok.ensures.scans
    (tells-of ring_move_grant (FindsLevel rule c.args.stm.now.config) _ _ _ c.advance_grant-done.ensures.step))
