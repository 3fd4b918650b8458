use Rattle.std.proofs.Common.{ℕ, sym, subst}
use Rattle.std.specs.Prelude.{Ok}
use Rattle.rule_ring.specs.RingSteps.{ring_move}
use Rattle.alg_ring.specs.RingFindings.{FindsMove}
use Rattle.stm_rule.specs.Kept.{good_of}
use Rattle.stm_rule.proofs.StandLemmas.{tells-of}
use Rattle.alg_ring.specs.Checking as checking
use Rattle.alg_ring.proofs.Checks.{check-fails, check-moves}
use Rattle.alg_ring.proofs.check.catch_up.Goals as goal

pub returns-in-Err-clause-checks : goal.returns-in-Err-clause-checks
returns-in-Err-clause-checks g c = λ before can told.
    check-fails (g.K.MemRule.good c.args.stm.now.rule) c.args.stm.now.config c.args.start c.args.filter.now before can c.args.clock
    c.args.seat.now.me.0.view told c.in-Err.cause c.scan.new.seat.me.0.view c.requires.apart c.in-Err.ensures.scans

pub returns-in-Ok-clause-checks : goal.returns-in-Ok-clause-checks
returns-in-Ok-clause-checks g c = λ before can told.
    let rule = good_of g.K.MemRule.good c.args.stm.now.config c.args.stm.now.rule in
    subst (λ (k : ℕ). checking.Checks (g.K.MemRule.good c.args.stm.now.rule) c.args.stm.now.config (Ok k) c.args.filter.now before c.advance-done.new.seat.me.0.view) (sym c.later_start.ensures)
    (check-moves (g.K.MemRule.good c.args.stm.now.rule) c.args.stm.now.config c.args.start c.args.filter.now before can c.args.clock
    c.args.seat.now.me.0.view told _ c.scan.new.seat.me.0.view c.advance-done.new.seat.me.0.view c.advance-done.result c.requires.apart
    c.in-Ok.ensures.scans (tells-of ring_move (FindsMove rule c.args.stm.now.config) _ _ _ c.advance-done.ensures.step))
