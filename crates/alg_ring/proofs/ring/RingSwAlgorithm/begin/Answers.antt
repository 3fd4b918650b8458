use Rattle.rule_ring.specs.RingSteps.{ring_begin}
use Rattle.alg_ring.specs.RingFindings.{FindsStart}
use Rattle.stm_rule.specs.Kept.{good_of}
use Rattle.stm_rule.proofs.StandLemmas.{tells-of}
use Rattle.alg_ring.proofs.Beginning.{tells-started, may-begin}
use Rattle.alg_ring.proofs.ring.RingSwAlgorithm.begin.Goals as goal

pub begin-requires-clause-view : goal.begin-requires-clause-view
begin-requires-clause-view g c = may-begin (g.K.MemRule.good c.args.stm.now.rule) c.args.stm.now.config c.args.caller c.args.seat.now.me.0.view c.requires.view

pub returns-clause-begins : goal.returns-clause-begins
returns-clause-begins g c =
    tells-started (g.K.MemRule.good c.args.stm.now.rule) c.args.stm.now.config c.args.caller c.args.seat.now.me.0.view c.requires.view
    c.begin.result c.begin.new.seat.me.0.view
    (tells-of ring_begin (FindsStart (good_of g.K.MemRule.good c.args.stm.now.config c.args.stm.now.rule) c.args.stm.now.config) _ _ _
    c.begin.ensures.step)
