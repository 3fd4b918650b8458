use Rattle.std.proofs.Common.{arith, rules}
use Rattle.rule_seq.specs.TmlSteps.{tml_begin}
use Rattle.stm_rule.specs.Findings.{FindsBegin}
use Rattle.stm_rule.specs.Kept.{good_of}
use Rattle.stm_rule.proofs.StandLemmas.{tells-of}
use Rattle.alg_seq.proofs.TmlLaws.{tells-held, tells-started}
use Rattle.alg_seq.proofs.tml.TmlAlgorithm.begin.Goals as goal

pub returns-then-clock-eq1-clause-begins : goal.returns-then-clock-eq1-clause-begins
returns-then-clock-eq1-clause-begins g c =
    tells-held (g.K.MemRule.good c.args.stm.now.rule) c.args.stm.now.config c.args.caller c.args.seat.now.me.0.view c.requires.view
    c.tml_begin-clock.result c.tml_begin-clock.new.seat.me.0.view (search rules)
    (tells-of tml_begin (FindsBegin (good_of g.K.MemRule.good c.args.stm.now.config c.args.stm.now.rule) c.args.stm.now.config) _ _ _
    c.tml_begin-clock.ensures.step)

pub returns-clause-begins : goal.returns-clause-begins
returns-clause-begins g c =
    tells-started (g.K.MemRule.good c.args.stm.now.rule) c.args.stm.now.config c.args.caller c.args.seat.now.me.0.view c.requires.view
    c.tml_begin-clock.result c.tml_begin-clock.new.seat.me.0.view (omega arith)
    (tells-of tml_begin (FindsBegin (good_of g.K.MemRule.good c.args.stm.now.config c.args.stm.now.rule) c.args.stm.now.config) _ _ _
    c.tml_begin-clock.ensures.step)
