use Rattle.std.proofs.Common.{refl, rules}
use Rattle.stm_model.specs.declared.alg.Alg.TheVariants.{Serial}
use Rattle.rule_seq.specs.CglSteps.{take_lock, load_start, Begins}
use Rattle.stm_rule.specs.Findings.{FindsLock}
use Rattle.stm_rule.specs.Kept.{good_of}
use Rattle.stm_rule.proofs.StandLemmas.{tells-of}
use Rattle.alg_seq.proofs.Beginning.{tells-held, tells-started}
use Rattle.alg_seq.proofs.serial.SerialAlgorithm.begin.Goals as goal

pub returns-then-found-ne0-clause-begins : goal.returns-then-found-ne0-clause-begins
returns-then-found-ne0-clause-begins g c =
    tells-held (g.K.MemRule.good c.args.stm.now.rule) c.args.stm.now.config c.args.caller Serial refl c.take_lock-found.result
    c.args.seat.now.me.0.view c.take_lock-found.new.seat.me.0.view c.requires.caller c.requires.view (search rules)
    (tells-of (take_lock c.args.caller) (FindsLock c.args.stm.now.config c.args.caller) _ _ _ c.take_lock-found.ensures.step)

pub returns-clause-begins : goal.returns-clause-begins
returns-clause-begins g c =
    tells-started (g.K.MemRule.good c.args.stm.now.rule) c.args.stm.now.config c.args.caller Serial refl c.take_lock-found.result
    c.load_start.result c.args.seat.now.me.0.view c.take_lock-found.new.seat.me.0.view c.load_start.new.seat.me.0.view c.requires.view
    (search rules) (λ e. absurd cc)
    (tells-of (take_lock c.args.caller) (FindsLock c.args.stm.now.config c.args.caller) _ _ _ c.take_lock-found.ensures.step)
    (tells-of load_start (Begins (good_of g.K.MemRule.good c.args.stm.now.config c.args.stm.now.rule) c.args.stm.now.config) _ _ _ c.load_start.ensures.step)
