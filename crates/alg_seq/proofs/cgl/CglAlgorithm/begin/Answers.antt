use Rattle.std.proofs.Common.{refl, rules}
use Rattle.stm_model.specs.declared.alg.Alg.TheVariants.{Cgl}
use Rattle.rule_base.specs.StepKinds.{Nothing}
use Rattle.rule_seq.specs.CglSteps.{take_lock, load_start, Begins, free_lock}
use Rattle.stm_rule.specs.Findings.{FindsLock}
use Rattle.stm_rule.specs.Kept.{good_of}
use Rattle.stm_rule.proofs.StandLemmas.{tells-of}
use Rattle.alg_seq.proofs.Beginning.{tells-held, tells-started, tells-full}
use Rattle.alg_seq.proofs.cgl.CglAlgorithm.begin.Goals as goal

pub returns-then-found-ne0-clause-begins : goal.returns-then-found-ne0-clause-begins
returns-then-found-ne0-clause-begins g c =
    tells-held (g.K.MemRule.good c.args.stm.now.rule) c.args.stm.now.config c.args.caller Cgl refl c.take_lock-found.result
    c.args.seat.now.me.0.view c.take_lock-found.new.seat.me.0.view c.requires.caller c.requires.view (search rules)
    (tells-of (take_lock c.args.caller) (FindsLock c.args.stm.now.config c.args.caller) _ _ _ c.take_lock-found.ensures.step)

pub returns-then-clock-ge-CLOCK_LIMIT-clause-begins : goal.returns-then-clock-ge-CLOCK_LIMIT-clause-begins
returns-then-clock-ge-CLOCK_LIMIT-clause-begins g c =
    tells-full (g.K.MemRule.good c.args.stm.now.rule) c.args.stm.now.config c.args.caller Cgl refl c.take_lock-found.result
    c.load_start-clock.result c.args.seat.now.me.0.view c.take_lock-found.new.seat.me.0.view c.load_start-clock.new.seat.me.0.view
    c.free_lock.new.seat.me.0.view c.requires.view (search rules) refl (search rules)
    (tells-of (take_lock c.args.caller) (FindsLock c.args.stm.now.config c.args.caller) _ c.take_lock-found.result _
    c.take_lock-found.ensures.step)
    (tells-of load_start (Begins (good_of g.K.MemRule.good c.args.stm.now.config c.args.stm.now.rule) c.args.stm.now.config) _
    c.load_start-clock.result _ c.load_start-clock.ensures.step) (tells-of free_lock Nothing _ 0 _ c.free_lock.ensures.step)

pub returns-clause-begins : goal.returns-clause-begins
returns-clause-begins g c =
    tells-started (g.K.MemRule.good c.args.stm.now.rule) c.args.stm.now.config c.args.caller Cgl refl c.take_lock-found.result
    c.load_start-clock.result c.args.seat.now.me.0.view c.take_lock-found.new.seat.me.0.view c.load_start-clock.new.seat.me.0.view
    c.requires.view (search rules) (λ e. (search rules))
    (tells-of (take_lock c.args.caller) (FindsLock c.args.stm.now.config c.args.caller) _ _ _ c.take_lock-found.ensures.step)
    (tells-of load_start (Begins (good_of g.K.MemRule.good c.args.stm.now.config c.args.stm.now.rule) c.args.stm.now.config) _ _ _ c.load_start-clock.ensures.step)
