use Rattle.std.proofs.Common.{refl, sym, ◌∙◌, rules}
use Rattle.rule_ring.specs.RingSteps.{ring_lock}
use Rattle.stm_rule.specs.Findings.{FindsLock}
use Rattle.stm_rule.proofs.StandLemmas.{tells-of}
use Rattle.alg_ring.proofs.Committing as laws
use Rattle.alg_ring.proofs.Running as attempt
use Rattle.alg_ring.proofs.ring.turn.Goals as goal

pub lock-found-requires-clause-view : goal.lock-found-requires-clause-view
lock-found-requires-clause-view g c =
    laws.may-lock (g.K.MemRule.good c.args.stm.now.rule) c.args.stm.now.config c.args.caller c.args.local.now c.args.seat.now.me.0.view
    c.requires.wrote.attempt
    (sym (attempt.irrevocable-is (g.K.MemRule.good c.args.stm.now.rule) c.args.stm.now.config c.args.caller c.args.local.now
    c.args.seat.now.me.0.view c.requires.wrote.attempt) ∙ c.requires.wrote.revocable)

pub returns-then-found-ne0-clause-turns : goal.returns-then-found-ne0-clause-turns
returns-then-found-ne0-clause-turns g c =
    laws.waits (g.K.MemRule.good c.args.stm.now.rule) c.args.stm.now.config c.args.caller c.args.local.now c.args.seat.now.me.0.view
    c.requires.wrote.attempt
    (sym (attempt.irrevocable-is (g.K.MemRule.good c.args.stm.now.rule) c.args.stm.now.config c.args.caller c.args.local.now
    c.args.seat.now.me.0.view c.requires.wrote.attempt) ∙ c.requires.wrote.revocable) c.lock-found.result c.lock-found.new.seat.me.0.view
    (tells-of (ring_lock c.args.caller) (FindsLock c.args.stm.now.config c.args.caller) _ _ _ c.lock-found.ensures.step) (search rules)
    c.requires.caller c.requires.wrote.wrote

pub returns-clause-turns : goal.returns-clause-turns
returns-clause-turns g c = (
  refl,
  laws.took-turn (g.K.MemRule.good c.args.stm.now.rule) c.args.stm.now.config c.args.caller c.args.local.now c.args.seat.now.me.0.view
      c.requires.wrote.attempt
      (sym (attempt.irrevocable-is (g.K.MemRule.good c.args.stm.now.rule) c.args.stm.now.config c.args.caller c.args.local.now
      c.args.seat.now.me.0.view c.requires.wrote.attempt) ∙ c.requires.wrote.revocable) c.lock-found.result c.lock-found.new.seat.me.0.view
      (tells-of (ring_lock c.args.caller) (FindsLock c.args.stm.now.config c.args.caller) _ _ _ c.lock-found.ensures.step) c.requires.wrote
      (search rules),
)
