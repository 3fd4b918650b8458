use Rattle.std.proofs.Common.{sym, subst}
use Rattle.stm_rule.specs.declared.local.Local.{Local}
use Rattle.stm_answers.specs.Answers.{Commits}
use Rattle.alg_ring.specs.Calls.{CanFinish, StandsTold, TookTurn}
use Rattle.alg_ring.proofs.ring.commit_writes.Goals as goal

pub finish-requires-clause-turn : goal.finish-requires-clause-turn
finish-requires-clause-turn g c =
    subst (λ (m : Local). CanFinish (g.K.MemRule.good c.args.stm.now.rule) c.args.stm.now.config c.args.caller m c.turn.new.seat.me.0.view)
    (sym c.in-None.ensures.turns.0) (c.args.seat.now.me.0.view, c.in-None.ensures.turns.1)

pub returns-in-None-clause-commits : goal.returns-in-None-clause-commits
returns-in-None-clause-commits g c =
    subst (λ (l : Local).
    TookTurn (g.K.MemRule.good c.args.stm.now.rule) c.args.stm.now.config c.args.caller c.args.seat.now.me.0.view l
    c.turn.new.seat.me.0.view
    → StandsTold (g.K.MemRule.good c.args.stm.now.rule) c.args.stm.now.config c.args.caller
    (Commits (g.K.MemRule.good c.args.stm.now.rule) c.args.stm.now.config c.args.caller c.finish.result) l c.args.seat.now.me.0.view
    c.finish.new.local c.finish.new.seat.me.0.view) c.in-None.ensures.turns.0 (c.finish.ensures.finishes c.args.seat.now.me.0.view)
    c.in-None.ensures.turns.1
