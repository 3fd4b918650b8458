use Rattle.std.proofs.Common.{subst, sym}
use Rattle.tx_loops.specs.Turns.{GoesOnAfter}
use Rattle.tx_loops.specs.declared.turn.How.{How}
use Rattle.tx_loops.proofs.looping_caller.LoopingCaller.turn_after.Goals as goal

pub returns-in-Retry-clause-turn : goal.returns-in-Retry-clause-turn
returns-in-Retry-clause-turn c =
    let refusal = c.args.self.now.caller.refusal in
    subst (λ (h : How). GoesOnAfter h refusal c.args.stays c.retry.result) (sym c.in-Retry.is) c.retry.ensures.turn
