use Rattle.std.proofs.Common.{refl}
use Rattle.tx_loops.proofs.CommitLaws.{nothing-refl}
use Rattle.tx_loops.proofs.LeaveLaws.{given-lapsed}
use Rattle.tx_loops.proofs.looping_caller.LoopingCaller.end_attempt.Goals as goal

pub returns-in-Free-clause-out : goal.returns-in-Free-clause-out
returns-in-Free-clause-out c =
    let m = c.args.self.now in
    record { nothing = nothing-refl m.caller; stage = refl; idle = λ i. absurd (i (given-lapsed m.stage c.requires.given c.in-Free.is)) }
