use Rattle.std.proofs.Common.{subst}
use Rattle.std.specs.Prelude.{Bool}
use Rattle.tx_loops.specs.Turns.{GoesOnAfter}
use Rattle.tx_loops.proofs.LeaveLaws.{gives-up}
use Rattle.tx_loops.proofs.WatchLaws.{looked}
use Rattle.tx_loops.proofs.looping_caller.LoopingCaller.give_up.Goals as goal

pub returns-clause-says : goal.returns-clause-says
returns-clause-says c =
    let m = c.args.self.now in
    let k = c.end_attempt.new.self in
    let l = c.turn_after-turn.new.self in
    let n = c.end_at.new.self in
    let t = c.turn_after-turn.result in
    let goes = subst (λ (b : Bool). GoesOnAfter c.args.how k.caller.refusal b t) c.stays_out-stays.ensures c.turn_after-turn.ensures.turn in
    gives-up c.args.how m k l n t c.end_attempt.ensures.out c.end_attempt.ensures.refusal c.turn_after-turn.ensures.caller c.turn_after-turn.ensures.stage c.end_at.ensures.caller c.end_at.ensures.stage goes

pub returns-clause-looked : goal.returns-clause-looked
returns-clause-looked c =
    looked c.is_running-ran.result c.args.self.now c.end_attempt.new.self c.turn_after-turn.new.self c.end_at.new.self c.turn_after-turn.result c.is_running-ran.ensures c.end_attempt.ensures.plan c.turn_after-turn.ensures.sleeps c.end_at.ensures.watch
