use Rattle.tx_loops.proofs.LeaveLaws.{direct-log, finished-here, lapsed-says}
use Rattle.tx_loops.proofs.looping_caller.LoopingCaller.leave_done.Goals as goal

pub returns-in-Lapsed-clause-says : goal.returns-in-Lapsed-clause-says
returns-in-Lapsed-clause-says g c =
    lapsed-says c.args.self.now c.turned_down.new.self c.turned_down.result c.in-Lapsed.is c.turned_down.ensures.stage c.turned_down.ensures.caller c.turned_down.ensures.turn

pub returns-in-Direct-clause-says : goal.returns-in-Direct-clause-says
returns-in-Direct-clause-says g c =
    let m = c.args.self.now in
    finished-here m c.finish.new.self c.finish.result (direct-log m c.in-Direct.is) c.finish.ensures.says
