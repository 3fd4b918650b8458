use Rattle.tx_checked.specs.Learning.{meeting}
use Rattle.tx_loops.proofs.StageLaws.{asked-at}
use Rattle.tx_loops.proofs.looping_caller.LoopingCaller.learn.Goals as goal

pub invariant_of-from : goal.invariant_of-from
invariant_of-from c =
    let f = c.args.from.now in
    record { at_stage = asked-at f.stage f.buffer.items f.caller c.learn.new.from (meeting c.args.self.now.caller f.caller) c.learn.ensures.from f.at_stage }
