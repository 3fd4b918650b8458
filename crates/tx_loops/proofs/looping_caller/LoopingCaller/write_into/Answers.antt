use Rattle.std.proofs.Common.{ap}
use Rattle.tx_checked.specs.CheckedCallers.{config_of, known_to}
use Rattle.stm_logs.specs.LogStates.{LogState}
use Rattle.tx_loops.proofs.WriteLaws.{wrote-into}
use Rattle.tx_loops.proofs.looping_caller.LoopingCaller.write_into.Goals as goal

pub invariant_of-self : goal.invariant_of-self
invariant_of-self c =
    let m = c.args.self.now in
    record {
      at_stage = wrote-into m.stage c.args.a c.args.x (config_of m.caller).words m.buffer.items c.push.new.self.items (known_to m.caller) c.requires.buffered
          (ap (λ (l : LogState). l.items) c.in-Done.ensures.1)
          c.in_ok-may_access.ensures.spared
          m.at_stage;
    }
