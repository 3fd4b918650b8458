use Rattle.tx_checked.specs.CheckedCallers.{known_to}
use Rattle.tx_checked.specs.declared.misuse.Misuse.TheVariants as wrong
use Rattle.tx_checked.specs.Misuses.{lengths, outside, reserving}
use Rattle.tx_checked.specs.Tells.{HasReserved}
use Rattle.tx_loops.proofs.StageLaws.{first-wrong, in-outside, stays-at}
use Rattle.tx_loops.proofs.looping_caller.LoopingCaller.reserve.Goals as goal

pub invariant_of-self : goal.invariant_of-self
invariant_of-self c =
    let s = c.args.self.now in
    let m = s.caller in
    let reads = c.args.reads in
    let writes = c.args.writes in
    record {
      at_stage =
          stays-at s.stage s.buffer.items m c.reserve.new.self (reserving reads writes m) (HasReserved reads writes m c.reserve.new.self) c.reserve.result
          (λ run. first-wrong wrong.InAttempt (outside m) (lengths reads writes) (in-outside m.phase (known_to m) m.in_phase run))
          c.reserve.ensures s.at_stage;
    }
