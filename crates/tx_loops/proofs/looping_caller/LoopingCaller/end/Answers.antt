use Rattle.std.proofs.Common.{length}
use Rattle.tx_checked.specs.CheckedCallers.{config_of, known_to}
use Rattle.tx_checked.specs.declared.errand.Errand.TheVariants.{End}
use Rattle.tx_checked.specs.declared.misuse.Misuse.TheVariants as wrong
use Rattle.tx_checked.specs.Endings.{HasEnded}
use Rattle.tx_checked.specs.Misuses.{doing, ending, holds_at, or_else, room_at, takes_at, taking_for}
use Rattle.tx_loops.proofs.StageLaws.{first-wrong, in-errand, stays-at}
use Rattle.tx_loops.proofs.looping_caller.LoopingCaller.end.Goals as goal

pub invariant_of-self : goal.invariant_of-self
invariant_of-self c =
    let s = c.args.self.now in
    let m = s.caller in
    let words = (config_of m).words in
    let room = length c.args.words.now in
    record {
      at_stage =
          stays-at s.stage s.buffer.items m c.end.new.self (ending room m) (HasEnded m c.end.new.self c.args.words.now c.end.new.words) c.end.result
          (λ run. first-wrong wrong.InAttempt (taking_for End m) (room_at room words)
          (first-wrong wrong.InAttempt (doing End m) (or_else (takes_at (config_of m).fence) (holds_at m.range))
          (in-errand End m.errand m.phase (known_to m) m.in_phase run)))
          c.end.ensures.tells s.at_stage;
    }
