use Rattle.std.proofs.Common.{refl, sym, subst}
use Rattle.tx_checked.specs.CheckedCallers.{known_to}
use Rattle.tx_loops.specs.Stages.{log_at}
use Rattle.tx_loops.specs.declared.stage.Stage.{Stage}
use Rattle.tx_parts.specs.Laying.{SameLog}
use Rattle.tx_loops.proofs.BindLaws.{buffer-laid, lies-already, stored-all}
use Rattle.tx_loops.proofs.CommitLaws.{nothing-refl, nothing-trans}
use Rattle.tx_loops.proofs.attempts.lay_down.Goals as goal

pub returns-in-Buffered-clause-nothing : goal.returns-in-Buffered-clause-nothing
returns-in-Buffered-clause-nothing c = nothing-trans c.args.caller.now c.store_through.new.caller c.mark_often.new.caller c.store_through.ensures.nothing c.mark_often.ensures.nothing

pub returns-in-Buffered-clause-log : goal.returns-in-Buffered-clause-log
returns-in-Buffered-clause-log c =
    let m = c.args.caller.now in
    let p = c.store_through.new.caller in
    let n = c.mark_often.new.caller in
    let ws = c.args.buffer.now.items in
    let stored = stored-all c.store_through.result (known_to m) (known_to p) c.store_through.ensures.ended c.requires.irrevocable in
    let laid = buffer-laid ws (known_to m).log (known_to m).log (known_to p).log (known_to n).log c.store_through.ensures.once (c.requires.buffered c.in-Buffered.is).1 refl (c.store_through.ensures.lays stored) c.mark_often.ensures.log in
    subst (λ (s : Stage). SameLog (log_at s (known_to m).log ws) (known_to n).log) (sym c.in-Buffered.is) laid

pub returns-in_default : goal.returns-in_default
returns-in_default c =
    let m = c.args.caller.now in
    record {
      nothing = nothing-refl m;
      bound = (c.requires.running, c.requires.irrevocable);
      log = lies-already c.args.stage (known_to m).log c.args.buffer.now.items c.requires.body c.in_default.not-Buffered;
    }
