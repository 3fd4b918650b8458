use Rattle.std.proofs.Common.{sym, subst}
use Rattle.tx_checked.specs.CheckedCallers.{known_to}
use Rattle.tx_loops.specs.declared.stage.Stage.{Stage}
use Rattle.tx_loops.specs.Stages.{log_at}
use Rattle.tx_loops.proofs.CommitLaws.{laid-alone}
use Rattle.tx_loops.proofs.LeaveLaws.{finished, unstored}
use Rattle.tx_parts.specs.Laying.{SameLog}
use Rattle.tx_loops.proofs.looping_caller.LoopingCaller.finish_buffered.Goals as goal

pub returns-then-store_through : goal.returns-then-store_through
returns-then-store_through g c =
    let m = c.args.self.now in
    let k = c.store_through.new.caller in
    let stored = c.if-store_through.true in
    let blank = (m.at_stage.1 c.requires.buffered).1 in
    let alone = laid-alone m.buffer.items (known_to m.caller).log (known_to k).log c.store_through.ensures.once blank (c.store_through.ensures.lays stored) in
    let like = subst (λ (s : Stage). SameLog (log_at s (known_to m.caller).log m.buffer.items) (known_to k).log) (sym c.requires.buffered) alone in
    finished m k c.finish.new.self c.finish.result c.store_through.ensures.nothing (c.store_through.ensures.later stored) like c.finish.ensures.says

pub returns-else-store_through : goal.returns-else-store_through
returns-else-store_through g c =
    let b = c.turned_down.ensures in
    let failed = c.if-store_through.false in
    unstored c.args.self.now c.store_through.new.caller c.turned_down.new.self c.turned_down.result b.stage b.caller b.turn c.store_through.ensures.nothing (c.store_through.ensures.ended failed).0
    (c.store_through.ensures.hindered failed)
