use Rattle.std.proofs.Common.{length, sym, ap, ◌∙◌, arith}
use Rattle.stm_logs.specs.LogStates.{LogState}
use Rattle.stm_logs.proofs.MarkTies.{length-marks}
use Rattle.stm_logs.proofs.write_log.WriteLog.depth.Goals as goal

pub returns-clause-count : goal.returns-clause-count
returns-clause-count c =
    let i = c.self.invariant in
    sym (length-marks c.self.inside.marks.items c.self.inside.depth c.self.inside.log.items (omega (arith, i.0))) ∙ ap (λ (l : LogState). length l.marks) c.self.view_is
