use Rattle.std.proofs.Common.{◌∙◌, refl}
use Rattle.tx_loops.proofs.CommitLaws.{nothing-refl, nothing-trans}
use Rattle.tx_loops.proofs.MarkLaws.{marked}
use Rattle.tx_loops.proofs.attempts.mark_often.Goals as goal

pub loop-init : goal.loop-init
loop-init c = record { nothing = nothing-refl c.args.caller.now; log = refl; runs = c.requires.running; irrevocable = c.requires.irrevocable }

pub loop-preserved : goal.loop-preserved
loop-preserved c =
    let i = c.loop.invariant in
    let m = c.args.caller.now in
    let k = c.loop.caller in
    let n = c.checkpoint.new.self in
    let one = marked k n c.checkpoint.result c.checkpoint.ensures in
    record {
      nothing = nothing-trans m k n i.nothing one.nothing;
      log = one.stays.log ∙ i.log;
      runs = (one.stays.running ∙ i.runs.0, one.stays.committing ∙ i.runs.1);
      irrevocable = one.stays.irrevocable ∙ i.irrevocable;
    }
