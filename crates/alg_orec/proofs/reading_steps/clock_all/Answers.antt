use Rattle.rule_orec.specs.OrecSteps.{orec_clock_all, CanOrecClock}
use Rattle.alg_orec.specs.RecordFindings.{FindsAll}
use Rattle.rule_base.specs.Ranks.{home_of}
use Rattle.std.specs.Prelude.{[]}
use Rattle.stm_rule.specs.Kept.{good_of}
use Rattle.stm_rule.specs.Product.{Invariant}
use Rattle.alg_orec.proofs.RecordFindingLaws.{clocks_all_beside}
use Rattle.stm_rule.proofs.KindLaws.Allowing.{law_of}
use Rattle.alg_orec.proofs.reading_steps.clock_all.Goals as goal

pub load_as-requires-clause-law : goal.load_as-requires-clause-law
load_as-requires-clause-law g c =
    let f = c.args.stm.now.config in
    let m = good_of g.K.MemRule.good f c.args.stm.now.rule in
    let n = c.args.caller in
    law_of (Invariant m f) orec_clock_all (FindsAll m f) n (CanOrecClock (home_of f) []) c.args.seat.now.me.0.view (clocks_all_beside m f n) c.requires.view
