use Rattle.rule_seq.specs.CglSteps.{load_limit, LoadsLimit, CanLoadLimit}
use Rattle.stm_rule.specs.Kept.{good_of}
use Rattle.stm_rule.proofs.KindLaws.Lifted.{loads_limit}
use Rattle.stm_rule.specs.Product.{Invariant}
use Rattle.stm_rule.proofs.KindLaws.Allowing.{law_of}
use Rattle.stm_rule.proofs.stm.Stm.load_limit.Goals as goal

pub load_as-requires-clause-law : goal.load_as-requires-clause-law
load_as-requires-clause-law g c =
    let f = c.args.self.now.config in
    let m = good_of g.K.MemRule.good f c.args.self.now.rule in
    let n = c.args.caller in
    law_of (Invariant m f) (load_limit c.args.grants) LoadsLimit n CanLoadLimit c.args.seat.now.me.0.view (loads_limit m f n c.args.grants) c.requires.view
