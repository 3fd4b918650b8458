use Rattle.rule_promoted.specs.PromotedSteps.{direct_load, CanDirectLoad}
use Rattle.rule_seq.specs.CglSteps.{Loads}
use Rattle.stm_rule.specs.Kept.{good_of}
use Rattle.stm_rule.proofs.KindLaws.Lifted.{direct_loads}
use Rattle.stm_rule.specs.Kinds.Lifting.{IsSpared}
use Rattle.stm_rule.specs.Product.{Invariant}
use Rattle.stm_rule.proofs.KindLaws.Allowing.{law_of}
use Rattle.stm_rule.proofs.stm.Stm.direct_load.Goals as goal

pub load_as-requires-clause-law : goal.load_as-requires-clause-law
load_as-requires-clause-law g c =
    let f = c.args.self.now.config in
    let m = good_of g.K.MemRule.good f c.args.self.now.rule in
    let n = c.args.caller in
    law_of (Invariant m f) (direct_load c.args.a) (Loads m f c.args.a) n (λ v. CanDirectLoad f.words c.args.a v × IsSpared c.args.a v) c.args.seat.now.me.0.view (direct_loads m f n c.args.a) (c.requires.view, c.requires.spared)
