use Rattle.rule_promoted.specs.PromotedSteps.{direct_store, CanDirectStore}
use Rattle.rule_base.specs.StepKinds.{Nothing}
use Rattle.stm_rule.specs.Kept.{good_of}
use Rattle.stm_rule.proofs.KindLaws.Lifted.{direct_stores}
use Rattle.stm_rule.specs.Kinds.Lifting.{IsSpared}
use Rattle.stm_rule.specs.Product.{Invariant}
use Rattle.stm_rule.proofs.KindLaws.Allowing.{law_of}
use Rattle.stm_rule.proofs.stm.Stm.direct_store.Goals as goal

pub store_as-requires-clause-law : goal.store_as-requires-clause-law
store_as-requires-clause-law g c =
    let f = c.args.self.now.config in
    let m = good_of g.K.MemRule.good f c.args.self.now.rule in
    let n = c.args.caller in
    law_of (Invariant m f) (direct_store c.args.a c.args.x) Nothing n (λ v. CanDirectStore f.words c.args.a c.args.x v × IsSpared c.args.a v) c.args.seat.now.me.0.view (direct_stores m f n c.args.a c.args.x) (c.requires.view, c.requires.spared)
