use Rattle.rule_promoted.specs.PromotedSteps.{tml_grant, CanTmlGrant}
use Rattle.stm_rule.specs.Kept.{good_of}
use Rattle.stm_rule.proofs.KindLaws.Lifted.{grants_beside}
use Rattle.stm_rule.specs.Findings.{FindsSole}
use Rattle.stm_rule.specs.Product.{Invariant}
use Rattle.stm_rule.proofs.KindLaws.Allowing.{law_of}
use Rattle.stm_rule.proofs.stm.Stm.tml_grant.Goals as goal

pub load_as-requires-clause-law : goal.load_as-requires-clause-law
load_as-requires-clause-law g c =
    let f = c.args.self.now.config in
    let m = good_of g.K.MemRule.good f c.args.self.now.rule in
    let n = c.args.caller in
    law_of (Invariant m f) tml_grant (FindsSole f) n (CanTmlGrant f.callers n) c.args.seat.now.me.0.view (grants_beside m f n) c.requires.view
