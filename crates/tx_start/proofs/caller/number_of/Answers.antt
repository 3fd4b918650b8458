use Rattle.std.proofs.Common.{◌<◌, ◌∙◌, ap, subst, arith}
use Rattle.stm_model.specs.declared.config.Config.{Config}
use Rattle.stm_rule.specs.Callers.{Handle}
use Rattle.tx_start.proofs.caller.number_of.Goals as goal

pub returns-clause-one : goal.returns-clause-one
returns-clause-one g c =
    subst (λ (f : Config). c.desc.inside.number < f.callers) (ap (λ (h : Handle g.row.K.Denot). h.who.config) c.desc.view_is ∙ c.requires.config) c.desc.invariant.0.low

pub returns-clause-low : goal.returns-clause-low
returns-clause-low g c =
    let one = returns-clause-one g c in
    let most = c.args.stm.now.ranges.callers.1 in
    omega arith
