use Rattle.std.proofs.Common.{subst, ap, ◌∙◌}
use Rattle.rule_base.specs.Places.{offset, InRange}
use Rattle.stm_rule.proofs.stm.Stm.store_own_as.Goals as goal

pub store_by-requires-clause-place : goal.store_by-requires-clause-place
store_by-requires-clause-place g c = let t = c.args.self.now in let at = c.requires.place in (c.place.ensures ∙ ap (λ p. offset t.config p) at.0, subst (λ p. InRange t.config p) at.0 at.1)
