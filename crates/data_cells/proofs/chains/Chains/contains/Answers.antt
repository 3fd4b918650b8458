use Rattle.std.proofs.Common.{◌≡◌, ◌+◌, nat_eq}
use Rattle.data_effects.specs.EffectLaws.{does-stay}
use Rattle.data_cells.specs.Chains.{IsChains, position_of, contained_in}
use Rattle.data_cells.proofs.ChainEffects.{contained}
use Rattle.data_cells.proofs.chains.Chains.contains.Goals as goal

pub returns-clause-reply : goal.returns-clause-reply
returns-clause-reply g c =
    let r = c.args.self.now in
    let s = c.in_ok-position.position in
    let one = c.in_ok-position.ensures in
    does-stay (g.A.Access.good c.args.acc.now) (g.A.Access.words c.args.acc.now) (g.A.Access.log c.args.acc.now) (contained_in r c.args.key) _ (nat_eq s.tag (c.args.key + 1)) (IsChains r) c.requires.well one.writes
    (λ m. s ≡ position_of r m c.args.key) one.finds (λ m w e. contained r m c.args.key w c.requires.within.0 s e)
