use Rattle.std.proofs.Common.{◌≡◌, ◌-◌, suc, refl, arith}
use Rattle.data_effects.specs.EffectLaws.{shows-none, shows-read}
use Rattle.data_sums.specs.Sums.{sum_at, sum_under}
use Rattle.data_sums.proofs.SumBelow.{under-some}
use Rattle.data_sums.proofs.sum_map.SumMap.sum_under.Goals as goal

pub returns-clause-sums : goal.returns-clause-sums
returns-clause-sums g c =
    let good = g.A.Access.good c.args.acc.now in
    let words = g.A.Access.words c.args.acc.now in
    let log = g.A.Access.log c.args.acc.now in
    let r = c.args.self.now in
    let v = c.args.link in
    let j = v - 1 in
    let s = c.in_ok-sum.sum in
    let w = c.requires.within in
    let z = c.if-link-eq0.false in
    let e : v ≡ suc j = omega arith in
    shows-read good words log log _ (λ m. v ≡ v) (λ m. s ≡ sum_under r m v) (sum_at r j) s (shows-none good words log (λ m. v ≡ v) (λ m fine len ex. refl)) refl (omega arith) c.in_ok-sum.ensures.value (λ m h x. under-some r m v j s e x)
