use Rattle.std.proofs.Common.{◌≡◌, arith, ◌+◌, ◌%◌, ◌^◌, refl, set, get_or}
use Rattle.data_effects.specs.EffectLaws.{shows-none, shows-read, does-change, turns-write}
use Rattle.data_sums.specs.Sums.{sum_at, raised_in}
use Rattle.data_sums.proofs.sum_map.SumMap.raise.Goals as goal

pub returns-clause-reply : goal.returns-clause-reply
returns-clause-reply g c =
    let good = g.A.Access.good c.args.acc.now in
    let words = g.A.Access.words c.args.acc.now in
    let log = g.A.Access.log c.args.acc.now in
    let address = sum_at c.args.self.now c.args.cell in
    let v = c.in_ok-found.found in
    let sum = (v + c.args.by) % 2 ^ 64 in
    does-change good words log (raised_in c.args.self.now c.args.by c.args.cell) _ _ sum (λ m. Unit {0}) (λ m g len ex. tt) c.in_ok-found.ensures.value.0
    (λ m. v ≡ get_or m address 0)
    (shows-read good words log log _ (λ m. Unit {0}) (λ m. v ≡ get_or m address 0) address v
    (shows-none good words log (λ m. Unit {0}) (λ m g len ex. tt)) refl
    (let w = c.requires.within in let s = c.requires.cell in omega arith) c.in_ok-found.ensures.value (λ m p e. e))
    (λ m. set m address sum) (turns-write _ _ address sum c.in_ok-write.ensures.value)
    (λ m p e. rw e refl)
