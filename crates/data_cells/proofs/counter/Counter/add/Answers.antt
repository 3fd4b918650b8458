use Rattle.std.proofs.Common.{◌≡◌, arith, ◌+◌, ◌%◌, ◌^◌, refl, set, get_or}
use Rattle.data_effects.specs.EffectLaws.{shows-none, shows-read, does-change, turns-write}
use Rattle.data_cells.specs.Counters.{added_in}
use Rattle.data_cells.proofs.counter.Counter.add.Goals as goal

pub returns-clause-reply : goal.returns-clause-reply
returns-clause-reply g c =
    let good = g.A.Access.good c.args.acc.now in
    let words = g.A.Access.words c.args.acc.now in
    let log = g.A.Access.log c.args.acc.now in
    let address = c.args.self.now.at + c.args.stripe in
    let v = c.in_ok-found.found in
    let sum = (v + c.args.amount) % 2 ^ 64 in
    does-change good words log (added_in c.args.self.now c.args.stripe c.args.amount) _ _ sum (λ m. Unit {0}) (λ m g len ex. tt) c.in_ok-found.ensures.value.0
    (λ m. v ≡ get_or m address 0)
    (shows-read good words log log _ (λ m. Unit {0}) (λ m. v ≡ get_or m address 0) address v
    (shows-none good words log (λ m. Unit {0}) (λ m g len ex. tt)) refl
    (let w = c.requires.within in let s = c.requires.stripe in omega arith) c.in_ok-found.ensures.value (λ m p e. e))
    (λ m. set m address sum) (turns-write _ _ address sum c.in_ok-write.ensures.value)
    (λ m p e. rw e refl)
