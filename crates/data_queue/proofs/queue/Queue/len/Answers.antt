use Rattle.std.proofs.Common.{◌≡◌, ◌+◌, refl, sym, ap, arith}
use Rattle.data_effects.specs.Effects.{unchanged}
use Rattle.data_effects.specs.EffectLaws.{shows-none, shows-read, does-stay, under-after}
use Rattle.data_queue.specs.Queues.{IsQueue, count, counted_in}
use Rattle.data_queue.proofs.queue.Queue.len.Goals as goal

pub returns-clause-reply : goal.returns-clause-reply
returns-clause-reply g c =
    let good = g.A.Access.good c.args.acc.now in
    let words = g.A.Access.words c.args.acc.now in
    let log = g.A.Access.log c.args.acc.now in
    let q = c.args.self.now in
    let n = c.in_ok-count.count in
    let one = c.in_ok-count.ensures in
    does-stay good words log (counted_in q) _ n (IsQueue q) c.requires.well one.value.0 (λ m. n ≡ count q m)
    (shows-read good words log log _ (IsQueue q) (λ m. n ≡ count q m) (q.at + 1) n (shows-none good words log (IsQueue q) c.requires.well) refl (let w = c.requires.within.1 in omega arith) one.value (λ m w e. e))
    (λ m w e. ap (λ x. unchanged x m) (sym e))

pub returns-clause-well : goal.returns-clause-well
returns-clause-well g c =
    let one = c.in_ok-count.ensures in
    under-after (g.A.Access.good c.args.acc.now) (g.A.Access.words c.args.acc.now) (g.A.Access.log c.args.acc.now)
    (counted_in c.args.self.now) _ _ _ _ (IsQueue c.args.self.now) (IsQueue c.args.self.now) (returns-clause-reply g c) c.requires.well
    one.good one.words (λ m len w. w)
