use Rattle.std.proofs.Common.{ℕ, ◌≡◌, ◌<◌, length, sym, subst, arith, rules}
use Rattle.std.specs.Prelude.{max, ◌⊎◌}
use Rattle.alg_orec.proofs.Eager.EagerReleasing.{newest-none, newest-more, newest-all, max-either}
use Rattle.alg_orec.proofs.eager_ending.newest.Goals as goal

pub loop-i-init : goal.loop-i-init
loop-i-init c = newest-none c.args.local.now.locks.items

pub loop-i-preserved : goal.loop-i-preserved
loop-i-preserved c =
    let ws = c.args.local.now.locks.items in
    let low : c.loop-i.i < length ws = omega (arith, c.loop-i-test.true, c.count-i-end.ensures.count) in
    let p = c.item-version.result in
    let is : c.max-newest.result ≡ max c.loop-i.newest p.1 = search rules in
    newest-more c.loop-i.newest c.loop-i.i ws p c.max-newest.result low c.count-i-end.ensures.once c.item-version.ensures (omega arith) (omega arith)
    (subst (λ (k : ℕ). (k ≡ c.loop-i.newest) ⊎ (k ≡ p.1)) (sym is) (max-either c.loop-i.newest p.1)) c.loop-i.invariant

pub returns : goal.returns
returns c = newest-all c.loop-i.newest c.loop-i.i c.args.local.now.locks.items (omega (arith, c.loop-i-test.false, c.count-i-end.ensures.count)) c.loop-i.invariant
