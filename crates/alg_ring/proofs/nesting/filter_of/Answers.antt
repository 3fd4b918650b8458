use Rattle.std.proofs.Common.{◌<◌, length, ap, ◌∙◌, arith}
use Rattle.std.specs.Prelude.{slice_index, List, ℕ}
use Rattle.alg_ring.proofs.NestingLaws.{filter-none, filter-next}
use Rattle.alg_ring.proofs.nesting.filter_of.Goals as goal

pub loop-i-init : goal.loop-i-init
loop-i-init c = λ j low. ap (λ (ws : List ℕ). slice_index ws j) c.new-filter.ensures ∙ filter-none j low

pub loop-i-preserved : goal.loop-i-preserved
loop-i-preserved c = λ j low.
    let k : c.loop-i.i < length c.args.writes.now.items = omega (arith, c.loop-i-test.true, c.count-i-end.ensures.count) in
    filter-next c.args.writes.now.items c.loop-i.i c.item-a.result j (slice_index c.loop-i.filter j) (slice_index c.add.new.self j) k c.item-a.ensures (c.loop-i.invariant j low) (c.add.ensures.words j low)
