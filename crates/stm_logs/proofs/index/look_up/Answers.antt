use Rattle.std.proofs.Common.{◌≡◌, ◌<◌, ◌≤◌, ◌+◌, ◌-◌, length, sym, ◌∙◌, arith}
use Rattle.stm_logs.proofs.BucketLemmas.{wrapped-low, wrapped-high, lookup-open, search-goes, named}
use Rattle.stm_logs.proofs.index.look_up.Goals as goal

pub returns-then-bucket-generation : goal.returns-then-bucket-generation
returns-then-bucket-generation c = lookup-open _ _ _ _ _ _ c.requires.indexed c.loop-bucket.invariant c.if-bucket-generation.true

pub bounds-items-item : goal.bounds-items-item
bounds-items-item c = named _ _ _ _ c.requires.indexed c.loop-bucket.invariant.within c.if-bucket-generation.false

pub loop-bucket-preserved-then-at-index : goal.loop-bucket-preserved-then-at-index
loop-bucket-preserved-then-at-index c =
    let m = length c.args.index.now in
    let z : 0 ≡ c.loop-bucket.at + 1 - m = omega (arith, c.if-at-index.true) in
    let over : m ≤ c.loop-bucket.at + 1 = omega (arith, c.if-at-index.true) in
    search-goes _ _ _ _ _ _ c.requires.indexed c.requires.room c.loop-bucket.invariant c.if-bucket-generation.false c.if-items-item.false 0 (z ∙ sym (wrapped-high m (c.loop-bucket.at + 1) over))

pub loop-bucket-preserved : goal.loop-bucket-preserved
loop-bucket-preserved c =
    let m = length c.args.index.now in
    let below : c.loop-bucket.at + 1 < m = omega (arith, c.if-at-index.false, c.loop-bucket.invariant.within) in
    search-goes _ _ _ _ _ _ c.requires.indexed c.requires.room c.loop-bucket.invariant c.if-bucket-generation.false c.if-items-item.false (c.loop-bucket.at + 1) (sym (wrapped-low m (c.loop-bucket.at + 1) below))
