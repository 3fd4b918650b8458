use Rattle.std.proofs.Common.{◌≡◌, ◌<◌, ◌++◌, [], ◌∷◌, length, length-append, sym, ap, ◌∙◌, arith}
use Rattle.std.specs.Prelude.{None}
use Rattle.stm_model.specs.Memories.{item_at}
use Rattle.stm_logs.specs.declared.index.Homes.TheVariants.{Mixed}
use Rattle.stm_logs.specs.Buckets.{IsIndex}
use Rattle.stm_logs.specs.LogStates.{LogState}
use Rattle.stm_logs.proofs.BucketLemmas.{written-over}
use Rattle.stm_logs.proofs.ItemLemmas.{once-more}
use Rattle.stm_logs.proofs.PushLemmas.{pushes-new}
use Rattle.stm_logs.proofs.ShortLemmas.{kept-indexed}
use Rattle.stm_logs.proofs.short_log.ShortLog.push_long.Goals as goal

pub invariant_of-self : goal.invariant_of-self
invariant_of-self c =
    let i = c.self.invariant in
    let xs = c.self.inside.items.items in
    let bs = c.self.inside.index.items in
    let a = c.args.a in
    let v = c.args.v in
    let room : length xs < c.self.inside.len = omega (arith, c.if-count-self.false, c.len-count.ensures, c.self.inside.items.ok.0, i.3) in
    let size : length c.take.new.index ≡ length bs = c.take.ensures.size ∙ ap length c.deref_mut.ensures.value in
    let whole = written-over c.take.new.index bs c.self.inside.index.len size (sym c.deref_mut.ensures.len ∙ sym c.take.ensures.size) in
    let more : IsIndex Mixed c.self.inside.generation (xs ++ (a, v) ∷ []) c.take.new.index = rw c.deref.ensures.value at (c.take.ensures.indexed v) in
    rw (c.push_reserved.ensures.items, c.push_reserved.ensures.capacity, whole, c.bit_of.ensures, c.if-self-eq0.true)
    (kept-indexed c.self.inside.seen c.self.inside.generation a v xs c.take.new.index i.0.front more, omega arith, size ∙ i.2, omega (arith, length-append xs ((a, v) ∷ [])), i.4, i.5, i.6, i.7)

pub returns-then-self-eq0 : goal.returns-then-self-eq0
returns-then-self-eq0 c =
    let i = c.self.invariant in
    let xs = c.self.inside.items.items in
    let new : item_at c.args.a xs ≡ None = ap (λ (l : LogState). item_at c.args.a l.items) c.self.view_is ∙ c.requires in
    let room : length xs < c.self.inside.len = omega (arith, c.if-count-self.false, c.len-count.ensures, c.self.inside.items.ok.0, i.3) in
    rw (← c.self.view_is) (pushes-new _ c.args.repeat c.args.a c.args.v c.push_reserved.new.self.items new room c.push_reserved.ensures.items)

pub take_all-requires-clause-once : goal.take_all-requires-clause-once
take_all-requires-clause-once c =
    let xs = c.self.inside.items.items in
    let new : item_at c.args.a xs ≡ None = ap (λ (l : LogState). item_at c.args.a l.items) c.self.view_is ∙ c.requires in
    rw (c.deref-2.ensures.value, c.push_reserved-2.ensures.items) (once-more xs c.args.a c.args.v c.self.invariant.0.once new)

pub invariant_of-self-2 : goal.invariant_of-self-2
invariant_of-self-2 c =
    let i = c.self.invariant in
    let xs = c.self.inside.items.items in
    let bs = c.self.inside.index.items in
    let a = c.args.a in
    let v = c.args.v in
    let room : length xs < c.self.inside.len = omega (arith, c.if-count-self.false, c.len-count.ensures, c.self.inside.items.ok.0, i.3) in
    let size : length c.take_all.new.index ≡ length bs = c.take_all.ensures.size ∙ ap length c.deref_mut-2.ensures.value in
    let whole = written-over c.take_all.new.index bs c.self.inside.index.len size (sym c.deref_mut-2.ensures.len ∙ sym c.take_all.ensures.size) in
    let all : IsIndex Mixed c.self.inside.generation (xs ++ (a, v) ∷ []) c.take_all.new.index = rw (c.deref-2.ensures.value, c.push_reserved-2.ensures.items) at c.take_all.ensures.indexed in
    rw (c.push_reserved-2.ensures.items, c.push_reserved-2.ensures.capacity, whole, c.bit_of.ensures)
    (kept-indexed c.self.inside.seen c.self.inside.generation a v xs c.take_all.new.index i.0.front all, omega arith, size ∙ i.2, omega (arith, length-append xs ((a, v) ∷ [])), i.4, i.5, i.6, i.7)

pub returns : goal.returns
returns c =
    let i = c.self.invariant in
    let xs = c.self.inside.items.items in
    let new : item_at c.args.a xs ≡ None = ap (λ (l : LogState). item_at c.args.a l.items) c.self.view_is ∙ c.requires in
    let room : length xs < c.self.inside.len = omega (arith, c.if-count-self.false, c.len-count.ensures, c.self.inside.items.ok.0, i.3) in
    rw (← c.self.view_is) (pushes-new _ c.args.repeat c.args.a c.args.v c.push_reserved-2.new.self.items new room c.push_reserved-2.ensures.items)
