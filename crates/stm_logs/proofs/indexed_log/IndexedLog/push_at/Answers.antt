use Rattle.std.proofs.Common.{◌≡◌, ◌<◌, [], ◌∷◌, length, length-append, ap, ◌∙◌, arith}
use Rattle.std.specs.Prelude.{None}
use Rattle.std.proofs.lemmas.List.{length-set}
use Rattle.stm_model.specs.Memories.{item_at}
use Rattle.stm_logs.specs.LogStates.{LogState}
use Rattle.stm_logs.proofs.PlaceLemmas.{place-in, place-below, place-taken}
use Rattle.stm_logs.proofs.indexed_log.IndexedLog.push_at.Goals as goal

pub index_mut-bucket-requires : goal.index_mut-bucket-requires
index_mut-bucket-requires c =
    let bs = c.self.inside.index.items in
    let is = place-in _ _ _ c.args.a c.args.place c.self.invariant.1 c.self.view_is c.requires.place in
    omega (arith, place-below c.self.inside.generation c.self.inside.items.items bs c.args.a c.args.place c.self.invariant.0 is, c.self.inside.index.ok.0)

pub invariant_of-self : goal.invariant_of-self
invariant_of-self c =
    let i = c.self.invariant in
    let xs = c.self.inside.items.items in
    let bs = c.self.inside.index.items in
    let is = place-in _ _ _ c.args.a c.args.place i.1 c.self.view_is c.requires.place in
    let new : item_at c.args.a xs ≡ None = ap (λ (l : LogState). item_at c.args.a l.items) c.self.view_is ∙ c.requires.new in
    let room : length xs < c.self.inside.len =
    (let full = ap (λ (l : LogState). length l.items) c.self.view_is in
    let most = ap (λ (l : LogState). l.len) c.self.view_is in omega (arith, full, most, c.requires.room, i.2)) in
    let count : c.len-count.result ≡ length xs = c.len-count.ensures ∙ c.self.inside.items.ok.0 in
    let more = place-taken c.self.inside.generation xs bs c.args.a c.args.place i.0 is c.args.v new in
    rw (c.push_reserved.ensures.items, c.push_reserved.ensures.capacity, count, length-set bs c.args.place (record { mark = c.self.inside.generation; item = length xs }))
    (more, i.1, omega (arith, length-append xs ((c.args.a, c.args.v) ∷ [])), i.3, i.4, i.5, i.6)
