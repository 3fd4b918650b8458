use Rattle.std.proofs.Common.{ℕ, ◌≡◌, ◌<◌, ◌+◌, ◌-◌, length, take, sym, ap, ◌∙◌, arith}
use Rattle.std.specs.Prelude.{slice_set}
use Rattle.std.proofs.lemmas.List.{length-set, length-take-le}
use Rattle.stm_logs.specs.declared.index.Homes.TheVariants.{Mixed}
use Rattle.stm_logs.specs.Buckets.{IsIndex, IsLookup, address_of}
use Rattle.stm_logs.specs.LogStates.{LogState}
use Rattle.stm_logs.proofs.BucketLemmas.{index-popped}
use Rattle.stm_logs.proofs.ShortLemmas.{kept-less, kept-less-indexed}
use Rattle.stm_logs.proofs.short_log.ShortLog.pop.Goals as goal

pub invariant_of-self : goal.invariant_of-self
invariant_of-self c =
    let i = c.self.invariant in
    let xs = c.self.inside.items.items in
    let seen : c.args.self.now.items ≡ xs = ap (λ (l : LogState). l.items) (sym c.self.view_is) in
    let some : 0 < length xs = rw seen at c.requires in
    let count : c.count-last.result ≡ length xs = c.count-last.ensures.count ∙ ap length seen in
    let last = c.count-last.result - 1 in
    let next : last + 1 ≡ length xs = omega arith in
    let size : length (take last xs) ≡ last = length-take-le last xs (omega arith) in
    rw c.truncate.ensures.items (
      kept-less c.self.inside.short c.self.inside.seen c.self.inside.generation last xs c.self.inside.index.items c.if-self-ne0.true next
          i.0,
      i.1,
      i.2,
      omega (arith, size, i.3),
      i.4,
      i.5,
      i.6,
      rw c.truncate.ensures.capacity i.7,
    )

pub invariant_of-self-2 : goal.invariant_of-self-2
invariant_of-self-2 c =
    let i = c.self.invariant in
    let xs = c.self.inside.items.items in
    let bs = c.self.inside.index.items in
    let g = c.self.inside.generation in
    let seen : c.args.self.now.items ≡ xs = ap (λ (l : LogState). l.items) (sym c.self.view_is) in
    let some : 0 < length xs = rw seen at c.requires in
    let count : c.count-last.result ≡ length xs = c.count-last.ensures.count ∙ ap length seen in
    let last = c.count-last.result - 1 in
    let low : last < length xs = omega arith in
    let next : last + 1 ≡ length xs = omega arith in
    let here : address_of xs last ≡ c.item-a.result.0 = sym (ap (λ (p : ℕ × ℕ). p.0) c.item-a.ensures ∙ ap (λ ys. address_of ys last) seen) in
    let found : IsLookup Mixed g xs bs c.item-a.result.0 c.look_up-found.result = rw (c.deref-2.ensures.value, c.deref.ensures.value) at c.look_up-found.ensures in
    let less : IsIndex Mixed g (take last xs) (slice_set bs c.look_up-found.result.at (record { mark = 0; item = 0 })) =
    index-popped g xs bs c.item-a.result.0 last c.look_up-found.result (i.0.indexed c.if-self-ne0.false) (omega (arith, i.6)) next found here in
    let size : length (take last xs) ≡ last = length-take-le last xs (omega arith) in
    rw c.truncate-2.ensures.items (
      kept-less-indexed c.self.inside.short c.self.inside.seen g last xs
          (slice_set bs c.look_up-found.result.at (record { mark = 0; item = 0 })) c.if-self-ne0.false next i.0.front i.0.most less,
      i.1,
      length-set bs c.look_up-found.result.at (record { mark = 0; item = 0 }) ∙ i.2,
      omega (arith, size, i.3),
      i.4,
      i.5,
      i.6,
      rw c.truncate-2.ensures.capacity i.7,
    )
