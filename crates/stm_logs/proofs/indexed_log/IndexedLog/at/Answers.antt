use Rattle.std.proofs.Common.{ℕ, ◌≡◌, ◌≢◌, get_or, sym, ap, ◌∙◌, arith}
use Rattle.std.specs.Prelude.{Some}
use Rattle.std.proofs.lemmas.List.{get_or_default}
use Rattle.stm_model.specs.Memories.{item_at}
use Rattle.stm_logs.specs.declared.index.Bucket.{Bucket}
use Rattle.stm_logs.specs.Buckets.{blank}
use Rattle.stm_logs.specs.LogStates.{LogState}
use Rattle.stm_logs.proofs.ItemLemmas.{item-here}
use Rattle.stm_logs.proofs.PlaceLemmas.{place-in, place-below, place-found, place-open}
use Rattle.stm_logs.proofs.indexed_log.IndexedLog.at.Goals as goal

pub index-requires : goal.index-requires
index-requires c =
    let bs = c.self.inside.index.items in
    let is = place-in _ _ _ c.args.a c.args.place c.self.invariant.1 c.self.view_is c.requires in
    omega (arith, place-below c.self.inside.generation c.self.inside.items.items bs c.args.a c.args.place c.self.invariant.0 is, c.self.inside.index.ok.0)

pub returns-then-index-self : goal.returns-then-index-self
returns-then-index-self c =
    let xs = c.self.inside.items.items in
    let bs = c.self.inside.index.items in
    let is = place-in _ _ _ c.args.a c.args.place c.self.invariant.1 c.self.view_is c.requires in
    let low = place-below c.self.inside.generation xs bs c.args.a c.args.place c.self.invariant.0 is in
    let read = c.index.ensures ∙ get_or_default bs c.args.place c.index.result.now blank low in
    let free : (get_or bs c.args.place blank).mark ≢ c.self.inside.generation = λ e. c.if-index-self.true (ap (λ (b : Bucket). b.mark) read ∙ e) in
    sym (place-open c.self.inside.generation xs bs c.args.a c.args.place c.self.invariant.0 is free) ∙ ap (λ (h : LogState). item_at c.args.a h.items) c.self.view_is

pub index-requires-2 : goal.index-requires-2
index-requires-2 c =
    let bs = c.self.inside.index.items in
    let is = place-in _ _ _ c.args.a c.args.place c.self.invariant.1 c.self.view_is c.requires in
    omega (arith, place-below c.self.inside.generation c.self.inside.items.items bs c.args.a c.args.place c.self.invariant.0 is, c.self.inside.index.ok.0)

pub index-requires-3 : goal.index-requires-3
index-requires-3 c =
    let xs = c.self.inside.items.items in
    let bs = c.self.inside.index.items in
    let is = place-in _ _ _ c.args.a c.args.place c.self.invariant.1 c.self.view_is c.requires in
    let low = place-below c.self.inside.generation xs bs c.args.a c.args.place c.self.invariant.0 is in
    let read = c.index.ensures ∙ get_or_default bs c.args.place c.index.result.now blank low in
    let again = c.index-2.ensures ∙ get_or_default bs c.args.place c.index-2.result.now blank low in
    let found = place-found c.self.inside.generation xs bs c.args.a c.args.place c.self.invariant.0 is (sym (ap (λ (b : Bucket). b.mark) read) ∙ c.if-index-self.false) in
    omega (arith, found.0, ap (λ (b : Bucket). b.item) again, c.self.inside.items.ok.0)

pub returns : goal.returns
returns c =
    let xs = c.self.inside.items.items in
    let bs = c.self.inside.index.items in
    let is = place-in _ _ _ c.args.a c.args.place c.self.invariant.1 c.self.view_is c.requires in
    let low = place-below c.self.inside.generation xs bs c.args.a c.args.place c.self.invariant.0 is in
    let read = c.index.ensures ∙ get_or_default bs c.args.place c.index.result.now blank low in
    let again = c.index-2.ensures ∙ get_or_default bs c.args.place c.index-2.result.now blank low in
    let found = place-found c.self.inside.generation xs bs c.args.a c.args.place c.self.invariant.0 is (sym (ap (λ (b : Bucket). b.mark) read) ∙ c.if-index-self.false) in
    let i = (get_or bs c.args.place blank).item in
    let same : c.index-2.result.now.item ≡ i = ap (λ (b : Bucket). b.item) again in
    let item : c.index-3.result.now ≡ get_or xs i (0, 0) = c.index-3.ensures ∙ (ap (λ (k : ℕ). get_or xs k c.index-3.result.now) same ∙ get_or_default xs i c.index-3.result.now (0, 0) found.0) in
    ap (λ (w : ℕ × ℕ). Some w.1) item ∙ (sym (item-here xs i c.args.a c.self.invariant.0.once found.0 found.1) ∙ ap (λ (h : LogState). item_at c.args.a h.items) c.self.view_is)
