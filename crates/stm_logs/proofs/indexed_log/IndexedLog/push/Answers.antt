use Rattle.std.proofs.Common.{◌≡◌, ◌<◌, [], ◌∷◌, length, length-append, sym, ap, ◌∙◌, arith}
use Rattle.std.proofs.lemmas.List.{length-set}
use Rattle.stm_logs.proofs.PushLemmas.{pushes-kept, pushes-replaced, pushes-new}
use Rattle.stm_logs.proofs.BucketLemmas.{lookup-found, lookup-new, index-same, set-same, index-push}
use Rattle.stm_logs.proofs.indexed_log.IndexedLog.push.Goals as goal

pub returns-in-Keep : goal.returns-in-Keep
returns-in-Keep c =
    let found = rw c.deref-2.ensures.value at (lookup-found _ _ _ _ _ _ c.look_up-found.ensures c.in-Some.is) in
    rw (← c.self.view_is, c.in-Keep.is) (pushes-kept _ c.args.a c.args.v c.in-Some.i c.self.invariant.0.once found.0 found.1)

pub returns-in-Replace : goal.returns-in-Replace
returns-in-Replace c =
    let found = rw c.deref-2.ensures.value at (lookup-found _ _ _ _ _ _ c.look_up-found.ensures c.in-Some.is) in
    rw (← c.self.view_is, c.in-Replace.is) (pushes-replaced _ c.args.a c.args.v c.in-Some.i c.self.invariant.0.once found.0 found.1)

pub invariant_of-self : goal.invariant_of-self
invariant_of-self c =
    let xs = c.self.inside.items.items in
    let i = c.self.invariant in
    let found = rw c.deref-2.ensures.value at (lookup-found _ _ _ _ _ _ c.look_up-found.ensures c.in-Some.is) in
    let same = set-same xs c.in-Some.i c.args.a c.args.v found.0 found.1 in
    (index-same _ _ _ _ same i.0, i.1, rw same.size i.2, i.3, i.4, i.5, i.6)

pub invariant_of-self-2 : goal.invariant_of-self-2
invariant_of-self-2 c =
    let i = c.self.invariant in
    let xs = c.self.inside.items.items in
    let bs = c.self.inside.index.items in
    let found = rw (c.deref-2.ensures.value, c.deref.ensures.value) at c.look_up-found.ensures in
    let count : c.len-count.result ≡ length xs = c.len-count.ensures ∙ (sym c.deref-2.ensures.len ∙ ap length c.deref-2.ensures.value) in
    let room : length xs < c.self.inside.len = omega (arith, c.if-count-self.false, i.2) in
    let more = index-push c.self.inside.generation xs bs c.args.a c.args.v c.look_up-found.result i.0 (omega (arith, i.1)) found c.in_default.is in
    rw (c.push_reserved.ensures.items, c.push_reserved.ensures.capacity, count, length-set bs c.look_up-found.result.at (record { mark = c.self.inside.generation; item = length xs }))
    (more, i.1, omega (arith, length-append xs ((c.args.a, c.args.v) ∷ [])), i.3, i.4, i.5, i.6)

pub returns : goal.returns
returns c =
    let i = c.self.invariant in
    let xs = c.self.inside.items.items in
    let found = rw (c.deref-2.ensures.value, c.deref.ensures.value) at c.look_up-found.ensures in
    let room : length xs < c.self.inside.len = omega (arith, c.if-count-self.false, c.len-count.ensures, c.deref-2.ensures.len, ap length c.deref-2.ensures.value, i.2) in
    rw (← c.self.view_is) (pushes-new _ c.args.repeat c.args.a c.args.v c.push_reserved.new.self.items (lookup-new _ _ _ _ _ found c.in_default.is) room c.push_reserved.ensures.items)
