use Rattle.std.proofs.Common.{◌*◌, subst, arith}
use Rattle.stm_logs.specs.LogStates.{LogState}
use Rattle.stm_logs.specs.Probing.{IsPlace}
use Rattle.stm_logs.proofs.PlaceLemmas.{place-of}
use Rattle.stm_logs.proofs.indexed_log.IndexedLog.place_from_home.Goals as goal

pub returns : goal.returns
returns c =
    let xs = c.self.inside.items.items in
    let bs = c.self.inside.index.items in
    let i = c.self.invariant in
    let found = rw (c.deref-2.ensures.value, c.deref.ensures.value) at c.look_up.ensures in
    subst (λ (l : LogState). IsPlace (2 * l.len) l.items c.args.a c.look_up.result.at) c.self.view_is
    (rw (← i.1) (place-of c.self.inside.generation xs bs c.args.a c.look_up.result i.0 (omega (arith, i.1, i.2, i.3)) found))
