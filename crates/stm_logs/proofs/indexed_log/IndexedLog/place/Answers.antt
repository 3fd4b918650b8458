use Rattle.std.proofs.Common.{ℕ, ◌≡◌, ◌≢◌, ◌<◌, ◌*◌, length, get_or, ap, subst, ◌∙◌, arith}
use Rattle.std.proofs.lemmas.List.{get_or_default}
use Rattle.std.specs.Prelude.{None}
use Rattle.stm_logs.specs.declared.index.Bucket.{Bucket}
use Rattle.stm_logs.specs.declared.index.Homes.TheVariants.{Mixed}
use Rattle.stm_logs.specs.Buckets.{blank, home_of}
use Rattle.stm_logs.specs.LogStates.{LogState}
use Rattle.stm_logs.specs.Probing.{IsPlace}
use Rattle.stm_logs.proofs.BucketLemmas.{home-below, home-open}
use Rattle.stm_logs.proofs.PlaceLemmas.{place-of}
use Rattle.stm_logs.proofs.indexed_log.IndexedLog.place.Goals as goal

pub returns-then-index-self : goal.returns-then-index-self
returns-then-index-self c =
    let xs = c.self.inside.items.items in
    let bs = c.self.inside.index.items in
    let i = c.self.invariant in
    let some : 0 < length bs = omega (arith, i.1, i.3) in
    let home : c.home-home.result ≡ home_of Mixed (length bs) c.args.a = c.home-home.ensures.is ∙ ap (λ (m : ℕ). home_of Mixed m c.args.a) (c.len.ensures ∙ c.self.inside.index.ok.0) in
    let low : c.home-home.result < length bs = omega (arith, home, home-below Mixed (length bs) c.args.a some) in
    let read = c.index.ensures ∙ get_or_default bs c.home-home.result c.index.result.now blank low in
    let free : (get_or bs c.home-home.result blank).mark ≢ c.self.inside.generation = λ e. c.if-index-self.true (ap (λ (b : Bucket). b.mark) read ∙ e) in
    let here = home-open c.self.inside.generation xs bs c.args.a c.home-home.result i.0 some home free in
    let is = place-of c.self.inside.generation xs bs c.args.a (record { at = c.home-home.result; distance = 0; item = None }) i.0 (omega (arith, i.1, i.2, i.3)) here in
    subst (λ (l : LogState). IsPlace (2 * l.len) l.items c.args.a c.home-home.result) c.self.view_is (rw (← i.1) is)
