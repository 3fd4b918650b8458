use Rattle.std.proofs.Common.{◌≡◌, length, subst, ◌∙◌, arith}
use Rattle.stm_logs.specs.LogStates.{LogState}
use Rattle.stm_logs.specs.ShortLogs.{IsPosition}
use Rattle.stm_logs.proofs.BucketLemmas.{lookup-found, lookup-new}
use Rattle.stm_logs.proofs.short_log.ShortLog.position.Goals as goal

pub returns-then-self-ne0 : goal.returns-then-self-ne0
returns-then-self-ne0 c = subst (λ (l : LogState). IsPosition c.args.a l.items c.look_through.result) c.self.view_is (rw c.deref.ensures.value at c.look_through.ensures)

pub returns-in-Some : goal.returns-in-Some
returns-in-Some c =
    let xs = c.self.inside.items.items in
    let found = rw c.deref-3.ensures.value at (lookup-found _ _ _ _ _ _ c.look_up.ensures c.in-Some.is) in
    subst (λ (l : LogState). IsPosition c.args.a l.items c.in-Some.i) c.self.view_is (record { within = omega (arith, found.0); there = λ l. found.1; none = λ e. absurd (omega (arith, found.0)) })

pub returns-in-None : goal.returns-in-None
returns-in-None c =
    let xs = c.self.inside.items.items in
    let new = rw c.deref-3.ensures.value at (lookup-new _ _ _ _ _ c.look_up.ensures c.in-None.is) in
    let count : c.len.result ≡ length xs = c.len.ensures ∙ c.self.inside.items.ok.0 in
    subst (λ (l : LogState). IsPosition c.args.a l.items c.len.result) c.self.view_is (record { within = omega arith; there = λ l. absurd (omega arith); none = λ e. new })
