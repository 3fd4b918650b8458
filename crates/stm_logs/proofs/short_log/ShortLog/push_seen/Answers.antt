use Rattle.std.proofs.Common.{◌≡◌, ◌<◌, length, sym, ap, arith}
use Rattle.stm_logs.specs.LogStates.{LogState}
use Rattle.stm_logs.specs.ShortLogs.{IsPosition}
use Rattle.stm_logs.proofs.PushLemmas.{pushes-kept, pushes-replaced}
use Rattle.stm_logs.proofs.BucketLemmas.{set-same}
use Rattle.stm_logs.proofs.ShortLemmas.{kept-same}
use Rattle.stm_logs.proofs.short_log.ShortLog.push_seen.Goals as goal

pub returns-in-Keep : goal.returns-in-Keep
returns-in-Keep c =
    let xs = c.self.inside.items.items in
    let seen : c.args.self.now.items ≡ xs = ap (λ (l : LogState). l.items) (sym c.self.view_is) in
    let p : IsPosition c.args.a xs c.position-i.result = rw seen at c.position-i.ensures in
    let low : c.position-i.result < length xs = omega (arith, p.within, c.if-i-count.false, c.len-count.ensures, c.self.inside.items.ok.0) in
    rw (← c.self.view_is, c.in-Keep.is) (pushes-kept _ c.args.a c.args.v c.position-i.result c.self.invariant.0.once low (p.there low))

pub returns-in-Replace : goal.returns-in-Replace
returns-in-Replace c =
    let xs = c.self.inside.items.items in
    let seen : c.args.self.now.items ≡ xs = ap (λ (l : LogState). l.items) (sym c.self.view_is) in
    let p : IsPosition c.args.a xs c.position-i.result = rw seen at c.position-i.ensures in
    let low : c.position-i.result < length xs = omega (arith, p.within, c.if-i-count.false, c.len-count.ensures, c.self.inside.items.ok.0) in
    rw (← c.self.view_is, c.in-Replace.is) (pushes-replaced _ c.args.a c.args.v c.position-i.result c.self.invariant.0.once low (p.there low))

pub invariant_of-self : goal.invariant_of-self
invariant_of-self c =
    let xs = c.self.inside.items.items in
    let i = c.self.invariant in
    let seen : c.args.self.now.items ≡ xs = ap (λ (l : LogState). l.items) (sym c.self.view_is) in
    let p : IsPosition c.args.a xs c.position-i.result = rw seen at c.position-i.ensures in
    let low : c.position-i.result < length xs = omega (arith, p.within, c.if-i-count.false, c.len-count.ensures, c.self.inside.items.ok.0) in
    let same = set-same xs c.position-i.result c.args.a c.args.v low (p.there low) in
    (kept-same _ _ _ _ _ _ same i.0, i.1, i.2, rw same.size i.3, i.4, i.5, i.6, i.7)
