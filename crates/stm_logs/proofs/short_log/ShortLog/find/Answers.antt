use Rattle.std.proofs.Common.{ℕ, ◌≡◌, ◌≢◌, ◌<◌, length, sym, ap, ◌∙◌, arith}
use Rattle.std.specs.Prelude.{Some}
use Rattle.std.proofs.lemmas.List.{get_or_default}
use Rattle.stm_model.specs.Memories.{item_at}
use Rattle.stm_logs.specs.LogStates.{LogState}
use Rattle.stm_logs.specs.ShortLogs.{IsPosition}
use Rattle.stm_logs.proofs.ShortLemmas.{unseen, found-at}
use Rattle.stm_logs.proofs.short_log.ShortLog.find.Goals as goal

pub returns-then-seen-eq0 : goal.returns-then-seen-eq0
returns-then-seen-eq0 c =
    let xs = c.self.inside.items.items in
    let none = unseen c.self.inside.seen c.args.a xs c.self.invariant.0.front (rw c.bit_of.ensures at c.if-seen-eq0.true) in
    sym none ∙ ap (λ (l : LogState). item_at c.args.a l.items) c.self.view_is

pub returns : goal.returns
returns c =
    let xs = c.self.inside.items.items in
    let seen : c.args.self.now.items ≡ xs = ap (λ (l : LogState). l.items) (sym c.self.view_is) in
    let p : IsPosition c.args.a xs c.position-i.result = rw seen at c.position-i.ensures in
    let other : c.position-i.result ≢ length xs = λ e. omega (arith, c.if-i-count.false, c.len-count.ensures, c.self.inside.items.ok.0, e) in
    let low : c.position-i.result < length xs = omega (arith, p.within, other) in
    let read = c.index.ensures ∙ get_or_default xs c.position-i.result c.index.result.now (0, 0) low in
    ap (λ (w : ℕ × ℕ). Some w.1) read ∙ (sym (found-at c.args.a c.position-i.result xs c.self.invariant.0.once p other) ∙ ap (λ (h : LogState). item_at c.args.a h.items) c.self.view_is)
