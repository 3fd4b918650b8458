use Rattle.std.proofs.Common.{ℕ, List, [], ◌≡◌, ◌<◌, ◌-◌, length, set, sym, ap, ◌∙◌, arith}
use Rattle.stm_logs.proofs.BucketLemmas.{set-same}
use Rattle.stm_logs.proofs.ShortLemmas.{kept-same}
use Rattle.stm_logs.specs.Buckets.{address_of}
use Rattle.stm_logs.specs.LogStates.{LogState, with_last}
use Rattle.stm_logs.proofs.short_log.ShortLog.set_last.Goals as goal

pub invariant_of-self : goal.invariant_of-self
invariant_of-self c =
    let xs = c.self.inside.items.items in
    let i = c.self.invariant in
    let last = c.count-last.result - 1 in
    let seen : c.args.self.now.items ≡ xs = ap (λ (l : LogState). l.items) (sym c.self.view_is) in
    let some : 0 < length xs = rw seen at c.requires in
    let count : c.count-last.result ≡ length xs = c.count-last.ensures.count ∙ ap length seen in
    let low : last < length xs = omega arith in
    let here : address_of xs last ≡ c.item-a.result.0 = sym (ap (λ (p : ℕ × ℕ). p.0) c.item-a.ensures ∙ ap (λ ys. address_of ys last) seen) in
    let same = set-same xs last c.item-a.result.0 c.args.v low here in
    (kept-same _ _ _ _ _ _ same i.0, i.1, i.2, rw same.size i.3, i.4, i.5, i.6, i.7)

pub returns : goal.returns
returns c =
    let xs = c.self.inside.items.items in
    let v = c.args.v in
    let last = c.count-last.result - 1 in
    let seen : c.args.self.now.items ≡ xs = ap (λ (l : LogState). l.items) (sym c.self.view_is) in
    let count : c.count-last.result ≡ length xs = c.count-last.ensures.count ∙ ap length seen in
    let here : c.item-a.result.0 ≡ address_of xs last = ap (λ (p : ℕ × ℕ). p.0) c.item-a.ensures ∙ ap (λ ys. address_of ys last) seen in
    let put : set xs last (c.item-a.result.0, v) ≡ with_last v xs = ap (λ (a : ℕ). set xs last (a, v)) here ∙ ap (λ (k : ℕ). set xs (k - 1) (address_of xs (k - 1), v)) count in
    ap (λ (ys : List (ℕ × ℕ)). record { items = ys; len = c.self.inside.len; generation = c.self.inside.generation; marks = []; marks_limit = 0 }) put ∙ ap (λ (l : LogState). record l { items = with_last v l.items }) c.self.view_is
