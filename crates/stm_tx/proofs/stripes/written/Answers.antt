use Rattle.std.proofs.Common.{ℕ, ◌≡◌, ◌∙◌, true, sym, subst, arith}
use Rattle.rule_base.specs.History.{touches}
use Rattle.stm_rule.specs.Callers.{Handle}
use Rattle.stm_bell.specs.Stripes.{Has}
use Rattle.stm_tx.proofs.StripeLaws.{item-of, cells-member, added}
use Rattle.stm_tx.proofs.stripes.written.Goals as goal

pub loop-i-init : goal.loop-i-init
loop-i-init g c = λ k l. absurd (omega arith)

pub loop-i-preserved : goal.loop-i-preserved
loop-i-preserved g c = added c.desc.inside.local.writes.items c.loop-i.i c.item.result c.loop-i.stripes c.add.new.self c.item.ensures c.add.ensures.there c.add.ensures.stays c.loop-i.invariant

pub returns : goal.returns
returns g c = λ a t.
    let items = c.desc.inside.local.writes.items in
    let r = item-of items a (sym (cells-member items a) ∙ subst (λ (h : Handle g.row.K.Denot). touches h.own.buffered a ≡ true) (sym c.desc.view_is) t) in
    subst (λ (b : ℕ). Has b c.loop-i.stripes) r.2 (c.loop-i.invariant r.0 (omega (arith, r.1)))
