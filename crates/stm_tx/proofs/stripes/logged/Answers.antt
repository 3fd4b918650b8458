use Rattle.std.proofs.Common.{ℕ, subst, arith}
use Rattle.stm_bell.specs.Stripes.{Has}
use Rattle.stm_tx.proofs.StripeLaws.{item-of, added}
use Rattle.stm_tx.proofs.stripes.logged.Goals as goal

pub loop-i-init : goal.loop-i-init
loop-i-init c = λ k l. absurd (omega arith)

pub loop-i-preserved : goal.loop-i-preserved
loop-i-preserved c = added c.args.reads.now.items c.loop-i.i c.item.result c.loop-i.stripes c.add.new.self c.item.ensures c.add.ensures.there c.add.ensures.stays c.loop-i.invariant

pub returns : goal.returns
returns c = λ a m.
    let r = item-of c.args.reads.now.items a m in
    subst (λ (b : ℕ). Has b c.loop-i.stripes) r.2 (c.loop-i.invariant r.0 (omega (arith, r.1)))
