use Rattle.std.proofs.Common.{◌<◌, length, refl, sym, ap, ◌∙◌, arith, rules}
use Rattle.std.specs.Prelude.{not, None}
use Rattle.stm_model.specs.Memories.{overlay, is_empty}
use Rattle.stm_model.specs.Plains.{openings, own_writes, settled}
use Rattle.stm_model.proofs.Settling.{change-step, any_own-step, any_own-end, openings-small, openings-settled, writes-changed, value-of}
use Rattle.stm_model.proofs.plain.Plain.settle.Goals as goal

pub loop-i-preserved : goal.loop-i-preserved
loop-i-preserved c =
    let ws = c.self.inside.words.items in
    let xs = c.loop-i.self-inside.words.items in
    let w = c.index.result.now in
    let inside : c.loop-i.i < length ws = omega (arith, c.loop-i-test.true, c.len-i-end.ensures) in (
      change-step settled ws xs c.loop-i.i w _ c.loop-i.invariant.0 c.index.ensures inside (ap (λ v. record { opening = v; own = None }) (sym (value-of w c.value.result c.value.ensures))),
      openings-small xs c.loop-i.i _ c.value.result c.loop-i.invariant.1 refl (search rules),
      any_own-step ws xs c.loop-i.i w c.loop-i.wrote c.is_some-wrote.result c.loop-i.invariant.0 c.index.ensures inside c.is_some-wrote.ensures c.loop-i.invariant.2,
    )

pub invariant_of-self : goal.invariant_of-self
invariant_of-self c = c.loop-i.invariant.1

pub returns-clause-wrote : goal.returns-clause-wrote
returns-clause-wrote c =
    let ws = c.self.inside.words.items in
    any_own-end ws c.loop-i.i c.loop-i.wrote (omega (arith, c.loop-i-test.false, c.len-i-end.ensures)) c.loop-i.invariant.2
    ∙ ap (λ l. not (is_empty (own_writes l))) c.self.view_is

pub returns-clause-settled : goal.returns-clause-settled
returns-clause-settled c =
    let ws = c.self.inside.words.items in
    ap openings c.loop-i.invariant.0 ∙ (openings-settled c.loop-i.i ws (omega (arith, c.loop-i-test.false, c.len-i-end.ensures)) ∙ ap (λ l. overlay (openings l) (own_writes l)) c.self.view_is)

pub returns-clause-cleared : goal.returns-clause-cleared
returns-clause-cleared c =
    ap own_writes c.loop-i.invariant.0 ∙ writes-changed settled (λ w. refl) 0 c.loop-i.i c.self.inside.words.items (omega (arith, c.loop-i-test.false, c.len-i-end.ensures))
