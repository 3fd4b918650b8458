use Rattle.std.proofs.Common.{refl, sym, ap, ◌∙◌, arith, subst}
use Rattle.stm_model.specs.Memories.{AreWords}
use Rattle.stm_model.specs.Plains.{openings, own_writes, forgotten}
use Rattle.stm_model.proofs.Settling.{change-step, openings-forgotten, writes-changed}
use Rattle.stm_model.proofs.plain.Plain.forget.Goals as goal

pub loop-i-preserved : goal.loop-i-preserved
loop-i-preserved c = change-step forgotten c.self.inside.words.items c.loop-i.self-inside.words.items c.loop-i.i c.index.result.now _ c.loop-i.invariant c.index.ensures (omega (arith, c.loop-i-test.true, c.len-i-end.ensures)) refl

pub invariant_of-self : goal.invariant_of-self
invariant_of-self c = subst AreWords (sym (ap openings c.loop-i.invariant ∙ openings-forgotten c.loop-i.i c.self.inside.words.items)) c.self.invariant

pub returns-clause-opened : goal.returns-clause-opened
returns-clause-opened c = ap openings c.loop-i.invariant ∙ (openings-forgotten c.loop-i.i c.self.inside.words.items ∙ ap openings c.self.view_is)

pub returns-clause-cleared : goal.returns-clause-cleared
returns-clause-cleared c = ap own_writes c.loop-i.invariant ∙ writes-changed forgotten (λ w. refl) 0 c.loop-i.i c.self.inside.words.items (omega (arith, c.loop-i-test.false, c.len-i-end.ensures))
