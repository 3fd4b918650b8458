use Rattle.std.proofs.Common.{◌∙◌, ℕ, List, refl, ap, inl, arith, sym, subst}
use Rattle.std.specs.Prelude.{slice_index}
use Rattle.example_bank_jobs.specs.Banks.{IsPaid}
use Rattle.example_bank.proofs.run.Goals as goal

pub with_memory-requires-clause-good : goal.with_memory-requires-clause-good
with_memory-requires-clause-good g c κs within = rw c.sizes.ensures.words (refl, inl refl)

pub returns-clause-audited : goal.returns-clause-audited
returns-clause-audited g c = subst IsPaid (sym c.index-audited.ensures) (c.in_ok-came.ensures.came.stories 0 c.index-audited.result.now (let four = c.sizes.ensures.callers in omega arith)).told

pub returns-clause-total : goal.returns-clause-total
returns-clause-total g c = subst IsPaid (sym (c.total_of-total.ensures ∙ ap (λ (ws : List ℕ). slice_index ws 8) c.deref.ensures.value)) c.in_ok-came.ensures.came.kept.1
