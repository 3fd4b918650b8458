use Rattle.std.proofs.Common.{◌<◌, List, length, Some, slice_set, refl, sym, ap, ◌∙◌, subst}
use Rattle.stm_model.specs.declared.plain.PlainWord.{PlainWord}
use Rattle.stm_model.specs.Logs.{Writes}
use Rattle.stm_model.specs.Memories.{AreWords}
use Rattle.stm_model.specs.Plains.{plain_log, openings}
use Rattle.stm_model.specs.PlainLaws.{plain-writes, plain-explained, openings-set}
use Rattle.stm_model.proofs.plain.PlainAccess.write.Goals as goal

pub returns-clause-value : goal.returns-clause-value
returns-clause-value c =
    let ws = c.self.inside.words.items in
    subst (λ (xs : List PlainWord). Writes (plain_log xs) c.args.a c.args.v (plain_log (slice_set ws c.args.a (record { opening = c.index.result.now.opening; own = Some c.args.v })))) c.self.view_is
    (plain-writes ws c.args.a c.index.result.now _ c.args.v (subst (λ (xs : List PlainWord). c.args.a < length xs) (sym c.self.view_is) c.requires.within) (ap (λ (w : PlainWord). w.opening) c.index.ensures) refl)

pub invariant_of-self : goal.invariant_of-self
invariant_of-self c = subst AreWords (sym (openings-set c.self.inside.words.items c.args.a c.index.result.now _ (ap (λ (w : PlainWord). w.opening) c.index.ensures))) c.self.invariant

pub returns-clause-explained : goal.returns-clause-explained
returns-clause-explained c = plain-explained _ (invariant_of-self c)

pub returns-clause-good : goal.returns-clause-good
returns-clause-good c = λ m.
    let same = openings-set c.self.inside.words.items c.args.a c.index.result.now (record { opening = c.index.result.now.opening; own = Some c.args.v }) (ap (λ (w : PlainWord). w.opening) c.index.ensures) in
    let was = ap openings c.self.view_is in
    ((λ e. e ∙ (sym was ∙ sym same)), (λ e. e ∙ (same ∙ was)))
