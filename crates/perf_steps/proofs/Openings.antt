-- The descriptors of a new memory, taken off its list one by one.
use Rattle.std.proofs.Common.{◌≡◌, ℕ, suc, List, [], ◌∷◌, ◌++◌, ap, subst}
use Rattle.stm_model.specs.declared.rule.AnyMem.{AnyMem}
use Rattle.rule_base.specs.declared.views.View.{View}
use Rattle.stm_rule.specs.Callers.{Handle, AllOpened}
use Rattle.stm_rule.specs.declared.stm.Stm.{Stm}
use Rattle.stm_answers.specs.CallerState.{is_in, is_closing, locked_under}
use Rattle.perf_steps.specs.Fresh.{IsFresh}

module _ (m : Stm AnyMem) where
  pub fresh : (n : ℕ) (xs ys : List (Handle AnyMem)) (d : Handle AnyMem) → AllOpened m n (xs ++ d ∷ ys) → IsFresh m d
  fresh n [] ys d h = (
    h.0,
    (
      ap (λ (v : View). v.gate.phase) h.2,
      ap (λ (v : View). is_in v.gate.phase) h.2,
      ap (λ (v : View). is_closing v.gate.phase) h.2,
      ap (λ (v : View). v.gate.holds) h.2,
      ap (λ (v : View). locked_under v.gate.algorithm v.lock.taken v.tml.writer) h.2,
    ),
  )
  fresh n (x ∷ xs) ys d h = fresh (suc n) xs ys d h.4

  front : (n : ℕ) (xs ys : List (Handle AnyMem)) → AllOpened m n (xs ++ ys) → AllOpened m n xs
  front n [] ys h = tt
  front n (x ∷ xs) ys h = (h.0, h.1, h.2, h.3, front (suc n) xs ys h.4)

  pub taken : (ds es fs gs : List (Handle AnyMem)) (a b c : Handle AnyMem) → ds ≡ es ++ c ∷ [] → es ≡ fs ++ b ∷ [] → fs ≡ gs ++ a ∷ [] → AllOpened m 0 ds → IsFresh m a × IsFresh m b × IsFresh m c
  taken ds es fs gs a b c p q r h =
      let last = subst (AllOpened m 0) p h in
      let middle = subst (AllOpened m 0) q (front 0 es (c ∷ []) last) in
      let first = subst (AllOpened m 0) r (front 0 fs (b ∷ []) middle) in
      (fresh 0 gs [] a first, fresh 0 fs [] b middle, fresh 0 es [] c last)
