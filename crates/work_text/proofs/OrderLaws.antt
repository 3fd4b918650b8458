-- Operations in their order, and one more.
use Rattle.std.proofs.Common.{◌≡◌, List, [], ◌∷◌, ◌++◌, Bool, true, false, ◌||◌, refl, sym, ap, ◌∙◌, subst}
use Rattle.work_script.specs.declared.op.Op.{Op}
use Rattle.work_script.specs.Operations.{is_irrev}
use Rattle.work_script.specs.Scripts.{has_irrev}
use Rattle.work_text.specs.Parsed.{IsAllowed, AreInOrder}

or-assoc : (a b c : Bool) → (a || b) || c ≡ a || (b || c)
or-assoc true b c = refl
or-assoc false b c = refl

or-false : (a : Bool) → a || false ≡ a
or-false true = refl
or-false false = refl

pub irrev-snoc : (ops : List Op) (op : Op) → has_irrev (ops ++ op ∷ []) ≡ has_irrev ops || is_irrev op
irrev-snoc [] op = or-false (is_irrev op)
irrev-snoc (x ∷ ops) op = ap (λ b. is_irrev x || b) (irrev-snoc ops op) ∙ sym (or-assoc (is_irrev x) (has_irrev ops) (is_irrev op))

pub order-snoc : (asked : Bool) (ops : List Op) (op : Op) → AreInOrder asked ops → IsAllowed (asked || has_irrev ops) op → AreInOrder asked (ops ++ op ∷ [])
order-snoc asked [] op h last = (subst (λ b. IsAllowed b op) (or-false asked) last, tt)
order-snoc asked (x ∷ ops) op h last =
    (h.0, order-snoc (asked || is_irrev x) ops op h.1 (subst (λ b. IsAllowed b op) (sym (or-assoc asked (is_irrev x) (has_irrev ops))) last))
