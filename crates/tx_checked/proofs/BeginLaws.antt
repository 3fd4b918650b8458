-- A begin by what is written down of it.
use Rattle.std.proofs.Common.{◌≡◌, ◌∙◌, sym, ap, subst}
use Rattle.std.specs.Prelude.{Option, None, Ok}
use Rattle.stm_answers.specs.declared.answers.Begin.{Begin}
use Rattle.stm_answers.specs.declared.answers.Begin.TheVariants as begins
use Rattle.tx_checked.specs.declared.calls.Opened.{Opened}
use Rattle.tx_checked.specs.declared.calls.Opened.TheVariants as opens
use Rattle.tx_checked.specs.declared.checked_caller.CheckedCaller.{CheckedCaller}
use Rattle.tx_checked.specs.declared.refusal.Refusal.{Refusal}
use Rattle.tx_checked.specs.Misuses.{outside}
use Rattle.tx_checked.specs.Opens.{HasOpened, number_found, with_number, without_number}
use Rattle.tx_checked.specs.Tells.{HasBegun, Tells, begin_refusal}

anew : (r : Begin) (o : Opened) (old new : Option Refusal) → o ≡ without_number r → new ≡ begin_refusal r old → with_number o (number_found new) ≡ r
anew (begins.Begun alg) o old new is told = ap (λ (p : Opened). with_number p (number_found new)) is
anew (begins.Closed gate) o old new is told = ap (λ (p : Opened). with_number p (number_found new)) is ∙ ap (λ (q : Option Refusal). with_number opens.Closed (number_found q)) told
anew (begins.Held word) o old new is told = ap (λ (p : Opened). with_number p (number_found new)) is ∙ ap (λ (q : Option Refusal). with_number opens.Held (number_found q)) told
anew (begins.ClockFull clock) o old new is told = ap (λ (p : Opened). with_number p (number_found new)) is ∙ ap (λ (q : Option Refusal). with_number opens.ClockFull (number_found q)) told

pub begun_anew : (m n : CheckedCaller) (o : Opened) (r : Begin) → outside m ≡ None → HasOpened m n o → r ≡ with_number o (number_found n.refusal) → Tells (outside m) (HasBegun m n) m n (Ok r)
begun_anew m n o r fits h is =
    let same : r ≡ h.1 = is ∙ anew h.1 o m.refusal n.refusal h.2 h.3.2 in
    (fits, h.0, subst (λ (q : Begin). HasBegun m n q) (sym same) h.3)
