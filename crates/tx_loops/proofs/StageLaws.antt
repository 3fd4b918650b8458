-- Laws of where a caller stands in its loop.
use Rattle.std.proofs.Common.{ℕ, ◌≡◌, ◌∙◌, List, true, false, refl, sym, ap, subst}
use Rattle.std.specs.Prelude.{Bool, Option, None, Some, Result, Ok, Err}
use Rattle.stm_model.specs.declared.config.Config.{Config}
use Rattle.stm_model.specs.declared.rule.AnyMem.{AnyMem}
use Rattle.stm_rule.specs.Callers.{Handle, having_told}
use Rattle.stm_tx.specs.Descs.{known}
use Rattle.tx_checked.specs.Learning.{HasTold, IsAsked}
use Rattle.rule_base.specs.Notes.{after_seat_load}
use Rattle.rule_base.specs.declared.views.View.{View}
use Rattle.rule_base.specs.Own.{Own}
use Rattle.stm_model.specs.Logs.{Log}
use Rattle.stm_model.specs.declared.alg.Alg.{Alg}
use Rattle.stm_model.specs.declared.alg.Alg.TheVariants.{Cgl, Tml, OrecLazy, OrecEager, RingSw, Serial}
use Rattle.stm_answers.specs.CallerState.{CallerState, written_under}
use Rattle.tx_checked.specs.CheckedCallers.{config_of, known_to}
use Rattle.tx_checked.specs.declared.checked_caller.CheckedCaller.{CheckedCaller}
use Rattle.tx_checked.specs.declared.errand.Errand.{Errand}
use Rattle.tx_checked.specs.declared.misuse.Misuse.{Misuse}
use Rattle.tx_checked.specs.declared.misuse.Misuse.TheVariants as wrong
use Rattle.tx_checked.specs.declared.phase.CallerPhase.{CallerPhase}
use Rattle.tx_checked.specs.declared.phase.CallerPhase.TheVariants as phases
use Rattle.tx_checked.specs.Misuses.{errand_at, or_else, outside_at}
use Rattle.tx_checked.specs.Phases.{IsInPhase}
use Rattle.tx_checked.specs.Tells.{Tells}
use Rattle.tx_loops.specs.declared.stage.Stage.{Stage}
use Rattle.tx_loops.specs.declared.stage.Stage.TheVariants.{Free, Direct, Bound, Lapsed, Buffered, Asking, Committing}
use Rattle.tx_loops.specs.Stages.{IsAtStage}

-- who is in an attempt isn't outside, and makes no call that must be alone
pub in-outside : (p : CallerPhase) (v : CallerState) → IsInPhase p v → v.running ≡ true → outside_at p ≡ Some wrong.InAttempt
in-outside phases.Idle v h r = absurd (let no : true ≡ false = sym r ∙ (h.0 refl).1 in cc)
in-outside phases.Running v h r = refl
in-outside phases.Beside v h r = refl
in-outside phases.Committing v h r = refl
in-outside phases.Closing v h r = absurd (let no : true ≡ false = sym r ∙ (h.4 refl).running in cc)

pub in-errand : (asked errand : Errand) (p : CallerPhase) (v : CallerState) → IsInPhase p v → v.running ≡ true → errand_at asked errand p ≡ Some wrong.InAttempt
in-errand asked errand phases.Idle v h r = absurd (let no : true ≡ false = sym r ∙ (h.0 refl).1 in cc)
in-errand asked errand phases.Running v h r = refl
in-errand asked errand phases.Beside v h r = refl
in-errand asked errand phases.Committing v h r = refl
in-errand asked errand phases.Closing v h r = absurd (let no : true ≡ false = sym r ∙ (h.4 refl).running in cc)

pub first-wrong : (e : Misuse) (o p : Option Misuse) → o ≡ Some e → or_else o p ≡ Some e
first-wrong e None p is = absurd (let no : None ≡ Some e = is in cc)
first-wrong e (Some f) p is = is

-- a call that fits only outside attempts leaves a body's attempt alone
pub stays-at : {A : Type 0} (s : Stage) (ws : List (ℕ × ℕ)) (m n : CheckedCaller) (fits : Option Misuse) (Told : A → Type 0) (r : Result A Misuse)
    → ((known_to m).running ≡ true → fits ≡ Some wrong.InAttempt) → Tells fits Told m n r
    → IsAtStage s (known_to m) (config_of m).words ws → IsAtStage s (known_to n) (config_of n).words ws
stays-at {A} s ws m n fits Told (Err e) wrongly h at = subst (λ (k : CheckedCaller). IsAtStage s (known_to k) (config_of k).words ws) (sym h.1) at
stays-at {A} s ws m n fits Told (Ok answer) wrongly h at = (
  (λ i. absurd (never (at.0 i).0.0)),
  (λ i. absurd (never (at.1 i).0.0)),
  (λ i. absurd (never (at.2 i).0.0)),
  (λ i. absurd (never (at.3 i).0.0)),
  (λ i. absurd (never (at.4 i).0)),
)
  where
    never : (known_to m).running ≡ true → ⊥
    never run = let no : Some wrong.InAttempt ≡ None = sym (wrongly run) ∙ h.0 in cc

-- nothing is so of a caller in no loop, or of one whose body's attempt has ended
pub at-free : (v : CallerState) (words : ℕ) (ws : List (ℕ × ℕ)) → IsAtStage Free v words ws
at-free v words ws = ((λ i. absurd (let no : Free ≡ Direct = i in cc)), (λ i. absurd (let no : Free ≡ Buffered = i in cc)), (λ i. absurd (let no : Free ≡ Bound = i in cc)), (λ i. absurd (let no : Free ≡ Asking = i in cc)), (λ i. absurd (let no : Free ≡ Committing = i in cc)))

pub at-lapsed : (v : CallerState) (words : ℕ) (ws : List (ℕ × ℕ)) → IsAtStage Lapsed v words ws
at-lapsed v words ws = ((λ i. absurd (let no : Lapsed ≡ Direct = i in cc)), (λ i. absurd (let no : Lapsed ≡ Buffered = i in cc)), (λ i. absurd (let no : Lapsed ≡ Bound = i in cc)), (λ i. absurd (let no : Lapsed ≡ Asking = i in cc)), (λ i. absurd (let no : Lapsed ≡ Committing = i in cc)))

-- the step of telling writes nothing
told-written : (a : Alg) (granted : Bool) (v : View) (own : Own) → written_under a granted (after_seat_load v) own ≡ written_under a granted v own
told-written Cgl granted v own = refl
told-written Tml granted v own = refl
told-written OrecLazy false v own = refl
told-written OrecLazy true v own = refl
told-written OrecEager false v own = refl
told-written OrecEager true v own = refl
told-written RingSw false v own = refl
told-written RingSw true v own = refl
told-written Serial granted v own = refl

told-log : (d : Handle AnyMem) → (known (having_told d)).log ≡ (known d).log
told-log d = ap (λ (ws : List (ℕ × ℕ)). record { reads = (known d).log.reads; writes = ws }) (told-written d.view.gate.algorithm d.view.gate.granted d.view d.own)

telling-at : (s : Stage) (words : ℕ) (ws : List (ℕ × ℕ)) (d : Handle AnyMem) → IsAtStage s (known d) words ws → IsAtStage s (known (having_told d)) words ws
telling-at s words ws d at = subst (λ (l : Log). IsAtStage s (record (known d) { log = l }) words ws) (sym (told-log d)) at

-- who tells another what it has seen stands where it stood
pub told-at : (s : Stage) (ws : List (ℕ × ℕ)) (m n : CheckedCaller) → HasTold m n → IsAtStage s (known_to m) (config_of m).words ws → IsAtStage s (known_to n) (config_of n).words ws
told-at s ws m n told at =
    let stm = told.stm in
    let config : config_of n ≡ config_of m = cc in
    subst (λ (d : Handle AnyMem). IsAtStage s (known d) (config_of n).words ws) (sym told.desc)
    (telling-at s (config_of n).words ws m.desc (subst (λ (k : Config). IsAtStage s (known_to m) k.words ws) (sym config) at))

pub asked-at : (s : Stage) (ws : List (ℕ × ℕ)) (m n : CheckedCaller) (fits : Option Misuse) → IsAsked fits m n → IsAtStage s (known_to m) (config_of m).words ws → IsAtStage s (known_to n) (config_of n).words ws
asked-at s ws m n None asked at = told-at s ws m n asked at
asked-at s ws m n (Some e) asked at =
    let stm = asked.stm in
    let config : config_of n ≡ config_of m = cc in
    subst (λ (d : Handle AnyMem). IsAtStage s (known d) (config_of n).words ws) (sym asked.desc)
    (subst (λ (k : Config). IsAtStage s (known_to m) k.words ws) (sym config) at)
