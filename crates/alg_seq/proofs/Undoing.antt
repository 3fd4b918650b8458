-- The stores of an attempt that are taken back or made again, and the undo log beside them.
use Rattle.std.proofs.Common.{ℕ, ◌≡◌, List, ◌∷◌, ◌++◌, Bool, true, false, refl, sym, ap, ◌∙◌, arith, subst}
use Rattle.std.specs.Prelude.{None, ◌==◌, if◌then◌else◌}
use Rattle.std.proofs.lemmas.Bool.Decides.{nat_tests}
use Rattle.rule_base.specs.declared.entries.Cell.{Cell}
use Rattle.rule_base.specs.declared.views.TracedStep.{TracedStep}
use Rattle.rule_base.specs.declared.views.View.{View}
use Rattle.rule_base.specs.History.{touches, without}
use Rattle.rule_base.specs.declared.layout.At.TheVariants.{Heap}
use Rattle.rule_base.specs.declared.seats.SeatView.{SeatView}
use Rattle.rule_base.specs.declared.views.Act.TheVariants.{Store}
use Rattle.rule_base.specs.StepKinds.{view_after}
use Rattle.rule_base.specs.World.{World}
use Rattle.rule_seq.specs.CglSteps.{store_heap, store_back}

-- the view with these stores, and with these steps added
abbrev pub taken : View → List Cell → List TracedStep → View
taken v stores more = record v { attempt = record v.attempt { stores = stores }; steps = record v.steps { step_trace = more ++ v.steps.step_trace } }

-- a store more is covered where its address is
pub covers-more : (a x : ℕ) (stores undo : List Cell) → ((b : ℕ) → touches stores b ≡ true → touches undo b ≡ true) → touches undo a ≡ true
    → (b : ℕ) → touches (record { at = a; value = x } ∷ stores) b ≡ true → touches undo b ≡ true
covers-more a x stores undo h there b t = by (a == b) refl t
  where
    by : (q : Bool) → (a == b) ≡ q → (if q then true else touches stores b) ≡ true → touches undo b ≡ true
    by true e f = subst (λ (k : ℕ). touches undo k ≡ true) (let is : a ≡ b = grind (arith, nat_tests) in is) there
    by false e f = h b f

pub taken-step : {K : Type 0} → (first s t : SeatView K) (more : List TracedStep) (a x : ℕ) (m : World)
    → s ≡ record first { view = taken first.view s.view.attempt.stores more }
    → t ≡ record s { view = view_after (store_back a x) m s.view x }
    → t ≡ record first { view = taken first.view t.view.attempt.stores (record { place = Heap a; act = Store x; found = None } ∷ more) }
taken-step {K} first s t more a x m e p = p ∙ (ap (λ (y : SeatView K). record y { view = view_after (store_back a x) m y.view x }) e
    ∙ (λ i. record first { view = taken first.view (sym stores i) (record { place = Heap a; act = Store x; found = None } ∷ more) }))
  where
    stores : t.view.attempt.stores ≡ without s.view.attempt.stores a
    stores = ap (λ (y : SeatView K). y.view.attempt.stores) p

pub stored-step : {K : Type 0} → (first s t : SeatView K) (more : List TracedStep) (a x : ℕ) (m : World)
    → s ≡ record first { view = taken first.view s.view.attempt.stores more }
    → t ≡ record s { view = view_after (store_heap a x) m s.view x }
    → t ≡ record first { view = taken first.view t.view.attempt.stores (record { place = Heap a; act = Store x; found = None } ∷ more) }
stored-step {K} first s t more a x m e p = p ∙ (ap (λ (y : SeatView K). record y { view = view_after (store_heap a x) m y.view x }) e
    ∙ (λ i. record first { view = taken first.view (sym stores i) (record { place = Heap a; act = Store x; found = None } ∷ more) }))
  where
    stores : t.view.attempt.stores ≡ record { at = a; value = x } ∷ s.view.attempt.stores
    stores = ap (λ (y : SeatView K). y.view.attempt.stores) p
