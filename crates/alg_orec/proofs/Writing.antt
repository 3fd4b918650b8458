-- What was written, stored in the heap one address after the other.
use Rattle.std.proofs.Common.{ℕ, ◌≡◌, List, ◌∷◌, ◌++◌, sym, ap, ◌∙◌}
use Rattle.std.specs.Prelude.{None}
use Rattle.rule_base.specs.declared.entries.Cell.{Cell}
use Rattle.rule_base.specs.declared.layout.At.TheVariants.{Heap}
use Rattle.rule_base.specs.declared.seats.SeatView.{SeatView}
use Rattle.rule_base.specs.declared.views.Act.TheVariants.{Store}
use Rattle.rule_base.specs.declared.views.TracedStep.{TracedStep}
use Rattle.rule_base.specs.declared.views.View.{View}
use Rattle.rule_base.specs.History.{without}
use Rattle.rule_base.specs.StepKinds.{view_after}
use Rattle.rule_base.specs.World.{World}
use Rattle.rule_orec.specs.OrecSteps.{orec_write_back}
use Rattle.rule_promoted.specs.PromotedSteps.{direct_store}

-- the view with this still to be stored, and with these steps added
abbrev pub owing : View → List Cell → List TracedStep → View
owing v back more = record v { owned = record v.owned { back = back }; steps = record v.steps { step_trace = more ++ v.steps.step_trace } }

abbrev pub store_item : ℕ → ℕ → TracedStep
store_item a x = record { place = Heap a; act = Store x; found = None }

pub written-step : {K : Type 0} → (first s t : SeatView K) (more : List TracedStep) (a x : ℕ) (m : World)
    → s ≡ record first { view = owing first.view s.view.owned.back more }
    → t ≡ record s { view = view_after (orec_write_back a x) m s.view x }
    → t ≡ record first { view = owing first.view t.view.owned.back (store_item a x ∷ more) }
written-step {K} first s t more a x m e p = p ∙ (ap (λ (y : SeatView K). record y { view = view_after (orec_write_back a x) m y.view x }) e
    ∙ (λ i. record first { view = owing first.view (sym back i) (store_item a x ∷ more) }))
  where
    back : t.view.owned.back ≡ without s.view.owned.back a
    back = ap (λ (y : SeatView K). y.view.owned.back) p

-- the view with these stores of a promoted attempt, and with these steps added
abbrev pub storing : View → List Cell → List TracedStep → View
storing v stores more = record v { attempt = record v.attempt { stores = stores }; steps = record v.steps { step_trace = more ++ v.steps.step_trace } }

pub stored-step : {K : Type 0} → (first s t : SeatView K) (more : List TracedStep) (a x : ℕ) (m : World)
    → s ≡ record first { view = storing first.view s.view.attempt.stores more }
    → t ≡ record s { view = view_after (direct_store a x) m s.view x }
    → t ≡ record first { view = storing first.view t.view.attempt.stores (store_item a x ∷ more) }
stored-step {K} first s t more a x m e p = p ∙ (ap (λ (y : SeatView K). record y { view = view_after (direct_store a x) m y.view x }) e
    ∙ (λ i. record first { view = storing first.view (sym stores i) (store_item a x ∷ more) }))
  where
    stores : t.view.attempt.stores ≡ record { at = a; value = x } ∷ s.view.attempt.stores
    stores = ap (λ (y : SeatView K). y.view.attempt.stores) p
