-- The seat of a caller after a step.
use Rattle.std.proofs.Common.{◌≡◌, ap, ◌∙◌}
use Rattle.rule_base.specs.declared.seats.SeatView.{SeatView}
use Rattle.rule_base.specs.declared.views.View.{View}

-- only its view changed, so far and in this step
pub seat-on : {K : Type 0} (first s t : SeatView K) (v : View) → s ≡ record first { view = s.view } → t ≡ record s { view = v } → t ≡ record first { view = t.view }
seat-on {K} first s t v e f =
    λ i.
    record {
      who = (ap (λ (y : SeatView K). y.who) f ∙ ap (λ (y : SeatView K). y.who) e) i;
      view = t.view;
      gathered = (ap (λ (y : SeatView K). y.gathered) f ∙ ap (λ (y : SeatView K). y.gathered) e) i;
    }
