-- The records that an attempt holds, given back one after the other.
use Rattle.std.proofs.Common.{ℕ, ◌≡◌, ◌<◌, ◌≤◌, ◌+◌, List, [], ◌∷◌, length, drop, get_or, Bool, true, false, refl, sym, ap, ◌∙◌, arith, subst}
use Rattle.std.specs.Prelude.{None, if◌then◌else◌, ◌==◌}
use Rattle.stm_model.specs.declared.config.TheConstants.{CLOCK_LIMIT}
use Rattle.stm_model.specs.Memories.{Once}
use Rattle.rule_base.specs.declared.entries.Cell.{Cell}
use Rattle.rule_base.specs.declared.layout.At.TheVariants.{Record}
use Rattle.rule_base.specs.declared.seats.SeatView.{SeatView}
use Rattle.rule_base.specs.declared.views.Act.TheVariants.{Store}
use Rattle.rule_base.specs.declared.views.TracedStep.{TracedStep}
use Rattle.rule_base.specs.Bridge.{items}
use Rattle.rule_base.specs.Encodings.{free_record}
use Rattle.rule_base.specs.History.{over, touches, without, Inside}
use Rattle.rule_base.specs.Lemmas.HistoryLemmas.{touches-without, over-without}
use Rattle.rule_base.specs.StepKinds.{view_after}
use Rattle.rule_base.specs.World.{World}
use Rattle.rule_orec.specs.OrecSteps.{orec_release}
use Rattle.stm_gate.specs.Logging.{item-touched}
use Rattle.stm_gate.proofs.Peeling.{drop-all, peeled, inside-without, no-items}
use Rattle.stm_rule.specs.Counting.{TakesAtMost}
use Rattle.stm_rule.specs.declared.local.Local.{Local}
use Rattle.alg_orec.specs.Locking.{holding_still, ReleasesAll}
use Rattle.alg_orec.specs.Validating.{HasVersions}

-- a record that is given back
abbrev pub release_item : ℕ → ℕ → TracedStep
release_item r version = record { place = Record r; act = Store (free_record version); found = None }

pub released-step : {K : Type 0} → (first s t : SeatView K) (more : List TracedStep) (r version x : ℕ) (m : World)
    → s ≡ record first { view = holding_still first.view s.view.owned.held more }
    → t ≡ record s { view = view_after (orec_release r version) m s.view x }
    → t ≡ record first { view = holding_still first.view t.view.owned.held (release_item r version ∷ more) }
released-step {K} first s t more r version x m e p = p ∙ (ap (λ (y : SeatView K). record y { view = view_after (orec_release r version) m y.view x }) e
    ∙ (λ i. record first { view = holding_still first.view (sym held i) (release_item r version ∷ more) }))
  where
    held : t.view.owned.held ≡ without s.view.owned.held r
    held = ap (λ (y : SeatView K). y.view.owned.held) p

-- What stands once i of the records that an attempt held were given back: first is the seat before, and s that after.
module _ {K : Type 0} (records : ℕ) (first : SeatView K) (held : List (ℕ × ℕ)) where
  pub record Gives (i : ℕ) (s : SeatView K) : Type 0 where
    pub more : List TracedStep
    pub seat : s ≡ record first { view = holding_still first.view s.view.owned.held more }
    pub left : items s.view.owned.held ≡ drop i held
    pub places : Inside records s.view.owned.held
    pub steps : TakesAtMost i first.view s.view

  pub gives-none : held ≡ items first.view.owned.held → Inside records first.view.owned.held → Gives 0 first
  gives-none locks places = record { more = []; seat = refl; left = sym locks; places = places; steps = omega arith }

  module _ (i : ℕ) (s : SeatView K) (g : Gives i s) where
    pub gives-all : length held ≤ i → ReleasesAll first.view s.view
    gives-all most = record {
      more = g.more;
      is = ap (λ (y : SeatView K). y.view) g.seat ∙ ap (λ (cs : List Cell). holding_still first.view cs g.more)
          (no-items s.view.owned.held (g.left ∙ drop-all held i most));
    }

    -- the next one
    module _ (p : ℕ × ℕ) (low : i < length held) (once : Once held) (is : p ≡ get_or held i (0, 0)) where
      pub next-held : touches s.view.owned.held p.0 ≡ true
      next-held = (peeled held i s.view.owned.held p low once g.left is).0

      pub gives-more : (t : SeatView K) (version : ℕ) → t.view.owned.held ≡ without s.view.owned.held p.0 → t ≡ record
          first { view = holding_still first.view t.view.owned.held (release_item p.0 version ∷ g.more) } → Gives
          (i + 1) t
      gives-more t version without seat = record {
        more = release_item p.0 version ∷ g.more;
        seat = seat;
        left = ap items without ∙ (peeled held i s.view.owned.held p low once g.left is).2;
        places = subst (λ (cs : List Cell). Inside records cs) (sym without)
            (inside-without records p.0 s.view.owned.held g.places);
        steps = (let a = ap (λ (y : SeatView K). length y.view.steps.step_trace) seat in let b = ap
            (λ (y : SeatView K). length y.view.steps.step_trace) g.seat in let q = g.steps in omega arith);
      }

-- no version is above the limit
abbrev pub Versions : List Cell → Type 0
Versions held = (r : ℕ) → touches held r ≡ true → over held r 0 ≤ CLOCK_LIMIT

pub versions-of : (l : Local) (held : List Cell) → l.locks.items ≡ items held → HasVersions l → Versions held
versions-of l held is versions r t = versions r (over held r 0) (rw is (item-touched held r t))

pub versions-without : (held : List Cell) (a : ℕ) → Versions held → Versions (without held a)
versions-without held a h r t = by (a == r) refl (sym (touches-without held a r) ∙ t)
  where
    by : (q : Bool) → (a == r) ≡ q → (if a == r then false else touches held r) ≡ true → over (without held a) r 0 ≤ CLOCK_LIMIT
    by true q e = absurd (let f : false ≡ true = rw q at e in cc)
    by false q e =
        let f : touches held r ≡ true = rw q at e in
        let same : over (without held a) r 0 ≡ over held r 0 = over-without held a r 0 ∙ ap (λ (b : Bool). if b then 0 else over held r 0) q in
        let low = h r f in omega arith
