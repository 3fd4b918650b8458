-- What OrecEager wrote is restored, and its records are given back, one after the other.
use Rattle.std.proofs.Common.{ℕ, zero, suc, ◌≡◌, ◌<◌, ◌≤◌, ◌+◌, List, [], ◌∷◌, length, get_or, drop, drop-cons, Bool, true, false, refl, sym, ap, ◌∙◌, subst, arith, inl, inr}
use Rattle.std.specs.Prelude.{Some, None, ◌⊎◌, if◌then◌else◌, ◌==◌, max, nat_le}
use Rattle.std.proofs.lemmas.Bool.Decides.{nat_tests}
use Rattle.stm_model.specs.Memories.{item_at, Once}
use Rattle.rule_base.specs.declared.entries.Cell.{Cell}
use Rattle.rule_base.specs.declared.layout.At.TheVariants.{Heap}
use Rattle.rule_base.specs.declared.seats.SeatView.{SeatView}
use Rattle.rule_base.specs.declared.views.Act.TheVariants.{Store}
use Rattle.rule_base.specs.declared.views.TracedStep.{TracedStep}
use Rattle.rule_base.specs.Bridge.{items}
use Rattle.rule_base.specs.Lemmas.BridgeLemmas.{item-some}
use Rattle.rule_base.specs.History.{over, touches, without}
use Rattle.rule_base.specs.Lemmas.HistoryLemmas.{touches-without, over-without}
use Rattle.rule_base.specs.StepKinds.{view_after}
use Rattle.rule_base.specs.World.{World}
use Rattle.rule_orec.specs.OrecSteps.{orec_restore}
use Rattle.rule_promoted.specs.PromotedSteps.{direct_release}
use Rattle.rule_promoted.specs.RaisingSteps.{direct_up}
use Rattle.stm_gate.proofs.Peeling.{drop-all, untouched-none}
use Rattle.stm_answers.specs.Causes.{has_item, is_some}
use Rattle.alg_orec.specs.EagerEnding.{restoring, AllBelow, IsNewest}
use Rattle.alg_orec.specs.Locking.{holding_still}
use Rattle.alg_orec.proofs.Releasing.{release_item}

-- each item has its own value at its address
item-here : (ws : List (ℕ × ℕ)) (i : ℕ) (p : ℕ × ℕ) → i < length ws → Once ws → p ≡ get_or ws i (0, 0) → item_at p.0 ws ≡ Some p.1
item-here [] i p low once e = absurd (omega arith)
item-here (w ∷ ws) zero p low once e = subst (λ (q : ℕ × ℕ). item_at q.0 (w ∷ ws) ≡ Some q.1) (sym e) (let here : (w.0 == w.0) ≡ true = grind (arith, nat_tests) in rw here refl)
item-here (w ∷ ws) (suc i) p low once e = by (w.0 == p.0) refl (item-here ws i p (omega arith) once.1 e)
  where
    by : (b : Bool) → (w.0 == p.0) ≡ b → item_at p.0 ws ≡ Some p.1 → (if b then Some w.1 else item_at p.0 ws) ≡ Some p.1
    by true q h = absurd (let s : w.0 ≡ p.0 = grind (arith, nat_tests) in let f : None ≡ Some p.1 = sym once.0 ∙ (ap (λ (k : ℕ). item_at k ws) s ∙ h) in cc)
    by false q h = h

-- a word that is restored
abbrev pub restore_item : ℕ → ℕ → TracedStep
restore_item a x = record { place = Heap a; act = Store x; found = None }

pub restored-step : {K : Type 0} → (first s t : SeatView K) (more : List TracedStep) (a x y : ℕ) (m : World)
    → s ≡ record first { view = restoring first.view s.view.owned.in_place more }
    → t ≡ record s { view = view_after (orec_restore a x) m s.view y }
    → t ≡ record first { view = restoring first.view t.view.owned.in_place (restore_item a x ∷ more) }
restored-step {K} first s t more a x y m e p = p ∙ (ap (λ (z : SeatView K). record z { view = view_after (orec_restore a x) m z.view y }) e
    ∙ (λ i. record first { view = restoring first.view (sym in_place i) (restore_item a x ∷ more) }))
  where
    in_place : t.view.owned.in_place ≡ without s.view.owned.in_place a
    in_place = ap (λ (z : SeatView K). z.view.owned.in_place) p

-- an item's old value is that of its address
pub old-value : (us : List (ℕ × ℕ)) (i : ℕ) (undo : List Cell) (p : ℕ × ℕ) → i < length us → Once us → us ≡ items undo → p ≡ get_or us i (0, 0) → (touches undo p.0 ≡ true) × (p.1 ≡ over undo p.0 0)
old-value us i undo p low once is at = let t = item-some undo p.0 p.1 (sym (ap (item_at p.0) is) ∙ item-here us i p low once at) in (t.0, sym t.1)

-- what is still in place is in the rest of the undo log
abbrev pub IsAhead : ℕ → List (ℕ × ℕ) → List Cell → Type 0
IsAhead i us in_place = (a : ℕ) → touches in_place a ≡ true → has_item a (drop i us) ≡ true

pub ahead-more : (us : List (ℕ × ℕ)) (i : ℕ) (in_place : List Cell) (p : ℕ × ℕ) → i < length us → p ≡ get_or us i (0, 0) → IsAhead i us in_place → IsAhead (i + 1) us (without in_place p.0)
ahead-more us i in_place p low at ahead a t = by (p.0 == a) refl (sym (touches-without in_place p.0 a) ∙ t)
  where
    next : suc i ≡ i + 1
    next = omega arith

    whole : drop i us ≡ p ∷ drop (i + 1) us
    whole = drop-cons us i (0, 0) low ∙ ((λ j. sym at j ∷ drop (suc i) us) ∙ ap (λ (k : ℕ). p ∷ drop k us) next)

    by : (q : Bool) → (p.0 == a) ≡ q → (if p.0 == a then false else touches in_place a) ≡ true → has_item a (drop (i + 1) us) ≡ true
    by true q e = absurd (let f : false ≡ true = rw q at e in cc)
    by false q e =
        let f : touches in_place a ≡ true = rw q at e in
        let h : is_some (if p.0 == a then Some p.1 else item_at a (drop (i + 1) us)) ≡ true = sym (ap (has_item a) whole) ∙ ahead a f in
        rw q at h

pub ahead-none : (us : List (ℕ × ℕ)) (i : ℕ) (in_place : List Cell) → length us ≤ i → IsAhead i us in_place → in_place ≡ []
ahead-none us i in_place all ahead = untouched-none in_place (λ a t. let e : has_item a (drop i us) ≡ false = ap (has_item a) (drop-all us i all) in let no : true ≡ false = sym (ahead a t) ∙ e in cc)

-- a record that a promoted attempt gives back
pub direct-step : {K : Type 0} → (first s t : SeatView K) (more : List TracedStep) (r time x : ℕ) (m : World)
    → s ≡ record first { view = holding_still first.view s.view.owned.held more }
    → t ≡ record s { view = view_after (direct_release r time) m s.view x }
    → t ≡ record first { view = holding_still first.view t.view.owned.held (release_item r time ∷ more) }
direct-step {K} first s t more r time x m e p = p ∙ (ap (λ (z : SeatView K). record z { view = view_after (direct_release r time) m z.view x }) e
    ∙ (λ i. record first { view = holding_still first.view (sym held i) (release_item r time ∷ more) }))
  where
    held : t.view.owned.held ≡ without s.view.owned.held r
    held = ap (λ (z : SeatView K). z.view.owned.held) p

-- or gives back one later than it was
pub up-step : {K : Type 0} → (first s t : SeatView K) (more : List TracedStep) (r version x : ℕ) (m : World)
    → s ≡ record first { view = holding_still first.view s.view.owned.held more }
    → t ≡ record s { view = view_after (direct_up r version) m s.view x }
    → t ≡ record first { view = holding_still first.view t.view.owned.held (release_item r version ∷ more) }
up-step {K} first s t more r version x m e p = p ∙ (ap (λ (z : SeatView K). record z { view = view_after (direct_up r version) m z.view x }) e
    ∙ (λ i. record first { view = holding_still first.view (sym held i) (release_item r version ∷ more) }))
  where
    held : t.view.owned.held ≡ without s.view.owned.held r
    held = ap (λ (z : SeatView K). z.view.owned.held) p

pub below-without : (limit : ℕ) (held : List Cell) (a : ℕ) → AllBelow limit held → AllBelow limit (without held a)
below-without limit held a h r t = by (a == r) refl (sym (touches-without held a r) ∙ t)
  where
    by : (q : Bool) → (a == r) ≡ q → (if a == r then false else touches held r) ≡ true → over (without held a) r 0 < limit
    by true q e = absurd (let f : false ≡ true = rw q at e in cc)
    by false q e =
        let f : touches held r ≡ true = rw q at e in
        let same : over (without held a) r 0 ≡ over held r 0 = over-without held a r 0 ∙ ap (λ (b : Bool). if b then 0 else over held r 0) q in
        let low = h r f in omega arith

-- THE NEWEST VERSION: what was found of the first i items
pub record NewestSo (x i : ℕ) (ws : List (ℕ × ℕ)) : Type 0 where
  pub start : i ≡ 0 → x ≡ 0
  pub most : (r version : ℕ) → item_at r ws ≡ Some version → (version ≤ x) ⊎ (item_at r (drop i ws) ≡ Some version)
  pub one : 0 < i → (r : ℕ) × (item_at r ws ≡ Some x)

pub newest-none : (ws : List (ℕ × ℕ)) → NewestSo 0 0 ws
newest-none ws = record { start = λ e. refl; most = λ r version e. inr e; one = λ l. absurd (omega arith) }

pub newest-more : (x i : ℕ) (ws : List (ℕ × ℕ)) (p : ℕ × ℕ) (y : ℕ) → i < length ws → Once ws → p ≡ get_or ws i (0, 0) → x ≤ y → p.1 ≤ y → (y ≡ x) ⊎ (y ≡ p.1) → NewestSo x i ws → NewestSo y (i + 1) ws
newest-more x i ws p y low once at xs ps is h = record { start = λ e. absurd (omega arith); most = most; one = λ l. one is }
  where
    next : suc i ≡ i + 1
    next = omega arith

    whole : drop i ws ≡ p ∷ drop (i + 1) ws
    whole = drop-cons ws i (0, 0) low ∙ ((λ j. sym at j ∷ drop (suc i) ws) ∙ ap (λ (k : ℕ). p ∷ drop k ws) next)

    most : (r version : ℕ) → item_at r ws ≡ Some version → (version ≤ y) ⊎ (item_at r (drop (i + 1) ws) ≡ Some version)
    most r version e = by (h.most r version e)
      where
        by : (version ≤ x) ⊎ (item_at r (drop i ws) ≡ Some version) → (version ≤ y) ⊎ (item_at r (drop (i + 1) ws) ≡ Some version)
        by (inl l) = inl (omega arith)
        by (inr q) = go (p.0 == r) (sym (ap (item_at r) whole) ∙ q)
          where
            go : (b : Bool) → (if b then Some p.1 else item_at r (drop (i + 1) ws)) ≡ Some version → (version ≤ y) ⊎ (item_at r (drop (i + 1) ws) ≡ Some version)
            go true f = inl (let s : p.1 ≡ version = cc in omega arith)
            go false f = inr f

    here : item_at p.0 ws ≡ Some p.1
    here = item-here ws i p low once at

    one : (y ≡ x) ⊎ (y ≡ p.1) → (r : ℕ) × (item_at r ws ≡ Some y)
    one (inr s) = (p.0, here ∙ ap Some (sym s))
    one (inl s) = by (i == 0) refl
      where
        by : (b : Bool) → (i == 0) ≡ b → (r : ℕ) × (item_at r ws ≡ Some y)
        by true q = let none : i ≡ 0 = grind (arith, nat_tests) in let z = h.start none in let is_y : p.1 ≡ y = omega arith in (p.0, here ∙ ap Some is_y)
        by false q = let o = h.one (grind (arith, nat_tests)) in (o.0, o.1 ∙ ap Some (sym s))

pub max-either : (x y : ℕ) → (max x y ≡ x) ⊎ (max x y ≡ y)
max-either x y = by (nat_le x y) refl
  where
    by : (b : Bool) → nat_le x y ≡ b → (max x y ≡ x) ⊎ (max x y ≡ y)
    by true q = inr (let l : x ≤ y = grind (arith, nat_tests) in omega arith)
    by false q = inl (let l : y < x = grind (arith, nat_tests) in omega arith)

-- of all items
pub newest-all : (x i : ℕ) (ws : List (ℕ × ℕ)) → length ws ≤ i → NewestSo x i ws → IsNewest x ws
newest-all x i ws all h = (
  (λ r version e. by r version (h.most r version e)),
  (λ some. h.one (omega arith)),
)
  where
    none : drop i ws ≡ []
    none = drop-all ws i all

    by : (r version : ℕ) → (version ≤ x) ⊎ (item_at r (drop i ws) ≡ Some version) → version ≤ x
    by r version (inl l) = l
    by r version (inr q) = absurd (let f : None ≡ Some version = sym (ap (item_at r) none) ∙ q in cc)
