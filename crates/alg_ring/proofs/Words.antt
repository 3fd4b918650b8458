-- Lists of slot words that were loaded, and of the steps that loaded them.
use Rattle.std.proofs.Common.{ℕ, ◌≡◌, ◌≢◌, List, [], ◌∷◌, ◌++◌, Bool, true, false, refl, ap, ◌∙◌, arith}
use Rattle.std.specs.Prelude.{◌==◌, if◌then◌else◌}
use Rattle.std.proofs.lemmas.Bool.Decides.{nat_tests}
use Rattle.std.proofs.lemmas.List.Elements.{Contains-append_left, Contains-append_right}
use Rattle.std.specs.Prelude.{Some}
use Rattle.rule_base.specs.declared.layout.At.{At}
use Rattle.rule_base.specs.declared.views.SlotWord.{SlotWord}
use Rattle.rule_base.specs.declared.views.TracedStep.{TracedStep}
use Rattle.rule_ring.specs.Slots.{has_word, loaded_word}
use Rattle.stm_answers.specs.Evidence.{ClocksAre}
use Rattle.stm_answers.specs.SlotEvidence.{InStepTrace}

pub has-append : (xs ys : List SlotWord) (e i : ℕ) → has_word (xs ++ ys) e i ≡ (if has_word xs e i then true else has_word ys e i)
has-append [] ys e i = refl
has-append (x ∷ xs) ys e i = by (has-append xs ys e i) (x.time == e) (x.index == i)
  where
    by : has_word (xs ++ ys) e i ≡ (if has_word xs e i then true else has_word ys e i) → (p q : Bool)
        → (if p then (if q then true else has_word (xs ++ ys) e i) else has_word (xs ++ ys) e i)
        ≡ (if (if p then (if q then true else has_word xs e i) else has_word xs e i) then true else has_word ys e i)
    by rec true true = refl
    by rec true false = rec
    by rec false q = rec

pub loaded-append : (xs ys : List SlotWord) (e i : ℕ) → loaded_word (xs ++ ys) e i ≡ (if has_word xs e i then loaded_word xs e i else loaded_word ys e i)
loaded-append [] ys e i = refl
loaded-append (x ∷ xs) ys e i = by (loaded-append xs ys e i) (x.time == e) (x.index == i)
  where
    by : loaded_word (xs ++ ys) e i ≡ (if has_word xs e i then loaded_word xs e i else loaded_word ys e i) → (p q : Bool) → (if p then (if q then x.value else loaded_word (xs ++ ys) e i) else loaded_word (xs ++ ys) e i)
        ≡ (if (if p then (if q then true else has_word xs e i) else has_word xs e i) then (if p then (if q then x.value else loaded_word xs e i) else loaded_word xs e i) else loaded_word ys e i)
    by rec true true = refl
    by rec true false = rec
    by rec false q = rec

-- the words in front
pub front-has : (xs ys : List SlotWord) (e i : ℕ) → has_word xs e i ≡ true → (has_word (xs ++ ys) e i ≡ true) × (loaded_word (xs ++ ys) e i ≡ loaded_word xs e i)
front-has xs ys e i h = (
  has-append xs ys e i ∙ ap (λ (b : Bool). if b then true else has_word ys e i) h,
  loaded-append xs ys e i ∙ ap (λ (b : Bool). if b then loaded_word xs e i else loaded_word ys e i) h,
)

-- and those after
pub back-has : (xs ys : List SlotWord) (e i : ℕ) → (has_word xs e i ≡ true → ⊥) → (has_word (xs ++ ys) e i ≡ has_word ys e i) × (loaded_word (xs ++ ys) e i ≡ loaded_word ys e i)
back-has xs ys e i none = (
  has-append xs ys e i ∙ ap (λ (b : Bool). if b then true else has_word ys e i) (no (has_word xs e i) none),
  loaded-append xs ys e i ∙ ap (λ (b : Bool). if b then loaded_word xs e i else loaded_word ys e i) (no (has_word xs e i) none),
)
  where
    no : (b : Bool) → (b ≡ true → ⊥) → b ≡ false
    no true h = absurd (h refl)
    no false h = refl

-- a word that isn't 0 was loaded
pub loaded-some : (xs : List SlotWord) (e i : ℕ) → loaded_word xs e i ≢ 0 → has_word xs e i ≡ true
loaded-some [] e i h = absurd (h refl)
loaded-some (x ∷ xs) e i h = by (loaded-some xs e i) (x.time == e) (x.index == i) h
  where
    by : (loaded_word xs e i ≢ 0 → has_word xs e i ≡ true) → (p q : Bool)
        → (if p then (if q then x.value else loaded_word xs e i) else loaded_word xs e i) ≢ 0
        → (if p then (if q then true else has_word xs e i) else has_word xs e i) ≡ true
    by rec true true k = refl
    by rec true false k = rec k
    by rec false q k = rec k

-- the word loaded last
pub last-here : (xs : List SlotWord) (e i x : ℕ) → (has_word (record { time = e; index = i; value = x } ∷ xs) e i ≡ true) × (loaded_word (record { time = e; index = i; value = x } ∷ xs) e i ≡ x)
last-here xs e i x = by (e == e) (i == i) (grind (arith, nat_tests)) (grind (arith, nat_tests))
  where
    by : (p q : Bool) → p ≡ true → q ≡ true → ((if p then (if q then true else has_word xs e i) else has_word xs e i) ≡ true) × ((if p then (if q then x else loaded_word xs e i) else loaded_word xs e i) ≡ x)
    by true true a b = (refl, refl)
    by true false a b = absurd cc
    by false q a b = absurd cc

pub last-else : (xs : List SlotWord) (e i x j : ℕ) → i ≢ j
    → (has_word (record { time = e; index = i; value = x } ∷ xs) e j ≡ has_word xs e j)
    × (loaded_word (record { time = e; index = i; value = x } ∷ xs) e j ≡ loaded_word xs e j)
last-else xs e i x j apart = by (e == e) (i == j) (grind (arith, nat_tests))
  where
    by : (p q : Bool) → q ≡ false
        → ((if p then (if q then true else has_word xs e j) else has_word xs e j) ≡ has_word xs e j)
        × ((if p then (if q then x else loaded_word xs e j) else loaded_word xs e j) ≡ loaded_word xs e j)
    by true true b = absurd cc
    by true false b = (refl, refl)
    by false q b = (refl, refl)

-- it is that one, or an earlier one
pub last-of : (xs : List SlotWord) (e i x t j : ℕ) (P : Type 0) → (t ≡ e → j ≡ i → P) → (has_word xs t j ≡ true → P) → has_word (record { time = e; index = i; value = x } ∷ xs) t j ≡ true → P
last-of xs e i x t j P here else_ h = by (e == t) refl (i == j) refl h
  where
    by : (p : Bool) → (e == t) ≡ p → (q : Bool) → (i == j) ≡ q → (if p then (if q then true else has_word xs t j) else has_word xs t j) ≡ true → P
    by true a true b k = here (grind (arith, nat_tests)) (grind (arith, nat_tests))
    by true a false b k = else_ k
    by false a q b k = else_ k

-- steps before and after
pub step_trace-right : (more xs : List TracedStep) (place : At) (n : ℕ) → InStepTrace xs place n → InStepTrace (more ++ xs) place n
step_trace-right more xs place n f = (f.0, Contains-append_right more xs (record { place = place; act = f.0; found = Some n }) f.1)

pub step_trace-left : (xs more : List TracedStep) (place : At) (n : ℕ) → InStepTrace xs place n → InStepTrace (xs ++ more) place n
step_trace-left xs more place n f = (f.0, Contains-append_left xs more (record { place = place; act = f.0; found = Some n }) f.1)

pub clocks-append : (n : ℕ) (is js : List TracedStep) → ClocksAre n is → ClocksAre n js → ClocksAre n (is ++ js)
clocks-append n [] js a b = b
clocks-append n (i ∷ is) js a b = (a.0, clocks-append n is js a.1 b)
