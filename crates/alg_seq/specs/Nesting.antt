-- Marks of the algorithms of one lock or one clock word, and what a roll back in place goes through.
use Rattle.std.specs.Prelude.{ℕ, ◌≡◌, ◌++◌, Bool, true, false, List, take}
use Rattle.stm_model.specs.declared.alg.Alg.{Alg}
use Rattle.stm_model.specs.declared.alg.Alg.TheVariants.{Cgl, Tml, OrecLazy, OrecEager, RingSw, Serial}
use Rattle.rule_base.specs.declared.views.TracedStep.{TracedStep}
use Rattle.rule_base.specs.declared.views.View.{View}
use Rattle.rule_base.specs.Bridge.{addresses, items}
use Rattle.rule_base.specs.Encodings.{fenced}
use Rattle.rule_base.specs.History.{touches, Inside}
use Rattle.rule_seq.specs.CglSteps.{HasLock}
use Rattle.stm_answers.specs.Causes.{has_item}

-- the algorithms of one lock or one clock word
abbrev pub is_sequential : Alg → Bool
is_sequential Cgl = true
is_sequential Tml = true
is_sequential OrecLazy = false
is_sequential OrecEager = false
is_sequential RingSw = false
is_sequential Serial = true

-- these are the words that the attempt has stored, and the undo log has an old value of each
pub record HasOlds (words : ℕ) (us ws : List (ℕ × ℕ)) (v : View) : Type 0 where
  pub has : HasLock v
  pub started : v.lock.started ≡ true
  pub undone : us ≡ items v.lock.undo
  pub stored : ws ≡ items v.attempt.stores
  pub undoable : (a : ℕ) → touches v.attempt.stores a ≡ true → touches v.lock.undo a ≡ true
  pub within : Inside words v.lock.undo

-- of the words stored the first so many are left
pub record IsStoredBack (left : ℕ) (v w : View) : Type 0 where
  pub more : List TracedStep
  pub is : w ≡ record v { attempt = record v.attempt { stores = w.attempt.stores }; steps = record v.steps { step_trace = more ++ v.steps.step_trace } }
  pub stores : items w.attempt.stores ≡ take left (items v.attempt.stores)

-- the words of these items, and no others, are stored, and each may be stored again
pub record CanStoreAgain (words : ℕ) (ws : List (ℕ × ℕ)) (v : View) : Type 0 where
  pub has : HasLock v
  pub started : v.lock.started ≡ true
  pub within : Inside words v.lock.undo
  pub stored : addresses ws ≡ addresses (items v.attempt.stores)
  pub undoable : (a : ℕ) → has_item a ws ≡ true → touches v.lock.undo a ≡ true
  pub spared : (a : ℕ) → has_item a ws ≡ true → fenced v.gate.fence a ≡ false

-- they have these values
pub record IsStoredAgain (ws : List (ℕ × ℕ)) (v w : View) : Type 0 where
  pub more : List TracedStep
  pub is : w ≡ record v { attempt = record v.attempt { stores = w.attempt.stores }; steps = record v.steps { step_trace = more ++ v.steps.step_trace } }
  pub stores : items w.attempt.stores ≡ ws
