-- What the end of a memory hands out.
use Rattle.std.specs.Prelude.{ℕ, ◌≡◌, ◌<◌, ◌≤◌, ◌++◌, List, None, true, slice_index, Result, Ok, Err}
use Rattle.rule_base.specs.Encodings.{fenced}
use Rattle.stm_model.specs.Histories.{Entry, memory_after, IsLegal}
use Rattle.stm_answers.specs.CallerState.{zeros}
use Rattle.tx_checked.specs.Alone.{IsTakeRefused}
use Rattle.tx_checked.specs.declared.errand.Errand.TheVariants.{End}
use Rattle.tx_checked.specs.declared.checked_caller.CheckedCaller.{CheckedCaller}
use Rattle.tx_checked.specs.declared.refusal.Refusal.{Refusal}
use Rattle.tx_checked.specs.declared.phase.CallerPhase.TheVariants.{Idle}
use Rattle.tx_checked.specs.Errands.{is_closing}
use Rattle.tx_checked.specs.CheckedCallers.{config_of, known_to, number_of}
use Rattle.tx_checked.specs.OneHistory.{IsOfCallers, found_by, found_until}
use Rattle.tx_checked.specs.Ranges.{GrowsBeside, IsLeft}
use Rattle.tx_checked.specs.Phases.{Any}

-- The first words are the memory after what the caller found as it took all of them out: a legal history of the
-- memory's callers, which begins with what the caller had seen. Nobody has the words to give back.
pub record EndsAs (m n : CheckedCaller) (old ws : List ℕ) : Type 0 where
  pub legal : IsLegal Any (zeros (config_of m).words) (config_of m).clock (found_by n)
  pub callers : IsOfCallers (config_of m) (number_of m) (known_to n).made (found_by n) (found_until n)
  pub later : List Entry
  pub seen : found_by n ≡ (known_to m).seen ++ later
  pub front : (known_to m).front ≤ found_until n
  pub words : (a : ℕ) → a < (config_of m).words → slice_index ws a ≡ slice_index (memory_after (found_by n) (zeros (config_of m).words)) a
  pub beyond : (a : ℕ) → (config_of m).words ≤ a → slice_index ws a ≡ slice_index old a
  pub out : (known_to n).fenced.held ≡ true
  pub all : (a : ℕ) → a < (config_of m).words → fenced (known_to n).fenced.number a ≡ true
  pub grew : GrowsBeside (known_to m) (known_to n)
  pub made : (known_to n).made ≡ (known_to m).made
  pub installs : (known_to n).installs ≡ (known_to m).installs
  pub range : n.range ≡ None
  pub phase : n.phase ≡ Idle
  pub refusal : n.refusal ≡ m.refusal
  pub counts : n.counts ≡ m.counts

abbrev pub HasEnded : CheckedCaller → CheckedCaller → List ℕ → List ℕ → Result (Unit {0}) Refusal → Type 0
HasEnded m n old ws (Ok r) = EndsAs m n old ws
HasEnded m n old ws (Err e) = IsLeft End e m n × IsTakeRefused (config_of m) (number_of m) (is_closing m.phase) e (known_to m) (known_to n) × (ws ≡ old)
