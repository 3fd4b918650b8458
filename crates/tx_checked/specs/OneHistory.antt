-- ONE HISTORY BEHIND EVERY HANDLE: at each moment of a memory all that its callers know is of one history, and so is
-- what a caller finds as it takes words out, of which an end hands out the memory.
use Rattle.std.specs.Prelude.{ℕ, ◌≡◌, ◌≤◌, List, []}
use Rattle.stm_model.specs.declared.alg.Alg.{Alg}
use Rattle.stm_model.specs.declared.config.Config.{Config}
use Rattle.stm_model.specs.Histories.{Entry, made_by, IsLegal}
use Rattle.stm_model.specs.Logs.{Log}
use Rattle.rule_base.specs.declared.views.View.{View}
use Rattle.rule_base.specs.Bridge.{of_words, public_history}
use Rattle.rule_base.specs.StepKinds.{view_after}
use Rattle.rule_base.specs.World.{World}
use Rattle.stm_rule.specs.Callers.{BeginsHistory, made_of, taken_of, taken_front_of}
use Rattle.stm_rule.specs.Product.{Invariant}
use Rattle.stm_rule.specs.Runs.CoreRuns.{core_kind}
use Rattle.stm_rule.specs.Runs.CoreRuns.CoreStep.{fences}
use Rattle.stm_answers.specs.CallerState.{CallerState, zeros}
use Rattle.tx_atomic.specs.Attempts.{TookEffect}
use Rattle.tx_atomic.specs.Moments.{Happened}
use Rattle.tx_checked.specs.declared.checked_caller.CheckedCaller.{CheckedCaller}
use Rattle.tx_checked.specs.CheckedCallers.{config_of, known_to, memory_of, number_of}
use Rattle.tx_checked.specs.Phases.{Any}
use Rattle.tx_checked.specs.Ranges.{GrowsBeside}

-- what a caller found as it last took words out, and up to when
abbrev pub found_by : CheckedCaller → List Entry
found_by m = (known_to m).fenced.seen

abbrev pub found_until : CheckedCaller → ℕ
found_until m = (known_to m).fenced.front

-- caller n made this, and found that: it has entries of the memory's callers alone, of caller n all up to then, in
-- order and each once
pub record IsOfCallers (c : Config) (n : ℕ) (made found : List Entry) (until : ℕ) : Type 0 where
  pub nobody_else : (k : ℕ) → c.callers ≤ k → made_by k found ≡ []
  pub own : BeginsHistory (made_by n found) until made

-- what a load of the clock shows of it
abbrev pub FindsCallers : Config → ℕ → World → View → ℕ → Type 0
FindsCallers c n w v clock = IsOfCallers c n (made_of v) (taken_of v) (taken_front_of v)

-- the one history of a memory at a moment of it
abbrev pub history_of : World → List Entry
history_of w = public_history w.history

-- a moment of the caller's memory, as each step leaves one: its rule stands,
-- and what the caller knows is its view there
pub record IsMomentOf (w : World) (m : CheckedCaller) : Type 0 where
  pub rule : Invariant (of_words Any (config_of m).words) (config_of m) w
  pub view : w.views (number_of m) ≡ m.desc.view

-- the history is legal and of the memory's callers alone; the caller's entries are its part of it; and what the caller
-- has seen begins it, as does what it found
pub record IsPartOf (history : List Entry) (m : CheckedCaller) : Type 0 where
  pub legal : IsLegal Any (zeros (config_of m).words) (config_of m).clock history
  pub nobody_else : (k : ℕ) → (config_of m).callers ≤ k → made_by k history ≡ []
  pub made : (known_to m).made ≡ made_by (number_of m) history
  pub seen : BeginsHistory (known_to m).seen (known_to m).front history
  pub found : BeginsHistory (found_by m) (found_until m) history

-- each attempt of the caller that took effect with this log, from u to x, has its moment in the history
abbrev pub HasMomentsIn : List Entry → CheckedCaller → Type 0
HasMomentsIn history m =
    (log : Log) (u x : CallerState) → TookEffect Any (config_of m) (number_of m) (λ l. l ≡ log) u.front u x → GrowsBeside x (known_to m) → Happened Any (config_of m) (λ l. l ≡ log) u x history

abbrev pub HaveOneHistory : Type 0
HaveOneHistory = (w : World) (m : CheckedCaller) → IsMomentOf w m → IsPartOf (history_of w) m × HasMomentsIn (history_of w) m

-- where a caller takes words out at this moment, all that caller m has made and seen by now is in what is found
abbrev pub TakesAllOf : World → CheckedCaller → Type 0
TakesAllOf w m = (n from count word : ℕ) (alg : Alg) → let found = taken_of (view_after (core_kind n (fences from count alg)) w (w.views n) word) in ((known_to m).made ≡ made_by (number_of m) found) × BeginsHistory (known_to m).seen (known_to m).front found

-- and later what caller m has made begins with its part of what caller n found
pub record HasFound (n m : CheckedCaller) : Type 0 where
  pub made : BeginsHistory (made_by (number_of m) (found_by n)) (found_until n) (known_to m).made
  pub seen : (known_to m).front ≤ found_until n → BeginsHistory (known_to m).seen (known_to m).front (found_by n)
  pub nobody_else : (k : ℕ) → (config_of m).callers ≤ k → made_by k (found_by n) ≡ []

abbrev pub HandOutOneHistory : Type 0
HandOutOneHistory = (w : World) (m n : CheckedCaller) → memory_of n ≡ memory_of m → IsMomentOf w m → IsMomentOf w n → HasFound n m
