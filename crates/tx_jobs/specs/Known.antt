-- What a job sees of its caller.
use Rattle.std.specs.Prelude.{ℕ, ◌≡◌, ◌≤◌, List, ◌++◌}
use Rattle.stm_model.specs.declared.alg.Alg.{Alg}
use Rattle.stm_model.specs.declared.config.TheConstants.{CLOCK_LIMIT}
use Rattle.stm_model.specs.Histories.{Entry, Ascending}
use Rattle.stm_model.specs.HistoryLaws.{Within}

-- of which memory it is a caller, and its number there: none of this ever changes
pub record Seat (K : Type 0) : Type 0 where
  pub rule : K
  pub words : ℕ
  pub callers : ℕ
  pub number : ℕ

-- its own entries, and all that it has seen, which are those up to its front, the oldest first; what it installed; its
-- count of commits; and the greatest clock that it found
pub record Known : Type 0 where
  pub made : List Entry
  pub seen : List Entry
  pub front : ℕ
  pub installs : List Alg
  pub commits : ℕ
  pub top : ℕ

-- it has seen at least as much, up to a later front
pub record Grows (v w : Known) : Type 0 where
  pub later : List Entry
  pub is : w.seen ≡ v.seen ++ later
  pub ascending : Ascending v.front later
  pub up_to : Within w.front later
  pub front_rose : v.front ≤ w.front
  pub top_rose : v.top ≤ w.top

-- it has found the clock at its limit
abbrev pub IsFull : Known → Type 0
IsFull w = CLOCK_LIMIT ≤ w.top
