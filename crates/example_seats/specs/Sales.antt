-- What a sale comes to.
use Rattle.std.specs.Prelude.{ℕ, suc, ◌≡◌, ◌≤◌, ◌+◌, List, length, replicate, Option, Some, None, IfSome}
use Rattle.nekchhaul.specs.Histories.{Entry, IsLegal, memory_at}
use Rattle.nekchhaul.specs.HistoryLaws.{Within}
use Rattle.nekchhaul.specs.Insert.{Insert}
use Rattle.nekchhaul.specs.Insert.TheVariants.{Added, Present, NoRoom}
use Rattle.nekchhaul.specs.Trees.{IsTree, inserted_in}
use Rattle.example_seats.specs.declared.sale.Sale.{Sale}
use Rattle.example_seats.specs.declared.sale.TheConstants.{HALL}

-- the hall before the sale: no seat is taken
abbrev pub free_hall : List ℕ
free_hall = replicate 31 0

abbrev pub hall_at : ℕ → List Entry → List ℕ
hall_at s history = memory_at s history free_hall

-- at such a moment the wish was answered as by an insertion into the set of the taken seats; where the seat was free,
-- what the insertion leaves is the hall of the next moment
pub record Answered (when : ℕ → Type 0) (history : List Entry) (seat : ℕ) (came : Insert) : Type 0 where
  pub at : ℕ
  pub due : when at
  pub told : came ≡ (inserted_in HALL seat (hall_at at history)).reply
  pub taken : came ≡ Added → hall_at (suc at) history ≡ (inserted_in HALL seat (hall_at at history)).memory

-- how many seats a wish took
abbrev pub seats_taken : Option Insert → ℕ
seats_taken None = 0
seats_taken (Some Added) = 1
seats_taken (Some Present) = 0
seats_taken (Some NoRoom) = 0

-- the words are the hall at the end of one history, and each wish that was answered was so at a moment of it, the
-- other's two wishes in their order; nothing else is in the history
pub record IsSale (sale : Sale) : Type 0 where
  pub history : List Entry
  pub end : ℕ
  pub legal : IsLegal (IsTree HALL) free_hall 0 history
  pub within : Within end history
  pub words : sale.words.items ≡ hall_at end history
  pub turn : ℕ
  pub one : IfSome sale.one (Answered (λ at. 0 ≤ at) history 7)
  pub two : IfSome sale.two (Answered (λ at. at ≤ turn) history 7)
  pub three : IfSome sale.three (Answered (λ at. turn ≤ at) history 3)
  pub only : length history ≡ seats_taken sale.one + seats_taken sale.two + seats_taken sale.three
