-- The buffer and its fillings, and what a day comes to.
use Rattle.std.specs.Prelude.{ℕ, ◌≡◌, ◌≤◌, List, [], ◌∷◌, replicate, slice_index, IfSome}
use Rattle.nekchhaul.specs.Histories.{Entry, IsLegal, memory_at}
use Rattle.nekchhaul.specs.HistoryLaws.{Within}
use Rattle.nekchhaul.specs.Logs.{Log}
use Rattle.nekchhaul.specs.Memories.{Explains}
use Rattle.example_buffer.specs.declared.buffer.Sight.{Sight}
use Rattle.example_buffer.specs.declared.day.Day.{Day}

-- the buffer with one filling whole: its four words all have that number
abbrev pub filling : ℕ → List ℕ
filling x = replicate 4 x

-- THE RULE: the buffer is one of the fillings whole, which are numbered from 0, as the memory opens, to 2
abbrev pub IsFilling : List ℕ → Type 0
IsFilling memory = (memory ≡ filling (slice_index memory 0)) × (slice_index memory 0 ≤ 2)

-- what filling the buffer writes
abbrev pub writes_of : ℕ → List (ℕ × ℕ)
writes_of x = (0, x) ∷ (1, x) ∷ (2, x) ∷ (3, x) ∷ []

-- the sight is of one filling, and the first and the last word of every memory that explains the log
abbrev pub Saw : Sight → Log → Type 0
Saw sight log = (sight.first ≡ sight.last) × ((m : List ℕ) → Explains m log.reads → (slice_index m 0 ≡ sight.first) × (slice_index m 3 ≡ sight.last))

-- at such a moment of the history the buffer was the filling that the reader saw
pub record SeenWhole (when : ℕ → Type 0) (history : List Entry) (sight : Sight) : Type 0 where
  pub at : ℕ
  pub due : when at
  pub whole : memory_at at history (filling 0) ≡ filling sight.first
  pub same : sight.first ≡ sight.last

-- all or nothing of a filling: at each moment of the one history the buffer is one filling whole, the words are the
-- last of them, and what was seen is that of one moment, the second no earlier than the first
pub record IsDay (day : Day) : Type 0 where
  pub history : List Entry
  pub end : ℕ
  pub legal : IsLegal IsFilling (filling 0) 0 history
  pub within : Within end history
  pub always : (s : ℕ) → IsFilling (memory_at s history (filling 0))
  pub words : day.words.items ≡ memory_at end history (filling 0)
  pub turn : ℕ
  pub one : IfSome day.one (SeenWhole (λ at. at ≤ turn) history)
  pub two : IfSome day.two (SeenWhole (λ at. turn ≤ at) history)
