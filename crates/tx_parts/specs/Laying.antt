-- What parts of a transaction leave of its log.
use Rattle.std.specs.Prelude.{ℕ, ◌≡◌, ◌<◌, ◌≤◌, ◌++◌, ◌⊎◌, Bool, true, false, List, [], ◌∷◌, Option, Some, None, IsSome, Result, Ok, Err, length}
use Rattle.std.specs.Borrow.{GName}
use Rattle.stm_model.specs.declared.config.TheConstants.{MOST_MARKS}
use Rattle.stm_model.specs.declared.stop.Stop.{Stop}
use Rattle.stm_model.specs.declared.stop.Stop.TheVariants.{Full}
use Rattle.stm_model.specs.Memories.{item_at, put, Once}
use Rattle.stm_model.specs.Logs.{Log, SameMemories, IsExplained}
use Rattle.data_effects.specs.Effects.{Under}
use Rattle.stm_logs.specs.LogStates.{LogState, firsts, renewed}
use Rattle.tx_parts.specs.declared.whole.Undone.{Undone}
use Rattle.tx_parts.specs.declared.whole.Undone.TheVariants as undone
use Rattle.tx_parts.specs.declared.wholly.PartOutcome.{PartOutcome}
use Rattle.tx_parts.specs.declared.wholly.PartOutcome.TheVariants.{Done, GaveWay, NoRoom, NoMemory}

-- the items written over a list, one after the other
abbrev pub laid : List (ℕ × ℕ) → List (ℕ × ℕ) → List (ℕ × ℕ)
laid [] ws = ws
laid (i ∷ is) ws = laid is (put i.0 i.1 ws)

-- the log with these items written
abbrev pub over : List (ℕ × ℕ) → Log → Log
over is l = record { reads = l.reads; writes = laid is l.writes }

-- all these addresses are below the limit
abbrev pub Within : ℕ → List ℕ → Type 0
Within limit [] = Unit {0}
Within limit (a ∷ rest) = (a < limit) × Within limit rest

-- a mark was made in the log
abbrev pub opened : LogState → LogState
opened x = record x { marks = x.marks ++ x.items ∷ [] }

-- what was read before begins what is read now
abbrev pub ReadsMore : Log → Log → Type 0
ReadsMore l k = (more : List (ℕ × ℕ)) × (k.reads ≡ l.reads ++ more)

-- the same was read, and the same written; the order of the writes is left open
abbrev pub SameLog : Log → Log → Type 0
SameLog l k = (k.reads ≡ l.reads) × ((b : ℕ) → item_at b k.writes ≡ item_at b l.writes)

-- nothing was written but these items
abbrev pub Lays : List (ℕ × ℕ) → Log → Log → Type 0
Lays is l k = SameLog (over is l) k

-- it only read
abbrev pub OnlyReads : Log → Log → Type 0
OnlyReads l k = ReadsMore l k × (k.writes ≡ l.writes)

-- what was read until it gave way stays read, and what was written since is taken back
abbrev pub back_to : Log → Log → Log
back_to l gave = record { reads = gave.reads; writes = l.writes }

-- the first part was done, or gave way there; and then the second came from where what the first wrote was taken back,
-- whether it was done or gave way too, and what the first read is read there too
abbrev pub EitherTells : {T : Type 0} → (Option T → Log → Log → Type 0) → (Option T → Log → Log → Type 0) → Option T → Log → Log → Type 0
EitherTells first second o l k = (IsSome o × first o l k) ⊎ ((gave : Log) × first None l gave × ReadsMore l gave × ReadsMore gave k × second o (back_to l gave) k)

-- the first part was done, and then the second from there; it gave way where the first did,
-- or the second after the first
abbrev pub BothTell : {S T : Type 0} → (Option S → Log → Log → Type 0) → (Option T → Log → Log → Type 0) → Option (S × T) → Log → Log → Type 0
BothTell {S} {T} first second None l k = first None l k ⊎ ((x : S) × (between : Log) × first (Some x) l between × ReadsMore l between × ReadsMore between k × second None between k)
BothTell {S} {T} first second (Some r) l k = (between : Log) × first (Some r.0) l between × ReadsMore l between × ReadsMore between k × second (Some r.1) between k

-- it was stopped for want of room for more than this
abbrev pub IsFull : ℕ → Option Stop → Type 0
IsFull len None = ⊥
IsFull len (Some (Full limit)) = limit ≡ len
IsFull len (Some stop) = ⊥

-- What came of a part that had room for so many words, from the log before to the log after. Where it was done, this is
-- told of a log with the same writes, and it keeps the rule where what was done before does; else it only read; where
-- it gave way that is told; and it lacks room only where the memory has more words than that.
abbrev pub Comes : {T : Type 0} → (List ℕ → Type 0) → ℕ → ℕ → (Option T → Log → Log → Type 0) → PartOutcome T → Log → Log → Type 0
Comes good words len tells (Done r) l k = ((j : Log) × tells (Some r) l j × SameLog j k) × ReadsMore l k × (Under good words l good → Under good words k good)
Comes good words len tells GaveWay l k = ((gave : Log) × tells None l gave × (k ≡ back_to l gave)) × OnlyReads l k
Comes good words len tells (NoRoom limit) l k = OnlyReads l k × (limit ≡ len) × (limit < words)
Comes good words len tells NoMemory l k = ⊥

-- this word was read, and nothing else
abbrev pub one_read : ℕ → ℕ → Log
one_read a v = record { reads = (a, v) ∷ []; writes = [] }

-- what came of a part that is a whole transaction, with room for so many words, after the read of this word; where
-- memory was refused for its log, nothing else was done
abbrev pub ComesFirst : {T : Type 0} → (List ℕ → Type 0) → ℕ → ℕ → ℕ → (Option T → Log → Log → Type 0) → PartOutcome T → Log → Type 0
ComesFirst good words first room tells NoMemory k = (v : ℕ) × (k ≡ one_read first v)
ComesFirst good words first room tells came k = (v : ℕ) × Comes good words room tells came (one_read first v) k

-- the same where None stands for a part that gave way
abbrev pub ComesAwaited : {T : Type 0} → (List ℕ → Type 0) → ℕ → ℕ → ℕ → (Option T → Log → Log → Type 0) → Option (Result T Undone) → Log → Type 0
ComesAwaited good words first room tells None k = (k.writes ≡ []) × ComesFirst good words first room tells GaveWay k
ComesAwaited good words first room tells (Some (Ok done)) k = ComesFirst good words first room tells (Done done) k
ComesAwaited good words first room tells (Some (Err (undone.NoRoom limit))) k = ComesFirst good words first room tells (NoRoom limit) k
ComesAwaited good words first room tells (Some (Err undone.NoMemory)) k = ComesFirst good words first room tells NoMemory k

-- the items are as many words as there is room for, and one more was to be written
abbrev pub Overflows : ℕ → ℕ → List (ℕ × ℕ) → Type 0
Overflows words len items = (length items ≡ len) × (a : ℕ) × (a < words) × (item_at a items ≡ None)

-- it has as many of the memory's words as its length, each once, and one more was to be written
abbrev pub IsFilled : ℕ → LogState → Type 0
IsFilled words room = Overflows words room.len room.items × Once room.items × Within words (firsts room.items)

-- it has no items and no marks
abbrev pub IsEmptied : LogState → Type 0
IsEmptied room = (room.items ≡ []) × (room.marks ≡ [])

-- WHAT IS LEFT of the log that a part was lent: all that shows that it wanted room, or nothing
abbrev pub Leaves : {T : Type 0} → ℕ → PartOutcome T → LogState → Type 0
Leaves words (NoRoom limit) room = IsFilled words room
Leaves words came room = IsEmptied room

-- a log that was filled is as it was, and another was emptied
abbrev pub Left : {T : Type 0} → Result (PartOutcome T) Stop → LogState → LogState → Type 0
Left (Ok (NoRoom limit)) before after = after ≡ before
Left came before after = after ≡ renewed before

-- a log of a part that wanted room is filled
abbrev pub Shows : {T : Type 0} → ℕ → PartOutcome T → LogState → Type 0
Shows words (NoRoom limit) room = IsFilled words room
Shows words came room = Unit {0}

-- an access with a log of writes over it; why it was stopped, and whether that was for want of room
pub record Top (B : Type 0) : Type 0 where
  pub below : B
  pub room : LogState
  pub name : GName
  pub stopped : Option Stop
  pub crowded : Bool

abbrev pub top : {B : Type 0} → B → LogState → GName → Option Stop → Bool → Top B
top b room name stopped crowded = record { below = b; room = room; name = name; stopped = stopped; crowded = crowded }

module _ {B : Type 0} (good : B → List ℕ → Type 0) (words : B → ℕ) (stops : B → Option Stop) (log : B → Log) where
  -- while it goes on a good memory explains what was read below; it was stopped as the access below was, or for want of
  -- room for one more of its words
  pub record Stands (b : B) (room : LogState) (stopped : Option Stop) (crowded : Bool) : Type 0 where
    pub passes : crowded ≡ false → stops b ≡ stopped
    pub goes : crowded ≡ true → (stops b ≡ None) × IsFull room.len stopped
    pub full : crowded ≡ true → Overflows (words b) room.len room.items
    pub knew : crowded ≡ true → IsExplained (good b) (words b) (log b)
    pub seen : stopped ≡ None → IsExplained (good b) (words b) (log b)
    pub within : Within (words b) (firsts room.items)
    pub deep : MOST_MARKS ≤ room.marks_limit

  -- WHAT IT LEAVES ALONE: while what is below goes on, that is only read; and its marks stand while it goes on itself
  pub record OnTop (s t : Top B) : Type 0 where
    pub same : SameMemories (good s.below) (good t.below)
    pub still : words t.below ≡ words s.below
    pub len : t.room.len ≡ s.room.len
    pub limit : t.room.marks_limit ≡ s.room.marks_limit
    pub name : t.name ≡ s.name
    pub reads : stops t.below ≡ None → (stops s.below ≡ None) × OnlyReads (log s.below) (log t.below)
    pub marks : t.stopped ≡ None → (s.stopped ≡ None) × (t.room.marks ≡ s.room.marks) × OnlyReads (log s.below) (log t.below)
