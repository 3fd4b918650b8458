-- What an attempt has read and written, and how a call changes it.
use Rattle.std.specs.Prelude.{ℕ, ◌≡◌, List, [], ◌∷◌, ◌++◌, length, MatchOption}
use Rattle.stm_model.specs.Memories.{AreWords, overlay, item_at, put, Once, Explains}
use Rattle.stm_model.specs.Histories.{Entry, memory_at}
use Rattle.stm_model.specs.declared.stop.Stop.{Stop}
use Rattle.stm_model.specs.declared.stop.Stop.TheVariants.{Conflict, Full, ClockFull}

-- reads are of words that the attempt had not written when it read them
pub record Log : Type 0 where
  pub reads : List (ℕ × ℕ)
  pub writes : List (ℕ × ℕ)

pub record IsLog (l : Log) : Type 0 where
  pub reads : Once l.reads
  pub writes : Once l.writes

-- a read of a answers the log's write of a; where there is none, the log's read of a; where there is neither, v, which
-- the log gains
abbrev pub Reads : Log → ℕ → ℕ → Log → Type 0
Reads l a v k =
    (k.writes ≡ l.writes)
    × MatchOption (item_at a l.writes)
    (MatchOption (item_at a l.reads) (k.reads ≡ l.reads ++ (a, v) ∷ []) (λ x. (v ≡ x) × (k.reads ≡ l.reads)))
    (λ x. (v ≡ x) × (k.reads ≡ l.reads))

-- the log's writes are as after a put; their order is left open
abbrev pub Writes : Log → ℕ → ℕ → Log → Type 0
Writes l a v k = (k.reads ≡ l.reads) × ((b : ℕ) → item_at b k.writes ≡ item_at b (put a v l.writes))

-- the two say the same of every memory
abbrev pub SameMemories : (List ℕ → Type 0) → (List ℕ → Type 0) → Type 0
SameMemories before after = (m : List ℕ) → (before m → after m) × (after m → before m)

-- a good memory of this many words, each below 2^64, explains the log
abbrev pub IsExplained : (List ℕ → Type 0) → ℕ → Log → Type 0
IsExplained good words l = (m : List ℕ) × good m × (length m ≡ words) × Explains m l.reads × AreWords m

-- an attempt that began at start has read only the memory after one prefix of the history (opacity, Guerraoui and
-- Kapalka)
abbrev pub Sees : ℕ → List Entry → List ℕ → Log → Type 0
Sees start history opening l = Explains (memory_at start history opening) l.reads

-- from every good memory of words that explains the log, its writes lead to a good one
abbrev pub Keeps : (List ℕ → Type 0) → ℕ → Log → Type 0
Keeps good words l = (m : List ℕ) → good m → length m ≡ words → Explains m l.reads → AreWords m → good (overlay m l.writes)

-- a read never meets the clock's limit
abbrev pub IsReadStop : Stop → Type 0
IsReadStop (Conflict cause) = Unit {0}
IsReadStop (Full limit) = Unit {0}
IsReadStop (ClockFull clock) = ⊥
