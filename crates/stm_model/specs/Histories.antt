-- Histories of committed transactions, oldest first, and the memory at a time.
use Rattle.std.specs.Prelude.{ℕ, ◌≡◌, ◌≢◌, ◌<◌, ◌-◌, ◌==◌, suc, List, [], ◌∷◌, All, leb, if◌then◌else◌}
use Rattle.stm_model.specs.Memories.{AreWords, overlay, Once, Explains}

-- A committed transaction: when, by whom, how many its caller had committed before, what it read of words that it had
-- not yet written, and what it wrote.
pub record Entry : Type 0 where
  pub time : ℕ
  pub caller : ℕ
  pub number : ℕ
  pub reads : List (ℕ × ℕ)
  pub writes : List (ℕ × ℕ)

-- the opening memory under the writes of the entries with time at most s
abbrev pub memory_at : ℕ → List Entry → List ℕ → List ℕ
memory_at s [] opening = opening
memory_at s (e ∷ es) opening = memory_at s es (if leb e.time s then overlay opening e.writes else opening)

-- the opening memory under the writes of all entries
abbrev pub memory_after : List Entry → List ℕ → List ℕ
memory_after [] opening = opening
memory_after (e ∷ es) opening = memory_after es (overlay opening e.writes)

-- times ascend strictly and exceed the floor
abbrev pub Ascending : ℕ → List Entry → Type 0
Ascending floor [] = Unit {0}
Ascending floor (e ∷ es) = (floor < e.time) × Ascending e.time es

-- the entries of one caller
abbrev pub made_by : ℕ → List Entry → List Entry
made_by n [] = []
made_by n (e ∷ es) = if e.caller == n then e ∷ made_by n es else made_by n es

-- the numbers go on from k
abbrev pub Numbered : ℕ → List Entry → Type 0
Numbered k [] = Unit {0}
Numbered k (e ∷ es) = (e.number ≡ k) × Numbered (suc k) es

-- one item an address, and something written
pub record IsEntry (e : Entry) : Type 0 where
  pub reads_once : Once e.reads
  pub writes_once : Once e.writes
  pub writes_some : e.writes ≢ []

-- good is what the user keeps true of memory; floor is the opening clock
pub record IsLegal (good : List ℕ → Type 0) (opening : List ℕ) (floor : ℕ) (history : List Entry) : Type 0 where
  pub ascending : Ascending floor history
  pub entries : All IsEntry history
  pub reads : All (λ e. Explains (memory_at (e.time - 1) history opening) e.reads) history
  pub numbered : (n : ℕ) → Numbered 0 (made_by n history)
  pub good_always : (s : ℕ) → good (memory_at s history opening)
  pub words_always : (s : ℕ) → AreWords (memory_at s history opening)
