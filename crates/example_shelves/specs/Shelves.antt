-- The pile and the shelves in a memory, and what storing a piece does to them.
use Rattle.std.specs.Prelude.{ℕ, ◌≡◌, ◌<◌, ◌≤◌, ◌+◌, ◌-◌, ◌==◌, if◌then◌else◌, List, length, slice_index, slice_set, Option, Some, None}
use Rattle.nekchhaul.specs.Logs.{Log}
use Rattle.nekchhaul.specs.Memories.{overlay, Explains}
use Rattle.example_shelves.specs.declared.shelves.Stored.{Stored}
use Rattle.example_shelves.specs.declared.shelves.Stored.TheVariants.{On, NoPiece, Nowhere, Refused}

-- a piece is taken off the pile
abbrev pub taken : List ℕ → List ℕ
taken m = slice_set m 0 (slice_index m 0 - 1)

-- a piece is put on the shelf
abbrev pub put_on : ℕ → List ℕ → List ℕ
put_on shelf m = slice_set m shelf (slice_index m shelf + 1)

-- for how many pieces the shelf has room
abbrev pub room_on : ℕ → ℕ
room_on shelf = if shelf == 1 then 2 else 1

abbrev pub IsFull : List ℕ → ℕ → Type 0
IsFull m shelf = room_on shelf ≤ slice_index m shelf

-- THE MEANING: before, the memory was m, and then n. A piece is on one shelf, the first that had room, where it lay on
-- the pile; else nothing changed
abbrev pub IsStored : Stored → List ℕ → List ℕ → Type 0
IsStored (On shelf) m n =
    (0 < slice_index m 0) × (1 ≤ shelf) × (shelf ≤ 3) × (slice_index m shelf < room_on shelf) × ((before : ℕ) → 1 ≤ before → before < shelf → IsFull m before)
    × (n ≡ put_on shelf (taken m))
IsStored NoPiece m n = (slice_index m 0 ≡ 0) × (n ≡ m)
IsStored Nowhere m n = (0 < slice_index m 0) × ((shelf : ℕ) → 1 ≤ shelf → shelf ≤ 3 → IsFull m shelf) × (n ≡ m)
IsStored Refused m n = n ≡ m

-- one shelf with this room was tried: the piece landed on it, or it was full
abbrev pub Lands : ℕ → ℕ → Option ℕ → List ℕ → List ℕ → Type 0
Lands shelf room (Some s) m n = (s ≡ shelf) × (slice_index (taken m) shelf < room) × (n ≡ put_on shelf (taken m))
Lands shelf room None m n = room ≤ slice_index (taken m) shelf

-- so it is of every memory that explains what was read, under what was written before and after
abbrev pub Told : ℕ → (List ℕ → List ℕ → Type 0) → Log → Log → Type 0
Told words P l k = (m : List ℕ) → length m ≡ words → Explains m k.reads → P (overlay m l.writes) (overlay m k.writes)
