-- Memories, write sets, and what explains a read set.
use Rattle.std.specs.Prelude.{ℕ, ◌≡◌, ◌<◌, ◌^◌, ◌==◌, if◌then◌else◌, All, List, [], ◌∷◌, slice_index, slice_set, Option, Some, None, Bool, true, false}

-- A memory is the list of its words. A read set and a write set are lists of address and value,
-- with one item an address.

-- each is a word
abbrev pub AreWords : List ℕ → Type 0
AreWords memory = All (λ v. v < 2 ^ 64) memory

-- the memory under the writes; where a list had two items of one address, the earlier would count
abbrev pub overlay : List ℕ → List (ℕ × ℕ) → List ℕ
overlay memory [] = memory
overlay memory (w ∷ ws) = slice_set (overlay memory ws) w.0 w.1

-- the memory after the writes, one after the other; the last write of an address counts
abbrev pub written : List ℕ → List (ℕ × ℕ) → List ℕ
written memory [] = memory
written memory (w ∷ ws) = written (slice_set memory w.0 w.1) ws

-- the value at an address
abbrev pub item_at : ℕ → List (ℕ × ℕ) → Option ℕ
item_at a [] = None
item_at a (w ∷ ws) = if w.0 == a then Some w.1 else item_at a ws

-- the list with the value at the address, in its old place, or at the end where it is new
abbrev pub put : ℕ → ℕ → List (ℕ × ℕ) → List (ℕ × ℕ)
put a v [] = (a, v) ∷ []
put a v (w ∷ ws) = if w.0 == a then (a, v) ∷ ws else w ∷ put a v ws

-- no two items have one address
abbrev pub Once : List (ℕ × ℕ) → Type 0
Once [] = Unit {0}
Once (w ∷ ws) = (item_at w.0 ws ≡ None) × Once ws

-- each read has the memory's value at its address
abbrev pub Explains : List ℕ → List (ℕ × ℕ) → Type 0
Explains memory [] = Unit {0}
Explains memory (r ∷ rs) = (slice_index memory r.0 ≡ r.1) × Explains memory rs

abbrev pub is_empty : List (ℕ × ℕ) → Bool
is_empty [] = true
is_empty (w ∷ ws) = false
