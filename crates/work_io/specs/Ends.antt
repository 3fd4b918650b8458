-- What a source has left, what a sink holds, and how their counts of faults move.
use Rattle.std.specs.Prelude.{ℕ, ◌≡◌, ◌<◌, ◌≤◌, ◌+◌, ◌-◌, ◌^◌, min, List, length, take, Option, IfSome}
use Rattle.std.specs.Io.KnownBytes.{prepend_known, append_known}

-- one more, up to the end of a 64-bit counter
abbrev pub next_count : ℕ → ℕ
next_count n = min (n + 1) (2 ^ 64 - 1)

-- the count grew, or stands at the end of a 64-bit counter
abbrev pub Rose : ℕ → ℕ → Type 0
Rose before now = next_count before ≤ now

-- what was left is these bytes and then what is left now; what isn't told stays so
abbrev pub Took : Option (List ℕ) → Option (List ℕ) → List ℕ → Type 0
Took before now bytes = before ≡ prepend_known bytes now

-- at most `limit` bytes of what was left are gone
abbrev pub TookSome : ℕ → Option (List ℕ) → Option (List ℕ) → Type 0
TookSome limit before now = (bytes : List ℕ) × (length bytes ≤ limit) × Took before now bytes

-- the text is all that was left, or its first `limit` bytes, where that is told
abbrev pub IsText : ℕ → Option (List ℕ) → List ℕ → Type 0
IsText limit left text = IfSome left (λ all. text ≡ take limit all)

-- what is held now is what was held and then these bytes; what isn't told stays so
abbrev pub Gained : Option (List ℕ) → Option (List ℕ) → List ℕ → Type 0
Gained before now bytes = now ≡ append_known before bytes

-- a prefix of the text was appended, and not all of it
abbrev pub GainedSome : Option (List ℕ) → Option (List ℕ) → List ℕ → Type 0
GainedSome before now text = (k : ℕ) × (k < length text) × Gained before now (take k text)
