-- The rows of a memory, and what scans see of them.
use Rattle.std.specs.Prelude.{ℕ, zero, suc, ◌+◌, ◌*◌, ◌/◌, List, length, min}
use Rattle.tx_transaction.specs.Words.{sum_in}
use Rattle.perf_core.specs.declared.rows.Row.{Row}

-- a row is 100,000 words, or all where there are fewer; what stands after the last whole row is in none
abbrev pub row_length : ℕ → ℕ
row_length words = min words 100000

abbrev pub row_count : ℕ → ℕ
row_count words = words / row_length words

abbrev pub row_of : ℕ → ℕ → Row
row_of words i = record { start = i * row_length words; end = i * row_length words + row_length words }

abbrev pub total_of : List ℕ → Row → ℕ
total_of words row = sum_in row.start row.end words

-- n scans of a row of zeros, each of which adds 1 to it, see 0, 1, 2 and so on: what they see together
abbrev pub seen_by : ℕ → ℕ
seen_by zero = 0
seen_by (suc n) = seen_by n + n

-- the same of the first so many rows, by what they have in the end
abbrev pub seen_in : ℕ → List ℕ → ℕ
seen_in zero words = 0
seen_in (suc i) words = seen_in i words + seen_by (total_of words (row_of (length words) i))
