-- The text of a report's rows, in pieces.
use Rattle.std.specs.Prelude.{ℕ, ◌≡◌, ◌<◌, ◌≤◌, ◌*◌, List, length, All, slice_index_or, Result, IfOk, OnOk}
use Rattle.std.specs.Fork.{slice_chunk}
use Rattle.work_script.specs.declared.report.Row.{Row}
use Rattle.work_text.specs.Reports.{row_lines, RowFits}

-- each piece that was made has the lines of the chunk of so many rows at its place, whose numbers are words,
-- and no row is after the last
pub record ArePieces {T M : Type 0} (bytes : T → List ℕ) (size : ℕ) (rows : List Row) (pieces : List (Result T M)) : Type 0 where
  pub each : (n : ℕ) (d : Result T M) → n < length pieces → IfOk (slice_index_or pieces n d) (λ t. bytes t ≡ row_lines (slice_chunk rows size n))
  pub fits : (n : ℕ) (d : Result T M) → n < length pieces → OnOk (slice_index_or pieces n d) (All RowFits (slice_chunk rows size n))
  pub all : length rows ≤ length pieces * size
