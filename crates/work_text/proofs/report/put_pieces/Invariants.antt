use Rattle.std.proofs.Common.{ℕ, List, ◌≡◌, ◌*◌, ◌++◌, length, drop}
use Rattle.std.specs.List.{All}
use Rattle.std.specs.Vec.Iter.{into_iter_items, into_iter_len}
use Rattle.work_script.specs.declared.report.Row.{Row}
use Rattle.work_text.specs.Pieces.{ArePieces}
use Rattle.work_text.specs.Reports.{row_lines, RowFits}
use Rattle.work_text.proofs.report.put_pieces.Given as goal

abbrev pub invariant-loop-piece : goal.invariant-loop-piece
invariant-loop-piece l = record {
  all : l.yielded ++ into_iter_items l.piece-iterator ≡ into_iter_items l.initial.piece-iterator;
  len : into_iter_len l.piece-iterator ≡ length (into_iter_items l.piece-iterator);
  fits : (size : ℕ) (rows : List Row) → ArePieces (λ t. t.items) size rows (into_iter_items l.initial.piece-iterator) → All RowFits (drop (length l.yielded * size) rows) → All RowFits rows;
  put : (size : ℕ) (rows : List Row) → ArePieces (λ t. t.items) size rows (into_iter_items l.initial.piece-iterator)
      → l.text.items ++ row_lines (drop (length l.yielded * size) rows) ≡ l.initial.text.items ++ row_lines rows;
}
