use Rattle.std.proofs.Common.{◌≡◌, ◌≤◌, length}
use Rattle.std.specs.Prelude.{vec_capacity}
use Rattle.stm_logs.specs.Marks.{Rooms}
use Rattle.stm_logs.proofs.marks.blank_marks.Given as goal

abbrev pub invariant-loop : goal.invariant-loop
invariant-loop l = record { count : length l.marks.items ≡ l.counter; room : l.limit ≤ vec_capacity l.marks; rooms : Rooms l.len l.marks.items }
