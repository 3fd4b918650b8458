use Rattle.std.proofs.Common.{◌≡◌, length, map}
use Rattle.std.specs.Prelude.{vec_capacity, ◌≤◌}
use Rattle.stm_model.specs.Memories.{AreWords}
use Rattle.stm_model.specs.Plains.{openings, settled}
use Rattle.work_check.proofs.LedgerLaws.{AreLeft}
use Rattle.work_check.proofs.ledger.Ledger.settle.Given as goal

abbrev pub invariant-loop-a : goal.invariant-loop-a
invariant-loop-a l = record {
  same : map settled l.self-inside.words.items ≡ map settled l.initial.self-inside.words.items;
  left : AreLeft l.self-inside.words.items l.self-inside.touched.items;
  room : length l.self-inside.words.items ≤ vec_capacity l.self-inside.touched;
  small : AreWords (openings l.self-inside.words.items);
}

abbrev pub decreases-loop-a : goal.decreases-loop-a
decreases-loop-a l = length l.self-inside.touched.items
