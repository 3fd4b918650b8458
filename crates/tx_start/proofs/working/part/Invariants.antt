use Rattle.std.proofs.Common.{◌≡◌, ◌≤◌, ◌+◌, ◌++◌, length}
use Rattle.std.specs.Prelude.{vec_len, vec_capacity}
use Rattle.std.specs.Vec.Iter.{into_iter_items, into_iter_len}
use Rattle.tx_start.specs.Lefts.{descs_in, answers_in, tallies_in}
use Rattle.tx_start.proofs.working.part.Given as goal

abbrev pub invariant-loop-one : goal.invariant-loop-one
invariant-loop-one g l = record {
  descs : l.descs.items ++ descs_in (into_iter_items l.one-iterator) ≡ descs_in (into_iter_items l.initial.one-iterator);
  answers : l.answers.items ++ answers_in (into_iter_items l.one-iterator) ≡ answers_in (into_iter_items l.initial.one-iterator);
  tallies : l.tallies.items ++ tallies_in (into_iter_items l.one-iterator) ≡ tallies_in (into_iter_items l.initial.one-iterator);
  len : into_iter_len l.one-iterator ≡ length (into_iter_items l.one-iterator);
  room : vec_len l.descs + length (into_iter_items l.one-iterator) ≤ vec_capacity l.descs;
  more_room : vec_len l.answers + length (into_iter_items l.one-iterator) ≤ vec_capacity l.answers;
  tally_room : vec_len l.tallies + length (into_iter_items l.one-iterator) ≤ vec_capacity l.tallies;
}
