use Rattle.std.proofs.Common.{◌≡◌}
use Rattle.stm_model.specs.declared.config.TheConstants.{CLOCK_LIMIT}
use Rattle.alg_orec.specs.EagerEnding.{AllBelow}
use Rattle.alg_orec.proofs.Releasing.{Gives}
use Rattle.alg_orec.proofs.eager_committing.give_above.Given as goal

abbrev pub invariant-loop-i : goal.invariant-loop-i
invariant-loop-i g l = record {
  table : l.seat.table_id ≡ l.initial.seat.table_id;
  id : l.seat.id ≡ l.initial.seat.id;
  bare : l.seat.me.1 ≡ l.initial.seat.me.1;
  gives : Gives l.stm.config.records l.initial.seat.me.0 l.local.locks.items l.i l.seat.me.0;
  below : AllBelow CLOCK_LIMIT l.seat.me.0.view.owned.held;
}
