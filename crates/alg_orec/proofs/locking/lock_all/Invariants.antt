use Rattle.std.proofs.Common.{◌*◌, ℕ, ◌≡◌, ◌<◌, ◌≤◌, List, length, get_or, true}
use Rattle.rule_base.specs.declared.views.TracedStep.{TracedStep}
use Rattle.rule_base.specs.History.{over, touches}
use Rattle.rule_base.specs.Ranks.{home_of}
use Rattle.stm_rule.specs.Counting.{TakesAtMost}
use Rattle.alg_orec.specs.Locking.{Locks, IsOfWritten}
use Rattle.alg_orec.proofs.locking.lock_all.Given as goal

abbrev pub invariant-loop-i : goal.invariant-loop-i
invariant-loop-i g l = record {
  table : l.seat.table_id ≡ l.initial.seat.table_id;
  id : l.seat.id ≡ l.initial.seat.id;
  bare : l.seat.me.1 ≡ l.initial.seat.me.1;
  seat : l.seat.me.0 ≡ record l.initial.seat.me.0 { view = l.seat.me.0.view };
  more : List TracedStep;
  locks : Locks l.stm.config l.caller l.initial.local l.initial.seat.me.0.view l.local l.seat.me.0.view more;
  covered : (j : ℕ) → j < l.i → touches l.seat.me.0.view.owned.held (home_of l.stm.config (get_or l.initial.local.writes.items j (0, 0)).0) ≡ true;
  olds : (r : ℕ) → touches l.seat.me.0.view.owned.held r ≡ true → over l.seat.me.0.view.owned.held r 0 ≤ l.newest;
  found : IsOfWritten l.stm.config l.caller l.initial.local l.newest more;
  room : length l.local.locks.items ≤ l.i;
  steps : TakesAtMost (2 * l.i) l.initial.seat.me.0.view l.seat.me.0.view;
}
