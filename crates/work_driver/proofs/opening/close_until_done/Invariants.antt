use Rattle.std.proofs.Common.{[]}
use Rattle.stm_rule.specs.Callers.{IsOf, IsSameCaller}
use Rattle.stm_tx.specs.Descs.{known}
use Rattle.work_driver.specs.Openings.{IsNew, SameLengths}
use Rattle.work_driver.proofs.opening.close_until_done.Given as goal

abbrev pub invariant-loop : goal.invariant-loop
invariant-loop g l = record {
  next : (goal.iterator-loop g).can_next l.iterator';
  ends : (goal.iterator-loop g).is_finite l.iterator';
  own : IsOf l.desc l.stm;
  new : IsNew [] (known l.desc);
  same : IsSameCaller l.fn.desc l.desc;
  lengths : SameLengths (known l.fn.desc) (known l.desc);
}
