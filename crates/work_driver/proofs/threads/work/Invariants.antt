use Rattle.std.specs.Prelude.{false}
use Rattle.work_worker.specs.Workers.{IsSame, Sound}
use Rattle.work_driver.proofs.ThreadLaws.{KeepsCovered}
use Rattle.work_driver.proofs.threads.work.Given as goal

abbrev pub invariant-loop : goal.invariant-loop
invariant-loop g l = record {
  next : (goal.iterator-loop g).can_next l.iterator';
  ends : (goal.iterator-loop g).is_finite l.iterator';
  sound : Sound (g.K.MemRule.good l.stm.rule) l.stm l.w;
  same : IsSame false l.fn.w l.w;
  covered : KeepsCovered l.stm l.fn.w l.w;
}
