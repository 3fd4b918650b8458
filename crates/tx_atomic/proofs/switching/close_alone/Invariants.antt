use Rattle.std.proofs.Common.{ℕ, ◌≡◌}
use Rattle.stm_rule.specs.Callers.{IsSameCaller}
use Rattle.stm_answers.specs.CallerState.{Grows, IsIdle}
use Rattle.stm_tx.specs.Descs.{known, number}
use Rattle.tx_atomic.specs.Switches.{FindsTaken}
use Rattle.tx_atomic.proofs.switching.close_alone.Given as goal

abbrev pub invariant-loop : goal.invariant-loop
invariant-loop g l = record {
  next : (goal.iterator-loop g).can_next l.iterator';
  ends : (goal.iterator-loop g).is_finite l.iterator';
  same : IsSameCaller l.fn.desc l.desc;
  idle : IsIdle (known l.desc);
  grew : Grows (known l.fn.desc) (known l.desc);
  made : (known l.desc).made ≡ (known l.fn.desc).made;
  rises : (known l.desc).rises ≡ (known l.fn.desc).rises;
  installs : (known l.desc).installs ≡ (known l.fn.desc).installs;
  taken : (refused : ℕ) × FindsTaken (g.K.MemRule.good l.fn.stm.rule) l.fn.stm.config (number l.fn.desc) refused (known l.fn.desc) (known l.desc);
}
