use Rattle.std.proofs.Common.{ℕ, ◌≡◌}
use Rattle.stm_rule.specs.Callers.{IsSameCaller}
use Rattle.stm_answers.specs.CallerState.{IsIdle}
use Rattle.stm_tx.specs.Descs.{known, number}
use Rattle.tx_atomic.specs.Accounts.{account}
use Rattle.tx_atomic.specs.Extends.{Extends}
use Rattle.tx_atomic.specs.Tries.{HaveRun}
use Rattle.tx_atomic.proofs.waiting.until_some.Given as goal

abbrev pub invariant-loop : goal.invariant-loop
invariant-loop g l = record {
  next : (goal.iterator-loop g).can_next l.iterator';
  ends : (goal.iterator-loop g).is_finite l.iterator';
  same : IsSameCaller l.fn.desc l.desc;
  idle : IsIdle (known l.desc);
  grew : Extends (known l.fn.desc) (known l.desc);
  made : (known l.desc).made ≡ (known l.fn.desc).made;
  installs : (known l.desc).installs ≡ (known l.fn.desc).installs;
  runs : (k : ℕ) × HaveRun (g.K.MemRule.good l.fn.stm.rule) l.fn.stm.config (number l.fn.desc) g.O.Observer.hears k (known l.fn.desc) (known l.desc) (account g.O.Observer.heard l.fn.pace) (account g.O.Observer.heard l.pace);
}
