use Rattle.std.proofs.Common.{◌≡◌, leb}
use Rattle.std.specs.Prelude.{Some}
use Rattle.stm_rule.specs.Callers.{IsSameCaller}
use Rattle.stm_answers.specs.CallerState.{CallerState, IsIdle}
use Rattle.stm_tx.specs.Descs.{known, number}
use Rattle.tx_atomic.specs.Accounts.{Account, account}
use Rattle.tx_atomic.specs.Extends.{Extends}
use Rattle.tx_atomic.specs.Tries.{Failing, Tried}
use Rattle.tx_atomic.proofs.atomically.atomically.Given as goal

-- the last attempt failed too, and isn't counted yet
abbrev pub invariant-loop : goal.invariant-loop
invariant-loop g l = record {
  next : (goal.iterator-loop g).can_next l.iterator';
  ends : (goal.iterator-loop g).is_finite l.iterator';
  same : IsSameCaller l.fn.desc l.desc;
  idle : IsIdle (known l.desc);
  grew : Extends (known l.fn.desc) (known l.desc);
  made : (known l.desc).made ≡ (known l.fn.desc).made;
  installs : (known l.desc).installs ≡ (known l.fn.desc).installs;
  commits : l.pace.tally.commits ≡ l.fn.pace.tally.commits;
  failing : (v : CallerState) × (s : Account g.O.Observer.Heard) × Extends (known l.fn.desc) v
      × Failing (g.K.MemRule.good l.fn.stm.rule) l.fn.stm.config (number l.fn.desc) g.O.Observer.hears l.failed (known l.fn.desc) v (account g.O.Observer.heard l.fn.pace) s
      × Tried (g.K.MemRule.good l.fn.stm.rule) l.fn.stm.config (number l.fn.desc) g.O.Observer.hears (leb 16 l.failed) (Some l.pace.last) v (known l.desc) s (account g.O.Observer.heard l.pace);
}
