use Rattle.std.proofs.Common.{ℕ, ◌≡◌, ◌≤◌}
use Rattle.stm_rule.specs.Callers.{IsSameCaller}
use Rattle.stm_answers.specs.CallerState.{Grows}
use Rattle.stm_tx.specs.Descs.{known, number}
use Rattle.tx_atomic.specs.declared.tally.Ended.TheVariants.{Busy}
use Rattle.tx_atomic.specs.Accounts.{account, met_times}
use Rattle.tx_atomic.specs.Tries.{FindsBusy}
use Rattle.tx_atomic.specs.Attempts.{IsFresh}
use Rattle.tx_atomic.proofs.attempts.promote.Given as goal

abbrev pub invariant-loop : goal.invariant-loop
invariant-loop g l = record {
  next : (goal.iterator-loop g).can_next l.iterator';
  ends : (goal.iterator-loop g).is_finite l.iterator';
  same : IsSameCaller l.fn.desc l.desc;
  fresh : IsFresh (known l.desc);
  grew : Grows (known l.fn.desc) (known l.desc);
  later : (known l.fn.desc).start ≤ (known l.desc).start;
  made : (known l.desc).made ≡ (known l.fn.desc).made;
  installs : (known l.desc).installs ≡ (known l.fn.desc).installs;
  commits : l.pace.tally.commits ≡ l.fn.pace.tally.commits;
  busy : (k : ℕ) × FindsBusy (g.K.MemRule.good l.fn.stm.rule) l.fn.stm.config (number l.fn.desc) k (known l.fn.desc) (known l.desc) × (account g.O.Observer.heard l.pace ≡ met_times g.O.Observer.hears k Busy (account g.O.Observer.heard l.fn.pace));
}
