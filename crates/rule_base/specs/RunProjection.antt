-- What the clauses of a running algorithm see of the world: the words but for the statuses and the gate, the history,
-- and of each caller its attempt.
use Rattle.std.specs.Prelude.{ℕ, List}
use Rattle.rule_base.specs.declared.entries.Entry.{Entry}
use Rattle.rule_base.specs.declared.views.Attempt.{Attempt}
use Rattle.rule_base.specs.declared.views.LockView.{LockView}
use Rattle.rule_base.specs.declared.views.TmlView.{TmlView}
use Rattle.rule_base.specs.declared.views.Ownership.{Ownership}
use Rattle.rule_base.specs.declared.views.Sample.{Sample}
use Rattle.rule_base.specs.declared.views.Validation.{Validation}
use Rattle.rule_base.specs.declared.views.RingRead.{RingRead}
use Rattle.rule_base.specs.declared.views.RingCommit.{RingCommit}
use Rattle.rule_base.specs.declared.views.View.{View}
use Rattle.rule_base.specs.World.{World, parts}

pub record RunView : Type 0 where
  pub attempt : Attempt
  pub lock : LockView
  pub tml : TmlView
  pub owned : Ownership
  pub sample : Sample
  pub check : Validation
  pub ring_read : RingRead
  pub ring_commit : RingCommit
  pub front : ℕ

abbrev pub run_view : View → RunView
run_view v = record { attempt = v.attempt; lock = v.lock; tml = v.tml; owned = v.owned; sample = v.sample; check = v.check; ring_read = v.ring_read; ring_commit = v.ring_commit; front = v.history.front }

pub record RunProjection : Type 0 where
  pub clock : ℕ
  pub lock : ℕ
  pub base : ℕ
  pub done : ℕ
  pub records : ℕ → ℕ
  pub slots : ℕ → ℕ
  pub heap : ℕ → ℕ
  pub history : List Entry
  pub views : ℕ → RunView

abbrev pub run_projection : World → RunProjection
run_projection w = record { clock = w.clock; lock = w.lock; base = w.base; done = w.done; records = w.records; slots = w.slots; heap = w.heap; history = w.history; views = parts run_view w.views }
