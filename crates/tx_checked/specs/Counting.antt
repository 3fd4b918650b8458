-- What a caller's counts are after a call that came to this.
use Rattle.std.specs.Prelude.{ℕ, ◌+◌, ◌%◌, ◌^◌}
use Rattle.stm_model.specs.declared.stop.Cause.{Cause}
use Rattle.stm_model.specs.declared.stop.Cause.TheVariants as causes
use Rattle.stm_answers.specs.declared.answers.Begin.{Begin}
use Rattle.stm_answers.specs.declared.answers.Begin.TheVariants as begins
use Rattle.stm_answers.specs.declared.answers.Commit.{Commit}
use Rattle.stm_answers.specs.declared.answers.Commit.TheVariants as commits
use Rattle.stm_answers.specs.declared.answers.Irrev.{Irrev}
use Rattle.stm_answers.specs.declared.answers.Irrev.TheVariants as grants
use Rattle.stm_answers.specs.declared.answers.Read.{Read}
use Rattle.stm_answers.specs.declared.answers.Read.TheVariants as reads
use Rattle.stm_answers.specs.declared.answers.Write.{Write}
use Rattle.stm_answers.specs.declared.answers.Write.TheVariants as writes
use Rattle.tx_checked.specs.declared.counts.Counts.{Counts}
use Rattle.tx_checked.specs.declared.refusal.Refusal.{Refusal}
use Rattle.tx_checked.specs.declared.refusal.Refusal.TheVariants as refusals

abbrev pub no_counts : Counts
no_counts = record { begun = 0; committed = 0; read_only = 0; promoted = 0; full_logs = 0; waits = 0; clock_conflicts = 0; record_conflicts = 0; moved_conflicts = 0; filter_conflicts = 0; overrun_conflicts = 0 }

-- a count is a word
abbrev pub next : ℕ → ℕ
next n = (n + 1) % (2 ^ 64)

abbrev pub after_conflict : Cause → Counts → Counts
after_conflict (causes.Clock had now) c = record c { clock_conflicts = next c.clock_conflicts }
after_conflict (causes.Record index word start) c = record c { record_conflicts = next c.record_conflicts }
after_conflict (causes.Moved index before after) c = record c { moved_conflicts = next c.moved_conflicts }
after_conflict (causes.Filter time bits) c = record c { filter_conflicts = next c.filter_conflicts }
after_conflict (causes.Overrun start clock) c = record c { overrun_conflicts = next c.overrun_conflicts }

abbrev pub after_wait : Counts → Counts
after_wait c = record c { waits = next c.waits }

-- a full clock, marks that stand, and what can't be taken back or is out are not counted
abbrev pub after_refusal : Refusal → Counts → Counts
after_refusal (refusals.Conflict cause) c = after_conflict cause c
after_refusal (refusals.ReadsFull limit) c = record c { full_logs = next c.full_logs }
after_refusal (refusals.WritesFull limit) c = record c { full_logs = next c.full_logs }
after_refusal (refusals.ClockFull clock) c = c
after_refusal refusals.Irrevocable c = c
after_refusal (refusals.Deep limit) c = c
after_refusal (refusals.RangeTaken gate) c = c
after_refusal refusal c = after_wait c

abbrev pub after_begin : Begin → Counts → Counts
after_begin (begins.Begun alg) c = record c { begun = next c.begun }
after_begin (begins.Closed gate) c = after_wait c
after_begin (begins.Held word) c = after_wait c
after_begin (begins.ClockFull clock) c = c

abbrev pub after_read : Read → Counts → Counts
after_read (reads.Value x) c = c
after_read (reads.Conflict cause) c = after_conflict cause c
after_read (reads.Full limit) c = record c { full_logs = next c.full_logs }

abbrev pub after_write : Write → Counts → Counts
after_write writes.Done c = c
after_write (writes.Conflict cause) c = after_conflict cause c
after_write (writes.Full limit) c = record c { full_logs = next c.full_logs }
after_write (writes.ClockFull clock) c = c

abbrev pub after_commit : Commit → Counts → Counts
after_commit (commits.Committed time) c = record c { committed = next c.committed }
after_commit (commits.ReadOnly time) c = record c { read_only = next c.read_only }
after_commit (commits.Conflict cause) c = after_conflict cause c
after_commit (commits.Again word had now) c = after_wait c
after_commit (commits.ClockFull clock) c = c

abbrev pub after_grant : Irrev → Counts → Counts
after_grant grants.Granted c = record c { promoted = next c.promoted }
after_grant (grants.Busy caller status) c = after_wait c
after_grant (grants.Taken gate) c = after_wait c
after_grant (grants.Conflict cause) c = after_conflict cause c
after_grant (grants.ClockFull clock) c = c
