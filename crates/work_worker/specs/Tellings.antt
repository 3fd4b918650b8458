-- What the call of a turn tells: the answer's own clause, of what the caller knew before the call and knows after it.
use Rattle.std.specs.Prelude.{ℕ, ◌≡◌, true, List}
use Rattle.stm_model.specs.declared.config.Config.{Config}
use Rattle.stm_model.specs.declared.stop.Stop.{Stop}
use Rattle.stm_model.specs.declared.stop.Stop.TheVariants.{ClockFull}
use Rattle.work_script.specs.declared.op.Op.{Op}
use Rattle.work_trace.specs.declared.said.Said.{Said}
use Rattle.work_trace.specs.declared.said.Said.TheVariants.{TryBegin, Reply, Stopped, TryCancel, TryIrrevocable, TryCommit, TryClose, Looked, Installed, Reserved, Idle, Dropped, Reopened}
use Rattle.work_trace.specs.Places.{CallerProgress, may_write}
use Rattle.work_trace.specs.Turns.{Comes, is_call}
use Rattle.stm_answers.specs.Answers.{Begins, Cancels, Closes, Commits, Installs, Irrevs, Looks, Reopens, Stops}
use Rattle.stm_answers.specs.CallerState.{CallerState, IsRunning}
use Rattle.stm_answers.specs.CallerStateLaws.{Carries}
use Rattle.stm_tx.specs.Descs.{Reserves}
use Rattle.stm_answers.specs.declared.answers.Cancel.TheVariants.{Cancelled}
use Rattle.stm_answers.specs.declared.answers.Irrev.{Irrev}
use Rattle.stm_answers.specs.declared.answers.Irrev.TheVariants.{Granted, Busy, Taken, Conflict, ClockFull}

-- all is as it was but what is said of an attempt and of its logs, where none is open
abbrev pub IsOutside : CallerState → CallerState → Type 0
IsOutside v w = w ≡ record v { committing = w.committing; log = w.log; depth = w.depth; marks = w.marks; kept = w.kept; reads_limit = w.reads_limit; writes_limit = w.writes_limit; marks_limit = w.marks_limit }

-- an operation of the script that comes next is no operation on the memory
abbrev pub OnlyCalls : CallerProgress → Type 0
OnlyCalls at = (op : Op) → Comes op at → is_call op ≡ true

module _ (good : List ℕ → Type 0) (c : Config) (n : ℕ) where
  -- a read or a write of the operation ended the attempt by this stop, after others of it that went on
  pub record StoppedBy (op : Op) (stop : Stop) (v w : CallerState) : Type 0 where
    pub before : CallerState
    pub carries : Carries v before
    pub running : before.running ≡ true
    pub address : ℕ
    pub stops : Stops good c n address stop before w
    pub writes : (clock : ℕ) → stop ≡ ClockFull clock → may_write op ≡ true

  -- where another caller has the gate the attempt was cancelled after the call
  abbrev pub TellsIrrevocable : Irrev → CallerState → CallerState → Type 0
  TellsIrrevocable Granted v w = Irrevs good c n Granted v w
  TellsIrrevocable (Busy caller status) v w = Irrevs good c n (Busy caller status) v w
  TellsIrrevocable (Taken gate) v w = (u : CallerState) × Irrevs good c n (Taken gate) v u × ((time : ℕ) × Cancels good c n (Cancelled time) u w)
  TellsIrrevocable (Conflict cause) v w = Irrevs good c n (Conflict cause) v w
  TellsIrrevocable (Irrev.ClockFull clock) v w = Irrevs good c n (Irrev.ClockFull clock) v w

  abbrev pub Tells : Said → CallerState → CallerState → Type 0
  Tells (TryBegin b) v w = Begins good c n b v w
  Tells (Reply op reply) v w = Carries v w × IsRunning w
  Tells (Stopped op stop) v w = StoppedBy op stop v w
  Tells (TryCancel r) v w = Cancels good c n r v w
  Tells (TryIrrevocable r) v w = TellsIrrevocable r v w
  Tells (TryCommit r) v w = Commits good c n r v w
  Tells (TryClose r) v w = Closes good c n r v w
  Tells (Looked l) v w = Looks good c n l v w
  Tells (Installed alg) v w = (u : CallerState) × Installs good c n alg v u × Reopens good c n u w
  Tells (Reserved reads writes) v w = Reserves reads writes v w × IsOutside v w
  Tells Idle v w = w ≡ v
  Tells Dropped v w = (time : ℕ) × Cancels good c n (Cancelled time) v w
  Tells Reopened v w = Reopens good c n v w
