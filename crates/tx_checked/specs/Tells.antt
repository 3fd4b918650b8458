-- What the calls tell: what stm_tx tells, and what is written down of a refusal.
use Rattle.std.specs.Prelude.{ℕ, ◌≡◌, ◌≤◌, ◌+◌, Option, Some, None, Result, Ok, Err, [], ◌∷◌, ◌++◌}
use Rattle.stm_model.specs.Algorithms.{install_rise}
use Rattle.stm_model.specs.declared.alg.Alg.{Alg}
use Rattle.stm_model.specs.declared.memory.Memory.{Memory}
use Rattle.stm_tx.specs.Descs.{Reserves}
use Rattle.stm_answers.specs.Answers.{Begins, HasRead, HasWritten, Commits, Cancels, Irrevs, Checks, Rolls, Releases, Reopens}
use Rattle.stm_answers.specs.declared.answers.Begin.{Begin}
use Rattle.stm_answers.specs.declared.answers.Begin.TheVariants as begins
use Rattle.stm_answers.specs.declared.answers.Cancel.{Cancel}
use Rattle.stm_answers.specs.declared.answers.Cancel.TheVariants as cancels
use Rattle.stm_answers.specs.declared.answers.Check.{Check}
use Rattle.stm_answers.specs.declared.answers.Check.TheVariants as checks
use Rattle.stm_answers.specs.declared.answers.Commit.{Commit}
use Rattle.stm_answers.specs.declared.answers.Commit.TheVariants as commits
use Rattle.stm_answers.specs.declared.answers.Irrev.{Irrev}
use Rattle.stm_answers.specs.declared.answers.Irrev.TheVariants as grants
use Rattle.stm_answers.specs.declared.answers.Read.{Read}
use Rattle.stm_answers.specs.declared.answers.Read.TheVariants as reads
use Rattle.stm_answers.specs.declared.answers.Roll.{Roll}
use Rattle.stm_answers.specs.declared.answers.Roll.TheVariants as rolls
use Rattle.stm_answers.specs.declared.answers.Write.{Write}
use Rattle.stm_answers.specs.declared.answers.Write.TheVariants as writes
use Rattle.stm_answers.specs.CallerState.{CallerState, Grows}
use Rattle.tx_checked.specs.Alone.{IsHeldUp}
use Rattle.tx_checked.specs.Counting.{after_begin, after_read, after_write, after_commit, after_grant}
use Rattle.tx_checked.specs.declared.errand.Errand.TheVariants.{Switch}
use Rattle.tx_checked.specs.declared.checked_caller.CheckedCaller.{CheckedCaller}
use Rattle.tx_checked.specs.declared.misuse.Misuse.{Misuse}
use Rattle.tx_checked.specs.declared.refusal.Refusal.{Refusal}
use Rattle.tx_checked.specs.declared.refusal.Refusal.TheVariants as refusals
use Rattle.tx_checked.specs.declared.phase.CallerPhase.TheVariants.{Idle}
use Rattle.tx_checked.specs.Errands.{is_closing}
use Rattle.tx_checked.specs.CheckedCallers.{IsSameCheckedCaller, config_of, known_to, number_of}
use Rattle.tx_checked.specs.Ranges.{IsLeft}
use Rattle.tx_checked.specs.Phases.{Any}

-- a call that fits is made, of the same caller; one that doesn't is answered by what is wrong with it, and changes
-- nothing
abbrev pub Tells : {A : Type 0} → Option Misuse → (A → Type 0) → CheckedCaller → CheckedCaller → Result A Misuse → Type 0
Tells wrong Told m n (Ok answer) = (wrong ≡ None) × IsSameCheckedCaller m n × Told answer
Tells wrong Told m n (Err e) = (wrong ≡ Some e) × (n ≡ m)

-- what is written down of an answer: a refusal, in the place of the one before
abbrev pub begin_refusal : Begin → Option Refusal → Option Refusal
begin_refusal (begins.Begun alg) old = old
begin_refusal (begins.Closed gate) old = Some (refusals.GateClosed gate)
begin_refusal (begins.Held word) old = Some (refusals.Held word)
begin_refusal (begins.ClockFull clock) old = Some (refusals.ClockFull clock)

abbrev pub read_refusal : Read → Option Refusal → Option Refusal
read_refusal (reads.Value x) old = old
read_refusal (reads.Conflict cause) old = Some (refusals.Conflict cause)
read_refusal (reads.Full limit) old = Some (refusals.ReadsFull limit)

abbrev pub write_refusal : Write → Option Refusal → Option Refusal
write_refusal writes.Done old = old
write_refusal (writes.Conflict cause) old = Some (refusals.Conflict cause)
write_refusal (writes.Full limit) old = Some (refusals.WritesFull limit)
write_refusal (writes.ClockFull clock) old = Some (refusals.ClockFull clock)

abbrev pub commit_refusal : Commit → Option Refusal → Option Refusal
commit_refusal (commits.Committed time) old = old
commit_refusal (commits.ReadOnly time) old = old
commit_refusal (commits.Conflict cause) old = Some (refusals.Conflict cause)
commit_refusal (commits.Again word had now) old = Some (refusals.Again word had now)
commit_refusal (commits.ClockFull clock) old = Some (refusals.ClockFull clock)

abbrev pub cancel_refusal : Cancel → Option Refusal → Option Refusal
cancel_refusal (cancels.Cancelled time) old = old
cancel_refusal cancels.Irrevocable old = Some refusals.Irrevocable

abbrev pub grant_refusal : Irrev → Option Refusal → Option Refusal
grant_refusal grants.Granted old = old
grant_refusal (grants.Busy caller status) old = Some (refusals.Busy caller status)
grant_refusal (grants.Taken gate) old = Some (refusals.GateClosed gate)
grant_refusal (grants.Conflict cause) old = Some (refusals.Conflict cause)
grant_refusal (grants.ClockFull clock) old = Some (refusals.ClockFull clock)

module _ (m n : CheckedCaller) where
  abbrev pub HasBegun : Begin → Type 0
  HasBegun r = Begins Any (config_of m) (number_of m) r (known_to m) (known_to n) × (n.range ≡ m.range) × (n.refusal ≡ begin_refusal r m.refusal) × (n.counts ≡ after_begin r m.counts)

  abbrev pub HasCommitted : Commit → Type 0
  HasCommitted r = Commits Any (config_of m) (number_of m) r (known_to m) (known_to n) × (n.range ≡ m.range) × (n.refusal ≡ commit_refusal r m.refusal) × (n.counts ≡ after_commit r m.counts)

  abbrev pub HasCancelled : Cancel → Type 0
  HasCancelled r = Cancels Any (config_of m) (number_of m) r (known_to m) (known_to n) × (n.range ≡ m.range) × (n.refusal ≡ cancel_refusal r m.refusal) × (n.counts ≡ m.counts)

  abbrev pub IsIrrevocable : Irrev → Type 0
  IsIrrevocable r = Irrevs Any (config_of m) (number_of m) r (known_to m) (known_to n) × (n.range ≡ m.range) × (n.refusal ≡ grant_refusal r m.refusal) × (n.counts ≡ after_grant r m.counts)

module _ (a : ℕ) (m n : CheckedCaller) where
  abbrev pub HasReadWord : Read → Type 0
  HasReadWord r = HasRead Any (config_of m) (number_of m) a r (known_to m) (known_to n) × (n.range ≡ m.range) × (n.refusal ≡ read_refusal r m.refusal) × (n.counts ≡ after_read r m.counts)

module _ (a x : ℕ) (m n : CheckedCaller) where
  abbrev pub HasWrittenWord : Write → Type 0
  HasWrittenWord r = HasWritten Any (config_of m) (number_of m) a x r (known_to m) (known_to n) × (n.range ≡ m.range) × (n.refusal ≡ write_refusal r m.refusal) × (n.counts ≡ after_write r m.counts)

-- what a switch tells: it installed that algorithm, once, and committed nothing
pub record Switches (alg : Alg) (v w : CallerState) : Type 0 where
  pub grew : Grows v w
  pub made : w.made ≡ v.made
  pub rises : (v.rises ≤ w.rises) × (w.rises ≤ v.rises + install_rise alg)
  pub installs : w.installs ≡ v.installs ++ alg ∷ []

abbrev pub HasSwitched : Alg → CheckedCaller → CheckedCaller → Result (Unit {0}) Refusal → Type 0
HasSwitched alg m n (Ok r) = Switches alg (known_to m) (known_to n) × (n.phase ≡ Idle) × (n.range ≡ m.range) × (n.refusal ≡ m.refusal) × (n.counts ≡ m.counts)
HasSwitched alg m n (Err e) = IsLeft (Switch alg) e m n × IsHeldUp (config_of m) (number_of m) (is_closing m.phase) e (known_to m) (known_to n)

-- the gate is open again, and nothing else has changed
abbrev pub HasReopened : CheckedCaller → CheckedCaller → Unit {0} → Type 0
HasReopened m n r = Reopens Any (config_of m) (number_of m) (known_to m) (known_to n) × (n.phase ≡ Idle) × (n.range ≡ m.range) × (n.refusal ≡ m.refusal) × (n.counts ≡ m.counts)

abbrev pub mark_refusal : Check → Option Refusal → Option Refusal
mark_refusal (checks.Marked depth) old = old
mark_refusal (checks.Deep limit) old = Some (refusals.Deep limit)

abbrev pub roll_refusal : Roll → Option Refusal → Option Refusal
roll_refusal rolls.Rolled old = old
roll_refusal rolls.Irrevocable old = Some refusals.Irrevocable

abbrev pub HasMarked : CheckedCaller → CheckedCaller → Check → Type 0
HasMarked m n r = Checks r (known_to m) (known_to n) × (n.range ≡ m.range) × (n.refusal ≡ mark_refusal r m.refusal) × (n.counts ≡ m.counts)

abbrev pub HasRolled : ℕ → CheckedCaller → CheckedCaller → Roll → Type 0
HasRolled d m n r = Rolls Any (config_of m) (number_of m) d r (known_to m) (known_to n) × (n.range ≡ m.range) × (n.refusal ≡ roll_refusal r m.refusal) × (n.counts ≡ m.counts)

abbrev pub HasDropped : ℕ → CheckedCaller → CheckedCaller → Unit {0} → Type 0
HasDropped d m n r = Releases d (known_to m) (known_to n) × (n.range ≡ m.range) × (n.refusal ≡ m.refusal) × (n.counts ≡ m.counts)

-- its logs are longer, and nothing else that it knows has changed
abbrev pub HasReserved : ℕ → ℕ → CheckedCaller → CheckedCaller → Result (Unit {0}) Memory → Type 0
HasReserved reads writes m n (Ok r) = Reserves reads writes (known_to m) (known_to n) × (n.desc.view ≡ m.desc.view) × (n.range ≡ m.range) × (n.refusal ≡ m.refusal) × (n.counts ≡ m.counts)
HasReserved reads writes m n (Err e) = n ≡ m
