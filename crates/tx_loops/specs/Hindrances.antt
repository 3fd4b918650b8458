-- What hindered a loop, by what the calls beneath answered.
use Rattle.std.specs.Prelude.{ℕ, ◌≡◌, ◌⊎◌, Some, None, Ok}
use Rattle.stm_model.specs.declared.alg.Alg.{Alg}
use Rattle.stm_answers.specs.CallerState.{Grows}
use Rattle.stm_answers.specs.declared.answers.Begin.{Begin}
use Rattle.stm_answers.specs.declared.answers.Begin.TheVariants as begins
use Rattle.stm_answers.specs.declared.answers.Commit.{Commit}
use Rattle.stm_answers.specs.declared.answers.Irrev.{Irrev}
use Rattle.stm_answers.specs.declared.answers.Write.{Write}
use Rattle.tx_checked.specs.CheckedCallers.{known_to}
use Rattle.tx_checked.specs.declared.checked_caller.CheckedCaller.{CheckedCaller}
use Rattle.tx_checked.specs.declared.refusal.Refusal.{Refusal}
use Rattle.tx_checked.specs.declared.refusal.Refusal.TheVariants as refusals
use Rattle.tx_checked.specs.Misuses.{access, inside, outside, running}
use Rattle.tx_checked.specs.Tells.{HasBegun, HasCommitted, HasWrittenWord, IsIrrevocable, Tells, begin_refusal, commit_refusal, grant_refusal, write_refusal}
use Rattle.tx_loops.specs.declared.looping_caller.LoopingCaller.{LoopingCaller}
use Rattle.tx_loops.specs.declared.stage.Stage.{Stage}
use Rattle.tx_loops.specs.declared.stage.Stage.TheVariants.{Free, Asking, Committing}
use Rattle.tx_loops.specs.declared.turn.Turn.{Turn}
use Rattle.tx_loops.specs.Turns.{IsAfter}

-- THE CALL FROM m TO n WAS REFUSED SO: a begin, a request to be irrevocable, a commit, a write of x to a
abbrev pub HindersBegin : CheckedCaller → CheckedCaller → Refusal → Type 0
HindersBegin m n e = (r : Begin) × Tells (outside m) (HasBegun m n) m n (Ok r) × (begin_refusal r None ≡ Some e)

abbrev pub HindersGrant : CheckedCaller → CheckedCaller → Refusal → Type 0
HindersGrant m n e = (r : Irrev) × Tells (running m) (IsIrrevocable m n) m n (Ok r) × (grant_refusal r None ≡ Some e)

abbrev pub HindersCommit : CheckedCaller → CheckedCaller → Refusal → Type 0
HindersCommit m n e = (r : Commit) × Tells (inside m) (HasCommitted m n) m n (Ok r) × (commit_refusal r None ≡ Some e)

abbrev pub HindersWrite : ℕ → ℕ → CheckedCaller → CheckedCaller → Refusal → Type 0
HindersWrite a x m n e = (r : Write) × Tells (access a m) (HasWrittenWord a x m n) m n (Ok r) × (write_refusal r None ≡ Some e)

-- an attempt that had begun asked to be irrevocable, was refused so, and where another has the gate it was ended
abbrev pub HindersAsking : CheckedCaller → CheckedCaller → Refusal → Type 0
HindersAsking m n e = (k : CheckedCaller) × HindersGrant m k e × Grows (known_to k) (known_to n)

abbrev pub HasOpened : CheckedCaller → CheckedCaller → Type 0
HasOpened m n = (alg : Alg) × Tells (outside m) (HasBegun m n) m n (Ok (begins.Begun alg))

-- none began, or one did and asked in vain
abbrev pub HindersOpening : CheckedCaller → CheckedCaller → Refusal → Type 0
HindersOpening m n e = HindersBegin m n e ⊎ ((k : CheckedCaller) × HasOpened m k × HindersAsking k n e)

-- where the loop stands then: the same is asked again where another was in an attempt, or faster;
-- else the attempt has ended
abbrev pub stage_after : Refusal → Stage
stage_after (refusals.Busy caller status) = Asking
stage_after (refusals.Again word had now) = Committing
stage_after e = Free

-- SOMETHING HINDERED IT SO, and that is written down; the turn comes after that
abbrev pub IsHindered : (Refusal → Type 0) → LoopingCaller → Turn → Type 0
IsHindered Hinders n turn = (e : Refusal) × Hinders e × IsAfter e turn × (n.stage ≡ stage_after e) × (n.caller.refusal ≡ Some e)
