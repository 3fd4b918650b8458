-- What a line does to its caller's attempt, and which operation of the script it tells of.
use Rattle.std.specs.Prelude.{Bool, true, false, not, ◌&&◌, List, [], ◌∷◌, Option, Some, None, bytes_eq, if◌then◌else◌, is_some}
use Rattle.work_script.specs.declared.op.Op.{Op}
use Rattle.work_script.specs.declared.op.Op.TheVariants.{Cancel, Irrev}
use Rattle.work_script.specs.Operations.{op_name}
use Rattle.stm_answers.specs.declared.answers.Begin.TheVariants.{Begun}
use Rattle.stm_answers.specs.declared.answers.Cancel.TheVariants.{Cancelled, Irrevocable}
use Rattle.stm_answers.specs.declared.answers.Commit.TheVariants.{Committed, ReadOnly, Again}
use Rattle.stm_answers.specs.declared.answers.Irrev.TheVariants as irrevs
use Rattle.work_trace.specs.declared.said.Said.{Said}
use Rattle.work_trace.specs.declared.said.Said.TheVariants.{TryBegin, Reply, Stopped, TryCancel, TryIrrevocable, TryCommit, Idle, Dropped}
use Rattle.stm_answers.specs.declared.answers.Irrev.{Irrev as IrrevAnswer}
use Rattle.draw_core.specs.declared.turn.Stage.{Stage}
use Rattle.draw_core.specs.declared.turn.Stage.TheVariants.{Before, Inside, Done, Outside, Over}
use Rattle.draw_core.specs.declared.turn.Turn.{Turn}
use Rattle.draw_core.specs.declared.turn.Turn.TheVariants.{Begins, Does, Stops, Grants, Cancels, Commits, Fails, Stays}

abbrev pub irrevocable_turn : IrrevAnswer → Turn
irrevocable_turn irrevs.Granted = Grants
irrevocable_turn (irrevs.Busy caller status) = Stays Inside
irrevocable_turn answer = Fails Inside

-- THE TABLE: what each answer does to its caller's attempt
abbrev pub turn_of : Said → Turn
turn_of (TryBegin (Begun alg)) = Begins
turn_of (TryBegin answer) = Stays Before
turn_of (Reply op reply) = Does op
turn_of (Stopped op stop) = Stops op
turn_of (TryCancel (Cancelled time)) = Cancels
turn_of (TryCancel Irrevocable) = Does Cancel
turn_of (TryIrrevocable answer) = irrevocable_turn answer
turn_of (TryCommit (Committed time)) = Commits
turn_of (TryCommit (ReadOnly time)) = Commits
turn_of (TryCommit (Again word had now)) = Stays Done
turn_of (TryCommit answer) = Fails Done
turn_of Dropped = Fails Inside
turn_of Idle = Stays Over
turn_of said = Stays Outside

-- where a caller stands: the scripts of its transactions that haven't ended; and of an open attempt, which runs the
-- first of them, the operations still to come
pub record Stand : Type 0 where
  pub scripts : List (List Op)
  pub attempt : Option (List Op)

abbrev pub next_of : Option (List Op) → Option Op
next_of None = None
next_of (Some []) = None
next_of (Some (op ∷ ops)) = Some op

abbrev pub past_next : Option (List Op) → Option (List Op)
past_next None = None
past_next (Some []) = Some []
past_next (Some (op ∷ ops)) = Some ops

-- the next operation is of this one's name
abbrev pub is_next : Op → Option Op → Bool
is_next like None = false
is_next like (Some op) = bytes_eq (op_name op) (op_name like)

-- an attempt is open, and every operation of its script done
abbrev pub is_done : Option (List Op) → Bool
is_done None = false
is_done (Some []) = true
is_done (Some (op ∷ ops)) = false

abbrev pub is_outside : Option (List Op) → Bool
is_outside None = true
is_outside (Some rest) = false

abbrev pub is_over : List (List Op) → Bool
is_over [] = true
is_over (script ∷ scripts) = false

-- the caller stands at this stage
abbrev pub is_at : Stage → Stand → Bool
is_at Before at = is_outside at.attempt && not (is_over at.scripts)
is_at Inside at = not (is_outside at.attempt)
is_at Done at = is_done at.attempt
is_at Outside at = is_outside at.attempt
is_at Over at = is_outside at.attempt && is_over at.scripts

abbrev pub later : List (List Op) → List (List Op)
later [] = []
later (script ∷ scripts) = scripts

-- an attempt begins: none is open, and a transaction is left
abbrev pub begun : Option (List Op) → List (List Op) → Option Stand
begun (Some rest) scripts = None
begun None [] = None
begun None (script ∷ scripts) = Some (record { scripts = script ∷ scripts; attempt = Some script })

-- the next operation is done; the transaction has ended; the attempt has
abbrev pub done : Stand → Stand
done at = record at { attempt = past_next at.attempt }

abbrev pub ended : Stand → Stand
ended at = record { scripts = later at.scripts; attempt = None }

abbrev pub given_up : Stand → Stand
given_up at = record at { attempt = None }

-- `irrev`, where it comes next, is done
abbrev pub granted : Stand → Stand
granted at = if is_next Irrev (next_of at.attempt) then done at else at

-- where the caller stands after a line that does this, if it may
abbrev pub after : Stand → Turn → Option Stand
after at Begins = begun at.attempt at.scripts
after at (Does like) = if is_next like (next_of at.attempt) then Some (done at) else None
after at (Stops like) = if is_next like (next_of at.attempt) then Some (given_up at) else None
after at Grants = if is_some at.attempt then Some (granted at) else None
after at Cancels = if is_next Cancel (next_of at.attempt) then Some (ended at) else None
after at Commits = if is_done at.attempt then Some (ended at) else None
after at (Fails stage) = if is_at stage at then Some (given_up at) else None
after at (Stays stage) = if is_at stage at then Some at else None

-- the operation that the line tells of: its caller's next one
abbrev pub told_by : Stand → Turn → Option Op
told_by at (Does like) = next_of at.attempt
told_by at (Stops like) = next_of at.attempt
told_by at t = None
