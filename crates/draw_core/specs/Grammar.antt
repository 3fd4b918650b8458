-- The text that `step` writes: what may stand on a line of a trace, and how the text goes on after the trace.
use Rattle.std.specs.Prelude.{ℕ, ◌≡◌, ◌+◌, ◌-◌, ◌^◌, min, Bool, true, false, ◌&&◌, List, [], ◌∷◌, ◌++◌, length, ltb, leb, if◌then◌else◌, Option, Some, None, is_some, Result, Ok, Err, codes, bytes_eq}
use Rattle.stm_model.specs.Algorithms.{alg_name}
use Rattle.stm_model.specs.declared.alg.Alg.{Alg}
use Rattle.stm_model.specs.declared.alg.TheConstants.{ALGORITHMS}
use Rattle.stm_model.specs.declared.config.TheConstants.{MAX_CALLERS}
use Rattle.stm_model.specs.declared.stop.Cause.{Cause}
use Rattle.stm_model.specs.declared.stop.Cause.TheVariants.{Clock, Record, Moved, Filter, Overrun}
use Rattle.stm_model.specs.declared.stop.Stop.{Stop}
use Rattle.stm_model.specs.declared.stop.Stop.TheVariants.{Conflict, Full, ClockFull}
use Rattle.work_script.specs.declared.op.Op.{Op}
use Rattle.work_script.specs.declared.op.TheConstants.{PLACED_KEYED, PLACED_KEYLESS}
use Rattle.work_script.specs.declared.report.Report.{Report}
use Rattle.work_script.specs.Operations.{op_name}
use Rattle.work_text.specs.Lines.{Line as TextLine, lines_of, words_of, number_of}
use Rattle.work_text.specs.WordLaws.{unlines}
use Rattle.work_check.specs.Grammar.{◌>>=◌, named, report_of}
use Rattle.stm_answers.specs.declared.answers.Begin.TheVariants.{Begun, Closed, Held, ClockFull}
use Rattle.stm_answers.specs.declared.answers.Cancel.TheVariants.{Cancelled, Irrevocable}
use Rattle.stm_answers.specs.declared.answers.CloseGate.TheVariants.{Closed, Taken}
use Rattle.stm_answers.specs.declared.answers.Commit.TheVariants.{Committed, ReadOnly, Conflict, Again, ClockFull}
use Rattle.stm_answers.specs.declared.answers.Irrev.TheVariants as irrevs
use Rattle.stm_answers.specs.declared.answers.Look.TheVariants.{Quiet, Busy}
use Rattle.work_trace.specs.declared.line.Line.{Line}
use Rattle.work_trace.specs.declared.line.Line.TheVariants.{Of, Finish}
use Rattle.work_trace.specs.declared.said.Said.{Said}
use Rattle.work_trace.specs.declared.said.Said.TheVariants.{TryBegin, Reply, Stopped, TryCancel, TryIrrevocable, TryCommit, TryClose, Looked, Installed, Reserved, Idle, Dropped, Reopened}
use Rattle.draw_core.specs.declared.said.TheConstants.{PLAIN}
use Rattle.draw_core.specs.declared.reading.TheConstants.{MOST_DRAWN}
use Rattle.draw_core.specs.declared.reading.ReadError.{ReadError}
use Rattle.draw_core.specs.declared.reading.ReadError.TheVariants.{Refused, Memory}

abbrev pub is_nil : {A : Type 0} → List A → Bool
is_nil [] = true
is_nil (x ∷ xs) = false

-- a value, where no word follows
abbrev pub alone : {A : Type 0} → A → List (List ℕ) → Option A
alone a ws = if is_nil ws then Some a else None

abbrev pub otherwise : {A : Type 0} → Option A → Option A → Option A
otherwise (Some a) other = Some a
otherwise None other = other

-- one number and nothing more; two; three
abbrev pub one_of : List (List ℕ) → Option ℕ
one_of [] = None
one_of (w ∷ ws) = if is_nil ws then number_of w else None

abbrev pub two_of : List (List ℕ) → Option (ℕ × ℕ)
two_of [] = None
two_of (w ∷ ws) = number_of w >>= λ a. one_of ws >>= λ b. Some (a, b)

abbrev pub three_of : List (List ℕ) → Option (ℕ × ℕ × ℕ)
three_of [] = None
three_of (w ∷ ws) = number_of w >>= λ a. two_of ws >>= λ p. Some (a, p.0, p.1)

-- the first of these of that name
abbrev pub alg_in : List Alg → List ℕ → Option Alg
alg_in [] word = None
alg_in (alg ∷ algs) word = if bytes_eq word (alg_name alg) then Some alg else alg_in algs word

abbrev pub alg_named : List ℕ → Option Alg
alg_named word = alg_in ALGORITHMS word

abbrev pub op_in : List Op → List ℕ → Option Op
op_in [] word = None
op_in (op ∷ ops) word = if bytes_eq word (op_name op) then Some op else op_in ops word

-- the operation of this name, with zeros for what it works on
abbrev pub op_named : List ℕ → Option Op
op_named word = otherwise (op_in PLAIN word) (otherwise (op_in PLACED_KEYED word) (op_in PLACED_KEYLESS word))

-- the cause, after `conflict`
abbrev pub cause_of : List (List ℕ) → Option Cause
cause_of [] = None
cause_of (w ∷ ws) =
    if bytes_eq w (codes "clock") then two_of ws >>= (λ p. Some (Clock p.0 p.1)) else
    (if bytes_eq w (codes "record") then three_of ws >>= (λ p. Some (Record p.0 p.1 p.2)) else
    (if bytes_eq w (codes "moved") then three_of ws >>= (λ p. Some (Moved p.0 p.1 p.2)) else
    (if bytes_eq w (codes "filter") then two_of ws >>= (λ p. Some (Filter p.0 p.1)) else
    named (codes "overrun") w (two_of ws >>= λ p. Some (Overrun p.0 p.1)))))

-- why an operation ended the attempt
abbrev pub stop_of : List (List ℕ) → Option Stop
stop_of [] = None
stop_of (w ∷ ws) =
    if bytes_eq w (codes "conflict") then cause_of ws >>= (λ c. Some (Conflict c)) else
    (if bytes_eq w (codes "full") then one_of ws >>= (λ n. Some (Full n)) else
    named (codes "clockfull") w (one_of ws >>= λ n. Some (ClockFull n)))

-- each call, by the words after its name
abbrev pub begin_of : List (List ℕ) → Option Said
begin_of [] = None
begin_of (w ∷ ws) =
    if bytes_eq w (codes "closed") then one_of ws >>= (λ n. Some (TryBegin (Closed n))) else
    (if bytes_eq w (codes "held") then one_of ws >>= (λ n. Some (TryBegin (Held n))) else
    (if bytes_eq w (codes "clockfull") then one_of ws >>= (λ n. Some (TryBegin (ClockFull n))) else
    (alg_named w >>= λ alg. alone (TryBegin (Begun alg)) ws)))

abbrev pub operation_of : Op → List (List ℕ) → Option Said
operation_of op ws = otherwise (one_of ws >>= λ n. Some (Reply op n)) (stop_of ws >>= λ s. Some (Stopped op s))

abbrev pub cancel_of : List (List ℕ) → Option Said
cancel_of [] = None
cancel_of (w ∷ ws) =
    if bytes_eq w (codes "cancelled") then one_of ws >>= (λ n. Some (TryCancel (Cancelled n))) else
    named (codes "irrevocable") w (alone (TryCancel Irrevocable) ws)

abbrev pub irrev_of : List (List ℕ) → Option Said
irrev_of [] = None
irrev_of (w ∷ ws) =
    if bytes_eq w (codes "granted") then alone (TryIrrevocable irrevs.Granted) ws else
    (if bytes_eq w (codes "busy") then two_of ws >>= (λ p. Some (TryIrrevocable (irrevs.Busy p.0 p.1))) else
    (if bytes_eq w (codes "taken") then one_of ws >>= (λ n. Some (TryIrrevocable (irrevs.Taken n))) else
    (if bytes_eq w (codes "conflict") then cause_of ws >>= (λ c. Some (TryIrrevocable (irrevs.Conflict c))) else
    named (codes "clockfull") w (one_of ws >>= λ n. Some (TryIrrevocable (irrevs.ClockFull n))))))

abbrev pub commit_of : List (List ℕ) → Option Said
commit_of [] = None
commit_of (w ∷ ws) =
    if bytes_eq w (codes "committed") then one_of ws >>= (λ n. Some (TryCommit (Committed n))) else
    (if bytes_eq w (codes "readonly") then one_of ws >>= (λ n. Some (TryCommit (ReadOnly n))) else
    (if bytes_eq w (codes "conflict") then cause_of ws >>= (λ c. Some (TryCommit (Conflict c))) else
    (if bytes_eq w (codes "again") then three_of ws >>= (λ p. Some (TryCommit (Again p.0 p.1 p.2))) else
    named (codes "clockfull") w (one_of ws >>= λ n. Some (TryCommit (ClockFull n))))))

abbrev pub close_of : List (List ℕ) → Option Said
close_of [] = None
close_of (w ∷ ws) =
    if bytes_eq w (codes "closed") then alone (TryClose Closed) ws else
    named (codes "taken") w (one_of ws >>= λ n. Some (TryClose (Taken n)))

abbrev pub look_of : List (List ℕ) → Option Said
look_of [] = None
look_of (w ∷ ws) =
    if bytes_eq w (codes "quiet") then alone (Looked Quiet) ws else
    named (codes "busy") w (two_of ws >>= λ p. Some (Looked (Busy p.0 p.1)))

abbrev pub install_of : List (List ℕ) → Option Said
install_of [] = None
install_of (w ∷ ws) = alg_named w >>= λ alg. alone (Installed alg) ws

abbrev pub reserve_of : List (List ℕ) → Option Said
reserve_of ws = two_of ws >>= λ p. Some (Reserved p.0 p.1)

-- a word that says all, or an operation
abbrev pub plain_of : List ℕ → List (List ℕ) → Option Said
plain_of w ws =
    if bytes_eq w (codes "idle") then alone Idle ws else
    (if bytes_eq w (codes "drop") then alone Dropped ws else
    (if bytes_eq w (codes "reopen") then alone Reopened ws else
    (op_named w >>= λ op. operation_of op ws)))

-- a call between two attempts, but for one that begins
abbrev pub between_of : List ℕ → List (List ℕ) → Option Said
between_of w ws =
    if bytes_eq w (codes "close") then close_of ws else
    (if bytes_eq w (codes "look") then look_of ws else
    (if bytes_eq w (codes "install") then install_of ws else
    (if bytes_eq w (codes "reserve") then reserve_of ws else plain_of w ws)))

-- WHAT A TURN SAYS, by its words after the caller
abbrev pub said_of : List (List ℕ) → Option Said
said_of [] = None
said_of (w ∷ ws) =
    if bytes_eq w (codes "begin") then begin_of ws else
    (if bytes_eq w (codes "cancel") then cancel_of ws else
    (if bytes_eq w (codes "irrev") then irrev_of ws else
    (if bytes_eq w (codes "commit") then commit_of ws else between_of w ws)))

-- `finish`, or a caller and what it says
abbrev pub line_of : List (List ℕ) → Option Line
line_of [] = None
line_of (w ∷ ws) =
    if bytes_eq w (codes "finish") then alone Finish ws else
    (number_of w >>= λ n. if leb MAX_CALLERS n then None else (said_of ws >>= λ s. Some (Of n s)))

-- `clock full C`
abbrev pub is_full_clock : List (List ℕ) → Bool
is_full_clock (v ∷ w ∷ ws) = bytes_eq v (codes "clock") && bytes_eq w (codes "full") && is_some (one_of ws)
is_full_clock ws = false

-- a report's first line
abbrev pub is_title : List ℕ → Bool
is_title bytes = bytes_eq bytes (codes "report 1")

-- the lines of the trace, where the report after them is in its form; its lines count on
abbrev pub reported : List Line → ℕ → Result Report (ℕ × ℕ) → Result (List Line) ℕ
reported told k (Ok report) = Ok told
reported told k (Err fault) = Err (min (k - 1 + fault.0) (2 ^ 64 - 1))

-- nothing may follow a full clock
abbrev pub closed : List Line → ℕ → List TextLine → Result (List Line) ℕ
closed told k [] = Ok told
closed told k (l ∷ ls) = Err k

abbrev pub go_on : Option Line → ℕ → (Line → Result (List Line) ℕ) → Result (List Line) ℕ
go_on None k rest = Err k
go_on (Some line) k rest = rest line

-- the lines told so far and those of the text from the line k on, up to a report or a full clock;
-- or the first line at fault
abbrev pub read : List Line → ℕ → List TextLine → Result (List Line) ℕ
read told k [] = Err k
read told k (l ∷ ls) =
    if l.ended then (if is_title l.bytes then reported told k (report_of (unlines (l ∷ ls))) else
    (if is_full_clock (words_of l.bytes) then closed told (k + 1) ls else
    go_on (line_of (words_of l.bytes)) k (λ line. read (told ++ line ∷ []) (k + 1) ls)))
    else Err k

-- THE TRACE OF A TEXT, a line for each of its lines; or the first line at fault, 0 for a text that is too long
abbrev pub trace_of : List ℕ → Result (List Line) ℕ
trace_of text = if ltb MOST_DRAWN (length text) then Err 0 else read [] 1 (lines_of text)

-- an error names the first line at fault; want of memory is free
abbrev pub IsFault : ReadError → Result (List Line) ℕ → Type 0
IsFault (Refused line) r = r ≡ Err line
IsFault Memory r = Unit {0}
