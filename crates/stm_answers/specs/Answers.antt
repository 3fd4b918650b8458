-- When each answer comes, and what stands after it.
use Rattle.std.specs.Prelude.{ℕ, ◌≡◌, ◌||◌, ◌≢◌, ◌<◌, ◌≤◌, ◌+◌, ◌%◌, ◌^◌, ◌⊎◌, max, min, not, if◌then◌else◌, Bool, true, false, List, [], ◌∷◌, ◌++◌, ◌-◌, length, get_or, take}
use Rattle.stm_model.specs.Algorithms.{asks_at_begin, asks_at_write, asks_at_commit, asks_at_grant, closes_gate, entry_rise, logs_writes, quit_rise, install_rise, takes_lock}
use Rattle.stm_model.specs.declared.alg.Alg.{Alg}
use Rattle.stm_model.specs.declared.alg.Alg.TheVariants.{Cgl, Tml, OrecLazy, OrecEager, RingSw, Serial}
use Rattle.stm_model.specs.declared.config.Config.{Config}
use Rattle.stm_model.specs.declared.stop.Stop.{Stop}
use Rattle.stm_model.specs.declared.stop.Stop.TheVariants as stops
use Rattle.stm_model.specs.Histories.{Entry, memory_at, IsLegal}
use Rattle.stm_model.specs.Logs.{Log, Reads, Writes, IsExplained, Sees, Keeps}
use Rattle.rule_base.specs.declared.layout.At.{At}
use Rattle.rule_base.specs.declared.layout.At.TheVariants.{Clock, Lock, Gate, Done, Status}
use Rattle.rule_base.specs.declared.views.Phase.TheVariants.{Closing}
use Rattle.rule_base.specs.declared.views.TracedStep.{TracedStep}
use Rattle.rule_base.specs.Bridge.{addresses}
use Rattle.rule_base.specs.Encodings.{holder_of, alg_of, fence_of, taken_lock}
use Rattle.rule_base.specs.History.{member}
use Rattle.stm_answers.specs.declared.answers.Begin.{Begin}
use Rattle.stm_answers.specs.declared.answers.Begin.TheVariants.{Begun, Closed, Held, ClockFull}
use Rattle.stm_answers.specs.declared.answers.Cancel.{Cancel}
use Rattle.stm_answers.specs.declared.answers.Cancel.TheVariants.{Cancelled, Irrevocable}
use Rattle.stm_answers.specs.declared.answers.Check.{Check}
use Rattle.stm_answers.specs.declared.answers.Check.TheVariants.{Marked, Deep}
use Rattle.stm_answers.specs.declared.answers.Roll.{Roll}
use Rattle.stm_answers.specs.declared.answers.Roll.TheVariants.{Rolled}
use Rattle.stm_answers.specs.declared.answers.Roll.TheVariants as rolls
use Rattle.stm_answers.specs.declared.answers.CloseGate.{CloseGate}
use Rattle.stm_answers.specs.declared.answers.CloseGate.TheVariants as gates
use Rattle.stm_answers.specs.declared.answers.Commit.{Commit}
use Rattle.stm_answers.specs.declared.answers.Commit.TheVariants.{Committed, ReadOnly, Conflict, Again, ClockFull}
use Rattle.stm_answers.specs.declared.answers.Irrev.{Irrev}
use Rattle.stm_answers.specs.declared.answers.Irrev.TheVariants as grants
use Rattle.stm_answers.specs.declared.answers.Look.{Look}
use Rattle.stm_answers.specs.declared.answers.Look.TheVariants as looks
use Rattle.stm_answers.specs.declared.answers.Read.{Read}
use Rattle.stm_answers.specs.declared.answers.Read.TheVariants.{Value, Conflict, Full}
use Rattle.stm_answers.specs.declared.answers.Write.{Write}
use Rattle.stm_answers.specs.declared.answers.Write.TheVariants.{Done, Conflict, Full, ClockFull}
use Rattle.stm_answers.specs.Causes.{Asked, FindsFull, NamesOther, Conflicts, IsAgain, OwesValidation, reads_full, writes_full}
use Rattle.stm_answers.specs.Causes.Asked.{ForWord, ToCommit, ToPromote}
use Rattle.stm_answers.specs.Evidence.{Found, FindsStart, Exchanged}
use Rattle.stm_answers.specs.CallerState.{CallerState, Grows, IsIdle, is_irrevocable, wrote, has_written, no_log, zeros}

-- the entry that a commit makes of the log: the caller has made this many before
abbrev pub entry : ℕ → ℕ → ℕ → Log → Entry
entry time caller number l = record { time = time; caller = caller; number = number; reads = l.reads; writes = l.writes }

-- nothing began
pub record Stays (c : Config) (v w : CallerState) : Type 0 where
  pub idle : IsIdle w
  pub made : w.made ≡ v.made
  pub grows : Grows v w
  pub rises : w.rises ≡ v.rises
  pub installs : w.installs ≡ v.installs
  -- and the gate names the algorithm that a caller alone knew
  pub sole : c.callers ≡ 1 → w.alg ≡ v.alg

-- where a start is loaded
abbrev pub start_word : Alg → At
start_word Cgl = Clock
start_word Tml = Clock
start_word OrecLazy = Clock
start_word OrecEager = Clock
start_word RingSw = Done
start_word Serial = Clock

-- how a start moves in a call: not at all; where a validation was owed, to a clock that was loaded and up to which all
-- reads are valid; where the clock was no longer the start, up to DONE, within the clock
abbrev pub StartMoves : Config → Asked → Alg → CallerState → CallerState → Type 0
StartMoves c asked Cgl v w = w.start ≡ v.start
StartMoves c asked Tml v w = w.start ≡ v.start
StartMoves c asked OrecLazy v w = (w.start ≡ v.start) ⊎ (Found Clock w.start v w × OwesValidation c asked v w)
StartMoves c asked OrecEager v w = (w.start ≡ v.start) ⊎ (Found Clock w.start v w × OwesValidation c asked v w)
StartMoves c asked RingSw v w = ((w.start ≡ v.start) × FindsStart v w) ⊎ ((clock done : ℕ) × Found Clock clock v w × Found Done done v w × (w.start ≡ max v.start (min done clock)))
StartMoves c asked Serial v w = w.start ≡ v.start

-- by how much at most a call raises the clock that leaves the attempt open: TML's first write makes it odd,
-- and the attempt irrevocable
abbrev pub write_rise : Alg → Bool → ℕ
write_rise Cgl irrevocable = 0
write_rise Tml true = 0
write_rise Tml false = 1
write_rise OrecLazy irrevocable = 0
write_rise OrecEager irrevocable = 0
write_rise RingSw irrevocable = 0
write_rise Serial irrevocable = 0

-- who wrote under TML, and wasn't promoted, has made the clock odd
abbrev pub WritesLocked : CallerState → Type 0
WritesLocked w = w.alg ≡ Tml → w.granted ≡ false → w.locked ≡ true

-- what has an item after a write of a: once irrevocable, and under who keeps no such log, nothing more
abbrev pub kept_with : ℕ → CallerState → List ℕ
kept_with a v = if not (logs_writes v.alg) || (is_irrevocable v || member v.kept a) then v.kept else v.kept ++ a ∷ []

-- what has an item after a roll back to where this was written: an undo log keeps its items,
-- a write log has those of its mark
abbrev pub kept_rolled : Alg → List ℕ → List (ℕ × ℕ) → List ℕ
kept_rolled Cgl kept writes = kept
kept_rolled Tml kept writes = kept
kept_rolled OrecLazy kept writes = addresses writes
kept_rolled OrecEager kept writes = kept
kept_rolled RingSw kept writes = addresses writes
kept_rolled Serial kept writes = kept

-- who holds the lock keeps it, and none is taken, but the clock by TML's first write
abbrev pub KeepsLock : CallerState → CallerState → Type 0
KeepsLock v w = (w.locked ≡ v.locked) ⊎ ((v.alg ≡ Tml) × (w.locked ≡ true))

-- the attempt stays open, with or without the gate
pub record Continues (v w : CallerState) : Type 0 where
  pub running : w.running ≡ true
  pub closing : w.closing ≡ false
  pub made : w.made ≡ v.made
  pub grows : Grows v w
  pub alg : w.alg ≡ v.alg
  pub fence : w.fence ≡ v.fence
  pub base : w.base ≡ v.base
  pub rises : (v.rises ≤ w.rises) × (w.rises ≤ v.rises + write_rise v.alg (is_irrevocable v))
  pub later : v.start ≤ w.start
  pub installs : w.installs ≡ v.installs
  pub depth : w.depth ≡ v.depth
  pub locked : KeepsLock v w

-- the attempt stays open, and all but its log and its marks is as it was
pub record StaysOpen (v w : CallerState) : Type 0 where
  pub running : w.running ≡ true
  pub uncommitted : w.committing ≡ false
  pub closing : w.closing ≡ false
  pub made : w.made ≡ v.made
  pub grows : Grows v w
  pub alg : w.alg ≡ v.alg
  pub fence : w.fence ≡ v.fence
  pub base : w.base ≡ v.base
  pub rises : w.rises ≡ v.rises
  pub start : w.start ≡ v.start
  pub installs : w.installs ≡ v.installs
  pub granted : w.granted ≡ v.granted
  pub holds : w.holds ≡ v.holds
  pub checked : w.checked ≡ v.checked
  pub locked : w.locked ≡ v.locked

-- the attempt stays open after what was asked of it, and as it was toward the others
pub record GoesOn (c : Config) (asked : Asked) (v w : CallerState) : Type 0 where
  pub continues : Continues v w
  pub start : StartMoves c asked v.alg v w
  pub granted : w.granted ≡ v.granted
  pub holds : w.holds ≡ v.holds
  pub checked : w.checked ≡ v.checked
  pub marks : w.marks ≡ v.marks

-- a mark more, at what the attempt has written, unless it can't be taken back any more; nothing else changes
pub record IsMarked (v w : CallerState) : Type 0 where
  pub is : w ≡ record v { depth = v.depth + 1; marks = w.marks }
  pub marks : is_irrevocable v ≡ false → (length v.marks ≡ v.depth) × (w.marks ≡ v.marks ++ v.log.writes ∷ [])

-- what `checkpoint` tells
abbrev pub Checks : Check → CallerState → CallerState → Type 0
Checks (Marked depth) v w = (v.depth < v.marks_limit) × (depth ≡ v.depth + 1) × IsMarked v w
Checks (Deep limit) v w = (v.marks_limit ≤ v.depth) × (limit ≡ v.marks_limit) × (w ≡ v)

-- what `release` from mark d on does: the writes stay
pub record Releases (d : ℕ) (v w : CallerState) : Type 0 where
  pub is : w ≡ record v { depth = d - 1; marks = w.marks }
  pub marks : is_irrevocable v ≡ false → w.marks ≡ take (d - 1) v.marks

-- the caller holds the gate that it closed, and is in no attempt
pub record HoldsClosed (w : CallerState) : Type 0 where
  pub phase : w.phase ≡ Closing
  pub running : w.running ≡ false
  pub closing : w.closing ≡ true
  pub holds : w.holds ≡ true
  pub ungranted : w.granted ≡ false
  pub unlocked : w.locked ≡ false

-- a call on the gate that the caller holds, but for what it is for: no caller seen idle is forgotten
pub record KeepsClosed (v w : CallerState) : Type 0 where
  pub holds : HoldsClosed w
  pub made : w.made ≡ v.made
  pub grows : Grows v w
  pub checked : (k : ℕ) → member v.checked k ≡ true → member w.checked k ≡ true

-- each of these steps loaded the status of a caller that was not yet seen idle
abbrev pub OfUnseen : List ℕ → List TracedStep → Type 0
OfUnseen checked [] = Unit {0}
OfUnseen checked (i ∷ is) = ((k : ℕ) × (i.place ≡ Status k) × (member checked k ≡ false)) × OfUnseen checked is

-- the attempt ended, and the gate is not held
pub record Ends (v w : CallerState) : Type 0 where
  pub idle : IsIdle w
  pub grows : Grows v w
  pub alg : w.alg ≡ v.alg
  pub base : w.base ≡ v.base
  pub installs : w.installs ≡ v.installs

-- the attempt made no entry: its steps have raised the clock at most as records raise it that are given back
abbrev pub RisesWithout : CallerState → CallerState → Type 0
RisesWithout v w = (v.base ≤ w.rises) × (w.rises ≤ v.base + quit_rise v.alg (has_written v))

-- the attempt ended and made no entry, by a refusal: once irrevocable, it is not refused
pub record Quits (v w : CallerState) : Type 0 where
  pub ends : Ends v w
  pub made : w.made ≡ v.made
  pub rises : RisesWithout v w
  pub revocable : is_irrevocable v ≡ false

-- good is what the user keeps true of memory; c is the memory's configuration, and n the caller
module _ (good : List ℕ → Type 0) (c : Config) (n : ℕ) where
  -- with one caller alone there is nobody in the way
  abbrev pub HasOthers : Type 0
  HasOthers = 1 < c.callers

  -- it has read only the memory at its start, after what it has seen, which is a legal history;
  -- and a good memory explains what it read
  pub record IsOpaque (w : CallerState) : Type 0 where
    pub legal : IsLegal good (zeros c.words) c.clock w.seen
    pub reach : w.start ≤ w.front
    pub sees : Sees w.start w.seen (zeros c.words) w.log
    pub kept : good (memory_at w.start w.seen (zeros c.words))
    pub explained : IsExplained good c.words w.log

  -- the gate was loaded open, under this algorithm
  abbrev pub FindsOpen : Alg → CallerState → CallerState → Type 0
  FindsOpen alg v w = (word : ℕ) × Found Gate word v w × (holder_of word ≡ 0) × (alg_of word ≡ alg)

  -- an attempt is under way, with a start that was loaded, not before anything that was seen
  pub record BeginsAt (alg : Alg) (v w : CallerState) : Type 0 where
    pub running : w.running ≡ true
    pub committing : w.committing ≡ false
    pub closing : w.closing ≡ false
    pub made : w.made ≡ v.made
    pub grows : Grows v w
    pub gate : FindsOpen alg v w
    -- the fence that it sees is that of the gate loaded, and there is none where the memory takes none
    pub fence : (word : ℕ) × Found Gate word v w × (w.fence ≡ fence_of word)
    pub unfenced : c.fence ≡ false → w.fence ≡ 0
    pub named : w.alg ≡ alg
    -- with one caller that is the algorithm that it knew: nobody else has installed another
    pub sole : c.callers ≡ 1 → alg ≡ v.alg
    pub start : Found (start_word alg) w.start v w
    pub fresh : v.front ≤ w.start
    pub log : w.log ≡ no_log
    pub unmarked : (w.depth ≡ 0) × (w.marks ≡ [])
    pub bare : w.kept ≡ []
    pub opaque : IsOpaque w
    pub granted : w.granted ≡ false
    pub holds : w.holds ≡ false
    pub rises : w.rises ≡ v.rises
    pub base : w.base ≡ v.rises
    pub installs : w.installs ≡ v.installs
    -- an algorithm with a lock found it free, and holds it
    pub locked : w.locked ≡ takes_lock alg
    pub took : takes_lock alg ≡ true → Exchanged Lock 0 (taken_lock n) v w

  -- another caller has the lock, or under TML the clock
  abbrev pub IsHeld : Alg → ℕ → CallerState → CallerState → Type 0
  IsHeld Cgl word v w = Found Lock word v w × NamesOther c n word
  IsHeld Tml word v w = Found Clock word v w × (word % 2 ≡ 1)
  IsHeld OrecLazy word v w = ⊥
  IsHeld OrecEager word v w = ⊥
  IsHeld RingSw word v w = ⊥
  IsHeld Serial word v w = Found Lock word v w × NamesOther c n word

  -- what `try_begin` tells
  abbrev pub Begins : Begin → CallerState → CallerState → Type 0
  Begins (Begun alg) v w = BeginsAt alg v w
  Begins (Closed gate) v w = Stays c v w × Found Gate gate v w × NamesOther c n (holder_of gate) × HasOthers
  Begins (Held word) v w = Stays c v w × FindsOpen w.alg v w × (0 < word) × IsHeld w.alg word v w × HasOthers
  Begins (ClockFull clock) v w = Stays c v w × FindsOpen w.alg v w × (asks_at_begin w.alg ≡ true) × FindsFull clock v w

  -- a read or a write of a ended the attempt by this stop
  abbrev pub Stops : ℕ → Stop → CallerState → CallerState → Type 0
  Stops a (stops.Conflict cause) v w = Quits v w × Conflicts c n (ForWord a) cause v w × HasOthers
  Stops a (stops.Full limit) v w =
      Quits v w × (((reads_full a v ≡ true) × (limit ≡ v.reads_limit)) ⊎ ((writes_full a v ≡ true) × (limit ≡ v.writes_limit)))
  Stops a (stops.ClockFull clock) v w = Quits v w × (asks_at_write v.alg ≡ true) × FindsFull clock v w

  -- what `read` of a tells: Full comes exactly where the log needs room that it hasn't
  abbrev pub HasRead : ℕ → Read → CallerState → CallerState → Type 0
  HasRead a (Value x) v w = GoesOn c (ForWord a) v w × (w.committing ≡ false) × Reads v.log a x w.log × (x < 2 ^ 64) × IsOpaque w × (reads_full a v ≡ false) × (w.rises ≡ v.rises) × (w.kept ≡ v.kept)
  HasRead a (Conflict cause) v w = Quits v w × Conflicts c n (ForWord a) cause v w × HasOthers × (reads_full a v ≡ false)
  HasRead a (Full limit) v w = Quits v w × (reads_full a v ≡ true) × (limit ≡ v.reads_limit)

  -- what `write` of x at a tells
  abbrev pub HasWritten : ℕ → ℕ → Write → CallerState → CallerState → Type 0
  HasWritten a x Done v w = GoesOn c (ForWord a) v w × (w.committing ≡ false) × Writes v.log a x w.log × IsOpaque w × (writes_full a v ≡ false) × (w.kept ≡ kept_with a v) × WritesLocked w
  HasWritten a x (Conflict cause) v w = Quits v w × Conflicts c n (ForWord a) cause v w × HasOthers × (writes_full a v ≡ false)
  HasWritten a x (Full limit) v w = Quits v w × (writes_full a v ≡ true) × (limit ≡ v.writes_limit)
  HasWritten a x (ClockFull clock) v w = Quits v w × (asks_at_write v.alg ≡ true) × FindsFull clock v w × (writes_full a v ≡ false)

  -- the attempt goes on: what it has written is what it had at mark d, which stands, and what it has read is read
  pub record IsRolled (d : ℕ) (v w : CallerState) : Type 0 where
    pub stays : StaysOpen v w
    pub within : d ≤ length v.marks
    pub reads : w.log.reads ≡ v.log.reads
    pub writes : w.log.writes ≡ get_or v.marks (d - 1) []
    pub depth : w.depth ≡ d
    pub marks : w.marks ≡ take d v.marks
    pub kept : w.kept ≡ kept_rolled v.alg v.kept w.log.writes
    pub opaque : IsOpaque w

  -- what `roll_to` mark d tells
  abbrev pub Rolls : ℕ → Roll → CallerState → CallerState → Type 0
  Rolls d Rolled v w = IsRolled d v w × (is_irrevocable v ≡ false)
  Rolls d rolls.Irrevocable v w = (w ≡ v) × (is_irrevocable v ≡ true)

  -- what `commit` asks: an attempt that wrote keeps the user's rule
  abbrev pub KeepsRule : CallerState → Type 0
  KeepsRule v = wrote v ≡ true → Keeps good c.words v.log

  -- the attempt ended with one entry more, the latest of a legal history
  pub record CommitsAt (time : ℕ) (v w : CallerState) : Type 0 where
    pub ends : Ends v w
    pub rises : w.rises ≡ v.base + entry_rise v.alg
    pub wrote : wrote v ≡ true
    pub made : w.made ≡ v.made ++ entry time n (length v.made) v.log ∷ []
    pub before : List Entry
    pub seen : w.seen ≡ before ++ entry time n (length v.made) v.log ∷ []
    pub legal : IsLegal good (zeros c.words) c.clock w.seen
    pub later : v.start < time
    pub above : v.front < time
    pub front : w.front ≡ time

  -- the attempt ended at its start: what it read is the memory there
  pub record EndsAt (time : ℕ) (v w : CallerState) : Type 0 where
    pub ends : Ends v w
    pub made : w.made ≡ v.made
    pub is_start : time ≡ v.start
    pub seen : time ≤ w.front
    pub kept : good (memory_at time w.seen (zeros c.words))
    pub sees : Sees time w.seen (zeros c.words) v.log

  -- what `commit` tells
  abbrev pub Commits : Commit → CallerState → CallerState → Type 0
  Commits (Committed time) v w = CommitsAt time v w
  Commits (ReadOnly time) v w = EndsAt time v w × RisesWithout v w × (wrote v ≡ false)
  Commits (Conflict cause) v w = Quits v w × Conflicts c n ToCommit cause v w × HasOthers × (wrote v ≡ true)
  Commits (Again word had now) v w =
      GoesOn c ToCommit v w × (w.committing ≡ true) × (w.log ≡ v.log) × (w.kept ≡ v.kept) × IsOpaque w × IsAgain c n word had now v w × HasOthers × (is_irrevocable v ≡ false) × (wrote v ≡ true)
  Commits (ClockFull clock) v w = Quits v w × (asks_at_commit v.alg ≡ true) × (wrote v ≡ true) × FindsFull clock v w

  -- what `cancel` tells
  abbrev pub Cancels : Cancel → CallerState → CallerState → Type 0
  Cancels (Cancelled time) v w = EndsAt time v w × (v.base ≤ w.rises) × (w.rises ≤ v.base + quit_rise v.alg (has_written v)) × (is_irrevocable v ≡ false)
  Cancels Irrevocable v w = (w ≡ v) × (is_irrevocable v ≡ true)

  -- all callers but this one were seen idle since it closed the gate
  abbrev pub SeesQuiet : CallerState → Type 0
  SeesQuiet w = (k : ℕ) → k < c.callers → k ≢ n → member w.checked k ≡ true

  -- another caller was not idle, and all before it are seen
  pub record IsBusy (k status : ℕ) (v w : CallerState) : Type 0 where
    pub other : (k < c.callers) × (k ≢ n) × (1 < c.callers)
    pub announced : 0 < status
    pub found : Found (Status k) status v w
    pub before : (j : ℕ) → j < k → j ≢ n → member w.checked j ≡ true

  -- the attempt is irrevocable now: it was so before, and nothing changed; or its start is the clock, and but under
  -- Serial it has closed the gate and is alone
  pub record TriesIrrevocable (v w : CallerState) : Type 0 where
    pub continues : Continues v w
    pub still : w.rises ≡ v.rises
    pub uncommitted : w.committing ≡ false
    pub log : w.log ≡ v.log
    pub kept : v.kept ≡ [] → w.kept ≡ []
    pub irrevocable : is_irrevocable w ≡ true
    pub opaque : IsOpaque w
    pub before : is_irrevocable v ≡ true → w ≡ v
    pub now : is_irrevocable v ≡ false → (w.granted ≡ true) × Found Clock w.start v w
    pub alone : is_irrevocable v ≡ false → closes_gate v.alg ≡ true → (w.holds ≡ true) × SeesQuiet w

  -- the attempt goes on as it was, but for the gate and who was seen idle
  pub record Waits (v w : CallerState) : Type 0 where
    pub continues : Continues v w
    pub still : w.rises ≡ v.rises
    pub uncommitted : w.committing ≡ false
    pub start : w.start ≡ v.start
    pub log : w.log ≡ v.log
    pub kept : w.kept ≡ v.kept
    pub opaque : IsOpaque w
    pub granted : w.granted ≡ v.granted
    pub revocable : is_irrevocable v ≡ false
    pub closes : closes_gate v.alg ≡ true
    pub marks : w.marks ≡ v.marks

  -- what `try_irrevocable` tells
  abbrev pub Irrevs : Irrev → CallerState → CallerState → Type 0
  Irrevs grants.Granted v w = TriesIrrevocable v w
  Irrevs (grants.Busy caller status) v w = Waits v w × (w.holds ≡ true) × IsBusy caller status v w
  Irrevs (grants.Taken gate) v w = Waits v w × (w.holds ≡ v.holds) × (w.checked ≡ v.checked) × Found Gate gate v w × NamesOther c n (holder_of gate) × HasOthers
  Irrevs (grants.Conflict cause) v w = Quits v w × Conflicts c n ToPromote cause v w × HasOthers
  Irrevs (grants.ClockFull clock) v w = Quits v w × (asks_at_grant v.alg ≡ true) × FindsFull clock v w

  -- the gate was loaded open, and is closed; nobody is seen yet
  pub record ClosesGate (v w : CallerState) : Type 0 where
    pub holds : HoldsClosed w
    pub made : w.made ≡ v.made
    pub grows : Grows v w
    pub unseen : w.checked ≡ []
    pub unsettled : w.settled ≡ false
    pub rises : w.rises ≡ v.rises
    pub installs : w.installs ≡ v.installs
    pub gate : FindsOpen w.alg v w
    pub sole : c.callers ≡ 1 → w.alg ≡ v.alg

  -- what `close_gate` tells
  abbrev pub Closes : CloseGate → CallerState → CallerState → Type 0
  Closes gates.Closed v w = ClosesGate v w
  Closes (gates.Taken gate) v w = Stays c v w × Found Gate gate v w × NamesOther c n (holder_of gate) × HasOthers

  -- what a look leaves alone: it goes on where the last one stopped
  pub record Looked (v w : CallerState) : Type 0 where
    pub closed : KeepsClosed v w
    pub steps : (more : List TracedStep) × (w.step_trace ≡ more ++ v.step_trace) × OfUnseen v.checked more
    pub settled : w.settled ≡ v.settled
    pub alg : w.alg ≡ v.alg
    pub rises : w.rises ≡ v.rises
    pub installs : w.installs ≡ v.installs
    pub fence : w.fence ≡ v.fence

  -- what `look` tells
  abbrev pub Looks : Look → CallerState → CallerState → Type 0
  Looks looks.Quiet v w = Looked v w × SeesQuiet w
  Looks (looks.Busy caller status) v w = Looked v w × IsBusy caller status v w

  -- what `install` does: the gate stays closed, with its fence, under this algorithm, with BASE and DONE at the clock
  pub record Installs (alg : Alg) (v w : CallerState) : Type 0 where
    pub closed : KeepsClosed v w
    pub quiet : SeesQuiet w
    pub settled : w.settled ≡ true
    pub named : w.alg ≡ alg
    pub rises : (v.rises ≤ w.rises) × (w.rises ≤ v.rises + install_rise alg)
    pub installs : w.installs ≡ v.installs ++ alg ∷ []
    pub fence : w.fence ≡ v.fence

  -- what `reopen` does
  abbrev pub Reopens : CallerState → CallerState → Type 0
  Reopens v w = Stays c v w
