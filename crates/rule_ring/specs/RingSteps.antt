-- The kinds of step that RingSW takes: what each does, when a seat may take it, and what it shows.
use Rattle.std.specs.Prelude.{ℕ, zero, suc, ◌≡◌, ◌≢◌, ◌+◌, ◌<◌, ◌≤◌, ◌==◌, if◌then◌else◌, List, [], ◌∷◌, length, true, false, ltb}
use Rattle.stm_model.specs.declared.alg.Alg.TheVariants.{RingSw}
use Rattle.rule_base.specs.declared.entries.Cell.{Cell}
use Rattle.rule_base.specs.declared.entries.Entry.{Entry}
use Rattle.rule_base.specs.declared.layout.At.TheVariants.{Clock, Lock, Done, Slot, Heap}
use Rattle.stm_model.specs.declared.config.Config.{Config}
use Rattle.rule_base.specs.declared.layout.TheConstants.{SLOT_WORDS}
use Rattle.stm_model.specs.declared.config.TheConstants.{CLOCK_LIMIT}
use Rattle.rule_base.specs.declared.views.Phase.TheVariants.{In}
use Rattle.rule_base.specs.declared.views.RingRead.{RingRead}
use Rattle.rule_base.specs.declared.views.RingCommit.{RingCommit}
use Rattle.rule_base.specs.declared.views.View.{View}
use Rattle.rule_base.specs.Encodings.{taken_lock}
use Rattle.rule_base.specs.History.{over, touches, without, word_now, Below, upto, Explains, Inside, Small, Keeps, Legal}
use Rattle.rule_base.specs.StepKinds.{StepKind, same_history}
use Rattle.rule_base.specs.declared.views.Act.TheVariants.{Load, Store, Exchange}
use Rattle.rule_base.specs.World.{World}
use Rattle.rule_ring.specs.Filters.{Filters}
use Rattle.rule_ring.specs.Slots.{slot_place, has_word, loaded_word}
use Rattle.rule_seq.specs.CglSteps.{fresh_lock, no_lock}

-- the caller is in an attempt of RingSW that isn't promoted
pub record RunsRing (v : View) : Type 0 where
  pub phase : v.gate.phase ≡ In
  pub algorithm : v.gate.algorithm ≡ RingSw
  pub plain : v.gate.granted ≡ false

-- and has loaded its start
pub record HasRing (v : View) : Type 0 where
  pub runs : RunsRing v
  pub inside : v.ring_read.inside ≡ true

abbrev pub fresh_read : RingRead
fresh_read = record { inside = true; watched = []; loaded = false; from = 0; value = 0; at = 0; checking = false; clock = 0; words = []; sure = false }

abbrev pub no_read : RingRead
no_read = record { inside = false; watched = []; loaded = false; from = 0; value = 0; at = 0; checking = false; clock = 0; words = []; sure = false }

abbrev pub no_turn : RingCommit
no_turn = record { slotted = 0; writes = []; ticked = false; clock = 0; committed = false; finished = false; back = [] }

-- READING

-- load DONE: the start
abbrev pub ring_begin : StepKind
ring_begin = record {
  place = Done;
  act = Load;
  after = λ w v done. record v {
    history = record v.history { seen = upto w.history done; front = done };
    attempt = record { start = done; reads = []; stores = []; entered = v.attempt.entered };
    ring_read = fresh_read;
  };
  grown = same_history;
}

pub record CanRingBegin (v : View) : Type 0 where
  pub runs : RunsRing v
  pub unlocked : v.lock.taken ≡ false

-- what a start t shows: a legal history up to it, of which the seat had seen a part
pub record RingBegins (good : (ℕ → ℕ) → Type 0) (c : Config) (w : World) (v : View) (start : ℕ) : Type 0 where
  pub legal : Legal good c (upto w.history start)
  pub below : Below (upto w.history start) (start + 1)
  pub seen : v.history.seen ≡ upto w.history v.history.front
  pub front : v.history.front ≤ start
  pub limit : start ≤ CLOCK_LIMIT

-- the time whose memory a load of a finds: DONE where a committer has the word still to write back, else the clock
abbrev pub time_by : World → ℕ → ℕ → ℕ
time_by w a zero = w.clock
time_by w a (suc m) = if touches (w.views m).ring_commit.back a then w.done else w.clock

-- load a heap word: its address goes into the filter
abbrev pub ring_load : ℕ → StepKind
ring_load a = record {
  place = Heap a;
  act = Load;
  after = λ w v x. record v {
    ring_read = record { inside = v.ring_read.inside; watched = record { at = a; value = 0 } ∷ v.ring_read.watched; loaded = true; from = a; value = x; at = time_by w a w.lock; checking = false; clock = 0; words = []; sure = false };
  };
  grown = same_history;
}

pub record CanRingLoad (words a : ℕ) (v : View) : Type 0 where
  pub has : HasRing v
  pub inside : a < words
  pub settled : v.ring_read.loaded ≡ false

-- the end of a check that passes: the word under way is read
abbrev pub read_in : View → List Cell
read_in v = if v.ring_read.loaded then record { at = v.ring_read.from; value = v.ring_read.value } ∷ v.attempt.reads else v.attempt.reads

abbrev pub passed : RingRead → RingRead
passed r = record r { loaded = false; checking = false; words = []; sure = false }

-- load the clock: where it is the start the check passes, else it begins
abbrev pub ring_look : StepKind
ring_look = record {
  place = Clock;
  act = Load;
  after = λ w v clock. record v {
    attempt = if clock == v.attempt.start then record v.attempt { reads = read_in v } else v.attempt;
    ring_read = if clock == v.attempt.start then passed v.ring_read else record v.ring_read { checking = true; clock = clock; words = []; sure = false };
  };
  grown = same_history;
}

pub record CanRingLook (v : View) : Type 0 where
  pub has : HasRing v

-- what an attempt with start t sees after a check that passed: the memory after what was seen up to t explains all
-- reads, and has the word loaded
pub record RingSees (good : (ℕ → ℕ) → Type 0) (c : Config) (w : World) (v : View) (t : ℕ) : Type 0 where
  pub value : v.ring_read.loaded ≡ true → v.ring_read.value ≡ word_now (upto w.history t) v.ring_read.from
  pub sees : Explains (word_now (upto w.history t)) (read_in v)
  pub begins : RingBegins good c w v t

-- and what a load of the clock shows
pub record RingLooks (good : (ℕ → ℕ) → Type 0) (c : Config) (w : World) (v : View) (clock : ℕ) : Type 0 where
  pub passes : clock ≡ v.attempt.start → RingSees good c w v v.attempt.start
  pub later : v.attempt.start ≤ clock

-- load word i of the slot of time e
abbrev pub ring_word : ℕ → ℕ → ℕ → StepKind
ring_word ring e i = record {
  place = Slot (slot_place ring e i);
  act = Load;
  after = λ w v x. record v { ring_read = record v.ring_read { words = record { time = e; index = i; value = x } ∷ v.ring_read.words } };
  grown = same_history;
}

pub record CanRingWord (ring e i : ℕ) (v : View) : Type 0 where
  pub has : HasRing v
  pub checking : v.ring_read.checking ≡ true
  pub unsure : v.ring_read.sure ≡ false
  pub since : v.attempt.start < e
  pub upto : e ≤ v.ring_read.clock
  pub near : v.ring_read.clock < v.attempt.start + ring
  pub index : i < SLOT_WORDS

-- load the clock again: no slot since the start was taken by a later entry
abbrev pub ring_again : ℕ → StepKind
ring_again ring = record {
  place = Clock;
  act = Load;
  after = λ w v clock. record v { ring_read = record v.ring_read { sure = ltb clock (v.attempt.start + ring) } };
  grown = same_history;
}

pub record CanRingAgain (v : View) : Type 0 where
  pub has : HasRing v
  pub checking : v.ring_read.checking ≡ true

-- the greater of the start and the lesser of DONE and the clock loaded
abbrev pub lesser : ℕ → ℕ → ℕ
lesser a b = if ltb a b then a else b

abbrev pub moved : View → ℕ → ℕ
moved v done = if ltb (lesser done v.ring_read.clock) v.attempt.start then v.attempt.start else lesser done v.ring_read.clock

-- load DONE, the last of a check that passes: the start moves
abbrev pub ring_move : StepKind
ring_move = record {
  place = Done;
  act = Load;
  after = λ w v done. record v {
    history = record v.history { seen = upto w.history (moved v done); front = moved v done };
    attempt = record { start = moved v done; reads = read_in v; stores = v.attempt.stores; entered = v.attempt.entered };
    ring_read = passed v.ring_read;
  };
  grown = same_history;
}

-- none of the slots since the start meets the filter, whatever those of their words are that were not loaded
abbrev pub AllClear : Filters → View → Type 0
AllClear F v =
    (e : ℕ) → v.attempt.start < e → e ≤ v.ring_read.clock → (slot : ℕ → ℕ)
    → ((i : ℕ) → i < SLOT_WORDS → has_word v.ring_read.words e i ≡ true → loaded_word v.ring_read.words e i ≡ slot i)
    → F.meets slot (F.word v.ring_read.watched) ≡ false

pub record CanRingMove (F : Filters) (v : View) : Type 0 where
  pub has : HasRing v
  pub checking : v.ring_read.checking ≡ true
  pub sure : v.ring_read.sure ≡ true
  pub clear : AllClear F v

-- what it shows: also that under the lock DONE is the clock, so the check ends there
pub record RingMoves (good : (ℕ → ℕ) → Type 0) (c : Config) (w : World) (v : View) (done : ℕ) : Type 0 where
  pub sees : RingSees good c w v (moved v done)
  pub level : v.lock.taken ≡ true → v.ring_commit.committed ≡ false → v.ring_commit.ticked ≡ true → ((m : ℕ) → (w.views m).attempt.entered ≡ false) → done ≡ v.ring_commit.clock

-- COMMIT

-- exchange the lock, 0 for the own word
abbrev pub ring_lock : ℕ → StepKind
ring_lock n = record {
  place = Lock;
  act = Exchange 0 (taken_lock n);
  after = λ w v found. record v { lock = if found == 0 then fresh_lock RingSw else v.lock; ring_commit = if found == 0 then no_turn else v.ring_commit };
  grown = same_history;
}

pub record CanRingLock (v : View) : Type 0 where
  pub has : HasRing v
  pub free : v.lock.taken ≡ false

-- the caller has the lock, and its entry is not yet in the history
pub record HasTurn (v : View) : Type 0 where
  pub has : HasRing v
  pub taken : v.lock.taken ≡ true
  pub unentered : v.ring_commit.committed ≡ false

-- load the clock, which stands while the caller has the lock
abbrev pub ring_tick : StepKind
ring_tick = record {
  place = Clock;
  act = Load;
  after = λ w v clock. record v { ring_commit = record v.ring_commit { ticked = true; clock = clock } };
  grown = same_history;
}

-- store word i of the slot of time e, of the filter of these writes
abbrev pub ring_slot : Filters → ℕ → ℕ → ℕ → List Cell → StepKind
ring_slot F ring e i ws = record {
  place = Slot (slot_place ring e i);
  act = Store (F.word ws i);
  after = λ w v x. record v { ring_commit = record v.ring_commit { slotted = i + 1; writes = ws } };
  grown = same_history;
}

pub record CanRingSlot (e i : ℕ) (ws : List Cell) (v : View) : Type 0 where
  pub turn : HasTurn v
  pub ticked : v.ring_commit.ticked ≡ true
  pub checked : v.attempt.start ≡ v.ring_commit.clock
  pub next : e ≡ v.ring_commit.clock + 1
  pub index : i ≡ v.ring_commit.slotted
  pub low : i < SLOT_WORDS
  -- all words are of one filter
  pub same : 0 < i → ws ≡ v.ring_commit.writes

-- store the clock's next number, which appends the entry
abbrev pub ring_entry : ℕ → ℕ → View → Entry
ring_entry n t v = record { time = t; caller = n; number = length v.history.made; reads = v.attempt.reads; writes = v.ring_commit.writes }

abbrev pub ring_enter : ℕ → ℕ → StepKind
ring_enter n t = record {
  place = Clock;
  act = Store t;
  after = λ w v x. record v {
    history = record v.history { made = ring_entry n t v ∷ v.history.made; seen = ring_entry n t v ∷ w.history; front = t };
    steps = record v.steps { rises = v.steps.rises + 1 };
    attempt = record { start = 0; reads = []; stores = []; entered = v.attempt.entered };
    ring_read = no_read;
    ring_commit = record { slotted = 0; writes = v.ring_commit.writes; ticked = true; clock = t; committed = true; finished = false; back = v.ring_commit.writes };
  };
  grown = λ w v x. ring_entry n t v ∷ w.history;
}

pub record CanRingEnter (good : (ℕ → ℕ) → Type 0) (words t : ℕ) (v : View) : Type 0 where
  pub turn : HasTurn v
  pub ticked : v.ring_commit.ticked ≡ true
  pub checked : v.attempt.start ≡ v.ring_commit.clock
  pub full : v.ring_commit.slotted ≡ SLOT_WORDS
  pub time : t ≡ v.ring_commit.clock + 1
  pub limit : t ≤ CLOCK_LIMIT
  pub settled : v.ring_read.loaded ≡ false
  -- who knows the clock as the gate's holder is to be promoted
  pub free : v.gate.quiescent ≡ false
  pub wrote : v.ring_commit.writes ≢ []
  pub writes_inside : Inside words v.ring_commit.writes
  pub writes_small : Small v.ring_commit.writes
  pub keeps : Keeps good v.attempt.reads v.ring_commit.writes

-- what the entry's step shows: a legal history up to it, of which the seat had seen all before
pub record RingEnters (good : (ℕ → ℕ) → Type 0) (c : Config) (n t : ℕ) (w : World) (v : View) (x : ℕ) : Type 0 where
  pub legal : Legal good c (ring_entry n t v ∷ w.history)
  pub below : Below (ring_entry n t v ∷ w.history) (t + 1)
  pub seen : v.history.seen ≡ w.history

-- the caller's entry is in the history
pub record HasEntered (v : View) : Type 0 where
  pub runs : RunsRing v
  pub committed : v.ring_commit.committed ≡ true
  pub unfinished : v.ring_commit.finished ≡ false

-- store a heap word: write back
abbrev pub ring_write : ℕ → ℕ → StepKind
ring_write a x = record {
  place = Heap a;
  act = Store x;
  after = λ w v n. record v { ring_commit = record v.ring_commit { back = without v.ring_commit.back a } };
  grown = same_history;
}

pub record CanRingWrite (a x : ℕ) (v : View) : Type 0 where
  pub entered : HasEntered v
  pub owed : touches v.ring_commit.back a ≡ true
  pub value : x ≡ over v.ring_commit.back a 0

-- store DONE
abbrev pub ring_done : ℕ → StepKind
ring_done t = record {
  place = Done;
  act = Store t;
  after = λ w v n. record v { ring_commit = record v.ring_commit { finished = true } };
  grown = same_history;
}

pub record CanRingDone (t : ℕ) (v : View) : Type 0 where
  pub entered : HasEntered v
  pub time : t ≡ v.ring_commit.clock
  pub written : (a : ℕ) → touches v.ring_commit.back a ≡ false
  pub free : v.gate.quiescent ≡ false

-- store 0 in the lock
abbrev pub ring_free : StepKind
ring_free = record {
  place = Lock;
  act = Store 0;
  after = λ w v n. record v { lock = no_lock; ring_commit = no_turn };
  grown = same_history;
}

pub record CanRingFree (v : View) : Type 0 where
  pub runs : RunsRing v
  pub taken : v.lock.taken ≡ true
  pub finished : v.ring_commit.committed ≡ true → v.ring_commit.finished ≡ true
