-- The kinds of step that OrecLazy and OrecEager take: what each does, when a seat may take it, and what it shows.
use Rattle.std.specs.Prelude.{ℕ, ◌≡◌, ◌≢◌, ◌+◌, ◌<◌, ◌≤◌, ◌==◌, nat_le, ltb, if◌then◌else◌, List, [], ◌∷◌, length, Bool, true, false}
use Rattle.stm_model.specs.declared.alg.Alg.{Alg}
use Rattle.stm_model.specs.declared.alg.Alg.TheVariants.{Cgl, Tml, OrecLazy, OrecEager, RingSw, Serial}
use Rattle.rule_base.specs.declared.entries.Cell.{Cell}
use Rattle.rule_base.specs.declared.entries.Entry.{Entry}
use Rattle.rule_base.specs.declared.layout.At.TheVariants.{Clock, Record, Heap}
use Rattle.stm_model.specs.declared.config.Config.{Config}
use Rattle.stm_model.specs.declared.config.TheConstants.{CLOCK_LIMIT}
use Rattle.rule_base.specs.declared.views.Phase.TheVariants.{In}
use Rattle.rule_base.specs.declared.views.Attempt.{Attempt}
use Rattle.rule_base.specs.declared.views.Ownership.{Ownership}
use Rattle.rule_base.specs.declared.views.View.{View}
use Rattle.rule_base.specs.Encodings.{free_record, owned_record, is_owned, version_of}
use Rattle.stm_model.specs.Algorithms.{has_records}
use Rattle.rule_base.specs.History.{over, touches, without, word_now, upto, Inside, Small, Keeps}
use Rattle.rule_base.specs.GateSteps.{granted_at}
use Rattle.rule_base.specs.InstallSteps.{HasChecked}
use Rattle.rule_base.specs.StepKinds.{StepKind, same_history}
use Rattle.rule_base.specs.declared.views.Act.TheVariants.{Load, Store, Exchange, Raise}
use Rattle.rule_base.specs.World.{World}
use Rattle.rule_seq.specs.TmlSteps.{TmlSees}
use Rattle.rule_orec.specs.OrecReading.{no_sample, no_check, checks, passed, fresh_owned}
use Rattle.rule_orec.specs.OrecOwning.{holding, entered_at, written, placed, restored, released, saved, clock_raised, Ready, Clear}

-- the algorithm that stores in place
abbrev pub is_eager : Alg → Bool
is_eager Cgl = false
is_eager Tml = false
is_eager OrecLazy = false
is_eager OrecEager = true
is_eager RingSw = false
is_eager Serial = false

-- the caller is in an attempt of OrecLazy or OrecEager that isn't promoted
pub record RunsOrec (v : View) : Type 0 where
  pub phase : v.gate.phase ≡ In
  pub algorithm : has_records v.gate.algorithm ≡ true
  pub plain : v.gate.granted ≡ false

-- and has loaded its start
pub record HasOrec (v : View) : Type 0 where
  pub runs : RunsOrec v
  pub inside : v.owned.inside ≡ true

-- and has no entry yet
pub record HasOpen (v : View) : Type 0 where
  pub has : HasOrec v
  pub open_yet : v.owned.committed ≡ false

-- RECORD READING. Load the clock: the start
abbrev pub orec_begin : StepKind
orec_begin = record {
  place = Clock;
  act = Load;
  after = λ w v clock. record v {
    history = record v.history { seen = w.history; front = clock };
    attempt = record { start = clock; reads = []; stores = []; entered = false };
    owned = fresh_owned (is_eager v.gate.algorithm);
    sample = no_sample;
    check = no_check;
  };
  grown = same_history;
}

pub record CanOrecBegin (v : View) : Type 0 where
  pub runs : RunsOrec v
  pub disowned : v.owned.held ≡ []

-- load the record r of the word a: a free one is sampled
abbrev pub orec_sample : ℕ → ℕ → StepKind
orec_sample r a = record {
  place = Record r;
  act = Load;
  after = λ w v x. record v { sample = if is_owned x then no_sample else record { sampled = true; loaded = false; from = a; version = version_of x; value = 0 } };
  grown = same_history;
}

pub record CanOrecSample (home : ℕ → ℕ) (r a : ℕ) (v : View) : Type 0 where
  pub has : HasOrec v
  pub its : home a ≡ r

-- load the word
abbrev pub orec_load : ℕ → StepKind
orec_load a = record {
  place = Heap a;
  act = Load;
  after = λ w v x. record v { sample = record v.sample { loaded = true; value = x } };
  grown = same_history;
}

pub record CanOrecLoad (a : ℕ) (v : View) : Type 0 where
  pub has : HasOrec v
  pub sampled : v.sample.sampled ≡ true
  pub from : v.sample.from ≡ a
  pub version : v.sample.version ≤ v.attempt.start

-- load the record again: where it is as sampled, the word loaded is read
abbrev pub confirms : ℕ → View → List Cell
confirms x v = if x == free_record v.sample.version then record { at = v.sample.from; value = v.sample.value } ∷ v.attempt.reads else v.attempt.reads

abbrev pub orec_confirm : ℕ → StepKind
orec_confirm r = record {
  place = Record r;
  act = Load;
  after = λ w v x. record v { attempt = record v.attempt { reads = confirms x v }; sample = no_sample; check = no_check };
  grown = same_history;
}

pub record CanOrecConfirm (home : ℕ → ℕ) (words r : ℕ) (v : View) : Type 0 where
  pub opens : HasOpen v
  pub loaded : v.sample.loaded ≡ true
  pub its : home v.sample.from ≡ r
  pub inside : v.sample.from < words

-- what it shows: where the record is as sampled, the word loaded is that of the memory after what was seen, which
-- explains all reads
pub record OrecConfirms (good : (ℕ → ℕ) → Type 0) (c : Config) (w : World) (v : View) (x : ℕ) : Type 0 where
  pub value : x ≡ free_record v.sample.version → v.sample.value ≡ word_now v.history.seen v.sample.from
  pub sees : TmlSees good c v (confirms x v)

-- load the clock to validate: the records of the reads in todo are still to be loaded
abbrev pub orec_clock : List Cell → StepKind
orec_clock todo = record {
  place = Clock;
  act = Load;
  after = λ w v clock. record v { check = checks clock todo };
  grown = same_history;
}

-- the other reads are of own records, whose versions were at most the start
pub record CanOrecClock (home : ℕ → ℕ) (todo : List Cell) (v : View) : Type 0 where
  pub opens : HasOpen v
  pub mine : (a : ℕ) → touches v.attempt.reads a ≡ true → touches todo a ≡ false → touches v.owned.held (home a) ≡ true
  pub old : (a : ℕ) → touches v.attempt.reads a ≡ true → touches todo a ≡ false → over v.owned.held (home a) 0 ≤ v.attempt.start

-- what a load of the clock shows: it is at least the version sampled
pub record OrecClocks (w : World) (v : View) (clock : ℕ) : Type 0 where
  pub sampled : v.sample.sampled ≡ true → v.sample.version ≤ clock

-- where no record is to be loaded, this is the validation
abbrev pub orec_clock_all : StepKind
orec_clock_all = record {
  place = Clock;
  act = Load;
  after = λ w v clock. record v {
    history = record v.history { seen = w.history; front = clock };
    attempt = record v.attempt { start = clock };
    sample = record v.sample { loaded = false };
    check = no_check;
  };
  grown = same_history;
}

-- a record found free at a version that is at most the start
abbrev pub passes : ℕ → View → Bool
passes x v = if is_owned x then false else nat_le (version_of x) v.attempt.start

-- load the record r of the read of b
abbrev pub orec_pass : ℕ → ℕ → StepKind
orec_pass r b = record {
  place = Record r;
  act = Load;
  after = λ w v x. record v { check = if passes x v then passed b v.check else no_check };
  grown = same_history;
}

pub record CanOrecPass (home : ℕ → ℕ) (r b : ℕ) (v : View) : Type 0 where
  pub has : HasOrec v
  pub its : home b ≡ r

-- the last one, which moves the start
abbrev pub orec_last : ℕ → ℕ → StepKind
orec_last r b = record {
  place = Record r;
  act = Load;
  after = λ w v x. record v {
    history = if passes x v then record v.history { seen = upto w.history v.check.upto; front = v.check.upto } else v.history;
    attempt = if passes x v then record v.attempt { start = v.check.upto } else v.attempt;
    sample = if passes x v then record v.sample { loaded = false } else v.sample;
    check = no_check;
  };
  grown = same_history;
}

pub record CanOrecLast (home : ℕ → ℕ) (r b : ℕ) (v : View) : Type 0 where
  pub opens : HasOpen v
  pub its : home b ≡ r
  pub checking : v.check.checking ≡ true
  pub rest : (a : ℕ) → touches v.attempt.reads a ≡ true → touches (without v.check.todo b) a ≡ false

-- LAZY AND EAGER. Load a record before its exchange, or the clock to compare it with its limit: nothing changes
abbrev pub orec_look : ℕ → StepKind
orec_look r = record { place = Record r; act = Load; after = λ w v x. v; grown = same_history }

abbrev pub orec_limit : StepKind
orec_limit = record { place = Clock; act = Load; after = λ w v x. v; grown = same_history }

-- exchange a free record for the own lock
abbrev pub orec_lock : ℕ → ℕ → ℕ → StepKind
orec_lock n r version = record {
  place = Record r;
  act = Exchange (free_record version) (owned_record n);
  after = λ w v found. record v { owned = if found == free_record version then holding r version v.owned else v.owned };
  grown = same_history;
}

pub record CanOrecLock (version : ℕ) (v : View) : Type 0 where
  pub opens : HasOpen v
  pub unraised : v.owned.raised ≡ false
  -- OrecEager validates before it locks, OrecLazy afterwards
  pub new : v.owned.eager ≡ true → version ≤ v.attempt.start

-- the entry of caller n at time t
abbrev pub orec_entry : ℕ → ℕ → List Cell → View → Entry
orec_entry n t writes v = record { time = t; caller = n; number = length v.history.made; reads = v.attempt.reads; writes = writes }

-- exchange the clock, the start for the next number, which appends the entry with these writes;
-- back is still to be stored in the heap
abbrev pub orec_commit : ℕ → ℕ → List Cell → List Cell → StepKind
orec_commit n start writes back = record {
  place = Clock;
  act = Exchange start (start + 1);
  after = λ w v found. record v {
    history = if found == start then record v.history { made = orec_entry n (start + 1) writes v ∷ v.history.made; seen = orec_entry n (start + 1) writes v ∷ w.history; front = start + 1 } else v.history;
    steps = if found == start then record v.steps { rises = v.steps.rises + 1 } else v.steps;
    owned = if found == start then entered_at (start + 1) back v.owned else v.owned;
  };
  grown = λ w v found. if found == start then orec_entry n (start + 1) writes v ∷ w.history else w.history;
}

pub record CanOrecCommit (home : ℕ → ℕ) (good : (ℕ → ℕ) → Type 0) (words start : ℕ) (writes back : List Cell) (v : View) : Type 0 where
  pub has : HasOrec v
  -- who knows the clock as the gate's holder is to be promoted
  pub not_quiescent : v.gate.quiescent ≡ false
  pub from : start ≡ v.attempt.start
  pub limit : start + 1 ≤ CLOCK_LIMIT
  pub ready : Ready home v.owned writes back
  pub wrote : writes ≢ []
  pub writes_inside : Inside words writes
  pub writes_small : Small writes
  pub keeps : Keeps good v.attempt.reads writes

-- store a value of the entry
abbrev pub orec_write_back : ℕ → ℕ → StepKind
orec_write_back a x = record {
  place = Heap a;
  act = Store x;
  after = λ w v n. record v { owned = written a v.owned };
  grown = same_history;
}

pub record CanOrecWriteBack (a x : ℕ) (v : View) : Type 0 where
  pub has : HasOrec v
  pub owed : touches v.owned.back a ≡ true
  pub value : x ≡ over v.owned.back a 0

-- store a free record: it is given back
abbrev pub orec_release : ℕ → ℕ → StepKind
orec_release r version = record {
  place = Record r;
  act = Store (free_record version);
  after = λ w v n. record v { owned = released r v.owned };
  grown = same_history;
}

pub record GivesBack (home : ℕ → ℕ) (r : ℕ) (v : View) : Type 0 where
  pub has : HasOrec v
  pub held : touches v.owned.held r ≡ true
  pub clear : Clear home v.owned r

-- with the time of the entry
pub record CanOrecTime (home : ℕ → ℕ) (r version : ℕ) (v : View) : Type 0 where
  pub gives : GivesBack home r v
  pub done : v.owned.committed ≡ true
  pub time : version ≡ v.owned.time

-- OrecLazy without an entry: with its old version
pub record CanOrecOld (home : ℕ → ℕ) (r version : ℕ) (v : View) : Type 0 where
  pub gives : GivesBack home r v
  pub undone : v.owned.committed ≡ false
  pub lazy : v.owned.eager ≡ false
  pub old : version ≡ over v.owned.held r 0

-- OrecEager without an entry: with its old version and one more, after the clock was raised
pub record CanOrecUp (home : ℕ → ℕ) (r version : ℕ) (v : View) : Type 0 where
  pub gives : GivesBack home r v
  pub undone : v.owned.committed ≡ false
  pub raised : v.owned.raised ≡ true
  pub next : version ≡ over v.owned.held r 0 + 1

-- load a word of an own record: it is read
abbrev pub orec_own_load : ℕ → StepKind
orec_own_load a = record {
  place = Heap a;
  act = Load;
  after = λ w v x. record v { attempt = record v.attempt { reads = record { at = a; value = x } ∷ v.attempt.reads }; sample = no_sample; check = no_check };
  grown = same_history;
}

pub record CanOrecOwnLoad (home : ℕ → ℕ) (words a : ℕ) (v : View) : Type 0 where
  pub opens : HasOpen v
  pub eager : v.owned.eager ≡ true
  pub held : touches v.owned.held (home a) ≡ true
  pub unwritten : touches v.owned.in_place a ≡ false
  pub inside : a < words

pub record OrecOwnLoads (good : (ℕ → ℕ) → Type 0) (c : Config) (a : ℕ) (w : World) (v : View) (x : ℕ) : Type 0 where
  pub value : x ≡ word_now v.history.seen a
  pub sees : TmlSees good c v (record { at = a; value = x } ∷ v.attempt.reads)

-- or goes into the undo log
abbrev pub orec_save : ℕ → StepKind
orec_save a = record {
  place = Heap a;
  act = Load;
  after = λ w v x. record v { owned = saved a x v.owned };
  grown = same_history;
}

pub record CanOrecSave (home : ℕ → ℕ) (a : ℕ) (v : View) : Type 0 where
  pub opens : HasOpen v
  pub held : touches v.owned.held (home a) ≡ true
  pub unwritten : touches v.owned.in_place a ≡ false

-- store a word in place
abbrev pub orec_place : ℕ → ℕ → StepKind
orec_place a x = record {
  place = Heap a;
  act = Store x;
  after = λ w v n. record v { owned = placed a x v.owned };
  grown = same_history;
}

pub record CanOrecPlace (a : ℕ) (v : View) : Type 0 where
  pub opens : HasOpen v
  pub eager : v.owned.eager ≡ true
  pub undoable : touches v.owned.undo a ≡ true

-- store the old value back; it stays in the undo log
abbrev pub orec_restore : ℕ → ℕ → StepKind
orec_restore a x = record {
  place = Heap a;
  act = Store x;
  after = λ w v n. record v { owned = restored a v.owned };
  grown = same_history;
}

pub record CanOrecRestore (a x : ℕ) (v : View) : Type 0 where
  pub has : HasOrec v
  pub logged : touches v.owned.undo a ≡ true
  pub value : x ≡ over v.owned.undo a 0

-- raise the clock above the old versions
abbrev pub orec_raise_clock : ℕ → StepKind
orec_raise_clock least = record {
  place = Clock;
  act = Raise least;
  after = λ w v found. record v {
    steps = if ltb found least then record v.steps { rises = v.steps.rises + 1 } else v.steps;
    owned = clock_raised v.owned;
  };
  grown = same_history;
}

pub record CanOrecRaiseClock (least : ℕ) (v : View) : Type 0 where
  pub has : HasOrec v
  -- what was stored in place is restored: no old value is needed any more
  pub restored : v.owned.in_place ≡ []
  -- who knows the clock as the gate's holder doesn't raise it: its validation failed at a later number than its start
  pub not_quiescent : v.gate.quiescent ≡ true → least ≤ v.gate.time
  pub limit : least ≤ CLOCK_LIMIT
  pub above : (r : ℕ) → touches v.owned.held r ≡ true → over v.owned.held r 0 < least
  -- the least number that does: the greatest old version and one more
  pub greatest : (r : ℕ) × (touches v.owned.held r ≡ true) × (least ≡ over v.owned.held r 0 + 1)

-- PROMOTION. The attempt is promoted at the number of its validation: what it stored in place becomes its stores, and
-- nothing can be taken back; the undo log tells of which records it may hold still
abbrev pub direct_attempt : ℕ → View → Attempt
direct_attempt t v = record { start = t; reads = v.attempt.reads; stores = v.owned.in_place; entered = false }

abbrev pub direct_owned : Ownership → Ownership
direct_owned o = record o { in_place = []; back = [] }

-- load the record of the last read to validate, with the clock settled
abbrev pub orec_grant : ℕ → ℕ → StepKind
orec_grant r b = record {
  place = Record r;
  act = Load;
  after = λ w v x. record v {
    history = if passes x v then record v.history { seen = w.history; front = v.gate.time } else v.history;
    attempt = if passes x v then direct_attempt v.gate.time v else v.attempt;
    owned = if passes x v then direct_owned v.owned else v.owned;
    gate = if passes x v then granted_at v.gate.time v.gate else v.gate;
    sample = no_sample;
    check = no_check;
  };
  grown = same_history;
}

-- what the attempt has stored goes into its entry
pub record HasStores (words : ℕ) (v : View) : Type 0 where
  pub unlocked : v.lock.taken ≡ false
  pub inside : Inside words v.owned.in_place
  pub small : Small v.owned.in_place

pub record CanOrecGrant (home : ℕ → ℕ) (words r b : ℕ) (v : View) : Type 0 where
  pub last : CanOrecLast home r b v
  -- all others were seen idle, and the clock was loaded since, to which the validation goes
  pub quiescent : v.gate.quiescent ≡ true
  pub upto : v.check.upto ≡ v.gate.time
  pub stores : HasStores words v

-- where no record is to be loaded: load the clock
abbrev pub orec_grant_all : StepKind
orec_grant_all = record {
  place = Clock;
  act = Load;
  after = λ w v clock. record v {
    history = if ltb clock CLOCK_LIMIT then record v.history { seen = w.history; front = clock } else v.history;
    attempt = if ltb clock CLOCK_LIMIT then direct_attempt clock v else v.attempt;
    owned = if ltb clock CLOCK_LIMIT then direct_owned v.owned else v.owned;
    gate = if ltb clock CLOCK_LIMIT then granted_at clock v.gate else v.gate;
    sample = no_sample;
    check = no_check;
  };
  grown = same_history;
}

pub record CanOrecGrantAll (home : ℕ → ℕ) (words callers n : ℕ) (v : View) : Type 0 where
  pub all : CanOrecClock home [] v
  pub holds : v.gate.holds ≡ true
  pub quiet : HasChecked callers n v
  pub stores : HasStores words v
