-- The kinds of step that CGL takes: what each does, when a seat may take it, and what it shows.
use Rattle.std.specs.Prelude.{ℕ, ◌≡◌, ◌≢◌, ◌+◌, ◌<◌, ◌≤◌, ◌^◌, ◌==◌, if◌then◌else◌, List, [], ◌∷◌, length, Bool, true, false, ltb}
use Rattle.stm_model.specs.Algorithms.{takes_lock, irrevocable_under}
use Rattle.stm_model.specs.declared.alg.Alg.{Alg}
use Rattle.rule_base.specs.declared.entries.Cell.{Cell}
use Rattle.rule_base.specs.declared.entries.Entry.{Entry}
use Rattle.rule_base.specs.declared.layout.At.TheVariants.{Clock, Lock, Heap}
use Rattle.stm_model.specs.declared.config.Config.{Config}
use Rattle.stm_model.specs.declared.config.TheConstants.{CLOCK_LIMIT}
use Rattle.rule_base.specs.declared.views.Attempt.{Attempt}
use Rattle.rule_base.specs.declared.views.LockView.{LockView}
use Rattle.rule_base.specs.declared.views.Phase.TheVariants.{In}
use Rattle.rule_base.specs.declared.views.View.{View}
use Rattle.rule_base.specs.Encodings.{taken_lock}
use Rattle.rule_base.specs.History.{over, touches, without, word_now, Below, upto, Explains, Keeps, Legal}
use Rattle.rule_base.specs.StepKinds.{StepKind, same_history}
use Rattle.rule_base.specs.declared.views.Act.TheVariants.{Load, Store, Exchange}
use Rattle.rule_base.specs.World.{World}

abbrev pub no_attempt : Attempt
no_attempt = record { start = 0; reads = []; stores = []; entered = false }

abbrev pub fresh_lock : Alg → LockView
fresh_lock alg = record { taken = true; started = false; clocked = false; undo = []; irrevocable = irrevocable_under alg false false }

abbrev pub no_lock : LockView
no_lock = record { taken = false; started = false; clocked = false; undo = []; irrevocable = false }

-- exchange the lock, 0 for the own word
abbrev pub take_lock : ℕ → StepKind
take_lock n = record {
  place = Lock;
  act = Exchange 0 (taken_lock n);
  after = λ w v found. record v { lock = if found == 0 then fresh_lock v.gate.algorithm else v.lock; attempt = if found == 0 then no_attempt else v.attempt };
  grown = same_history;
}

pub record CanTakeLock (v : View) : Type 0 where
  pub phase : v.gate.phase ≡ In
  pub algorithm : takes_lock v.gate.algorithm ≡ true
  pub free : v.lock.taken ≡ false

-- the caller is in an attempt of CGL or Serial and has the lock
pub record HasLock (v : View) : Type 0 where
  pub phase : v.gate.phase ≡ In
  pub algorithm : takes_lock v.gate.algorithm ≡ true
  pub taken : v.lock.taken ≡ true

-- load the clock: the start
abbrev pub load_start : StepKind
load_start = record {
  place = Clock;
  act = Load;
  after = λ w v clock. record v {
    history = record v.history { seen = w.history; front = clock };
    attempt = record v.attempt { start = clock };
    lock = record v.lock { started = true };
  };
  grown = same_history;
}

pub record CanLoadStart (v : View) : Type 0 where
  pub has : HasLock v
  pub unstarted : v.lock.started ≡ false

-- what the start shows: a legal history up to it, of which the seat had seen a part
pub record Begins (good : (ℕ → ℕ) → Type 0) (c : Config) (w : World) (v : View) (start : ℕ) : Type 0 where
  pub legal : Legal good c w.history
  pub below : Below w.history (start + 1)
  pub seen : v.history.seen ≡ upto w.history v.history.front
  pub front : v.history.front ≤ start
  pub limit : start ≤ CLOCK_LIMIT

-- the reads of an attempt that found x at a: a word that it has written is not logged
abbrev pub logged : Attempt → ℕ → ℕ → List Cell
logged t a x = if touches t.stores a then t.reads else record { at = a; value = x } ∷ t.reads

-- load a heap word
abbrev pub load_heap : ℕ → StepKind
load_heap a = record {
  place = Heap a;
  act = Load;
  after = λ w v x. record v { attempt = record v.attempt { reads = logged v.attempt a x } };
  grown = same_history;
}

pub record CanLoadHeap (words a : ℕ) (v : View) : Type 0 where
  pub has : HasLock v
  pub started : v.lock.started ≡ true
  pub inside : a < words

-- what a load shows: the own latest write, else the memory after what was seen, which explains all reads
pub record Loads (good : (ℕ → ℕ) → Type 0) (c : Config) (a : ℕ) (w : World) (v : View) (x : ℕ) : Type 0 where
  pub value : x ≡ over v.attempt.stores a (word_now v.history.seen a)
  pub small : x < 2 ^ 64
  pub sees : Explains (word_now v.history.seen) (logged v.attempt a x)
  pub legal : Legal good c v.history.seen
  pub below : Below v.history.seen (v.attempt.start + 1)

-- store a heap word
abbrev pub store_heap : ℕ → ℕ → StepKind
store_heap a x = record {
  place = Heap a;
  act = Store x;
  after = λ w v n. record v { attempt = record v.attempt { stores = record { at = a; value = x } ∷ v.attempt.stores } };
  grown = same_history;
}

pub record CanStoreHeap (words a x : ℕ) (v : View) : Type 0 where
  pub has : HasLock v
  pub started : v.lock.started ≡ true
  pub inside : a < words
  pub small : x < 2 ^ 64
  -- a store that may be taken back is in the undo log
  pub undoable : v.lock.irrevocable ≡ false → touches v.lock.undo a ≡ true

-- the entry of caller n at time t
abbrev pub cgl_entry : ℕ → ℕ → View → Entry
cgl_entry n t v = record { time = t; caller = n; number = length v.history.made; reads = v.attempt.reads; writes = v.attempt.stores }

-- store the clock's next number, which appends the entry
abbrev pub store_clock : ℕ → ℕ → StepKind
store_clock n t = record {
  place = Clock;
  act = Store t;
  after = λ w v x. record v {
    history = record v.history { made = cgl_entry n t v ∷ v.history.made; seen = cgl_entry n t v ∷ w.history; front = t };
    steps = record v.steps { rises = v.steps.rises + 1 };
    attempt = no_attempt;
    lock = record v.lock { started = false; undo = [] };
  };
  grown = λ w v x. cgl_entry n t v ∷ w.history;
}

pub record CanStoreClock (good : (ℕ → ℕ) → Type 0) (t : ℕ) (v : View) : Type 0 where
  pub has : HasLock v
  pub started : v.lock.started ≡ true
  pub free : v.gate.holds ≡ false
  pub time : t ≡ v.attempt.start + 1
  pub limit : t ≤ CLOCK_LIMIT
  pub wrote : v.attempt.stores ≢ []
  pub keeps : Keeps good v.attempt.reads v.attempt.stores

-- what the entry shows: the history with it is legal, and the seat had seen all before it
pub record Commits (good : (ℕ → ℕ) → Type 0) (c : Config) (n t : ℕ) (w : World) (v : View) (x : ℕ) : Type 0 where
  pub legal : Legal good c (cgl_entry n t v ∷ w.history)
  pub below : Below (cgl_entry n t v ∷ w.history) (t + 1)
  pub seen : v.history.seen ≡ w.history

-- store 0 in the lock
abbrev pub free_lock : StepKind
free_lock = record {
  place = Lock;
  act = Store 0;
  after = λ w v n. record v { lock = no_lock; attempt = no_attempt };
  grown = same_history;
}

pub record CanFreeLock (v : View) : Type 0 where
  pub has : HasLock v
  pub unstored : v.attempt.stores ≡ []

-- Serial: load a heap word into the undo log, before the first store there
abbrev pub load_undo : ℕ → StepKind
load_undo a = record {
  place = Heap a;
  act = Load;
  after = λ w v x. record v { lock = record v.lock { undo = record { at = a; value = x } ∷ v.lock.undo } };
  grown = same_history;
}

pub record CanLoadUndo (a : ℕ) (v : View) : Type 0 where
  pub has : HasLock v
  pub started : v.lock.started ≡ true
  pub revocable : v.lock.irrevocable ≡ false
  pub fresh : touches v.lock.undo a ≡ false

-- the stores can no longer be taken back
abbrev pub fixed_lock : LockView → LockView
fixed_lock l = record l { irrevocable = true; undo = [] }

-- Serial: load the clock, before the first store or to become irrevocable: that only where the clock is below its limit
abbrev pub load_limit : Bool → StepKind
load_limit grants = record {
  place = Clock;
  act = Load;
  after = λ w v clock. record v { lock = if (if grants then ltb clock CLOCK_LIMIT else false) then fixed_lock v.lock else record v.lock { clocked = true } };
  grown = same_history;
}

-- the holder's start is the clock still
abbrev pub LoadsLimit : World → View → ℕ → Type 0
LoadsLimit w v clock = clock ≡ v.attempt.start

pub record CanLoadLimit (v : View) : Type 0 where
  pub has : HasLock v
  pub started : v.lock.started ≡ true

-- Serial: store back what the undo log has of an address, which stays in it
abbrev pub store_back : ℕ → ℕ → StepKind
store_back a x = record {
  place = Heap a;
  act = Store x;
  after = λ w v n. record v { attempt = record v.attempt { stores = without v.attempt.stores a } };
  grown = same_history;
}

pub record CanStoreBack (a x : ℕ) (v : View) : Type 0 where
  pub has : HasLock v
  pub started : v.lock.started ≡ true
  pub logged : touches v.lock.undo a ≡ true
  pub value : x ≡ over v.lock.undo a 0
