-- What the parts of a commit ask and tell that take records, store what was written, and give the records back.
use Rattle.std.specs.Prelude.{ℕ, ◌≡◌, ◌≢◌, ◌+◌, ◌<◌, ◌≤◌, true, false, ◌⊎◌, List, [], ◌∷◌, ◌++◌, Contains, length, Some, Result, Ok, Err}
use Rattle.stm_model.specs.declared.config.Config.{Config}
use Rattle.stm_model.specs.declared.config.TheConstants.{CLOCK_LIMIT}
use Rattle.stm_model.specs.declared.stop.Cause.{Cause}
use Rattle.stm_model.specs.declared.stop.Cause.TheVariants as causes
use Rattle.rule_base.specs.declared.entries.Cell.{Cell}
use Rattle.rule_base.specs.declared.layout.At.TheVariants.{Record}
use Rattle.rule_base.specs.declared.views.Act.TheVariants.{Exchange}
use Rattle.rule_base.specs.declared.views.TracedStep.{TracedStep}
use Rattle.rule_base.specs.declared.views.View.{View}
use Rattle.rule_base.specs.Bridge.{items}
use Rattle.rule_base.specs.Encodings.{free_record, owned_record, is_owned, owner_of}
use Rattle.rule_base.specs.History.{over, touches, Inside}
use Rattle.rule_base.specs.Ranks.{home_of}
use Rattle.rule_orec.specs.OrecSteps.{HasOrec, HasOpen}
use Rattle.stm_rule.specs.declared.local.Local.{Local}
use Rattle.stm_rule.specs.RecordsKept.{cells_of}
use Rattle.stm_answers.specs.Causes.{NamesOther}
use Rattle.stm_answers.specs.Evidence.{Untouched}
use Rattle.alg_orec.specs.Validating.{load_of}

-- the view with these records held, and with these steps added
abbrev pub holding_still : View → List Cell → List TracedStep → View
holding_still v held more = record v { owned = record v.owned { held = held }; steps = record v.steps { step_trace = more ++ v.steps.step_trace } }

-- the exchange by which caller n takes a record, where it found x
abbrev pub lock_item : ℕ → ℕ → ℕ → ℕ → TracedStep
lock_item n r version x = record { place = Record r; act = Exchange (free_record version) (owned_record n); found = Some x }

-- the attempt has no entry yet, and its descriptor has the records that it holds
pub record CanLock (l : Local) (v : View) : Type 0 where
  pub opens : HasOpen v
  pub lazy : v.owned.eager ≡ false
  pub unraised : v.owned.raised ≡ false
  pub locks : l.locks.items ≡ items v.owned.held

-- it holds none, and the log of the records is no shorter than that of what was written
pub record CanLockAll (c : Config) (l : Local) (v : View) : Type 0 where
  pub can : CanLock l v
  pub none : v.owned.held ≡ []
  pub lengths : l.writes.len ≤ l.locks.len
  pub records : 0 < c.records

-- a load found the record free at this version, and no own step had changed it before
pub record WasFree (r version : ℕ) (more : List TracedStep) : Type 0 where
  pub late : List TracedStep
  pub early : List TracedStep
  pub is : more ≡ late ++ load_of (Record r) (free_record version) ∷ early
  pub untouched : Untouched (Record r) early

module _ (c : Config) (n : ℕ) where
  -- the record was taken at this version
  pub record HasLocked (r version : ℕ) (l : Local) (v : View) (m : Local) (w : View) : Type 0 where
    pub within : version ≤ CLOCK_LIMIT
    -- with one caller alone its own steps have raised the clock to it
    pub sole : c.callers ≡ 1 → version ≤ c.clock + v.steps.rises
    pub local : m ≡ record l { locks = record l.locks { items = l.locks.items ++ (r, version) ∷ [] } }
    pub is : w ≡ holding_still v (record { at = r; value = version } ∷ v.owned.held) (lock_item n r version (free_record version) ∷ load_of (Record r) (free_record version) ∷ [])

  -- the last step found the record another caller's
  pub record IsFoundOwned (r word : ℕ) (more : List TracedStep) : Type 0 where
    pub last : more ≡ load_of (Record r) word ∷ []
    pub owned : is_owned word ≡ true
    pub other : NamesOther c n (1 + owner_of word)
    pub others : 1 < c.callers

  -- the exchange found the record otherwise than the load before it
  pub record IsFoundMoved (r before after : ℕ) (more : List TracedStep) : Type 0 where
    pub version : ℕ
    pub free : before ≡ free_record version
    pub apart : before ≢ after
    pub last : more ≡ lock_item n r version after ∷ load_of (Record r) before ∷ []
    pub others : 1 < c.callers

  -- why record r can't be taken
  abbrev pub IsRefused : ℕ → Cause → ℕ → List TracedStep → Type 0
  IsRefused r (causes.Clock had now) s more = ⊥
  IsRefused r (causes.Record index word start) s more = (index ≡ r) × (start ≡ s) × IsFoundOwned r word more
  IsRefused r (causes.Moved index before after) s more = (index ≡ r) × IsFoundMoved r before after more
  IsRefused r (causes.Filter time bits) s more = ⊥
  IsRefused r (causes.Overrun start clock) s more = ⊥

  abbrev pub LocksOne : ℕ → Result ℕ Cause → Local → View → Local → View → Type 0
  LocksOne r (Ok version) l v m w = HasLocked r version l v m w
  LocksOne r (Err cause) l v m w = (m ≡ l) × ((more : List TracedStep) × (w ≡ holding_still v v.owned.held more) × IsRefused r cause l.start more)

  -- What is held, with what the descriptor has of it. v is the view before the steps, and w that after them.
  pub record Holds (l : Local) (v : View) (m : Local) (w : View) (more : List TracedStep) : Type 0 where
    pub local : m ≡ record l { locks = m.locks }
    pub len : m.locks.len ≡ l.locks.len
    pub is : w ≡ holding_still v w.owned.held more
    pub locks : m.locks.items ≡ items w.owned.held
    pub places : Inside c.records w.owned.held
    pub few : length m.locks.items ≤ l.writes.len
    pub versions : (r : ℕ) → touches w.owned.held r ≡ true → over w.owned.held r 0 ≤ CLOCK_LIMIT

  -- each record that is held was free when it was looked at, and no other was changed
  pub record Locks (l : Local) (v : View) (m : Local) (w : View) (more : List TracedStep) : Type 0 where
    pub holds : Holds l v m w more
    pub free : (r : ℕ) → touches w.owned.held r ≡ true → WasFree r (over w.owned.held r 0) more
    pub apart : (r : ℕ) → touches w.owned.held r ≡ false → Untouched (Record r) more
    pub sole : (r : ℕ) → touches w.owned.held r ≡ true → c.callers ≡ 1 → over w.owned.held r 0 ≤ c.clock + v.steps.rises

  -- 0, or a version at which the record of an address that was written was found free
  abbrev pub IsOfWritten : Local → ℕ → List TracedStep → Type 0
  IsOfWritten l version more = (version ≡ 0) ⊎ ((a : ℕ) × (touches (cells_of l.writes.items) a ≡ true) × Contains more (load_of (Record (home_of c a)) (free_record version)))

  -- all records of what was written are held, and this is the newest of their versions
  pub record LocksEach (newest : ℕ) (l : Local) (v : View) (m : Local) (w : View) : Type 0 where
    pub more : List TracedStep
    pub locks : Locks l v m w more
    pub covered : (a : ℕ) → touches (cells_of l.writes.items) a ≡ true → touches w.owned.held (home_of c a) ≡ true
    pub olds : (r : ℕ) → touches w.owned.held r ≡ true → over w.owned.held r 0 ≤ newest
    pub found : IsOfWritten l newest more

  -- or the record of an address that was written can't be taken
  pub record StopsLocking (cause : Cause) (l : Local) (v : View) (m : Local) (w : View) : Type 0 where
    pub before : List TracedStep
    pub last : List TracedStep
    pub a : ℕ
    pub written : touches (cells_of l.writes.items) a ≡ true
    pub locks : Locks l v m w (last ++ before)
    pub unheld : touches w.owned.held (home_of c a) ≡ false
    pub untouched : Untouched (Record (home_of c a)) before
    pub why : IsRefused (home_of c a) cause l.start last

  abbrev pub LocksAll : Result ℕ Cause → Local → View → Local → View → Type 0
  LocksAll (Ok newest) l v m w = LocksEach newest l v m w
  LocksAll (Err cause) l v m w = StopsLocking cause l v m w

-- the entry is made, and nothing that it wrote lies in the heap yet
pub record Owes (words : ℕ) (l : Local) (v : View) : Type 0 where
  pub has : HasOrec v
  pub back : v.owned.back ≡ cells_of l.writes.items
  pub inside : Inside words (cells_of l.writes.items)

-- all of it does
pub record Pays (v w : View) : Type 0 where
  pub more : List TracedStep
  pub is : w ≡ record v { owned = record v.owned { back = [] }; steps = record v.steps { step_trace = more ++ v.steps.step_trace } }

-- the entry is made at t, and all that it wrote lies in the heap
pub record OwesNothing (c : Config) (t : ℕ) (l : Local) (v : View) : Type 0 where
  pub has : HasOrec v
  pub committed : v.owned.committed ≡ true
  pub time : t ≡ v.owned.time
  pub repaid : v.owned.back ≡ []
  pub undone : v.owned.undo ≡ []
  pub locks : l.locks.items ≡ items v.owned.held
  pub places : Inside c.records v.owned.held

-- no record is held any more
pub record ReleasesAll (v w : View) : Type 0 where
  pub more : List TracedStep
  pub is : w ≡ holding_still v [] more
