-- What the parts of a validation ask and tell.
use Rattle.std.specs.Prelude.{ℕ, ◌≡◌, ◌+◌, ◌<◌, ◌≤◌, ◌⊎◌, ◌%◌, nat_le, Bool, true, false, List, [], ◌∷◌, ◌++◌, length, slice_index_or, Contains, Option, Some, None, Result, Ok, Err}
use Rattle.stm_model.specs.declared.config.Config.{Config}
use Rattle.stm_model.specs.declared.config.TheConstants.{CLOCK_LIMIT}
use Rattle.stm_model.specs.declared.stop.Cause.{Cause}
use Rattle.stm_model.specs.declared.stop.Cause.TheVariants as causes
use Rattle.stm_model.specs.Memories.{item_at}
use Rattle.rule_base.specs.declared.entries.Entry.{Entry}
use Rattle.rule_base.specs.declared.layout.At.{At}
use Rattle.rule_base.specs.declared.layout.At.TheVariants.{Clock, Record}
use Rattle.rule_base.specs.declared.views.Act.TheVariants.{Load}
use Rattle.rule_base.specs.declared.views.TracedStep.{TracedStep}
use Rattle.rule_base.specs.declared.views.View.{View}
use Rattle.rule_base.specs.Bridge.{items}
use Rattle.rule_base.specs.Encodings.{free_record, is_owned, owner_of, version_of}
use Rattle.rule_base.specs.History.{over, touches}
use Rattle.rule_base.specs.Ranks.{home_of}
use Rattle.rule_orec.specs.OrecReading.{no_check}
use Rattle.rule_orec.specs.OrecSteps.{HasOpen}
use Rattle.stm_rule.specs.declared.local.Local.{Local}
use Rattle.alg_orec.specs.RecordFindings.{Moves}
use Rattle.stm_answers.specs.Causes.{NamesOther}

-- a load that found x
abbrev pub load_of : At → ℕ → TracedStep
load_of place x = record { place = place; act = Load; found = Some x }

-- none of these steps changed a word
abbrev pub OnlyLoads : List TracedStep → Type 0
OnlyLoads [] = Unit {0}
OnlyLoads (i ∷ is) = (i.act ≡ Load) × OnlyLoads is

-- the address of read i
abbrev pub read_at : Local → ℕ → ℕ
read_at l i = (slice_index_or l.reads.items i (0, 0)).0

-- the attempt holds the record, in the place of a version that its start has seen
abbrev pub is_old : ℕ → Option ℕ → Bool
is_old start None = false
is_old start (Some version) = nat_le version start

abbrev pub vouches : Local → ℕ → Bool
vouches l r = is_old l.start (item_at r l.locks.items)

-- the versions that were replaced are numbers of the clock
abbrev pub HasVersions : Local → Type 0
HasVersions l = (r version : ℕ) → item_at r l.locks.items ≡ Some version → version ≤ CLOCK_LIMIT

-- whether record r is to be loaded to validate a read: not where it vouches for its words; and the read isn't valid
-- where it was newer when it was taken
abbrev pub MustLoad : Result Bool Cause → Local → ℕ → Type 0
MustLoad (Ok true) l r = item_at r l.locks.items ≡ None
MustLoad (Ok false) l r = vouches l r ≡ true
MustLoad (Err cause) l r = (version : ℕ) × (item_at r l.locks.items ≡ Some version) × (l.start < version) × (cause ≡ causes.Record r (free_record version) l.start)

-- the last of the reads for which no record vouches
abbrev pub IsLast : ℕ → Option ℕ → Local → Type 0
IsLast records None l = (j : ℕ) → j < length l.reads.items → vouches l (read_at l j % records) ≡ true
IsLast records (Some i) l = (i < length l.reads.items) × (vouches l (read_at l i % records) ≡ false) × ((j : ℕ) → i < j → j < length l.reads.items → vouches l (read_at l j % records) ≡ true)

-- the attempt is open, and its descriptor has what it read and the records that it holds
pub record CanValidate (c : Config) (l : Local) (v : View) : Type 0 where
  pub opens : HasOpen v
  pub start : v.attempt.start ≡ l.start
  pub reads : l.reads.items ≡ items v.attempt.reads
  pub locks : l.locks.items ≡ items v.owned.held
  pub versions : HasVersions l
  -- with one caller alone the start is the clock
  pub level : c.callers ≡ 1 → v.attempt.start ≡ c.clock + v.steps.rises

-- what a load of a record before its word, or to validate, comes to:
-- it passes where it is free at a version that is at most the start
abbrev pub Judges : ℕ → Result (Unit {0}) Cause → ℕ → ℕ → Type 0
Judges r (Ok _) word start = (is_owned word ≡ false) × (version_of word ≤ start)
Judges r (Err cause) word start = (cause ≡ causes.Record r word start) × ((is_owned word ≡ true) ⊎ ((is_owned word ≡ false) × (start < version_of word)))

module _ (c : Config) where
  -- the reads from the first on and before the last have passed, of those that the validation has to look at
  pub record HasPassed (first last : ℕ) (l : Local) (v w : View) : Type 0 where
    pub more : List TracedStep
    pub is : w ≡ record v { check = record v.check { todo = w.check.todo }; steps = record v.steps { step_trace = more ++ v.steps.step_trace } }
    pub loads : OnlyLoads more
    pub fewer : (a : ℕ) → touches w.check.todo a ≡ true → touches v.check.todo a ≡ true
    pub done : (j : ℕ) → first ≤ j → j < last → vouches l (read_at l j % c.records) ≡ false → touches w.check.todo (read_at l j) ≡ false

module _ (c : Config) (n : ℕ) where
  -- the last step found the record another caller's, or newer than the start
  pub record IsFoundStale (index word start : ℕ) (more : List TracedStep) (v : View) : Type 0 where
    pub early : List TracedStep
    pub last : more ≡ load_of (Record index) word ∷ early
    pub unheld : touches v.owned.held index ≡ false
    pub stale : ((is_owned word ≡ true) × NamesOther c n (1 + owner_of word)) ⊎ ((is_owned word ≡ false) × (start < version_of word))
    pub others : 1 < c.callers
    -- who knows the clock as the gate's holder has an older start
    pub later : v.gate.quiescent ≡ true → v.attempt.start < v.gate.time

  -- the attempt holds the record, in the place of a version above its start
  pub record IsHeldNewer (index found start : ℕ) (v : View) : Type 0 where
    pub held : touches v.owned.held index ≡ true
    pub word : found ≡ free_record (over v.owned.held index 0)
    pub newer : start < over v.owned.held index 0

  -- a read is not valid: its record tells so. v is the view before the steps, and w that after them
  pub record IsStale (index word compared : ℕ) (v w : View) : Type 0 where
    pub start : compared ≡ v.attempt.start
    pub a : ℕ
    pub home : index ≡ home_of c a
    pub read : touches v.attempt.reads a ≡ true
    pub more : List TracedStep
    pub is : w ≡ record v { check = w.check; steps = record v.steps { step_trace = more ++ v.steps.step_trace } }
    pub loads : OnlyLoads more
    pub why : IsFoundStale index word compared more v ⊎ IsHeldNewer index word compared v

  abbrev pub Refuses : Cause → View → View → Type 0
  Refuses (causes.Clock had now) v w = ⊥
  Refuses (causes.Record index word start) v w = IsStale index word start v w
  Refuses (causes.Moved index before after) v w = ⊥
  Refuses (causes.Filter time bits) v w = ⊥
  Refuses (causes.Overrun start clock) v w = ⊥

  abbrev pub Passes : ℕ → ℕ → Result (Unit {0}) Cause → Local → View → View → Type 0
  Passes first last (Ok _) l v w = HasPassed c first last l v w
  Passes first last (Err cause) l v w = Refuses cause v w

  module _ (good : (ℕ → ℕ) → Type 0) where
    -- THE VALIDATION: all reads are of the memory at a clock that was loaded in it, and that is the start
    pub record IsValid (l : Local) (v : View) (m : Local) (w : View) : Type 0 where
      pub local : m ≡ record l { start = m.start }
      pub history : List Entry
      pub more : List TracedStep
      pub is : w
          ≡ record v {
            history = record v.history { seen = history; front = m.start };
            attempt = record v.attempt { start = m.start };
            sample = record v.sample { loaded = false };
            check = no_check;
            steps = record v.steps { step_trace = more ++ v.steps.step_trace };
          }
      pub loads : OnlyLoads more
      pub found : Contains more (load_of Clock m.start)
      pub moves : Moves good c history v m.start
      -- it is as new as the record that was sampled before
      pub sampled : v.sample.sampled ≡ true → v.sample.version ≤ m.start
      pub sole : c.callers ≡ 1 → m.start ≡ c.clock + v.steps.rises
      -- and as those that the attempt holds
      pub olds : (r : ℕ) → touches v.owned.held r ≡ true → over v.owned.held r 0 ≤ m.start

    -- or one read isn't, and nothing changed but what was loaded
    abbrev pub Validates : Result (Unit {0}) Cause → Local → View → Local → View → Type 0
    Validates (Ok _) l v m w = IsValid l v m w
    Validates (Err cause) l v m w = (m ≡ l) × Refuses cause v w
