-- What the parts of a check of RingSW ask and tell.
use Rattle.std.specs.Prelude.{ℕ, ◌≡◌, ◌≢◌, ◌+◌, ◌*◌, ◌<◌, ◌≤◌, ◌⊎◌, max, min, Bool, true, false, List, [], ◌∷◌, ◌++◌, slice_index, bit_and, Option, Some, None, Result, Ok, Err}
use Rattle.stm_model.specs.declared.config.Config.{Config}
use Rattle.stm_model.specs.declared.stop.Cause.{Cause}
use Rattle.stm_model.specs.declared.stop.Cause.TheVariants as causes
use Rattle.rule_base.specs.declared.entries.Cell.{Cell}
use Rattle.rule_base.specs.declared.layout.At.TheVariants.{Clock, Done, Slot}
use Rattle.rule_base.specs.declared.layout.TheConstants.{SLOT_WORDS}
use Rattle.rule_base.specs.declared.views.GateView.{GateView}
use Rattle.rule_base.specs.declared.views.RingRead.{RingRead}
use Rattle.rule_base.specs.declared.views.SlotWord.{SlotWord}
use Rattle.rule_base.specs.declared.views.TracedStep.{TracedStep}
use Rattle.rule_base.specs.declared.views.View.{View}
use Rattle.rule_base.specs.Bridge.{of_words}
use Rattle.rule_base.specs.GateSteps.{granted_at}
use Rattle.rule_base.specs.History.{upto, word_now, Explains}
use Rattle.rule_base.specs.StepKinds.{Tells}
use Rattle.rule_base.specs.World.{World}
use Rattle.rule_promoted.specs.PromotedSteps.{CanRingGrant}
use Rattle.rule_ring.specs.RingSteps.{HasRing, AllClear, CanRingMove, RingSees, read_in, ring_look}
use Rattle.rule_ring.specs.SlotFilter.{slot_filter}
use Rattle.rule_ring.specs.Slots.{slot_place, has_word, loaded_word}
use Rattle.alg_ring.specs.RingFindings.{FindsLook}
use Rattle.stm_logs.specs.Filters.{meets, lowest_common}
use Rattle.stm_answers.specs.Evidence.{ClocksAre}
use Rattle.stm_answers.specs.SlotEvidence.{InStepTrace, FirstMet, clock_load}

-- the filter has the addresses of these cells
abbrev pub IsFilterOf : List ℕ → List Cell → Type 0
IsFilterOf filter watched = (i : ℕ) → i < SLOT_WORDS → slice_index filter i ≡ slot_filter.word watched i

-- these slot words were loaded, by these steps, and nothing else changed
abbrev pub with_words : View → List SlotWord → List TracedStep → View
with_words v words more = record v { ring_read = record v.ring_read { words = words }; steps = record v.steps { step_trace = more ++ v.steps.step_trace } }

-- ONE SLOT

pub record CanLoadSlot (ring time : ℕ) (v : View) : Type 0 where
  pub has : HasRing v
  pub checking : v.ring_read.checking ≡ true
  pub unsure : v.ring_read.sure ≡ false
  pub since : v.attempt.start < time
  pub upto : time ≤ v.ring_read.clock
  pub near : v.ring_read.clock < v.attempt.start + ring

module _ (ring time : ℕ) (filter : List ℕ) where
  -- word i was loaded, and has no common bit with the filter
  abbrev pub NoCommon : List SlotWord → ℕ → Type 0
  NoCommon words i = (has_word words time i ≡ true) × (bit_and (slice_index filter i) (loaded_word words time i) ≡ 0)

  -- word j of the part is the first that has common bits
  pub record FirstCommon (part bits : ℕ) (words : List SlotWord) : Type 0 where
    pub j : ℕ
    pub low : 4 * part ≤ j
    pub high : j < 4 * part + 4
    pub has : has_word words time j ≡ true
    pub is : bits ≡ bit_and (slice_index filter j) (loaded_word words time j)
    pub before : (i : ℕ) → 4 * part ≤ i → i < j → NoCommon words i

  -- all words of the part were loaded, and none has common bits
  abbrev pub PartMisses : ℕ → List SlotWord → Type 0
  PartMisses part words = (i : ℕ) → 4 * part ≤ i → i < 4 * part + 4 → NoCommon words i

  -- words of a part of the slot were loaded, up to the first that has common bits
  pub record LoadsPart (part bits : ℕ) (v w : View) : Type 0 where
    pub words : List SlotWord
    pub more : List TracedStep
    pub is : w ≡ with_words v (words ++ v.ring_read.words) more
    pub of : (t i : ℕ) → has_word words t i ≡ true → (t ≡ time) × (4 * part ≤ i) × (i < 4 * part + 4)
    pub found : (i : ℕ) → has_word words time i ≡ true → InStepTrace more (Slot (slot_place ring time i)) (loaded_word words time i)
    pub none : bits ≡ 0 → PartMisses part words
    pub some : bits ≢ 0 → FirstCommon part bits words

  -- words of the slot were loaded, as far as they tell whether it meets the filter
  pub record MeetsSlot (bits : ℕ) (v w : View) : Type 0 where
    pub words : List SlotWord
    pub more : List TracedStep
    pub is : w ≡ with_words v (words ++ v.ring_read.words) more
    pub of : (t i : ℕ) → has_word words t i ≡ true → t ≡ time
    pub found : (i : ℕ) → has_word words time i ≡ true → InStepTrace more (Slot (slot_place ring time i)) (loaded_word words time i)
    -- whatever those words are that were not loaded
    pub apart : bits ≡ 0 → (slot : ℕ → ℕ) → ((i : ℕ) → i < SLOT_WORDS → has_word words time i ≡ true → loaded_word words time i ≡ slot i) → meets (slice_index filter) slot ≡ false
    pub missed : bits ≡ 0 → (part : ℕ) × (part < 4) × PartMisses part words
    pub meet : bits ≢ 0 → meets (slice_index filter) (loaded_word words time) ≡ true
    pub first : bits ≢ 0 → FirstCommon 0 bits words
    pub lowest : bits ≢ 0 → bits ≡ lowest_common (slice_index filter) (loaded_word words time)

-- ALL SLOTS

pub record CanScan (start clock : ℕ) (filter : List ℕ) (v : View) : Type 0 where
  pub has : HasRing v
  pub checking : v.ring_read.checking ≡ true
  pub unsure : v.ring_read.sure ≡ false
  pub start_is : v.attempt.start ≡ start
  pub clock_is : v.ring_read.clock ≡ clock
  pub later : start ≤ clock
  pub watched : IsFilterOf filter v.ring_read.watched

module _ (c : Config) (start clock : ℕ) where
  abbrev pub OneMeets : Cause → List ℕ → List TracedStep → Type 0
  OneMeets (causes.Filter time bits) filter more = FirstMet c.ring start clock (slice_index filter) time bits more
  OneMeets (causes.Clock had now) filter more = ⊥
  OneMeets (causes.Record index word from) filter more = ⊥
  OneMeets (causes.Moved index before after) filter more = ⊥
  OneMeets (causes.Overrun from now) filter more = ⊥

  -- what the loads of the slots tell
  abbrev pub MeetsOne : Option Cause → List ℕ → View → View → Type 0
  MeetsOne None filter v w = (words : List SlotWord) × (more : List TracedStep) × (w ≡ with_words v words more) × AllClear slot_filter w
  MeetsOne (Some cause) filter v w = (words : List SlotWord) × (more : List TracedStep) × (w ≡ with_words v words more) × OneMeets cause filter more

  -- a slot meets the filter, and the ring still reached back to the start when the clock was loaded after it;
  -- or it no longer reaches back
  abbrev pub Refutes : Cause → List ℕ → List TracedStep → Type 0
  Refutes (causes.Filter time bits) filter more = (later : ℕ) × (loads : List TracedStep) × (more ≡ clock_load later ∷ loads) × (later < start + c.ring) × FirstMet c.ring start clock (slice_index filter) time bits loads
  Refutes (causes.Clock had now) filter more = ⊥
  Refutes (causes.Record index word from) filter more = ⊥
  Refutes (causes.Moved index before after) filter more = ⊥
  Refutes (causes.Overrun from now) filter more = (from ≡ start) × (start + c.ring ≤ now) × ((now ≡ clock) ⊎ InStepTrace more Clock now)

  -- the clock was loaded after the slots, or not
  abbrev pub scanned : View → List SlotWord → Bool → List TracedStep → View
  scanned v words sure more = record v { ring_read = record v.ring_read { words = words; sure = sure }; steps = record v.steps { step_trace = more ++ v.steps.step_trace } }

  -- what the loads of the slots and of the clock after them tell
  abbrev pub Scans : Result (Unit {0}) Cause → List ℕ → View → View → Type 0
  Scans (Ok _) filter v w = (words : List SlotWord) × (more : List TracedStep) × (w ≡ scanned v words true more) × CanRingMove slot_filter w
  Scans (Err cause) filter v w = (words : List SlotWord) × (sure : Bool) × (more : List TracedStep) × (w ≡ scanned v words sure more) × Refutes cause filter more

-- THE CHECK

pub record CanCheck (c : Config) (start : ℕ) (filter : List ℕ) (v : View) : Type 0 where
  pub has : HasRing v
  pub start_is : v.attempt.start ≡ start
  pub front_is : v.history.front ≡ start
  pub watched : IsFilterOf filter v.ring_read.watched
  pub not_quiescent : v.gate.quiescent ≡ false
  pub sole : c.callers ≡ 1 → start ≡ c.clock + v.steps.rises

pub record CanCheckToGrant (c : Config) (start : ℕ) (filter : List ℕ) (v : View) : Type 0 where
  pub grant : CanRingGrant v
  pub start_is : v.attempt.start ≡ start
  pub front_is : v.history.front ≡ start
  pub watched : IsFilterOf filter v.ring_read.watched
  pub unentered : v.attempt.entered ≡ false
  pub sole : c.callers ≡ 1 → start ≡ c.clock + v.steps.rises

-- the view after a check that passed, in a world that it saw
abbrev pub passed_at : World → ℕ → GateView → RingRead → List TracedStep → View → View
passed_at m start gate read more v = record v {
  history = record v.history { seen = upto m.history start; front = start };
  gate = gate;
  attempt = record { start = start; reads = read_in v; stores = v.attempt.stores; entered = v.attempt.entered };
  ring_read = read;
  steps = record v.steps { step_trace = more ++ v.steps.step_trace };
}

module _ (good : List ℕ → Type 0) (c : Config) where
  -- the check passed: the start is now this, and all that was loaded is read
  pub record Passes (gate : GateView) (start : ℕ) (v w : View) : Type 0 where
    pub world : World
    pub read : RingRead
    pub more : List TracedStep
    pub is : w ≡ passed_at world start gate read more v
    pub sees : RingSees (of_words good c.words) c world v start
    -- the word under way has what was read of it before
    pub kept : Explains (word_now (upto world.history start)) v.attempt.reads
    pub later : v.attempt.start ≤ start
    pub inside : read.inside ≡ true
    pub settled : read.loaded ≡ false
    pub watched : read.watched ≡ v.ring_read.watched
    pub moves : ((start ≡ v.attempt.start) × ClocksAre v.attempt.start more) ⊎ ((clock done : ℕ) × InStepTrace more Clock clock × InStepTrace more Done done × (start ≡ max v.attempt.start (min done clock)))
    -- with one caller alone it is where it was
    pub sole : c.callers ≡ 1 → start ≡ v.attempt.start

  -- the check failed: nothing changed but what the check itself is about
  pub record Fails (cause : Cause) (filter : List ℕ) (v w : View) : Type 0 where
    pub read : RingRead
    pub more : List TracedStep
    pub is : w ≡ record v { ring_read = read; steps = record v.steps { step_trace = more ++ v.steps.step_trace } }
    pub others : c.callers ≢ 1
    pub clock : ℕ
    pub loads : List TracedStep
    pub parts : more ≡ loads ++ clock_load clock ∷ []
    pub refutes : Refutes c v.attempt.start clock cause filter loads

  -- what `check` tells: under the lock the start is the clock now
  abbrev pub Checks : Result ℕ Cause → List ℕ → View → View → Type 0
  Checks (Ok start) filter v w = Passes v.gate start v w × (v.lock.taken ≡ true → v.ring_commit.committed ≡ false → v.ring_commit.ticked ≡ true → start ≡ v.ring_commit.clock)
  Checks (Err cause) filter v w = Fails cause filter v w

  -- what `catch_up` tells: a check that loaded this clock and goes on comes to this
  abbrev pub ChecksOn : ℕ → ℕ → Result ℕ Cause → List ℕ → View → View → Type 0
  ChecksOn start clock answer filter v w = (before : View) → CanCheck c start filter before → Tells ring_look (FindsLook (of_words good c.words) c) before clock v → Checks answer filter before w

  -- what `check_to_grant` tells
  abbrev pub ChecksToGrant : Result ℕ Cause → List ℕ → View → View → Type 0
  ChecksToGrant (Ok start) filter v w =
      Passes (granted_at v.gate.time v.gate) start v w × (start ≡ v.gate.time)
      × ((more : List TracedStep) × (w.steps.step_trace ≡ more ++ v.steps.step_trace) × InStepTrace more Clock start)
  ChecksToGrant (Err cause) filter v w = Fails cause filter v w
