-- What the loads of the ring's slots show: which slots meet a filter.
use Rattle.std.specs.Prelude.{ℕ, ◌≡◌, ◌≢◌, ◌<◌, ◌≤◌, ◌+◌, ◌*◌, ◌%◌, true, false, List, ◌∷◌, ◌++◌, Contains, Some, bit_and}
use Rattle.rule_base.specs.declared.layout.At.{At}
use Rattle.rule_base.specs.declared.layout.At.TheVariants.{Clock, Slot}
use Rattle.rule_base.specs.declared.layout.TheConstants.{SLOT_WORDS}
use Rattle.rule_base.specs.declared.views.Act.{Act}
use Rattle.rule_base.specs.declared.views.Act.TheVariants.{Load}
use Rattle.rule_base.specs.declared.views.TracedStep.{TracedStep}
use Rattle.stm_logs.specs.Filters.{part_meets, meets, lowest_common}
use Rattle.stm_answers.specs.CallerState.{CallerState}

-- a step of these found this number at this place
abbrev pub InStepTrace : List TracedStep → At → ℕ → Type 0
InStepTrace steps place n = (act : Act) × Contains steps (record { place = place; act = act; found = Some n })

-- a load of the clock
abbrev pub clock_load : ℕ → TracedStep
clock_load n = record { place = Clock; act = Load; found = Some n }

module _ (ring : ℕ) (filter : ℕ → ℕ) (loads : List TracedStep) where
  -- word i of the slot of a time was loaded
  abbrev pub LoadsWord : ℕ → ℕ → ℕ → Type 0
  LoadsWord time i x = InStepTrace loads (Slot (time % ring * SLOT_WORDS + i)) x

  -- all words of a part of the slot were loaded, and none has a bit of the filter: whatever its other words are,
  -- it doesn't meet the filter
  pub record Misses (time : ℕ) : Type 0 where
    pub slot : ℕ → ℕ
    pub part : ℕ
    pub low : part < 4
    pub loaded : (i : ℕ) → 4 * part ≤ i → i < 4 * part + 4 → LoadsWord time i (slot i)
    pub none : part_meets filter slot part ≡ false

  -- the slot meets the filter by words that were loaded; bits are the common ones of the lowest word that has any, and
  -- each word up to that one was loaded
  pub record Meets (time bits : ℕ) : Type 0 where
    pub slot : ℕ → ℕ
    pub loaded : (i : ℕ) → i < SLOT_WORDS → slot i ≢ 0 → LoadsWord time i (slot i)
    pub meet : meets filter slot ≡ true
    pub some : bits ≢ 0
    pub lowest : bits ≡ lowest_common filter slot
    pub index : ℕ
    pub low : index < SLOT_WORDS
    pub is : bits ≡ bit_and (filter index) (slot index)
    pub upto : (i : ℕ) → i ≤ index → LoadsWord time i (slot i)

-- of the times after the start and up to the clock, this is the first whose slot meets the filter
pub record FirstMet (ring start clock : ℕ) (filter : ℕ → ℕ) (time bits : ℕ) (loads : List TracedStep) : Type 0 where
  pub since : start < time
  pub upto : time ≤ clock
  pub meets : Meets ring filter loads time bits
  pub least : (e : ℕ) → start < e → e < time → Misses ring filter loads e

-- the slots were loaded between two loads of the clock: none of a time past the first,
-- none that a later entry had taken by the second
pub record FindsFirst (ring start : ℕ) (filter : ℕ → ℕ) (time bits : ℕ) (v w : CallerState) : Type 0 where
  pub early : List TracedStep
  pub clock : ℕ
  pub loads : List TracedStep
  pub later : ℕ
  pub late : List TracedStep
  pub step_trace : w.step_trace ≡ late ++ clock_load later ∷ (loads ++ clock_load clock ∷ (early ++ v.step_trace))
  pub near : later < start + ring
  pub first : FirstMet ring start clock filter time bits loads
