-- Every list of RingSW's steps.
use Rattle.std.specs.Prelude.{ℕ, ◌≡◌, ◌<◌, List}
use Rattle.rule_base.specs.declared.entries.Cell.{Cell}
use Rattle.stm_model.specs.declared.config.Config.{Config}
use Rattle.rule_base.specs.declared.views.View.{View}
use Rattle.rule_base.specs.Runs.{KeepsAlong}
use Rattle.rule_base.specs.StepKinds.{StepKind}
use Rattle.rule_ring.specs.Filters.{Filters}
use Rattle.rule_ring.specs.RingRule.{RingWorld}
use Rattle.rule_ring.specs.RingSteps.{ring_begin, CanRingBegin, ring_load, CanRingLoad, ring_look, CanRingLook, ring_word, CanRingWord, ring_again, CanRingAgain, ring_move, CanRingMove, ring_lock, CanRingLock, ring_tick, HasTurn, ring_slot, CanRingSlot, ring_enter, CanRingEnter, ring_write, CanRingWrite, ring_done, CanRingDone, ring_free, CanRingFree}

-- a step by its kind and its numbers, with the number of the slots where the place or the limit depends on it
pub data RingStep : Type 0 where
  ring_begins : RingStep
  ring_loads : (a : ℕ) → RingStep
  ring_looks : RingStep
  ring_words : (ring e i : ℕ) → RingStep
  ring_agains : (ring : ℕ) → RingStep
  ring_moves : RingStep
  ring_locks : RingStep
  ring_ticks : RingStep
  ring_slots : (ring e i : ℕ) (ws : List Cell) → RingStep
  ring_enters : (t : ℕ) → RingStep
  ring_writes : (a x : ℕ) → RingStep
  ring_dones : (t : ℕ) → RingStep
  ring_frees : RingStep

module _ (F : Filters) where
  abbrev pub ring_kind : ℕ → RingStep → StepKind
  ring_kind n ring_begins = ring_begin
  ring_kind n (ring_loads a) = ring_load a
  ring_kind n ring_looks = ring_look
  ring_kind n (ring_words ring e i) = ring_word ring e i
  ring_kind n (ring_agains ring) = ring_again ring
  ring_kind n ring_moves = ring_move
  ring_kind n ring_locks = ring_lock n
  ring_kind n ring_ticks = ring_tick
  ring_kind n (ring_slots ring e i ws) = ring_slot F ring e i ws
  ring_kind n (ring_enters t) = ring_enter n t
  ring_kind n (ring_writes a x) = ring_write a x
  ring_kind n (ring_dones t) = ring_done t
  ring_kind n ring_frees = ring_free

  module _ (good : (ℕ → ℕ) → Type 0) (c : Config) where
    abbrev pub RingMayAs : RingStep → View → Type 0
    RingMayAs ring_begins v = CanRingBegin v
    RingMayAs (ring_loads a) v = CanRingLoad c.words a v
    RingMayAs ring_looks v = CanRingLook v
    RingMayAs (ring_words ring e i) v = (ring ≡ c.ring) × CanRingWord c.ring e i v
    RingMayAs (ring_agains ring) v = (ring ≡ c.ring) × CanRingAgain v
    RingMayAs ring_moves v = CanRingMove F v
    RingMayAs ring_locks v = CanRingLock v
    RingMayAs ring_ticks v = HasTurn v
    RingMayAs (ring_slots ring e i ws) v = (ring ≡ c.ring) × CanRingSlot e i ws v
    RingMayAs (ring_enters t) v = CanRingEnter good c.words t v
    RingMayAs (ring_writes a x) v = CanRingWrite a x v
    RingMayAs (ring_dones t) v = CanRingDone t v
    RingMayAs ring_frees v = CanRingFree v

    -- a caller of this memory may take the step where its view allows it
    abbrev pub RingMay : ℕ → RingStep → View → Type 0
    RingMay n s v = (n < c.callers) × RingMayAs s v

    -- whatever steps of RingSW any callers take, each allowed where it comes, the rule holds after each
    abbrev pub RingKeepsAlong : Type 0
    RingKeepsAlong = KeepsAlong ring_kind RingMay (RingWorld F good c)
