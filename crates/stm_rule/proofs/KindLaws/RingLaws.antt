-- Each kind of step of RingSW keeps the one rule.
use Rattle.std.proofs.Common.{ℕ, ◌<◌, List, inl, inr, refl, ◌≡◌, Bool, true, false}
use Rattle.stm_model.specs.declared.alg.Alg.TheVariants.{RingSw}
use Rattle.rule_base.specs.declared.entries.Cell.{Cell}
use Rattle.stm_model.specs.declared.config.Config.{Config}
use Rattle.rule_base.specs.StepKinds.{Nothing, StepLaw}
use Rattle.rule_ring.proofs.RingCommitLaws as commit
use Rattle.rule_ring.specs.RingReadLaws as read
use Rattle.rule_ring.specs.RingSteps.{ring_begin, CanRingBegin, RingBegins, ring_load, CanRingLoad, ring_look, CanRingLook, RingLooks, ring_word, CanRingWord, ring_again, CanRingAgain, ring_move, CanRingMove, RingMoves, ring_lock, CanRingLock, ring_tick, HasTurn, ring_slot, CanRingSlot, ring_enter, CanRingEnter, RingEnters, ring_write, CanRingWrite, ring_done, CanRingDone, ring_free, CanRingFree, read_in}
use Rattle.rule_ring.specs.SlotFilter.{slot_filter}
use Rattle.stm_rule.specs.Findings.{FindsLock}
use Rattle.stm_rule.specs.Kinds.Frames.{by-running-of, by-done}
use Rattle.stm_rule.specs.Kinds.Laws.{taker}
use Rattle.stm_rule.specs.Product.{Core}
use Rattle.std.specs.Prelude.{◌==◌, if◌then◌else◌}
use Rattle.rule_base.specs.declared.views.View.{View}

module _ (good : (ℕ → ℕ) → Type 0) (c : Config) (n : ℕ) where
  pub ring_begins : StepLaw (Core good c) ring_begin (RingBegins good c) n CanRingBegin
  ring_begins =
      by-running-of good c ring_begin (RingBegins good c) n CanRingBegin RingSw
      (record { gate = λ w. refl; status = λ w. refl; view = λ w. refl; marks = λ w. (refl, refl); step_trace = λ w. refl })
      (λ w g m. inr refl) (λ v m. (m.runs.phase, m.runs.algorithm, m.runs.plain)) (λ e w k. k) (read.ring_begins slot_filter good c n)

  pub ring_loads : (a : ℕ) → StepLaw (Core good c) (ring_load a) Nothing n (CanRingLoad c.words a)
  ring_loads a =
      by-running-of good c (ring_load a) Nothing n (CanRingLoad c.words a) RingSw
      (record { gate = λ w. refl; status = λ w. refl; view = λ w. refl; marks = λ w. (refl, refl); step_trace = λ w. refl })
      (λ w g m. inr refl) (λ v m. (m.has.runs.phase, m.has.runs.algorithm, m.has.runs.plain)) (λ e w k. k)
      (read.ring_loads slot_filter good c n a)

  -- a word that is read or not leaves the mark
  looked : (b : Bool) (v : View) → (if b then record v.attempt { reads = read_in v } else v.attempt).entered ≡ true → v.attempt.entered ≡ true
  looked true v k = k
  looked false v k = k

  pub ring_looks : StepLaw (Core good c) ring_look (RingLooks good c) n CanRingLook
  ring_looks =
      by-running-of good c ring_look (RingLooks good c) n CanRingLook RingSw
      (record { gate = λ w. refl; status = λ w. refl; view = λ w. refl; marks = λ w. (refl, refl); step_trace = λ w. refl })
      (λ w g m. inr refl) (λ v m. (m.has.runs.phase, m.has.runs.algorithm, m.has.runs.plain))
      (λ e w k. looked (w.clock == (w.views n).attempt.start) (w.views n) k) (read.ring_looks slot_filter good c n)

  pub ring_words : (e i : ℕ) → StepLaw (Core good c) (ring_word c.ring e i) Nothing n (CanRingWord c.ring e i)
  ring_words e i =
      by-running-of good c (ring_word c.ring e i) Nothing n (CanRingWord c.ring e i) RingSw
      (record { gate = λ w. refl; status = λ w. refl; view = λ w. refl; marks = λ w. (refl, refl); step_trace = λ w. refl })
      (λ w g m. inr refl) (λ v m. (m.has.runs.phase, m.has.runs.algorithm, m.has.runs.plain)) (λ e w k. k)
      (read.ring_words slot_filter good c n e i)

  pub ring_agains : StepLaw (Core good c) (ring_again c.ring) Nothing n CanRingAgain
  ring_agains =
      by-running-of good c (ring_again c.ring) Nothing n CanRingAgain RingSw
      (record { gate = λ w. refl; status = λ w. refl; view = λ w. refl; marks = λ w. (refl, refl); step_trace = λ w. refl })
      (λ w g m. inr refl) (λ v m. (m.has.runs.phase, m.has.runs.algorithm, m.has.runs.plain)) (λ e w k. k)
      (read.ring_agains slot_filter good c n)

  pub ring_moves : StepLaw (Core good c) ring_move (RingMoves good c) n (CanRingMove slot_filter)
  ring_moves =
      by-running-of good c ring_move (RingMoves good c) n (CanRingMove slot_filter) RingSw
      (record { gate = λ w. refl; status = λ w. refl; view = λ w. refl; marks = λ w. (refl, refl); step_trace = λ w. refl })
      (λ w g m. inr refl) (λ v m. (m.has.runs.phase, m.has.runs.algorithm, m.has.runs.plain)) (λ e w k. k)
      (read.ring_moves slot_filter good c n)

  locks_alone : StepLaw (Core good c) (ring_lock n) Nothing n CanRingLock
  locks_alone =
      by-running-of good c (ring_lock n) Nothing n CanRingLock RingSw
      (record { gate = λ w. refl; status = λ w. refl; view = λ w. refl; marks = λ w. (refl, refl); step_trace = λ w. refl })
      (λ w g m. inr refl) (λ v m. (m.has.runs.phase, m.has.runs.algorithm, m.has.runs.plain)) (λ e w k. k)
      (commit.ring_locks slot_filter good c n)

  -- another word than 0 is another caller's
  pub ring_locks : StepLaw (Core good c) (ring_lock n) (FindsLock c n) n CanRingLock
  ring_locks w g may = let o = locks_alone w g may in record { rule = o.rule; advances = o.advances; shown = λ other. taker good c n w g w.lock refl other may.free }

  pub ring_ticks : StepLaw (Core good c) ring_tick Nothing n HasTurn
  ring_ticks =
      by-running-of good c ring_tick Nothing n HasTurn RingSw
      (record { gate = λ w. refl; status = λ w. refl; view = λ w. refl; marks = λ w. (refl, refl); step_trace = λ w. refl })
      (λ w g m. inr refl) (λ v m. (m.has.runs.phase, m.has.runs.algorithm, m.has.runs.plain)) (λ e w k. k)
      (commit.ring_ticks slot_filter good c n)

  pub ring_slots : (e i : ℕ) (ws : List Cell) → StepLaw (Core good c) (ring_slot slot_filter c.ring e i ws) Nothing n (CanRingSlot e i ws)
  ring_slots e i ws =
      by-running-of good c (ring_slot slot_filter c.ring e i ws) Nothing n (CanRingSlot e i ws) RingSw
      (record { gate = λ w. refl; status = λ w. refl; view = λ w. refl; marks = λ w. (refl, refl); step_trace = λ w. refl })
      (λ w g m. inr refl) (λ v m. (m.turn.has.runs.phase, m.turn.has.runs.algorithm, m.turn.has.runs.plain)) (λ e w k. k)
      (commit.ring_slots slot_filter good c n e i ws)

  pub ring_enters : (t : ℕ) → n < c.callers → StepLaw (Core good c) (ring_enter n t) (RingEnters good c n t) n (CanRingEnter good c.words t)
  ring_enters t low =
      by-running-of good c (ring_enter n t) (RingEnters good c n t) n (CanRingEnter good c.words t) RingSw
      (record { gate = λ w. refl; status = λ w. refl; view = λ w. refl; marks = λ w. (refl, refl); step_trace = λ w. refl })
      (λ w g m. inl (inr m.free)) (λ v m. (m.turn.has.runs.phase, m.turn.has.runs.algorithm, m.turn.has.runs.plain)) (λ e w k. k)
      (commit.ring_enters slot_filter good c n t low)

  pub ring_writes : (a x : ℕ) → StepLaw (Core good c) (ring_write a x) Nothing n (CanRingWrite a x)
  ring_writes a x =
      by-running-of good c (ring_write a x) Nothing n (CanRingWrite a x) RingSw
      (record { gate = λ w. refl; status = λ w. refl; view = λ w. refl; marks = λ w. (refl, refl); step_trace = λ w. refl })
      (λ w g m. inr refl) (λ v m. (m.entered.runs.phase, m.entered.runs.algorithm, m.entered.runs.plain)) (λ e w k. k)
      (commit.ring_writes slot_filter good c n a x)

  pub ring_dones : (t : ℕ) → StepLaw (Core good c) (ring_done t) Nothing n (CanRingDone t)
  ring_dones t =
      by-done good c (ring_done t) Nothing n (CanRingDone t) RingSw (λ w. (refl, refl, refl, refl, refl, refl)) refl
      (λ v m. (m.entered.runs.phase, m.entered.runs.algorithm, m.entered.runs.plain, m.free)) (λ s r. r.done)
      (commit.ring_dones slot_filter good c n t)

  pub ring_frees : StepLaw (Core good c) ring_free Nothing n CanRingFree
  ring_frees =
      by-running-of good c ring_free Nothing n CanRingFree RingSw
      (record { gate = λ w. refl; status = λ w. refl; view = λ w. refl; marks = λ w. (refl, refl); step_trace = λ w. refl })
      (λ w g m. inr refl) (λ v m. (m.runs.phase, m.runs.algorithm, m.runs.plain)) (λ e w k. k) (commit.ring_frees slot_filter good c n)
