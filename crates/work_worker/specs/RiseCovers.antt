-- By how much the items that are done can have raised the clock.
use Rattle.std.specs.Prelude.{ℕ, ◌≡◌, ◌≤◌, ◌+◌, ◌*◌, Bool, true, false, List, [], ◌∷◌, Option, Some, None, length, if◌then◌else◌}
use Rattle.stm_model.specs.declared.alg.Alg.{Alg}
use Rattle.work_profile.specs.declared.policy.Policy.TheVariants.{Fixed}
use Rattle.work_script.specs.declared.workload.Item.{Item}
use Rattle.work_script.specs.declared.workload.Item.TheVariants.{Tx, Switch, Reserve}
use Rattle.stm_answers.specs.CallerState.{CallerState, owed}
use Rattle.stm_tx.specs.Descs.{known}
use Rattle.work_trace.specs.declared.said.Phase.TheVariants.{Inside}
use Rattle.work_trace.specs.declared.said.Said.{Said}
use Rattle.work_trace.specs.declared.said.Said.TheVariants.{TryBegin, Stopped, TryIrrevocable, TryCommit, Dropped}
use Rattle.work_trace.specs.Places.{CallerProgress, clock_of}
use Rattle.work_trace.specs.Turns.{MaySay, MayWind, MayFinish}
use Rattle.stm_rule.specs.declared.stm.Stm.{Stm}
use Rattle.work_worker.specs.declared.worker.Worker.{Worker}
use Rattle.work_worker.specs.Workers.{Sound, Turned}

-- what its steps raised the clock by, an open attempt's own left out
abbrev pub raised : CallerState → ℕ
raised v = if v.running then v.base else v.rises

-- the attempts of the next transaction that failed raised it by at most one each,
-- until one has failed that must not again
abbrev pub failed_rises : ℕ → ℕ → Bool → ℕ
failed_rises most failed true = most
failed_rises most failed false = failed

-- the switch that the policy asks for after a transaction may raise it by one
abbrev pub due_of : Option Alg → ℕ
due_of None = 0
due_of (Some alg) = 1

-- so many rises cover an item that is done, of which at most `most` are those of attempts that failed
abbrev pub Covers : {K : Type 0} → ℕ → ℕ → Worker K → Type 0
Covers each most w = raised (known w.desc) + each * length w.items_left.now + due_of w.chosen ≤ each * length w.all.now + failed_rises most w.failed w.must

-- and so many more are covered by nothing
abbrev pub CoversBut : {K : Type 0} → ℕ → ℕ → ℕ → Worker K → Type 0
CoversBut uncovered each most w = raised (known w.desc) + each * length w.items_left.now + due_of w.chosen ≤ each * length w.all.now + failed_rises most w.failed w.must + uncovered

-- an attempt that found the clock full is not counted, and may have raised it by one: with that the run is over
abbrev pub CoversAfter : {K : Type 0} → ℕ → ℕ → Option ℕ → Worker K → Type 0
CoversAfter each most None w = Covers each most w
CoversAfter each most (Some clock) w = CoversBut 1 each most w

-- one rise of a transaction that comes next may be that of an attempt that was dropped after the schedule
abbrev pub dropped_of : List Item → ℕ
dropped_of [] = 0
dropped_of (Tx caller script ∷ items) = 1
dropped_of (Switch caller alg ∷ items) = 0
dropped_of (Reserve caller reads writes ∷ items) = 0

-- it covers all but that one, which the item covers once it is done
abbrev pub CoversOnceDone : {K : Type 0} → ℕ → ℕ → Worker K → Type 0
CoversOnceDone each most w = CoversBut (dropped_of w.items_left.now) each most w

abbrev pub CoversOnceDoneAfter : {K : Type 0} → ℕ → ℕ → Option ℕ → Worker K → Type 0
CoversOnceDoneAfter each most None w = CoversOnceDone each most w
CoversOnceDoneAfter each most (Some clock) w = CoversBut (dropped_of w.items_left.now + 1) each most w

-- and none was dropped of an item whose attempt is open: each is dropped once at most
abbrev pub CoversWinding : {K : Type 0} → ℕ → ℕ → Worker K → Type 0
CoversWinding each most w = CoversOnceDone each most w × (w.phase ≡ Inside → Covers each most w)

abbrev pub CoversWindingAfter : {K : Type 0} → ℕ → ℕ → Option ℕ → Worker K → Type 0
CoversWindingAfter each most None w = CoversWinding each most w
CoversWindingAfter each most (Some clock) w = CoversBut (dropped_of w.items_left.now + 1) each most w

-- so many are enough for one more attempt that fails
abbrev pub AllowsOneMore : {K : Type 0} → ℕ → Worker K → Type 0
AllowsOneMore most w = w.must ≡ false → w.failed + 1 ≤ most

-- the rises of a turn that nothing covers: those of an attempt that found the clock full,
-- or was dropped after the schedule
abbrev pub uncovered_at : Option ℕ → ℕ
uncovered_at None = 0
uncovered_at (Some clock) = 1

abbrev pub uncovered_by : Said → ℕ
uncovered_by (TryBegin b) = uncovered_at (clock_of (TryBegin b))
uncovered_by (Stopped op stop) = uncovered_at (clock_of (Stopped op stop))
uncovered_by (TryIrrevocable r) = uncovered_at (clock_of (TryIrrevocable r))
uncovered_by (TryCommit c) = uncovered_at (clock_of (TryCommit c))
uncovered_by Dropped = 1
uncovered_by said = 0

-- the same of what a caller knows at a place, with so many items in all
abbrev pub Covered : ℕ → ℕ → ℕ → ℕ → CallerState → CallerProgress → Type 0
Covered uncovered each most all v at = raised v + each * length at.left + due_of at.chosen ≤ each * all + failed_rises most at.failed at.must + uncovered

-- only attempts of the transaction that comes next are counted
abbrev pub IsCountedFor : List Item → ℕ → Bool → Type 0
IsCountedFor [] failed must = (failed ≡ 0) × (must ≡ false)
IsCountedFor (Tx caller script ∷ items) failed must = Unit {0}
IsCountedFor (Switch caller alg ∷ items) failed must = (failed ≡ 0) × (must ≡ false)
IsCountedFor (Reserve caller reads writes ∷ items) failed must = (failed ≡ 0) × (must ≡ false)

abbrev pub CountsNext : {K : Type 0} → Worker K → Type 0
CountsNext w = IsCountedFor w.items_left.now w.failed w.must

module _ (K : Type 0) (good : List ℕ → Type 0) where
  -- A TURN PAYS for what it raised the clock by
  abbrev pub TurnsCover : Type 0
  TurnsCover =
      (stm : Stm K) (u : Worker K) (said : Said) (w : Worker K) (each most : ℕ) → Sound good stm u → Turned good stm MaySay u said w
      → 17 ≤ most → most + 3 ≤ each → Covers each most u → CoversAfter each most (clock_of said) w

  -- with one caller no attempt is counted
  abbrev pub TurnsCoverAlone : Type 0
  TurnsCoverAlone =
      (stm : Stm K) (u : Worker K) (said : Said) (w : Worker K) (each most : ℕ) → Sound good stm u → Turned good stm MaySay u said w
      → stm.config.callers ≡ 1 → u.failed ≡ 0 → 1 ≤ most → most + 3 ≤ each → Covers each most u
      → CoversAfter each most (clock_of said) w × (w.failed ≡ 0)

  -- after the schedule an attempt may be dropped, which its item covers later
  abbrev pub TurnsCoverWinding : Type 0
  TurnsCoverWinding =
      (stm : Stm K) (u : Worker K) (said : Said) (w : Worker K) (each most : ℕ) → Sound good stm u → Turned good stm MayWind u said w
      → AllowsOneMore most u → most + 3 ≤ each → CoversWinding each most u → CoversWindingAfter each most (clock_of said) w

  -- and with no switch besides those of the text, for what was dropped too
  abbrev pub TurnsCoverFinishing : Type 0
  TurnsCoverFinishing =
      (stm : Stm K) (u : Worker K) (said : Said) (w : Worker K) (each most : ℕ) → Sound good stm u → Turned good stm MayFinish u said w
      → u.policy ≡ Fixed → AllowsOneMore most u → most + 3 ≤ each → CoversOnceDone each most u
      → CoversOnceDoneAfter each most (clock_of said) w

  -- THE ITEMS PAY FOR ALL that their caller raised, and may still raise by what it has open
  abbrev pub ItemsCover : Type 0
  ItemsCover =
      (stm : Stm K) (w : Worker K) (uncovered each most : ℕ) → Sound good stm w → CountsNext w → AllowsOneMore most w → most + 3 ≤ each
      → CoversBut (dropped_of w.items_left.now + uncovered) each most w → owed (known w.desc) ≤ each * length w.all.now + uncovered
