-- What turns of many workers do, and what they say.
use Rattle.std.specs.Prelude.{ℕ, ◌≡◌, ◌≤◌, ◌+◌, ◌*◌, ◌^◌, ◌⊎◌, Bool, List, [], ◌∷◌, ◌++◌, length, map, replicate, All, slice_index_or, slice_set, sum_by, Some, None, Result, Ok, Err, IsPermutation}
use Rattle.stm_rule.specs.declared.stm.Stm.{Stm}
use Rattle.stm_model.specs.declared.config.Config.{Config}
use Rattle.work_script.specs.declared.report.Row.{Row}
use Rattle.work_script.specs.declared.workload.Go.{Go}
use Rattle.work_script.specs.declared.workload.Header.{Header}
use Rattle.stm_answers.specs.CallerState.{owed}
use Rattle.stm_tx.specs.Descs.{known}
use Rattle.work_trace.specs.declared.line.Line.{Line}
use Rattle.work_trace.specs.declared.line.Line.TheVariants.{Of}
use Rattle.work_trace.specs.declared.said.Phase.TheVariants.{Between}
use Rattle.work_trace.specs.declared.said.Said.{Said}
use Rattle.work_trace.specs.Places.{CallerProgress, clock_of}
use Rattle.work_trace.specs.Turns.{MaySay, IsOver}
use Rattle.work_trace.specs.Fits.{IsWhole, IsCut, all_told}
use Rattle.work_trace.specs.Fits as fits
use Rattle.work_trace.specs.Played.{Played, Halted}
use Rattle.work_trace.specs.RoundLaws.{WentRound, HaltedRound}
use Rattle.work_driver.specs.declared.schedule.Halt.{Halt}
use Rattle.work_driver.specs.declared.schedule.Halt.TheVariants.{ClockFull, Memory}
use Rattle.work_worker.specs.declared.worker.Worker.{Worker}
use Rattle.work_trace.specs.Turns.{HasSizes}
use Rattle.work_worker.specs.Workers.{place_of, IsSame, Loaded, Sound, Turned}

module _ {K : Type 0} where
  abbrev pub places : List (Worker K) → List CallerProgress
  places ws = map place_of ws

  -- where caller n stands
  abbrev pub place_at : List (Worker K) → ℕ → CallerProgress
  place_at ws n = fits.place_of (map place_of ws) n

  -- each is the same caller, and passed over no switch
  abbrev pub AreSame : Bool → List (Worker K) → List (Worker K) → Type 0
  AreSame cut [] [] = Unit {0}
  AreSame cut (v ∷ vs) (w ∷ ws) = IsSame cut v w × AreSame cut vs ws
  AreSame cut (v ∷ vs) [] = ⊥
  AreSame cut [] (w ∷ ws) = ⊥

  -- by how much the callers' steps raised the clock, with what open attempts may still raise it
  abbrev pub debts : List (Worker K) → ℕ
  debts ws = sum_by (λ (w : Worker K). owed (known w.desc)) ws

  -- each line that was added covers two rises of the clock
  abbrev pub AreCovered : List (Worker K) → List (Worker K) → List Line → List Line → Type 0
  AreCovered ws vs old new = debts vs + 2 * length old ≤ debts ws + 2 * length new

  -- a caller with nothing open loaded this full clock
  abbrev pub FoundFull : List (Worker K) → ℕ → Type 0
  FoundFull [] clock = ⊥
  FoundFull (w ∷ ws) clock = ((w.phase ≡ Between) × (2 ^ 62 ≤ clock) × Loaded (known w.desc) clock) ⊎ FoundFull ws clock

  module _ (config : Config) (may : CallerProgress → Said → Type 0) where
    -- turns of these callers in this order, or up to a full clock
    abbrev pub Plays : List (Worker K) → List (Worker K) → List Line → List Line → List ℕ → Result (Unit {0}) Halt → Type 0
    Plays ws vs old new order (Ok x) = ((h : Header) → HasSizes config h → Played h may (places ws) (places vs) old new order) × AreCovered ws vs old new
    Plays ws vs old new order (Err (ClockFull clock)) = ((h : Header) → HasSizes config h → Halted h may (places ws) (places vs) old new order clock) × AreCovered ws vs old new × FoundFull vs clock
    Plays ws vs old new order (Err Memory) = Unit {0}

    module _ (holds : CallerProgress → Type 0) where
      -- some turns of caller n, and then it stands so; or up to a full clock
      abbrev pub Goes : List (Worker K) → List (Worker K) → List Line → List Line → ℕ → Result (Unit {0}) Halt → Type 0
      Goes ws vs old new n (Ok x) = (turns : ℕ) × Plays ws vs old new (replicate turns n) (Ok x) × holds (place_at vs n)
      Goes ws vs old new n (Err halt) = (turns : ℕ) × Plays ws vs old new (replicate turns n) (Err halt)

      -- the turns of all callers below n, one caller after the other
      pub record Rounded (n : ℕ) (ws vs : List (Worker K)) (old new : List Line) : Type 0 where
        pub round : (h : Header) → HasSizes config h → WentRound h may holds n (places ws) (places vs) old new
        pub covered : AreCovered ws vs old new

      abbrev pub Rounds : List (Worker K) → List (Worker K) → List Line → List Line → Result (Unit {0}) Halt → Type 0
      Rounds ws vs old new (Ok x) = Rounded (length ws) ws vs old new
      Rounds ws vs old new (Err (ClockFull clock)) = ((h : Header) → HasSizes config h → HaltedRound h may holds (places ws) (places vs) old new clock) × AreCovered ws vs old new × FoundFull vs clock
      Rounds ws vs old new (Err Memory) = Unit {0}

  module _ (good : List ℕ → Type 0) (stm : Stm K) where
    abbrev pub AreSound : List (Worker K) → Type 0
    AreSound ws = All (Sound good stm) ws

    -- caller n took a turn, and said this, which is the one line more
    pub record Took (may : CallerProgress → Said → Type 0) (ws vs : List (Worker K)) (old new : List Line) (n : ℕ) (said : Said) : Type 0 where
      pub was : Worker K
      pub now : Worker K
      pub turned : Turned good stm may (slice_index_or ws n was) said now
      pub is : vs ≡ slice_set ws n now
      pub lines : new ≡ old ++ Of n said ∷ []

    abbrev pub Turns : List (Worker K) → List (Worker K) → List Line → List Line → ℕ → Result (Unit {0}) Halt → Type 0
    Turns ws vs old new n (Ok x) = (said : Said) × Took MaySay ws vs old new n said × (clock_of said ≡ None)
    Turns ws vs old new n (Err (ClockFull clock)) = (said : Said) × Took MaySay ws vs old new n said × (clock_of said ≡ Some clock)
    Turns ws vs old new n (Err Memory) = Unit {0}

  module _ (config : Config) (schedule : List Go) where
    -- the trace of all phases, which is whole, or ends by a full clock
    abbrev pub Drives : List (Worker K) → List (Worker K) → List Line → Result (Unit {0}) Halt → Type 0
    Drives ws vs lines (Ok x) =
        ((h : Header) → HasSizes config h → (rows : List Row) → IsPermutation (all_told (places vs)) rows → IsWhole h (places ws) schedule lines rows)
        × All IsOver (places vs)
    Drives ws vs lines (Err (ClockFull clock)) =
        ((h : Header) → HasSizes config h → IsCut h (places ws) schedule lines clock) × (debts vs ≤ debts ws + 2 * length lines) × FoundFull vs clock
    Drives ws vs lines (Err Memory) = Unit {0}
