-- Marks, in the terms of what a caller knows.
use Rattle.std.specs.Prelude.{ℕ, ◌≡◌, ◌&&◌, ◌++◌, not, if◌then◌else◌, false, List}
use Rattle.stm_model.specs.declared.config.Config.{Config}
use Rattle.stm_answers.specs.declared.answers.Check.TheVariants.{Marked}
use Rattle.stm_answers.specs.declared.answers.Roll.TheVariants.{Rolled}
use Rattle.stm_answers.specs.Answers.{Checks, Rolls}
use Rattle.stm_answers.specs.CallerState.{CallerState, is_irrevocable}

-- marks end with the first commit call, and with the attempt
abbrev pub live_marks : CallerState → ℕ
live_marks v = if v.running && not v.committing then v.depth else 0

-- THE CHECKPOINT LAW: u was marked, the attempt went on from v to w and may have set further marks,
-- and was rolled back to that mark
abbrev pub RollsToMark : (List ℕ → Type 0) → Type 0
RollsToMark good =
    (c : Config) (n depth : ℕ) (u v w x : CallerState) → is_irrevocable u ≡ false → Checks (Marked depth) u v
    → (further : List (List (ℕ × ℕ))) → w.marks ≡ v.marks ++ further → Rolls good c n depth Rolled w x
    → (x.log.writes ≡ u.log.writes) × (x.log.reads ≡ w.log.reads) × (x.depth ≡ depth)
