-- An attempt in the middle of its script.
use Rattle.std.specs.Prelude.{ℕ, ◌≡◌, Bool, true, false, List, [], ◌++◌, length}
use Rattle.stm_model.specs.Algorithms.{irrevocable_under}
use Rattle.stm_model.specs.declared.alg.Alg.{Alg}
use Rattle.stm_model.specs.Memories.{Explains}
use Rattle.stm_model.specs.Logs.{Log, IsExplained}
use Rattle.data_effects.specs.Effects.{Under}
use Rattle.work_script.specs.declared.op.Op.{Op}
use Rattle.data_regions.specs.declared.region.Region.{Region}
use Rattle.work_script.specs.Keeping.{ScriptKeeps}
use Rattle.work_script.specs.Operations.{ScriptFits}
use Rattle.work_script.specs.Outputs.{Output, HasRoom}
use Rattle.work_script.specs.Scripts.{before_cancel, has_cancel, has_irrev}
use Rattle.work_script.specs.ScriptLaws.{GivesOn}
use Rattle.stm_answers.specs.CallerState.{CallerState, is_irrevocable}
use Rattle.stm_answers.specs.CallerState as knows

-- an attempt that has done nothing yet, and the replies of one
abbrev pub no_log : Log
no_log = record { reads = []; writes = [] }

abbrev pub no_replies : Output
no_replies = record { replies = []; emits = []; room = 0 }

-- the rest of the script fits and has room, and what the attempt did so far is what the first operations of its script
-- do, on every good memory that explains its log
pub record Going (good : List ℕ → Type 0) (words : ℕ) (regions : List Region) (script rest : List Op) (v : CallerState) (alg : Alg) (granted : Bool) (out : Output) (wrote : Bool) : Type 0 where
  pub fits : ScriptFits regions words rest
  pub rule : ScriptKeeps good words regions rest
  pub room : HasRoom out (length rest)
  pub explained : IsExplained good words v.log
  pub keeps : Under good words v.log good
  pub named : v.alg ≡ alg
  pub writer : wrote ≡ knows.wrote v
  -- what was said tells whether it can be cancelled
  pub irrevocable : irrevocable_under alg granted wrote ≡ is_irrevocable v
  -- those that are done: whatever comes after them, where that gives something, they and it give it
  pub first : List Op
  pub is : script ≡ first ++ rest
  pub on : (more : List Op) (m : List ℕ) → good m → length m ≡ words → Explains m v.log.reads → GivesOn regions (first ++ more) more m no_log no_replies v.log out
  pub ends : has_cancel rest ≡ true → has_cancel script ≡ true
  -- and so up to the first cancel, while the attempt can be cancelled: then no irrev is after it
  pub cut : is_irrevocable v ≡ false → (m : List ℕ) → good m → length m ≡ words → Explains m v.log.reads → GivesOn regions (before_cancel script) (before_cancel rest) m no_log no_replies v.log out
  pub unasked : is_irrevocable v ≡ false → has_irrev (before_cancel script) ≡ has_irrev (before_cancel rest)
