-- Operations and scripts that keep a rule on memories.
use Rattle.std.specs.Prelude.{ℕ, ◌≡◌, List, length, All}
use Rattle.data_regions.specs.declared.region.Region.{Region}
use Rattle.data_regions.specs.Regions.{AllWellFormed}
use Rattle.work_script.specs.declared.op.Op.{Op}
use Rattle.work_script.specs.Operations.{effect_of}

-- from each good memory of so many words the change leads to a good one
abbrev pub KeepsGood : (List ℕ → Type 0) → ℕ → (List ℕ → List ℕ) → Type 0
KeepsGood good words change = (m : List ℕ) → good m → length m ≡ words → good (change m)

-- in a good memory each region is well formed, and the operation leads to a good one
pub record OpKeeps (good : List ℕ → Type 0) (words : ℕ) (regions : List Region) (op : Op) : Type 0 where
  pub well : (m : List ℕ) → good m → AllWellFormed regions m
  pub keeps : KeepsGood good words (λ m. (effect_of regions op m).memory)

abbrev pub ScriptKeeps : (List ℕ → Type 0) → ℕ → List Region → List Op → Type 0
ScriptKeeps good words regions ops = All (OpKeeps good words regions) ops
