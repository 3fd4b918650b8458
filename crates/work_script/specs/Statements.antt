-- What the law functions say.
use Rattle.std.specs.Prelude.{ℕ, List}
use Rattle.data_regions.specs.declared.region.Region.{Region}
use Rattle.data_regions.specs.Regions.{AllWellFormed}
use Rattle.work_script.specs.declared.op.Op.{Op}
use Rattle.work_script.specs.Keeping.{KeepsGood}
use Rattle.work_script.specs.Operations.{OpFits, effect_of}

-- an operation that fits leaves each region well formed
abbrev pub OperationsKeepRegions : Type 0
OperationsKeepRegions = (regions : List Region) (words : ℕ) (op : Op) → OpFits regions words op → KeepsGood (AllWellFormed regions) words (λ m. (effect_of regions op m).memory)
