use Rattle.std.proofs.Common.{ℕ, ◌≡◌, List, [], length, sym, subst, arith}
use Rattle.stm_model.specs.Logs.{Log}
use Rattle.stm_model.specs.Plains.{openings, plain_log}
use Rattle.data_effects.specs.Effects.{Under}
use Rattle.data_regions.specs.declared.region.Region.{Region}
use Rattle.data_regions.specs.Regions.{AllWellFormed}
use Rattle.test_scripts.proofs.work_script_tests.outputs.Goals as goal

-- where there is no region, nothing is to be well formed
none-well : (good : List ℕ → Type 0) (words : ℕ) (l : Log) (regions : List Region) → regions ≡ [] → Under good words l (AllWellFormed regions)
none-well good words l regions none = subst (λ rs. Under good words l (AllWellFormed rs)) (sym none) (λ m fine len ex i d lt. absurd (omega arith))

pub interpret-requires-clause-well : goal.interpret-requires-clause-well
interpret-requires-clause-well c = none-well (λ m. m ≡ openings c.new-plain.result) (length c.new-plain.result) (plain_log c.new-plain.result) c.none.result c.none.ensures
