-- What transactions need of their memory, and what a scan does to it.
use Rattle.std.specs.Prelude.{ℕ, ◌<◌, ◌≤◌, ◌+◌, ◌%◌, ◌^◌, List, slice_index, slice_set}
use Rattle.stm_model.specs.Logs.{Log}
use Rattle.data_effects.specs.Effects.{Effect, DoesOver, changed}
use Rattle.data_effects.specs.FreshLaws.{nothing}
use Rattle.data_cells.specs.Chains.{ChainsFit}
use Rattle.data_cells.specs.Structures.{list_of, hash_of}
use Rattle.data_regions.specs.declared.region.Region.{Region}
use Rattle.data_regions.specs.declared.region.Region.TheVariants.{Counter as OfCounter, List as OfList, Hash as OfHash, Tree as OfTree, Queue as OfQueue, SumMap as OfSumMap}
use Rattle.data_regions.specs.Regions.{WellFormed}
use Rattle.perf_core.specs.declared.jobs.ScanRow.{ScanRow}
use Rattle.perf_core.specs.Rows.{total_of}

-- a memory of so many words has room for the region's structure
abbrev pub RegionFits : Region → ℕ → Type 0
RegionFits (OfCounter c) words = Unit {0}
RegionFits (OfList l) words = ChainsFit (list_of l) words
RegionFits (OfHash h) words = ChainsFit (hash_of h) words
RegionFits (OfTree t) words = Unit {0}
RegionFits (OfQueue q) words = Unit {0}
RegionFits (OfSumMap r) words = Unit {0}

-- the row is one of the memory, and the word one of the row
pub record IsInRow (job : ScanRow) (words : ℕ) : Type 0 where
  pub word : (job.row.start ≤ job.at) × (job.at < job.row.end)
  pub row : job.row.end ≤ words

-- WHAT A SCAN DOES: it answers the row's sum, and one word is one more then
abbrev pub scanned_in : ScanRow → List ℕ → Effect ℕ
scanned_in job m = changed (total_of m job.row % 2 ^ 64) (slice_set m job.at ((slice_index m job.at + 1) % 2 ^ 64))

-- of a memory that is scanned
abbrev pub IsScanned : Region → ScanRow → ℕ → ℕ → Log → Type 0
IsScanned (OfCounter c) job words sum log = DoesOver (WellFormed (OfCounter c)) words (scanned_in job) nothing sum log
IsScanned (OfList l) job words sum log = Unit {0}
IsScanned (OfHash h) job words sum log = Unit {0}
IsScanned (OfTree t) job words sum log = Unit {0}
IsScanned (OfQueue q) job words sum log = Unit {0}
IsScanned (OfSumMap r) job words sum log = Unit {0}
