-- Scripts that fit keep the rule that the header's regions are well formed.
use Rattle.std.proofs.Common.{get_or}
use Rattle.data_regions.specs.Regions.{AllWellFormed}
use Rattle.work_script.specs.declared.workload.Header.{Header}
use Rattle.work_script.specs.declared.workload.Item.{Item}
use Rattle.work_script.specs.declared.workload.Item.TheVariants.{Tx, Switch, Reserve}
use Rattle.work_script.specs.Reports.{regions_of}
use Rattle.work_script.specs.Statements.{OperationsKeepRegions}
use Rattle.work_script.specs.Workloads.{ItemFits}
use Rattle.work_text.specs.Parsed.{ParsedWorkloadsFit}
use Rattle.work_driver.specs.Preparings.{ItemKeeps, RuleIsKept}

module _ (keeps : OperationsKeepRegions) where
  item-keeps : (h : Header) (item : Item) → ItemFits (regions_of h) h item → ItemKeeps (AllWellFormed (regions_of h)) h item
  item-keeps h (Tx caller script) fits = λ i d lt. record { well = λ m good. good; keeps = keeps (regions_of h) h.words (get_or script i d) (fits.1 i d lt) }
  item-keeps h (Switch caller alg) fits = tt
  item-keeps h (Reserve caller reads writes) fits = tt

  pub workload-keeps : ParsedWorkloadsFit → RuleIsKept
  workload-keeps fit m w b = λ i d lt. item-keeps w.header (get_or w.items i d) (fit m w b i d lt)
