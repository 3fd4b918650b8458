-- The sizes that a header asks for, and the items that it may have.
use Rattle.std.specs.Prelude.{◌<◌, false, List, All}
use Rattle.stm_model.specs.declared.config.Config.{Config}
use Rattle.data_regions.specs.declared.region.Region.{Region}
use Rattle.work_script.specs.declared.workload.Header.{Header}
use Rattle.work_script.specs.declared.workload.Item.{Item}
use Rattle.work_script.specs.declared.workload.Item.TheVariants.{Tx, Switch, Reserve}
use Rattle.work_script.specs.Operations.{ScriptFits}

-- the sizes and the opening clock of the memory that a header asks for
abbrev pub config_of : Header → Config
config_of h = record { words = h.words; records = h.records; ring = h.ring; callers = h.callers; reads = h.reads; writes = h.writes; clock = h.clock; fence = false; marks = 8 }

-- an item of a caller of the header; a script is one that its memory takes
abbrev pub ItemFits : List Region → Header → Item → Type 0
ItemFits regions header (Tx caller script) = (caller < header.callers) × ScriptFits regions header.words script
ItemFits regions header (Switch caller alg) = caller < header.callers
ItemFits regions header (Reserve caller reads writes) = caller < header.callers

abbrev pub ItemsFit : List Region → Header → List Item → Type 0
ItemsFit regions header items = All (ItemFits regions header) items
