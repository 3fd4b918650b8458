-- Where the statuses, the records and the ring slots begin.
use Rattle.std.specs.Prelude.{◌≡◌}
use Rattle.stm_model.specs.declared.config.Config.{Config}
use Rattle.rule_base.specs.declared.layout.At.TheVariants.{Status, Record, Slot}
use Rattle.rule_base.specs.Places.{offset}
use Rattle.stm_rule.specs.declared.stm.TableOffsets.{TableOffsets}

-- each is where the first of its words lies
abbrev pub IsTableOffsets : Config → TableOffsets → Type 0
IsTableOffsets c s = (s.statuses ≡ offset c (Status 0)) × (s.records ≡ offset c (Record 0)) × (s.slots ≡ offset c (Slot 0))
