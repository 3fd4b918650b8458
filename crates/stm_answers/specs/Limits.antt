-- The limit of a ring's slot.
use Rattle.std.specs.Prelude.{◌≡◌}
use Rattle.rule_base.specs.declared.layout.TheConstants.{SLOT_WORDS}

pub record LimitsAre : Type 0 where
  pub slot_words : SLOT_WORDS ≡ 16
