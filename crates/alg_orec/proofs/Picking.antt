-- What a step is about, by the word that it is called with.
use Rattle.std.specs.Prelude.{ℕ}
use Rattle.rule_base.specs.declared.layout.At.{At}
use Rattle.rule_base.specs.declared.layout.At.TheVariants.{Record}

abbrev pub record_of : At → ℕ
record_of (Record r) = r
record_of place = 0
