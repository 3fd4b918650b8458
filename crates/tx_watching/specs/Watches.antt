-- Of which words an attempt has read.
use Rattle.std.specs.Prelude.{ℕ, All}
use Rattle.stm_model.specs.Logs.{Log}
use Rattle.stm_bell.specs.Stripes.{Has}
use Rattle.stm_bell.specs.declared.stripes.Stripes.{Stripes}

-- each word that was read is of one of the stripes
abbrev pub CoverReads : Stripes → Log → Type 0
CoverReads stripes log = All (λ (r : ℕ × ℕ). Has r.0 stripes) log.reads
