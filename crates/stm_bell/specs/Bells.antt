-- What a ring and a wait are for.
use Rattle.stm_bell.specs.declared.bell.Announced.{Announced}
use Rattle.stm_bell.specs.declared.bell.Ring.{Ring}
use Rattle.stm_bell.specs.declared.stripes.Stripes.{Stripes}

abbrev pub rung_for : Ring → Stripes
rung_for r = r.stripes.value

abbrev pub waits_for : Announced → Stripes
waits_for a = a.stripes
