-- The calls that must be alone with the memory.
use Rattle.std.specs.Prelude.{Bool, true, false, ◌==◌, ◌&&◌}
use Rattle.stm_model.specs.Algorithms.{alg_number}
use Rattle.tx_checked.specs.declared.errand.Errand.{Errand}
use Rattle.tx_checked.specs.declared.errand.Errand.TheVariants.{Switch, Take, Give, End}
use Rattle.tx_checked.specs.declared.phase.CallerPhase.{CallerPhase}
use Rattle.tx_checked.specs.declared.phase.CallerPhase.TheVariants.{Idle, Running, Beside, Committing, Closing}

-- the same call, with the same arguments
abbrev pub same_errand : Errand → Errand → Bool
same_errand (Switch a) (Switch b) = alg_number a == alg_number b
same_errand (Switch a) (Take from count) = false
same_errand (Switch a) Give = false
same_errand (Switch a) End = false
same_errand (Take from count) (Switch b) = false
same_errand (Take from count) (Take low many) = (from == low) && (count == many)
same_errand (Take from count) Give = false
same_errand (Take from count) End = false
same_errand Give (Switch b) = false
same_errand Give (Take low many) = false
same_errand Give Give = true
same_errand Give End = false
same_errand End (Switch b) = false
same_errand End (Take low many) = false
same_errand End Give = false
same_errand End End = true

abbrev pub is_closing : CallerPhase → Bool
is_closing Idle = false
is_closing Running = false
is_closing Beside = false
is_closing Committing = false
is_closing Closing = true
