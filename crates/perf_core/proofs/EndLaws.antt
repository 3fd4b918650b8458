-- What a report ends by.
use Rattle.std.proofs.Common.{ℕ, ◌≡◌, Bool, true, false, List}
use Rattle.std.specs.Prelude.{None}
use Rattle.perf_core.specs.Endings.{EndsBy, RanTo, ending_of}
use Rattle.perf_core.specs.Helping.{help_of}

pub ran-ends : (words : List (List ℕ)) (right : Bool) → help_of words ≡ None → RanTo (ending_of right) → EndsBy words (ending_of right)
ran-ends words true none ran = (none, ran)
ran-ends words false none ran = (none, ran)
