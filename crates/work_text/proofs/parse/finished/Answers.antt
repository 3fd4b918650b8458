use Rattle.std.proofs.Common.{◌<◌, ℕ, false, length, ◌≡◌, arith}
use Rattle.std.specs.Prelude.{◌==◌}
use Rattle.std.proofs.lemmas.Bool.Decides.{nat_tests}
use Rattle.work_text.proofs.ParseLaws.{ended-some}
use Rattle.work_text.proofs.parse.finished.Goals as goal

some-of : (n : ℕ) → false ≡ (n == 0) → 0 < n
some-of n h = grind (arith, nat_tests)

pub returns-else-is_empty : goal.returns-else-is_empty
returns-else-is_empty c =
    ended-some c.args.draft c.args.line c.args.rest.now (some-of (length c.args.rest.now) c.if-is_empty.ensures)
