use Rattle.std.proofs.Common.{◌≡◌, drop}
use Rattle.work_text.specs.Grammar.{is_plain}
use Rattle.work_text.proofs.table.is_plain.Given as goal

abbrev pub invariant-loop-region : goal.invariant-loop-region
invariant-loop-region l = is_plain l.regions l.a ≡ is_plain (drop l.region-index l.regions) l.a
