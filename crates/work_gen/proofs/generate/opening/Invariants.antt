use Rattle.std.proofs.Common.{◌≡◌}
use Rattle.work_gen.specs.Generated.{deposits}
use Rattle.work_gen.proofs.generate.opening.Given as goal

abbrev pub invariant-loop-account : goal.invariant-loop-account
invariant-loop-account l = l.ops.items ≡ deposits l.account
