use Rattle.std.proofs.Common.{ℕ, ◌≡◌, ◌<◌, length, get_or}
use Rattle.std.specs.Prelude.{None}
use Rattle.nekchhaul_c.specs.declared.handle.Handle.{Handle}
use Rattle.nekchhaul_c.specs.Opens.{insides}
use Rattle.nekchhaul_c.proofs.opening.holds_one.Given as goal

abbrev pub invariant-loop-i : goal.invariant-loop-i
invariant-loop-i l = record {
  kept : insides l.callers ≡ insides l.fn.callers;
  count : length l.callers ≡ length l.fn.callers;
  none : (k : ℕ) (d : Handle) → k < l.i → (get_or l.fn.callers k d).inside ≡ None;
}
