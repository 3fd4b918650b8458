use Rattle.std.proofs.Common.{ℕ, ◌≡◌, ◌++◌, List, drop, map}
use Rattle.std.specs.Prelude.{string_bytes}
use Rattle.std.specs.Borrow.{Bor}
use Rattle.work_io.proofs.arguments.words_in.Given as goal

abbrev pub invariant-loop-argument : goal.invariant-loop-argument
invariant-loop-argument l = map (λ (x : Bor (List ℕ)). x.now) l.words.items ++ map string_bytes (drop l.argument-index l.arguments) ≡ map string_bytes l.arguments
