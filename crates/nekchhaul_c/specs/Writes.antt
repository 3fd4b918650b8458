-- What many writes in one call tell.
use Rattle.std.proofs.Common.{ℕ, ◌≡◌, ◌≢◌, ◌<◌, ◌≤◌, List, [], ◌∷◌, length, take}
use Rattle.std.specs.Prelude.{get_or, Result, Ok}
use Rattle.nekchhaul_c.specs.Codes.{write_code}
use Rattle.stm_answers.specs.declared.answers.Write.{Write}
use Rattle.stm_answers.specs.declared.answers.Write.TheVariants.{Done}
use Rattle.tx_loops.specs.declared.looping_caller.LoopingCaller.{LoopingCaller}
use Rattle.tx_checked.specs.declared.misuse.Misuse.{Misuse}
use Rattle.tx_checked.specs.CheckedCallers.{IsSameCheckedCaller}
use Rattle.tx_loops.specs.Accesses.{WriteSays}

-- what tx_loops' write of x to a tells
abbrev pub WriteTells : ℕ → ℕ → Result Write Misuse → LoopingCaller → LoopingCaller → Type 0
WriteTells a x r m n = WriteSays a x m n r

-- each value was written to its address, one after the other
abbrev pub WritesInTurn : List ℕ → List ℕ → LoopingCaller → LoopingCaller → Type 0
WritesInTurn [] [] m n = n ≡ m
WritesInTurn [] (x ∷ xs) m n = ⊥
WritesInTurn (a ∷ at) [] m n = ⊥
WritesInTurn (a ∷ at) (x ∷ xs) m n = (k : LoopingCaller) × WriteTells a x (Ok Done) m k × WritesInTurn at xs k n

-- the first `taken` values were written, and the write of the next was refused by this status; none came after it
pub record StopsWriting (at xs : List ℕ) (taken status : ℕ) (m n : LoopingCaller) : Type 0 where
  pub low : taken < length at
  pub before : LoopingCaller
  pub wrote : WritesInTurn (take taken at) (take taken xs) m before
  pub answer : Result Write Misuse
  pub number : status ≡ write_code answer
  pub tells : WriteTells (get_or at taken 0) (get_or xs taken 0) answer before n

-- the same caller of the same memory; with too few values nothing was written, and with 0 all were
pub record WriteManySays (at xs : List ℕ) (taken status : ℕ) (m n : LoopingCaller) : Type 0 where
  pub same : IsSameCheckedCaller m.caller n.caller
  pub few : length xs < length at → (status ≡ 32) × (taken ≡ 0) × (n ≡ m)
  pub wrote : status ≡ 0 → (taken ≡ length at) × WritesInTurn at (take (length at) xs) m n
  pub stops : length at ≤ length xs → status ≢ 0 → StopsWriting at xs taken status m n
