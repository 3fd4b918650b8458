-- What many reads in one call tell.
use Rattle.std.proofs.Common.{ℕ, ◌≡◌, ◌≢◌, ◌<◌, ◌≤◌, List, [], ◌∷◌, length, take}
use Rattle.std.specs.Prelude.{get_or, slice_index, Result, Ok}
use Rattle.nekchhaul_c.specs.Codes.{read_code}
use Rattle.stm_answers.specs.declared.answers.Read.{Read}
use Rattle.stm_answers.specs.declared.answers.Read.TheVariants.{Value}
use Rattle.tx_loops.specs.declared.looping_caller.LoopingCaller.{LoopingCaller}
use Rattle.tx_checked.specs.declared.misuse.Misuse.{Misuse}
use Rattle.tx_checked.specs.CheckedCallers.{IsSameCheckedCaller}
use Rattle.tx_loops.specs.Accesses.{ReadSays}

-- what tx_loops' read of a tells
abbrev pub ReadTells : ℕ → Result Read Misuse → LoopingCaller → LoopingCaller → Type 0
ReadTells a r m n = ReadSays a m n r

-- each word was read at its address, one after the other
abbrev pub ReadsInTurn : List ℕ → List ℕ → LoopingCaller → LoopingCaller → Type 0
ReadsInTurn [] [] m n = n ≡ m
ReadsInTurn [] (x ∷ xs) m n = ⊥
ReadsInTurn (a ∷ at) [] m n = ⊥
ReadsInTurn (a ∷ at) (x ∷ xs) m n = (k : LoopingCaller) × ReadTells a (Ok (Value x)) m k × ReadsInTurn at xs k n

-- the words at the first addresses were read, the places from there on are as they were,
-- and the read of the next was refused by this status
pub record StopsAt (at old xs : List ℕ) (status : ℕ) (m n : LoopingCaller) : Type 0 where
  pub count : ℕ
  pub low : count < length at
  pub before : LoopingCaller
  pub read : ReadsInTurn (take count at) (take count xs) m before
  pub beyond : (i : ℕ) → count ≤ i → slice_index xs i ≡ slice_index old i
  pub answer : Result Read Misuse
  pub number : status ≡ read_code answer
  pub tells : ReadTells (get_or at count 0) answer before n

-- the same caller of the same memory, and the places after those of the addresses as they were;
-- without room nothing was read, and with 0 all was
pub record ReadManySays (at old xs : List ℕ) (status : ℕ) (m n : LoopingCaller) : Type 0 where
  pub same : IsSameCheckedCaller m.caller n.caller
  pub long : length xs ≡ length old
  pub beyond : (i : ℕ) → length at ≤ i → slice_index xs i ≡ slice_index old i
  pub room : length old < length at → (status ≡ 32) × (n ≡ m) × (xs ≡ old)
  pub read : status ≡ 0 → ReadsInTurn at (take (length at) xs) m n
  pub stops : length at ≤ length old → status ≢ 0 → StopsAt at old xs status m n
