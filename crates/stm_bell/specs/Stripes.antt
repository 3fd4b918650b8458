-- Of which words a set of stripes is.
use Rattle.std.specs.Prelude.{ℕ, ◌≡◌, ◌%◌}
use Rattle.std.specs.Int.{bit_at}
use Rattle.stm_bell.specs.declared.stripes.Stripes.{Stripes}

-- the word at this address is of one of the stripes
abbrev pub Has : ℕ → Stripes → Type 0
Has a s = bit_at s.bits (a % 32) ≡ 1

-- of each word that the other has
abbrev pub Covers : Stripes → Stripes → Type 0
Covers s other = (a : ℕ) → Has a other → Has a s
