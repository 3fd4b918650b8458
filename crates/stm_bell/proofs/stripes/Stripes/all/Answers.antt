use Rattle.std.proofs.Common.{◌%◌, arith}
use Rattle.std.proofs.lemmas.Nat.Bits.{bit_at_ones}
use Rattle.stm_bell.proofs.stripes.Stripes.all.Goals as goal

pub returns : goal.returns
returns c = λ a. bit_at_ones 32 (a % 32) (omega arith)
