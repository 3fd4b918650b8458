use Rattle.std.proofs.Common.{◌%◌, arith, w32}
use Rattle.std.proofs.lemmas.Nat.Bits.{bit_at_set_same}
use Rattle.stm_bell.proofs.BitLaws.{or-left}
use Rattle.stm_bell.proofs.stripes.Stripes.add.Goals as goal

pub returns-clause-there : goal.returns-clause-there
returns-clause-there c = bit_at_set_same w32 c.args.self.now.bits (c.args.a % 32) (omega arith)

pub returns-clause-stays : goal.returns-clause-stays
returns-clause-stays c = λ b h. or-left _ _ _ h
