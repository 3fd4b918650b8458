use Rattle.stm_bell.proofs.BitLaws.{halves}
use Rattle.stm_bell.proofs.stripes.Stripes.of_bits.Goals as goal

pub returns : goal.returns
returns c = λ a l h. halves c.args.bits a l h
