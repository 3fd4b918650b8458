use Rattle.std.proofs.Common.{◌%◌, arith}
use Rattle.std.proofs.lemmas.Bool.{eqb-true}
use Rattle.stm_bell.proofs.BitLaws.{none-missing}
use Rattle.stm_bell.proofs.stripes.Stripes.covers.Goals as goal

pub returns : goal.returns
returns c = λ e a h. none-missing c.args.other.bits c.args.self.bits (a % 32) (omega arith) (omega arith) (eqb-true _ _ e) h
