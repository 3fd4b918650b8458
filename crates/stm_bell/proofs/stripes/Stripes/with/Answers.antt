use Rattle.stm_bell.proofs.BitLaws.{or-left, or-right}
use Rattle.stm_bell.proofs.stripes.Stripes.with.Goals as goal

pub returns-clause-first : goal.returns-clause-first
returns-clause-first c = λ a h. or-left _ _ _ h

pub returns-clause-second : goal.returns-clause-second
returns-clause-second c = λ a h. or-right _ _ _ h
