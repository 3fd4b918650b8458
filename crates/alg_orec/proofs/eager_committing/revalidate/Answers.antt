use Rattle.std.proofs.Common.{rules}
use Rattle.alg_orec.proofs.Eager.EagerCommitLaws as laws
use Rattle.alg_orec.proofs.eager_committing.revalidate.Goals as goal

pub validate-requires-clause-view : goal.validate-requires-clause-view
validate-requires-clause-view g c = laws.may-validate c.requires.attempt

pub returns-then-local-clause-revalidates : goal.returns-then-local-clause-revalidates
returns-then-local-clause-revalidates g c = laws.revalidates c.requires.attempt (search rules) c.validate.result _ _
    c.validate.ensures.validates

pub returns-clause-revalidates : goal.returns-clause-revalidates
returns-clause-revalidates g c = laws.revalidates-none c.requires.attempt (search rules)
