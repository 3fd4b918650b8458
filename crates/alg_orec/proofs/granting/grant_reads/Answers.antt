use Rattle.alg_orec.proofs.granting.grant_reads.Goals as goal

pub last_to_validate-requires-clause-versions : goal.last_to_validate-requires-clause-versions
last_to_validate-requires-clause-versions g c = c.requires.attempt.validates.versions
