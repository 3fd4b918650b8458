use Rattle.std.proofs.Common.{List, subst, sym}
use Rattle.stm_model.specs.declared.rule.AnyMem.{AnyMem}
use Rattle.stm_rule.specs.declared.stm.Stm.{Stm}
use Rattle.stm_rule.proofs.CallerLemmas.{opened-idle}
use Rattle.stm_rule.specs.Callers.{Handle, IdleAt}
use Rattle.test_model.proofs.stm_rule_tests.open_and_close.Goals as goal

pub close-requires-clause-descs : goal.close-requires-clause-descs
close-requires-clause-descs c =
    let s = c.in_ok-stm in
    opened-idle s.stm.table.shared.table_id s.stm.config s.stm.rule 0 s.descs.items s.ensures.descs.0

pub close-requires-in-Err-clause-descs : goal.close-requires-in-Err-clause-descs
close-requires-in-Err-clause-descs c =
    let s = c.in_ok-stm in
    let r = c.in-Err.ensures.refused in
    let idle = opened-idle s.stm.table.shared.table_id s.stm.config s.stm.rule 0 s.descs.items s.ensures.descs.0 in
    subst (λ (m : Stm AnyMem). IdleAt m.table.shared.table_id m.config m.rule 0 c.in-Err.descs.items) (sym r.0)
    (subst (λ (ds : List (Handle AnyMem)). IdleAt s.stm.table.shared.table_id s.stm.config s.stm.rule 0 ds) (sym r.1) idle)
