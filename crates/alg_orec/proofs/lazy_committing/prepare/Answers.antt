use Rattle.std.proofs.Common.{[], ap, arith, rules}
use Rattle.std.proofs.lemmas.Result.{err_from_is_err_and}
use Rattle.stm_rule.specs.declared.local.Local.{Local}
use Rattle.alg_orec.proofs.Lazy.LazyCommitLaws as laws
use Rattle.alg_orec.proofs.lazy_committing.prepare.Goals as goal

pub validate-requires-clause-view : goal.validate-requires-clause-view
validate-requires-clause-view g c =
    let l = c.args.local.now in
    let v = c.args.seat.now.me.0.view in
    laws.may-validate _ _ _ c.requires.caller l v c.requires.attempt l v []
    (laws.holds-still _ _ _ c.requires.caller l v c.requires.attempt)

pub returns-then-local-clause-prepares : goal.returns-then-local-clause-prepares
returns-then-local-clause-prepares g c = laws.again-validate _ _ _ c.requires.caller _ _ c.requires.attempt
    c.validate.result _ _ (search rules) c.validate.ensures.validates

pub lock_all-requires-clause-view : goal.lock_all-requires-clause-view
lock_all-requires-clause-view g c = laws.may-lock_all _ _ _ c.requires.caller _ _ c.requires.attempt (search rules)
    c.args.stm.now.ranges.records.0

pub returns-in_err-newest-clause-prepares : goal.returns-in_err-newest-clause-prepares
returns-in_err-newest-clause-prepares g c =
    let p = err_from_is_err_and c.from_residual.result c.from_residual.ensures.1 in
    rw (p.1, p.2) (laws.stopped-locking _ _ _ c.requires.caller _ _ c.requires.attempt _ c.lock_all.new.local
    c.lock_all.new.seat.me.0.view c.in_err-newest.ensures.locks)

pub validate-requires-then-newest-local-clause-view : goal.validate-requires-then-newest-local-clause-view
validate-requires-then-newest-local-clause-view g c =
    let e = c.in_ok-newest.ensures.locks in
    laws.may-validate _ _ _ c.requires.caller _ _ c.requires.attempt _ _ e.more e.locks.holds

pub returns-then-newest-local-clause-prepares : goal.returns-then-newest-local-clause-prepares
returns-then-newest-local-clause-prepares g c =
    let e = c.in_ok-newest.ensures.locks in
    let start = ap (λ (q : Local). q.start) e.locks.holds.local in
    laws.locked-validate _ _ _ c.requires.caller _ _ c.requires.attempt c.validate-then-newest-local.result
    c.in_ok-newest.newest _ _ _ _ (omega arith) e c.validate-then-newest-local.ensures.validates

pub returns-clause-prepares : goal.returns-clause-prepares
returns-clause-prepares g c =
    let e = c.in_ok-newest.ensures.locks in
    let start = ap (λ (q : Local). q.start) e.locks.holds.local in
    laws.ready-still _ _ _ c.requires.caller _ _ c.requires.attempt c.in_ok-newest.newest _ _ (search rules)
    (omega arith) e
