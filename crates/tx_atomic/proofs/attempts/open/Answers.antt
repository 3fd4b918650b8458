use Rattle.stm_answers.specs.CallerStateLaws.{grows-trans}
use Rattle.std.proofs.Common.{true, refl, subst}
use Rattle.std.proofs.lemmas.Result.{err_from_is_err_and}
use Rattle.std.specs.Prelude.{Some, None}
use Rattle.stm_tx.specs.Descs.{known, number}
use Rattle.tx_atomic.specs.AttemptLaws.{same-number}
use Rattle.tx_atomic.specs.Tries.{Asks}
use Rattle.tx_atomic.specs.Accounts.{Account, account}
use Rattle.tx_atomic.specs.TryLaws.{tried-unbegun, tried-asked, opens-asked}
use Rattle.tx_atomic.proofs.attempts.open.Goals as goal

pub returns-in_err-promote-clause-grew : goal.returns-in_err-promote-clause-grew
returns-in_err-promote-clause-grew g c = grows-trans (known c.args.desc.now) (known c.begin.new.desc) (known c.promote.new.desc) c.begin.ensures.grew c.promote.ensures.grew

pub returns-clause-grew : goal.returns-clause-grew
returns-clause-grew g c = grows-trans (known c.args.desc.now) (known c.begin.new.desc) (known c.promote.new.desc) c.begin.ensures.grew c.promote.ensures.grew

pub returns-in_err-begin-clause-tried : goal.returns-in_err-begin-clause-tried
returns-in_err-begin-clause-tried g c =
    let stm = c.args.stm.now in
    let tried = tried-unbegun (g.K.MemRule.good stm.rule) stm.config (number c.args.desc.now) g.O.Observer.hears true c.begin.new.pace.last
    (known c.args.desc.now) (known c.begin.new.desc) (account g.O.Observer.heard c.args.pace.now) (account g.O.Observer.heard c.begin.new.pace) c.in_err-begin.ensures.refused in
    let p = err_from_is_err_and c.from_residual.result c.from_residual.ensures.1 in
    rw p.1 tried

pub returns-in_err-promote-clause-tried : goal.returns-in_err-promote-clause-tried
returns-in_err-promote-clause-tried g c =
    let stm = c.args.stm.now in
    let good = g.K.MemRule.good stm.rule in
    let v = known c.begin.new.desc in
    let w = known c.promote.new.desc in
    let last = c.promote.new.pace.last in
    let here = subst (λ n. Asks good stm.config n g.O.Observer.hears (Some last) v w (account g.O.Observer.heard c.begin.new.pace) (account g.O.Observer.heard c.promote.new.pace)) (same-number c.args.desc.now c.begin.new.desc c.begin.ensures.same) c.in_err-promote.ensures.asks in
    let asks = subst (λ (t : Account g.O.Observer.Heard). Asks good stm.config (number c.args.desc.now) g.O.Observer.hears (Some last) v w t (account g.O.Observer.heard c.promote.new.pace)) c.in_ok-begin.ensures.untold here in
    let tried = tried-asked good stm.config (number c.args.desc.now) g.O.Observer.hears true last (known c.args.desc.now) v w
    (account g.O.Observer.heard c.args.pace.now) (account g.O.Observer.heard c.promote.new.pace) refl c.in_ok-begin.ensures.begins asks in
    let p = err_from_is_err_and c.from_residual-in_err-promote.result c.from_residual-in_err-promote.ensures.1 in
    rw p.1 tried

pub returns-clause-opens : goal.returns-clause-opens
returns-clause-opens g c =
    let stm = c.args.stm.now in
    let good = g.K.MemRule.good stm.rule in
    let v = known c.begin.new.desc in
    let w = known c.promote.new.desc in
    let here = subst (λ n. Asks good stm.config n g.O.Observer.hears None v w (account g.O.Observer.heard c.begin.new.pace) (account g.O.Observer.heard c.promote.new.pace)) (same-number c.args.desc.now c.begin.new.desc c.begin.ensures.same) c.in_ok-promote.ensures.asks in
    let asks = subst (λ (t : Account g.O.Observer.Heard). Asks good stm.config (number c.args.desc.now) g.O.Observer.hears None v w t (account g.O.Observer.heard c.promote.new.pace)) c.in_ok-begin.ensures.untold here in
    opens-asked good stm.config (number c.args.desc.now) g.O.Observer.hears true (known c.args.desc.now) v w (account g.O.Observer.heard c.args.pace.now) (account g.O.Observer.heard c.promote.new.pace) refl c.in_ok-begin.ensures.begins asks
