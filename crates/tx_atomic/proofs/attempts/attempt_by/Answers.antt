use Rattle.std.proofs.Common.{◌≡◌, true, false, refl, ◌∙◌, sym, subst}
use Rattle.std.specs.Prelude.{Some, None, MatchResult}
use Rattle.std.proofs.lemmas.Result.{err_from_is_err_and, IfOk-weaker, on_err_weaker}
use Rattle.stm_answers.specs.CallerStateLaws.{grows-trans}
use Rattle.stm_tx.specs.Descs.{known, number}
use Rattle.tx_atomic.specs.Attempts.{TookEffect}
use Rattle.tx_atomic.specs.AttemptLaws.{same-number, took-since}
use Rattle.tx_atomic.specs.ExtendsLaws.{grows-extends}
use Rattle.tx_atomic.specs.Tries.{Opens, Runs}
use Rattle.tx_atomic.specs.Accounts.{Account, account}
use Rattle.tx_atomic.specs.TryLaws.{opens-plain, tried-ran, tried-unbegun}
use Rattle.tx_atomic.proofs.attempts.attempt_by.Goals as goal

pub returns-in_err-begin-clause-tried : goal.returns-in_err-begin-clause-tried
returns-in_err-begin-clause-tried g c =
    let p = err_from_is_err_and c.from_residual.result c.from_residual.ensures.1 in
    let stm = c.args.stm.now in
    let tried = tried-unbegun (g.K.MemRule.good stm.rule) stm.config (number c.args.desc.now) g.O.Observer.hears false c.begin.new.pace.last
    (known c.args.desc.now) (known c.begin.new.desc) (account g.O.Observer.heard c.args.pace.now) (account g.O.Observer.heard c.begin.new.pace) c.in_err-begin.ensures.refused in
    rw p.1 tried

pub returns-clause-grew : goal.returns-clause-grew
returns-clause-grew g c = grows-trans (known c.args.desc.now) (known c.begin.new.desc) (known c.run.new.desc) c.begin.ensures.grew c.run.ensures.grew

pub returns-clause-took : goal.returns-clause-took
returns-clause-took g c =
    let stm = c.args.stm.now in
    let good = g.K.MemRule.good stm.rule in
    let u = known c.args.desc.now in
    let v = known c.begin.new.desc in
    let w = known c.run.new.desc in
    IfOk-weaker c.run.result _ _ (λ output took.
    let postcondition = g.T.Transaction.postcondition c.args.transaction.now stm.rule stm.config.words output in
    let now = subst (λ n. TookEffect good stm.config n postcondition v.start v w) (same-number c.args.desc.now c.begin.new.desc c.begin.ensures.same) took in
    took-since good stm.config (number c.args.desc.now) postcondition v.start u.front u v w c.begin.ensures.made (grows-extends u v c.begin.ensures.grew) c.in_ok-begin.ensures.later now) c.run.ensures.took

pub returns-clause-none : goal.returns-clause-none
returns-clause-none g c = on_err_weaker c.run.result (λ made. made ∙ c.begin.ensures.made) c.run.ensures.none

pub returns-clause-tried : goal.returns-clause-tried
returns-clause-tried g c =
    let stm = c.args.stm.now in
    let good = g.K.MemRule.good stm.rule in
    let v = known c.begin.new.desc in
    let w = known c.run.new.desc in
    let r = (account g.O.Observer.heard c.begin.new.pace) in
    let t = (account g.O.Observer.heard c.run.new.pace) in
    let runs = subst
    (λ n.
    MatchResult c.run.result (λ _. Runs good stm.config n g.O.Observer.hears None v w r t) (λ _. Runs good stm.config n g.O.Observer.hears (Some c.run.new.pace.last) v w r t))
    (same-number c.args.desc.now c.begin.new.desc c.begin.ensures.same) c.run.ensures.runs in
    let begun = opens-plain good stm.config (number c.args.desc.now) g.O.Observer.hears false (known c.args.desc.now) v (account g.O.Observer.heard c.args.pace.now) refl c.in_ok-begin.ensures.begins in
    let opens = subst (λ (t : Account g.O.Observer.Heard). Opens good stm.config (number c.args.desc.now) g.O.Observer.hears false (known c.args.desc.now) v (account g.O.Observer.heard c.args.pace.now) t) (sym c.in_ok-begin.ensures.untold) begun in
    tried-ran good stm.config (number c.args.desc.now) g.O.Observer.hears c.run.result false c.run.new.pace.last (known c.args.desc.now) v w
    (account g.O.Observer.heard c.args.pace.now) r t (λ e. absurd (let no : false ≡ true = e in cc)) c.run.ensures.unrefused opens runs
