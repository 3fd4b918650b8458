use Rattle.std.proofs.Common.{true, ◌∙◌, subst}
use Rattle.std.specs.Prelude.{Some, None, MatchResult}
use Rattle.std.proofs.lemmas.Result.{err_from_is_err_and, IfOk-weaker, on_err_weaker}
use Rattle.stm_answers.specs.CallerStateLaws.{grows-trans}
use Rattle.stm_tx.specs.Descs.{known, number}
use Rattle.tx_atomic.specs.Accounts.{account}
use Rattle.tx_atomic.specs.Attempts.{TookEffect}
use Rattle.tx_atomic.specs.AttemptLaws.{same-number, took-since}
use Rattle.tx_atomic.specs.ExtendsLaws.{grows-extends}
use Rattle.tx_atomic.specs.Tries.{Runs}
use Rattle.tx_atomic.specs.TryLaws.{tried-ran}
use Rattle.tx_atomic.proofs.attempts.attempt_irrevocable.Goals as goal

pub returns-in_err-open-clause-tried : goal.returns-in_err-open-clause-tried
returns-in_err-open-clause-tried g c =
    let p = err_from_is_err_and c.from_residual.result c.from_residual.ensures.1 in
    rw p.1 c.in_err-open.ensures.tried

pub returns-clause-grew : goal.returns-clause-grew
returns-clause-grew g c = grows-trans (known c.args.desc.now) (known c.open.new.desc) (known c.run_looking_up.new.desc) c.open.ensures.grew c.run_looking_up.ensures.grew

pub returns-clause-took : goal.returns-clause-took
returns-clause-took g c =
    let stm = c.args.stm.now in
    let good = g.K.MemRule.good stm.rule in
    let u = known c.args.desc.now in
    let v = known c.open.new.desc in
    let w = known c.run_looking_up.new.desc in
    IfOk-weaker c.run_looking_up.result _ _ (λ output took.
    let postcondition = g.T.Transaction.postcondition c.args.transaction.now stm.rule stm.config.words output in
    let now = subst (λ n. TookEffect good stm.config n postcondition v.start v w) (same-number c.args.desc.now c.open.new.desc c.open.ensures.same) took in
    took-since good stm.config (number c.args.desc.now) postcondition v.start u.front u v w c.open.ensures.made (grows-extends u v c.open.ensures.grew) c.in_ok-open.ensures.later now) c.run_looking_up.ensures.took

pub returns-clause-none : goal.returns-clause-none
returns-clause-none g c = on_err_weaker c.run_looking_up.result (λ made. made ∙ c.open.ensures.made) c.run_looking_up.ensures.none

pub returns-clause-tried : goal.returns-clause-tried
returns-clause-tried g c =
    let stm = c.args.stm.now in
    let good = g.K.MemRule.good stm.rule in
    let v = known c.open.new.desc in
    let w = known c.run_looking_up.new.desc in
    let r = (account g.O.Observer.heard c.open.new.pace) in
    let t = (account g.O.Observer.heard c.run_looking_up.new.pace) in
    let runs = subst
    (λ n.
    MatchResult c.run_looking_up.result (λ _. Runs good stm.config n g.O.Observer.hears None v w r t) (λ _. Runs good stm.config n g.O.Observer.hears (Some c.run_looking_up.new.pace.last) v w r t))
    (same-number c.args.desc.now c.open.new.desc c.open.ensures.same) c.run_looking_up.ensures.runs in
    tried-ran good stm.config (number c.args.desc.now) g.O.Observer.hears c.run_looking_up.result true c.run_looking_up.new.pace.last (known c.args.desc.now) v w
    (account g.O.Observer.heard c.args.pace.now) r t (λ _. c.in_ok-open.ensures.irrevocable) c.run_looking_up.ensures.unrefused c.in_ok-open.ensures.opens runs
