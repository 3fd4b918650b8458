use Rattle.std.proofs.Common.{◌≡◌, ◌∙◌, Bool, true, false, refl, sym, subst, arith}
use Rattle.std.specs.Prelude.{◌⊎◌, Some, None}
use Rattle.std.proofs.lemmas.Result.{err_from_is_err_and}
use Rattle.stm_answers.specs.declared.answers.Commit.TheVariants.{Committed, ReadOnly}
use Rattle.stm_answers.specs.Answers.{Commits}
use Rattle.stm_answers.specs.CallerStateLaws.{grows-trans}
use Rattle.stm_tx.specs.Descs.{known, number, serves-on}
use Rattle.tx_atomic.specs.AttemptLaws.{same-number}
use Rattle.tx_atomic.specs.ExtendsLaws.{extends-trans, grows-extends}
use Rattle.tx_atomic.specs.Tries.{Finishes}
use Rattle.tx_atomic.specs.Accounts.{Account, account}
use Rattle.tx_atomic.specs.TryLaws.{runs-stopped, runs-finished}
use Rattle.tx_atomic.proofs.attempts.run_by.Goals as goal

pub end-requires-clause-served : goal.end-requires-clause-served
end-requires-clause-served g c = serves-on g.C.Calls.acts_as (known c.args.desc.now) (known c.act.new.desc) c.in_ok-output.ensures.algorithm c.in_ok-output.ensures.granted c.requires.served

pub returns-in_err-output-clause-runs : goal.returns-in_err-output-clause-runs
returns-in_err-output-clause-runs g c =
    let stm = c.args.stm.now in
    let runs = runs-stopped (g.K.MemRule.good stm.rule) stm.config (number c.args.desc.now) g.O.Observer.hears c.act.new.pace.last (known c.args.desc.now)
    (known c.act.new.desc) (account g.O.Observer.heard c.args.pace.now) (account g.O.Observer.heard c.act.new.pace) c.in_err-output.ensures.stopped in
    let p = err_from_is_err_and c.from_residual.result c.from_residual.ensures.1 in
    rw p.1 runs

pub returns-in_err-end-clause-grew : goal.returns-in_err-end-clause-grew
returns-in_err-end-clause-grew g c = grows-trans (known c.args.desc.now) (known c.act.new.desc) (known c.end.new.desc) c.act.ensures.grew c.end.ensures.grew

pub returns-in_err-end-clause-runs : goal.returns-in_err-end-clause-runs
returns-in_err-end-clause-runs g c =
    let stm = c.args.stm.now in
    let good = g.K.MemRule.good stm.rule in
    let x = known c.act.new.desc in
    let w = known c.end.new.desc in
    let last = c.end.new.pace.last in
    let here = subst (λ i. Finishes good stm.config i g.O.Observer.hears (Some last) x w (account g.O.Observer.heard c.act.new.pace) (account g.O.Observer.heard c.end.new.pace)) (same-number c.args.desc.now c.act.new.desc c.act.ensures.same) c.in_err-end.ensures.finishes in
    let finishes = subst (λ (t : Account g.O.Observer.Heard). Finishes good stm.config (number c.args.desc.now) g.O.Observer.hears (Some last) x w t (account g.O.Observer.heard c.end.new.pace)) c.in_ok-output.ensures.untold here in
    let runs = runs-finished good stm.config (number c.args.desc.now) g.O.Observer.hears (Some last) (known c.args.desc.now) x w (account g.O.Observer.heard c.args.pace.now) (account g.O.Observer.heard c.end.new.pace) c.act.ensures.grew finishes in
    let p = err_from_is_err_and c.from_residual-in_err-end.result c.from_residual-in_err-end.ensures.1 in
    rw p.1 runs

-- what an attempt was not after its work it was not before
was_not : (a b : Bool) → (a ≡ true → b ≡ true) → b ≡ false → a ≡ false
was_not true b stays is = let yes : b ≡ true = stays refl in let wrong : true ≡ false = sym yes ∙ is in absurd cc
was_not false b stays is = refl

pub returns-in_err-end-clause-unrefused : goal.returns-in_err-end-clause-unrefused
returns-in_err-end-clause-unrefused g c =
    let plain = was_not _ _ c.in_ok-output.ensures.irrevocable c.in_err-end.ensures.unrefused in
    let p = err_from_is_err_and c.from_residual-in_err-end.result c.from_residual-in_err-end.ensures.1 in
    rw p.1 plain

pub returns-clause-grew : goal.returns-clause-grew
returns-clause-grew g c = grows-trans (known c.args.desc.now) (known c.act.new.desc) (known c.end.new.desc) c.act.ensures.grew c.end.ensures.grew

pub returns-clause-runs : goal.returns-clause-runs
returns-clause-runs g c =
    let stm = c.args.stm.now in
    let good = g.K.MemRule.good stm.rule in
    let x = known c.act.new.desc in
    let w = known c.end.new.desc in
    let here = subst (λ i. Finishes good stm.config i g.O.Observer.hears None x w (account g.O.Observer.heard c.act.new.pace) (account g.O.Observer.heard c.end.new.pace)) (same-number c.args.desc.now c.act.new.desc c.act.ensures.same) c.in_ok-end.ensures.finishes in
    runs-finished good stm.config (number c.args.desc.now) g.O.Observer.hears None (known c.args.desc.now) x w (account g.O.Observer.heard c.args.pace.now) (account g.O.Observer.heard c.end.new.pace)
    c.act.ensures.grew
    (subst (λ (t : Account g.O.Observer.Heard). Finishes good stm.config (number c.args.desc.now) g.O.Observer.hears None x w t (account g.O.Observer.heard c.end.new.pace)) c.in_ok-output.ensures.untold here)

pub returns-clause-took : goal.returns-clause-took
returns-clause-took g c =
    let stm = c.args.stm.now in
    let good = g.K.MemRule.good stm.rule in
    let u = known c.args.desc.now in
    let v = known c.act.new.desc in
    let w = known c.end.new.desc in
    let t = c.in_ok-end.ensures.took in
    record {
      before = t.before;
      told = subst (λ l. g.T.Transaction.postcondition c.args.transaction.now stm.rule stm.config.words c.in_ok-output.output l) (sym t.told) c.in_ok-output.ensures.postcondition;
      made = t.made ∙ c.act.ensures.made;
      grows = extends-trans u v t.before (grows-extends u v c.act.ensures.grew) t.grows;
      later = (let b = c.in_ok-output.ensures.later in let d = t.later in omega (arith, b, d));
      time = t.time;
      commits = subst (λ n. Commits good stm.config n (Committed t.time) t.before w ⊎ Commits good stm.config n (ReadOnly t.time) t.before w) (same-number c.args.desc.now c.act.new.desc c.act.ensures.same) t.commits;
    }
