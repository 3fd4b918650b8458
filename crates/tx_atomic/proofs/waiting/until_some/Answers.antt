use Rattle.std.proofs.Common.{ℕ, suc, rules, refl, ◌∙◌, sym, subst}
use Rattle.std.proofs.lemmas.Option.{IfSome_then}
use Rattle.std.specs.Prelude.{Some, None}
use Rattle.stm_tx.specs.Descs.{known, number}
use Rattle.tx_atomic.specs.Attempts.{TookEffect}
use Rattle.tx_atomic.specs.AttemptLaws.{same-number, took-nothing, took-since, took-weaker}
use Rattle.tx_atomic.specs.Callers.{Took}
use Rattle.tx_atomic.specs.ExtendsLaws.{extends-refl, extends-trans}
use Rattle.tx_atomic.specs.Waits.{HasLooked}
use Rattle.tx_watching.specs.Watches.{CoverReads}
use Rattle.tx_atomic.specs.declared.tally.Ended.TheVariants.{ClockFull}
use Rattle.tx_atomic.specs.Accounts.{account}
use Rattle.tx_atomic.specs.Tries.{Ran, HaveRun}
use Rattle.tx_atomic.specs.TryLaws.{full-earlier, run-more, ran-again}
use Rattle.tx_atomic.proofs.waiting.until_some.Goals as goal

pub loop-init : goal.loop-init
loop-init g c =
    let stm = c.args.stm.now in
    let grew = extends-refl (known c.args.desc.now) in
    let runs : (k : ℕ) × HaveRun (g.K.MemRule.good stm.rule) stm.config (number c.args.desc.now) g.O.Observer.hears k (known c.args.desc.now) (known c.args.desc.now) (account g.O.Observer.heard c.args.pace.now) (account g.O.Observer.heard c.args.pace.now) = (0, (refl, refl)) in
    search (rules, grew, runs)

pub loop-preserved : goal.loop-preserved
loop-preserved g c =
    let stm = c.args.stm.now in
    let v = known c.loop.desc in
    let w = known c.atomically.new.desc in
    let postcondition = g.T.Transaction.postcondition c.args.transaction.now stm.rule stm.config.words in
    let read = c.in-Some-None-default.read in
    let took = subst (λ r. TookEffect (g.K.MemRule.good stm.rule) stm.config (number c.loop.desc) (λ log. postcondition r log × CoverReads read log) v.front v w)
    c.in-Some-None-default.field-0-0-is c.in-Some-None-default.ensures.took in
    let grew = extends-trans (known c.args.desc.now) v w c.loop.invariant.grew c.atomically.ensures.grew in
    let made = took-nothing (g.K.MemRule.good stm.rule) stm.config (number c.loop.desc) (λ log. postcondition None log × CoverReads read log) v.front v w (λ log told. c.requires.waits log told.0) took ∙ c.loop.invariant.made in
    let good = g.K.MemRule.good stm.rule in
    let n = number c.args.desc.now in
    let ran = subst (λ i. Ran good stm.config i g.O.Observer.hears None v w (account g.O.Observer.heard c.loop.pace) (account g.O.Observer.heard c.atomically.new.pace)) (same-number c.args.desc.now c.loop.desc c.loop.invariant.same) c.in-Some-None-default.ensures.ran in
    let runs : (k : ℕ) × HaveRun good stm.config n g.O.Observer.hears k (known c.args.desc.now) w (account g.O.Observer.heard c.args.pace.now) (account g.O.Observer.heard c.atomically.new.pace) =
    (suc c.loop.invariant.runs.0, run-more good stm.config n g.O.Observer.hears c.loop.invariant.runs.0 (known c.args.desc.now) v w (account g.O.Observer.heard c.args.pace.now) (account g.O.Observer.heard c.loop.pace) (account g.O.Observer.heard c.atomically.new.pace) c.loop.invariant.runs.1 ran) in
    search (rules, grew, made, runs)

pub returns-in-None-atomically-clause-grew : goal.returns-in-None-atomically-clause-grew
returns-in-None-atomically-clause-grew g c =
    extends-trans (known c.args.desc.now) (known c.loop.desc) (known c.atomically.new.desc) c.loop.invariant.grew c.atomically.ensures.grew

pub returns-in-None-atomically-clause-full : goal.returns-in-None-atomically-clause-full
returns-in-None-atomically-clause-full g c =
    let found = c.in-None-atomically.ensures.full in
    (found.0, full-earlier found.0 (known c.args.desc.now) (known c.loop.desc) (known c.atomically.new.desc) c.loop.invariant.grew found.1)

pub returns-in-Some-Some-default-clause-grew : goal.returns-in-Some-Some-default-clause-grew
returns-in-Some-Some-default-clause-grew g c =
    extends-trans (known c.args.desc.now) (known c.loop.desc) (known c.atomically.new.desc) c.loop.invariant.grew c.atomically.ensures.grew

pub returns-in-Some-Some-default-clause-took : goal.returns-in-Some-Some-default-clause-took
returns-in-Some-Some-default-clause-took g c =
    let stm = c.args.stm.now in
    let good = g.K.MemRule.good stm.rule in
    let inv = c.loop.invariant in
    let u = known c.args.desc.now in
    let v = known c.loop.desc in
    let w = known c.atomically.new.desc in
    let postcondition = g.T.Transaction.postcondition c.args.transaction.now stm.rule stm.config.words in
    let answer = Some c.in-Some-Some-default.answer in
    let read = c.in-Some-Some-default.field-0-1 in
    let took = subst (λ r. TookEffect good stm.config (number c.loop.desc) (λ log. postcondition r log × CoverReads read log) v.front v w)
    c.in-Some-Some-default.field-0-0-is c.in-Some-Some-default.ensures.took in
    let told = took-weaker good stm.config (number c.loop.desc) (λ log. postcondition answer log × CoverReads read log) (postcondition answer) v.front v w (λ log t. t.0) took in
    let now = subst (λ n. TookEffect good stm.config n (postcondition answer) v.front v w) (same-number c.args.desc.now c.loop.desc inv.same) told in
    took-since good stm.config (number c.args.desc.now) (postcondition answer) v.front u.front u v w inv.made inv.grew inv.grew.front_rose now

pub returns-in-None-atomically-clause-gave_up : goal.returns-in-None-atomically-clause-gave_up
returns-in-None-atomically-clause-gave_up g c =
    let stm = c.args.stm.now in
    let good = g.K.MemRule.good stm.rule in
    let v = known c.loop.desc in
    let w = known c.atomically.new.desc in
    let ran = subst (λ i. Ran good stm.config i g.O.Observer.hears (Some ClockFull) v w (account g.O.Observer.heard c.loop.pace) (account g.O.Observer.heard c.atomically.new.pace)) (same-number c.args.desc.now c.loop.desc c.loop.invariant.same) c.in-None-atomically.ensures.gave_up in
    ran-again good stm.config (number c.args.desc.now) g.O.Observer.hears (Some ClockFull) (known c.args.desc.now) v w (account g.O.Observer.heard c.args.pace.now) (account g.O.Observer.heard c.loop.pace) (account g.O.Observer.heard c.atomically.new.pace) c.loop.invariant.runs ran

pub returns-in-Some-Some-default-clause-ran : goal.returns-in-Some-Some-default-clause-ran
returns-in-Some-Some-default-clause-ran g c =
    let stm = c.args.stm.now in
    let good = g.K.MemRule.good stm.rule in
    let v = known c.loop.desc in
    let w = known c.atomically.new.desc in
    let ran = subst (λ i. Ran good stm.config i g.O.Observer.hears None v w (account g.O.Observer.heard c.loop.pace) (account g.O.Observer.heard c.atomically.new.pace)) (same-number c.args.desc.now c.loop.desc c.loop.invariant.same) c.in-Some-Some-default.ensures.ran in
    ran-again good stm.config (number c.args.desc.now) g.O.Observer.hears None (known c.args.desc.now) v w (account g.O.Observer.heard c.args.pace.now) (account g.O.Observer.heard c.loop.pace) (account g.O.Observer.heard c.atomically.new.pace) c.loop.invariant.runs ran

pub rest-requires : goal.rest-requires
rest-requires g c =
    let stm = c.args.stm.now in
    let good = g.K.MemRule.good in
    let postcondition = g.T.Transaction.postcondition c.args.transaction.now in
    let read = c.in-Some-None-default.read in
    let d = c.atomically.new.desc in
    let looked = subst (λ r. Took good (λ rule words answer log. postcondition rule words answer log × CoverReads read log) stm c.loop.desc r d)
    c.in-Some-None-default.field-0-0-is c.in-Some-None-default.ensures.took in
    record {
      looked = IfSome_then c.announce_late-waiting.result c.announce_late-waiting.ensures (λ w since. subst (λ e. HasLooked good postcondition stm read e d) (sym since) looked);
    }
