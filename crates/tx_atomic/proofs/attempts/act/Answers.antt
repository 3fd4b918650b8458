use Rattle.std.proofs.Common.{◌≡◌, ◌∙◌, rules, sym, subst}
use Rattle.std.specs.Prelude.{Some}
use Rattle.stm_tx.specs.Descs.{known, number}
use Rattle.tx_atomic.specs.Accounts.{account, told}
use Rattle.tx_atomic.specs.declared.tally.Ended.{Ended}
use Rattle.tx_atomic.specs.AttemptLaws.{stopped-idle}
use Rattle.tx_atomic.specs.TryLaws.{stopped}
use Rattle.tx_atomic.proofs.attempts.act.Goals as goal

pub invariant_of-memory-clause-own : goal.invariant_of-memory-clause-own
invariant_of-memory-clause-own g c = c.requires.stm

pub invariant_of-memory-clause-runs : goal.invariant_of-memory-clause-runs
invariant_of-memory-clause-runs g c = c.requires.fresh.0.0

pub invariant_of-memory-clause-served : goal.invariant_of-memory-clause-served
invariant_of-memory-clause-served g c = λ e. c.requires.served

pub invariant_of-memory-clause-open : goal.invariant_of-memory-clause-open
invariant_of-memory-clause-open g c = λ e. c.requires.fresh.0.1

pub invariant_of-memory-clause-unfenced : goal.invariant_of-memory-clause-unfenced
invariant_of-memory-clause-unfenced g c = λ e. c.requires.fresh.2

pub run-requires-clause-good : goal.run-requires-clause-good
run-requires-clause-good g c = λ m. ((λ h. h), (λ h. h))

pub returns-in-Err-clause-over : goal.returns-in-Err-clause-over
returns-in-Err-clause-over g c =
    let stm = c.args.stm.now in
    let idle = stopped-idle (g.K.MemRule.good stm.rule) stm.config (number c.args.desc.now) _ _ (known c.args.desc.now) _ c.in-Err.ensures.stops c.in-Err.ensures.keeps.0.1 in
    search (rules, idle)

pub returns-in-Err-clause-stopped : goal.returns-in-Err-clause-stopped
returns-in-Err-clause-stopped g c =
    let stm = c.args.stm.now in
    let told = subst (λ (e : Ended). account g.O.Observer.heard c.refuse.new.self ≡ told g.O.Observer.hears (Some e) c.address.result (account g.O.Observer.heard c.args.pace.now))
    c.by.ensures c.refuse.ensures.told in
    let is = stopped (g.K.MemRule.good stm.rule) stm.config (number c.args.desc.now) g.O.Observer.hears _ _ (known c.args.desc.now) _ (account g.O.Observer.heard c.args.pace.now) (account g.O.Observer.heard c.refuse.new.self)
    c.in-Err.ensures.stops c.in-Err.ensures.keeps.0.1 (rw (sym c.address.ensures) told) in
    rw (c.refuse.ensures.last ∙ c.by.ensures) (search (rules, is))
