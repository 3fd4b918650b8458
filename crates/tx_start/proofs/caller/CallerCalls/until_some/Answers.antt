use Rattle.std.specs.Prelude.{Some}
use Rattle.std.proofs.Common.{refl}
use Rattle.stm_tx.specs.Descs.{known, number}
use Rattle.tx_atomic.specs.Accounts.{account}
use Rattle.tx_start.specs.CountLaws.{counts-again}
use Rattle.tx_start.specs.SeatLaws.{if-took}
use Rattle.tx_start.proofs.caller.CallerCalls.until_some.Goals as goal

pub returns-clause-took : goal.returns-clause-took
returns-clause-took g c =
    let s = c.args.self.now in
    if-took (g.K.MemRule.good s.stm.now.rule) s.stm.now.config (number s.desc)
    (λ r log. g.T.Transaction.postcondition c.args.transaction.now s.stm.now.rule s.stm.now.config.words (Some r) log)
    (known s.desc) (known c.until_some.new.desc) s.pace.tally.commits c.until_some.new.pace.tally.commits c.until_some.result c.until_some.ensures.took

pub invariant_of-self-clause-lengthens : goal.invariant_of-self-clause-lengthens
invariant_of-self-clause-lengthens g c =
    let s = c.args.self.now in
    let done = c.until_some.ensures in
    (counts-again (g.K.MemRule.good s.stm.now.rule) s.stm.now.config (number s.desc) (known s.desc) (known c.until_some.new.desc) c.until_some.result
    (account (λ _. tt) s.pace) (account (λ _. tt) c.until_some.new.pace) s.lengthens done.ran done.gave_up).0

pub returns-clause-keeps : goal.returns-clause-keeps
returns-clause-keeps g c =
    let s = c.args.self.now in
    let done = c.until_some.ensures in
    let counts = counts-again (g.K.MemRule.good s.stm.now.rule) s.stm.now.config (number s.desc) (known s.desc) (known c.until_some.new.desc) c.until_some.result
    (account (λ _. tt) s.pace) (account (λ _. tt) c.until_some.new.pace) s.lengthens done.ran done.gave_up in
    (record { through = done.through; grew = done.grew }, refl, counts.1)
