use Rattle.std.proofs.Common.{refl}
use Rattle.stm_tx.specs.Descs.{known, number}
use Rattle.tx_atomic.specs.Accounts.{account}
use Rattle.tx_start.specs.CountLaws.{counts-ran}
use Rattle.tx_start.specs.SeatLaws.{if-took}
use Rattle.tx_start.proofs.caller.CallerCalls.run.Goals as goal

pub returns-clause-took : goal.returns-clause-took
returns-clause-took g c =
    let s = c.args.self.now in
    if-took (g.K.MemRule.good s.stm.now.rule) s.stm.now.config (number s.desc)
    (λ r log. g.T.Transaction.postcondition c.args.transaction.now s.stm.now.rule s.stm.now.config.words r log)
    (known s.desc) (known c.atomically.new.desc) s.pace.tally.commits c.atomically.new.pace.tally.commits c.atomically.result c.atomically.ensures.took

pub invariant_of-self-clause-lengthens : goal.invariant_of-self-clause-lengthens
invariant_of-self-clause-lengthens g c =
    let s = c.args.self.now in
    let done = c.atomically.ensures in
    (counts-ran (g.K.MemRule.good s.stm.now.rule) s.stm.now.config (number s.desc) (known s.desc) (known c.atomically.new.desc) c.atomically.result
    (account (λ _. tt) s.pace) (account (λ _. tt) c.atomically.new.pace) s.lengthens done.ran done.gave_up).0

pub returns-clause-keeps : goal.returns-clause-keeps
returns-clause-keeps g c =
    let s = c.args.self.now in
    let done = c.atomically.ensures in
    let counts = counts-ran (g.K.MemRule.good s.stm.now.rule) s.stm.now.config (number s.desc) (known s.desc) (known c.atomically.new.desc) c.atomically.result
    (account (λ _. tt) s.pace) (account (λ _. tt) c.atomically.new.pace) s.lengthens done.ran done.gave_up in
    (record { through = done.through; grew = done.grew }, refl, counts.1)
