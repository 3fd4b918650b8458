use Rattle.std.proofs.Common.{refl}
use Rattle.stm_tx.specs.Descs.{known, number}
use Rattle.tx_atomic.specs.ExtendsLaws.{grows-extends}
use Rattle.tx_start.specs.CountLaws.{counts-switch}
use Rattle.tx_start.proofs.caller.CallerCalls.switch_to.Goals as goal

pub returns-clause-keeps : goal.returns-clause-keeps
returns-clause-keeps g c =
    let s = c.args.self.now in
    let done = c.switch_to.ensures in
    let counts = counts-switch (g.K.MemRule.good s.stm.now.rule) s.stm.now.config (number s.desc) (known s.desc) (known c.switch_to.new.desc) s.pace.tally
    s.pace.tally c.args.alg c.switch_to.result refl done.switches in
    (record { through = done.through; grew = grows-extends (known s.desc) (known c.switch_to.new.desc) done.grew }, refl, counts)
