use Rattle.tx_checked.proofs.Newcomers.{first-fresh, first-bare, first-hindered}
use Rattle.tx_checked.proofs.opening.install_first.Goals as goal

pub returns-clause-fresh : goal.returns-clause-fresh
returns-clause-fresh c =
    let told = c.switch_at_one_look.ensures in
    first-fresh c.args.stm.now c.switch_at_one_look.result c.args.alg c.args.descs.now.items _ c.index_mut.result.now
    c.switch_at_one_look.new.desc c.requires.opened c.index_mut.ensures.value told.through told.made told.installs

pub returns-clause-bare : goal.returns-clause-bare
returns-clause-bare c =
    let told = c.switch_at_one_look.ensures in
    first-bare c.args.stm.now c.switch_at_one_look.result c.args.descs.now.items _ c.index_mut.result.now
    c.switch_at_one_look.new.desc c.requires.opened c.index_mut.ensures.value told.through told.made told.none

pub returns-clause-hindered : goal.returns-clause-hindered
returns-clause-hindered c =
    first-hindered c.args.stm.now c.switch_at_one_look.result c.args.descs.now.items _ c.index_mut.result.now c.switch_at_one_look.new.desc
    c.requires.opened c.requires.some c.index_mut.ensures.value c.switch_at_one_look.ensures.hindered
