use Rattle.stm_gate.specs.Knowing.{number}
use Rattle.stm_gate.proofs.LookingLaws.{looks-closed}
use Rattle.stm_gate.proofs.gate.look.Goals as goal

pub returns-clause-looks : goal.returns-clause-looks
returns-clause-looks g c =
    looks-closed c.args.stm.now.config (number c.args.desc.now) (g.K.MemRule.good c.args.stm.now.rule) c.look_on.result c.args.desc.now.view
    c.look_on.new.desc.view c.args.desc.now.own c.look_on.new.desc.own c.look_on.ensures.own c.requires.closing c.look_on.ensures.looks
