use Rattle.std.proofs.Common.{◌≡◌, false, refl, rules}
use Rattle.stm_rule.specs.Attempts.{own_of}
use Rattle.stm_rule.specs.Callers.{handle_of}
use Rattle.stm_tx.proofs.LogLaws.{seen-logged, seen-loaded}
use Rattle.stm_tx.proofs.stripes.read.Goals as goal

pub returns-in-OrecLazy : goal.returns-in-OrecLazy
returns-in-OrecLazy g c = λ runs a m.
    let plain : c.desc.inside.local.granted ≡ false = search rules in
    c.logged.ensures a
    (seen-logged g.K.MemRule.good (handle_of c.desc.inside.seat (own_of c.desc.inside.local)) c.args.desc.now c.desc.inside.number c.desc.inside.local c.desc.view_is refl c.desc.invariant.1 runs
    c.in-OrecLazy.is plain a m)

pub returns-in-RingSw : goal.returns-in-RingSw
returns-in-RingSw g c = λ runs a m.
    let plain : c.desc.inside.local.granted ≡ false = search rules in
    c.loaded.ensures a
    (seen-loaded g.K.MemRule.good (handle_of c.desc.inside.seat (own_of c.desc.inside.local)) c.args.desc.now c.desc.inside.number c.desc.inside.local c.desc.view_is refl c.desc.invariant.1 runs
    c.in-RingSw.is plain a m)
