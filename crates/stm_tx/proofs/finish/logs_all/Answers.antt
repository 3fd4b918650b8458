use Rattle.std.proofs.Common.{refl}
use Rattle.stm_rule.specs.Attempts.{own_of}
use Rattle.stm_rule.specs.Callers.{handle_of}
use Rattle.stm_tx.proofs.LogLaws.{is-logged, named-log, not-true}
use Rattle.stm_tx.proofs.finish.logs_all.Goals as goal

pub returns-in-OrecLazy : goal.returns-in-OrecLazy
returns-in-OrecLazy g c = λ plain.
    is-logged g.K.MemRule.good (handle_of c.desc.inside.seat (own_of c.desc.inside.local)) c.args.desc.now c.desc.inside.number c.desc.inside.local c.desc.view_is refl c.desc.invariant.1
    c.requires.running g.A.Algorithm.alg (named-log c.which.result g.A.Algorithm.alg c.which.ensures c.in-OrecLazy.is) c.requires.algorithm
    (c.requires.unpromoted (not-true c.args.granted plain))
