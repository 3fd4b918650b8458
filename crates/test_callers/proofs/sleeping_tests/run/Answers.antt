use Rattle.std.proofs.Common.{sym, subst}
use Rattle.tx_atomic.specs.Callers.{AllReady}
use Rattle.tx_atomic.specs.CallerLaws.{opened-ready}
use Rattle.test_callers.proofs.sleeping_tests.run.Goals as goal

pub serve-requires-clause-ready : goal.serve-requires-clause-ready
serve-requires-clause-ready g c κs within = subst (AllReady c.in_ok-stm.stm 0) (sym c.as_mut_slice.ensures.value) (opened-ready c.in_ok-stm.stm 0 c.in_ok-stm.descs.items c.in_ok-stm.ensures.descs.0)
