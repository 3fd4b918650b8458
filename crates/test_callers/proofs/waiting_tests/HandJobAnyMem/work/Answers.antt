use Rattle.std.proofs.Common.{rules}
use Rattle.test_callers.proofs.waiting_tests.HandJobAnyMem.work.Goals as goal

pub loop-i-init : goal.loop-i-init
loop-i-init g c = let keeps = g.met.C.Calls.keeps_refl c.args.caller.now in search (rules, keeps)

pub loop-i-preserved : goal.loop-i-preserved
loop-i-preserved g c =
    let keeps = g.met.C.Calls.keeps_trans c.args.caller.now c.loop-i.caller c.hand_over.new.caller c.loop-i.invariant.keeps c.hand_over.ensures.keeps in
    search (rules, keeps)
