use Rattle.tx_checked.proofs.PeekLaws.{looked_once}
use Rattle.tx_checked.proofs.checked_caller.CheckedCaller.peek_as.Goals as goal

pub returns-in-Begun : goal.returns-in-Begun
returns-in-Begun g c =
    looked_once c.args.a c.args.self.now c.open_as.new.self c.read_as.new.caller c.in-Begun.alg c.read_as.result c.in_ok-may_look.ensures.fits c.in-Begun.ensures c.read_as.ensures.same c.read_as.ensures.once
