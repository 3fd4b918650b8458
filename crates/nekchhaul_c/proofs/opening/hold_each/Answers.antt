use Rattle.std.proofs.Common.{List, subst}
use Rattle.tx_loops.specs.declared.looping_caller.LoopingCaller.{LoopingCaller}
use Rattle.nekchhaul_c.specs.Opens.{EachHolds}
use Rattle.nekchhaul_c.proofs.opening.hold_each.Goals as goal

pub returns-clause-held : goal.returns-clause-held
returns-clause-held c = subst (λ (ms : List LoopingCaller). EachHolds ms c.deal.new.callers) c.in_ok-boxes.ensures c.deal.ensures.held
