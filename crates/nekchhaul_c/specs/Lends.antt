-- What a handle ends as, once its caller was lent.
use Rattle.std.specs.Prelude.{Some}
use Rattle.std.specs.Borrow.{Lends, MutBor, Fml}
use Rattle.nekchhaul_c.specs.declared.handle.Handle.{Handle}
use Rattle.nekchhaul_c.specs.contracts.handle.Handle.{the_row}
use Rattle.tx_loops.specs.declared.looping_caller.LoopingCaller.{LoopingCaller}
use Rattle.tx_loops.specs.contracts.looping_caller.LoopingCaller.{the_row as looping_caller_row}

-- with that caller in the place of its own
abbrev pub holding : Handle → LoopingCaller → Handle
holding h m = record { tag = h.tag; at = h.at; inside = Some m }

abbrev pub lends_looping_caller : MutBor Handle → MutBor LoopingCaller → Fml
lends_looping_caller h r = Lends the_row looping_caller_row h r (holding h.now)
