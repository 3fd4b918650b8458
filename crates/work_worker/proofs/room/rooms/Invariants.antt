use Rattle.std.proofs.Common.{◌≡◌, ◌-◌, length, drop}
use Rattle.work_worker.specs.Workers.{spares}
use Rattle.work_worker.proofs.room.rooms.Given as goal

abbrev pub invariant-loop-done : goal.invariant-loop-done
invariant-loop-done l = l.spare.items ≡ spares (drop (length l.items - l.done) l.items)
