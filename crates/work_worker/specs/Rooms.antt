-- The room that a worker has from the start.
use Rattle.std.specs.Prelude.{◌≡◌, ◌≤◌, ◌+◌, List, [], ◌∷◌, ◌++◌, length, vec_capacity, vec_len}
use Rattle.work_script.specs.declared.workload.Item.{Item}
use Rattle.work_trace.specs.Adapting.{no_profile}
use Rattle.work_worker.specs.declared.room.Room.{Room}
use Rattle.work_worker.specs.Workers.{spares}

-- it is empty, and enough for the replies and rows of these items
pub record IsRoomFor (items : List Item) (room : Room) : Type 0 where
  pub spare : room.spare.items ++ room.out ∷ [] ≡ spares items
  pub none : room.rows.items ≡ []
  pub rows : vec_len room.rows + length room.spare.items ≤ vec_capacity room.rows
  pub noted : room.profile ≡ no_profile
