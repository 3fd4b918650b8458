use Rattle.std.proofs.Common.{rules, ◌<◌, length, sym, ◌∙◌, subst}
use Rattle.work_worker.proofs.RoomLaws.{some-spare}
use Rattle.work_worker.proofs.room.Room.new.Goals as goal

-- there always is room
pub unreachable-requires : goal.unreachable-requires
unreachable-requires c =
    let more : 0 < length c.in_ok-spare.spare.items = subst (λ l. 0 < length l) (sym c.in_ok-spare.ensures) (some-spare c.args.items.now) in
    search rules

pub returns : goal.returns
returns c = record {
  spare = sym c.in-Some.ensures.items ∙ c.in_ok-spare.ensures;
  none = c.in_ok-reserve.ensures.items ∙ c.new-rows.ensures.items;
  rows = (let a = c.in_ok-reserve.ensures.len in let b = c.in_ok-reserve.ensures.capacity in let d = c.new-rows.ensures.len in let n = c.len.ensures in search rules);
  noted = c.in_ok-profile.ensures;
}
