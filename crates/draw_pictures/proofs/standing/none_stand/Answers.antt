use Rattle.std.proofs.Common.{◌++◌, ◌-◌, ◌+◌, map, sym, ap, ◌∙◌, append_assoc}
use Rattle.draw_pictures.specs.Standing.{in_lane, of_lanes, standing_of}
use Rattle.draw_pictures.proofs.Slots.{lanes-more}
use Rattle.draw_pictures.proofs.standing.none_stand.Goals as goal

pub loop-lane-preserved : goal.loop-lane-preserved
loop-lane-preserved c =
    let lane = c.loop-lane.lane in
    let before = map standing_of c.loop-lane.slots.items in
    ap (λ l. l ++ of_lanes (lane + 1) (32 - (lane + 1))) c.in_ok-put_lane.ensures
    ∙ (append_assoc before (in_lane lane) (of_lanes (lane + 1) (32 - (lane + 1)))
    ∙ (ap (λ l. before ++ l) (sym (lanes-more lane c.loop-lane-test.true)) ∙ c.loop-lane.invariant))
