-- A range of words out of the transactions, in the terms of what a caller knows.
use Rattle.std.specs.Prelude.{ℕ, ◌==◌, ◌&&◌, not, if◌then◌else◌, Option, Some, None}
use Rattle.rule_base.specs.Encodings.{fence_from, fence_count}
use Rattle.stm_answers.specs.CallerState.{CallerState}

-- the range that was out as the running attempt began
abbrev pub fence_seen : CallerState → Option (ℕ × ℕ)
fence_seen v = if v.running && not (v.fence == 0) then Some (fence_from v.fence, fence_count v.fence) else None

-- the range that the caller has out
abbrev pub range_held : CallerState → Option (ℕ × ℕ)
range_held v = if v.fenced.held then Some (fence_from v.fenced.number, fence_count v.fenced.number) else None
