-- WHAT STILL STANDS of the rows above a page: the begin of an open attempt, where it asks to be alone or was granted
-- it, a gate that is closed, and the last commit.
use Rattle.std.specs.Prelude.{ℕ, zero, suc, ◌+◌, ◌==◌, Bool, false, ◌&&◌, if◌then◌else◌, List, [], ◌∷◌, ◌++◌, map, Option, Some, None}
use Rattle.draw_pictures.specs.declared.standing.Mark.{Mark}
use Rattle.draw_pictures.specs.declared.standing.Mark.TheVariants.{Begun, Held, Closed, Clock}
use Rattle.draw_pictures.specs.declared.standing.Slot.{Slot}
use Rattle.draw_pictures.specs.declared.row.Row.{Row}
use Rattle.draw_pictures.specs.Kinds.{ends_attempt, is_begin, is_holding, is_closing, is_opening, is_commit}
use Rattle.draw_pictures.specs.Shapes.{Box, box_of}

-- the row that stands, by what it tells, of a caller where it is one's
pub record Standing : Type 0 where
  pub mark : Mark
  pub lane : ℕ
  pub row : Option Box

abbrev pub starts : Mark → ℕ → Box → Bool
starts Begun lane b = (b.lane == lane) && is_begin b.kind
starts Held lane b = (b.lane == lane) && is_holding b.kind
starts Closed lane b = (b.lane == lane) && is_closing b.kind
starts Clock lane b = is_commit b.kind

abbrev pub ends : Mark → ℕ → Box → Bool
ends Begun lane b = (b.lane == lane) && ends_attempt b.kind
ends Held lane b = (b.lane == lane) && ends_attempt b.kind
ends Closed lane b = (b.lane == lane) && is_opening b.kind
ends Clock lane b = false

-- after one row more
abbrev pub after_row : Box → Standing → Standing
after_row b s = if starts s.mark s.lane b then record s { row = Some b } else (if ends s.mark s.lane b then record s { row = None } else s)

-- after these rows
abbrev pub stood : List Standing → List Box → List Standing
stood ss [] = ss
stood ss (b ∷ bs) = stood (map (after_row b) ss) bs

-- at first nothing stands
abbrev pub of_lane : Mark → ℕ → Standing
of_lane mark lane = record { mark = mark; lane = lane; row = None }

abbrev pub in_lane : ℕ → List Standing
in_lane lane = of_lane Begun lane ∷ of_lane Held lane ∷ of_lane Closed lane ∷ []

abbrev pub of_lanes : ℕ → ℕ → List Standing
of_lanes lane zero = []
of_lanes lane (suc more) = in_lane lane ++ of_lanes (lane + 1) more

abbrev pub none_stand : List Standing
none_stand = of_lane Clock 0 ∷ of_lanes 0 32

abbrev pub row_in : Option Box → List Box
row_in None = []
row_in (Some b) = b ∷ []

abbrev pub standing_rows : List Standing → List Box
standing_rows [] = []
standing_rows (s ∷ ss) = row_in s.row ++ standing_rows ss

-- what a slot says
abbrev pub box_in : Option Row → Option Box
box_in None = None
box_in (Some row) = Some (box_of row)

abbrev pub standing_of : Slot → Standing
standing_of s = record { mark = s.mark; lane = s.lane; row = box_in s.row }
