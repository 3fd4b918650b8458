-- THE PART of a trace that is drawn: the rows that begin with some of its lines, of some callers.
use Rattle.std.specs.Prelude.{ℕ, zero, suc, ◌≡◌, ◌≤◌, ◌<◌, ◌+◌, leb, ltb, Bool, true, false, ◌&&◌, ◌||◌, if◌then◌else◌, is_some, List, [], ◌∷◌, ◌++◌, length, map, Option, Some, None, slice_index_or, slice_set}
use Rattle.std.specs.List.{filter}
use Rattle.draw_pictures.specs.declared.page.Page.{Page}
use Rattle.draw_pictures.specs.declared.part.Callers.{Callers}
use Rattle.draw_pictures.specs.declared.part.Lines.{Lines}
use Rattle.draw_pictures.specs.declared.part.Part.{Part}
use Rattle.draw_pictures.specs.declared.part.TheConstants.{MOST_BOXES}
use Rattle.draw_pictures.specs.declared.picture.Leaf.{Leaf}
use Rattle.draw_pictures.specs.declared.row.Row.{Row}
use Rattle.draw_pictures.specs.Kinds.{is_commit, is_finish}
use Rattle.draw_pictures.specs.Shapes.{Box, boxes_of}
use Rattle.draw_pictures.specs.Rows.{rows_of}
use Rattle.draw_pictures.specs.Standing.{box_in, none_stand, row_in, standing_of, standing_rows, stood}

-- a caller is one of these
abbrev pub has : Callers → ℕ → Bool
has cs n = ltb n 32 && slice_index_or cs.chosen n false

abbrev pub with_lane : Callers → ℕ → Callers
with_lane cs n = if leb 32 n then cs else record { chosen = slice_set cs.chosen n true }

-- one for a caller of this number that is one of them and below this one
abbrev pub counted : Bool → ℕ → ℕ → ℕ
counted chosen number n = if ltb number n && chosen then 1 else 0

-- how many of them are below this one
abbrev pub below : List Bool → ℕ → ℕ
below [] n = 0
below (b ∷ bs) zero = 0
below (b ∷ bs) (suc n) = (if b then 1 else 0) + below bs n

-- a line comes before these, or is one of them
abbrev pub is_before : Option Lines → ℕ → Bool
is_before None n = false
is_before (Some r) n = ltb n r.first

abbrev pub is_within : Option Lines → ℕ → Bool
is_within None n = true
is_within (Some r) n = leb r.first n && leb n r.last

-- a row is of one of these callers, or ends the schedule of all
abbrev pub is_of : Option Callers → Box → Bool
is_of None b = true
is_of (Some cs) b = is_finish b.kind || has cs b.lane

abbrev pub is_own : Part → Box → Bool
is_own part b = is_within part.lines b.number && is_of part.callers b

-- THE ROWS OF A PART that are its own: those that begin with its lines
abbrev pub own_rows : Part → List Box → List Box
own_rows part rows = filter (is_own part) rows

abbrev pub rows_before : Part → List Box → List Box
rows_before part rows = filter (λ b. is_before part.lines b.number) rows

-- what stands is shown if it is of these callers; and so is the last commit of all, whose time is the clock
abbrev pub is_shown : Part → Box → Bool
is_shown part b = is_commit b.kind || is_of part.callers b

-- THE ROWS THAT STILL STAND above it
abbrev pub rows_above : Part → List Box → List Box
rows_above part rows = filter (is_shown part) (standing_rows (stood none_stand (rows_before part rows)))

-- the callers that have lanes
abbrev pub with_lanes : Callers → List Box → Callers
with_lanes cs [] = cs
with_lanes cs (b ∷ bs) = with_lanes (with_lane cs b.lane) bs

abbrev pub lanes_with : Option Callers → List Box → Option Callers
lanes_with None bs = None
lanes_with (Some cs) bs = Some (with_lanes cs bs)

-- what the picture shows, where these rows stand above
abbrev pub leaf_by : Part → List Box → Leaf
leaf_by part above = record { lines = part.lines; callers = lanes_with part.callers above; above = length above }

-- HOW MANY BOXES a picture may have: where no lines are named so many at most, else one at least
abbrev pub IsFew : Option Lines → ℕ → Type 0
IsFew None boxes = boxes ≤ MOST_BOXES
IsFew (Some r) boxes = 1 ≤ boxes

abbrev pub IsUnfit : Option Lines → ℕ → Type 0
IsUnfit None boxes = MOST_BOXES < boxes
IsUnfit (Some r) boxes = boxes ≡ 0

-- so many are kept while the lines are read
abbrev pub keeps : Option Lines → ℕ → Bool
keeps lines boxes = is_some lines || leb boxes MOST_BOXES

abbrev pub of_lines : ℕ → ℕ → Option Callers → Part
of_lines first last callers = record { lines = Some (record { first = first; last = last }); callers = callers }

abbrev pub all_lines : Option Callers → Part
all_lines callers = record { lines = None; callers = callers }

-- WITHOUT NAMES each row is drawn, once and in order
abbrev pub WholeHasAll : Type 0
WholeHasAll = (rows : List Box) → own_rows (all_lines None) rows ≡ rows

-- the rows begin with lines that ascend, from this one on
abbrev pub Ascend : ℕ → List Box → Type 0
Ascend n [] = Unit {0}
Ascend n (b ∷ bs) = (n ≤ b.number) × Ascend b.number bs

-- PARTS THAT MEET have together what the part of all their lines has: each row once, in order
abbrev pub PartsMeet : Type 0
PartsMeet = (a b c n : ℕ) (callers : Option Callers) (rows : List Box) → Ascend n rows → a ≤ b + 1 → b ≤ c
    → own_rows (of_lines a b callers) rows ++ own_rows (of_lines (b + 1) c callers) rows ≡ own_rows (of_lines a c callers) rows

-- so many rows at most stand above a part
abbrev pub FewStand : Type 0
FewStand = (part : Part) (rows : List Box) → length (rows_above part rows) ≤ 97

-- the page so far, of these rows, which are at their ends
pub record IsSettled (p : Page) (rows : List Box) : Type 0 where
  pub count : p.count ≡ length (own_rows p.part rows)
  pub above : map standing_of p.above.items ≡ stood none_stand (rows_before p.part rows)
  pub own : keeps p.part.lines p.count ≡ true → boxes_of p.own.items ≡ own_rows p.part rows

-- the page so far, of these lines: the last row may still grow
pub record IsPageOf (p : Page) (lines : List Box) : Type 0 where
  pub settled : List Box
  pub rows : rows_of lines ≡ settled ++ row_in (box_in p.last)
  pub first : p.last ≡ None → settled ≡ []
  pub is : IsSettled p settled
  pub read : p.lines ≡ length lines
  pub few : p.count ≤ p.lines
  pub times : (row : Row) → p.last ≡ Some row → row.times ≤ p.lines
