-- THE DRAWING: a box for each line of the trace, and the shapes that its lines tell together.
use Rattle.std.specs.Prelude.{ℕ, ◌+◌, ◌-◌, ◌==◌, min, Bool, true, false, ◌&&◌, ltb, if◌then◌else◌, List, [], ◌∷◌, length, take, drop, Option, Some, None}
use Rattle.stm_model.specs.Algorithms.{closes_gate, irrevocable_under}
use Rattle.stm_model.specs.declared.alg.Alg.{Alg}
use Rattle.work_trace.specs.declared.line.Line.{Line}
use Rattle.work_trace.specs.declared.line.Line.TheVariants.{Of, Finish}
use Rattle.draw_pictures.specs.declared.kind.Kind.{Kind}
use Rattle.draw_pictures.specs.declared.kind.Kind.TheVariants.{Begins, Commits, Closes, Installs}
use Rattle.draw_pictures.specs.declared.shape.Shape.{Shape}
use Rattle.draw_pictures.specs.declared.shape.Shape.TheVariants.{Lane, Closed, Installed, Attempt, Irrevocable, Clock}
use Rattle.draw_pictures.specs.declared.shape.Layer.{Layer}
use Rattle.draw_pictures.specs.declared.shape.Layer.TheVariants.{Lanes, Closings, Installs as Installings, Attempts, Promotions, Clocks}
use Rattle.draw_pictures.specs.declared.shape.Sought.{Sought}
use Rattle.draw_pictures.specs.declared.shape.Sought.TheVariants.{Any, End, Promotion, Holding, Opening}
use Rattle.draw_pictures.specs.declared.row.Row.{Row}
use Rattle.draw_pictures.specs.declared.step.Step.{Step}
use Rattle.draw_pictures.specs.Kinds.{kind_of, ends_attempt, is_finish, is_holding, is_opening, is_promotion}
use Rattle.draw_pictures.specs.Labels.{label_of}

-- a box: the caller in whose lane it lies, what it is, the words on it, its line's number in the trace, and how many
-- lines it is of; its row is its place in the list
pub record Box : Type 0 where
  pub lane : ℕ
  pub kind : Kind
  pub label : List ℕ
  pub number : ℕ
  pub times : ℕ

abbrev pub lane_of : Line → ℕ
lane_of (Of caller said) = caller
lane_of Finish = 0

abbrev pub box_of : Row → Box
box_of row = record { lane = lane_of row.step.line; kind = kind_of row.step.line; label = label_of row.step; number = row.number; times = row.times }

abbrev pub boxes_of : List Row → List Box
boxes_of [] = []
boxes_of (row ∷ rows) = box_of row ∷ boxes_of rows

-- ONE BOX A LINE: those of a trace, whose first line has this number
abbrev pub line_box : ℕ → Step → Box
line_box number step = box_of (record { number = number; times = 1; step = step })

abbrev pub line_boxes : ℕ → List Step → List Box
line_boxes number [] = []
line_boxes number (step ∷ steps) = line_box number step ∷ line_boxes (number + 1) steps

abbrev pub meets : Sought → Kind → Bool
meets Any kind = if is_finish kind then false else true
meets End kind = ends_attempt kind
meets Promotion kind = is_promotion kind
meets Holding kind = is_holding kind
meets Opening kind = is_opening kind

abbrev pub is_by : Sought → ℕ → Box → Bool
is_by sought lane b = (b.lane == lane) && meets sought b.kind

-- how many boxes come before the first of this caller that is looked for; all where none is
abbrev pub before : Sought → ℕ → List Box → ℕ
before sought lane [] = 0
before sought lane (b ∷ bs) = if is_by sought lane b then 0 else before sought lane bs + 1

-- how many rows follow the first, up to and with the one that so many come before
abbrev pub more : ℕ → List Box → ℕ
more k bs = min (k + 1) (length bs)

abbrev pub ended_by : Alg → List Box → Kind
ended_by alg [] = Begins alg
ended_by alg (b ∷ bs) = b.kind

-- an attempt lasts up to its caller's next line that ends one
abbrev pub attempt_at : ℕ → ℕ → Alg → List Box → Shape
attempt_at row lane alg bs =
    let k : ℕ = before End lane bs in
    Attempt lane row (more k bs) (ended_by alg (drop k bs))

-- the part of an attempt from its first line that is looked for on
abbrev pub part : Sought → ℕ → ℕ → List Box → Option (ℕ × ℕ)
part sought row lane bs =
    let k : ℕ = before End lane bs in
    let m : ℕ = before sought lane (take k bs) in
    if ltb m k then Some (row + 1 + m, more k bs - (m + 1)) else None

abbrev pub closed_part : ℕ → Option (ℕ × ℕ) → Option Shape
closed_part lane None = None
closed_part lane (Some p) = Some (Closed lane p.0 p.1)

abbrev pub irrevocable_part : ℕ → Option (ℕ × ℕ) → Option Shape
irrevocable_part lane None = None
irrevocable_part lane (Some p) = Some (Irrevocable lane p.0 p.1)

-- the gate closed: by a closing until it is opened again, or by an attempt that asks to be irrevocable until its end
abbrev pub closing_at : ℕ → ℕ → Kind → List Box → Option Shape
closing_at row lane Closes bs = Some (Closed lane row (more (before Opening lane bs) bs))
closing_at row lane (Begins alg) bs = if closes_gate alg then closed_part lane (part Holding row lane bs) else None
closing_at row lane kind bs = None

-- an attempt is irrevocable from its begin, or from the line that says so
abbrev pub promotion_at : ℕ → ℕ → Kind → List Box → Option Shape
promotion_at row lane (Begins alg) bs =
    if irrevocable_under alg false false then Some (Irrevocable lane row (more (before End lane bs) bs)) else irrevocable_part lane (part Promotion row lane bs)
promotion_at row lane kind bs = None

-- no box of this caller is left
abbrev pub is_over : ℕ → List Box → Bool
is_over lane bs = before Any lane bs == length bs

-- a caller's lane, at its last line
abbrev pub lane_at : Box → List Box → Option Shape
lane_at b bs = if meets Any b.kind && is_over b.lane bs then Some (Lane b.lane) else None

abbrev pub install_at : ℕ → Kind → Option Shape
install_at row (Installs alg) = Some (Installed row alg)
install_at row kind = None

abbrev pub begin_at : ℕ → ℕ → Kind → List Box → Option Shape
begin_at row lane (Begins alg) bs = Some (attempt_at row lane alg bs)
begin_at row lane kind bs = None

abbrev pub clock_at : ℕ → Kind → Option Shape
clock_at row (Commits time) = Some (Clock row time)
clock_at row kind = None

-- the shape of a layer at a box in this row, where these boxes follow
abbrev pub shape_at : Layer → ℕ → Box → List Box → Option Shape
shape_at Lanes row b bs = lane_at b bs
shape_at Closings row b bs = closing_at row b.lane b.kind bs
shape_at Installings row b bs = install_at row b.kind
shape_at Attempts row b bs = begin_at row b.lane b.kind bs
shape_at Promotions row b bs = promotion_at row b.lane b.kind bs
shape_at Clocks row b bs = clock_at row b.kind
