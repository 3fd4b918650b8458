-- THE TEXT OF A DRAWING, as an SVG.
use Rattle.std.specs.Prelude.{ℕ, zero, suc, ◌+◌, ◌-◌, ◌*◌, ◌/◌, max, ltb, leb, ◌==◌, if◌then◌else◌, List, [], ◌∷◌, ◌++◌, length, Option, Some, None, codes}
use Rattle.std.specs.Fmt.{decimal}
use Rattle.stm_model.specs.Algorithms.{alg_name}
use Rattle.stm_model.specs.declared.alg.Alg.{Alg}
use Rattle.draw_pictures.specs.declared.picture.Leaf.{Leaf}
use Rattle.draw_pictures.specs.declared.picture.Sheet.{Sheet}
use Rattle.draw_pictures.specs.declared.shape.Shape.{Shape}
use Rattle.draw_pictures.specs.declared.shape.Shape.TheVariants.{Lane, Closed, Installed, Attempt, Irrevocable, Clock}
use Rattle.draw_pictures.specs.declared.shape.Layer.{Layer}
use Rattle.draw_pictures.specs.declared.shape.Layer.TheVariants.{Lanes, Closings, Installs as Installings, Attempts, Promotions, Clocks}
use Rattle.draw_pictures.specs.declared.style.TheConstants.{STYLE, LEGEND}
use Rattle.draw_pictures.specs.declared.part.Callers.{Callers}
use Rattle.draw_pictures.specs.declared.part.Lines.{Lines}
use Rattle.draw_pictures.specs.Kinds.{class_of, is_finish}
use Rattle.draw_pictures.specs.Parts.{below}
use Rattle.draw_pictures.specs.Shapes.{Box, shape_at}
use Rattle.draw_pictures.specs.Shown.{words_bytes, shown_words}

-- what is unfoldable here is opened only where the function that writes it is proved, and where it is shown to be
-- markup

-- a rectangle of two classes: where it lies, and how large it is
abbrev pub place_bytes : List ℕ → List ℕ → ℕ → ℕ → List ℕ
place_bytes class kind x y = codes "<rect class='" ++ (class ++ (codes " " ++ (kind ++ (codes "' x='" ++ (decimal x ++ (codes "' y='" ++ decimal y))))))

abbrev pub size_bytes : ℕ → ℕ → List ℕ
size_bytes width height = codes "' width='" ++ (decimal width ++ (codes "' height='" ++ (decimal height ++ codes "' rx='4'/>\n")))

unfoldable pub rect_bytes : List ℕ → List ℕ → ℕ → ℕ → ℕ → ℕ → List ℕ
rect_bytes class kind x y width height = place_bytes class kind x y ++ size_bytes width height

unfoldable pub open_bytes : List ℕ → List ℕ → ℕ → ℕ → List ℕ → List ℕ
open_bytes class kind x y more =
    codes "<text class='" ++ (class ++ (codes " " ++ (kind ++ (codes "' x='" ++ (decimal x ++ (codes "' y='" ++ (decimal y ++ (codes "'" ++ (more ++ codes ">")))))))))

abbrev pub close_bytes : List ℕ
close_bytes = codes "</text>\n"

-- a lane is 216 pixels wide, after 138 for the rows' numbers and the clock; a row is 24 high, after 44 for the heads,
-- which stand once more above every fortieth
-- lanes of callers that aren't drawn are left out
abbrev pub column : Option Callers → ℕ → ℕ
column None lane = lane
column (Some cs) lane = below cs.chosen lane

abbrev pub left : Sheet → ℕ → ℕ
left s lane = 138 + column s.leaf.callers lane * 216

abbrev pub top : ℕ → ℕ
top row = 44 + (row + row / 40) * 24

abbrev pub tall : ℕ → ℕ → ℕ
tall from more = 22 + (top (from + more) - top from)

-- how many lanes the boxes lie in
abbrev pub lanes_of : Option Callers → List Box → ℕ
lanes_of callers [] = 0
lanes_of callers (b ∷ bs) = max (column callers b.lane + 1) (lanes_of callers bs)

abbrev pub sheet_of : Leaf → List Box → Sheet
sheet_of leaf bs = record { lanes = lanes_of leaf.callers bs; rows = length bs; leaf = leaf }

-- where the lanes end
abbrev pub edge : Sheet → ℕ
edge s = 138 + s.lanes * 216

-- how many rows there are, with those of the heads
abbrev pub deep : Sheet → ℕ
deep s = s.rows + s.rows / 40

-- the head of a lane; and above each of so many blocks of forty rows
unfoldable pub head_at : Sheet → ℕ → ℕ → List ℕ
head_at s lane y = open_bytes (codes "head") (codes "words") (left s lane + 108) y [] ++ (codes "caller " ++ (decimal lane ++ close_bytes))

abbrev pub heads_bytes : Sheet → ℕ → ℕ → List ℕ
heads_bytes s lane zero = []
heads_bytes s lane (suc blocks) = heads_bytes s lane blocks ++ head_at s lane (top ((blocks + 1) * 40) - 8)

unfoldable pub lane_bytes : Sheet → ℕ → List ℕ
lane_bytes s lane =
    rect_bytes (codes "lane") (codes "shape") (left s lane + 2) 36 212 (deep s * 24 + 16)
    ++ (head_at s lane 28 ++ heads_bytes s lane ((s.rows - 1) / 40))

-- a time, which ends before the axis, and whose number is shortened as that of a box
unfoldable pub clock_bytes : ℕ → ℕ → List ℕ
clock_bytes row time =
    rect_bytes (codes "tick") (codes "shape") 126 (top row + 8) 8 8
    ++ (open_bytes (codes "clock") (codes "words") 120 (top row + 16) [] ++ (words_bytes (decimal time) ++ close_bytes))

-- the gate, closed across all lanes; and an install, a line across them
unfoldable pub closed_bytes : Sheet → ℕ → ℕ → ℕ → List ℕ
closed_bytes s lane from more =
    rect_bytes (codes "closed") (codes "shape") 130 (top from) (s.lanes * 216 + 16) (tall from more + 2)
    ++ (open_bytes (codes "side") (codes "words") (edge s + 14) (top from + 16) [] ++ (codes "gate closed by " ++ (decimal lane ++ close_bytes)))

unfoldable pub installed_bytes : Sheet → ℕ → Alg → List ℕ
installed_bytes s row alg =
    rect_bytes (codes "installed") (codes "shape") 130 (top row + 23) (s.lanes * 216 + 16) 2
    ++ (open_bytes (codes "side") (codes "words") (edge s + 14) (top row + 28) [] ++ (alg_name alg ++ codes " from here</text>\n"))

unfoldable pub shape_bytes : Sheet → Shape → List ℕ
shape_bytes s (Lane lane) = lane_bytes s lane
shape_bytes s (Closed lane from more) = closed_bytes s lane from more
shape_bytes s (Installed row alg) = installed_bytes s row alg
shape_bytes s (Attempt lane from more kind) = rect_bytes (codes "attempt") (class_of kind) (left s lane + 4) (top from + 1) 208 (tall from more)
shape_bytes s (Irrevocable lane from more) = rect_bytes (codes "sure") (codes "shape") (left s lane + 4) (top from + 1) 6 (tall from more)
shape_bytes s (Clock row time) = clock_bytes row time

abbrev pub part_bytes : Sheet → Option Shape → List ℕ
part_bytes s None = []
part_bytes s (Some shape) = shape_bytes s shape

-- A LAYER of the boxes, from this row on
abbrev pub layer_bytes : Sheet → Layer → ℕ → List Box → List ℕ
layer_bytes s y row [] = []
layer_bytes s y row (b ∷ bs) = part_bytes s (shape_at y row b bs) ++ layer_bytes s y (row + 1) bs

-- words that are too long for a box are made narrower
abbrev pub squeezed : List ℕ → List ℕ
squeezed words = if ltb 29 (length words) then codes " textLength='184' lengthAdjust='spacingAndGlyphs'" else []

-- a box lies in its lane; the line that ends the schedule goes across all
unfoldable pub box_rect : Sheet → ℕ → Box → List ℕ
box_rect s row b = if is_finish b.kind then rect_bytes (codes "box") (class_of b.kind) 134 (top row + 3) (s.lanes * 216 + 8) 18 else rect_bytes (codes "box") (class_of b.kind) (left s b.lane + 14) (top row + 3) 194 18

-- the words on a box: how many lines it is of, where they are more
abbrev pub said_on : Box → List ℕ
said_on b = if leb b.times 1 then b.label else codes " idle " ++ (decimal b.times ++ codes " times")

unfoldable pub label_bytes : Sheet → ℕ → Box → List ℕ
label_bytes s row b =
    open_bytes (codes "label") (class_of b.kind) (left s b.lane + 19) (top row + 16) (squeezed (shown_words (said_on b)))
    ++ (words_bytes (said_on b) ++ close_bytes)

-- the number of a line, beside its box
unfoldable pub row_bytes : ℕ → ℕ → List ℕ
row_bytes row number = open_bytes (codes "row") (codes "words") 58 (top row + 16) [] ++ (decimal number ++ close_bytes)

unfoldable pub box_bytes : Sheet → ℕ → Box → List ℕ
box_bytes s row b = box_rect s row b ++ (label_bytes s row b ++ row_bytes row b.number)

-- the boxes, from this row on
abbrev pub boxes_bytes : Sheet → ℕ → List Box → List ℕ
boxes_bytes s row [] = []
boxes_bytes s row (b ∷ bs) = box_bytes s row b ++ boxes_bytes s (row + 1) bs

-- a page wide enough for the legend too
abbrev pub page_width : Sheet → ℕ
page_width s = max 766 (edge s + 140)

abbrev pub page_height : Sheet → ℕ
page_height s = deep s * 24 + 116

unfoldable pub style_bytes : List ℕ
style_bytes = STYLE.now

unfoldable pub legend_bytes : List ℕ
legend_bytes = LEGEND.now

unfoldable pub view_bytes : ℕ → ℕ → List ℕ
view_bytes width height = codes "<svg xmlns='http://www.w3.org/2000/svg' role='img' viewBox='0 0 " ++ (decimal width ++ (codes " " ++ decimal height))

unfoldable pub page_bytes : ℕ → ℕ → List ℕ
page_bytes width height = view_bytes width height ++ (codes "' width='" ++ (decimal width ++ (codes "' height='" ++ (decimal height ++ codes "'>\n"))))

-- what the picture is, for who can't see it
unfoldable pub titled_bytes : Lines → List ℕ
titled_bytes r = codes "<title>Lines " ++ (decimal r.first ++ (codes " to " ++ (decimal r.last ++ codes " of a trace</title>\n")))

abbrev pub naming_bytes : Option Lines → List ℕ
naming_bytes None = codes "<title>A trace</title>\n"
naming_bytes (Some r) = titled_bytes r

-- which lines are drawn, where not all are
unfoldable pub lines_bytes : Sheet → Lines → List ℕ
lines_bytes s r = open_bytes (codes "side") (codes "words") (edge s + 14) 28 [] ++ (codes "lines " ++ (decimal r.first ++ (codes " to " ++ (decimal r.last ++ close_bytes))))

abbrev pub number_bytes : Sheet → Option Lines → List ℕ
number_bytes s None = []
number_bytes s (Some r) = lines_bytes s r

-- the line under the rows that stand above the page's own
abbrev pub turn_bytes : Sheet → List ℕ
turn_bytes s = if s.leaf.above == 0 then [] else rect_bytes (codes "turn") (codes "shape") 130 (top s.leaf.above - 1) (s.lanes * 216 + 16) 2

-- what stands over a column
unfoldable pub name_bytes : ℕ → List ℕ → List ℕ
name_bytes x words = open_bytes (codes "name") (codes "words") x 28 [] ++ (words ++ close_bytes)

unfoldable pub axis_bytes : Sheet → List ℕ
axis_bytes s = rect_bytes (codes "axis") (codes "shape") 129 36 2 (deep s * 24 + 16) ++ (name_bytes 58 (codes "line") ++ name_bytes 120 (codes "clock"))

unfoldable pub head_bytes : Sheet → List ℕ
head_bytes s =
    page_bytes (page_width s) (page_height s) ++ (naming_bytes s.leaf.lines ++ (style_bytes ++ (rect_bytes (codes "page") (codes "shape") 0 0 (page_width s) (page_height s) ++ (axis_bytes s ++ number_bytes s s.leaf.lines))))

unfoldable pub foot_bytes : Sheet → List ℕ
foot_bytes s = codes "<g transform='translate(138," ++ (decimal (deep s * 24 + 66) ++ (codes ")'>\n" ++ (legend_bytes ++ codes "</g>\n</svg>\n")))

-- the layers one on the other, after this text
abbrev pub layers_onto : List ℕ → Sheet → List Box → List ℕ
layers_onto text s bs =
    (((((text
    ++ layer_bytes s Lanes 0 bs)
    ++ layer_bytes s Closings 0 bs)
    ++ layer_bytes s Installings 0 bs)
    ++ layer_bytes s Attempts 0 bs)
    ++ layer_bytes s Promotions 0 bs)
    ++ layer_bytes s Clocks 0 bs

-- THE TEXT of the boxes and of what they tell together
abbrev pub drawing_bytes : Sheet → List Box → List ℕ
drawing_bytes s bs = ((layers_onto (head_bytes s) s bs ++ boxes_bytes s 0 bs) ++ turn_bytes s) ++ foot_bytes s

abbrev pub svg_of : Leaf → List Box → List ℕ
svg_of leaf bs = drawing_bytes (sheet_of leaf bs) bs
