-- Each part of a picture is markup.
use Rattle.std.proofs.Common.{ℕ, ◌≡◌, ◌+◌, ◌-◌, ◌*◌, ◌/◌, List, zero, suc, [], ◌∷◌, ◌++◌, Bool, true, false, refl, subst, ◌∙◌, append_assoc}
use Rattle.std.specs.Prelude.{if◌then◌else◌, ltb, leb, ◌==◌, length, Option, Some, None, codes, bytes_eq}
use Rattle.std.specs.Fmt.{decimal}
use Rattle.stm_model.specs.Algorithms.{alg_name}
use Rattle.stm_model.specs.declared.alg.Alg.{Alg}
use Rattle.draw_pictures.specs.declared.part.Lines.{Lines}
use Rattle.draw_pictures.specs.declared.picture.Leaf.{Leaf}
use Rattle.draw_pictures.specs.declared.row.Row.{Row}
use Rattle.draw_pictures.specs.declared.kind.Kind.{Kind}
use Rattle.draw_pictures.specs.declared.kind.Kind.TheVariants.{Begins}
use Rattle.draw_pictures.specs.declared.picture.Sheet.{Sheet}
use Rattle.draw_pictures.specs.declared.shape.Shape.{Shape}
use Rattle.draw_pictures.specs.declared.shape.Shape.TheVariants.{Lane, Closed, Installed, Attempt, Irrevocable, Clock}
use Rattle.draw_pictures.specs.declared.shape.Layer.{Layer}
use Rattle.draw_pictures.specs.declared.shape.Layer.TheVariants.{Lanes, Closings, Installs as Installings, Attempts, Promotions, Clocks}
use Rattle.draw_pictures.specs.Kinds.{class_of, is_finish}
use Rattle.draw_pictures.specs.Markup.{Words, Attributes, Value, reads_on, IsMarkup}
use Rattle.draw_pictures.specs.Shown.{shown_words, title_bytes, words_bytes}
use Rattle.draw_pictures.specs.Shapes.{Box, box_of, boxes_of, shape_at}
use Rattle.draw_pictures.specs.Texts.{place_bytes, size_bytes, rect_bytes, open_bytes, close_bytes, left, top, tall, edge, shape_bytes, closed_bytes, installed_bytes, part_bytes, layer_bytes, squeezed, head_at, heads_bytes, lane_bytes, clock_bytes, deep, box_rect, label_bytes, row_bytes, box_bytes, boxes_bytes, said_on, turn_bytes, number_bytes, lines_bytes, page_width, page_height, style_bytes, legend_bytes, view_bytes, page_bytes, naming_bytes, titled_bytes, name_bytes, axis_bytes, head_bytes, foot_bytes, drawing_bytes, svg_of, sheet_of}
use Rattle.draw_pictures.proofs.Marking.{all_calm, Calm, calm, calm-append, calm-decimal, calm-keeps, shown-calm, Keeps, keeps-none, keeps-append, onto, past-value, past-words}
use Rattle.draw_pictures.proofs.Labelling.{alg-calm, label-calm}

class-test : (k : Kind) → all_calm (class_of k) ≡ true
class-test (Begins alg) = refl
class-test kind = refl

class-calm : (k : Kind) → Calm (class_of k)
class-calm k = calm (class_of k) (class-test k)

-- a rectangle

module _ (tags : List (List ℕ)) (class kind : List ℕ) (x y width height : ℕ) (c : Calm class) (k : Calm kind) where
  place-reads : reads_on (Some (Words tags)) (place_bytes class kind x y) ≡ Some (Value tags (codes "rect"))
  place-reads =
      past-value tags (codes "rect") class (codes " " ++ (kind ++ (codes "' x='" ++ (decimal x ++ (codes "' y='" ++ decimal y))))) c
      ∙ (past-value tags (codes "rect") kind (codes "' x='" ++ (decimal x ++ (codes "' y='" ++ decimal y))) k
      ∙ (past-value tags (codes "rect") (decimal x) (codes "' y='" ++ decimal y) (calm-decimal x)
      ∙ (calm-decimal y).value tags (codes "rect")))

  size-reads : reads_on (Some (Value tags (codes "rect"))) (size_bytes width height) ≡ Some (Words tags)
  size-reads =
      past-value tags (codes "rect") (decimal width) (codes "' height='" ++ (decimal height ++ codes "' rx='4'/>\n")) (calm-decimal width)
      ∙ past-value tags (codes "rect") (decimal height) (codes "' rx='4'/>\n") (calm-decimal height)

  whole-reads : reads_on (Some (Words tags)) (place_bytes class kind x y ++ size_bytes width height) ≡ Some (Words tags)
  whole-reads = onto (Some (Words tags)) (place_bytes class kind x y) (size_bytes width height) (Some (Value tags (codes "rect"))) place-reads ∙ size-reads

rect-keeps : (class kind : List ℕ) (x y width height : ℕ) → Calm class → Calm kind → Keeps (rect_bytes class kind x y width height)
unfolding rect_bytes
rect-keeps class kind x y width height c k = record { keeps = λ tags. whole-reads tags class kind x y width height c k }

-- words, with their tags

-- more attributes, each with its value
record More (bs : List ℕ) : Type 0 where
  pub on : (tags : List (List ℕ)) (name : List ℕ) → reads_on (Some (Attributes tags name)) bs ≡ Some (Attributes tags name)

none-more : More []
none-more = record { on = λ tags name. refl }

squeezed-by : (b : Bool) → More (if b then codes " textLength='184' lengthAdjust='spacingAndGlyphs'" else [])
squeezed-by true = record { on = λ tags name. refl }
squeezed-by false = none-more

squeezed-more : (words : List ℕ) → More (squeezed words)
squeezed-more words = squeezed-by (ltb 29 (length words))

opening-reads : (tags : List (List ℕ)) (class kind : List ℕ) (x y : ℕ) (more : List ℕ) → Calm class → Calm kind → More more
    → reads_on (Some (Words tags)) (open_bytes class kind x y more) ≡ Some (Words (codes "text" ∷ tags))
unfolding open_bytes
opening-reads tags class kind x y more c k m =
    past-value tags (codes "text") class (codes " " ++ (kind ++ (codes "' x='" ++ (decimal x ++ (codes "' y='" ++ (decimal y ++ (codes "'" ++ (more ++ codes ">")))))))) c
    ∙ (past-value tags (codes "text") kind (codes "' x='" ++ (decimal x ++ (codes "' y='" ++ (decimal y ++ (codes "'" ++ (more ++ codes ">")))))) k
    ∙ (past-value tags (codes "text") (decimal x) (codes "' y='" ++ (decimal y ++ (codes "'" ++ (more ++ codes ">")))) (calm-decimal x)
    ∙ (past-value tags (codes "text") (decimal y) (codes "'" ++ (more ++ codes ">")) (calm-decimal y)
    ∙ onto (Some (Attributes tags (codes "text"))) more (codes ">") (Some (Attributes tags (codes "text"))) (m.on tags (codes "text")))))

-- with what leaves open what was open, and with words alone
text-holds : (class kind : List ℕ) (x y : ℕ) (more inner : List ℕ) → Calm class → Calm kind → More more → Keeps inner → Keeps (open_bytes class kind x y more ++ (inner ++ close_bytes))
text-holds class kind x y more inner c k m w = record {
  keeps = λ tags.
      onto (Some (Words tags)) (open_bytes class kind x y more) (inner ++ close_bytes) (Some (Words (codes "text" ∷ tags))) (opening-reads tags class kind x y more c k m)
      ∙ onto (Some (Words (codes "text" ∷ tags))) inner close_bytes (Some (Words (codes "text" ∷ tags))) (w.keeps (codes "text" ∷ tags));
}

text-keeps : (class kind : List ℕ) (x y : ℕ) (more words : List ℕ) → Calm class → Calm kind → More more → Calm words → Keeps (open_bytes class kind x y more ++ (words ++ close_bytes))
text-keeps class kind x y more words c k m w = text-holds class kind x y more words c k m (calm-keeps words w)

titled-by : (b : Bool) (words : List ℕ) → Calm words → Keeps (if b then [] else codes "<title>" ++ (words ++ codes "</title>"))
titled-by true words c = keeps-none
titled-by false words c = record { keeps = λ tags. past-words (codes "title" ∷ tags) words (codes "</title>") c }

words-keep : (words : List ℕ) → Calm words → Keeps (words_bytes words)
words-keep words c =
    keeps-append (title_bytes words (shown_words words)) (shown_words words) (titled-by (bytes_eq (shown_words words) words) words c) (calm-keeps (shown_words words) (shown-calm words c))

-- the shapes

plain : Calm (codes "words")
plain = calm (codes "words") refl

head-keeps : (s : Sheet) (lane y : ℕ) → Keeps (head_at s lane y)
unfolding head_at
head-keeps s lane y =
    text-keeps (codes "head") (codes "words") (left s lane + 108) y [] (codes "caller " ++ decimal lane) (calm (codes "head") refl) plain
    none-more (calm-append (codes "caller ") (decimal lane) (calm (codes "caller ") refl) (calm-decimal lane))

heads-keep : (s : Sheet) (lane blocks : ℕ) → Keeps (heads_bytes s lane blocks)
heads-keep s lane zero = keeps-none
heads-keep s lane (suc blocks) =
    keeps-append (heads_bytes s lane blocks) (head_at s lane (top ((blocks + 1) * 40) - 8)) (heads-keep s lane blocks) (head-keeps s lane (top ((blocks + 1) * 40) - 8))

lane-keeps : (s : Sheet) (lane : ℕ) → Keeps (lane_bytes s lane)
unfolding lane_bytes
lane-keeps s lane =
    keeps-append (rect_bytes (codes "lane") (codes "shape") (left s lane + 2) 36 212 (deep s * 24 + 16)) (head_at s lane 28 ++ heads_bytes s lane ((s.rows - 1) / 40))
    (rect-keeps (codes "lane") (codes "shape") (left s lane + 2) 36 212 (deep s * 24 + 16) (calm (codes "lane") refl) (calm (codes "shape") refl))
    (keeps-append (head_at s lane 28) (heads_bytes s lane ((s.rows - 1) / 40)) (head-keeps s lane 28) (heads-keep s lane ((s.rows - 1) / 40)))

clock-keeps : (row time : ℕ) → Keeps (clock_bytes row time)
unfolding clock_bytes
clock-keeps row time =
    keeps-append (rect_bytes (codes "tick") (codes "shape") 126 (top row + 8) 8 8) (open_bytes (codes "clock") (codes "words") 120 (top row + 16) [] ++ (words_bytes (decimal time) ++ close_bytes))
    (rect-keeps (codes "tick") (codes "shape") 126 (top row + 8) 8 8 (calm (codes "tick") refl) (calm (codes "shape") refl))
    (text-holds (codes "clock") (codes "words") 120 (top row + 16) [] (words_bytes (decimal time)) (calm (codes "clock") refl) plain none-more (words-keep (decimal time) (calm-decimal time)))

closed-keeps : (s : Sheet) (lane from more : ℕ) → Keeps (closed_bytes s lane from more)
unfolding closed_bytes
closed-keeps s lane from more =
    keeps-append (rect_bytes (codes "closed") (codes "shape") 130 (top from) (s.lanes * 216 + 16) (tall from more + 2))
    (open_bytes (codes "side") (codes "words") (edge s + 14) (top from + 16) []
    ++ (codes "gate closed by " ++ (decimal lane ++ close_bytes)))
    (rect-keeps (codes "closed") (codes "shape") 130 (top from) (s.lanes * 216 + 16) (tall from more + 2) (calm (codes "closed") refl) (calm (codes "shape") refl))
    (text-keeps (codes "side") (codes "words") (edge s + 14) (top from + 16) [] (codes "gate closed by " ++ decimal lane)
    (calm (codes "side") refl) plain none-more
    (calm-append (codes "gate closed by ") (decimal lane) (calm (codes "gate closed by ") refl) (calm-decimal lane)))

installed-keeps : (s : Sheet) (row : ℕ) (alg : Alg) → Keeps (installed_bytes s row alg)
unfolding installed_bytes
installed-keeps s row alg =
    keeps-append (rect_bytes (codes "installed") (codes "shape") 130 (top row + 23) (s.lanes * 216 + 16) 2)
    (open_bytes (codes "side") (codes "words") (edge s + 14) (top row + 28) [] ++ (alg_name alg ++ codes " from here</text>\n"))
    (rect-keeps (codes "installed") (codes "shape") 130 (top row + 23) (s.lanes * 216 + 16) 2 (calm (codes "installed") refl) (calm (codes "shape") refl))
    (subst (λ (t : List ℕ). Keeps (open_bytes (codes "side") (codes "words") (edge s + 14) (top row + 28) [] ++ t)) (append_assoc (alg_name alg) (codes " from here") close_bytes)
    (text-keeps (codes "side") (codes "words") (edge s + 14) (top row + 28) [] (alg_name alg ++ codes " from here")
    (calm (codes "side") refl) plain none-more
    (calm-append (alg_name alg) (codes " from here") (alg-calm alg) (calm (codes " from here") refl))))

shape-keeps : (s : Sheet) (shape : Shape) → Keeps (shape_bytes s shape)
unfolding shape_bytes
shape-keeps s (Lane lane) = lane-keeps s lane
shape-keeps s (Closed lane from more) = closed-keeps s lane from more
shape-keeps s (Installed row alg) = installed-keeps s row alg
shape-keeps s (Attempt lane from more kind) = rect-keeps (codes "attempt") (class_of kind) (left s lane + 4) (top from + 1) 208 (tall from more) (calm (codes "attempt") refl) (class-calm kind)
shape-keeps s (Irrevocable lane from more) = rect-keeps (codes "sure") (codes "shape") (left s lane + 4) (top from + 1) 6 (tall from more) (calm (codes "sure") refl) (calm (codes "shape") refl)
shape-keeps s (Clock row time) = clock-keeps row time

part-keeps : (s : Sheet) (shape : Option Shape) → Keeps (part_bytes s shape)
part-keeps s None = keeps-none
part-keeps s (Some shape) = shape-keeps s shape

layer-keeps : (s : Sheet) (y : Layer) (row : ℕ) (bs : List Box) → Keeps (layer_bytes s y row bs)
layer-keeps s y row [] = keeps-none
layer-keeps s y row (b ∷ bs) = keeps-append (part_bytes s (shape_at y row b bs)) (layer_bytes s y (row + 1) bs) (part-keeps s (shape_at y row b bs)) (layer-keeps s y (row + 1) bs)

-- the boxes

either : (p : Bool) (xs ys : List ℕ) → Keeps xs → Keeps ys → Keeps (if p then xs else ys)
either true xs ys c d = c
either false xs ys c d = d

box-rect-keeps : (s : Sheet) (row : ℕ) (b : Box) → Keeps (box_rect s row b)
unfolding box_rect
box-rect-keeps s row b =
    either (is_finish b.kind) (rect_bytes (codes "box") (class_of b.kind) 134 (top row + 3) (s.lanes * 216 + 8) 18) (rect_bytes (codes "box") (class_of b.kind) (left s b.lane + 14) (top row + 3) 194 18)
    (rect-keeps (codes "box") (class_of b.kind) 134 (top row + 3) (s.lanes * 216 + 8) 18 (calm (codes "box") refl) (class-calm b.kind))
    (rect-keeps (codes "box") (class_of b.kind) (left s b.lane + 14) (top row + 3) 194 18 (calm (codes "box") refl) (class-calm b.kind))

said-by : (b : Bool) (words : List ℕ) (times : ℕ) → Calm words → Calm (if b then words else codes " idle " ++ (decimal times ++ codes " times"))
said-by true words times c = c
said-by false words times c =
    calm-append (codes " idle ") (decimal times ++ codes " times") (calm (codes " idle ") refl) (calm-append (decimal times) (codes " times") (calm-decimal times) (calm (codes " times") refl))

said-calm : (b : Box) → Calm b.label → Calm (said_on b)
said-calm b c = said-by (leb b.times 1) b.label b.times c

label-keeps : (s : Sheet) (row : ℕ) (b : Box) → Calm b.label → Keeps (label_bytes s row b)
unfolding label_bytes
label-keeps s row b c =
    text-holds (codes "label") (class_of b.kind) (left s b.lane + 19) (top row + 16) (squeezed (shown_words (said_on b))) (words_bytes (said_on b))
    (calm (codes "label") refl) (class-calm b.kind) (squeezed-more (shown_words (said_on b))) (words-keep (said_on b) (said-calm b c))

row-keeps : (row number : ℕ) → Keeps (row_bytes row number)
unfolding row_bytes
row-keeps row number = text-keeps (codes "row") (codes "words") 58 (top row + 16) [] (decimal number) (calm (codes "row") refl) plain none-more (calm-decimal number)

box-keeps : (s : Sheet) (row : ℕ) (b : Box) → Calm b.label → Keeps (box_bytes s row b)
unfolding box_bytes
box-keeps s row b c =
    keeps-append (box_rect s row b) (label_bytes s row b ++ row_bytes row b.number) (box-rect-keeps s row b)
    (keeps-append (label_bytes s row b) (row_bytes row b.number) (label-keeps s row b c) (row-keeps row b.number))

boxes-keep : (s : Sheet) (row : ℕ) (ls : List Row) → Keeps (boxes_bytes s row (boxes_of ls))
boxes-keep s row [] = keeps-none
boxes-keep s row (l ∷ ls) = keeps-append (box_bytes s row (box_of l)) (boxes_bytes s (row + 1) (boxes_of ls)) (box-keeps s row (box_of l) (label-calm l.step)) (boxes-keep s (row + 1) ls)

-- the page, and what stands around the lanes

abbrev page : List (List ℕ)
page = codes "svg" ∷ []

view-reads : (width height : ℕ) → reads_on (Some (Words [])) (view_bytes width height) ≡ Some (Value [] (codes "svg"))
unfolding view_bytes
view-reads width height =
    past-value [] (codes "svg") (decimal width) (codes " " ++ decimal height) (calm-decimal width)
    ∙ (calm-decimal height).value [] (codes "svg")

page-reads : (width height : ℕ) → reads_on (Some (Words [])) (page_bytes width height) ≡ Some (Words page)
unfolding page_bytes
page-reads width height =
    onto (Some (Words [])) (view_bytes width height) (codes "' width='" ++ (decimal width ++ (codes "' height='" ++ (decimal height ++ codes "'>\n")))) (Some (Value [] (codes "svg"))) (view-reads width height)
    ∙ (past-value [] (codes "svg") (decimal width) (codes "' height='" ++ (decimal height ++ codes "'>\n")) (calm-decimal width)
    ∙ past-value [] (codes "svg") (decimal height) (codes "'>\n") (calm-decimal height))

titled-keeps : (r : Lines) → Keeps (titled_bytes r)
unfolding titled_bytes
titled-keeps r = record {
  keeps = λ tags.
      past-words (codes "title" ∷ tags) (decimal r.first) (codes " to " ++ (decimal r.last ++ codes " of a trace</title>\n")) (calm-decimal r.first)
      ∙ past-words (codes "title" ∷ tags) (decimal r.last) (codes " of a trace</title>\n") (calm-decimal r.last);
}

naming-keeps : (r : Option Lines) → Keeps (naming_bytes r)
naming-keeps None = record { keeps = λ tags. refl }
naming-keeps (Some r) = titled-keeps r

lines-keep : (s : Sheet) (r : Lines) → Keeps (lines_bytes s r)
unfolding lines_bytes
lines-keep s r = record {
  keeps = λ tags.
      let now : List (List ℕ) = codes "text" ∷ tags in
      onto (Some (Words tags)) (open_bytes (codes "side") (codes "words") (edge s + 14) 28 [])
      (codes "lines " ++ (decimal r.first ++ (codes " to " ++ (decimal r.last ++ close_bytes)))) (Some (Words now))
      (opening-reads tags (codes "side") (codes "words") (edge s + 14) 28 [] (calm (codes "side") refl) plain none-more)
      ∙ (past-words now (decimal r.first) (codes " to " ++ (decimal r.last ++ close_bytes)) (calm-decimal r.first)
      ∙ past-words now (decimal r.last) close_bytes (calm-decimal r.last));
}

number-keeps : (s : Sheet) (r : Option Lines) → Keeps (number_bytes s r)
number-keeps s None = keeps-none
number-keeps s (Some r) = lines-keep s r

turn-keeps : (s : Sheet) → Keeps (turn_bytes s)
turn-keeps s =
    either (s.leaf.above == 0) [] (rect_bytes (codes "turn") (codes "shape") 130 (top s.leaf.above - 1) (s.lanes * 216 + 16) 2) keeps-none
    (rect-keeps (codes "turn") (codes "shape") 130 (top s.leaf.above - 1) (s.lanes * 216 + 16) 2 (calm (codes "turn") refl) (calm (codes "shape") refl))

style-reads : reads_on (Some (Words page)) style_bytes ≡ Some (Words page)
unfolding style_bytes
style-reads = refl

legend-reads : reads_on (Some (Words (codes "g" ∷ page))) legend_bytes ≡ Some (Words (codes "g" ∷ page))
unfolding legend_bytes
legend-reads = refl

name-keeps : (x : ℕ) (words : List ℕ) → Calm words → Keeps (name_bytes x words)
unfolding name_bytes
name-keeps x words w = text-keeps (codes "name") (codes "words") x 28 [] words (calm (codes "name") refl) plain none-more w

axis-keeps : (s : Sheet) → Keeps (axis_bytes s)
unfolding axis_bytes
axis-keeps s =
    keeps-append (rect_bytes (codes "axis") (codes "shape") 129 36 2 (deep s * 24 + 16)) (name_bytes 58 (codes "line") ++ name_bytes 120 (codes "clock"))
    (rect-keeps (codes "axis") (codes "shape") 129 36 2 (deep s * 24 + 16) (calm (codes "axis") refl) (calm (codes "shape") refl))
    (keeps-append (name_bytes 58 (codes "line")) (name_bytes 120 (codes "clock")) (name-keeps 58 (codes "line") (calm (codes "line") refl)) (name-keeps 120 (codes "clock") (calm (codes "clock") refl)))

head-reads : (s : Sheet) → reads_on (Some (Words [])) (head_bytes s) ≡ Some (Words page)
unfolding head_bytes
head-reads s =
    let page-rect : List ℕ = rect_bytes (codes "page") (codes "shape") 0 0 (page_width s) (page_height s) in
    let last : List ℕ = axis_bytes s ++ number_bytes s s.leaf.lines in
    onto (Some (Words [])) (page_bytes (page_width s) (page_height s))
    (naming_bytes s.leaf.lines ++ (style_bytes ++ (page-rect ++ last))) (Some (Words page))
    (page-reads (page_width s) (page_height s))
    ∙ (onto (Some (Words page)) (naming_bytes s.leaf.lines) (style_bytes ++ (page-rect ++ last)) (Some (Words page)) ((naming-keeps s.leaf.lines).keeps page)
    ∙ (onto (Some (Words page)) style_bytes (page-rect ++ last) (Some (Words page)) style-reads
    ∙ (keeps-append page-rect last
    (rect-keeps (codes "page") (codes "shape") 0 0 (page_width s) (page_height s) (calm (codes "page") refl) (calm (codes "shape") refl))
    (keeps-append (axis_bytes s) (number_bytes s s.leaf.lines) (axis-keeps s) (number-keeps s s.leaf.lines))).keeps page))

foot-reads : (s : Sheet) → reads_on (Some (Words page)) (foot_bytes s) ≡ Some (Words [])
unfolding foot_bytes
foot-reads s =
    past-value page (codes "g") (decimal (deep s * 24 + 66)) (codes ")'>\n" ++ (legend_bytes ++ codes "</g>\n</svg>\n")) (calm-decimal (deep s * 24 + 66))
    ∙ onto (Some (Words (codes "g" ∷ page))) legend_bytes (codes "</g>\n</svg>\n") (Some (Words (codes "g" ∷ page))) legend-reads

on-page : (xs ys : List ℕ) → reads_on (Some (Words [])) xs ≡ Some (Words page) → Keeps ys → reads_on (Some (Words [])) (xs ++ ys) ≡ Some (Words page)
on-page xs ys is c = onto (Some (Words [])) xs ys (Some (Words page)) is ∙ c.keeps page

module _ (s : Sheet) (ls : List Row) where
  abbrev over : Layer → List ℕ
  over y = layer_bytes s y 0 (boxes_of ls)

  drawing-is-markup : IsMarkup (drawing_bytes s (boxes_of ls))
  drawing-is-markup =
      let t1 : List ℕ = head_bytes s ++ over Lanes in
      let t2 : List ℕ = t1 ++ over Closings in
      let t3 : List ℕ = t2 ++ over Installings in
      let t4 : List ℕ = t3 ++ over Attempts in
      let t5 : List ℕ = t4 ++ over Promotions in
      let t6 : List ℕ = t5 ++ over Clocks in
      let t7 : List ℕ = t6 ++ boxes_bytes s 0 (boxes_of ls) in
      let r1 = on-page (head_bytes s) (over Lanes) (head-reads s) (layer-keeps s Lanes 0 (boxes_of ls)) in
      let r2 = on-page t1 (over Closings) r1 (layer-keeps s Closings 0 (boxes_of ls)) in
      let r3 = on-page t2 (over Installings) r2 (layer-keeps s Installings 0 (boxes_of ls)) in
      let r4 = on-page t3 (over Attempts) r3 (layer-keeps s Attempts 0 (boxes_of ls)) in
      let r5 = on-page t4 (over Promotions) r4 (layer-keeps s Promotions 0 (boxes_of ls)) in
      let r6 = on-page t5 (over Clocks) r5 (layer-keeps s Clocks 0 (boxes_of ls)) in
      let r7 = on-page t6 (boxes_bytes s 0 (boxes_of ls)) r6 (boxes-keep s 0 ls) in
      let t8 : List ℕ = t7 ++ turn_bytes s in
      let r8 = on-page t7 (turn_bytes s) r7 (turn-keeps s) in
      onto (Some (Words [])) t8 (foot_bytes s) (Some (Words page)) r8 ∙ foot-reads s

pub picture-is-markup : (leaf : Leaf) (ls : List Row) → IsMarkup (svg_of leaf (boxes_of ls))
picture-is-markup leaf ls = drawing-is-markup (sheet_of leaf (boxes_of ls)) ls
