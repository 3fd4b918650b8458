-- The text of a picture, line by line.
use Rattle.std.proofs.Common.{ℕ, ◌≡◌, ◌+◌, ◌-◌, List, ◌∷◌, ◌++◌, length, take, drop, sym, ap, ◌∙◌, append_assoc}
use Rattle.std.proofs.lemmas.List.{take_rest}
use Rattle.draw_pictures.specs.declared.row.Row.{Row}
use Rattle.draw_pictures.specs.declared.picture.Sheet.{Sheet}
use Rattle.draw_pictures.specs.declared.shape.Layer.{Layer}
use Rattle.draw_pictures.specs.Shapes.{box_of, boxes_of, shape_at}
use Rattle.draw_pictures.specs.Texts.{part_bytes, layer_bytes}

-- a layer's text goes on after a line
pub layer-step : (s : Sheet) (y : Layer) (i : ℕ) (ls : List Row) (l : Row) (before text : List ℕ) → drop i ls ≡ l ∷ drop (i + 1) ls
    → text ≡ before ++ part_bytes s (shape_at y i (box_of l) (boxes_of (take (length ls - (i + 1)) (drop (i + 1) ls))))
    → text ++ layer_bytes s y (i + 1) (boxes_of (drop (i + 1) ls)) ≡ before ++ layer_bytes s y i (boxes_of (drop i ls))
layer-step s y i ls l before text cut is =
    let one : text ≡ before ++ part_bytes s (shape_at y i (box_of l) (boxes_of (drop (i + 1) ls))) = is ∙ ap (λ (x : List Row). before ++ part_bytes s (shape_at y i (box_of l) (boxes_of x))) (take_rest ls (i + 1)) in
    ap (λ t. t ++ layer_bytes s y (i + 1) (boxes_of (drop (i + 1) ls))) one
    ∙ (append_assoc before (part_bytes s (shape_at y i (box_of l) (boxes_of (drop (i + 1) ls)))) (layer_bytes s y (i + 1) (boxes_of (drop (i + 1) ls)))
    ∙ sym (ap (λ (x : List Row). before ++ layer_bytes s y i (boxes_of x)) cut))
