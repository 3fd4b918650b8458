-- The lines of all rows are those of the chunks, one after the other.
use Rattle.std.proofs.Common.{ℕ, ◌≡◌, ◌≤◌, ◌+◌, ◌*◌, List, [], ◌∷◌, ◌++◌, length, take, drop, refl, sym, ap, ◌∙◌, subst, append_assoc}
use Rattle.std.specs.Prelude.{All}
use Rattle.std.specs.Fork.{slice_chunk}
use Rattle.std.proofs.lemmas.List.{append-nil, take-append-drop, drop-drop, drop_all}
use Rattle.std.proofs.lemmas.List.Elements.{All-append, All-nil}
use Rattle.work_script.specs.declared.report.Row.{Row}
use Rattle.work_text.specs.Reports.{row_line, row_lines, RowFits}

lines-append : (rs ss : List Row) → row_lines (rs ++ ss) ≡ row_lines rs ++ row_lines ss
lines-append [] ss = refl
lines-append (r ∷ rs) ss = ap (λ l. row_line r ++ l) (lines-append rs ss) ∙ sym (append_assoc (row_line r) (row_lines rs) (row_lines ss))

-- the rows from chunk n on are those of chunk n and those after it
pub chunk-first : (size n : ℕ) (rows : List Row) → row_lines (slice_chunk rows size n) ++ row_lines (drop (n * size + size) rows) ≡ row_lines (drop (n * size) rows)
chunk-first size n rows =
    let rest = drop (n * size) rows in
    ap (λ (l : List Row). row_lines (slice_chunk rows size n) ++ row_lines l) (sym (drop-drop size (n * size) rows))
    ∙ (sym (lines-append (take size rest) (drop size rest)) ∙ ap row_lines (take-append-drop size rest))

pub chunk-fits : (size n : ℕ) (rows : List Row) → All RowFits (slice_chunk rows size n) → All RowFits (drop (n * size + size) rows) → All RowFits (drop (n * size) rows)
chunk-fits size n rows chunk behind =
    let rest = drop (n * size) rows in
    let others = subst (λ (l : List Row). All RowFits l) (sym (drop-drop size (n * size) rows)) behind in
    subst (λ (l : List Row). All RowFits l) (take-append-drop size rest) (All-append RowFits (take size rest) (drop size rest) chunk others)

-- after the last chunk there is none
pub none-behind : (n : ℕ) (rows : List Row) (text : List ℕ) → length rows ≤ n → text ++ row_lines (drop n rows) ≡ text
none-behind n rows text le = ap (λ (l : List Row). text ++ row_lines l) (drop_all n rows le) ∙ append-nil text

pub none-fits : (n : ℕ) (rows : List Row) → length rows ≤ n → All RowFits (drop n rows)
none-fits n rows le = subst (λ (l : List Row). All RowFits l) (sym (drop_all n rows le)) (All-nil RowFits)
