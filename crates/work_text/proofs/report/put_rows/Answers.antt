use Rattle.std.proofs.Common.{rules, List, ◌≡◌, ◌<◌, ◌+◌, ◌∷◌, ◌++◌, length, drop, sym, ap, ◌∙◌, append_assoc}
use Rattle.std.proofs.lemmas.List.{drop_more}
use Rattle.std.proofs.lemmas.List.Elements.{AllWithin-more, at_read}
use Rattle.work_script.specs.declared.report.Row.{Row}
use Rattle.work_text.specs.Reports.{row_line, row_lines, RowFits}
use Rattle.work_text.proofs.report.put_rows.Goals as goal

pub loop-row-preserved : goal.loop-row-preserved
loop-row-preserved c =
    let rows = c.args.rows.now in
    let i = c.loop-row.row-index in
    let row = c.row-item.result in
    let before = c.loop-row.text.items in
    let more : i < length rows = search rules in
    let here = at_read rows RowFits i row more c.row-item.is c.in_ok-put_row.ensures.fits in
    let left : drop i rows ≡ row ∷ drop (i + 1) rows = drop_more rows i row more ∙ ap (λ (x : Row). x ∷ drop (i + 1) rows) (sym c.row-item.is) in
    record {
      fits = AllWithin-more RowFits rows 0 i c.loop-row.invariant.fits here;
      text =
          ap (λ l. l ++ row_lines (drop (i + 1) rows)) c.in_ok-put_row.ensures.text
          ∙ (append_assoc before (row_line row) (row_lines (drop (i + 1) rows))
          ∙ (ap (λ (l : List Row). before ++ row_lines l) (sym left) ∙ c.loop-row.invariant.text));
    }
