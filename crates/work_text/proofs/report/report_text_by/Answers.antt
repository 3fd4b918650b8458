use Rattle.std.proofs.Common.{rules, ◌≡◌, ◌<◌, ◌≤◌, ◌*◌, ◌++◌, length, slice_index_or, IfOk, OnOk, codes, sym, ap, ◌∙◌, arith, subst, append_assoc}
use Rattle.std.specs.Prelude.{All}
use Rattle.std.proofs.lemmas.Grind.{div_ceil_times}
use Rattle.work_text.specs.Pieces.{ArePieces}
use Rattle.work_text.specs.Reports.{row_lines, memory_lines, RowFits, PairFits}
use Rattle.work_text.proofs.report.report_text_by.Goals as goal

pub returns : goal.returns
returns g c =
    let rows = c.as_slice-rows.result.now in
    let size = c.max-size.result in
    let pieces = c.in_ok-pieces.pieces in
    let cut = c.in_ok-pieces.ensures in
    let some : 0 < size = (let most = c.max-size.ensures in omega (arith, most)) in
    let all : length rows ≤ length pieces.items * size = subst (λ n. length rows ≤ n * size) (sym cut.len ∙ pieces.ok.0) (div_ceil_times (length rows) size some).0 in
    let are : ArePieces (λ t. t.items) size rows pieces.items = record {
      each = λ n d lt.
          let at = (cut.each n d lt).1 in
          let call = at.call in
          let lines : IfOk (slice_index_or pieces.items n d) (λ t. t.items ≡ row_lines at.argument.now) = search rules in
          subst (λ l. IfOk (slice_index_or pieces.items n d) (λ t. t.items ≡ row_lines l)) at.argument_is.value lines;
      fits = λ n d lt.
          let at = (cut.each n d lt).1 in
          let call = at.call in
          let words : OnOk (slice_index_or pieces.items n d) (All RowFits at.argument.now) = search rules in
          subst (λ l. OnOk (slice_index_or pieces.items n d) (All RowFits l)) at.argument_is.value words;
      all = all;
    } in
    let rows-fit : All RowFits c.args.report.now.rows = subst (λ l. All RowFits l) c.as_slice-rows.ensures (c.in_ok-put_pieces.ensures.fits size rows are) in
    let memory-fits : All PairFits c.args.report.now.memory = subst (λ l. All PairFits l) c.as_slice.ensures c.in_ok-put_memory.ensures.fits in
    let put = c.in_ok-put_pieces.ensures.text size rows are in
    let title : c.extend_from_slice.new.self.items ≡ codes "report 1\n" = search rules in
    let start : c.put_pieces.new.text.items ≡ codes "report 1\n" ++ row_lines c.args.report.now.rows = put ∙ (ap (λ l. l ++ row_lines rows) title ∙ ap (λ l. codes "report 1\n" ++ row_lines l) c.as_slice-rows.ensures) in
    let memory : c.put_memory.new.text.items ≡ codes "report 1\n" ++ (row_lines c.args.report.now.rows ++ memory_lines c.args.report.now.memory) =
    c.in_ok-put_memory.ensures.text ∙ (ap (λ l. l ++ memory_lines c.as_slice.result.now) start ∙ ap (λ l. codes "report 1\n" ++ (row_lines c.args.report.now.rows ++ memory_lines l)) c.as_slice.ensures) in
    record {
      fits = record { rows = rows-fit; memory = memory-fits };
      text =
          c.in_ok-extend_from_slice-2.ensures.items
          ∙ (ap (λ l. l ++ codes "end\n") memory
          ∙ ap (λ l. codes "report 1\n" ++ l)
          (append_assoc (row_lines c.args.report.now.rows) (memory_lines c.args.report.now.memory) (codes "end\n")));
    }
