use Rattle.std.proofs.Common.{rules, ◌≡◌, ◌<◌, ◌≤◌, ◌+◌, ◌*◌, ◌++◌, ◌∷◌, [], length, length-append, drop, slice_index_or, IfOk, OnOk, sym, ap, ◌∙◌, arith, subst, append_assoc}
use Rattle.std.specs.Prelude.{All}
use Rattle.std.proofs.lemmas.List.{length_push}
use Rattle.std.proofs.Math.Seq.{get_or-append_seam}
use Rattle.std.specs.Fork.{slice_chunk}
use Rattle.std.specs.Vec.Iter.{into_iter_items}
use Rattle.work_text.specs.Pieces.{ArePieces}
use Rattle.work_text.specs.Reports.{row_lines, RowFits}
use Rattle.work_text.proofs.PieceLaws.{chunk-first, chunk-fits, none-behind, none-fits}
use Rattle.work_text.proofs.report.put_pieces.Goals as goal

pub loop-piece-init : goal.loop-piece-init
loop-piece-init c =
    record {
      all = search rules;
      len = search rules;
      fits = λ size rows ps h. let none : 0 * size ≡ 0 = omega arith in subst (λ k. All RowFits (drop k rows)) none h;
      put = search rules;
    }

pub loop-piece-preserved : goal.loop-piece-preserved
loop-piece-preserved c =
    let at = c.loop-piece in
    let x = c.in-Some.piece in
    let rest = into_iter_items c.next.new.self in
    let pieces = into_iter_items c.into_iter-piece-iterator.result in
    let steps : into_iter_items at.piece-iterator ≡ x ∷ rest = c.in-Some.ensures.steps.0 in
    let all : at.yielded ++ x ∷ rest ≡ pieces = ap (λ l. at.yielded ++ l) (sym steps) ∙ at.invariant.all in
    let here : slice_index_or pieces (length at.yielded) x ≡ x = ap (λ l. slice_index_or l (length at.yielded) x) (sym all) ∙ get_or-append_seam at.yielded x rest x in
    let many = ap length (sym all) ∙ length-append at.yielded (x ∷ rest) in
    let lt : length at.yielded < length pieces = omega (arith, many) in
    record {
      all = append_assoc at.yielded (x ∷ []) rest ∙ all;
      len = (let was = at.invariant.len in let gone = c.in-Some.ensures.steps.1 in let short = ap length steps in omega arith);
      fits = λ size rows ps behind.
          let n = length at.yielded in
          let chunk : All RowFits (slice_chunk rows size n) = subst (λ r. OnOk r (All RowFits (slice_chunk rows size n))) (here ∙ c.in_ok-piece.was) (ps.fits n x lt) in
          let next : length (at.yielded ++ x ∷ []) * size ≡ n * size + size = ap (λ k. k * size) (length_push at.yielded x) ∙ (omega arith) in
          at.invariant.fits size rows ps (chunk-fits size n rows chunk (subst (λ k. All RowFits (drop k rows)) next behind));
      put = λ size rows ps.
          let n = length at.yielded in
          let made = subst (λ r. IfOk r (λ t. t.items ≡ row_lines (slice_chunk rows size n))) (here ∙ c.in_ok-piece.was) (ps.each n x lt) in
          let pushed : c.extend_from_slice.new.self.items ≡ at.text.items ++ row_lines (slice_chunk rows size n) =
          c.in_ok-extend_from_slice.ensures.items ∙ ap (λ l. at.text.items ++ l) (c.as_slice.ensures.value ∙ made) in
          let next : length (at.yielded ++ x ∷ []) * size ≡ n * size + size = ap (λ k. k * size) (length_push at.yielded x) ∙ (omega arith) in
          ap (λ l. l ++ row_lines (drop (length (at.yielded ++ x ∷ []) * size) rows)) pushed
          ∙ (append_assoc (at.text.items) (row_lines (slice_chunk rows size n)) (row_lines (drop (length (at.yielded ++ x ∷ []) * size) rows))
          ∙ (ap (λ k. at.text.items ++ (row_lines (slice_chunk rows size n) ++ row_lines (drop k rows))) next
          ∙ (ap (λ l. at.text.items ++ l) (chunk-first size n rows) ∙ at.invariant.put size rows ps)));
    }

pub returns-clause-fits : goal.returns-clause-fits
returns-clause-fits c size rows ps =
    let at = c.loop-piece in
    let gives = c.into_iter-piece-iterator.ensures.into_iter_gives.0 in
    let over = c.in-None.ensures.steps.0 in
    let len = at.invariant.len in
    let all = ap length at.invariant.all ∙ ap length gives in
    let both = length-append at.yielded (into_iter_items at.piece-iterator) in
    let every : length at.yielded ≡ length c.args.pieces.items = omega (arith, over, len, all, both) in
    let last : length rows ≤ length at.yielded * size = subst (λ n. length rows ≤ n * size) (sym every) ps.all in
    at.invariant.fits size rows (subst (λ l. ArePieces (λ t. t.items) size rows l) (sym gives) ps) (none-fits (length at.yielded * size) rows last)

pub returns-clause-text : goal.returns-clause-text
returns-clause-text c size rows ps =
    let at = c.loop-piece in
    let gives = c.into_iter-piece-iterator.ensures.into_iter_gives.0 in
    let over = c.in-None.ensures.steps.0 in
    let len = at.invariant.len in
    let all = ap length at.invariant.all ∙ ap length gives in
    let both = length-append at.yielded (into_iter_items at.piece-iterator) in
    let every : length at.yielded ≡ length c.args.pieces.items = omega (arith, over, len, all, both) in
    let last : length rows ≤ length at.yielded * size = subst (λ n. length rows ≤ n * size) (sym every) ps.all in
    sym (none-behind (length at.yielded * size) rows (at.text.items) last)
    ∙ at.invariant.put size rows (subst (λ l. ArePieces (λ t. t.items) size rows l) (sym gives) ps)
