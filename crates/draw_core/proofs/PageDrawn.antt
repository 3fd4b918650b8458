-- What a page shows, by what it was made of.
use Rattle.std.proofs.Common.{ℕ, ◌≡◌, List, ◌++◌, map, true, refl, ap, subst, ◌∙◌, arith}
use Rattle.std.specs.Prelude.{Option, Some, None, leb}
use Rattle.std.specs.List.{filter}
use Rattle.std.proofs.lemmas.Bool.Decides.{nat_tests}
use Rattle.draw_pictures.specs.declared.page.Page.{Page}
use Rattle.draw_pictures.specs.declared.part.Lines.{Lines}
use Rattle.draw_pictures.specs.declared.part.TheConstants.{MOST_BOXES}
use Rattle.draw_pictures.specs.declared.picture.Leaf.{Leaf}
use Rattle.draw_pictures.specs.declared.row.Row.{Row}
use Rattle.draw_pictures.specs.declared.step.Step.{Step}
use Rattle.draw_pictures.specs.Markup.{IsMarkup}
use Rattle.draw_core.specs.Outcomes.{IsDrawn, boxes_in, leaf_of, page_boxes, rows_in}
use Rattle.draw_pictures.specs.Parts.{is_shown, keeps, leaf_by, rows_above, IsFew, IsSettled}
use Rattle.draw_pictures.specs.Shapes.{boxes_of}
use Rattle.draw_pictures.specs.Standing.{standing_of, standing_rows}
use Rattle.draw_pictures.specs.Texts.{svg_of}

-- what may be drawn is kept
few-kept : (r : Option Lines) (n : ℕ) → IsFew r n → keeps r n ≡ true
few-kept None n few = let t : leb n MOST_BOXES ≡ true = grind (arith, nat_tests, few) in t
few-kept (Some r) n few = refl

module _ (p : Page) (steps : List Step) (s : IsSettled p (rows_in steps)) where
  -- the rows above, those with the part's own, and the picture's leaf
  pub drawn-by : (above rows : List Row) (leaf : Leaf) (said : List ℕ) → IsFew p.part.lines p.count
      → boxes_of above ≡ filter (is_shown p.part) (standing_rows (map standing_of p.above.items)) → boxes_of rows ≡ boxes_of above ++ boxes_of p.own.items
      → leaf ≡ leaf_by p.part (boxes_of above) → said ≡ svg_of leaf (boxes_of rows) → IsMarkup said → IsDrawn steps p.part said
  drawn-by above rows leaf said few stands all shows is markup =
      let shown : boxes_of above ≡ rows_above p.part (rows_in steps) = stands ∙ ap (λ ss. filter (is_shown p.part) (standing_rows ss)) s.above in
      let own : boxes_of p.own.items ≡ boxes_in p.part steps = s.own (few-kept p.part.lines p.count few) in
      let boxes : boxes_of rows ≡ page_boxes p.part steps = all ∙ (λ i. shown i ++ own i) in
      let same : leaf ≡ leaf_of p.part steps = shows ∙ ap (leaf_by p.part) shown in
      record {
        few = subst (IsFew p.part.lines) s.count few;
        is = is ∙ (λ i. svg_of (same i) (boxes i));
        markup = markup;
      }
