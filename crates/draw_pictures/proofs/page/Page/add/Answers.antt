use Rattle.std.proofs.Common.{◌≡◌, ◌+◌, ◌++◌, [], ◌∷◌, length, refl, sym, ap, subst, ◌∙◌, arith, length-append, append_assoc, true, false}
use Rattle.draw_pictures.specs.declared.row.Row.{Row}
use Rattle.draw_pictures.specs.Rows.{joins, joined, pushed}
use Rattle.draw_pictures.specs.Shapes.{Box, box_of}
use Rattle.draw_pictures.specs.Parts.{IsSettled}
use Rattle.draw_pictures.specs.Standing.{box_in, row_in}
use Rattle.draw_pictures.proofs.Paging.{rows_of-more, none-is, pushed-last, row-is}
use Rattle.draw_pictures.proofs.page.Page.add.Goals as goal

pub overflow_add-self-then-joins : goal.overflow_add-self-then-joins
overflow_add-self-then-joins c =
    let few = c.requires.few in
    let times = c.requires.is.1.times c.in-Some.last c.in-Some.is in
    omega (arith, few, times)

pub settle-requires : goal.settle-requires
settle-requires c = let few = c.requires.few in let less = c.requires.is.1.few in omega (arith, few, less)

pub returns-then-joins-clause-is : goal.returns-then-joins-clause-is
returns-then-joins-clause-is c = λ lines p.
    let last = c.in-Some.last in
    let n = length-append lines (box_of (record { number = length lines + 1; times = 1; step = c.args.step }) ∷ []) in
    let few = p.few in
    let read = p.read in
    let times = p.times last c.in-Some.is in
    let now = c.if-joins.true in
    let b : Box = box_of (record { number = length lines + 1; times = 1; step = c.args.step }) in
    let same : box_of (record { number = c.args.self.now.lines + 1; times = 1; step = c.args.step }) ≡ b = ap (λ k. box_of (record { number = k + 1; times = 1; step = c.args.step })) read in
    let meet : joins (box_of last) b ≡ true = ap (joins (box_of last)) (sym same) ∙ (sym c.joins.ensures ∙ now) in
    record {
      settled = p.settled;
      rows = rows_of-more lines b
          ∙ (ap (λ l. pushed l b) (p.rows ∙ ap (λ o. p.settled ++ row_in (box_in o)) c.in-Some.is)
          ∙ (pushed-last p.settled (box_of last) b ∙ ap (λ l. p.settled ++ l) (rw meet refl)));
      first = λ e. absurd cc;
      is = record { count = p.is.count; above = p.is.above; own = p.is.own };
      read = omega (arith, n, read);
      few = omega (arith, few);
      times = λ row e. (let is = row-is _ row e in let t : row.times ≡ last.times + 1 = ap (λ (r : Row). r.times) (sym is) in omega (arith, t, times));
    }

pub returns-clause-is : goal.returns-clause-is
returns-clause-is c = λ lines p.
    let last = c.in-Some.last in
    let b : Box = box_of (record { number = length lines + 1; times = 1; step = c.args.step }) in
    let n = length-append lines (b ∷ []) in
    let few = p.few in
    let read = p.read in
    let same : box_of (record { number = c.args.self.now.lines + 1; times = 1; step = c.args.step }) ≡ b = ap (λ k. box_of (record { number = k + 1; times = 1; step = c.args.step })) read in
    let apart : joins (box_of last) b ≡ false = ap (joins (box_of last)) (sym same) ∙ (sym c.joins.ensures ∙ c.if-joins.false) in
    let settled = c.in_ok-settle.ensures.is p.settled (record { count = p.is.count; above = p.is.above; own = p.is.own }) in
    let count = c.in_ok-settle.ensures.count in
    let counted = c.settle.ensures.lines in
    record {
      settled = p.settled ++ box_of last ∷ [];
      rows = rows_of-more lines b
          ∙ (ap (λ l. pushed l b) (p.rows ∙ ap (λ o. p.settled ++ row_in (box_in o)) c.in-Some.is)
          ∙ (pushed-last p.settled (box_of last) b ∙ (ap (λ l. p.settled ++ l) (let t : joined (box_of last) b ≡ box_of last ∷ b ∷ [] = rw apart refl in t)
          ∙ (sym (append_assoc p.settled (box_of last ∷ []) (b ∷ [])) ∙ ap (λ x. (p.settled ++ box_of last ∷ []) ++ x ∷ []) (sym same)))));
      first = λ e. absurd cc;
      is = record { count = settled.count; above = settled.above; own = settled.own };
      read = omega (arith, n, read, counted);
      few = omega (arith, few, count, counted);
      times = λ row e. (let is = row-is _ row e in let t : row.times ≡ 1 = ap (λ (r : Row). r.times) (sym is) in omega (arith, t, counted));
    }

pub returns-in_default-clause-is : goal.returns-in_default-clause-is
returns-in_default-clause-is c = λ lines p.
    let b : Box = box_of (record { number = length lines + 1; times = 1; step = c.args.step }) in
    let n = length-append lines (b ∷ []) in
    let few = p.few in
    let read = p.read in
    let none = none-is c.args.self.now.last c.in_default.not-Some in
    let empty = p.first none in
    let same : box_of (record { number = c.args.self.now.lines + 1; times = 1; step = c.args.step }) ≡ b = ap (λ k. box_of (record { number = k + 1; times = 1; step = c.args.step })) read in
    record {
      settled = [];
      rows = rows_of-more lines b
          ∙ (ap (λ l. pushed l b) (p.rows ∙ ((λ i. empty i ++ row_in (box_in (none i))))) ∙ ap (λ x. x ∷ []) (sym same));
      first = λ e. refl;
      is = (let s = subst (IsSettled c.args.self.now) empty p.is in record { count = s.count; above = s.above; own = s.own });
      read = omega (arith, n, read);
      few = omega (arith, few);
      times = λ row e. (let is = row-is _ row e in let t : row.times ≡ 1 = ap (λ (r : Row). r.times) (sym is) in omega (arith, t));
    }
