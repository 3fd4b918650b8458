use Rattle.std.proofs.Common.{◌≡◌, ◌+◌, List, [], ◌∷◌, ◌++◌, length, sym, ap, subst, false, ◌∙◌, arith}
use Rattle.std.specs.Prelude.{is_some}
use Rattle.work_trace.specs.declared.line.Line.{Line}
use Rattle.draw_core.specs.declared.walk.Walk.{Walk}
use Rattle.draw_pictures.specs.declared.page.Page.{Page}
use Rattle.draw_pictures.specs.Parts.{IsPageOf}
use Rattle.draw_pictures.specs.Shapes.{Box, line_box}
use Rattle.draw_core.specs.Walks.{IsWalk}
use Rattle.draw_core.proofs.ReadLaws.{ok-then}
use Rattle.draw_core.proofs.WalkLaws.{length-line-boxes, walk-by, walk-more, walk-stops, walked-so-far}
use Rattle.draw_core.proofs.walk.Walk.step.Goals as goal

pub returns-in_default-clause-is : goal.returns-in_default-clause-is
returns-in_default-clause-is c = λ lines w.
    let walk = c.args.self.now in
    let now = c.next.new.self in
    let same = c.next.ensures.same in
    let h = walked-so-far walk.misfit walk lines (sym c.is_some.ensures ∙ c.if-is_some.false) w in
    let read = h.page.read in
    let long = length-line-boxes 1 h.steps in
    let up : now.above ≡ walk.above = ap (λ (x : Walk). x.above) same in
    let told : now.page.lines ≡ walk.page.lines = ap (λ (x : Walk). x.page.lines) same in
    let line = c.unfit.ensures.line in
    walk-stops walk now lines c.args.line c.unfit.result.line (ap (λ (x : Walk). x.workload) same) up h c.in_default.ensures.is (omega (arith, up, told, read, long, line))

pub returns-clause-is : goal.returns-clause-is
returns-clause-is c =
    let walk = c.args.self.now in
    let n = c.next.new.self in
    let same = c.next.ensures.same in
    let line = c.args.line in
    let step = c.in-Some.step in
    let none : is_some walk.misfit ≡ false = sym c.is_some.ensures ∙ c.if-is_some.false in
    let now : Walk = record { workload = n.workload; above = n.above; cursors = n.cursors; phases = n.phases; page = c.add.new.self; misfit = n.misfit } in
    ok-then c.add.result ((boxes : List Box) → IsPageOf n.page boxes → IsPageOf c.add.new.self (boxes ++ line_box (length boxes + 1) step ∷ []))
    ((lines : List Line) → IsWalk walk lines → IsWalk now (lines ++ line ∷ [])) c.add.ensures.is
    (λ f lines w.
    walk-by now.misfit now (lines ++ line ∷ []) (ap (λ (x : Walk). is_some x.misfit) same ∙ none)
    (walk-more walk now lines line step (ap (λ (x : Walk). x.workload) same) (ap (λ (x : Walk). x.above) same) (walked-so-far walk.misfit walk lines none w)
    c.in-Some.ensures.is c.in-Some.ensures.within (λ boxes p. f boxes (subst (λ (x : Page). IsPageOf x boxes) (sym (ap (λ (x : Walk). x.page) same)) p))))
