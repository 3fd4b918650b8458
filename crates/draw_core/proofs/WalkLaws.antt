-- A walk, line by line.
use Rattle.std.proofs.Common.{ℕ, suc, ◌≡◌, ◌+◌, List, [], ◌∷◌, ◌++◌, length, false, refl, sym, ap, subst, ◌∙◌, arith, append_assoc, append-nil, length-append}
use Rattle.std.specs.Prelude.{Option, Some, None, is_some, option_map, Result, Ok, Err}
use Rattle.work_script.specs.declared.workload.Item.{Item}
use Rattle.work_script.specs.declared.workload.Workload.{Workload}
use Rattle.work_trace.specs.declared.line.Line.{Line}
use Rattle.draw_core.specs.declared.cursor.Cursor.{Cursor}
use Rattle.draw_core.specs.declared.misfit.Unfit.{Unfit}
use Rattle.draw_pictures.specs.declared.step.Step.{Step}
use Rattle.draw_core.specs.declared.walk.Walk.{Walk}
use Rattle.draw_pictures.specs.Shapes.{Box, line_box, line_boxes}
use Rattle.work_trace.specs.declared.said.Phase.{Phase}
use Rattle.draw_pictures.specs.Parts.{IsPageOf}
use Rattle.draw_core.specs.Phases.{first_phases}
use Rattle.draw_core.specs.Walks.{along_of, callers_in, first_in, first_stands, go_on, goes_along, next_step, version_in, Along, AreWithin, AreWithinOf, stands_in, stands_of, told_steps, walked, workload_in, HasWalked, IsWalkBy}

line-in : Option Unfit → ℕ → ℕ
line-in None d = d
line-in (Some u) d = u.line

same-line : (v u : Unfit) → Some v ≡ Some u → v.line ≡ u.line
unfolding line-in
same-line v u e = ap (λ o. line-in o v.line) e

pub along-some : (w : Option Workload) (steps : List Step) (k : ℕ) (cs ds : List Cursor) (ps qs : List Phase) (line : Line) (s : Step) (more : List Line)
    → next_step w cs ps line ≡ Some (s, along_of w ds qs) → goes_along w steps k cs ps (line ∷ more) ≡ goes_along w (steps ++ s ∷ []) (k + 1) ds qs more
along-some w steps k cs ds ps qs line s more e = ap (λ (o : Option (Step × Along)). go_on o k (λ went. walked (version_in w) (steps ++ went.0 ∷ []) (k + 1) went.1 more)) e

pub along-none : (w : Option Workload) (steps : List Step) (k : ℕ) (cs : List Cursor) (ps : List Phase) (line : Line) (more : List Line)
    → next_step w cs ps line ≡ None → goes_along w steps k cs ps (line ∷ more) ≡ Err k
along-none w steps k cs ps line more e = ap (λ (o : Option (Step × Along)). go_on o k (λ went. walked (version_in w) (steps ++ went.0 ∷ []) (k + 1) went.1 more)) e

pub length-line-boxes : (k : ℕ) (steps : List Step) → length (line_boxes k steps) ≡ length steps
length-line-boxes k [] = refl
length-line-boxes k (s ∷ steps) = ap suc (length-line-boxes (k + 1) steps)

pub line-boxes-more : (k : ℕ) (steps : List Step) (s : Step) → line_boxes k (steps ++ s ∷ []) ≡ line_boxes k steps ++ line_box (k + length steps) s ∷ []
line-boxes-more k [] s = ap (λ n. line_box n s ∷ []) (let e : k ≡ k + 0 = omega arith in e)
line-boxes-more k (t ∷ steps) s =
    ap (λ l. line_box k t ∷ l)
    (line-boxes-more (k + 1) steps s ∙ ap (λ n. line_boxes (k + 1) steps ++ line_box n s ∷ []) (let e : k + 1 + length steps ≡ k + suc (length steps) = omega arith in e))

-- by whether a line didn't fit

pub none-by : (o : Option Unfit) → ((u : Unfit) → o ≡ Some u → ⊥) → o ≡ None
none-by None h = refl
none-by (Some u) h = absurd (h u refl)

pub walked-so-far : (m : Option Unfit) (walk : Walk) (lines : List Line) → is_some m ≡ false → IsWalkBy m walk lines → HasWalked walk lines
walked-so-far None walk lines e h = h
walked-so-far (Some k) walk lines e h = absurd cc

-- a walk's first line, and its last one

first-stands-of : (w : Option Workload) (cs : List Cursor) → ((items : List Item) → stands_of items 0 cs ≡ first_stands items (callers_in w)) → stands_in w cs ≡ first_in w
first-stands-of None cs are = refl
first-stands-of (Some w) cs are = are w.items

first-along : (w : Option Workload) (above : ℕ) (cs : List Cursor) (ps : List Phase) → ((items : List Item) → stands_of items 0 cs ≡ first_stands items (callers_in w)) → ps ≡ first_phases
    → (more : List Line) → told_steps w above more ≡ goes_along w [] (above + 0 + 1) cs ps more
first-along w above cs ps are phases more =
    let at : above + 1 ≡ above + 0 + 1 = omega arith in
    let stands : stands_in w cs ≡ first_in w = first-stands-of w cs are in
    (λ i. walked (version_in w) [] (at i) (let here : Along = record { stands = sym stands i; phases = sym phases i } in here) more)

first-within-of : (w : Option Workload) (cs : List Cursor) → ((items : List Item) → AreWithin items cs) → AreWithinOf w cs
first-within-of None cs within = tt
first-within-of (Some w) cs within = within w.items

pub first-walk : (walk : Walk) → IsPageOf walk.page [] → walk.phases.items ≡ first_phases → ((items : List Item) → stands_of items 0 walk.cursors.items ≡ first_stands items (callers_in (workload_in walk)))
    → ((items : List Item) → AreWithin items walk.cursors.items) → HasWalked walk []
first-walk walk page phases are within = record {
  steps = [];
  along = first-along (workload_in walk) walk.above walk.cursors.items walk.phases.items are phases;
  within = first-within-of (workload_in walk) walk.cursors.items within;
  page = page;
}

pub walked-all : (walk : Walk) (lines : List Line) (h : HasWalked walk lines) → told_steps (workload_in walk) walk.above lines ≡ Ok h.steps
walked-all walk lines h =
    ap (told_steps (workload_in walk) walk.above) (sym (append-nil lines))
    ∙ h.along []

pub unfit-all : (m : Option Unfit) (u : Unfit) (walk : Walk) (lines : List Line) → m ≡ Some u → IsWalkBy m walk lines → told_steps (workload_in walk) walk.above lines ≡ Err u.line
unfit-all None u walk lines e h = absurd cc
unfit-all (Some v) u walk lines e h =
    let same = same-line v u e in
    ap (told_steps (workload_in walk) walk.above) (sym (append-nil lines)) ∙ (h [] ∙ ap (λ n. (let r : Result (List Step) ℕ = Err n in r)) same)

-- one line more

pub walk-more : (walk now : Walk) (lines : List Line) (line : Line) (step : Step) → now.workload ≡ walk.workload → now.above ≡ walk.above → HasWalked walk lines
    → next_step (workload_in walk) walk.cursors.items walk.phases.items line ≡ Some (step, along_of (workload_in walk) now.cursors.items now.phases.items)
    → AreWithinOf (workload_in walk) now.cursors.items
    → ((boxes : List Box) → IsPageOf walk.page boxes → IsPageOf now.page (boxes ++ line_box (length boxes + 1) step ∷ []))
    → HasWalked now (lines ++ line ∷ [])
walk-more walk now lines line step same up h next within page =
    let w : Option Workload = workload_in walk in
    let same-w : workload_in now ≡ w = ap (option_map (λ b. b.now)) same in
    let steps : List Step = h.steps ++ step ∷ [] in
    let count = length-append h.steps (step ∷ []) in
    let at : walk.above + length h.steps + 1 + 1 ≡ walk.above + length steps + 1 = omega (arith, count) in
    let boxes : List Box = line_boxes 1 h.steps in
    let long : length boxes ≡ length h.steps = length-line-boxes 1 h.steps in
    let number : length boxes + 1 ≡ 1 + length h.steps = omega (arith, long) in
    let paged : IsPageOf now.page (line_boxes 1 steps) =
    subst (IsPageOf now.page) (ap (λ n. boxes ++ line_box n step ∷ []) number ∙ sym (line-boxes-more 1 h.steps step)) (page boxes h.page) in
    let along : (more : List Line) → told_steps w walk.above ((lines ++ line ∷ []) ++ more) ≡ goes_along w steps (walk.above + length steps + 1) now.cursors.items now.phases.items more =
    λ more.
    ap (told_steps w walk.above) (append_assoc lines (line ∷ []) more)
    ∙ (h.along (line ∷ more)
    ∙ (along-some w h.steps (walk.above + length h.steps + 1) walk.cursors.items now.cursors.items walk.phases.items now.phases.items line step more next
    ∙ ap (λ k. goes_along w steps k now.cursors.items now.phases.items more) at)) in
    record {
      steps = steps;
      along = λ more.
          (λ i. told_steps (same-w i) (up i) ((lines ++ line ∷ []) ++ more))
          ∙ (along more ∙ (λ i. goes_along (sym same-w i) steps (sym up i + length steps + 1) now.cursors.items now.phases.items more));
      within = subst (λ (o : Option Workload). AreWithinOf o now.cursors.items) (sym same-w) within;
      page = paged;
    }

-- one that may not come
pub walk-stops : (walk now : Walk) (lines : List Line) (line : Line) (k : ℕ) → now.workload ≡ walk.workload → now.above ≡ walk.above → (h : HasWalked walk lines)
    → next_step (workload_in walk) walk.cursors.items walk.phases.items line ≡ None → k ≡ walk.above + length h.steps + 1
    → (more : List Line) → told_steps (workload_in now) now.above ((lines ++ line ∷ []) ++ more) ≡ Err k
walk-stops walk now lines line k same up h next at = λ more.
    let w : Option Workload = workload_in walk in
    let same-w : workload_in now ≡ w = ap (option_map (λ b. b.now)) same in
    (λ i. told_steps (same-w i) (up i) ((lines ++ line ∷ []) ++ more))
    ∙ (ap (told_steps w walk.above) (append_assoc lines (line ∷ []) more)
    ∙ (h.along (line ∷ more)
    ∙ (along-none w h.steps (walk.above + length h.steps + 1) walk.cursors.items walk.phases.items line more next ∙ ap (λ n. (let r : Result (List Step) ℕ = Err n in r)) (sym at))))

pub first-walk-of : (walk : Walk) (callers : ℕ) → IsPageOf walk.page [] → walk.phases.items ≡ first_phases → callers ≡ callers_in (workload_in walk)
    → ((items : List Item) → stands_of items 0 walk.cursors.items ≡ first_stands items callers) → ((items : List Item) → AreWithin items walk.cursors.items) → HasWalked walk []
first-walk-of walk callers page phases same are within = first-walk walk page phases (λ items. are items ∙ ap (first_stands items) same) within

pub walked-by : (m : Option Unfit) (walk : Walk) (lines : List Line) → m ≡ None → IsWalkBy m walk lines → HasWalked walk lines
walked-by None walk lines e h = h
walked-by (Some k) walk lines e h = absurd cc

pub walk-by : (m : Option Unfit) (walk : Walk) (lines : List Line) → is_some m ≡ false → HasWalked walk lines → IsWalkBy m walk lines
walk-by None walk lines e h = h
walk-by (Some k) walk lines e h = absurd cc
