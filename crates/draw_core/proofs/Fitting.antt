-- The lines of a trace that fits a workload are of its callers, and an operation's are of one on the memory.
use Rattle.std.proofs.Common.{ℕ, zero, suc, ◌≡◌, ◌≤◌, List, [], ◌∷◌, ◌++◌, length, length-set, inl, inr, refl, sym, ap, subst, ◌∙◌, arith}
use Rattle.std.specs.Prelude.{◌⊎◌, map, Some}
use Rattle.std.proofs.lemmas.List.{get_or-replicate}
use Rattle.work_trace.specs.declared.said.Phase.{Phase}
use Rattle.work_trace.specs.declared.said.Phase.TheVariants.{Between}
use Rattle.stm_model.specs.declared.config.TheConstants.{MAX_CALLERS}
use Rattle.work_check.specs.Texts.{ReportIsRead}
use Rattle.work_script.specs.declared.report.Row.{Row}
use Rattle.work_script.specs.declared.workload.Go.{Go}
use Rattle.work_script.specs.declared.workload.Header.{Header}
use Rattle.work_script.specs.declared.workload.Workload.{Workload}
use Rattle.work_script.specs.Reports.{counted}
use Rattle.work_trace.specs.declared.line.Line.{Line}
use Rattle.work_trace.specs.declared.line.Line.TheVariants.{Of, Finish}
use Rattle.work_trace.specs.declared.said.Said.{Said}
use Rattle.work_trace.specs.declared.said.Said.TheVariants.{TryBegin, Reply, Stopped, TryCancel, TryIrrevocable, TryCommit, TryClose, Looked, Installed, Reserved, Idle, Dropped, Reopened}
use Rattle.work_trace.specs.Fits.{Path, Scheduled, Winding, Finishing, IsWhole, IsCut, AreOverBelow, first_place, first_places, place_of, says}
use Rattle.work_trace.specs.Places.{CallerProgress, after}
use Rattle.work_trace.specs.Turns.{MaySay, MayWind, MayFinish}
use Rattle.draw_core.specs.Statements.{IsOfMemory, LinesFit, IsTraceOf, StepIsDrawn}
use Rattle.draw_core.specs.Phases.{first_phases, passed_all}
use Rattle.draw_core.proofs.Passing.{Agree, Passing, finish-comes, passes-both, path-passes, say-comes, wind-comes}
use Rattle.draw_core.proofs.Tracing.{trace-is-walked}

-- what may be said is of an operation on the memory

may-say : (at : CallerProgress) (said : Said) → MaySay at said → IsOfMemory said
may-say at (TryBegin b) m = tt
may-say at (Reply op reply) m = m.1
may-say at (Stopped op stop) m = m.1
may-say at (TryCancel c) m = tt
may-say at (TryIrrevocable r) m = tt
may-say at (TryCommit c) m = tt
may-say at (TryClose c) m = tt
may-say at (Looked l) m = tt
may-say at (Installed alg) m = tt
may-say at (Reserved reads writes) m = tt
may-say at Idle m = tt
may-say at Dropped m = tt
may-say at Reopened m = tt

may-wind : (at : CallerProgress) (said : Said) → MayWind at said → IsOfMemory said
may-wind at (TryBegin b) m = tt
may-wind at (Reply op reply) m = m.2.1
may-wind at (Stopped op stop) m = m.2.1
may-wind at (TryCancel c) m = tt
may-wind at (TryIrrevocable r) m = tt
may-wind at (TryCommit c) m = tt
may-wind at (TryClose c) m = tt
may-wind at (Looked l) m = tt
may-wind at (Installed alg) m = tt
may-wind at (Reserved reads writes) m = tt
may-wind at Idle m = tt
may-wind at Dropped m = tt
may-wind at Reopened m = tt

may-finish : (at : CallerProgress) (said : Said) → MayFinish at said → IsOfMemory said
may-finish at (TryBegin b) m = tt
may-finish at (Reply op reply) m = m.1
may-finish at (Stopped op stop) m = m.1
may-finish at (TryCancel c) m = tt
may-finish at (TryIrrevocable r) m = tt
may-finish at (TryCommit c) m = tt
may-finish at (TryClose c) m = tt
may-finish at (Looked l) m = tt
may-finish at (Installed alg) m = tt
may-finish at (Reserved reads writes) m = tt
may-finish at Idle m = tt
may-finish at Dropped m = tt
may-finish at Reopened m = tt

-- a path's lines fit, and it leaves as many places
pub record Fitting (places : List CallerProgress) (lines : List Line) (last : List CallerProgress) : Type 0 where
  pub fit : LinesFit lines
  pub same : length last ≡ length places

module _ (h : Header) (may : CallerProgress → Said → Type 0) (of-memory : (at : CallerProgress) (said : Said) → may at said → IsOfMemory said) where
  path-fits : (places : List CallerProgress) (lines : List Line) (last : List CallerProgress) → length places ≤ MAX_CALLERS → Path h may places lines last → Fitting places lines last
  path-fits places [] last few p = record { fit = tt; same = ap length (sym p) }
  path-fits places (Of n said ∷ lines) last few p =
      let same : length (says places n said) ≡ length places = length-set places n (after (place_of places n) said) in
      let rest = path-fits (says places n said) lines last (omega (arith, same, few)) p.3 in
      let less = p.0 in
      record { fit = (omega (arith, less, few), of-memory (place_of places n) said p.1, rest.fit); same = rest.same ∙ same }
  path-fits places (Finish ∷ lines) last few p = absurd p

append-fits : (xs ys : List Line) → LinesFit xs → LinesFit ys → LinesFit (xs ++ ys)
append-fits [] ys f g = g
append-fits (Of n said ∷ xs) ys f g = (f.0, f.1, append-fits xs ys f.2 g)
append-fits (Finish ∷ xs) ys f g = append-fits xs ys f g

module _ (h : Header) (start : List CallerProgress) (few : length start ≤ MAX_CALLERS) (schedule : List Go) where
  scheduled-fits : (lines : List Line) (now : List CallerProgress) → Scheduled h start schedule lines now → LinesFit lines
  scheduled-fits lines now s = (path-fits h MaySay may-say start lines now few s.path).fit

  winding-fits : (lines : List Line) (now : List CallerProgress) → Winding h start schedule lines now → Fitting start lines now
  winding-fits lines now w =
      let first = path-fits h MaySay may-say start w.first w.middle few w.played in
      let same = first.same in
      let second = path-fits h MayWind may-wind w.middle w.second now (omega (arith, same, few)) w.path in
      record { fit = subst LinesFit (sym w.parts) (append-fits w.first (Finish ∷ w.second) first.fit second.fit); same = second.same ∙ first.same }

  finishing-fits : (lines : List Line) (now : List CallerProgress) → Finishing h start schedule lines now → LinesFit lines
  finishing-fits lines now f =
      let first = winding-fits f.first f.middle f.wound in
      let same = first.same in
      let second = path-fits h MayFinish may-finish f.middle f.second now (omega (arith, same, few)) f.path in
      subst LinesFit (sym f.parts) (append-fits f.first f.second first.fit second.fit)

  whole-fits : (lines : List Line) (rows : List Row) → IsWhole h start schedule lines rows → LinesFit lines
  whole-fits lines rows w = finishing-fits lines w.now w.finished

  reached-fits : (lines : List Line) (caller : ℕ) (now : List CallerProgress) → Scheduled h start schedule lines now ⊎ (Finishing h start schedule lines now × AreOverBelow caller now) → LinesFit lines
  reached-fits lines caller now (inl s) = scheduled-fits lines now s
  reached-fits lines caller now (inr f) = finishing-fits lines now f.0

  cut-fits : (lines : List Line) (clock : ℕ) → IsCut h start schedule lines clock → LinesFit lines
  cut-fits lines clock c = reached-fits lines c.caller c.now c.reached

counted-length : (w : Workload) (k n : ℕ) → length (map (first_place w) (counted k n)) ≡ n
counted-length w k zero = refl
counted-length w k (suc n) = ap suc (counted-length w (suc k) n)

trace-fits : (w : Workload) (lines : List Line) → w.header.callers ≤ MAX_CALLERS → IsTraceOf w lines → LinesFit lines
trace-fits w lines few (inl t) = let same = counted-length w 0 w.header.callers in whole-fits w.header (first_places w) (omega (arith, same, few)) w.schedule lines t.0.rows t.1
trace-fits w lines few (inr t) = let same = counted-length w 0 w.header.callers in cut-fits w.header (first_places w) (omega (arith, same, few)) w.schedule lines t.0 t.1

-- the lines may come one after the other

places-between : (w : Workload) (n : ℕ) (ks : List ℕ) → (place_of (map (first_place w) ks) n).phase ≡ Between
places-between w n [] = refl
places-between w zero (k ∷ ks) = refl
places-between w (suc n) (k ∷ ks) = places-between w n ks

first-agrees : (w : Workload) → w.header.callers ≤ 32 → Agree first_phases (first_places w)
first-agrees w few = record {
  room = refl;
  at = λ n lt.
      (let same = counted-length w 0 w.header.callers in
      get_or-replicate 32 n Between Between (omega (arith, same, lt, few)) ∙ sym (places-between w n (counted 0 w.header.callers)));
}

module _ (h : Header) (start : List CallerProgress) (few : length start ≤ 32) (phases : List Phase) (a : Agree phases start) (schedule : List Go) where
  scheduled-passes : (lines : List Line) (now : List CallerProgress) → Scheduled h start schedule lines now → Passing phases lines now
  scheduled-passes lines now s = path-passes h MaySay say-comes phases start lines now a few s.path

  winding-passes : (lines : List Line) (now : List CallerProgress) → Winding h start schedule lines now → Passing phases lines now
  winding-passes lines now w =
      let first = path-passes h MaySay say-comes phases start w.first w.middle a few w.played in
      let second = path-passes h MayWind wind-comes first.end w.middle w.second now first.agree first.few w.path in
      record {
        end = second.end;
        pass = ap (passed_all phases) w.parts ∙ (passes-both phases first.end w.first (Finish ∷ w.second) first.pass ∙ second.pass);
        agree = second.agree;
        few = second.few;
      }

  finishing-passes : (lines : List Line) (now : List CallerProgress) → Finishing h start schedule lines now → Passing phases lines now
  finishing-passes lines now f =
      let first = winding-passes f.first f.middle f.wound in
      let second = path-passes h MayFinish finish-comes first.end f.middle f.second now first.agree first.few f.path in
      record {
        end = second.end;
        pass = ap (passed_all phases) f.parts ∙ (passes-both phases first.end f.first f.second first.pass ∙ second.pass);
        agree = second.agree;
        few = second.few;
      }

  reached-passes : (lines : List Line) (caller : ℕ) (now : List CallerProgress) → Scheduled h start schedule lines now ⊎ (Finishing h start schedule lines now × AreOverBelow caller now) → Passing phases lines now
  reached-passes lines caller now (inl s) = scheduled-passes lines now s
  reached-passes lines caller now (inr f) = finishing-passes lines now f.0

-- so they leave some phases
trace-passes : (w : Workload) (lines : List Line) → w.header.callers ≤ MAX_CALLERS → IsTraceOf w lines → (last : List Phase) × (passed_all first_phases lines ≡ Some last)
trace-passes w lines few (inl t) =
    let same = counted-length w 0 w.header.callers in
    let p = finishing-passes w.header (first_places w) (omega (arith, same, few)) first_phases (first-agrees w (omega (arith, few))) w.schedule lines t.1.now t.1.finished in
    (p.end, p.pass)
trace-passes w lines few (inr t) =
    let same = counted-length w 0 w.header.callers in
    let p = reached-passes w.header (first_places w) (omega (arith, same, few)) first_phases (first-agrees w (omega (arith, few))) w.schedule lines t.1.caller t.1.now t.1.reached in
    (p.end, p.pass)

pub step-is-drawn : ReportIsRead → StepIsDrawn
step-is-drawn law w lines tail few fits words end le =
    let p = trace-passes w lines few fits in
    trace-is-walked law lines tail (trace-fits w lines few fits) words end le p.0 p.1
