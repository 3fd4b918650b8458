-- The rows of a trace that fits.
use Rattle.std.proofs.Common.{ℕ, zero, suc, ◌≡◌, ◌<◌, ◌+◌, List, [], ◌∷◌, ◌++◌, length, get_or, set, refl, sym, ap, ◌∙◌, arith, subst, ◌≢◌, inl, inr, zero-add}
use Rattle.std.specs.Prelude.{map, IsPermutation, ◌⊎◌}
use Rattle.std.proofs.lemmas.Bool.{cases_eq}
use Rattle.std.proofs.lemmas.List.{length-map, get_or-map, length-set, get_or-set_same, get_or-set_other}
use Rattle.std.proofs.lemmas.List.Elements.{All-get_or}
use Rattle.work_script.specs.declared.report.Row.{Row}
use Rattle.work_script.specs.declared.workload.Header.{Header}
use Rattle.work_script.specs.declared.workload.Workload.{Workload}
use Rattle.work_script.specs.Reports.{counted}
use Rattle.work_trace.specs.declared.line.Line.{Line}
use Rattle.work_trace.specs.declared.line.Line.TheVariants.{Of, Finish}
use Rattle.work_trace.specs.declared.said.Said.{Said}
use Rattle.work_trace.specs.Fits.{Path, place_of, no_place, first_place, first_places, all_told}
use Rattle.work_trace.specs.Places.{CallerProgress, after}
use Rattle.work_trace.specs.PlayLaws.{path-length}
use Rattle.work_trace.specs.Told.{AreOf, joined, TellsEachOnce}
use Rattle.work_trace.specs.Turns.{MaySay, MayWind, MayFinish, IsOver}
use Rattle.work_trace.proofs.Standing.{Stands, scripts-items, own-items, stands-said, stands-wound, stands-finished, stands-over}

-- each caller of these places stands so
abbrev AllStand : (ℕ → CallerProgress → Type 0) → List CallerProgress → Type 0
AllStand holds places = (k : ℕ) → k < length places → holds k (place_of places k)

module _ (h : Header) (may : CallerProgress → Said → Type 0) (holds : ℕ → CallerProgress → Type 0)
    (step : (n : ℕ) (at : CallerProgress) (said : Said) → may at said → holds n at → holds n (after at said)) where
  said-stands : (places : List CallerProgress) (n k : ℕ) (said : Said) → n < length places → may (place_of places n) said → AllStand holds places
      → k < length places → (k ≡ n) ⊎ (k ≢ n) → holds k (place_of (set places n (after (place_of places n) said)) k)
  said-stands places n k said lt m all le (inl e) =
      subst (λ j. holds j (place_of (set places n (after (place_of places n) said)) j)) (sym e)
      (subst (holds n) (sym (get_or-set_same places n (after (place_of places n) said) no_place lt)) (step n (place_of places n) said m (all n lt)))
  said-stands places n k said lt m all le (inr other) =
      subst (holds k) (sym (get_or-set_other places n k (after (place_of places n) said) no_place other)) (all k le)

  path-stands : (places : List CallerProgress) (lines : List Line) (last : List CallerProgress) → Path h may places lines last → AllStand holds places → AllStand holds last
  path-stands places [] last p all = subst (AllStand holds) p all
  path-stands places (Of n said ∷ lines) last p all =
      path-stands (set places n (after (place_of places n) said)) lines last p.3
      (λ k lt. said-stands places n k said p.0 p.1 all (subst (λ (j : ℕ). k < j) (length-set places n (after (place_of places n) said)) lt) (cases_eq k n))
  path-stands places (Finish ∷ lines) last p all = absurd p

counted-length : (k n : ℕ) → length (counted k n) ≡ n
counted-length k zero = refl
counted-length k (suc n) = ap suc (counted-length (suc k) n)

counted-at : (k n i d : ℕ) → i < n → get_or (counted k n) i d ≡ k + i
counted-at k zero i d lt = absurd (omega (arith, lt))
counted-at k (suc n) zero d lt = omega arith
counted-at k (suc n) (suc i) d lt = (let e = counted-at (suc k) n i d (omega (arith, lt)) in omega (arith, e))

first-stands : (w : Workload) (n : ℕ) → Stands w.items n (first_place w n)
first-stands w n = record {
  caller = refl;
  todo = scripts-items n w.items;
  within = omega arith;
  numbered = refl;
  mine = tt;
  owned = own-items n w.items;
  faces = tt;
}

first-length : (w : Workload) → length (first_places w) ≡ w.header.callers
first-length w = length-map (counted 0 w.header.callers) (first_place w) ∙ counted-length 0 w.header.callers

all-stand-first : (w : Workload) → AllStand (Stands w.items) (first_places w)
all-stand-first w k lt =
    let below : k < w.header.callers = subst (λ (j : ℕ). k < j) (first-length w) lt in
    let in_list : k < length (counted 0 w.header.callers) = subst (λ (j : ℕ). k < j) (sym (counted-length 0 w.header.callers)) below in
    let number : get_or (counted 0 w.header.callers) k 0 ≡ k = counted-at 0 w.header.callers k 0 below ∙ zero-add k in
    let e : place_of (first_places w) k ≡ first_place w k = get_or-map (first_place w) (counted 0 w.header.callers) k 0 no_place in_list ∙ ap (first_place w) number in
    subst (Stands w.items k) (sym e) (first-stands w k)

joined-told : (places : List CallerProgress) → joined (map (λ (at : CallerProgress). at.rows) places) ≡ all_told places
joined-told [] = refl
joined-told (at ∷ places) = ap (λ rows. at.rows ++ rows) (joined-told places)

pub tells-each : TellsEachOnce
tells-each w lines report fits =
    let start = first_places w in
    let f = fits.finished in
    let v = f.wound in
    let hd = w.header in
    let one = path-stands hd MaySay (Stands w.items) (stands-said w.items) start v.first v.middle v.played (all-stand-first w) in
    let two = path-stands hd MayWind (Stands w.items) (stands-wound w.items) v.middle v.second f.middle v.path one in
    let three = path-stands hd MayFinish (Stands w.items) (stands-finished w.items) f.middle f.second fits.now f.path two in
    let count : length fits.now ≡ w.header.callers =
    path-length hd MayFinish f.middle f.second fits.now f.path ∙ (path-length hd MayWind v.middle v.second f.middle v.path ∙ (path-length hd MaySay start v.first v.middle v.played ∙ first-length w)) in
    let within : (n : ℕ) → n < w.header.callers → n < length fits.now = λ n lt. subst (λ (j : ℕ). n < j) (sym count) lt in
    let part : (n : ℕ) → n < w.header.callers → get_or (map (λ (at : CallerProgress). at.rows) fits.now) n [] ≡ (place_of fits.now n).rows
    = λ n lt. get_or-map (λ (at : CallerProgress). at.rows) fits.now n no_place [] (within n lt) in
    record {
      parts = map (λ (at : CallerProgress). at.rows) fits.now;
      told = subst (λ (rows : List Row). IsPermutation rows report.rows) (sym (joined-told fits.now)) fits.told;
      count = length-map fits.now (λ (at : CallerProgress). at.rows) ∙ count;
      mine = λ n lt. subst (AreOf n) (sym (part n lt)) (three n (within n lt)).mine;
      numbered = λ n lt. ap (map (λ (row : Row). row.seq)) (part n lt)
          ∙ stands-over w.items n (place_of fits.now n) (three n (within n lt)) (All-get_or IsOver fits.now n no_place (within n lt) fits.over);
    }
