-- The rows that a report has of a caller are of the kinds of that caller's own rows, in their order.
use Rattle.std.proofs.Common.{ℕ, zero, suc, ◌≡◌, ◌<◌, ◌+◌, Bool, true, false, List, [], ◌∷◌, length, get_or, map, refl, sym, ap, ◌∙◌, arith, subst}
use Rattle.std.specs.Prelude.{All, ◌==◌, if◌then◌else◌}
use Rattle.std.proofs.lemmas.Bool.Decides.{nat_tests}
use Rattle.std.proofs.lemmas.List.{get_or-map}
use Rattle.std.proofs.lemmas.List.Elements.{All-append, All-head, All-nil, All-tail}
use Rattle.std.proofs.lemmas.List.Sorted.{All-permutation}
use Rattle.stm_model.specs.Histories.{Entry}
use Rattle.work_script.specs.declared.report.Kind.{Kind}
use Rattle.work_script.specs.declared.report.Kind.TheVariants.{W}
use Rattle.work_script.specs.declared.report.Report.{Report}
use Rattle.work_script.specs.declared.report.Row.{Row}
use Rattle.work_script.specs.declared.workload.Workload.{Workload}
use Rattle.work_script.specs.Parts.{IsGathered, Part, PartIn, all_rows}
use Rattle.work_script.specs.Reports.{Replays, counted, rows_of, scripts_of}
use Rattle.work_driver.proofs.PartingLaws.{all-cons}
use Rattle.work_driver.proofs.StandingLaws.{Each}

abbrev pub kinds : List Row → List Kind
kinds rows = map (λ (r : Row). r.kind) rows

abbrev seqs : List Row → List ℕ
seqs rows = map (λ (r : Row). r.seq) rows

counted-at : (k m : ℕ) (i d : ℕ) → i < m → get_or (counted k m) i d ≡ k + i
counted-at k zero i d lt = absurd (omega (arith, lt))
counted-at k (suc m) zero d lt = omega arith
counted-at k (suc m) (suc i) d lt = let e = counted-at (suc k) m i d (omega (arith, lt)) in omega (arith, e)

numbered-at : (rows : List Row) → seqs rows ≡ counted 0 (length rows) → (i : ℕ) (d : Row) → i < length rows → (get_or rows i d).seq ≡ i
numbered-at rows e i d lt =
    let at : get_or (seqs rows) i 0 ≡ (get_or rows i d).seq = get_or-map (λ (r : Row). r.seq) rows i d 0 lt in
    let is : get_or (seqs rows) i 0 ≡ 0 + i = ap (λ l. get_or l i 0) e ∙ counted-at 0 (length rows) i 0 lt in
    omega (arith, at, is)

-- each has what its place in the whole list has
each-at : {A : Type 0} (Q : ℕ → A → Type 0) (k : ℕ) (xs : List A) → ((i : ℕ) (d : A) → i < length xs → Q (k + i) (get_or xs i d)) → Each Q k xs
each-at Q k [] h = tt
each-at Q k (x ∷ xs) h =
    let here : k + 0 ≡ k = omega arith in (
      subst (λ j. Q j x) here (h 0 x (omega arith)),
      each-at Q (suc k) xs (λ i d lt. let next : k + suc i ≡ suc k + i = omega arith in subst (λ j. Q j (get_or xs i d)) next (h (suc i) d (omega (arith, lt)))),
    )

one-caller : (n : ℕ) (r : Row) (rows : List Row) (P : Row → Type 0) (b : Bool) → (r.caller == n) ≡ b → P r → All P (rows_of n rows) → All P (if b then r ∷ rows_of n rows else rows_of n rows)
one-caller n r rows P true e p h = all-cons P r (rows_of n rows) p h
one-caller n r rows P false e p h = h

-- what holds of all rows holds of one caller's
all-rows_of : (n : ℕ) (rows : List Row) (P : Row → Type 0) → All P rows → All P (rows_of n rows)
all-rows_of n [] P h = h
all-rows_of n (r ∷ rows) P h = one-caller n r rows P (r.caller == n) refl (All-head P r rows h) (all-rows_of n rows P (All-tail P r rows h))

mine-rows_of : (n : ℕ) (rows : List Row) → All (λ (r : Row). r.caller ≡ n) (rows_of n rows)
mine-rows_of n [] = All-nil (λ (r : Row). r.caller ≡ n)
mine-rows_of n (r ∷ rows) = by (r.caller == n) refl (mine-rows_of n rows)
  where
    by : (b : Bool) → (r.caller == n) ≡ b → All (λ (x : Row). x.caller ≡ n) (rows_of n rows) → All (λ (x : Row). x.caller ≡ n) (if b then r ∷ rows_of n rows else rows_of n rows)
    by true e h = let same : r.caller ≡ n = grind (arith, nat_tests) in all-cons (λ (x : Row). x.caller ≡ n) r (rows_of n rows) same h
    by false e h = h

no_part : Part
no_part = record { caller = 0; made = []; seen = []; front = 0; rows = [] }

module _ (good : List ℕ → Type 0) (w : Workload) (es : List Entry) (clock : ℕ) (parts : List Part) (report : Report) (g : IsGathered good w es clock parts report) (replays : Replays w report) where
  -- the kinds of a caller's own rows
  abbrev told : ℕ → List Kind
  told n = kinds (get_or parts n no_part).rows

  abbrev IsTold : Row → Type 0
  IsTold r = get_or (told r.caller) r.seq W ≡ r.kind

  record IsAt (n : ℕ) (p : Part) : Type 0 where
    caller : p.caller ≡ n
    told_at : told n ≡ kinds p.rows
    part : PartIn good w es p

  part-at : (i : ℕ) (d : Part) → i < length parts → IsAt (0 + i) (get_or parts i d)
  part-at i d lt =
      let p = get_or parts i d in
      let same : get_or parts i no_part ≡ p = get_or-same parts i no_part d lt in
      let many : length parts ≡ w.header.callers = sym (length-map' parts) ∙ (ap length g.callers ∙ counted-length 0 w.header.callers) in
      let at : get_or (map (λ (q : Part). q.caller) parts) i 0 ≡ p.caller = get_or-map (λ (q : Part). q.caller) parts i d 0 lt in
      let is : get_or (map (λ (q : Part). q.caller) parts) i 0 ≡ 0 + i = ap (λ l. get_or l i 0) g.callers ∙ counted-at 0 w.header.callers i 0 (omega (arith, lt, many)) in
      let zero_is : 0 + i ≡ i = omega arith in
      record {
        caller = sym at ∙ is;
        told_at = ap (λ k. kinds (get_or parts k no_part).rows) zero_is ∙ ap (λ (q : Part). kinds q.rows) same;
        part = g.each i d lt;
      }
    where
      get_or-same : {A : Type 0} (xs : List A) (k : ℕ) (a b : A) → k < length xs → get_or xs k a ≡ get_or xs k b
      get_or-same [] k a b h = absurd (omega (arith, h))
      get_or-same (x ∷ xs) zero a b h = refl
      get_or-same (x ∷ xs) (suc k) a b h = get_or-same xs k a b (omega (arith, h))

      counted-length : (k m : ℕ) → length (counted k m) ≡ m
      counted-length k zero = refl
      counted-length k (suc m) = ap suc (counted-length (suc k) m)

      length-map' : (ps : List Part) → length (map (λ (q : Part). q.caller) ps) ≡ length ps
      length-map' [] = refl
      length-map' (q ∷ ps) = ap suc (length-map' ps)

  own-rows : (n : ℕ) (p : Part) → IsAt n p → All IsTold p.rows
  own-rows n p h = λ i d lt.
      let r = get_or p.rows i d in
      let caller : r.caller ≡ n = h.part.worked.mine i d lt ∙ h.caller in
      let seq : r.seq ≡ i = numbered-at p.rows h.part.worked.numbered i d lt in
      (λ j. get_or (told (caller j)) (seq j) W) ∙ (ap (λ l. get_or l i W) h.told_at ∙ get_or-map (λ (x : Row). x.kind) p.rows i d W lt)

  every-row : (n : ℕ) (ps : List Part) → Each IsAt n ps → All IsTold (all_rows ps)
  every-row n [] h = All-nil IsTold
  every-row n (p ∷ ps) h = All-append IsTold p.rows (all_rows ps) (own-rows n p h.0) (every-row (suc n) ps h.1)

  -- rows of one caller have the kinds that are told of their numbers
  by-seqs : (n : ℕ) (rows : List Row) → All IsTold rows → All (λ (r : Row). r.caller ≡ n) rows → kinds rows ≡ map (λ i. get_or (told n) i W) (seqs rows)
  by-seqs n [] t m = refl
  by-seqs n (r ∷ rows) t m =
      let head : get_or (told n) r.seq W ≡ r.kind = ap (λ k. get_or (told k) r.seq W) (sym (All-head (λ (x : Row). x.caller ≡ n) r rows m)) ∙ All-head IsTold r rows t in
      ap (λ k. k ∷ kinds rows) (sym head) ∙ ap (λ l. get_or (told n) r.seq W ∷ l) (by-seqs n rows (All-tail IsTold r rows t) (All-tail (λ (x : Row). x.caller ≡ n) r rows m))

  kinds-one : (n : ℕ) (p : Part) → IsAt n p → kinds (rows_of n report.rows) ≡ kinds p.rows
  kinds-one n p h =
      let all : All IsTold report.rows = All-permutation IsTold (all_rows parts) report.rows g.moved (every-row 0 parts (each-at IsAt 0 parts part-at)) in
      let whole : length p.rows ≡ length (scripts_of n w.items) = h.part.whole ∙ ap (λ k. length (scripts_of k w.items)) h.caller in
      let same : seqs (rows_of n report.rows) ≡ seqs p.rows = replays.complete n ∙ sym (h.part.worked.numbered ∙ ap (counted 0) whole) in
      by-seqs n (rows_of n report.rows) (all-rows_of n report.rows IsTold all) (mine-rows_of n report.rows)
      ∙ (ap (map (λ i. get_or (told n) i W)) same
      ∙ sym (by-seqs n p.rows (own-rows n p h) (subst (λ k. All (λ (r : Row). r.caller ≡ k) p.rows) h.caller h.part.worked.mine)))

  pub kinds-each : Each (λ n p. kinds (rows_of n report.rows) ≡ kinds p.rows) 0 parts
  kinds-each = by 0 parts (each-at IsAt 0 parts part-at)
    where
      by : (n : ℕ) (ps : List Part) → Each IsAt n ps → Each (λ k p. kinds (rows_of k report.rows) ≡ kinds p.rows) n ps
      by n [] h = tt
      by n (p ∷ ps) h = (kinds-one n p h.0, by (suc n) ps h.1)
