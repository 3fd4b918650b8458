-- THE REPLAY THEOREM, from what each caller knows.
use Rattle.std.proofs.Common.{ℕ, zero, suc, ◌≡◌, ◌≢◌, ◌<◌, ◌≤◌, ◌+◌, List, [], ◌∷◌, ◌++◌, Bool, true, false, refl, sym, ap, ◌∙◌, arith, subst, length, get_or}
use Rattle.std.specs.Prelude.{◌==◌, sum_by, map, All, IsPermutation, if◌then◌else◌}
use Rattle.std.proofs.lemmas.Bool.Decides.{nat_tests}
use Rattle.std.proofs.lemmas.List.Sums.{sum_by-cons, sum_by-append}
use Rattle.std.proofs.lemmas.List.Sorted.{sum_by-IsPermutation, All-permutation}
use Rattle.std.proofs.lemmas.List.Elements.{All-head, All-tail, All-append}
use Rattle.stm_model.specs.Histories.{Entry, memory_after, Ascending, IsLegal}
use Rattle.stm_model.specs.HistoryLaws.{memory_at-all}
use Rattle.data_regions.specs.declared.region.Region.{Region}
use Rattle.work_script.specs.declared.report.Kind.{Kind}
use Rattle.work_script.specs.declared.report.Kind.TheVariants.{W, R, C}
use Rattle.work_script.specs.declared.report.Row.{Row}
use Rattle.work_script.specs.declared.workload.Header.{Header}
use Rattle.work_script.specs.declared.workload.Item.{Item}
use Rattle.work_script.specs.declared.workload.Item.TheVariants.{Tx, Switch, Reserve}
use Rattle.work_script.specs.declared.workload.Workload.{Workload}
use Rattle.work_script.specs.Reports.{Ordered, Ascends, Apart, writers, writers_by, writer_to, rows_of, counted, scripts_of, script_of, regions_of, zeros, nonzero}
use Rattle.work_script.specs.Workloads.{ItemFits}
use Rattle.work_script.specs.Parts.{times, Part, PartIn, all_rows, ReportReplays}
use Rattle.work_script.proofs.FitLaws.{fits-in}
use Rattle.work_script.proofs.ReplayLaws.{FitsAt, AllFitAt, replays}
use Rattle.work_script.proofs.MergeLaws.{count, same_rising, row_weight, entry_weight, count-writers, count-stamps, stamps, rising-writers, rising-stamps, keys, rising-keys, mine-rows_of, ordered-rows_of, key_weight, count-keys, seqs-keys}

-- places with callers, and places alone
places-by : (k : Kind) (p c : ℕ) (xs : List ℕ) (ys : List (ℕ × ℕ)) → xs ≡ map (λ (x : ℕ × ℕ). x.0) ys → writer_to k p xs ≡ map (λ (x : ℕ × ℕ). x.0) (writer_to k (p, c) ys)
places-by W p c xs ys h = ap (λ l. p ∷ l) h
places-by R p c xs ys h = h
places-by C p c xs ys h = h

writers-places : (rows : List Row) → writers rows ≡ map (λ (x : ℕ × ℕ). x.0) (writers_by rows)
writers-places [] = refl
writers-places (r ∷ rs) = places-by r.kind r.place r.caller (writers rs) (writers_by rs) (writers-places rs)

times-stamps : (es : List Entry) → times es ≡ map (λ (x : ℕ × ℕ). x.0) (stamps es)
times-stamps [] = refl
times-stamps (e ∷ es) = ap (λ l. e.time ∷ l) (times-stamps es)

-- with one caller, the places give the places with their callers
callers-by : (k : Kind) (p c n : ℕ) (xs : List ℕ) (ys : List (ℕ × ℕ)) → c ≡ n → ys ≡ map (λ (t : ℕ). let x : ℕ × ℕ = (t, n) in x) xs
    → writer_to k (p, c) ys ≡ map (λ (t : ℕ). let x : ℕ × ℕ = (t, n) in x) (writer_to k p xs)
callers-by W p c n xs ys e h = ap (λ l. (p, c) ∷ l) h ∙ ap (λ m. (p, m) ∷ map (λ (t : ℕ). let x : ℕ × ℕ = (t, n) in x) xs) e
callers-by R p c n xs ys e h = h
callers-by C p c n xs ys e h = h

writers-mine : (n : ℕ) (rows : List Row) → All (λ (r : Row). r.caller ≡ n) rows → writers_by rows ≡ map (λ (t : ℕ). let x : ℕ × ℕ = (t, n) in x) (writers rows)
writers-mine n [] h = refl
writers-mine n (r ∷ rs) h =
    callers-by r.kind r.place r.caller n (writers rs) (writers_by rs) (All-head (λ (x : Row). x.caller ≡ n) r rs h) (writers-mine n rs (All-tail (λ (x : Row). x.caller ≡ n) r rs h))

stamps-mine : (n : ℕ) (es : List Entry) → All (λ (e : Entry). e.caller ≡ n) es → stamps es ≡ map (λ (t : ℕ). let x : ℕ × ℕ = (t, n) in x) (times es)
stamps-mine n [] h = refl
stamps-mine n (e ∷ es) h =
    ap (λ l. (e.time, e.caller) ∷ l) (stamps-mine n es (All-tail (λ (x : Entry). x.caller ≡ n) e es h))
    ∙ ap (λ m. (e.time, m) ∷ map (λ (t : ℕ). let x : ℕ × ℕ = (t, n) in x) (times es)) (All-head (λ (x : Entry). x.caller ≡ n) e es h)

-- ascending times are apart
ascends-times : (floor : ℕ) (es : List Entry) → Ascending floor es → Ascends floor (times es)
ascends-times floor [] asc = tt
ascends-times floor (e ∷ es) asc = (asc.0, ascends-times e.time es asc.1)

apart-times : (floor : ℕ) (es : List Entry) → Ascending floor es → Apart (times es)
apart-times floor [] asc = tt
apart-times floor (e ∷ es) asc = ascends-times e.time es asc.1

-- the rows of a caller among those of all
append-by : (n : ℕ) (r : Row) (rs ss : List Row) (b : Bool) → rows_of n (rs ++ ss) ≡ rows_of n rs ++ rows_of n ss
    → (if b then r ∷ rows_of n (rs ++ ss) else rows_of n (rs ++ ss)) ≡ (if b then r ∷ rows_of n rs else rows_of n rs) ++ rows_of n ss
append-by n r rs ss true h = ap (λ l. r ∷ l) h
append-by n r rs ss false h = h

rows_of-append : (n : ℕ) (rs ss : List Row) → rows_of n (rs ++ ss) ≡ rows_of n rs ++ rows_of n ss
rows_of-append n [] ss = refl
rows_of-append n (r ∷ rs) ss = append-by n r rs ss (r.caller == n) (rows_of-append n rs ss)

rows_of-mine : (n : ℕ) (rows : List Row) → All (λ (r : Row). r.caller ≡ n) rows → rows_of n rows ≡ rows
rows_of-mine n [] h = refl
rows_of-mine n (r ∷ rs) h =
    let same : r.caller ≡ n = All-head (λ (x : Row). x.caller ≡ n) r rs h in
    let test : (r.caller == n) ≡ true = grind (arith, nat_tests) in
    rw test (ap (λ l. r ∷ l) (rows_of-mine n rs (All-tail (λ (x : Row). x.caller ≡ n) r rs h)))

rows_of-other : (n c : ℕ) (rows : List Row) → c ≢ n → All (λ (r : Row). r.caller ≡ c) rows → rows_of n rows ≡ []
rows_of-other n c [] other h = refl
rows_of-other n c (r ∷ rs) other h =
    let same : r.caller ≡ c = All-head (λ (x : Row). x.caller ≡ c) r rs h in
    let test : (r.caller == n) ≡ false = grind (arith, nat_tests) in
    rw test (rows_of-other n c rs other (All-tail (λ (x : Row). x.caller ≡ c) r rs h))

append-nil : {A : Type 0} (xs : List A) → xs ++ [] ≡ xs
append-nil [] = refl
append-nil (x ∷ xs) = ap (λ w. x ∷ w) (append-nil xs)

-- the rows of one caller are ordered, and have a number for each of its transactions
record IsWhole (items : List Item) (n : ℕ) (rows : List Row) : Type 0 where
  ordered : Ordered rows
  numbered : map (λ (r : Row). r.seq) rows ≡ counted 0 (length (scripts_of n items))

-- no transaction is of a caller beyond those of the header
scripts-other : (regions : List Region) (header : Header) (n : ℕ) (items : List Item) → header.callers ≤ n → All (ItemFits regions header) items → scripts_of n items ≡ []
scripts-other regions header n [] le h = refl
scripts-other regions header n (Tx caller script ∷ items) le h =
    let low = (All-head (ItemFits regions header) (Tx caller script) items h).0 in
    let test : (caller == n) ≡ false = grind (arith, nat_tests) in
    rw test (scripts-other regions header n items le (All-tail (ItemFits regions header) (Tx caller script) items h))
scripts-other regions header n (Switch caller alg ∷ items) le h =
    scripts-other regions header n items le (All-tail (ItemFits regions header) (Switch caller alg) items h)
scripts-other regions header n (Reserve caller reads writes ∷ items) le h =
    scripts-other regions header n items le (All-tail (ItemFits regions header) (Reserve caller reads writes) items h)

cons-head : (x y : ℕ) (xs ys : List ℕ) → x ∷ xs ≡ y ∷ ys → x ≡ y
cons-head x y xs ys h = cc

cons-tail : (x y : ℕ) (xs ys : List ℕ) → x ∷ xs ≡ y ∷ ys → xs ≡ ys
cons-tail x y xs ys h = cc

module _ (good : List ℕ → Type 0) (w : Workload) (es : List Entry) where
  one-fits : (p : Part) → IsLegal good (zeros w.header.words) w.header.clock es → PartIn good w es p
      → All (λ (r : Row). FitsAt (regions_of w.header) (script_of w.items r) es (zeros w.header.words) r) p.rows
  one-fits p legal h = λ k d lt.
      fits-in (regions_of w.header) good (zeros w.header.words) w.header.clock es (script_of w.items) p.made p.seen p.front (get_or p.rows k d) legal h.begins h.within (h.worked.each k d lt)

  parts-fit : (parts : List Part) → IsLegal good (zeros w.header.words) w.header.clock es → All (PartIn good w es) parts
      → All (λ (r : Row). FitsAt (regions_of w.header) (script_of w.items r) es (zeros w.header.words) r) (all_rows parts)
  parts-fit [] legal h = λ k d lt. absurd (omega arith)
  parts-fit (p ∷ ps) legal h =
      All-append (λ (r : Row). FitsAt (regions_of w.header) (script_of w.items r) es (zeros w.header.words) r) p.rows (all_rows ps)
      (one-fits p legal (All-head (PartIn good w es) p ps h)) (parts-fit ps legal (All-tail (PartIn good w es) p ps h))

  as-list : (rows : List Row) → All (λ (r : Row). FitsAt (regions_of w.header) (script_of w.items r) es (zeros w.header.words) r) rows
      → AllFitAt (regions_of w.header) (script_of w.items) rows es (zeros w.header.words)
  as-list [] h = tt
  as-list (r ∷ rs) h = (
    All-head (λ (x : Row). FitsAt (regions_of w.header) (script_of w.items x) es (zeros w.header.words) x) r rs h,
    as-list rs (All-tail (λ (x : Row). FitsAt (regions_of w.header) (script_of w.items x) es (zeros w.header.words) x) r rs h),
  )

  part-counts : (t : ℕ × ℕ) (parts : List Part) → All (PartIn good w es) parts
      → sum_by (row_weight t) (all_rows parts) ≡ sum_by (λ (p : Part). sum_by (entry_weight t) p.made) parts
  part-counts t [] h = refl
  part-counts t (p ∷ ps) h =
      let one = All-head (PartIn good w es) p ps h in
      let part : Part → ℕ = λ q. sum_by (entry_weight t) q.made in
      let stamped : writers_by p.rows ≡ stamps p.made =
      writers-mine p.caller p.rows one.worked.mine ∙ (ap (map (λ (k : ℕ). let x : ℕ × ℕ = (k, p.caller) in x)) one.worked.writers ∙ sym (stamps-mine p.caller p.made one.owned)) in
      let mine : sum_by (row_weight t) p.rows ≡ sum_by (entry_weight t) p.made = sym (count-writers t p.rows) ∙ (ap (count t) stamped ∙ count-stamps t p.made) in
      let rest = part-counts t ps (All-tail (PartIn good w es) p ps h) in
      sum_by-append (row_weight t) p.rows (all_rows ps) ∙ ((ap (λ n. n + sum_by (row_weight t) (all_rows ps)) mine ∙ ap (λ n. sum_by (entry_weight t) p.made + n) rest) ∙ sym (sum_by-cons part p ps))

  -- callers from k on have no rows of a caller before
  rows-before : (n k c : ℕ) (parts : List Part) → n < k → map (λ (p : Part). p.caller) parts ≡ counted k c → All (PartIn good w es) parts → rows_of n (all_rows parts) ≡ []
  rows-before n k c [] lt is h = refl
  rows-before n k zero (p ∷ ps) lt is h = absurd cc
  rows-before n k (suc c) (p ∷ ps) lt is h =
      let one = All-head (PartIn good w es) p ps h in
      let who : p.caller ≡ k = cons-head p.caller k (map (λ (q : Part). q.caller) ps) (counted (suc k) c) is in
      let rest = cons-tail p.caller k (map (λ (q : Part). q.caller) ps) (counted (suc k) c) is in
      let none = rows_of-other n p.caller p.rows (λ e. absurd (omega arith)) one.worked.mine in
      rows_of-append n p.rows (all_rows ps) ∙ (ap (λ l. l ++ rows_of n (all_rows ps)) none ∙ rows-before n (suc k) c ps (omega arith) rest (All-tail (PartIn good w es) p ps h))

  own-rows : (n : ℕ) (p : Part) → p.caller ≡ n → PartIn good w es p → IsWhole w.items n p.rows
  own-rows n p who one = record {
    ordered = one.worked.ordered;
    numbered = one.worked.numbered ∙ (ap (counted 0) one.whole ∙ ap (λ c. counted 0 (length (scripts_of c w.items))) who);
  }

  whole-by : (n k c : ℕ) (p : Part) (ps : List Part) (b : Bool) → (n == k) ≡ b → k ≤ n → p.caller ≡ k → PartIn good w es p
      → map (λ (q : Part). q.caller) ps ≡ counted (suc k) c → All (PartIn good w es) ps
      → (suc k ≤ n → IsWhole w.items n (rows_of n (all_rows ps))) → IsWhole w.items n (rows_of n (p.rows ++ all_rows ps))
  whole-by n k c p ps true e le who one is h rest =
      let same : p.caller ≡ n = grind (arith, nat_tests) in
      let mine : rows_of n p.rows ≡ p.rows = rows_of-mine n p.rows (subst (λ j. All (λ (r : Row). r.caller ≡ j) p.rows) same one.worked.mine) in
      let none = rows-before n (suc k) c ps (omega arith) is h in
      let all : rows_of n (p.rows ++ all_rows ps) ≡ p.rows = rows_of-append n p.rows (all_rows ps) ∙ (ap (λ l. l ++ rows_of n (all_rows ps)) mine ∙ (ap (λ l. p.rows ++ l) none ∙ append-nil p.rows)) in
      subst (IsWhole w.items n) (sym all) (own-rows n p same one)
  whole-by n k c p ps false e le who one is h rest =
      let other : p.caller ≢ n = grind (arith, nat_tests) in
      let apart : k ≢ n = λ q. other (who ∙ q) in
      let none = rows_of-other n p.caller p.rows other one.worked.mine in
      let all : rows_of n (p.rows ++ all_rows ps) ≡ rows_of n (all_rows ps) = rows_of-append n p.rows (all_rows ps) ∙ ap (λ l. l ++ rows_of n (all_rows ps)) none in
      subst (IsWhole w.items n) (sym all) (rest (omega arith))

  whole-from : (n k c : ℕ) (parts : List Part) → k ≤ n → map (λ (p : Part). p.caller) parts ≡ counted k c → All (PartIn good w es) parts → (k + c ≤ n → scripts_of n w.items ≡ [])
      → IsWhole w.items n (rows_of n (all_rows parts))
  whole-from n k zero [] le is h out =
      record { ordered = tt; numbered = ap (λ l. counted 0 (length l)) (sym (out (omega arith))) }
  whole-from n k (suc c) [] le is h out = absurd cc
  whole-from n k zero (p ∷ ps) le is h out = absurd cc
  whole-from n k (suc c) (p ∷ ps) le is h out =
      let who : p.caller ≡ k = cons-head p.caller k (map (λ (q : Part). q.caller) ps) (counted (suc k) c) is in
      let rest = cons-tail p.caller k (map (λ (q : Part). q.caller) ps) (counted (suc k) c) is in
      let one = All-head (PartIn good w es) p ps h in
      let more = All-tail (PartIn good w es) p ps h in
      whole-by n k c p ps (n == k) refl le who one rest more
      (λ up. whole-from n (suc k) c ps up rest more (λ far. out (omega arith)))

  -- in the report each caller's rows come in the order of the text
  complete : (n : ℕ) (parts : List Part) (rows : List Row) → IsWhole w.items n (rows_of n (all_rows parts)) → IsPermutation (all_rows parts) rows → Ordered rows
      → map (λ (r : Row). r.seq) (rows_of n rows) ≡ counted 0 (length (scripts_of n w.items))
  complete n parts rows whole moved ordered =
      let counts : (t : ℕ × ℕ) → count t (keys (rows_of n rows)) ≡ count t (keys (rows_of n (all_rows parts))) = λ t.
      count-keys n t rows ∙ (sum_by-IsPermutation (key_weight n t) (all_rows parts) rows moved ∙ sym (count-keys n t (all_rows parts))) in
      let same : keys (rows_of n rows) ≡ keys (rows_of n (all_rows parts)) =
      same_rising (keys (rows_of n rows)) (keys (rows_of n (all_rows parts)))
      (rising-keys n (rows_of n rows) (mine-rows_of n rows) (ordered-rows_of n rows ordered))
      (rising-keys n (rows_of n (all_rows parts)) (mine-rows_of n (all_rows parts)) whole.ordered) counts in
      seqs-keys (rows_of n rows) ∙ (ap (map (λ (x : ℕ × ℕ). x.1)) same ∙ (sym (seqs-keys (rows_of n (all_rows parts))) ∙ whole.numbered))

pub report-replays : (good : List ℕ → Type 0) → ReportReplays good
report-replays good w es clock parts report h =
    let rows = report.rows in
    let opening = zeros w.header.words in
    let fit = as-list good w es rows (All-permutation
    (λ (r : Row). FitsAt (regions_of w.header) (script_of w.items r) es (zeros w.header.words) r) (all_rows parts) rows h.moved
    (parts-fit good w es parts h.legal h.each)) in
    let counts : (t : ℕ × ℕ) → count t (writers_by rows) ≡ count t (stamps es) = λ t.
    count-writers t rows ∙ (sum_by-IsPermutation (row_weight t) (all_rows parts) rows h.moved ∙ (part-counts good w es t parts h.each ∙ (sym (h.gathers (entry_weight t)) ∙ sym (count-stamps t es)))) in
    let stamped : writers_by rows ≡ stamps es = same_rising (writers_by rows) (stamps es) (rising-writers rows h.ordered) (rising-stamps w.header.clock es h.legal.ascending) counts in
    let same : writers rows ≡ times es = writers-places rows ∙ (ap (map (λ (x : ℕ × ℕ). x.0)) stamped ∙ sym (times-stamps es)) in (
      record {
        ordered = h.ordered;
        apart = subst Apart (sym same) (apart-times w.header.clock es h.legal.ascending);
        complete =
            λ n.
            complete good w es n parts rows (whole-from good w es n 0 w.header.callers parts (omega arith) h.callers h.each (λ far.
            scripts-other (regions_of w.header) w.header n w.items (omega arith) h.items)) h.moved h.ordered;
        last = memory_after es opening;
        replay = replays (regions_of w.header) (script_of w.items) rows w.header.clock es opening h.ordered h.legal.ascending same fit;
        memory = h.memory ∙ ap (nonzero 0) (memory_at-all clock es opening h.times);
      },
      record { writers = stamped; opened = refl; memory = h.memory },
    )
