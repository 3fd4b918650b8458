-- Callers after their rows.
use Rattle.std.proofs.Common.{ℕ, zero, suc, ◌≡◌, ◌≢◌, ◌<◌, ◌≤◌, ◌+◌, List, [], ◌∷◌, ◌++◌, length, get_or, slice_index_or, slice_set, drop, take, add-one, Bool, true, false, refl, sym, ap, ◌∙◌, arith, subst, length-append}
use Rattle.std.specs.Prelude.{◌==◌, ◌&&◌, if◌then◌else◌, Option, Some, None, IfSome, IfNone, MatchOption, All, replicate}
use Rattle.std.specs.List.{last_or}
use Rattle.std.proofs.lemmas.Bool.Decides.{nat_tests}
use Rattle.std.proofs.lemmas.List.{get_or-set_same, get_or-set_other, drop_more}
use Rattle.std.proofs.Math.Seq.{take-suc}
use Rattle.std.proofs.lemmas.List.Elements.{All-head, All-tail, All-cons, All-nil}
use Rattle.data_regions.specs.declared.region.Region.{Region}
use Rattle.work_script.specs.declared.op.Op.{Op}
use Rattle.work_script.specs.declared.report.Kind.{Kind}
use Rattle.work_script.specs.declared.report.Kind.TheVariants.{W, R, C}
use Rattle.work_script.specs.declared.report.Row.{Row}
use Rattle.work_script.specs.declared.workload.Header.{Header}
use Rattle.work_script.specs.declared.workload.Item.{Item}
use Rattle.work_script.specs.declared.workload.Item.TheVariants.{Tx, Switch, Reserve}
use Rattle.work_script.specs.declared.workload.Workload.{Workload}
use Rattle.work_script.specs.Operations.{ScriptFits}
use Rattle.work_script.specs.Reports.{scripts_of, rows_of, regions_of, writers, writer_to}
use Rattle.work_script.specs.Workloads.{ItemFits, ItemsFit}
use Rattle.work_check.specs.declared.replay.Cursor.{Cursor}
use Rattle.work_check.specs.Verdicts.{IsRight, memory_after, AreRight, alike}
use Rattle.work_check.specs.Standing.{IsAt, IsNext, wrote_after}
use Rattle.work_check.specs.Wanted.{WantsOf, WantsAt}
use Rattle.work_check.specs.declared.wanted.Wanted.{Wanted}
use Rattle.work_check.proofs.VerdictLaws.{rows-append, writers-append, append-nil, last-push}

-- no transaction is of a caller beyond those of the header
pub scripts-none : (regions : List Region) (header : Header) (n : ℕ) (items : List Item) → header.callers ≤ n → ItemsFit regions header items → scripts_of n items ≡ []
scripts-none regions header n [] le h = refl
scripts-none regions header n (Tx caller script ∷ items) le h =
    let low = (All-head (ItemFits regions header) (Tx caller script) items h).0 in
    let test : (caller == n) ≡ false = grind (arith, nat_tests) in
    rw test (scripts-none regions header n items le (All-tail (ItemFits regions header) (Tx caller script) items h))
scripts-none regions header n (Switch caller alg ∷ items) le h =
    scripts-none regions header n items le (All-tail (ItemFits regions header) (Switch caller alg) items h)
scripts-none regions header n (Reserve caller reads writes ∷ items) le h =
    scripts-none regions header n items le (All-tail (ItemFits regions header) (Reserve caller reads writes) items h)

cons-by : (b : Bool) (script : List Op) (rest : List (List Op)) (P : List Op → Type 0) → P script → All P rest → All P (if b then script ∷ rest else rest)
cons-by true script rest P h k = All-cons P script rest h k
cons-by false script rest P h k = k

-- each script of fitting items fits
pub scripts-fit : (regions : List Region) (header : Header) (n : ℕ) (items : List Item) → ItemsFit regions header items → All (ScriptFits regions header.words) (scripts_of n items)
scripts-fit regions header n [] h = All-nil (ScriptFits regions header.words)
scripts-fit regions header n (Tx caller script ∷ items) h =
    cons-by (caller == n) script (scripts_of n items) (ScriptFits regions header.words) (All-head (ItemFits regions header) (Tx caller script) items h).1
    (scripts-fit regions header n items (All-tail (ItemFits regions header) (Tx caller script) items h))
scripts-fit regions header n (Switch caller alg ∷ items) h =
    scripts-fit regions header n items (All-tail (ItemFits regions header) (Switch caller alg) items h)
scripts-fit regions header n (Reserve caller reads writes ∷ items) h =
    scripts-fit regions header n items (All-tail (ItemFits regions header) (Reserve caller reads writes) items h)

-- what stands first after so many
first-of : {A : Type 0} (xs : List A) (k : ℕ) (x : A) (rest : List A) (d : A) → drop k xs ≡ x ∷ rest → (k < length xs) × (slice_index_or xs k d ≡ x) × (rest ≡ drop (suc k) xs)
first-of [] zero x rest d h = absurd cc
first-of [] (suc k) x rest d h = absurd cc
first-of (y ∷ ys) zero x rest d h = (omega arith, (cc), (cc))
first-of (y ∷ ys) (suc k) x rest d h = let r = first-of ys k x rest d h in let lt = r.0 in (omega arith, r.1, r.2)

none-of : {A : Type 0} (xs : List A) (k : ℕ) → drop k xs ≡ [] → length xs ≤ k
none-of [] k h = omega arith
none-of (y ∷ ys) zero h = absurd cc
none-of (y ∷ ys) (suc k) h = let r = none-of ys k h in omega arith

pub is-next : (w : Workload) (above : List Row) (r : Row) (c : Cursor) (item : ℕ) (script : List Op)
    → ItemsFit (regions_of w.header) w.header w.items → r.caller < w.header.callers → IsAt w.items above r.caller c → c.seq ≡ r.seq
    → item ≤ length w.items
    → scripts_of r.caller (drop c.item w.items) ≡ script ∷ scripts_of r.caller (drop item w.items) → IsNext w above r item script
is-next w above r c item script fit lt at same within found =
    let f = first-of (scripts_of r.caller w.items) r.seq script (scripts_of r.caller (drop item w.items)) [] (ap (λ k. drop k (scripts_of r.caller w.items)) (sym same) ∙ (sym at.left ∙ found)) in
    record {
      next = sym same ∙ at.rows;
      exists = f.0;
      is = f.1;
      fits = subst (ScriptFits (regions_of w.header) w.header.words) f.1 (scripts-fit (regions_of w.header) w.header r.caller w.items fit r.seq [] f.0);
      caller = lt;
      within = within;
      left = f.2 ∙ ap (λ k. drop k (scripts_of r.caller w.items)) (let e : suc r.seq ≡ r.seq + 1 = omega arith in e);
    }

pub not-next : (w : Workload) (above : List Row) (r : Row) (c : Cursor) → IsAt w.items above r.caller c → c.seq ≡ r.seq → scripts_of r.caller (drop c.item w.items) ≡ [] → r.seq < length (scripts_of r.caller w.items) → ⊥
not-next w above r c at same none lt =
    let h = none-of (scripts_of r.caller w.items) c.seq (sym at.left ∙ none) in absurd (omega arith)

-- the rows of a caller, with one row more
rows-mine : (n : ℕ) (above : List Row) (r : Row) → r.caller ≡ n → length (rows_of n (above ++ r ∷ [])) ≡ length (rows_of n above) + 1
rows-mine n above r is =
    let test : (r.caller == n) ≡ true = grind (arith, nat_tests) in
    ap length (rows-append n above (r ∷ []) ∙ ap (λ b. rows_of n above ++ (if b then r ∷ [] else [])) test) ∙ length-append (rows_of n above) (r ∷ [])

rows-other : (n : ℕ) (above : List Row) (r : Row) → r.caller ≢ n → length (rows_of n (above ++ r ∷ [])) ≡ length (rows_of n above)
rows-other n above r is =
    let test : (r.caller == n) ≡ false = grind (arith, nat_tests) in
    ap length (rows-append n above (r ∷ []) ∙ (ap (λ b. rows_of n above ++ (if b then r ∷ [] else [])) test ∙ append-nil (rows_of n above)))

-- each caller after one row more
pub each-at : (w : Workload) (above : List Row) (r : Row) (item : ℕ) (script : List Op) (cursors : List Cursor) → IsNext w above r item script
    → ((n : ℕ) (d : Cursor) → n < length cursors → IsAt w.items above n (slice_index_or cursors n d))
    → (n : ℕ) (d : Cursor) → n < length cursors → IsAt w.items (above ++ r ∷ []) n (slice_index_or (slice_set cursors r.caller (record { item = item; seq = r.seq + 1 })) n d)
each-at w above r item script cursors next each n d lt = by (r.caller == n) refl
  where
    new : Cursor
    new = record { item = item; seq = r.seq + 1 }

    by : (b : Bool) → (r.caller == n) ≡ b → IsAt w.items (above ++ r ∷ []) n (slice_index_or (slice_set cursors r.caller new) n d)
    by true e =
        let q : r.caller ≡ n = grind (arith, nat_tests) in
        let here : slice_index_or (slice_set cursors r.caller new) n d ≡ new = ap (λ k. slice_index_or (slice_set cursors k new) n d) q ∙ get_or-set_same cursors n new d lt in
        let lt' = next.exists in
        let seq : r.seq + 1 ≡ length (rows_of n (above ++ r ∷ [])) = ap (λ k. k + 1) (next.next ∙ ap (λ k. length (rows_of k above)) q) ∙ sym (rows-mine n above r q) in
        subst (λ (c : Cursor). IsAt w.items (above ++ r ∷ []) n c) (sym here) (subst (λ k. IsAt w.items (above ++ r ∷ []) k new) q (record {
          within = next.within;
          rows = seq ∙ ap (λ k. length (rows_of k (above ++ r ∷ []))) (sym q);
          past = omega arith;
          left = next.left;
        }))
    by false e =
        let no : r.caller ≢ n = grind (arith, nat_tests) in
        let no' : n ≢ r.caller = λ s. no (sym s) in
        let there = get_or-set_other cursors r.caller n new d no' in
        let at = each n d lt in
        subst (λ (c : Cursor). IsAt w.items (above ++ r ∷ []) n c) (sym there) (record {
          within = at.within;
          rows = at.rows ∙ sym (rows-other n above r no);
          past = at.past;
          left = at.left;
        })

-- the place of the last W row, with one row more
wrote-by : (k : Kind) (place : ℕ) (ws : List ℕ) → wrote_after k place (last_or None ws) ≡ last_or None (ws ++ writer_to k place [])
wrote-by W place ws = sym (last-push None ws place)
wrote-by R place ws = ap (last_or None) (sym (append-nil ws))
wrote-by C place ws = ap (last_or None) (sym (append-nil ws))

pub wrote-one : (above : List Row) (r : Row) (wrote : Option ℕ) → wrote ≡ last_or None (writers above) → wrote_after r.kind r.place wrote ≡ last_or None (writers (above ++ r ∷ []))
wrote-one above r wrote is = ap (wrote_after r.kind r.place) is ∙ (wrote-by r.kind r.place (writers above) ∙ ap (last_or None) (sym (writers-append above (r ∷ []))))

rows-by : (b : Bool) (r : Row) (rest : List Row) (n : ℕ) → length rest ≤ n → length (if b then r ∷ rest else rest) ≤ suc n
rows-by true r rest n h = omega arith
rows-by false r rest n h = omega arith

-- a caller has no more rows than there are
pub rows-length : (n : ℕ) (rows : List Row) → length (rows_of n rows) ≤ length rows
rows-length n [] = omega arith
rows-length n (r ∷ rows) = rows-by (r.caller == n) r (rows_of n rows) (length rows) (rows-length n rows)

-- what a search for the next script found
pub some-next : {X : Type 0} (item : X → ℕ) (script : X → List Op) (o : Option X) (w : Workload) (above : List Row) (r : Row) (c : Cursor) (items : List Item) → items ≡ w.items
    → ItemsFit (regions_of w.header) w.header w.items → r.caller < w.header.callers → IsAt w.items above r.caller c → c.seq ≡ r.seq
    → IfSome o (λ x. item x ≤ length items) → MatchOption o (scripts_of r.caller (drop c.item items) ≡ []) (λ x. scripts_of r.caller (drop c.item items) ≡ script x ∷ scripts_of r.caller (drop (item x) items))
    → IfSome o (λ x. IsNext w above r (item x) (script x))
some-next item script None w above r c items is fit lt at same within found = tt
some-next item script (Some x) w above r c items is fit lt at same within found =
    is-next w above r c (item x) (script x) fit lt at same (subst (λ (l : List Item). item x ≤ length l) is within)
    (subst (λ l. scripts_of r.caller (drop c.item l) ≡ script x ∷ scripts_of r.caller (drop (item x) l)) is found)

pub none-next : {X : Type 0} (item : X → ℕ) (script : X → List Op) (o : Option X) (w : Workload) (above : List Row) (r : Row) (c : Cursor) (items : List Item) → items ≡ w.items
    → IsAt w.items above r.caller c → c.seq ≡ r.seq
    → MatchOption o (scripts_of r.caller (drop c.item items) ≡ []) (λ x. scripts_of r.caller (drop c.item items) ≡ script x ∷ scripts_of r.caller (drop (item x) items))
    → IfNone o (r.seq ≡ length (rows_of r.caller above) → r.seq < length (scripts_of r.caller w.items) → ⊥)
none-next item script None w above r c items is at same found = λ next lt. not-next w above r c at same (subst (λ l. scripts_of r.caller (drop c.item l) ≡ []) is found) lt
none-next item script (Some x) w above r c items is at same found = tt

pub rows-beyond : (n callers : ℕ) (above : List Row) (r : Row) → callers ≤ n → r.caller < callers → rows_of n above ≡ [] → rows_of n (above ++ r ∷ []) ≡ []
rows-beyond n callers above r le lt none =
    let test : (r.caller == n) ≡ false = grind (arith, nat_tests) in
    rows-append n above (r ∷ []) ∙ (ap (λ b. rows_of n above ++ (if b then r ∷ [] else [])) test ∙ (append-nil (rows_of n above) ∙ none))

-- a transaction of the caller is left
pub some-left : (w : Workload) (above : List Row) (n : ℕ) (c : Cursor) (x : List Op) (rest : List (List Op)) → IsAt w.items above n c → scripts_of n (drop c.item w.items) ≡ x ∷ rest
    → length (rows_of n above) < length (scripts_of n w.items)
some-left w above n c x rest at found =
    let h = (first-of (scripts_of n w.items) c.seq x rest x (sym at.left ∙ found)).0 in
    let r = at.rows in omega arith

-- no transaction of the caller is left
pub none-left : (w : Workload) (above : List Row) (n : ℕ) (c : Cursor) → IsAt w.items above n c → scripts_of n (drop c.item w.items) ≡ [] → length (rows_of n above) ≡ length (scripts_of n w.items)
none-left w above n c at none =
    let h = none-of (scripts_of n w.items) c.seq (sym at.left ∙ none) in
    let p = at.past in let r = at.rows in omega arith

-- the next row has no fault
pub right-more : (w : Workload) (rows : List Row) (i : ℕ) (r : Row) (m now : List ℕ) → i < length rows → r ≡ get_or rows i r → IsRight w (take i rows) m r → now ≡ memory_after w m r → (last : List ℕ)
    → AreRight w (take (i + 1) rows) now (drop (i + 1) rows) last → AreRight w (take i rows) m (drop i rows) last
right-more w rows i r m now lt at right is last h =
    let d : drop i rows ≡ r ∷ drop (i + 1) rows = drop_more rows i r lt ∙ ap (λ x. x ∷ drop (i + 1) rows) (sym at) in
    let t : take (i + 1) rows ≡ take i rows ++ r ∷ [] = rw add-one (take-suc rows i r lt) ∙ ap (λ x. take i rows ++ x ∷ []) (sym at) in
    subst (λ l. AreRight w (take i rows) m l last) (sym d) (right, subst (λ k. AreRight w (take i rows ++ r ∷ []) k (drop (i + 1) rows) last) is (subst (λ l. AreRight w l now (drop (i + 1) rows) last) t h))

pub wants-more : (w : Workload) (rows : List Row) (i : ℕ) (r : Row) (m now : List ℕ) → i < length rows → r ≡ get_or rows i r → IsRight w (take i rows) m r → now ≡ memory_after w m r → (n : ℕ) (wanted : Wanted)
    → WantsAt w (take (i + 1) rows) now (drop (i + 1) rows) n wanted → WantsAt w (take i rows) m (drop i rows) (suc n) wanted
wants-more w rows i r m now lt at right is n wanted h =
    let d : drop i rows ≡ r ∷ drop (i + 1) rows = drop_more rows i r lt ∙ ap (λ x. x ∷ drop (i + 1) rows) (sym at) in
    let t : take (i + 1) rows ≡ take i rows ++ r ∷ [] = rw add-one (take-suc rows i r lt) ∙ ap (λ x. take i rows ++ x ∷ []) (sym at) in
    subst (λ l. WantsAt w (take i rows) m l (suc n) wanted) (sym d) (
      right,
      subst (λ k. WantsAt w (take i rows ++ r ∷ []) k (drop (i + 1) rows) n wanted) is
          (subst (λ l. WantsAt w l now (drop (i + 1) rows) n wanted) t h),
    )

pub wants-here : (w : Workload) (rows : List Row) (i : ℕ) (r : Row) (m : List ℕ) (wanted : Wanted) → i < length rows → r ≡ get_or rows i r
    → WantsOf w (take i rows) m r wanted → WantsAt w (take i rows) m (drop i rows) 0 wanted
wants-here w rows i r m wanted lt at wrong =
    let d : drop i rows ≡ r ∷ drop (i + 1) rows = drop_more rows i r lt ∙ ap (λ x. x ∷ drop (i + 1) rows) (sym at) in
    subst (λ l. WantsAt w (take i rows) m l 0 wanted) (sym d) wrong

pub alike-short : (ps qs : List (ℕ × ℕ)) (i : ℕ) → length qs ≤ i → alike (drop i ps) (drop i qs) ≡ 0
alike-short ps qs i le = ap (alike (drop i ps)) (drop-past qs i le) ∙ none (drop i ps)
  where
    drop-past : (l : List (ℕ × ℕ)) (i : ℕ) → length l ≤ i → drop i l ≡ []
    drop-past [] zero h = refl
    drop-past [] (suc i) h = refl
    drop-past (x ∷ l) zero h = absurd (omega arith)
    drop-past (x ∷ l) (suc i) h = drop-past l i (omega arith)

    none : (l : List (ℕ × ℕ)) → alike l [] ≡ 0
    none [] = refl
    none (x ∷ l) = refl

pub alike-self : (ps : List (ℕ × ℕ)) → alike ps ps ≡ length ps
alike-self [] = refl
alike-self (p ∷ ps) =
    let a : (p.0 == p.0) ≡ true = grind (arith, nat_tests) in
    let b : (p.1 == p.1) ≡ true = grind (arith, nat_tests) in
    rw (a, b) (ap suc (alike-self ps))

-- alike to the end of both
pub alike-same : (ps qs : List (ℕ × ℕ)) → alike ps qs ≡ length ps → alike ps qs ≡ length qs → ps ≡ qs
alike-same [] [] h k = refl
alike-same [] (q ∷ qs) h k = absurd (omega arith)
alike-same (p ∷ ps) [] h k = absurd (omega arith)
alike-same (p ∷ ps) (q ∷ qs) h k = by (p.0 == q.0) (p.1 == q.1) refl refl h k (alike-same ps qs)
  where
    same : p.0 ≡ q.0 → p.1 ≡ q.1 → p ≡ q
    same e f = ap (λ x. let z : ℕ × ℕ = (x, p.1) in z) e ∙ ap (λ x. let z : ℕ × ℕ = (q.0, x) in z) f

    by : (a b : Bool) → (p.0 == q.0) ≡ a → (p.1 == q.1) ≡ b → (if a && b then suc (alike ps qs) else 0) ≡ suc (length ps) → (if a && b then suc (alike ps qs) else 0) ≡ suc (length qs)
        → (alike ps qs ≡ length ps → alike ps qs ≡ length qs → ps ≡ qs) → p ∷ ps ≡ q ∷ qs
    by true true e f h k rest =
        let x : p.0 ≡ q.0 = grind (arith, nat_tests) in
        let y : p.1 ≡ q.1 = grind (arith, nat_tests) in
        ap (λ z. z ∷ ps) (same x y) ∙ ap (λ l. q ∷ l) (rest (omega arith) (omega arith))
    by true false e f h k rest = absurd (omega arith)
    by false b e f h k rest = absurd (omega arith)

pub first-cursors : (items : List Item) (n callers : ℕ) (d : Cursor) → n < callers → IsAt items [] n (slice_index_or (replicate callers (record { item = 0; seq = 0 })) n d)
first-cursors items n callers d lt = subst (IsAt items [] n) (sym (same n callers d lt)) (record { within = omega arith; rows = refl; past = omega arith; left = refl })
  where
    same : (n callers : ℕ) (d : Cursor) → n < callers → slice_index_or (replicate callers (let c : Cursor = record { item = 0; seq = 0 } in c)) n d ≡ record { item = 0; seq = 0 }
    same n zero d lt = absurd (omega arith)
    same zero (suc k) d lt = refl
    same (suc n) (suc k) d lt = same n k d (omega arith)

pub take-row : (rows : List Row) (i : ℕ) (r : Row) → i < length rows → r ≡ get_or rows i r → take i rows ++ r ∷ [] ≡ take (i + 1) rows
take-row rows i r lt at = let t : take (i + 1) rows ≡ take i rows ++ get_or rows i r ∷ [] = rw add-one (take-suc rows i r lt) in ap (λ x. take i rows ++ x ∷ []) at ∙ sym t
