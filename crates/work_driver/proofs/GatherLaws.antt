-- Lists of rows, one of which gives some; and a report of what came.
use Rattle.std.proofs.Common.{ℕ, zero, suc, ◌≡◌, ◌<◌, ◌≤◌, ◌+◌, List, [], ◌∷◌, ◌++◌, length, set, refl, sym, ap, ◌∙◌, arith, subst, append_assoc, length-append}
use Rattle.std.specs.Prelude.{Option, Some, None, MatchOption, slice_index_or, IsPermutation}
use Rattle.std.proofs.lemmas.List.{append-nil, set-get_or}
use Rattle.std.proofs.lemmas.List.Sorted.{IsPermutation-append_comm, IsPermutation-append_left, IsPermutation-append_right, IsPermutation-refl, IsPermutation-sym, IsPermutation-to_front, IsPermutation-trans}
use Rattle.work_script.specs.declared.report.Row.{Row}
use Rattle.work_script.specs.declared.report.Report.{Report}
use Rattle.work_driver.specs.ClosedRuns.{IsReport}
use Rattle.work_driver.specs.Gatherings.{HasRow, MovesLast, MovesSome, joined}

-- one list more
pub joined-more : (ls : List (List Row)) (l : List Row) → joined (ls ++ l ∷ []) ≡ joined ls ++ l
joined-more [] l = append-nil l
joined-more (k ∷ ls) l = ap (λ rs. k ++ rs) (joined-more ls l) ∙ sym (append_assoc k (joined ls) l)

-- none has a row
joined-none : (ls : List (List Row)) → ((k : ℕ) → k < length ls → slice_index_or ls k [] ≡ []) → joined ls ≡ []
joined-none [] h = refl
joined-none (l ∷ ls) h =
    let first : l ≡ [] = h 0 (omega arith) in
    ap (λ k. k ++ joined ls) first ∙ joined-none ls (λ k lt. h (suc k) (omega (arith, lt)))

-- what a look at all lists found
pub latest-found : (ls : List (List Row)) (n : ℕ) (found : Option ℕ) → length ls ≤ n → MatchOption found ((k : ℕ) → k < n → slice_index_or ls k [] ≡ []) (HasRow ls) → MatchOption found (joined ls ≡ []) (HasRow ls)
latest-found ls n None all h = joined-none ls (λ k lt. h k (omega (arith, lt, all)))
latest-found ls n (Some k) all h = h

-- the last row went
pub moves-last : (from left to more all : List Row) → MovesLast from left to more → IsPermutation all (to ++ from) → IsPermutation all (more ++ left)
moves-last from left to more all m before =
    let e : to ++ (m.row ∷ left) ≡ more ++ left = sym (append_assoc to (m.row ∷ []) left) ∙ ap (λ l. l ++ left) (sym m.come) in
    subst (IsPermutation all) e (IsPermutation-trans all (to ++ from) (to ++ (m.row ∷ left)) before
    (IsPermutation-append_right to from (m.row ∷ left) (subst (λ l. IsPermutation l (m.row ∷ left)) (sym m.gone) (IsPermutation-to_front left m.row))))

-- one row went
pub gone-one : (from left to more : List Row) → MovesLast from left to more → length from ≡ suc (length left)
gone-one from left to more m =
    let both = length-append left (m.row ∷ []) in
    let e = ap length m.gone in
    omega (arith, both, e)

-- two lists change places
past : (l x rest : List Row) → IsPermutation (l ++ (x ++ rest)) (x ++ (l ++ rest))
past l x rest =
    subst (λ k. IsPermutation k (x ++ (l ++ rest))) (append_assoc l x rest)
    (subst (IsPermutation ((l ++ x) ++ rest)) (append_assoc x l rest)
    (IsPermutation-append_left rest (l ++ x) (x ++ l) (IsPermutation-append_comm l x)))

-- list n first
first : (ls : List (List Row)) (n : ℕ) (l : List Row) → n < length ls → IsPermutation (joined (set ls n l)) (l ++ joined (set ls n []))
first [] n l lt = absurd (omega (arith, lt))
first (k ∷ ls) zero l lt = IsPermutation-refl (l ++ joined ls)
first (k ∷ ls) (suc n) l lt =
    IsPermutation-trans (k ++ joined (set ls n l)) (k ++ (l ++ joined (set ls n []))) (l ++ (k ++ joined (set ls n [])))
    (IsPermutation-append_right k (joined (set ls n l)) (l ++ joined (set ls n [])) (first ls n l (omega (arith, lt))))
    (past k l (joined (set ls n [])))

-- list n has given some rows: all are still there
pub moves-some : (ls : List (List Row)) (n : ℕ) (d left to more all : List Row) → n < length ls
    → MovesSome (slice_index_or ls n d) left to more → IsPermutation all (to ++ joined ls)
    → IsPermutation all (more ++ joined (set ls n left))
moves-some ls n d left to more all lt m before =
    let was = slice_index_or ls n d in
    let rest = joined (set ls n []) in
    let here : IsPermutation (joined ls) (was ++ rest) = subst (λ k. IsPermutation (joined k) (was ++ rest)) (set-get_or ls n d) (first ls n was lt) in
    let now : IsPermutation ((to ++ was) ++ rest) ((more ++ left) ++ rest) = IsPermutation-append_left rest (to ++ was) (more ++ left) m.moved in
    let one : IsPermutation all ((to ++ was) ++ rest) = subst (IsPermutation all) (sym (append_assoc to was rest))
    (IsPermutation-trans all (to ++ joined ls) (to ++ (was ++ rest)) before (IsPermutation-append_right to (joined ls) (was ++ rest) here))
    in
    let two : IsPermutation all (more ++ (left ++ rest)) = subst (IsPermutation all) (append_assoc more left rest) (IsPermutation-trans all ((to ++ was) ++ rest) ((more ++ left) ++ rest) one now) in
    IsPermutation-trans all (more ++ (left ++ rest)) (more ++ joined (set ls n left)) two
    (IsPermutation-append_right more (left ++ rest) (joined (set ls n left)) (IsPermutation-sym (joined (set ls n left)) (left ++ rest) (first ls n left lt)))

-- how many are left
pub left-count : (ls : List (List Row)) (n : ℕ) (d left : List Row) → n < length ls → length (joined (set ls n left)) + length (slice_index_or ls n d) ≡ length (joined ls) + length left
left-count [] n d left lt = absurd (omega (arith, lt))
left-count (k ∷ ls) zero d left lt =
    let a = length-append left (joined ls) in
    let b = length-append k (joined ls) in
    omega (arith, a, b)
left-count (k ∷ ls) (suc n) d left lt =
    let a = length-append k (joined (set ls n left)) in
    let b = length-append k (joined ls) in
    let c = left-count ls n d left (omega (arith, lt)) in
    omega (arith, a, b, c)

-- a report of rows that moved
pub report-moved : (rows others : List Row) (words : List ℕ) (report : Report) → IsPermutation rows others → IsReport others words report → IsReport rows words report
report-moved rows others words report p r = record { moved = IsPermutation-trans rows others report.rows p r.moved; ordered = r.ordered; memory = r.memory }
