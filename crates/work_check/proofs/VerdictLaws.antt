-- A report replays its workload exactly where no line is at fault.
use Rattle.std.proofs.Common.{ℕ, zero, suc, ◌≡◌, ◌≢◌, ◌<◌, ◌≤◌, ◌+◌, List, [], ◌∷◌, ◌++◌, Bool, true, false, refl, sym, ap, ◌∙◌, arith, subst, inl, inr, append_assoc, length-append}
use Rattle.std.specs.Prelude.{◌==◌, ◌⊎◌, map, if◌then◌else◌, Option, Some, None, IfSome, length}
use Rattle.std.specs.List.{last_or, AllByRecursion}
use Rattle.std.proofs.lemmas.Bool.Decides.{nat_tests}
use Rattle.std.proofs.lemmas.List.Elements.{All-from_recursion}
use Rattle.work_script.specs.declared.report.Kind.{Kind}
use Rattle.work_script.specs.declared.report.Kind.TheVariants.{W, R, C}
use Rattle.work_script.specs.declared.report.Report.{Report}
use Rattle.work_script.specs.declared.report.Row.{Row}
use Rattle.work_script.specs.declared.workload.Workload.{Workload}
use Rattle.work_script.specs.GrowthLaws.{ordered-append}
use Rattle.work_script.specs.Parts.{by_kind}
use Rattle.work_script.specs.Reports.{Replay, Replays, Ordered, IsBefore, rank, code, Ascends, Apart, writers, writer_to, rows_of, counted, scripts_of, script_of, regions_of, zeros, nonzero}
use Rattle.work_check.specs.Verdicts.{IsRight, memory_after, AreRight, IsWrongAt, AllHaveRows, EndsWrong, IsFirstFault}

pub append-nil : {A : Type 0} (xs : List A) → xs ++ [] ≡ xs
append-nil [] = refl
append-nil (x ∷ xs) = ap (λ w. x ∷ w) (append-nil xs)

regroup : (above : List Row) (r : Row) (rs : List Row) → (above ++ r ∷ []) ++ rs ≡ above ++ r ∷ rs
regroup above r rs = append_assoc above (r ∷ []) rs

before-trans : (a b c : Row) → IsBefore a b → IsBefore b c → IsBefore a c
before-trans a b c (inl h) (inl k) = inl (omega arith)
before-trans a b c (inl h) (inr k) = let e = k.0 in inl (omega arith)
before-trans a b c (inr h) (inl k) = let e = h.0 in inl (omega arith)
before-trans a b c (inr h) (inr k) = by h.1 k.1
  where
    by : (a.caller < b.caller) ⊎ ((a.caller ≡ b.caller) × (a.seq ≤ b.seq)) → (b.caller < c.caller) ⊎ ((b.caller ≡ c.caller) × (b.seq ≤ c.seq)) → IsBefore a c
    by (inl x) (inl y) = inr (h.0 ∙ k.0, inl (omega arith))
    by (inl x) (inr y) = let e = y.0 in inr (h.0 ∙ k.0, inl (omega arith))
    by (inr x) (inl y) = let e = x.0 in inr (h.0 ∙ k.0, inl (omega arith))
    by (inr x) (inr y) = let d = x.1 in let e = y.1 in inr (h.0 ∙ k.0, inr (x.0 ∙ y.0, omega arith))

-- the last of a list that grew
pub last-push : {A : Type 0} (o : Option A) (xs : List A) (x : A) → last_or o (xs ++ x ∷ []) ≡ Some x
last-push o [] x = refl
last-push o (y ∷ ys) x = last-push (Some y) ys x

last-holds : {A : Type 0} (P : A → Type 0) (o : Option A) (xs : List A) → IfSome o P → AllByRecursion P xs → IfSome (last_or o xs) P
last-holds P o [] h all = h
last-holds P o (x ∷ xs) h all = last-holds P (Some x) xs all.0 all.1

-- a row after the last one is after all
all-before : (above : List Row) (r : Row) → Ordered above → IfSome (last_or None above) (λ x. IsBefore x r) → AllByRecursion (λ x. IsBefore x r) above
all-before [] r o h = tt
all-before (x ∷ []) r o h = (h, tt)
all-before (x ∷ y ∷ ys) r o h =
    let rest = all-before (y ∷ ys) r o.1 h in
    (before-trans x y r o.0.0 rest.0, rest)

writers-by : (k : Kind) (p : ℕ) (xs ys : List ℕ) → writer_to k p (xs ++ ys) ≡ writer_to k p xs ++ ys
writers-by W p xs ys = refl
writers-by R p xs ys = refl
writers-by C p xs ys = refl

pub writers-append : (rs ss : List Row) → writers (rs ++ ss) ≡ writers rs ++ writers ss
writers-append [] ss = refl
writers-append (r ∷ rs) ss = ap (writer_to r.kind r.place) (writers-append rs ss) ∙ writers-by r.kind r.place (writers rs) (writers ss)

-- the writers before a W row have no later place
rank-of : (x r : Row) → IsBefore x r → rank x ≤ rank r
rank-of x r (inl h) = omega arith
rank-of x r (inr h) = let e = h.0 in omega arith

low-by : (k : Kind) (x r : Row) (ws : List ℕ) → x.kind ≡ k → r.kind ≡ W → IsBefore x r → AllByRecursion (λ q. q ≤ r.place) ws → AllByRecursion (λ q. q ≤ r.place) (writer_to k x.place ws)
low-by W x r ws e is h all =
    let le = rank-of x r h in let a : code x.kind ≡ 0 = ap code e in let b : code r.kind ≡ 0 = ap code is in (omega arith, all)
low-by R x r ws e is h all = all
low-by C x r ws e is h all = all

writers-low : (above : List Row) (r : Row) → r.kind ≡ W → AllByRecursion (λ x. IsBefore x r) above → AllByRecursion (λ q. q ≤ r.place) (writers above)
writers-low [] r is h = tt
writers-low (x ∷ above) r is h = low-by x.kind x r (writers above) refl is h.0 (writers-low above r is h.1)

ascends-push : (x : ℕ) (ws : List ℕ) (p : ℕ) → Ascends x ws → IfSome (last_or (Some x) ws) (λ q. q < p) → Ascends x (ws ++ p ∷ [])
ascends-push x [] p h lt = (lt, tt)
ascends-push x (y ∷ ys) p h lt = (h.0, ascends-push y ys p h.1 lt)

apart-push : (ws : List ℕ) (p : ℕ) → Apart ws → IfSome (last_or None ws) (λ q. q < p) → Apart (ws ++ p ∷ [])
apart-push [] p h lt = tt
apart-push (x ∷ ws) p h lt = ascends-push x ws p h lt

less-by : (o : Option ℕ) (p : ℕ) → IfSome o (λ q. q ≤ p) → IfSome o (λ q. q ≢ p) → IfSome o (λ q. q < p)
less-by None p h n = tt
less-by (Some q) p h n = omega arith

apart-one : (k : Kind) (above : List Row) (r : Row) → r.kind ≡ k → Apart (writers above) → AllByRecursion (λ x. IsBefore x r) above
    → by_kind k (IfSome (last_or None (writers above)) (λ place. place ≢ r.place)) (Unit {0}) → Apart (writers above ++ writer_to k r.place [])
apart-one W above r is h all n =
    apart-push (writers above) r.place h (less-by (last_or None (writers above)) r.place (last-holds (λ q. q ≤ r.place) None (writers above) tt (writers-low above r is all)) n)
apart-one R above r is h all n = subst Apart (sym (append-nil (writers above))) h
apart-one C above r is h all n = subst Apart (sym (append-nil (writers above))) h

pub rows-append : (n : ℕ) (rs ss : List Row) → rows_of n (rs ++ ss) ≡ rows_of n rs ++ rows_of n ss
rows-append n [] ss = refl
rows-append n (r ∷ rs) ss = by (r.caller == n) (rows-append n rs ss)
  where
    by : (b : Bool) → rows_of n (rs ++ ss) ≡ rows_of n rs ++ rows_of n ss → (if b then r ∷ rows_of n (rs ++ ss) else rows_of n (rs ++ ss)) ≡ (if b then r ∷ rows_of n rs else rows_of n rs) ++ rows_of n ss
    by true h = ap (λ l. r ∷ l) h
    by false h = h

counted-push : (k n j : ℕ) → j ≡ k + n → counted k (suc n) ≡ counted k n ++ j ∷ []
counted-push k zero j e = let q : j ≡ k = omega arith in ap (λ x. x ∷ []) (sym q)
counted-push k (suc n) j e = ap (λ l. k ∷ l) (counted-push (suc k) n j (omega arith))

map-push : (rows : List Row) (r : Row) → map (λ (x : Row). x.seq) (rows ++ r ∷ []) ≡ map (λ (x : Row). x.seq) rows ++ r.seq ∷ []
map-push [] r = refl
map-push (x ∷ rows) r = ap (λ l. x.seq ∷ l) (map-push rows r)

-- the rows of each caller are numbered from 0
abbrev Numbered : List Row → Type 0
Numbered rows = (n : ℕ) → map (λ (x : Row). x.seq) (rows_of n rows) ≡ counted 0 (length (rows_of n rows))

numbered-one : (above : List Row) (r : Row) → Numbered above → r.seq ≡ length (rows_of r.caller above) → Numbered (above ++ r ∷ [])
numbered-one above r h next n = rw (rows-append n above (r ∷ [])) (by (r.caller == n) refl)
  where
    by : (b : Bool) → (r.caller == n) ≡ b → map (λ (x : Row). x.seq) (rows_of n above ++ (if b then r ∷ [] else [])) ≡ counted 0 (length (rows_of n above ++ (if b then r ∷ [] else [])))
    by true e =
        let q : r.caller ≡ n = grind (arith, nat_tests) in
        let l = length-append (rows_of n above) (r ∷ []) in
        let longer : suc (length (rows_of n above)) ≡ length (rows_of n above ++ r ∷ []) = omega arith in
        let s : r.seq ≡ length (rows_of n above) = next ∙ ap (λ k. length (rows_of k above)) q in
        map-push (rows_of n above) r
        ∙ (ap (λ l. l ++ r.seq ∷ []) (h n)
        ∙ (ap (λ k. counted 0 (length (rows_of n above)) ++ k ∷ []) s
        ∙ (sym (counted-push 0 (length (rows_of n above)) (length (rows_of n above)) (omega arith)) ∙ ap (counted 0) longer)))
    by false e = ap (map (λ (x : Row). x.seq)) (append-nil (rows_of n above)) ∙ (h n ∙ ap (λ l. counted 0 (length l)) (sym (append-nil (rows_of n above))))

-- what rows without a fault are
record AreGood (w : Workload) (rows : List Row) : Type 0 where
  ordered : Ordered rows
  apart : Apart (writers rows)
  numbered : Numbered rows

good-one : (w : Workload) (above : List Row) (m : List ℕ) (r : Row) → AreGood w above → IsRight w above m r → AreGood w (above ++ r ∷ [])
good-one w above m r h right =
    let all = all-before above r h.ordered right.ordered in
    record {
      ordered = ordered-append above r h.ordered (All-from_recursion (λ x. IsBefore x r) above all);
      apart = subst Apart (sym (writers-append above (r ∷ []))) (apart-one r.kind above r refl h.apart all right.apart);
      numbered = numbered-one above r h.numbered right.next;
    }

good-all : (w : Workload) (above : List Row) (m : List ℕ) (rs : List Row) (last : List ℕ) → AreGood w above → AreRight w above m rs last → AreGood w (above ++ rs)
good-all w above m [] last h right = subst (AreGood w) (sym (append-nil above)) h
good-all w above m (r ∷ rs) last h right =
    subst (AreGood w) (regroup above r rs) (good-all w (above ++ r ∷ []) (memory_after w m r) rs last (good-one w above m r h right.0) right.1)

replay-all : (w : Workload) (above : List Row) (m : List ℕ) (rs : List Row) (last : List ℕ) → AreRight w above m rs last → Replay (regions_of w.header) (script_of w.items) m rs last
replay-all w above m [] last right = right
replay-all w above m (r ∷ rs) last right = (right.0.fits, replay-all w (above ++ r ∷ []) (memory_after w m r) rs last right.1)

-- rows without a fault, each transaction with its row, and the memory that they leave
pub right-replays : (w : Workload) (r : Report) (last : List ℕ) → AreRight w [] (zeros w.header.words) r.rows last → AllHaveRows w r.rows → r.memory ≡ nonzero 0 last → Replays w r
right-replays w r last right all memory =
    let good = good-all w [] (zeros w.header.words) r.rows last (record { ordered = tt; apart = tt; numbered = λ n. refl }) right in
    record {
      ordered = good.ordered;
      apart = good.apart;
      complete = λ n. good.numbered n ∙ ap (counted 0) (all n);
      last = last;
      replay = replay-all w [] (zeros w.header.words) r.rows last right;
      memory = memory;
    }

-- and the other way round
last-before : (above : List Row) (r : Row) (rs : List Row) → Ordered (above ++ r ∷ rs) → IfSome (last_or None above) (λ x. IsBefore x r)
last-before [] r rs o = tt
last-before (x ∷ []) r rs o = o.0.0
last-before (x ∷ y ∷ ys) r rs o = last-before (y ∷ ys) r rs o.1

last-less : (x : ℕ) (ws : List ℕ) (p : ℕ) (qs : List ℕ) → Ascends x (ws ++ p ∷ qs) → IfSome (last_or (Some x) ws) (λ q. q ≢ p)
last-less x [] p qs h = let lt = h.0 in omega arith
last-less x (y ∷ ws) p qs h = last-less y ws p qs h.1

last-apart : (ws : List ℕ) (p : ℕ) (qs : List ℕ) → Apart (ws ++ p ∷ qs) → IfSome (last_or None ws) (λ q. q ≢ p)
last-apart [] p qs h = tt
last-apart (x ∷ ws) p qs h = last-less x ws p qs h

apart-at : (k : Kind) (ws : List ℕ) (p : ℕ) (qs : List ℕ) → Apart (ws ++ writer_to k p qs) → by_kind k (IfSome (last_or None ws) (λ q. q ≢ p)) (Unit {0})
apart-at W ws p qs h = last-apart ws p qs h
apart-at R ws p qs h = tt
apart-at C ws p qs h = tt

counted-at : (xs : List ℕ) (s : ℕ) (ys : List ℕ) (j k : ℕ) → xs ++ s ∷ ys ≡ counted j k → (s ≡ j + length xs) × (length xs < k)
counted-at [] s ys j zero h = absurd cc
counted-at [] s ys j (suc k) h = let e : s ≡ j = cc in (omega arith, omega arith)
counted-at (x ∷ xs) s ys j zero h = absurd cc
counted-at (x ∷ xs) s ys j (suc k) h =
    let t : xs ++ s ∷ ys ≡ counted (suc j) k = cc in
    let r = counted-at xs s ys (suc j) k t in let a = r.0 in let b = r.1 in (omega arith, omega arith)

map-append : (xs ys : List Row) → map (λ (x : Row). x.seq) (xs ++ ys) ≡ map (λ (x : Row). x.seq) xs ++ map (λ (x : Row). x.seq) ys
map-append [] ys = refl
map-append (x ∷ xs) ys = ap (λ l. x.seq ∷ l) (map-append xs ys)

length-map : (rows : List Row) → length (map (λ (x : Row). x.seq) rows) ≡ length rows
length-map [] = refl
length-map (r ∷ rows) = ap suc (length-map rows)

length-counted : (k n : ℕ) → length (counted k n) ≡ n
length-counted k zero = refl
length-counted k (suc n) = ap suc (length-counted (suc k) n)

abbrev Complete : Workload → List Row → Type 0
Complete w rows = (n : ℕ) → map (λ (x : Row). x.seq) (rows_of n rows) ≡ counted 0 (length (scripts_of n w.items))

next-of : (w : Workload) (above : List Row) (r : Row) (rs : List Row) → Complete w (above ++ r ∷ rs) → (r.seq ≡ length (rows_of r.caller above)) × (length (rows_of r.caller above) < length (scripts_of r.caller w.items))
next-of w above r rs h =
    let n = r.caller in
    let same : (r.caller == r.caller) ≡ true = grind (arith, nat_tests) in
    let split : rows_of n (above ++ r ∷ rs) ≡ rows_of n above ++ r ∷ rows_of n rs = rows-append n above (r ∷ rs) ∙ ap (λ b. rows_of n above ++ (if b then r ∷ rows_of n rs else rows_of n rs)) same in
    let seqs = sym (map-append (rows_of n above) (r ∷ rows_of n rs)) ∙ (ap (map (λ (x : Row). x.seq)) (sym split) ∙ h n) in
    let at = counted-at (map (λ (x : Row). x.seq) (rows_of n above)) r.seq (map (λ (x : Row). x.seq) (rows_of n rs)) 0 (length (scripts_of n w.items)) seqs in
    let l = length-map (rows_of n above) in
    let a = at.0 in let b = at.1 in
    (omega arith, omega arith)

right-of : (w : Workload) (above : List Row) (m : List ℕ) (rs : List Row) (last : List ℕ) → Ordered (above ++ rs)
    → Apart (writers (above ++ rs)) → Complete w (above ++ rs) → Replay (regions_of w.header) (script_of w.items) m rs last
    → AreRight w above m rs last
right-of w above m [] last o a c replay = replay
right-of w above m (r ∷ rs) last o a c replay =
    let next = next-of w above r rs c in
    let n = next.0 in let e = next.1 in
    let group = sym (regroup above r rs) in (
      record {
        ordered = last-before above r rs o;
        apart = apart-at r.kind (writers above) r.place (writers rs) (subst Apart (writers-append above (r ∷ rs)) a);
        next = n;
        exists = omega arith;
        fits = replay.0;
      },
      right-of w (above ++ r ∷ []) (memory_after w m r) rs last (subst Ordered group o) (subst (λ l. Apart (writers l)) group a) (subst (Complete w) group c) replay.1,
    )

pub wrong-right : (w : Workload) (above : List Row) (m : List ℕ) (rs : List Row) (n : ℕ) (last : List ℕ) → IsWrongAt w above m rs n → AreRight w above m rs last → ⊥
wrong-right w above m [] n last wrong right = wrong
wrong-right w above m (r ∷ rs) zero last wrong right = wrong right.0
wrong-right w above m (r ∷ rs) (suc n) last wrong right = wrong-right w (above ++ r ∷ []) (memory_after w m r) rs n last wrong.1 right.1

pub one-last : (w : Workload) (above : List Row) (m : List ℕ) (rs : List Row) (a b : List ℕ) → AreRight w above m rs a → AreRight w above m rs b → a ≡ b
one-last w above m [] a b h k = sym h ∙ k
one-last w above m (r ∷ rs) a b h k = one-last w (above ++ r ∷ []) (memory_after w m r) rs a b h.1 k.1

-- a report with a line at fault doesn't replay its workload
pub fault-refutes : (w : Workload) (r : Report) (line : ℕ) → IsFirstFault w r line → Replays w r → ⊥
fault-refutes w r line fault is = by fault
  where
    right : AreRight w [] (zeros w.header.words) r.rows is.last
    right = right-of w [] (zeros w.header.words) r.rows is.last is.ordered is.apart is.complete is.replay

    all : AllHaveRows w r.rows
    all n = sym (length-map (rows_of n r.rows)) ∙ (ap length (is.complete n) ∙ length-counted 0 (length (scripts_of n w.items)))

    ends : (last : List ℕ) → AreRight w [] (zeros w.header.words) r.rows last → EndsWrong w r (2 + length r.rows) last line → ⊥
    ends last h (inl e) = e.0 all
    ends last h (inr e) = e.1 (is.memory ∙ ap (nonzero 0) (one-last w [] (zeros w.header.words) r.rows is.last last right h))

    by : IsFirstFault w r line → ⊥
    by (inl f) = wrong-right w [] (zeros w.header.words) r.rows f.0 is.last f.1 right
    by (inr f) = ends f.0 f.1 f.2
