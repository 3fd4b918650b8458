-- A workload parted by caller.
use Rattle.std.proofs.Common.{ℕ, zero, suc, ◌≡◌, ◌<◌, ◌≤◌, ◌+◌, Bool, true, false, List, [], ◌∷◌, ◌++◌, length, get_or, map, take, drop, refl, sym, ap, ◌∙◌, arith}
use Rattle.std.specs.Prelude.{◌==◌, if◌then◌else◌, All, replicate, slice_set, slice_index_or}
use Rattle.std.proofs.lemmas.Bool.Decides.{nat_tests}
use Rattle.std.proofs.lemmas.List.Elements.{All-head, All-tail}
use Rattle.work_script.specs.declared.workload.Item.{Item}
use Rattle.work_script.specs.declared.workload.Item.TheVariants.{Tx, Switch, Reserve}
use Rattle.work_script.specs.Reports.{scripts_of, counted}
use Rattle.work_trace.specs.Places.{caller_in, items_of}
use Rattle.work_driver.specs.Partings.{parted}

-- a caller's scripts are those of its items
pub scripts-own : (n : ℕ) (items : List Item) → scripts_of n (items_of n items) ≡ scripts_of n items
scripts-own n [] = refl
scripts-own n (Tx caller script ∷ items) = by (caller == n) refl (scripts-own n items)
  where
    by : (b : Bool) → (caller == n) ≡ b → scripts_of n (items_of n items) ≡ scripts_of n items
        → scripts_of n (if b then Tx caller script ∷ items_of n items else items_of n items) ≡ (if b then script ∷ scripts_of n items else scripts_of n items)
    by true e r = rw e (ap (λ l. script ∷ l) r)
    by false e r = r
scripts-own n (Switch caller alg ∷ items) = by (caller == n) (scripts-own n items)
  where
    by : (b : Bool) → scripts_of n (items_of n items) ≡ scripts_of n items
        → scripts_of n (if b then Switch caller alg ∷ items_of n items else items_of n items) ≡ scripts_of n items
    by true r = r
    by false r = r
scripts-own n (Reserve caller reads writes ∷ items) = by (caller == n) (scripts-own n items)
  where
    by : (b : Bool) → scripts_of n (items_of n items) ≡ scripts_of n items
        → scripts_of n (if b then Reserve caller reads writes ∷ items_of n items else items_of n items) ≡ scripts_of n items
    by true r = r
    by false r = r

pub all-cons : {A : Type 0} (P : A → Type 0) (x : A) (xs : List A) → P x → All P xs → All P (x ∷ xs)
all-cons P x xs h t = λ i d lt. at i d lt
  where
    at : (i : ℕ) (d : _) → i < suc (length xs) → P (get_or (x ∷ xs) i d)
    at zero d lt = h
    at (suc i) d lt = t i d (omega arith)

-- what holds of all items holds of a caller's, each of which is its own
pub own-all : (P : Item → Type 0) (n : ℕ) (items : List Item) → All P items → All (λ i. (caller_in i ≡ n) × P i) (items_of n items)
own-all P n [] h = λ i d lt. absurd (omega arith)
own-all P n (x ∷ items) h = by (caller_in x == n) refl (own-all P n items (All-tail P x items h))
  where
    by : (b : Bool) → (caller_in x == n) ≡ b → All (λ i. (caller_in i ≡ n) × P i) (items_of n items) → All (λ i. (caller_in i ≡ n) × P i) (if b then x ∷ items_of n items else items_of n items)
    by true e r = all-cons (λ i. (caller_in i ≡ n) × P i) x (items_of n items) (grind (arith, nat_tests), All-head P x items h) r
    by false e r = r

items-append : (n : ℕ) (items : List Item) (i : Item) → items_of n (items ++ i ∷ []) ≡ (if caller_in i == n then items_of n items ++ i ∷ [] else items_of n items)
items-append n [] i = refl
items-append n (x ∷ items) i = by (caller_in x == n) (caller_in i == n) (items-append n items i)
  where
    by : (b c : Bool) → items_of n (items ++ i ∷ []) ≡ (if c then items_of n items ++ i ∷ [] else items_of n items)
        → (if b then x ∷ items_of n (items ++ i ∷ []) else items_of n (items ++ i ∷ []))
        ≡ (if c then (if b then x ∷ items_of n items else items_of n items) ++ i ∷ [] else (if b then x ∷ items_of n items else items_of n items))
    by true true r = ap (λ l. x ∷ l) r
    by true false r = ap (λ l. x ∷ l) r
    by false true r = r
    by false false r = r

items-more : (n : ℕ) (items : List Item) (i : Item) → caller_in i ≡ n → items_of n (items ++ i ∷ []) ≡ items_of n items ++ i ∷ []
items-more n items i e =
    let test : (caller_in i == n) ≡ true = grind (arith, nat_tests) in
    items-append n items i ∙ ap (λ b. if b then items_of n items ++ i ∷ [] else items_of n items) test

items-same : (n : ℕ) (items : List Item) (i : Item) → (caller_in i ≡ n → ⊥) → items_of n (items ++ i ∷ []) ≡ items_of n items
items-same n items i ne =
    let test : (caller_in i == n) ≡ false = grind (arith, nat_tests, ne) in
    items-append n items i ∙ ap (λ b. if b then items_of n items ++ i ∷ [] else items_of n items) test

-- callers above are left as they were
parts-same : (k m : ℕ) (items : List Item) (i : Item) → caller_in i < k → map (λ n. items_of n (items ++ i ∷ [])) (counted k m) ≡ map (λ n. items_of n items) (counted k m)
parts-same k zero items i lt = refl
parts-same k (suc m) items i lt =
    let head = items-same k items i (λ e. omega arith) in
    let rest = parts-same (suc k) m items i (omega arith) in
    cc

given-from : (j k m : ℕ) (items : List Item) (i : Item) → caller_in i ≡ k + j → j < m
    → map (λ n. items_of n (items ++ i ∷ [])) (counted k m) ≡ slice_set (map (λ n. items_of n items) (counted k m)) j (items_of (caller_in i) items ++ i ∷ [])
given-from j k zero items i e lt = absurd (omega arith)
given-from zero k (suc m) items i e lt =
    let own : caller_in i ≡ k = omega arith in
    let head : items_of k (items ++ i ∷ []) ≡ items_of (caller_in i) items ++ i ∷ [] = items-more k items i own ∙ ap (λ n. items_of n items ++ i ∷ []) (sym own) in
    let rest = parts-same (suc k) m items i (omega arith) in
    cc
given-from (suc j) k (suc m) items i e lt =
    let head = items-same k items i (λ own. omega arith) in
    let rest = given-from j (suc k) m items i (omega arith) (omega arith) in
    cc

-- one item more is given to its caller
pub given : (callers : ℕ) (items : List Item) (i : Item) → caller_in i < callers
    → parted callers (items ++ i ∷ []) ≡ slice_set (parted callers items) (caller_in i) (items_of (caller_in i) items ++ i ∷ [])
given callers items i lt = given-from (caller_in i) 0 callers items i (omega arith) lt

part-from : (j k m : ℕ) (items : List Item) (d : List Item) → j < m → slice_index_or (map (λ n. items_of n items) (counted k m)) j d ≡ items_of (k + j) items
part-from j k zero items d lt = absurd (omega arith)
part-from zero k (suc m) items d lt = let e : k ≡ k + 0 = omega arith in ap (λ n. items_of n items) e
part-from (suc j) k (suc m) items d lt = let e : suc k + j ≡ k + suc j = omega arith in part-from j (suc k) m items d (omega arith) ∙ ap (λ n. items_of n items) e

-- what a caller has
pub part-at : (callers : ℕ) (items : List Item) (n : ℕ) (d : List Item) → n < callers → slice_index_or (parted callers items) n d ≡ items_of n items
part-at callers items n d lt = let e : 0 + n ≡ n = omega arith in part-from n 0 callers items d lt ∙ ap (λ k. items_of k items) e

none-from : (k m : ℕ) → replicate m [] ≡ map (λ n. items_of n []) (counted k m)
none-from k zero = refl
none-from k (suc m) = ap (λ l. [] ∷ l) (none-from (suc k) m)

-- nothing to part
pub parts-none : (callers : ℕ) → replicate callers [] ≡ parted callers []
parts-none callers = none-from 0 callers

-- how many transactions m callers have, from caller n on
abbrev pub total : ℕ → ℕ → List Item → ℕ
total n zero items = 0
total n (suc m) items = length (scripts_of n items) + total (suc n) m items

total-none : (n m : ℕ) → total n m [] ≡ 0
total-none n zero = refl
total-none n (suc m) = let e = total-none (suc n) m in omega arith

total-same : (n m : ℕ) (i : Item) (items : List Item) → caller_in i < n → total n m (i ∷ items) ≡ total n m items
total-same n zero i items lt = refl
total-same n (suc m) (Tx caller script) items lt =
    let test : (caller == n) ≡ false = grind (arith, nat_tests) in
    let rest = total-same (suc n) m (Tx caller script) items (omega arith) in
    let head : length (scripts_of n (Tx caller script ∷ items)) ≡ length (scripts_of n items) = ap (λ b. length (if b then script ∷ scripts_of n items else scripts_of n items)) test in
    omega arith
total-same n (suc m) (Switch caller alg) items lt = let rest = total-same (suc n) m (Switch caller alg) items (omega arith) in omega arith
total-same n (suc m) (Reserve caller reads writes) items lt = let rest = total-same (suc n) m (Reserve caller reads writes) items (omega arith) in omega arith

total-more : (n m : ℕ) (i : Item) (items : List Item) → total n m (i ∷ items) ≤ suc (total n m items)
total-more n zero i items = omega arith
total-more n (suc m) (Tx caller script) items = by (caller == n) refl (total-more (suc n) m (Tx caller script) items)
  where
    by : (b : Bool) → (caller == n) ≡ b → total (suc n) m (Tx caller script ∷ items) ≤ suc (total (suc n) m items)
        → length (scripts_of n (Tx caller script ∷ items)) + total (suc n) m (Tx caller script ∷ items)
        ≤ suc (length (scripts_of n items) + total (suc n) m items)
    by true e more =
        let own : caller ≡ n = grind (arith, nat_tests) in
        let rest = total-same (suc n) m (Tx caller script) items (omega arith) in
        let head : length (scripts_of n (Tx caller script ∷ items)) ≡ suc (length (scripts_of n items)) = ap (λ b. length (if b then script ∷ scripts_of n items else scripts_of n items)) e in
        omega arith
    by false e more =
        let head : length (scripts_of n (Tx caller script ∷ items)) ≡ length (scripts_of n items) = ap (λ b. length (if b then script ∷ scripts_of n items else scripts_of n items)) e in
        omega arith
total-more n (suc m) (Switch caller alg) items = let rest = total-more (suc n) m (Switch caller alg) items in omega arith
total-more n (suc m) (Reserve caller reads writes) items = let rest = total-more (suc n) m (Reserve caller reads writes) items in omega arith

-- no item is a transaction of two callers
pub total-few : (n m : ℕ) (items : List Item) → total n m items ≤ length items
total-few n m [] = let e = total-none n m in omega arith
total-few n m (i ∷ items) = let a = total-more n m i items in let b = total-few n m items in omega arith

pub all-middle : {A : Type 0} (P : A → Type 0) (xs : List A) (y : A) (zs : List A) → All P (xs ++ y ∷ zs) → P y
all-middle P [] y zs h = All-head P y zs h
all-middle P (x ∷ xs) y zs h = all-middle P xs y zs (All-tail P x (xs ++ y ∷ zs) h)

-- what a slice that was lent whole left
pub written : {A : Type 0} (n : ℕ) (xs ys : List A) → length xs ≡ n → length ys ≡ n → take n (xs ++ drop (length xs) ys) ≡ xs
written zero [] [] a b = refl
written zero (x ∷ xs) ys a b = absurd (omega arith)
written zero [] (y ∷ ys) a b = absurd (omega arith)
written (suc n) [] ys a b = absurd (omega arith)
written (suc n) (x ∷ xs) [] a b = absurd (omega arith)
written (suc n) (x ∷ xs) (y ∷ ys) a b = ap (λ l. x ∷ l) (written n xs ys (omega arith) (omega arith))

-- how many items m callers have, from caller n on
abbrev pub all_items : ℕ → ℕ → List Item → ℕ
all_items n zero items = 0
all_items n (suc m) items = length (items_of n items) + all_items (suc n) m items

all_items-none : (n m : ℕ) → all_items n m [] ≡ 0
all_items-none n zero = refl
all_items-none n (suc m) = let e = all_items-none (suc n) m in omega arith

all_items-same : (n m : ℕ) (i : Item) (items : List Item) → caller_in i < n → all_items n m (i ∷ items) ≡ all_items n m items
all_items-same n zero i items lt = refl
all_items-same n (suc m) i items lt =
    let test : (caller_in i == n) ≡ false = grind (arith, nat_tests) in
    let rest = all_items-same (suc n) m i items (omega arith) in
    let head : length (items_of n (i ∷ items)) ≡ length (items_of n items) = ap (λ b. length (if b then i ∷ items_of n items else items_of n items)) test in
    omega arith

all_items-more : (n m : ℕ) (i : Item) (items : List Item) → all_items n m (i ∷ items) ≤ suc (all_items n m items)
all_items-more n zero i items = omega arith
all_items-more n (suc m) i items = by (caller_in i == n) refl (all_items-more (suc n) m i items)
  where
    by : (b : Bool) → (caller_in i == n) ≡ b → all_items (suc n) m (i ∷ items) ≤ suc (all_items (suc n) m items)
        → length (items_of n (i ∷ items)) + all_items (suc n) m (i ∷ items) ≤ suc (length (items_of n items) + all_items (suc n) m items)
    by true e more =
        let own : caller_in i ≡ n = grind (arith, nat_tests) in
        let rest = all_items-same (suc n) m i items (omega arith) in
        let head : length (items_of n (i ∷ items)) ≡ suc (length (items_of n items)) = ap (λ b. length (if b then i ∷ items_of n items else items_of n items)) e in
        omega arith
    by false e more =
        let head : length (items_of n (i ∷ items)) ≡ length (items_of n items) = ap (λ b. length (if b then i ∷ items_of n items else items_of n items)) e in
        omega arith

-- no item is of two callers
pub all_items-few : (n m : ℕ) (items : List Item) → all_items n m items ≤ length items
all_items-few n m [] = let e = all_items-none n m in omega arith
all_items-few n m (i ∷ items) = let a = all_items-more n m i items in let b = all_items-few n m items in omega arith
