-- What the transactions of a generated workload weigh in all.
use Rattle.std.proofs.Common.{ℕ, zero, suc, ◌≡◌, ◌≢◌, ◌<◌, ◌≤◌, ◌+◌, ◌/◌, ◌%◌, List, [], ◌∷◌, ◌++◌, Bool, true, false, refl, sym, ap, ◌∙◌, arith, min}
use Rattle.std.specs.Prelude.{◌==◌, ltb, if◌then◌else◌, slice_index_or}
use Rattle.std.proofs.Math.Nat.{mod-lt}
use Rattle.std.proofs.lemmas.Bool.Decides.{nat_tests}
use Rattle.work_script.specs.declared.op.Op.{Op}
use Rattle.work_script.specs.declared.op.Op.TheVariants.{Count, ListInsert}
use Rattle.work_script.specs.declared.workload.Item.{Item}
use Rattle.work_script.specs.declared.workload.Item.TheVariants.{Tx, Switch, Reserve}
use Rattle.work_script.specs.declared.report.Row.{Row}
use Rattle.work_script.specs.Reports.{scripts_of, script_of}
use Rattle.work_gen.specs.Draws.{drawn}
use Rattle.work_gen.specs.Generated.{drawn_move, draws_before, operation, switched, switch_after, items_at, items_for}
use Rattle.work_gen.proofs.Weights.{items_sum, once, opens, counts, inserts, weigh}
use Rattle.work_gen.proofs.RowSums.{CallersBelow}
use Rattle.work_gen.proofs.Replaying.{IsMade}
use Rattle.work_gen.proofs.Replaying.IsMade.{nothing, opening, moving, counting, inserting}

-- callers

below-append : (n : ℕ) (xs ys : List Item) → CallersBelow n xs → CallersBelow n ys → CallersBelow n (xs ++ ys)
below-append n [] ys x y = y
below-append n (Tx caller script ∷ xs) ys x y = (x.0, below-append n xs ys x.1 y)
below-append n (Switch caller alg ∷ xs) ys x y = below-append n xs ys x y
below-append n (Reserve caller reads writes ∷ xs) ys x y = below-append n xs ys x y

switch-below : (n i : ℕ) → CallersBelow n (switch_after i)
switch-below n i = by (i % 16 == 15)
  where
    by : (t : Bool) → CallersBelow n (if t then Switch 0 (switched (suc (i / 16))) ∷ [] else [])
    by true = tt
    by false = tt

pub callers-below : (n callers seed : ℕ) → 1 ≤ callers → CallersBelow callers (items_for n callers seed)
callers-below zero callers seed some = (some, tt)
callers-below (suc n) callers seed some =
    below-append callers (items_for n callers seed) (items_at callers seed n) (callers-below n callers seed some) (mod-lt n {m = callers} some, switch-below callers n)

-- scripts

abbrev AllMade : List Item → Type 0
AllMade [] = Unit {0}
AllMade (Tx caller script ∷ items) = IsMade script × AllMade items
AllMade (Switch caller alg ∷ items) = AllMade items
AllMade (Reserve caller reads writes ∷ items) = AllMade items

made-append : (xs ys : List Item) → AllMade xs → AllMade ys → AllMade (xs ++ ys)
made-append [] ys x y = y
made-append (Tx caller script ∷ xs) ys x y = (x.0, made-append xs ys x.1 y)
made-append (Switch caller alg ∷ xs) ys x y = made-append xs ys x y
made-append (Reserve caller reads writes ∷ xs) ys x y = made-append xs ys x y

switch-made : (i : ℕ) → AllMade (switch_after i)
switch-made i = by (i % 16 == 15)
  where
    by : (t : Bool) → AllMade (if t then Switch 0 (switched (suc (i / 16))) ∷ [] else [])
    by true = tt
    by false = tt

operation-made : (seed i : ℕ) → IsMade (operation seed i ∷ [])
operation-made seed i = by (i % 4 == 2) (i % 4 == 3)
  where
    by : (a b : Bool) → IsMade ((if a then Count 0 (i / 4 % 4) 1 else (if b then ListInsert 1 (i / 4 % 24) else drawn_move seed (draws_before i))) ∷ [])
    by true b = counting (i / 4 % 4) (mod-lt (i / 4) {m = 4} (omega arith)) refl
    by false true = inserting (i / 4 % 24) (mod-lt (i / 4) {m = 24} (omega arith)) refl
    by false false =
        let k : ℕ = draws_before i in
        moving (drawn seed k % 64) (drawn seed (k + 1) % 64) (drawn seed (k + 2) % 100) (mod-lt (drawn seed k) {m = 64} (omega arith)) (mod-lt (drawn seed (k + 1)) {m = 64} (omega arith)) refl

items-made : (n callers seed : ℕ) → AllMade (items_for n callers seed)
items-made zero callers seed = (opening refl, tt)
items-made (suc n) callers seed = made-append (items_for n callers seed) (items_at callers seed n) (items-made n callers seed) (operation-made seed n, switch-made n)

script-made : (items : List Item) (n j : ℕ) → AllMade items → IsMade (slice_index_or (scripts_of n items) j [])
script-made [] n j made = nothing refl
script-made (Switch caller alg ∷ items) n j made = script-made items n j made
script-made (Reserve caller reads writes ∷ items) n j made = script-made items n j made
script-made (Tx caller script ∷ items) n j made = by (caller == n) j (λ k. script-made items n k made.1)
  where
    by : (t : Bool) (k : ℕ) → ((x : ℕ) → IsMade (slice_index_or (scripts_of n items) x [])) → IsMade (slice_index_or (if t then script ∷ scripts_of n items else scripts_of n items) k [])
    by true zero go = made.0
    by true (suc k) go = go k
    by false k go = go k

pub rows-made : (n callers seed : ℕ) (row : Row) → IsMade (script_of (items_for n callers seed) row)
rows-made n callers seed row = script-made (items_for n callers seed) row.caller row.seq (items-made n callers seed)

-- sums

sum-append : (f : List Op → ℕ) (xs ys : List Item) → items_sum f (xs ++ ys) ≡ items_sum f xs + items_sum f ys
sum-append f [] ys = omega arith
sum-append f (Tx caller script ∷ xs) ys = let rest = sum-append f xs ys in omega arith
sum-append f (Switch caller alg ∷ xs) ys = sum-append f xs ys
sum-append f (Reserve caller reads writes ∷ xs) ys = sum-append f xs ys

switch-sum : (f : List Op → ℕ) (i : ℕ) → items_sum f (switch_after i) ≡ 0
switch-sum f i = by (i % 16 == 15)
  where
    by : (t : Bool) → items_sum f (if t then Switch 0 (switched (suc (i / 16))) ∷ [] else []) ≡ 0
    by true = refl
    by false = refl

total-on : (f : List Op → ℕ) (n callers seed : ℕ) → items_sum f (items_for (suc n) callers seed) ≡ items_sum f (items_for n callers seed) + f (operation seed n ∷ [])
total-on f n callers seed =
    let both = sum-append f (items_for n callers seed) (items_at callers seed n) in let none = switch-sum f n in omega arith

pub total-once : (n callers seed : ℕ) → items_sum once (items_for n callers seed) ≡ n + 1
total-once zero callers seed = refl
total-once (suc n) callers seed = let on = total-on once n callers seed in let rest = total-once n callers seed in omega arith

pub total-opens : (n callers seed : ℕ) → items_sum (weigh opens) (items_for n callers seed) ≡ 1
total-opens zero callers seed = refl
total-opens (suc n) callers seed =
    let on = total-on (weigh opens) n callers seed in
    let rest = total-opens n callers seed in
    let none : weigh opens (operation seed n ∷ []) ≡ 0 = by (n % 4 == 2) (n % 4 == 3) in omega arith
  where
    by : (a b : Bool) → weigh opens ((if a then Count 0 (n / 4 % 4) 1 else (if b then ListInsert 1 (n / 4 % 24) else drawn_move seed (draws_before n))) ∷ []) ≡ 0
    by true b = refl
    by false true = refl
    by false false = refl

pub total-counts : (n callers seed : ℕ) → items_sum (weigh counts) (items_for n callers seed) ≡ (n + 1) / 4
total-counts zero callers seed = refl
total-counts (suc n) callers seed =
    let on = total-on (weigh counts) n callers seed in
    let rest = total-counts n callers seed in
    let one : weigh counts (operation seed n ∷ []) + (n + 1) / 4 ≡ (suc n + 1) / 4 = by (n % 4 == 2) (n % 4 == 3) refl in omega arith
  where
    by : (a b : Bool) → (n % 4 == 2) ≡ a → weigh counts ((if a then Count 0 (n / 4 % 4) 1 else (if b then ListInsert 1 (n / 4 % 24) else drawn_move seed (draws_before n))) ∷ []) + (n + 1) / 4 ≡ (suc n + 1) / 4
    by true b q = let e : n % 4 ≡ 2 = grind (arith, nat_tests) in omega arith
    by false true q = let d : n % 4 ≢ 2 = grind (arith, nat_tests) in omega arith
    by false false q = let d : n % 4 ≢ 2 = grind (arith, nat_tests) in omega arith

-- a key is in the list once its transaction came
pub total-inserts : (key n callers seed : ℕ) → ltb 0 (items_sum (weigh (inserts key)) (items_for n callers seed)) ≡ ltb key (min (n / 4) 24)
total-inserts key zero callers seed = let none : ltb key 0 ≡ false = grind (arith, nat_tests) in sym none
total-inserts key (suc n) callers seed =
    let sum : ℕ = items_sum (weigh (inserts key)) (items_for n callers seed) in
    ap (λ k. ltb 0 k) (total-on (weigh (inserts key)) n callers seed) ∙ by (n % 4 == 2) (n % 4 == 3) sum refl refl (total-inserts key n callers seed)
  where
    hit : (t : Bool) (sum : ℕ) → (n / 4 % 24 == key) ≡ t → n % 4 ≡ 3 → ltb 0 sum ≡ ltb key (min (n / 4) 24) → ltb 0 (sum + ((if t then 1 else 0) + 0)) ≡ ltb key (min (suc n / 4) 24)
    hit true sum q r go =
        let e : n / 4 % 24 ≡ key = grind (arith, nat_tests) in
        let low : key < min (suc n / 4) 24 = omega arith in
        let yes : ltb key (min (suc n / 4) 24) ≡ true = grind (arith, nat_tests) in
        let some : ltb 0 (sum + (1 + 0)) ≡ true = grind (arith, nat_tests) in some ∙ sym yes
    hit false sum q r go =
        let d : n / 4 % 24 ≢ key = grind (arith, nat_tests) in
        ap (λ k. ltb 0 k) (omega arith) ∙ (go ∙ same (ltb key (min (n / 4) 24)) (ltb key (min (suc n / 4) 24)) refl refl d)
      where
        same : (x y : Bool) → ltb key (min (n / 4) 24) ≡ x → ltb key (min (suc n / 4) 24) ≡ y → n / 4 % 24 ≢ key → x ≡ y
        same true true a b d = refl
        same false false a b d = refl
        same true false a b d = let h : key < min (n / 4) 24 = grind (arith, nat_tests) in let k : min (suc n / 4) 24 ≤ key = grind (arith, nat_tests) in absurd (omega arith)
        same false true a b d = let h : min (n / 4) 24 ≤ key = grind (arith, nat_tests) in let k : key < min (suc n / 4) 24 = grind (arith, nat_tests) in absurd (d (omega arith))

    by : (a b : Bool) (sum : ℕ) → (n % 4 == 2) ≡ a → (n % 4 == 3) ≡ b → ltb 0 sum ≡ ltb key (min (n / 4) 24)
        → ltb 0 (sum + weigh (inserts key) ((if a then Count 0 (n / 4 % 4) 1 else (if b then ListInsert 1 (n / 4 % 24) else drawn_move seed (draws_before n))) ∷ [])) ≡ ltb key (min (suc n / 4) 24)
    by true b sum p q go = let e : n % 4 ≡ 2 = grind (arith, nat_tests) in ap (λ k. ltb 0 k) (omega arith) ∙ (go ∙ ap (λ k. ltb key (min k 24)) (omega arith))
    by false true sum p q go = let e : n % 4 ≡ 3 = grind (arith, nat_tests) in hit (n / 4 % 24 == key) sum refl e go
    by false false sum p q go = let d : n % 4 ≢ 3 = grind (arith, nat_tests) in ap (λ k. ltb 0 k) (omega arith) ∙ (go ∙ ap (λ k. ltb key (min k 24)) (omega arith))
