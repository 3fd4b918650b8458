-- A report that replays a workload has a row for each transaction, so a sum over its rows is one over the transactions.
use Rattle.std.proofs.Common.{ℕ, zero, suc, ◌≡◌, ◌≢◌, ◌<◌, ◌≤◌, ◌+◌, List, [], ◌∷◌, length, Bool, true, false, refl, sym, ap, ◌∙◌, arith}
use Rattle.std.specs.Prelude.{◌==◌, if◌then◌else◌, leb, map, slice_index_or}
use Rattle.std.proofs.lemmas.Bool.Decides.{nat_tests}
use Rattle.work_script.specs.declared.op.Op.{Op}
use Rattle.work_script.specs.declared.report.Row.{Row}
use Rattle.work_script.specs.declared.workload.Item.{Item}
use Rattle.work_script.specs.declared.workload.Item.TheVariants.{Tx, Switch, Reserve}
use Rattle.work_script.specs.Reports.{scripts_of, script_of, rows_of, counted}
use Rattle.work_gen.proofs.Weights.{scripts_sum, items_sum, rows_sum}

-- every transaction is of a caller below n
abbrev pub CallersBelow : ℕ → List Item → Type 0
CallersBelow n [] = Unit {0}
CallersBelow n (Tx caller script ∷ items) = (caller < n) × CallersBelow n items
CallersBelow n (Switch caller alg ∷ items) = CallersBelow n items
CallersBelow n (Reserve caller reads writes ∷ items) = CallersBelow n items

abbrev RowsBelow : ℕ → List Row → Type 0
RowsBelow n [] = Unit {0}
RowsBelow n (r ∷ rs) = (r.caller < n) × RowsBelow n rs

-- the sum of what each caller below n has
abbrev by_caller : (ℕ → ℕ) → ℕ → ℕ
by_caller g zero = 0
by_caller g (suc n) = by_caller g n + g n

-- one caller has x more
more-none : (g h : ℕ → ℕ) (c n : ℕ) → n ≤ c → ((i : ℕ) → i ≢ c → h i ≡ g i) → by_caller h n ≡ by_caller g n
more-none g h c zero le same = refl
more-none g h c (suc n) le same = let rest = more-none g h c n (omega arith) same in let one = same n (λ e. absurd (omega arith)) in cc

more-one : (g h : ℕ → ℕ) (c x n : ℕ) → c < n → h c ≡ x + g c → ((i : ℕ) → i ≢ c → h i ≡ g i) → by_caller h n ≡ x + by_caller g n
more-one g h c x zero lt more same = absurd (omega arith)
more-one g h c x (suc n) lt more same = by (n == c) refl (λ less. more-one g h c x n less more same)
  where
    by : (t : Bool) → (n == c) ≡ t → (c < n → by_caller h n ≡ x + by_caller g n) → by_caller h n + h n ≡ x + (by_caller g n + g n)
    by true q go =
        let e : n ≡ c = grind (arith, nat_tests) in
        let rest = more-none g h c n (omega arith) same in
        let here : h n ≡ x + g n = ap h e ∙ more ∙ ap (λ i. x + g i) (sym e) in omega arith
    by false q go =
        let d : n ≢ c = grind (arith, nat_tests) in
        let rest = go (omega arith) in
        let here = same n d in omega arith

same-sums : (g h : ℕ → ℕ) (n : ℕ) → ((i : ℕ) → h i ≡ g i) → by_caller h n ≡ by_caller g n
same-sums g h zero same = refl
same-sums g h (suc n) same = let rest = same-sums g h n same in let one = same n in cc

-- the script of each row is the one of its number
abbrev AllScripts : List (List Op) → (Row → List Op) → List Row → Type 0
AllScripts all script [] = Unit {0}
AllScripts all script (r ∷ rs) = (script r ≡ slice_index_or all r.seq []) × AllScripts all script rs

module _ (f : List Op → ℕ) where
  items-by-caller : (n : ℕ) (items : List Item) → CallersBelow n items → items_sum f items ≡ by_caller (λ i. scripts_sum f (scripts_of i items)) n
  items-by-caller n [] below = sym (zeros n)
    where
      zeros : (k : ℕ) → by_caller (λ i. 0) k ≡ 0
      zeros zero = refl
      zeros (suc k) = let rest = zeros k in omega arith
  items-by-caller n (Switch caller alg ∷ items) below = items-by-caller n items below
  items-by-caller n (Reserve caller reads writes ∷ items) below = items-by-caller n items below
  items-by-caller n (Tx caller script ∷ items) below =
      let g : ℕ → ℕ = λ i. scripts_sum f (scripts_of i items) in
      let h : ℕ → ℕ = λ i. scripts_sum f (scripts_of i (Tx caller script ∷ items)) in
      let here : h caller ≡ f script + g caller = own (caller == caller) (grind (arith, nat_tests)) in
      let other : (i : ℕ) → i ≢ caller → h i ≡ g i = λ i d. others i (caller == i) (grind (arith, nat_tests)) in
      ap (λ k. f script + k) (items-by-caller n items below.1) ∙ sym (more-one g h caller (f script) n below.0 here other)
    where
      own : (t : Bool) → t ≡ true → scripts_sum f (if t then script ∷ scripts_of caller items else scripts_of caller items) ≡ f script + scripts_sum f (scripts_of caller items)
      own true q = refl
      own false q = cc

      others : (i : ℕ) (t : Bool) → t ≡ false → scripts_sum f (if t then script ∷ scripts_of i items else scripts_of i items) ≡ scripts_sum f (scripts_of i items)
      others i false q = refl
      others i true q = cc

  rows-by-caller : (script : Row → List Op) (n : ℕ) (rows : List Row) → RowsBelow n rows → rows_sum f script rows ≡ by_caller (λ i. rows_sum f script (rows_of i rows)) n
  rows-by-caller script n [] below = sym (zeros n)
    where
      zeros : (k : ℕ) → by_caller (λ i. 0) k ≡ 0
      zeros zero = refl
      zeros (suc k) = let rest = zeros k in omega arith
  rows-by-caller script n (r ∷ rs) below =
      let g : ℕ → ℕ = λ i. rows_sum f script (rows_of i rs) in
      let h : ℕ → ℕ = λ i. rows_sum f script (rows_of i (r ∷ rs)) in
      let here : h r.caller ≡ f (script r) + g r.caller = own (r.caller == r.caller) (grind (arith, nat_tests)) in
      let other : (i : ℕ) → i ≢ r.caller → h i ≡ g i = λ i d. others i (r.caller == i) (grind (arith, nat_tests)) in
      ap (λ k. f (script r) + k) (rows-by-caller script n rs below.1) ∙ sym (more-one g h r.caller (f (script r)) n below.0 here other)
    where
      own : (t : Bool) → t ≡ true → rows_sum f script (if t then r ∷ rows_of r.caller rs else rows_of r.caller rs) ≡ f (script r) + rows_sum f script (rows_of r.caller rs)
      own true q = refl
      own false q = cc

      others : (i : ℕ) (t : Bool) → t ≡ false → rows_sum f script (if t then r ∷ rows_of i rs else rows_of i rs) ≡ rows_sum f script (rows_of i rs)
      others i false q = refl
      others i true q = cc

  -- the rows of one caller are its scripts, in order
  rows-are-scripts : (all : List (List Op)) (script : Row → List Op) (rs : List Row) (ss : List (List Op)) (k : ℕ)
      → AllScripts all script rs → map (λ (r : Row). r.seq) rs ≡ counted k (length ss) → ((i : ℕ) → i < length ss → slice_index_or all (k + i) [] ≡ slice_index_or ss i [])
      → rows_sum f script rs ≡ scripts_sum f ss
  rows-are-scripts all script [] [] k own seqs at = refl
  rows-are-scripts all script [] (s ∷ ss) k own seqs at = cc
  rows-are-scripts all script (r ∷ rs) [] k own seqs at = cc
  rows-are-scripts all script (r ∷ rs) (s ∷ ss) k own seqs at =
      let seq : r.seq ≡ k = cc in
      let rest : map (λ (x : Row). x.seq) rs ≡ counted (suc k) (length ss) = cc in
      let first : slice_index_or all k [] ≡ s = ap (λ j. slice_index_or all j []) (omega arith) ∙ at 0 (omega arith) in
      let here : script r ≡ s = own.0 ∙ ap (λ j. slice_index_or all j []) seq ∙ first in
      let on = rows-are-scripts all script rs ss (suc k) own.1 rest (λ i lt. ap (λ j. slice_index_or all j []) (omega arith) ∙ at (suc i) (omega arith)) in
      (λ i. f (here i) + on i)

-- the rows of a caller have its scripts
own-scripts : (items : List Item) (n : ℕ) (rows : List Row) → AllScripts (scripts_of n items) (script_of items) (rows_of n rows)
own-scripts items n [] = tt
own-scripts items n (r ∷ rs) = by (r.caller == n) refl (own-scripts items n rs)
  where
    by : (t : Bool) → (r.caller == n) ≡ t → AllScripts (scripts_of n items) (script_of items) (rows_of n rs) → AllScripts (scripts_of n items) (script_of items) (if t then r ∷ rows_of n rs else rows_of n rs)
    by true q go = let e : r.caller ≡ n = grind (arith, nat_tests) in (ap (λ i. slice_index_or (scripts_of i items) r.seq []) e, go)
    by false q go = go

-- a caller that isn't below n has no script
none-above : (n c : ℕ) (items : List Item) → CallersBelow n items → n ≤ c → scripts_of c items ≡ []
none-above n c [] below le = refl
none-above n c (Switch caller alg ∷ items) below le = none-above n c items below le
none-above n c (Reserve caller reads writes ∷ items) below le = none-above n c items below le
none-above n c (Tx caller script ∷ items) below le = let lt = below.0 in by (caller == c) (grind (arith, nat_tests)) (none-above n c items below.1 le)
  where
    by : (t : Bool) → t ≡ false → scripts_of c items ≡ [] → (if t then script ∷ scripts_of c items else scripts_of c items) ≡ []
    by false q go = go
    by true q go = cc

-- where no caller from n on has a row, all rows are of callers below n
rows-below : (n : ℕ) (rows : List Row) → ((c : ℕ) → n ≤ c → rows_of c rows ≡ []) → RowsBelow n rows
rows-below n [] none = tt
rows-below n (r ∷ rs) none = (small (leb n r.caller) refl, rows-below n rs (λ c le. tail c (r.caller == c) (none c le)))
  where
    tail : (c : ℕ) (t : Bool) → (if t then r ∷ rows_of c rs else rows_of c rs) ≡ [] → rows_of c rs ≡ []
    tail c true e = cc
    tail c false e = e

    nothing : (t : Bool) → t ≡ true → (if t then r ∷ rows_of r.caller rs else rows_of r.caller rs) ≡ [] → ⊥
    nothing true q e = cc
    nothing false q e = cc

    small : (t : Bool) → leb n r.caller ≡ t → r.caller < n
    small true q = absurd (nothing (r.caller == r.caller) (grind (arith, nat_tests)) (none r.caller (grind (arith, nat_tests))))
    small false q = grind (arith, nat_tests)

no-rows : (rs : List Row) → map (λ (r : Row). r.seq) rs ≡ [] → rs ≡ []
no-rows [] e = refl
no-rows (r ∷ rs) e = cc

-- A SUM OVER THE ROWS IS ONE OVER THE TRANSACTIONS
pub rows-are-items : (f : List Op → ℕ) (n : ℕ) (items : List Item) (rows : List Row) → CallersBelow n items
    → ((c : ℕ) → map (λ (row : Row). row.seq) (rows_of c rows) ≡ counted 0 (length (scripts_of c items)))
    → rows_sum f (script_of items) rows ≡ items_sum f items
rows-are-items f n items rows below complete =
    let none : (c : ℕ) → n ≤ c → rows_of c rows ≡ [] = λ c le. no-rows (rows_of c rows) (complete c ∙ ap (λ ss. counted 0 (length ss)) (none-above n c items below le)) in
    let each : (c : ℕ) → rows_sum f (script_of items) (rows_of c rows) ≡ scripts_sum f (scripts_of c items) =
    λ c. rows-are-scripts f (scripts_of c items) (script_of items) (rows_of c rows) (scripts_of c items) 0 (own-scripts items c rows) (complete c) (λ i lt. ap (λ j. slice_index_or (scripts_of c items) j []) (omega arith)) in
    rows-by-caller f (script_of items) n rows (rows-below n rows none)
    ∙ same-sums (λ c. scripts_sum f (scripts_of c items)) (λ c. rows_sum f (script_of items) (rows_of c rows)) n each
    ∙ sym (items-by-caller f n items below)
