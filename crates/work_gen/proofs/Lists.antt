-- Words of a memory: sums of them, and what depends on them alone.
use Rattle.std.proofs.Common.{ℕ, zero, suc, ◌≡◌, ◌≢◌, ◌<◌, ◌≤◌, ◌+◌, ◌*◌, List, [], ◌∷◌, length, set, get_or, Bool, true, false, refl, sym, ap, ◌∙◌, arith}
use Rattle.std.proofs.Math.Nat.{suc-mul}
use Rattle.std.specs.Prelude.{◌==◌, leb, Some, None, if◌then◌else◌}
use Rattle.std.proofs.lemmas.Bool.Decides.{nat_tests}
use Rattle.std.proofs.lemmas.List.{get_or-set_same, get_or-set_other}
use Rattle.data_effects.specs.Keys.{AllAbove, Ascends, has, with_key, with_tag, keys_of, free_from}
use Rattle.data_cells.specs.Counters.{sum_from}

-- a sum is one of these words alone
pub sum-same : (m k : List ℕ) (a n : ℕ) → ((i : ℕ) → i < n → get_or k (a + i) 0 ≡ get_or m (a + i) 0) → sum_from k a n ≡ sum_from m a n
sum-same m k a zero same = refl
sum-same m k a (suc n) same = let rest = sum-same m k a n (λ i lt. same i (omega arith)) in let one = same n (omega arith) in cc

-- one word is set
pub sum-put : (m : List ℕ) (i v n : ℕ) → i < n → n ≤ length m → sum_from (set m i v) 0 n + get_or m i 0 ≡ sum_from m 0 n + v
sum-put m i v zero lt le = absurd (omega arith)
sum-put m i v (suc n) lt le = by (i == n) refl (λ less. sum-put m i v n less (omega arith))
  where
    by : (t : Bool) → (i == n) ≡ t → (i < n → sum_from (set m i v) 0 n + get_or m i 0 ≡ sum_from m 0 n + v)
        → sum_from (set m i v) 0 n + get_or (set m i v) (0 + n) 0 + get_or m i 0 ≡ sum_from m 0 n + get_or m (0 + n) 0 + v
    by true q go =
        let e : i ≡ n = grind (arith, nat_tests) in
        let s : sum_from (set m i v) 0 n ≡ sum_from m 0 n = sum-same m (set m i v) 0 n (λ j less. get_or-set_other m i (0 + j) v 0 (λ z. absurd (omega arith))) in
        let h : get_or (set m i v) (0 + n) 0 ≡ v = ap (λ x. get_or (set m i v) x 0) (omega arith) ∙ get_or-set_same m i v 0 (omega arith) in
        let g : get_or m i 0 ≡ get_or m (0 + n) 0 = ap (λ x. get_or m x 0) (omega arith) in omega arith
    by false q go =
        let d : i ≢ n = grind (arith, nat_tests) in
        let s = go (omega arith) in
        let h : get_or (set m i v) (0 + n) 0 ≡ get_or m (0 + n) 0 = get_or-set_other m i (0 + n) v 0 (λ z. d (omega arith)) in omega arith

-- of words that are all v
pub sum-all : (m : List ℕ) (v n : ℕ) → ((i : ℕ) → i < n → get_or m i 0 ≡ v) → sum_from m 0 n ≡ n * v
sum-all m v zero all = omega arith
sum-all m v (suc n) all =
    let rest : sum_from m 0 n ≡ n * v = sum-all m v n (λ i lt. all i (omega arith)) in
    let one : get_or m (0 + n) 0 ≡ v = ap (λ i. get_or m i 0) (omega arith) ∙ all n (omega arith) in
    let more : suc n * v ≡ n * v + v = suc-mul n v in omega arith

-- one word of them
pub one-of-sum : (m : List ℕ) (i n : ℕ) → i < n → get_or m i 0 ≤ sum_from m 0 n
one-of-sum m i zero lt = absurd (omega arith)
one-of-sum m i (suc n) lt = by (i == n) refl (λ less. one-of-sum m i n less)
  where
    by : (t : Bool) → (i == n) ≡ t → (i < n → get_or m i 0 ≤ sum_from m 0 n) → get_or m i 0 ≤ sum_from m 0 n + get_or m (0 + n) 0
    by true q go = let e : i ≡ n = grind (arith, nat_tests) in let h : get_or m i 0 ≡ get_or m (0 + n) 0 = ap (λ j. get_or m j 0) (omega arith) in omega arith
    by false q go = let d : i ≢ n = grind (arith, nat_tests) in let h = go (omega arith) in omega arith

-- a set of keys below n has at most n
keys-below : (x n : ℕ) (ks : List ℕ) → AllAbove x ks → Ascends ks → ((k : ℕ) → has k ks ≡ true → k < n) → x < n → length ks + x < n
keys-below x n [] above up small lt = omega arith
keys-below x n (k ∷ ks) above up small lt =
    let first : k < n = small k (grind (arith, nat_tests)) in
    let rest = keys-below k n ks up.0 up.1 (λ j h. small j (grind arith)) first in omega arith

pub few-keys : (n : ℕ) (ks : List ℕ) → Ascends ks → ((k : ℕ) → has k ks ≡ true → k < n) → length ks ≤ n
few-keys n [] up small = omega arith
few-keys n (k ∷ ks) up small = let rest = keys-below k n ks up.0 up.1 (λ j h. small j (grind arith)) (small k (grind (arith, nat_tests))) in omega arith

-- where no cell is free, each has a key
length-with : (k : ℕ) (ks : List ℕ) → length (with_key k ks) ≡ suc (length ks)
length-with k [] = refl
length-with k (x ∷ xs) = by (leb k x) (length-with k xs)
  where
    by : (t : Bool) → length (with_key k xs) ≡ suc (length xs) → length (if t then k ∷ x ∷ xs else x ∷ with_key k xs) ≡ suc (suc (length xs))
    by true go = refl
    by false go = ap suc go

none-free : (t : ℕ → ℕ) (j n : ℕ) → free_from t j n ≡ None → (i : ℕ) → j ≤ i → i < j + n → t i ≢ 0
none-free t j zero none i low high = absurd (omega arith)
none-free t j (suc n) none i low high = by (t j == 0) refl none (λ e above. none-free t (suc j) n e i above (omega arith))
  where
    by : (b : Bool) → (t j == 0) ≡ b → (if b then Some j else free_from t (suc j) n) ≡ None → (free_from t (suc j) n ≡ None → suc j ≤ i → t i ≢ 0) → t i ≢ 0
    by true q e go = cc
    by false q e go = at (i == j) refl
      where
        at : (b : Bool) → (i == j) ≡ b → t i ≢ 0
        at true r = let same : i ≡ j = grind (arith, nat_tests) in let d : t j ≢ 0 = grind (arith, nat_tests) in λ z. d (ap t (sym same) ∙ z)
        at false r = let d : i ≢ j = grind (arith, nat_tests) in go e (omega arith)

all-used : (t : ℕ → ℕ) (n : ℕ) → ((i : ℕ) → i < n → t i ≢ 0) → length (keys_of t n) ≡ n
all-used t zero used = refl
all-used t (suc n) used = by (t n) (used n (omega arith)) (all-used t n (λ i lt. used i (omega arith)))
  where
    by : (v : ℕ) → v ≢ 0 → length (keys_of t n) ≡ n → length (with_tag v (keys_of t n)) ≡ suc n
    by zero some go = absurd (some refl)
    by (suc k) some go = length-with k (keys_of t n) ∙ ap suc go

pub no-room : (t : ℕ → ℕ) (n : ℕ) → free_from t 0 n ≡ None → length (keys_of t n) ≡ n
no-room t n none = all-used t n (λ i lt. none-free t 0 n none i (omega arith) (omega arith))
