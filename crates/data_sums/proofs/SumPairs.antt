-- The pairs in the first cells, and their sum.
use Rattle.std.proofs.Common.{ℕ, zero, suc, ◌≡◌, ◌<◌, ◌+◌, List, [], ◌∷◌, Bool, true, false, refl, ap, ◌∙◌, arith, ◌≢◌}
use Rattle.std.specs.Prelude.{◌&&◌, leb, ltb, if◌then◌else◌, ◌==◌, Some, None}
use Rattle.std.proofs.lemmas.Bool.Decides.{nat_tests}
use Rattle.data_sums.specs.declared.sum_map.SumMap.{SumMap}
use Rattle.data_sums.specs.Sums.{tag, value, value_of, with_pair, pair_of, pairs_to, sum_of}

pub sum-with : (lo hi : ℕ) (p : ℕ × ℕ) (qs : List (ℕ × ℕ)) → sum_of lo hi (with_pair p qs) ≡ sum_of lo hi (p ∷ qs)
sum-with lo hi p [] = refl
sum-with lo hi p (q ∷ qs) = by (ltb p.0 q.0) (sum-with lo hi p qs)
  where
    swap : (x a b : ℕ) (s t : Bool) → (if t then b + (if s then a + x else x) else (if s then a + x else x)) ≡ (if s then a + (if t then b + x else x) else (if t then b + x else x))
    swap x a b true true = omega arith
    swap x a b true false = refl
    swap x a b false true = refl
    swap x a b false false = refl

    by : (b : Bool) → sum_of lo hi (with_pair p qs) ≡ sum_of lo hi (p ∷ qs) → sum_of lo hi (if b then p ∷ q ∷ qs else q ∷ with_pair p qs) ≡ sum_of lo hi (p ∷ q ∷ qs)
    by true h = refl
    by false h = rw h (swap (sum_of lo hi qs) p.1 q.1 (leb lo p.0 && leb p.0 hi) (leb lo q.0 && leb q.0 hi))

-- THE VALUE of a key among the pairs
value-here : (key v : ℕ) (qs : List (ℕ × ℕ)) → value_of key qs ≡ None → value_of key (with_pair (key, v) qs) ≡ Some v
value-here key v [] h = let e : (key == key) ≡ true = grind (arith, nat_tests) in rw e refl
value-here key v (q ∷ qs) h = by (ltb key q.0) (q.0 == key) refl h (value-here key v qs)
  where
    by : (b c : Bool) → (q.0 == key) ≡ c → (if c then Some q.1 else value_of key qs) ≡ None
        → (value_of key qs ≡ None → value_of key (with_pair (key, v) qs) ≡ Some v)
        → value_of key (if b then (key, v) ∷ q ∷ qs else q ∷ with_pair (key, v) qs) ≡ Some v
    by b true e g go = absurd cc
    by true false e g go = let y : (key == key) ≡ true = grind (arith, nat_tests) in rw y refl
    by false false e g go = rw e (go g)

value-there : (key a v : ℕ) (qs : List (ℕ × ℕ)) → a ≢ key → value_of key (with_pair (a, v) qs) ≡ value_of key qs
value-there key a v [] d = let e : (a == key) ≡ false = grind (arith, nat_tests) in rw e refl
value-there key a v (q ∷ qs) d = by (ltb a q.0) (value-there key a v qs d)
  where
    by : (b : Bool) → value_of key (with_pair (a, v) qs) ≡ value_of key qs → value_of key (if b then (a, v) ∷ q ∷ qs else q ∷ with_pair (a, v) qs) ≡ value_of key (q ∷ qs)
    by true h = let e : (a == key) ≡ false = grind (arith, nat_tests) in rw e refl
    by false h = rw h refl

pub value-none : (r : SumMap) (m : List ℕ) (key n : ℕ) → ((i : ℕ) → i < n → tag r m i ≢ suc key) → value_of key (pairs_to r m n) ≡ None
value-none r m key zero h = refl
value-none r m key (suc n) h = by (tag r m n) (h n (omega arith)) (value-none r m key n (λ i lt. h i (omega arith)))
  where
    by : (t : ℕ) → t ≢ suc key → value_of key (pairs_to r m n) ≡ None → value_of key (pair_of t (value r m n) (pairs_to r m n)) ≡ None
    by zero d go = go
    by (suc a) d go = value-there key a (value r m n) (pairs_to r m n) (λ e. d (ap suc e)) ∙ go

-- the value of a key is that of its cell
pub value-some : (r : SumMap) (m : List ℕ) (key c n : ℕ) → c < n → tag r m c ≡ suc key → ((i : ℕ) → i < n → i ≢ c → tag r m i ≢ suc key) → value_of key (pairs_to r m n) ≡ Some (value r m c)
value-some r m key c zero lt e h = absurd (omega arith)
value-some r m key c (suc n) lt e h = by (n == c) refl (λ less. value-some r m key c n less e (λ i l. h i (omega arith)))
  where
    off : n ≢ c → (c < n → value_of key (pairs_to r m n) ≡ Some (value r m c)) → (t : ℕ) → t ≢ suc key → value_of key (pair_of t (value r m n) (pairs_to r m n)) ≡ Some (value r m c)
    off d go zero x = go (omega arith)
    off d go (suc a) x = value-there key a (value r m n) (pairs_to r m n) (λ y. x (ap suc y)) ∙ go (omega arith)

    by : (b : Bool) → (n == c) ≡ b → (c < n → value_of key (pairs_to r m n) ≡ Some (value r m c)) → value_of key (pairs_to r m (suc n)) ≡ Some (value r m c)
    by true q go =
        let s : n ≡ c = grind (arith, nat_tests) in
        let t : tag r m n ≡ suc key = ap (tag r m) s ∙ e in
        let none = value-none r m key n (λ i l. h i (omega arith) (λ z. absurd (omega arith))) in
        ap (λ i. value_of key (pair_of i (value r m n) (pairs_to r m n))) t ∙ (value-here key (value r m n) (pairs_to r m n) none ∙ ap (λ i. Some (value r m i)) s)
    by false q go = let d : n ≢ c = grind (arith, nat_tests) in off d go (tag r m n) (h n (omega arith) d)
