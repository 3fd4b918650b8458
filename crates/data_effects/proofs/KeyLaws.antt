-- Laws of contents.
use Rattle.std.proofs.Common.{ℕ, zero, suc, ◌≡◌, ◌+◌, ◌<◌, ◌≤◌, ◌≢◌, List, [], ◌∷◌, length, Bool, true, false, refl, sym, ap, ◌∙◌, arith, subst}
use Rattle.std.specs.Prelude.{◌==◌, ◌||◌, ◌&&◌, not, leb, ltb, if◌then◌else◌, Some, None}
use Rattle.std.proofs.lemmas.Bool.Decides.{nat_tests}
use Rattle.data_effects.specs.Keys.{AllAbove, Ascends, has, with_key, without_key, with_tag, keys_of, free_from, how_many, least}

pub with-swap : (a b : ℕ) (xs : List ℕ) → with_key a (with_key b xs) ≡ with_key b (with_key a xs)
with-swap a b [] = by (leb a b) refl (leb b a) refl
  where
    by : (s : Bool) → leb a b ≡ s → (t : Bool) → leb b a ≡ t → (if s then a ∷ b ∷ [] else b ∷ a ∷ []) ≡ (if t then b ∷ a ∷ [] else a ∷ b ∷ [])
    by true p true q = let e : a ≡ b = grind (arith, nat_tests) in rw e refl
    by true p false q = refl
    by false p true q = refl
    by false p false q = absurd (grind (arith, nat_tests))
with-swap a b (x ∷ xs) = by (leb a x) refl (leb b x) refl (with-swap a b xs)
  where
    by : (s : Bool) → leb a x ≡ s → (t : Bool) → leb b x ≡ t → with_key a (with_key b xs) ≡ with_key b (with_key a xs)
        → with_key a (if t then b ∷ x ∷ xs else x ∷ with_key b xs) ≡ with_key b (if s then a ∷ x ∷ xs else x ∷ with_key a xs)
    by true p true q h = ends (leb a b) refl (leb b a) refl
      where
        ends : (s : Bool) → leb a b ≡ s → (t : Bool) → leb b a ≡ t → (if s then a ∷ b ∷ x ∷ xs else b ∷ with_key a (x ∷ xs)) ≡ (if t then b ∷ a ∷ x ∷ xs else a ∷ with_key b (x ∷ xs))
        ends true u true v = let e : a ≡ b = grind (arith, nat_tests) in rw e refl
        ends true u false v = rw q refl
        ends false u true v = rw p refl
        ends false u false v = absurd (grind (arith, nat_tests))
    by true p false q h = let u : leb b a ≡ false = grind (arith, nat_tests) in rw (p, u, q) refl
    by false p true q h = let u : leb a b ≡ false = grind (arith, nat_tests) in rw (u, p, q) refl
    by false p false q h = rw (p, q) (ap (λ l. x ∷ l) h)

pub without-with : (k : ℕ) (xs : List ℕ) → without_key k (with_key k xs) ≡ xs
without-with k [] = let q : (k == k) ≡ true = grind (arith, nat_tests) in rw q refl
without-with k (x ∷ xs) = by (leb k x) refl (without-with k xs)
  where
    by : (t : Bool) → leb k x ≡ t → without_key k (with_key k xs) ≡ xs → without_key k (if t then k ∷ x ∷ xs else x ∷ with_key k xs) ≡ x ∷ xs
    by true q h = let e : (k == k) ≡ true = grind (arith, nat_tests) in rw e refl
    by false q h = let e : (k == x) ≡ false = grind (arith, nat_tests) in rw e (ap (λ l. x ∷ l) h)

with-length : (k : ℕ) (xs : List ℕ) → length (with_key k xs) ≡ suc (length xs)
with-length k [] = refl
with-length k (x ∷ xs) = by (leb k x) (with-length k xs)
  where
    by : (t : Bool) → length (with_key k xs) ≡ suc (length xs) → length (if t then k ∷ x ∷ xs else x ∷ with_key k xs) ≡ suc (suc (length xs))
    by true h = refl
    by false h = ap suc h

pub has-with : (a k : ℕ) (xs : List ℕ) → has a (with_key k xs) ≡ ((a == k) || has a xs)
has-with a k [] = refl
has-with a k (x ∷ xs) = by (leb k x) (has-with a k xs) (a == x) (a == k)
  where
    by : (t : Bool) → has a (with_key k xs) ≡ ((a == k) || has a xs) → (u v : Bool) → has a (if t then k ∷ x ∷ xs else x ∷ with_key k xs) ≡ ((a == k) || ((a == x) || has a xs))
    by true h u v = refl
    by false h u v = rw h (swap (a == x) (a == k))
      where
        swap : (u v : Bool) → (u || (v || has a xs)) ≡ (v || (u || has a xs))
        swap true true = refl
        swap true false = refl
        swap false v = refl

with_tag-swap : (s t : ℕ) (xs : List ℕ) → with_tag s (with_tag t xs) ≡ with_tag t (with_tag s xs)
with_tag-swap zero t xs = refl
with_tag-swap (suc a) zero xs = refl
with_tag-swap (suc a) (suc b) xs = with-swap a b xs

pub keys-same : (t u : ℕ → ℕ) (n : ℕ) → ((i : ℕ) → i < n → u i ≡ t i) → keys_of u n ≡ keys_of t n
keys-same t u zero h = refl
keys-same t u (suc n) h = let e = keys-same t u n (λ i lt. h i (omega arith)) in let s = h n (omega arith) in rw (e, s) refl

-- tags that differ at one cell alone, which is free in the first
pub keys-set : (t u : ℕ → ℕ) (c n : ℕ) → ((i : ℕ) → i < n → i ≢ c → u i ≡ t i) → c < n → t c ≡ 0 → keys_of u n ≡ with_tag (u c) (keys_of t n)
keys-set t u c zero h lt z = absurd (omega arith)
keys-set t u c (suc n) h lt z = by (n == c) refl (λ less. keys-set t u c n (λ i l. h i (omega arith)) less z)
  where
    by : (x : Bool) → (n == c) ≡ x → (c < n → keys_of u n ≡ with_tag (u c) (keys_of t n)) → with_tag (u n) (keys_of u n) ≡ with_tag (u c) (with_tag (t n) (keys_of t n))
    by true q go =
        let e : n ≡ c = grind (arith, nat_tests) in
        let s = keys-same t u n (λ i l. h i (omega arith) (λ y. absurd (omega arith))) in
        let zn : t n ≡ 0 = ap t e ∙ z in
        let un : u n ≡ u c = ap u e in
        rw (s, zn, un) refl
    by false q go =
        let d : n ≢ c = grind (arith, nat_tests) in
        let s = h n (omega arith) d in
        let e = go (omega arith) in
        rw (s, e) (with_tag-swap (t n) (u c) (keys_of t n))

pub has-yes : (t : ℕ → ℕ) (k n c : ℕ) → c < n → t c ≡ suc k → has k (keys_of t n) ≡ true
has-yes t k zero c lt e = absurd (omega arith)
has-yes t k (suc n) c lt e = by (c == n) refl (λ less. has-yes t k n c less e) (t n) refl
  where
    by : (x : Bool) → (c == n) ≡ x → (c < n → has k (keys_of t n) ≡ true) → (v : ℕ) → t n ≡ v → has k (with_tag v (keys_of t n)) ≡ true
    by true q go zero v = let s : t c ≡ t n = ap t (grind (arith, nat_tests)) in absurd (omega arith)
    by true q go (suc a) v = let s : t c ≡ t n = ap t (grind (arith, nat_tests)) in
        let w : (k == a) ≡ true = (let y : a ≡ k = omega arith in grind (arith, nat_tests)) in has-with k a (keys_of t n) ∙ rw w refl
    by false q go zero v = let d : c ≢ n = grind (arith, nat_tests) in go (omega arith)
    by false q go (suc a) v = let d : c ≢ n = grind (arith, nat_tests) in let g = go (omega arith) in has-with k a (keys_of t n) ∙ (rw g (or-true (k == a)))
      where
        or-true : (b : Bool) → (b || true) ≡ true
        or-true true = refl
        or-true false = refl

pub has-no : (t : ℕ → ℕ) (k n : ℕ) → ((i : ℕ) → i < n → t i ≢ suc k) → has k (keys_of t n) ≡ false
has-no t k zero h = refl
has-no t k (suc n) h = by (t n) refl (has-no t k n (λ i lt. h i (omega arith)))
  where
    by : (v : ℕ) → t n ≡ v → has k (keys_of t n) ≡ false → has k (with_tag v (keys_of t n)) ≡ false
    by zero e g = g
    by (suc a) e g = let w : (k == a) ≡ false = (let d = h n (omega arith) in let y : k ≢ a = λ z. d (e ∙ ap suc (sym z)) in grind (arith, nat_tests)) in has-with k a (keys_of t n) ∙ rw (w, g) refl

-- the first free cell
pub free-on : (t : ℕ → ℕ) (j n less : ℕ) → n ≡ suc less → t j ≢ 0 → free_from t j n ≡ free_from t (j + 1) less
free-on t j zero less e d = absurd (omega arith)
free-on t j (suc n) less e d = let q : (t j == 0) ≡ false = grind (arith, nat_tests) in let s : n ≡ less = omega arith in let u : suc j ≡ j + 1 = omega arith in rw (q, s, u) refl

pub free-here : (t : ℕ → ℕ) (j n : ℕ) → 0 < n → t j ≡ 0 → free_from t j n ≡ Some j
free-here t j zero lt e = absurd (omega arith)
free-here t j (suc n) lt e = let q : (t j == 0) ≡ true = grind (arith, nat_tests) in rw q refl

pub free-none : (t : ℕ → ℕ) (j n : ℕ) → n ≡ 0 → free_from t j n ≡ None
free-none t j zero e = refl
free-none t j (suc n) e = absurd (omega arith)

pub free-is : (t : ℕ → ℕ) (j n c : ℕ) → free_from t j n ≡ Some c → (c < j + n) × (t c ≡ 0)
free-is t j zero c e = absurd cc
free-is t j (suc n) c e = by (t j == 0) refl e (free-is t (suc j) n c)
  where
    by : (x : Bool) → (t j == 0) ≡ x → (if x then Some j else free_from t (suc j) n) ≡ Some c → (free_from t (suc j) n ≡ Some c → (c < suc j + n) × (t c ≡ 0)) → (c < j + suc n) × (t c ≡ 0)
    by true q e go = let s : j ≡ c = cc in let z : t j ≡ 0 = grind (arith, nat_tests) in (omega arith, subst (λ i. t i ≡ 0) s z)
    by false q e go = let h = go e in let lt = h.0 in (omega arith, h.1)

how_many-same : (f g : ℕ → Bool) (n : ℕ) → ((i : ℕ) → i < n → f i ≡ g i) → how_many f n ≡ how_many g n
how_many-same f g zero h = refl
how_many-same f g (suc n) h = let e = how_many-same f g n (λ i lt. h i (omega arith)) in let s = h n (omega arith) in rw (e, s) refl

-- tests that differ at one number alone
pub how_many-more : (f g : ℕ → Bool) (c n : ℕ) → ((i : ℕ) → i < n → i ≢ c → f i ≡ g i) → c < n → f c ≡ true → g c ≡ false → how_many f n ≡ suc (how_many g n)
how_many-more f g c zero h lt y out = absurd (omega arith)
how_many-more f g c (suc n) h lt y out = by (n == c) refl (λ less. how_many-more f g c n (λ i l. h i (omega arith)) less y out)
  where
    by : (x : Bool) → (n == c) ≡ x → (c < n → how_many f n ≡ suc (how_many g n)) → (if f n then suc (how_many f n) else how_many f n) ≡ suc (if g n then suc (how_many g n) else how_many g n)
    by true q go =
        let e : n ≡ c = grind (arith, nat_tests) in
        let s = how_many-same f g n (λ i l. h i (omega arith) (λ z. absurd (omega arith))) in
        let a : f n ≡ true = ap f e ∙ y in
        let b : g n ≡ false = ap g e ∙ out in
        rw (a, b) (ap suc s)
    by false q go =
        let d : n ≢ c = grind (arith, nat_tests) in
        let s = h n (omega arith) d in
        let e = go (omega arith) in rw s (both (g n) e)
      where
        both : (b : Bool) → how_many f n ≡ suc (how_many g n) → (if b then suc (how_many f n) else how_many f n) ≡ suc (if b then suc (how_many g n) else how_many g n)
        both true e = ap suc e
        both false e = e

pub how_many-none : (f : ℕ → Bool) (n : ℕ) → ((i : ℕ) → i < n → f i ≡ false) → how_many f n ≡ 0
how_many-none f zero h = refl
how_many-none f (suc n) h = let e = h n (omega arith) in rw e (how_many-none f n (λ i lt. h i (omega arith)))

pub how_many-most : (f : ℕ → Bool) (n : ℕ) → how_many f n ≤ n
how_many-most f zero = omega arith
how_many-most f (suc n) = by (f n) (how_many-most f n)
  where
    by : (b : Bool) → how_many f n ≤ n → (if b then suc (how_many f n) else how_many f n) ≤ suc n
    by true h = omega arith
    by false h = omega arith

-- as many keys as cells with a tag
pub keys-many : (t : ℕ → ℕ) (f : ℕ → Bool) (n : ℕ) → ((i : ℕ) → i < n → t i ≡ 0 → f i ≡ false) → ((i : ℕ) → i < n → 0 < t i → f i ≡ true) → length (keys_of t n) ≡ how_many f n
keys-many t f zero a b = refl
keys-many t f (suc n) a b = by (t n) refl (keys-many t f n (λ i lt. a i (omega arith)) (λ i lt. b i (omega arith)))
  where
    by : (v : ℕ) → t n ≡ v → length (keys_of t n) ≡ how_many f n → length (with_tag v (keys_of t n)) ≡ (if f n then suc (how_many f n) else how_many f n)
    by zero e h = let q = a n (omega arith) e in rw q h
    by (suc k) e h = let q = b n (omega arith) (omega arith) in rw q (with-length k (keys_of t n) ∙ ap suc h)

-- tests of which one is stricter
pub how_many-fewer : (f g : ℕ → Bool) (c n : ℕ) → ((i : ℕ) → i < n → f i ≡ true → g i ≡ true) → c < n → f c ≡ false → g c ≡ true → how_many f n < how_many g n
how_many-fewer f g c zero h lt a b = absurd (omega arith)
how_many-fewer f g c (suc n) h lt a b = by (n == c) refl (how_many-no_more n (λ i l. h i (omega arith))) (λ less. how_many-fewer f g c n (λ i l. h i (omega arith)) less a b)
  where
    step : (x y : Bool) → (x ≡ true → y ≡ true) → (p q : ℕ) → p ≤ q → (if x then suc p else p) ≤ (if y then suc q else q)
    step true true i p q le = omega arith
    step true false i p q le = let z = i refl in absurd cc
    step false true i p q le = omega arith
    step false false i p q le = le

    how_many-no_more : (n : ℕ) → ((i : ℕ) → i < n → f i ≡ true → g i ≡ true) → how_many f n ≤ how_many g n
    how_many-no_more zero h = omega arith
    how_many-no_more (suc n) h = step (f n) (g n) (h n (omega arith)) (how_many f n) (how_many g n) (how_many-no_more n (λ i l. h i (omega arith)))

    by : (t : Bool) → (n == c) ≡ t → how_many f n ≤ how_many g n → (c < n → how_many f n < how_many g n) → (if f n then suc (how_many f n) else how_many f n) < (if g n then suc (how_many g n) else how_many g n)
    by true q le go = let e : n ≡ c = grind (arith, nat_tests) in let x : f n ≡ false = ap f e ∙ a in let y : g n ≡ true = ap g e ∙ b in rw (x, y) (omega arith)
    by false q le go = let d : n ≢ c = grind (arith, nat_tests) in let s = go (omega arith) in strict (f n) (g n) (h n (omega arith)) s
      where
        strict : (x y : Bool) → (x ≡ true → y ≡ true) → how_many f n < how_many g n → (if x then suc (how_many f n) else how_many f n) < (if y then suc (how_many g n) else how_many g n)
        strict true true i s = omega arith
        strict true false i s = let z = i refl in absurd cc
        strict false true i s = omega arith
        strict false false i s = s

-- the least key
pub least-none : (t : ℕ → ℕ) (n : ℕ) → ((i : ℕ) → i < n → t i ≡ 0) → least (keys_of t n) ≡ None
least-none t zero h = refl
least-none t (suc n) h = let e = h n (omega arith) in rw e (least-none t n (λ i lt. h i (omega arith)))

abbrev AllFrom : ℕ → List ℕ → Type 0
AllFrom k [] = Unit {0}
AllFrom k (x ∷ xs) = (k ≤ x) × AllFrom k xs

from-with : (k a : ℕ) (xs : List ℕ) → k ≤ a → AllFrom k xs → AllFrom k (with_key a xs)
from-with k a [] le h = (le, tt)
from-with k a (x ∷ xs) le h = by (leb a x) (from-with k a xs le h.1)
  where
    by : (b : Bool) → AllFrom k (with_key a xs) → AllFrom k (if b then a ∷ x ∷ xs else x ∷ with_key a xs)
    by true g = (le, h)
    by false g = (h.0, g)

keys-from : (t : ℕ → ℕ) (k n : ℕ) → ((i : ℕ) → i < n → 0 < t i → suc k ≤ t i) → AllFrom k (keys_of t n)
keys-from t k zero h = tt
keys-from t k (suc n) h = by (t n) refl (keys-from t k n (λ i lt. h i (omega arith)))
  where
    by : (v : ℕ) → t n ≡ v → AllFrom k (keys_of t n) → AllFrom k (with_tag v (keys_of t n))
    by zero e g = g
    by (suc a) e g = let x = h n (omega arith) (omega arith) in from-with k a (keys_of t n) (omega arith) g

-- the least of keys that are all k or more, and have k, is k
least-has : (k : ℕ) (xs : List ℕ) → AllFrom k xs → least (with_key k xs) ≡ Some k
least-has k [] h = refl
least-has k (x ∷ xs) h = let le = h.0 in let q : leb k x ≡ true = grind (arith, nat_tests) in rw q refl

least-with : (k a : ℕ) (xs : List ℕ) → k ≤ a → least xs ≡ Some k → least (with_key a xs) ≡ Some k
least-with k a [] le e = absurd cc
least-with k a (x ∷ xs) le e = by (leb a x) refl
  where
    by : (b : Bool) → leb a x ≡ b → least (if b then a ∷ x ∷ xs else x ∷ with_key a xs) ≡ Some k
    by true q = let s : x ≡ k = cc in let d : a ≡ k = (let c : a ≤ x = grind (arith, nat_tests) in omega arith) in ap Some d
    by false q = e

pub least-is : (t : ℕ → ℕ) (k n c : ℕ) → c < n → t c ≡ suc k → ((i : ℕ) → i < n → 0 < t i → suc k ≤ t i) → least (keys_of t n) ≡ Some k
least-is t k zero c lt e h = absurd (omega arith)
least-is t k (suc n) c lt e h = by (c == n) refl (t n) refl (λ less. least-is t k n c less e (λ i l. h i (omega arith)))
  where
    by : (b : Bool) → (c == n) ≡ b → (v : ℕ) → t n ≡ v → (c < n → least (keys_of t n) ≡ Some k) → least (with_tag v (keys_of t n)) ≡ Some k
    by true q zero f go = let s : t c ≡ t n = ap t (grind (arith, nat_tests)) in absurd (omega arith)
    by true q (suc a) f go = let s : t c ≡ t n = ap t (grind (arith, nat_tests)) in let d : a ≡ k = omega arith in
        rw d (least-has k (keys_of t n) (keys-from t k n (λ i l. h i (omega arith))))
    by false q zero f go = let d : c ≢ n = grind (arith, nat_tests) in go (omega arith)
    by false q (suc a) f go = let d : c ≢ n = grind (arith, nat_tests) in let x = h n (omega arith) (omega arith) in least-with k a (keys_of t n) (omega arith) (go (omega arith))

pub without-none : (k : ℕ) (xs : List ℕ) → has k xs ≡ false → without_key k xs ≡ xs
without-none k [] h = refl
without-none k (x ∷ xs) h = by (k == x) refl (without-none k xs)
  where
    by : (b : Bool) → (k == x) ≡ b → (has k xs ≡ false → without_key k xs ≡ xs) → (if b then xs else x ∷ without_key k xs) ≡ x ∷ xs
    by true q go = let z : has k (x ∷ xs) ≡ true = rw q refl in absurd cc
    by false q go = ap (λ l. x ∷ l) (go (let z : has k (x ∷ xs) ≡ has k xs = rw q refl in sym z ∙ h))

-- ASCENDING LISTS ARE SETS
above-less : (j k : ℕ) (xs : List ℕ) → j ≤ k → AllAbove k xs → AllAbove j xs
above-less j k [] le h = tt
above-less j k (x ∷ xs) le h = (let a = h.0 in omega arith, above-less j k xs le h.1)

above-with : (j k : ℕ) (xs : List ℕ) → j < k → AllAbove j xs → AllAbove j (with_key k xs)
above-with j k [] lt h = (lt, tt)
above-with j k (x ∷ xs) lt h = by (leb k x) (above-with j k xs lt h.1)
  where
    by : (b : Bool) → AllAbove j (with_key k xs) → AllAbove j (if b then k ∷ x ∷ xs else x ∷ with_key k xs)
    by true g = (lt, h)
    by false g = (h.0, g)

above-without : (j k : ℕ) (xs : List ℕ) → AllAbove j xs → AllAbove j (without_key k xs)
above-without j k [] h = tt
above-without j k (x ∷ xs) h = by (k == x) (above-without j k xs h.1)
  where
    by : (b : Bool) → AllAbove j (without_key k xs) → AllAbove j (if b then xs else x ∷ without_key k xs)
    by true g = h.1
    by false g = (h.0, g)

-- what is below all keys isn't among them
above-not : (k : ℕ) (xs : List ℕ) → AllAbove k xs → has k xs ≡ false
above-not k [] h = refl
above-not k (x ∷ xs) h = let lt = h.0 in let q : (k == x) ≡ false = grind (arith, nat_tests) in rw q (above-not k xs h.1)

not-head : (k x : ℕ) (xs : List ℕ) → has k (x ∷ xs) ≡ false → (k ≢ x) × (has k xs ≡ false)
not-head k x xs h = by (k == x) refl h
  where
    by : (b : Bool) → (k == x) ≡ b → (b || has k xs) ≡ false → (k ≢ x) × (has k xs ≡ false)
    by true q e = absurd cc
    by false q e = (grind (arith, nat_tests), e)

pub ascends-with : (k : ℕ) (xs : List ℕ) → Ascends xs → has k xs ≡ false → Ascends (with_key k xs)
ascends-with k [] h n = (tt, tt)
ascends-with k (x ∷ xs) h n = let d = not-head k x xs n in by (leb k x) refl d.0 (ascends-with k xs h.1 d.1)
  where
    by : (b : Bool) → leb k x ≡ b → k ≢ x → Ascends (with_key k xs) → Ascends (if b then k ∷ x ∷ xs else x ∷ with_key k xs)
    by true q d g = let le : k ≤ x = grind (arith, nat_tests) in ((omega arith, above-less k x xs le h.0), h)
    by false q d g = (above-with x k xs (grind (arith, nat_tests)) h.0, g)

pub ascends-without : (k : ℕ) (xs : List ℕ) → Ascends xs → Ascends (without_key k xs)
ascends-without k [] h = tt
ascends-without k (x ∷ xs) h = by (k == x) (ascends-without k xs h.1)
  where
    by : (b : Bool) → Ascends (without_key k xs) → Ascends (if b then xs else x ∷ without_key k xs)
    by true g = h.1
    by false g = (above-without x k xs h.0, g)

pub has-without : (a k : ℕ) (xs : List ℕ) → Ascends xs → has a (without_key k xs) ≡ (not (a == k) && has a xs)
has-without a k [] h = by (a == k)
  where
    by : (b : Bool) → false ≡ (not b && false)
    by true = refl
    by false = refl
has-without a k (x ∷ xs) h = by (k == x) refl (a == k) refl (a == x) refl (has-without a k xs h.1)
  where
    by : (b : Bool) → (k == x) ≡ b → (c : Bool) → (a == k) ≡ c → (d : Bool) → (a == x) ≡ d → has a (without_key k xs) ≡ (not c && has a xs) → has a (if b then xs else x ∷ without_key k xs) ≡ (not c && (d || has a xs))
    by true p true q d r g = let e : a ≡ x = grind (arith, nat_tests) in rw e (above-not x xs h.0)
    by true p false q true r g = absurd (grind (arith, nat_tests))
    by true p false q false r g = refl
    by false p true q true r g = absurd (grind (arith, nat_tests))
    by false p true q false r g = rw r g
    by false p false q true r g = rw r refl
    by false p false q false r g = rw r g

pub same-sets : (xs ys : List ℕ) → Ascends xs → Ascends ys → ((k : ℕ) → has k xs ≡ has k ys) → xs ≡ ys
same-sets [] [] a b h = refl
same-sets [] (y ∷ ys) a b h = let e = h y in let q : (y == y) ≡ true = grind (arith, nat_tests) in let z : has y (y ∷ ys) ≡ true = rw q refl in absurd cc
same-sets (x ∷ xs) [] a b h = let e = h x in let q : (x == x) ≡ true = grind (arith, nat_tests) in let z : has x (x ∷ xs) ≡ true = rw q refl in absurd cc
same-sets (x ∷ xs) (y ∷ ys) a b h = by (ltb x y) refl (ltb y x) refl (λ e. same-sets xs ys a.1 b.1 (tails e))
  where
    -- a first key that is less than the other's first isn't there
    lacks : (j k : ℕ) (js ks : List ℕ) → AllAbove k ks → j < k → has j (j ∷ js) ≡ has j (k ∷ ks) → ⊥
    lacks j k js ks f lt e =
        let q : (j == j) ≡ true = grind (arith, nat_tests) in
        let z : has j (j ∷ js) ≡ true = rw q refl in
        let n : has j (k ∷ ks) ≡ false = above-not j (k ∷ ks) (lt, above-less j k ks (omega arith) f) in absurd cc

    tails : x ≡ y → (k : ℕ) → has k xs ≡ has k ys
    tails e k = at (k == x) refl
      where
        at : (t : Bool) → (k == x) ≡ t → has k xs ≡ has k ys
        at true q = let p : k ≡ x = grind (arith, nat_tests) in let r : k ≡ y = p ∙ e in ap (λ i. has i xs) p ∙ (above-not x xs a.0 ∙ (sym (above-not y ys b.0) ∙ ap (λ i. has i ys) (sym r)))
        at false q = let r : (k == y) ≡ false = grind (arith, nat_tests) in let z : has k (x ∷ xs) ≡ has k xs = rw q refl in let w : has k (y ∷ ys) ≡ has k ys = rw r refl in sym z ∙ (h k ∙ w)

    by : (s : Bool) → ltb x y ≡ s → (t : Bool) → ltb y x ≡ t → (x ≡ y → xs ≡ ys) → x ∷ xs ≡ y ∷ ys
    by true p t q go = absurd (lacks x y xs ys b.0 (grind (arith, nat_tests)) (h x))
    by false p true q go = absurd (lacks y x ys xs a.0 (grind (arith, nat_tests)) (sym (h y)))
    by false p false q go = let e : x ≡ y = grind (arith, nat_tests) in let t = go e in rw (e, t) refl

-- the keys of cells with different tags ascend
pub keys-ascend : (t : ℕ → ℕ) (n : ℕ) → ((i j : ℕ) → i < n → j < n → 0 < t i → t i ≡ t j → i ≡ j) → Ascends (keys_of t n)
keys-ascend t zero d = tt
keys-ascend t (suc n) d = by (t n) refl (keys-ascend t n (λ i j a b. d i j (omega arith) (omega arith)))
  where
    by : (v : ℕ) → t n ≡ v → Ascends (keys_of t n) → Ascends (with_tag v (keys_of t n))
    by zero e g = g
    by (suc k) e g = ascends-with k (keys_of t n) g (has-no t k n (λ i lt z. let s = d i n (omega arith) (omega arith) (omega arith) (z ∙ sym e) in absurd (omega arith)))
