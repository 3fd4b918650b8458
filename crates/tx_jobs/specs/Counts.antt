-- What deeds come to, counted: sums over lists and over callers, and how often a number stands in a list.
use Rattle.std.proofs.Common.{ℕ, zero, suc, ◌≡◌, ◌<◌, ◌≤◌, ◌+◌, ◌∙◌, List, [], ◌∷◌, ◌++◌, length, map, get_or, refl, ap, arith}
use Rattle.std.specs.Prelude.{◌==◌, ◌&&◌, leb, ltb, if◌then◌else◌, sum_by}
use Rattle.std.specs.List.{range_with_len}
use Rattle.std.proofs.lemmas.Bool.Decides.{nat_tests}
use Rattle.std.proofs.lemmas.List.Recursion.{is_sum_by}
use Rattle.std.proofs.lemmas.List.Sums.{sum_by-cons, sum_by_push}
use Rattle.tx_jobs.specs.Deeds.{over}

-- of deeds that stand for values, and of what counts nothing
pub sum-mapped : {A D : Type 0} (g : D → ℕ) (f : A → D) (xs : List A) → sum_by g (map f xs) ≡ sum_by (λ (x : A). g (f x)) xs
sum-mapped g f xs = is_sum_by (λ ys. sum_by g (map f ys)) (λ x. g (f x)) refl (λ x ys. sum_by-cons g (f x) (map f ys)) xs

pub sum-nothing : {A : Type 0} (xs : List A) → sum_by (λ (x : A). 0) xs ≡ 0
sum-nothing [] = refl
sum-nothing {A} (x ∷ xs) = let here = sum_by-cons (λ (y : A). 0) x xs in let more = sum-nothing xs in omega (arith, here, more)

-- HOW OFTEN a number stands in a list
abbrev pub times : ℕ → List ℕ → ℕ
times x ys = sum_by (λ (y : ℕ). if y == x then 1 else 0) ys

-- in one with one more at its front, or at its end
pub times-first : (x y : ℕ) (ys : List ℕ) → times x (y ∷ ys) ≡ (if y == x then 1 else 0) + times x ys
times-first x y ys = sum_by-cons (λ (z : ℕ). if z == x then 1 else 0) y ys

pub times-last : (x : ℕ) (ys : List ℕ) (y : ℕ) → times x (ys ++ y ∷ []) ≡ times x ys + (if y == x then 1 else 0)
times-last x ys y = sum_by_push (λ (z : ℕ). if z == x then 1 else 0) ys y

-- of so many numbers from one on: once, if it is one of them
abbrev pub hit : ℕ → ℕ → ℕ → ℕ
hit x from count = if leb from x && ltb x (from + count) then 1 else 0

pub times-range : (x from count : ℕ) → times x (range_with_len from count) ≡ hit x from count
times-range x from zero = let none : times x [] ≡ 0 = refl in grind (arith, nat_tests, none)
times-range x from (suc n) =
    let more = times-range x (from + 1) n in
    let all = times-first x from (range_with_len (from + 1) n) in
    grind (arith, nat_tests, more, all)

-- these numbers, by their places
shift : (from a n : ℕ) → map (λ i. from + i) (range_with_len a n) ≡ range_with_len (from + a) n
shift from a zero = refl
shift from a (suc n) = ap (λ l. (from + a) ∷ l) (shift from (a + 1) n ∙ ap (λ k. range_with_len k n) (let e : from + (a + 1) ≡ from + a + 1 = omega arith in e))

pub numbered : (from n : ℕ) → map (λ i. from + i) (range_with_len 0 n) ≡ range_with_len from n
numbered from n = shift from 0 n ∙ ap (λ k. range_with_len k n) (let e : from + 0 ≡ from = omega arith in e)

-- SUMS over callers
pub over-same : (k : ℕ) (f g : ℕ → ℕ) → ((n : ℕ) → n < k → f n ≡ g n) → over k f ≡ over k g
over-same zero f g same = refl
over-same (suc k) f g same = let here = same k (omega arith) in let more = over-same k f g (λ n lt. same n (omega (arith, lt))) in omega (arith, here, more)

pub over-most : (k : ℕ) (f g : ℕ → ℕ) → ((n : ℕ) → n < k → f n ≤ g n) → over k f ≤ over k g
over-most zero f g most = omega arith
over-most (suc k) f g most = let here = most k (omega arith) in let more = over-most k f g (λ n lt. most n (omega (arith, lt))) in omega (arith, here, more)

over-first : (k : ℕ) (f : ℕ → ℕ) → over (suc k) f ≡ f 0 + over k (λ n. f (suc n))
over-first zero f = omega arith
over-first (suc k) f = let more = over-first k f in omega (arith, more)

-- where they are as many as a list's items
pub over-list : {A : Type 0} (g : A → ℕ) (d : A) (xs : List A) → over (length xs) (λ n. g (get_or xs n d)) ≡ sum_by g xs
over-list g d [] = refl
over-list g d (x ∷ xs) =
    let first = over-first (length xs) (λ n. g (get_or (x ∷ xs) n d)) in
    let more = over-list g d xs in
    let all = sum_by-cons g x xs in
    omega (arith, first, more, all)
