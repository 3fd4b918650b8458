-- A history dealt out to its callers.
use Rattle.std.proofs.Common.{ℕ, zero, suc, ◌≡◌, ◌<◌, ◌≤◌, ◌+◌, Bool, true, false, List, [], ◌∷◌, length, get_or, refl, ap, ◌∙◌, arith, subst}
use Rattle.std.specs.Prelude.{◌==◌, if◌then◌else◌, All, Contains, sum_by}
use Rattle.std.proofs.lemmas.Bool.Decides.{nat_tests}
use Rattle.std.proofs.lemmas.List.Elements.{All-head, All-tail}
use Rattle.std.proofs.lemmas.List.Sums.{sum_by-cons}
use Rattle.stm_model.specs.Histories.{Entry, made_by}
use Rattle.work_driver.proofs.PartingLaws.{all-cons}

-- a count over the entries of m callers, from caller n on
abbrev pub dealt : (Entry → ℕ) → ℕ → ℕ → List Entry → ℕ
dealt h n zero es = 0
dealt h n (suc m) es = sum_by h (made_by n es) + dealt h (suc n) m es

dealt-none : (h : Entry → ℕ) (n m : ℕ) → dealt h n m [] ≡ 0
dealt-none h n zero = refl
dealt-none h n (suc m) = let e = dealt-none h (suc n) m in omega arith

dealt-same : (h : Entry → ℕ) (n m : ℕ) (e : Entry) (es : List Entry) → e.caller < n → dealt h n m (e ∷ es) ≡ dealt h n m es
dealt-same h n zero e es lt = refl
dealt-same h n (suc m) e es lt =
    let test : (e.caller == n) ≡ false = grind (arith, nat_tests) in
    let head : sum_by h (made_by n (e ∷ es)) ≡ sum_by h (made_by n es) = ap (λ b. sum_by h (if b then e ∷ made_by n es else made_by n es)) test in
    let rest = dealt-same h (suc n) m e es (omega arith) in
    omega arith

dealt-more : (h : Entry → ℕ) (n m : ℕ) (e : Entry) (es : List Entry) → n ≤ e.caller → e.caller < n + m → dealt h n m (e ∷ es) ≡ h e + dealt h n m es
dealt-more h n zero e es le lt = absurd (omega arith)
dealt-more h n (suc m) e es le lt = by (e.caller == n) refl (λ more. dealt-more h (suc n) m e es more (omega arith))
  where
    by : (b : Bool) → (e.caller == n) ≡ b → (suc n ≤ e.caller → dealt h (suc n) m (e ∷ es) ≡ h e + dealt h (suc n) m es)
        → sum_by h (made_by n (e ∷ es)) + dealt h (suc n) m (e ∷ es) ≡ h e + (sum_by h (made_by n es) + dealt h (suc n) m es)
    by true test more =
        let own : e.caller ≡ n = grind (arith, nat_tests) in
        let head : sum_by h (made_by n (e ∷ es)) ≡ h e + sum_by h (made_by n es) = ap (λ b. sum_by h (if b then e ∷ made_by n es else made_by n es)) test ∙ sum_by-cons h e (made_by n es) in
        let rest = dealt-same h (suc n) m e es (omega arith) in
        omega arith
    by false test more =
        let above : suc n ≤ e.caller = grind (arith, nat_tests) in
        let head : sum_by h (made_by n (e ∷ es)) ≡ sum_by h (made_by n es) = ap (λ b. sum_by h (if b then e ∷ made_by n es else made_by n es)) test in
        let rest = more above in
        omega arith

-- dealt out to all callers, a history has each entry once
pub dealt-all : (h : Entry → ℕ) (m : ℕ) (es : List Entry) → All (λ (e : Entry). e.caller < m) es → dealt h 0 m es ≡ sum_by h es
dealt-all h m [] below = dealt-none h 0 m
dealt-all h m (e ∷ es) below =
    let low = All-head (λ (x : Entry). x.caller < m) e es below in
    let rest = dealt-all h m es (All-tail (λ (x : Entry). x.caller < m) e es below) in
    let more = dealt-more h 0 m e es (omega arith) (omega arith) in
    let sum = sum_by-cons h e es in
    omega arith

-- a history in which no caller from m on made anything
pub all-below : (m : ℕ) (es : List Entry) → ((n : ℕ) → m ≤ n → made_by n es ≡ []) → All (λ (e : Entry). e.caller < m) es
all-below m [] none = λ i d lt. absurd (omega arith)
all-below m (e ∷ es) none = all-cons (λ (x : Entry). x.caller < m) e es (low (none e.caller)) (all-below m es (λ n le. rest n (e.caller == n) (none n le)))
  where
    rest : (n : ℕ) (b : Bool) → (if b then e ∷ made_by n es else made_by n es) ≡ [] → made_by n es ≡ []
    rest n true h = absurd cc
    rest n false h = h

    high : m ≤ e.caller → (m ≤ e.caller → made_by e.caller (e ∷ es) ≡ []) → ⊥
    high le h =
        let test : (e.caller == e.caller) ≡ true = grind (arith, nat_tests) in
        let some : (if true then e ∷ made_by e.caller es else made_by e.caller es) ≡ [] = subst (λ b. (if b then e ∷ made_by e.caller es else made_by e.caller es) ≡ []) test (h le) in
        absurd cc

    low : (m ≤ e.caller → made_by e.caller (e ∷ es) ≡ []) → e.caller < m
    low h = grind (arith, high, h)

-- a caller's entries are its own, and are in the history
pub made-own : (n : ℕ) (es : List Entry) → All (λ (e : Entry). e.caller ≡ n) (made_by n es)
made-own n [] = λ i d lt. absurd (omega arith)
made-own n (e ∷ es) = by (e.caller == n) refl (made-own n es)
  where
    by : (b : Bool) → (e.caller == n) ≡ b → All (λ (x : Entry). x.caller ≡ n) (made_by n es) → All (λ (x : Entry). x.caller ≡ n) (if b then e ∷ made_by n es else made_by n es)
    by true test r = all-cons (λ (x : Entry). x.caller ≡ n) e (made_by n es) (grind (arith, nat_tests)) r
    by false test r = r

contains-more : {A : Type 0} (x : A) (xs : List A) (y : A) → Contains xs y → Contains (x ∷ xs) y
contains-more x xs y h = let lt = h.1 in (suc h.0, omega arith, h.2)

contains-by : {A : Type 0} (x : A) (xs ys : List A) (y : A) → (Contains xs y → Contains ys y) → Contains (x ∷ xs) y → Contains (x ∷ ys) y
contains-by x xs ys y f h = at h.0 h.1 h.2
  where
    at : (k : ℕ) → k < suc (length xs) → get_or (x ∷ xs) k y ≡ y → Contains (x ∷ ys) y
    at zero lt e = (0, omega arith, e)
    at (suc k) lt e = contains-more x ys y (f (k, omega arith, e))

pub made-within : (n : ℕ) (es : List Entry) (e : Entry) → Contains (made_by n es) e → Contains es e
made-within n [] e h = h
made-within n (x ∷ es) e h = by (x.caller == n) (made-within n es e) h
  where
    by : (b : Bool) → (Contains (made_by n es) e → Contains es e) → Contains (if b then x ∷ made_by n es else made_by n es) e → Contains (x ∷ es) e
    by true f h = contains-by x (made_by n es) es e f h
    by false f h = contains-more x es e (f h)

-- counting one for each entry
pub ones : (es : List Entry) → sum_by (λ (e : Entry). 1) es ≡ length es
ones [] = refl
ones (e ∷ es) = let r = ones es in let c = sum_by-cons (λ (x : Entry). 1) e es in omega arith
