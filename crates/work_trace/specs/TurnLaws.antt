-- The turns of a schedule, line by line; and those after it, caller by caller.
use Rattle.std.proofs.Common.{ℕ, zero, suc, ◌≡◌, ◌<◌, ◌≤◌, ◌+◌, ◌-◌, List, [], ◌∷◌, ◌++◌, length, get_or, refl, sym, ap, ◌∙◌, arith, append_assoc, add-one, zero-add}
use Rattle.std.specs.Prelude.{replicate, take, drop}
use Rattle.work_script.specs.declared.workload.Go.{Go}
use Rattle.work_trace.specs.Fits.{turns, Rising}
use Rattle.work_trace.specs.PlayLaws.{append-nil}

replicate-more : {A : Type 0} (n : ℕ) (x : A) → replicate n x ++ x ∷ [] ≡ replicate (suc n) x
replicate-more zero x = refl
replicate-more (suc n) x = ap (λ w. x ∷ w) (replicate-more n x)

plus : (n k : ℕ) → suc (n + k) ≡ suc n + k
plus n k = omega arith

minus : (i n : ℕ) → i < n → suc i + (n - suc i) ≡ n
minus i n lt = omega (arith, lt)

-- one turn more
pub replicate-next : (n x : ℕ) → replicate n x ++ x ∷ [] ≡ replicate (n + 1) x
replicate-next n x = replicate-more n x ∙ ap (λ (j : ℕ). replicate j x) (sym (add-one n))

replicate-add : (n k x : ℕ) → replicate n x ++ replicate k x ≡ replicate (n + k) x
replicate-add zero k x = ap (λ (j : ℕ). replicate j x) (sym (zero-add k))
replicate-add (suc n) k x = ap (λ w. x ∷ w) (replicate-add n k x) ∙ ap (λ (j : ℕ). replicate j x) (plus n k)

-- the first i + 1 of n turns, and the others
pub replicate-part : (i n x : ℕ) → i < n → (replicate i x ++ x ∷ []) ++ replicate (n - suc i) x ≡ replicate n x
replicate-part i n x lt = ap (λ w. w ++ replicate (n - suc i) x) (replicate-more i x) ∙ (replicate-add (suc i) (n - suc i) x ∙ ap (λ (j : ℕ). replicate j x) (minus i n lt))

pub turns-append : (xs ys : List Go) → turns (xs ++ ys) ≡ turns xs ++ turns ys
turns-append [] ys = refl
turns-append (go ∷ xs) ys = ap (λ w. replicate go.turns go.caller ++ w) (turns-append xs ys) ∙ sym (append_assoc (replicate go.turns go.caller) (turns xs) (turns ys))

take-more : (i : ℕ) (s : List Go) (d : Go) → i < length s → take (suc i) s ≡ take i s ++ get_or s i d ∷ []
take-more zero [] d lt = absurd (omega arith)
take-more zero (x ∷ s) d lt = refl
take-more (suc i) [] d lt = absurd (omega arith)
take-more (suc i) (x ∷ s) d lt = ap (λ w. x ∷ w) (take-more i s d (omega arith))

take-all : (i : ℕ) (s : List Go) → length s ≤ i → take i s ≡ s
take-all zero [] h = refl
take-all zero (x ∷ s) h = absurd (omega (arith, h))
take-all (suc i) [] h = refl
take-all (suc i) (x ∷ s) h = ap (λ w. x ∷ w) (take-all i s (omega (arith, h)))

take-drop : (i : ℕ) (s : List Go) → take i s ++ drop i s ≡ s
take-drop zero s = refl
take-drop (suc i) [] = refl
take-drop (suc i) (x ∷ s) = ap (λ w. x ∷ w) (take-drop i s)

turns-more : (i : ℕ) (s : List Go) (d : Go) → i < length s → turns (take i s) ++ replicate (get_or s i d).turns (get_or s i d).caller ≡ turns (take (suc i) s)
turns-more i s d lt =
    ap (λ w. turns (take i s) ++ w) (sym (append-nil (replicate (get_or s i d).turns (get_or s i d).caller)))
    ∙ (sym (turns-append (take i s) (get_or s i d ∷ [])) ∙ ap turns (sym (take-more i s d lt)))

-- one line of the schedule more
pub turns-next : (i : ℕ) (s : List Go) (d : Go) → i < length s → turns (take i s) ++ replicate (get_or s i d).turns (get_or s i d).caller ≡ turns (take (i + 1) s)
turns-next i s d lt = turns-more i s d lt ∙ ap (λ (j : ℕ). turns (take j s)) (sym (add-one i))

-- and the lines after it
pub turns-part : (i : ℕ) (s : List Go) (d : Go) → i < length s → (turns (take i s) ++ replicate (get_or s i d).turns (get_or s i d).caller) ++ turns (drop (suc i) s) ≡ turns s
turns-part i s d lt = ap (λ w. w ++ turns (drop (suc i) s)) (turns-more i s d lt) ∙ (sym (turns-append (take (suc i) s) (drop (suc i) s)) ∙ ap turns (take-drop (suc i) s))

pub turns-all : (i : ℕ) (s : List Go) → length s ≤ i → turns (take i s) ≡ turns s
turns-all i s h = ap turns (take-all i s h)

abbrev pub AreBelow : ℕ → List ℕ → Type 0
AreBelow n [] = Unit {0}
AreBelow n (k ∷ ks) = (k < n) × AreBelow n ks

-- the turns of the callers below n, each caller's in turn
pub record InTurn (n : ℕ) (order : List ℕ) : Type 0 where
  pub rises : Rising 0 order
  pub below : AreBelow n order

pub in_turn-none : InTurn 0 []
in_turn-none = record { rises = tt; below = tt }

pub rising-first : (low : ℕ) (xs ys : List ℕ) → Rising low (xs ++ ys) → Rising low xs
rising-first low [] ys r = tt
rising-first low (x ∷ xs) ys r = (r.0, rising-first x xs ys r.1)

rising-replicate : (k n low : ℕ) → low ≤ n → Rising low (replicate k n)
rising-replicate zero n low h = tt
rising-replicate (suc k) n low h = (h, rising-replicate k n n (omega arith))

rising-append : (low n k : ℕ) (order : List ℕ) → low ≤ n → Rising low order → AreBelow n order → Rising low (order ++ replicate k n)
rising-append low n k [] h r b = rising-replicate k n low h
rising-append low n k (x ∷ order) h r b = (r.0, rising-append x n k order (let lt = b.0 in omega (arith, lt)) r.1 b.1)

below-replicate : (k n : ℕ) → AreBelow (suc n) (replicate k n)
below-replicate zero n = tt
below-replicate (suc k) n = (omega arith, below-replicate k n)

below-append : (n k : ℕ) (order : List ℕ) → AreBelow n order → AreBelow (suc n) (order ++ replicate k n)
below-append n k [] b = below-replicate k n
below-append n k (x ∷ order) b = ((let lt = b.0 in omega (arith, lt)), below-append n k order b.1)

-- the next caller's
pub in_turn-next : (n k : ℕ) (order : List ℕ) → InTurn n order → InTurn (suc n) (order ++ replicate k n)
in_turn-next n k order i = record { rises = rising-append 0 n k order (omega arith) i.rises i.below; below = below-append n k order i.below }

-- some of its turns
pub rises-next : (n k : ℕ) (order : List ℕ) → InTurn n order → Rising 0 (order ++ replicate k n)
rises-next n k order i = rising-append 0 n k order (omega arith) i.rises i.below
