-- A log that has its length, and one more address to write: the memory has more words than the log.
use Rattle.std.proofs.Common.{ℕ, ◌≡◌, ◌<◌, List, [], ◌∷◌, length, Bool, true, false, refl, subst, arith}
use Rattle.std.specs.Prelude.{Some, None, ◌==◌, if◌then◌else◌, ◌||◌}
use Rattle.std.specs.List.{AllByRecursion, IsDistinct, list_any}
use Rattle.std.proofs.lemmas.Bool.Decides.{nat_tests}
use Rattle.std.proofs.lemmas.Map.Steps.{length-le_from_distinct_below}
use Rattle.stm_model.specs.Memories.{item_at, Once}
use Rattle.stm_logs.specs.LogStates.{firsts}
use Rattle.tx_parts.specs.Laying.{Within, Overflows}

absent-cons : (a : ℕ) (w : ℕ × ℕ) (ws : List (ℕ × ℕ)) (t : Bool) → (w.0 == a) ≡ t → (if t then Some w.1 else item_at a ws) ≡ None
    → (item_at a ws ≡ None → AllByRecursion (λ (y : ℕ). (a == y) ≡ false) (firsts ws)) → AllByRecursion (λ (y : ℕ). (a == y) ≡ false) (firsts (w ∷ ws))
absent-cons a w ws true t e h = absurd cc
absent-cons a w ws false t e h = let n : (a == w.0) ≡ false = grind (arith, nat_tests) in (n, h e)

absent-all : (a : ℕ) (ws : List (ℕ × ℕ)) → item_at a ws ≡ None → AllByRecursion (λ (y : ℕ). (a == y) ≡ false) (firsts ws)
absent-all a [] e = tt
absent-all a (w ∷ ws) e = absent-cons a w ws (w.0 == a) refl e (absent-all a ws)

distinct : (ws : List (ℕ × ℕ)) → Once ws → IsDistinct (λ (a b : ℕ). a == b) (firsts ws)
unfolding IsDistinct
distinct [] o = tt
distinct (w ∷ ws) o = (absent-all w.0 ws o.0, distinct ws o.1)

below-cons : (n x q : ℕ) (xs : List ℕ) (t : Bool) → (q == x) ≡ t → x < n → (t || list_any (λ (y : ℕ). q == y) xs) ≡ true → (list_any (λ (y : ℕ). q == y) xs ≡ true → q < n) → q < n
below-cons n x q xs true t low e h = let same : x ≡ q = grind (arith, nat_tests) in subst (λ (y : ℕ). y < n) same low
below-cons n x q xs false t low e h = h e

below : (n : ℕ) (xs : List ℕ) → Within n xs → (q : ℕ) → list_any (λ (y : ℕ). q == y) xs ≡ true → q < n
below n [] w q e = absurd cc
below n (x ∷ xs) w q e = below-cons n x q xs (q == x) refl w.0 e (below n xs w.1 q)

as-many : (ws : List (ℕ × ℕ)) → length (firsts ws) ≡ length ws
as-many [] = refl
as-many (w ∷ ws) = let e = as-many ws in omega arith

room-left : (n a : ℕ) (ws : List (ℕ × ℕ)) → a < n → Within n (firsts ws) → Once ws → item_at a ws ≡ None → length ws < n
room-left n a ws low w o none =
    let h = length-le_from_distinct_below (a ∷ firsts ws) n (distinct ((a, 0) ∷ ws) (none, o)) (below n (a ∷ firsts ws) (low, w)) in
    let e = as-many ws in
    omega arith

-- so the memory has more words than there was room for
pub overflows-short : (n len : ℕ) (ws : List (ℕ × ℕ)) → Within n (firsts ws) → Once ws → Overflows n len ws → len < n
overflows-short n len ws w o f = subst (λ (k : ℕ). k < n) f.0 (room-left n f.1 ws f.2 w o f.3)
