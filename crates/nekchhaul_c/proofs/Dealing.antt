-- Callers that go from one list to another, each to its place.
use Rattle.std.proofs.Common.{ℕ, zero, suc, ◌≡◌, ◌<◌, ◌≤◌, ◌+◌, ◌∙◌, true, false, refl, below_more, List, [], ◌∷◌, ◌++◌, length, get_or, set, sym, ap, subst, arith}
use Rattle.std.specs.Prelude.{Option, Some, None, is_some, MatchOption}
use Rattle.std.proofs.lemmas.List.{get_or-map, length-map}
use Rattle.std.proofs.Math.Seq.{map-set_same}
use Rattle.tx_loops.specs.declared.looping_caller.LoopingCaller.{LoopingCaller}
use Rattle.nekchhaul_c.specs.declared.handle.Handle.{Handle}
use Rattle.nekchhaul_c.specs.Opens.{insides, NoneHeld}

-- one more at the end
pub each-push : {X : Type 0} (P : ℕ → X → Type 0) (xs : List X) (x : X) → ((i : ℕ) (d : X) → i < length xs → P i (get_or xs i d)) → P (length xs) x
    → (i : ℕ) (d : X) → i < length (xs ++ x ∷ []) → P i (get_or (xs ++ x ∷ []) i d)
each-push P [] x all p zero d lt = p
each-push P [] x all p (suc i) d lt = absurd (omega (arith, lt))
each-push P (y ∷ ys) x all p zero d lt = all 0 d (omega arith)
each-push P (y ∷ ys) x all p (suc i) d lt = each-push (λ k. P (suc k)) ys x (λ k e h. all (suc k) e (omega (arith, h))) p i d (omega (arith, lt))

-- the first of those from n on, and the others
pub first-of : {X : Type 0} (P : ℕ → X → Type 0) (n : ℕ) (x : X) (xs : List X) → ((i : ℕ) (d : X) → i < length (x ∷ xs) → P (n + i) (get_or (x ∷ xs) i d)) → P n x
first-of P n x xs all = let here : n + 0 ≡ n = omega arith in subst (λ k. P k x) here (all 0 x (omega arith))

pub rest-of : {X : Type 0} (P : ℕ → X → Type 0) (n : ℕ) (x : X) (xs : List X) → ((i : ℕ) (d : X) → i < length (x ∷ xs) → P (n + i) (get_or (x ∷ xs) i d)) → (i : ℕ) (d : X) → i < length xs → P (suc n + i) (get_or xs i d)
rest-of P n x xs all i d lt = let next : n + suc i ≡ suc n + i = omega arith in subst (λ k. P k (get_or xs i d)) next (all (suc i) d (omega (arith, lt)))

-- one more, after which all are there
pub dealt-more : {X : Type 0} (P : ℕ → X → Type 0) (n : ℕ) (xs : List X) (x : X) → n < length xs → P n x → ((k : ℕ) (d : X) → suc n ≤ k → k < length xs → P k (get_or xs k d))
    → (k : ℕ) (d : X) → n ≤ k → k < length (set xs n x) → P k (get_or (set xs n x) k d)
dealt-more P n [] x low p rest k d le lt = absurd (omega (arith, low))
dealt-more P zero (y ∷ ys) x low p rest zero d le lt = p
dealt-more P zero (y ∷ ys) x low p rest (suc k) d le lt = rest (suc k) d (omega arith) (omega (arith, lt))
dealt-more P (suc n) (y ∷ ys) x low p rest zero d le lt = absurd (omega (arith, le))
dealt-more P (suc n) (y ∷ ys) x low p rest (suc k) d le lt =
    dealt-more (λ j. P (suc j)) n ys x (omega (arith, low)) p (λ j e h l. rest (suc j) e (omega (arith, h)) (omega (arith, l))) k d
    (omega (arith, le)) (omega (arith, lt))

abbrev inside-of : Handle → Option LoopingCaller
inside-of h = h.inside

-- handles that hold the same
pub inside-at : (hs ks : List Handle) (i : ℕ) (h k : Handle) → insides hs ≡ insides ks → i < length hs → (get_or hs i h).inside ≡ (get_or ks i k).inside
inside-at hs ks i h k e lt =
    let one = length-map hs inside-of in
    let two = length-map ks inside-of in
    let many = ap length e in
    let within : i < length ks = omega (arith, lt, one, two, many) in
    sym (get_or-map inside-of hs i h None lt) ∙ (ap (λ (l : List (Option LoopingCaller)). get_or l i None) e ∙ get_or-map inside-of ks i k None within)

-- one that holds the same again
pub held-again : (hs : List Handle) (i : ℕ) (h k : Handle) → k.inside ≡ (get_or hs i h).inside → insides (set hs i k) ≡ insides hs
held-again hs i h k e = map-set_same inside-of hs i k h e

none-held : (o : Option LoopingCaller) → false ≡ is_some o → o ≡ None
none-held None e = refl
none-held (Some m) e = absurd (let no : false ≡ true = e in cc)

-- handle i of hs, of which ks held the same
module _ (hs ks : List Handle) (i : ℕ) (h : Handle) (same : insides hs ≡ insides ks) (lt : i < length ks) where
  within : i < length hs
  within =
      let two = length-map ks inside-of in
      let one = length-map hs inside-of in
      let many = ap length same in
      omega (arith, lt, one, two, many)

  pub one-none : false ≡ is_some (get_or hs i h).inside → (d : Handle) → (get_or ks i d).inside ≡ None
  one-none e d = sym (inside-at hs ks i h d same within) ∙ none-held (get_or hs i h).inside e

  pub one-some : true ≡ is_some (get_or hs i h).inside → NoneHeld ks → ⊥
  one-some e none =
      let no : true ≡ false = e ∙ ap is_some (inside-at hs ks i h h same within ∙ none i h lt) in
      absurd (let wrong : true ≡ false = no in cc)

pub none-more : (hs : List Handle) (i : ℕ) → ((k : ℕ) (d : Handle) → k < i → (get_or hs k d).inside ≡ None) → ((d : Handle) → (get_or hs i d).inside ≡ None)
    → (k : ℕ) (d : Handle) → k < i + 1 → (get_or hs k d).inside ≡ None
none-more hs i all here k d lt = below_more (λ j. (e : Handle) → (get_or hs j e).inside ≡ None) i (λ j l e. all j e l) here k lt d

-- those before the last, and the last
pub each-first : {X : Type 0} (P : ℕ → X → Type 0) (xs : List X) (x : X) → ((i : ℕ) (d : X) → i < length (xs ++ x ∷ []) → P i (get_or (xs ++ x ∷ []) i d)) → (i : ℕ) (d : X) → i < length xs → P i (get_or xs i d)
each-first P [] x all i d lt = absurd (omega (arith, lt))
each-first P (y ∷ ys) x all zero d lt = all 0 d (omega arith)
each-first P (y ∷ ys) x all (suc i) d lt = each-first (λ k. P (suc k)) ys x (λ k e l. all (suc k) e (omega (arith, l))) i d (omega (arith, lt))

pub each-last : {X : Type 0} (P : ℕ → X → Type 0) (xs : List X) (x : X) → ((i : ℕ) (d : X) → i < length (xs ++ x ∷ []) → P i (get_or (xs ++ x ∷ []) i d)) → P (length xs) x
each-last P [] x all = all 0 x (omega arith)
each-last P (y ∷ ys) x all = each-last (λ k. P (suc k)) ys x (λ k e l. all (suc k) e (omega (arith, l)))

pub at-none : {X : Type 0} (A : Type 0) (B : X → Type 0) (o : Option X) → ((x : X) → o ≡ Some x → ⊥) → MatchOption o A B → A
at-none A B None wrong m = m
at-none A B (Some x) wrong m = absurd (wrong x refl)
