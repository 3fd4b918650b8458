-- Words written, and their addresses.
use Rattle.std.proofs.Common.{ℕ, zero, suc, ◌≡◌, ◌≢◌, ◌<◌, ◌≤◌, ◌+◌, List, [], ◌∷◌, ◌++◌, length, get_or, set, replicate, Bool, true, false, refl, sym, ap, ◌∙◌, arith, subst, length-set, length-append, inl, inr}
use Rattle.std.specs.Prelude.{◌^◌, All, Contains, map, Option, Some, None, is_some, ◌⊎◌, ◌==◌, ◌||◌, not}
use Rattle.std.proofs.lemmas.Bool.Decides.{nat_tests}
use Rattle.std.proofs.lemmas.List.{get_or-set_same, get_or-set_other}
use Rattle.std.proofs.lemmas.List.Elements.{All-append, All-nil, All-head, All-tail, All-cons, Contains-push_cases, Contains-push, Contains-append_left}
use Rattle.std.proofs.lemmas.List.Sums.{sum_by-set, sum_by-cons}
use Rattle.stm_model.specs.Memories.{AreWords, overlay}
use Rattle.stm_model.specs.Plains.{openings, writes_from, own_writes, value_of, settled, forgotten, change_first, any_own}
use Rattle.stm_model.proofs.Settling.{length-change_first, openings-settled, openings-forgotten, writes-changed}
use Rattle.stm_model.specs.declared.plain.PlainWord.{PlainWord}
use Rattle.work_check.specs.Ledgers.{zero_word, one_where, owned, AreTouched}

one-some : (o : Option ℕ) → is_some o ≡ true → one_where o ≡ 1
one-some None h = absurd cc
one-some (Some v) h = refl

one-none : (o : Option ℕ) → is_some o ≡ false → one_where o ≡ 0
one-none None h = refl
one-none (Some v) h = absurd cc

one-most : (o : Option ℕ) → one_where o ≤ 1
one-most None = omega arith
one-most (Some v) = omega arith

pub owned-most : (ws : List PlainWord) → owned ws ≤ length ws
owned-most [] = omega arith
owned-most (w ∷ ws) = let h = owned-most ws in let k = one-most w.own in let s = sum_by-cons (λ (x : PlainWord). one_where x.own) w ws in omega arith

-- a word that isn't written leaves room
pub owned-room : (ws : List PlainWord) (a : ℕ) → a < length ws → is_some (get_or ws a zero_word).own ≡ false → owned ws < length ws
owned-room ws a lt none =
    let w : PlainWord = record { opening = 0; own = Some 0 } in
    let s = sum_by-set (λ (x : PlainWord). one_where x.own) ws a w zero_word lt in
    let k = owned-most (set ws a w) in
    let l = length-set ws a w in
    let z = one-none (get_or ws a zero_word).own none in
    omega arith

within-set : (ws : List PlainWord) (touched : List ℕ) (a : ℕ) (w : PlainWord) → All (λ b. b < length ws) touched → All (λ b. b < length (set ws a w)) touched
within-set ws touched a w h = λ k d kt. let l = length-set ws a w in let one = h k d kt in omega arith

-- a word that is written for the first time
pub touched-new : (ws : List PlainWord) (touched : List ℕ) (a : ℕ) (w : PlainWord) (v : ℕ) → AreTouched ws touched → a < length ws
    → is_some (get_or ws a zero_word).own ≡ false → w.own ≡ Some v → AreTouched (set ws a w) (touched ++ a ∷ [])
touched-new ws touched a w v h lt none own =
    let l = length-set ws a w in
    let s = sum_by-set (λ (x : PlainWord). one_where x.own) ws a w zero_word lt in
    let z = one-none (get_or ws a zero_word).own none in
    let o : one_where w.own ≡ 1 = ap one_where own in
    let c = h.count in
    let m = length-append touched (a ∷ []) in
    record {
      within = All-append (λ b. b < length (set ws a w)) touched (a ∷ []) (within-set ws touched a w h.within) (All-cons (λ b. b < length (set ws a w)) a [] (omega arith) (All-nil (λ b. b < length (set ws a w))));
      all = λ b bt some. at b (omega arith) some (b == a) refl;
      count = omega arith;
    }
  where
    at : (b : ℕ) → b < length ws → is_some (get_or (set ws a w) b zero_word).own ≡ true → (t : Bool) → (b == a) ≡ t → Contains (touched ++ a ∷ []) b
    at b bt some true e = let q : a ≡ b = grind (arith, nat_tests) in subst (λ x. Contains (touched ++ a ∷ []) x) q (Contains-push touched a)
    at b bt some false e =
        let n : b ≢ a = grind (arith, nat_tests) in
        Contains-append_left touched (a ∷ []) b (h.all b bt (ap (λ (x : PlainWord). is_some x.own) (sym (get_or-set_other ws a b w zero_word n)) ∙ some))

-- a word that is written again
pub touched-again : (ws : List PlainWord) (touched : List ℕ) (a : ℕ) (w : PlainWord) (v : ℕ) → AreTouched ws touched → a < length ws
    → is_some (get_or ws a zero_word).own ≡ true → w.own ≡ Some v → AreTouched (set ws a w) touched
touched-again ws touched a w v h lt is own =
    let l = length-set ws a w in
    let s = sum_by-set (λ (x : PlainWord). one_where x.own) ws a w zero_word lt in
    let z = one-some (get_or ws a zero_word).own is in
    let o : one_where w.own ≡ 1 = ap one_where own in
    let c = h.count in
    record {
      within = within-set ws touched a w h.within;
      all = λ b bt some. at b (omega arith) some (b == a) refl;
      count = omega arith;
    }
  where
    at : (b : ℕ) → b < length ws → is_some (get_or (set ws a w) b zero_word).own ≡ true → (t : Bool) → (b == a) ≡ t → Contains touched b
    at b bt some true e = let q : a ≡ b = grind (arith, nat_tests) in subst (λ x. Contains touched x) q (h.all a lt is)
    at b bt some false e =
        let n : b ≢ a = grind (arith, nat_tests) in
        h.all b bt (ap (λ (x : PlainWord). is_some x.own) (sym (get_or-set_other ws a b w zero_word n)) ∙ some)

front-of : (P : ℕ → Type 0) (xs ys : List ℕ) → All P (xs ++ ys) → All P xs
front-of P [] ys h = All-nil P
front-of P (x ∷ xs) ys h = All-cons P x xs (All-head P x (xs ++ ys) h) (front-of P xs ys (All-tail P x (xs ++ ys) h))

-- the words still written are at these addresses: as AreTouched, but for their number
pub record AreLeft (ws : List PlainWord) (touched : List ℕ) : Type 0 where
  pub within : All (λ a. a < length ws) touched
  pub all : (a : ℕ) → a < length ws → is_some (get_or ws a zero_word).own ≡ true → Contains touched a

-- one of them is no longer written
pub left-one : (ws : List PlainWord) (touched : List ℕ) (a : ℕ) (w : PlainWord) → AreLeft ws (touched ++ a ∷ []) → w.own ≡ None → AreLeft (set ws a w) touched
left-one ws touched a w h own =
    let l = length-set ws a w in
    record {
      within = within-set ws touched a w front;
      all = λ b bt some. at b (omega arith) some (b == a) refl;
    }
  where
    front : All (λ b. b < length ws) touched
    front = front-of (λ b. b < length ws) touched (a ∷ []) h.within

    at : (b : ℕ) → b < length ws → is_some (get_or (set ws a w) b zero_word).own ≡ true → (t : Bool) → (b == a) ≡ t → Contains touched b
    at b bt some true e =
        let q : a ≡ b = grind (arith, nat_tests) in
        absurd (not-some w.own own (ap (λ (x : PlainWord). is_some x.own)
        (sym (get_or-set_same ws b w zero_word bt) ∙ ap (λ i. get_or (set ws i w) b zero_word) (sym q)) ∙ some))
      where
        not-some : (o : Option ℕ) → o ≡ None → is_some o ≡ true → ⊥
        not-some o e s = cc
    at b bt some false e =
        let n : b ≢ a = grind (arith, nat_tests) in
        behind n (Contains-push_cases touched a b (h.all b bt (ap (λ (x : PlainWord). is_some x.own) (sym (get_or-set_other ws a b w zero_word n)) ∙ some)))
      where
        behind : b ≢ a → Contains touched b ⊎ (a ≡ b) → Contains touched b
        behind n (inl c) = c
        behind n (inr q) = absurd (n (sym q))

-- no word is left
pub none-left : (ws : List PlainWord) → AreLeft ws [] → (a : ℕ) → a < length ws → (get_or ws a zero_word).own ≡ None
none-left ws h a lt = by (get_or ws a zero_word).own refl
  where
    by : (o : Option ℕ) → (get_or ws a zero_word).own ≡ o → (get_or ws a zero_word).own ≡ None
    by None e = e
    by (Some v) e = let c = h.all a lt (ap is_some e) in let k = c.1 in absurd (omega arith)

-- nothing is written where no word is left
pub none-owned : (ws : List PlainWord) → ((a : ℕ) → a < length ws → (get_or ws a zero_word).own ≡ None) → owned ws ≡ 0
none-owned [] h = refl
none-owned (w ∷ ws) h =
    let s = sum_by-cons (λ (x : PlainWord). one_where x.own) w ws in
    let z : one_where w.own ≡ 0 = ap one_where (h 0 (omega arith)) in
    let r = none-owned ws (λ a lt. h (suc a) (omega arith)) in
    omega arith

pub touched-none : (ws : List PlainWord) → AreLeft ws [] → AreTouched ws []
touched-none ws h = record { within = h.within; all = h.all; count = sym (none-owned ws (none-left ws h)) }

-- a change that leaves what isn't written leaves all where nothing is
pub map-none : (f : PlainWord → PlainWord) (ws : List PlainWord) → ((w : PlainWord) → w.own ≡ None → f w ≡ w) → ((a : ℕ) → a < length ws → (get_or ws a zero_word).own ≡ None) → map f ws ≡ ws
map-none f [] same h = refl
map-none f (w ∷ ws) same h =
    ap (λ x. x ∷ map f ws) (same w (h 0 (omega arith))) ∙ ap (λ l. w ∷ l) (map-none f ws same (λ a lt. h (suc a) (omega arith)))

pub change-all : (f : PlainWord → PlainWord) (ws : List PlainWord) → change_first f (length ws) ws ≡ map f ws
change-all f [] = refl
change-all f (w ∷ ws) = ap (λ l. f w ∷ l) (change-all f ws)

pub settled-none : (w : PlainWord) → w.own ≡ None → settled w ≡ w
settled-none w h = by w.own h
  where
    by : (o : Option ℕ) → o ≡ None → (let x : PlainWord = record { opening = value_of w.opening o; own = None } in x) ≡ record { opening = w.opening; own = o }
    by None h = refl
    by (Some v) h = absurd cc

pub forgotten-none : (w : PlainWord) → w.own ≡ None → forgotten w ≡ w
forgotten-none w h = ap (λ o. let x : PlainWord = record { opening = w.opening; own = o } in x) (sym h)

-- all settled
pub settled-all : (ws now : List PlainWord) → map settled now ≡ map settled ws → AreLeft now [] → (openings now ≡ overlay (openings ws) (own_writes ws)) × (own_writes now ≡ []) × (length now ≡ length ws)
settled-all ws now same left =
    let is : now ≡ change_first settled (length ws) ws = sym (map-none settled now settled-none (none-left now left)) ∙ (same ∙ sym (change-all settled ws)) in
    (ap openings is ∙ openings-settled (length ws) ws (omega arith), ap own_writes is ∙ writes-changed settled (λ w. refl) 0 (length ws) ws (omega arith), ap length is ∙ length-change_first settled (length ws) ws)

pub forgotten-all : (ws now : List PlainWord) → map forgotten now ≡ map forgotten ws → AreLeft now [] → (openings now ≡ openings ws) × (own_writes now ≡ []) × (length now ≡ length ws)
forgotten-all ws now same left =
    let is : now ≡ change_first forgotten (length ws) ws = sym (map-none forgotten now forgotten-none (none-left now left)) ∙ (same ∙ sym (change-all forgotten ws)) in
    (ap openings is ∙ openings-forgotten (length ws) ws, ap own_writes is ∙ writes-changed forgotten (λ w. refl) 0 (length ws) ws (omega arith), ap length is ∙ length-change_first forgotten (length ws) ws)

-- a memory of zeros
pub zeros-own : (n a : ℕ) → (get_or (replicate n zero_word) a zero_word).own ≡ None
zeros-own zero a = refl
zeros-own (suc n) zero = refl
zeros-own (suc n) (suc a) = zeros-own n a

pub zeros-words : (n : ℕ) → AreWords (openings (replicate n zero_word))
zeros-words zero = All-nil (λ (v : ℕ). v < 2 ^ 64)
zeros-words (suc n) = All-cons (λ (v : ℕ). v < 2 ^ 64) 0 (openings (replicate n zero_word)) (omega arith) (zeros-words n)

pub zeros-touched : (n : ℕ) → AreTouched (replicate n zero_word) []
zeros-touched n = record {
  within = All-nil (λ a. a < length (replicate n zero_word));
  all = λ a lt some. absurd (no (get_or (replicate n zero_word) a zero_word).own (zeros-own n a) some);
  count = sym (none-owned (replicate n zero_word) (λ a lt. zeros-own n a));
}
  where
    no : (o : Option ℕ) → o ≡ None → is_some o ≡ true → ⊥
    no o e s = cc

pub zeros-openings : (n : ℕ) → openings (replicate n zero_word) ≡ replicate n 0
zeros-openings zero = refl
zeros-openings (suc n) = ap (λ l. 0 ∷ l) (zeros-openings n)

pub zeros-writes : (k n : ℕ) → writes_from k (replicate n zero_word) ≡ []
zeros-writes k zero = refl
zeros-writes k (suc n) = zeros-writes (suc k) n

-- whether any word is written, by their number
owned-cons : (o : Option ℕ) (n : ℕ) (b : Bool) → b ≡ not (n == 0) → is_some o || b ≡ not (one_where o + n == 0)
owned-cons None n b h = let e : 0 + n ≡ n = omega arith in h ∙ ap (λ k. not (k == 0)) (sym e)
owned-cons (Some v) n b h = grind (arith, nat_tests)

pub any-owned : (ws : List PlainWord) → any_own ws ≡ not (owned ws == 0)
any-owned [] = refl
any-owned (w ∷ ws) = owned-cons w.own (owned ws) (any_own ws) (any-owned ws) ∙ ap (λ n. not (n == 0)) (sym (sum_by-cons (λ (x : PlainWord). one_where x.own) w ws))
