-- What the bits of a filter tell.
use Rattle.std.proofs.Common.{ℕ, zero, suc, ◌≡◌, ◌≢◌, ◌<◌, ◌≤◌, ◌+◌, ◌-◌, ◌*◌, ◌/◌, ◌%◌, ◌^◌, ◌⊎◌, inl, inr, List, [], ◌∷◌, length, get_or, set, Bool, true, false, refl, sym, ap, subst, ◌∙◌, arith}
use Rattle.std.specs.Prelude.{◌==◌, ◌&&◌, ◌||◌, not, IsTrue, if◌then◌else◌, slice_index, slice_index_or, bit_and, bit_or, Contains}
use Rattle.std.specs.Int.{bit_at}
use Rattle.std.specs.Int.Bits.{or_zero_l}
use Rattle.std.proofs.lemmas.Bool.{eqb-true, eqb-false}
use Rattle.std.proofs.lemmas.Bool.Decides.{nat_tests}
use Rattle.std.proofs.lemmas.List.{length-set, get_or-set_same, get_or-set_other}
use Rattle.std.proofs.lemmas.Nat.{or_comm, le_or_l, le_or_r}
use Rattle.std.proofs.lemmas.Nat.Bits.{bit_at-zero, bit_at_and, bit_at_or, bit_at-pow_same, bit_at-lt}
use Rattle.stm_logs.specs.Filters.{part_bit, address_word, filter_word, with_bit, Has, word_meets, part_meets, meets, lowest_from, lowest_common}

-- the bits of an address, part by part
part_bit-0 : (a : ℕ) → part_bit 0 a ≡ a % 256
unfolding part_bit
part_bit-0 a = refl

part_bit-1 : (a : ℕ) → part_bit 1 a ≡ a / 256 % 256
unfolding part_bit
part_bit-1 a = refl

part_bit-2 : (a : ℕ) → part_bit 2 a ≡ a * 2654435761 % 4294967296 / 16777216
unfolding part_bit
part_bit-2 a = refl

part_bit-3 : (a : ℕ) → part_bit 3 a ≡ a * 2246822519 % 4294967296 / 16777216
unfolding part_bit
part_bit-3 a = refl

part_bit-below : (p a : ℕ) → part_bit p a < 256
unfolding part_bit
part_bit-below zero a = omega arith
part_bit-below (suc zero) a = omega arith
part_bit-below (suc (suc zero)) a = let h : a * 2654435761 % 4294967296 < 4294967296 = omega arith in omega arith
part_bit-below (suc (suc (suc p))) a = let h : a * 2246822519 % 4294967296 < 4294967296 = omega arith in omega arith

-- tests
same-test : (x y u v : ℕ) → (x ≡ y → u ≡ v) → (u ≡ v → x ≡ y) → (x == y) ≡ (u == v)
same-test x y u v f g = by (x == y) (u == v) refl refl
  where
    by : (s t : Bool) → (x == y) ≡ s → (u == v) ≡ t → s ≡ t
    by true true h j = refl
    by false false h j = refl
    by true false h j = absurd (eqb-false u v j (f (eqb-true x y h)))
    by false true h j = absurd (eqb-false x y h (g (eqb-true u v j)))

zero-test : (x : ℕ) → x ≢ 0 → (x == 0) ≡ false
zero-test x n = by (x == 0) refl
  where
    by : (t : Bool) → (x == 0) ≡ t → t ≡ false
    by true e = absurd (n (eqb-true x 0 e))
    by false e = refl

nonzero-test : (x : ℕ) → x ≢ 0 → IsTrue (not (x == 0))
nonzero-test x n = rw (zero-test x n) refl

test-nonzero : (x : ℕ) → IsTrue (not (x == 0)) → x ≢ 0
test-nonzero x h e = by (x == 0) refl h
  where
    by : (t : Bool) → (x == 0) ≡ t → IsTrue (not t) → ⊥
    by true f h = absurd cc
    by false f h = eqb-false x 0 f e

-- what bit b of part p is in word i
abbrev bit_in : ℕ → ℕ → ℕ → ℕ
bit_in p b i = if i == 4 * p + b / 64 then 2 ^ (b % 64) else 0

bit_in-here : (b i : ℕ) → bit_in (i / 4) b i ≡ (if b / 64 == i % 4 then 2 ^ (b % 64) else 0)
bit_in-here b i = ap (λ (t : Bool). if t then 2 ^ (b % 64) else 0) (same-test i (4 * (i / 4) + b / 64) (b / 64) (i % 4) (λ e. omega arith) (λ e. omega arith))

bit_in-other : (p b i : ℕ) → b < 256 → i / 4 ≢ p → bit_in p b i ≡ 0
bit_in-other p b i l n = by (i == 4 * p + b / 64) refl
  where
    by : (t : Bool) → (i == 4 * p + b / 64) ≡ t → (if t then 2 ^ (b % 64) else 0) ≡ 0
    by true e = absurd (n (let same : i ≡ 4 * p + b / 64 = eqb-true i (4 * p + b / 64) e in omega arith))
    by false e = refl

own-part : (a p i : ℕ) → i / 4 ≡ p → bit_in p (part_bit p a) i ≡ address_word a i
own-part a p i e = subst (λ q. bit_in q (part_bit q a) i ≡ address_word a i) e (bit_in-here (part_bit (i / 4) a) i)

other-part : (a p i : ℕ) → i / 4 ≢ p → bit_in p (part_bit p a) i ≡ 0
other-part a p i n = bit_in-other p (part_bit p a) i (part_bit-below p a) n

with_bit-word : (p b i : ℕ) (ws : List ℕ) → 4 * p + b / 64 < length ws → slice_index (with_bit p b ws) i ≡ bit_or (bit_in p b i) (slice_index ws i)
with_bit-word p b i ws l = by (i == 4 * p + b / 64) refl
  where
    j : ℕ
    j = 4 * p + b / 64

    new : ℕ
    new = bit_or (slice_index ws j) (2 ^ (b % 64))

    by : (t : Bool) → (i == 4 * p + b / 64) ≡ t → slice_index (with_bit p b ws) i ≡ bit_or (if t then 2 ^ (b % 64) else 0) (slice_index ws i)
    by true e =
        let same : i ≡ j = eqb-true i j e in
        ap (λ k. get_or (set ws j new) k 0) same ∙ (get_or-set_same ws j new 0 l ∙ (or_comm (slice_index ws j) (2 ^ (b % 64)) ∙ ap (λ k. bit_or (2 ^ (b % 64)) (slice_index ws k)) (sym same)))
    by false e = get_or-set_other ws j i new 0 (eqb-false i j e) ∙ sym (or_zero_l (slice_index ws i))

with_bit-length : (p b : ℕ) (ws : List ℕ) → length (with_bit p b ws) ≡ length ws
with_bit-length p b ws = length-set ws (4 * p + b / 64) (bit_or (slice_index ws (4 * p + b / 64)) (2 ^ (b % 64)))

-- the words with the address's four bits set
abbrev pub with_bits : ℕ → List ℕ → List ℕ
with_bits a ws = with_bit 3 (part_bit 3 a) (with_bit 2 (part_bit 2 a) (with_bit 1 (part_bit 1 a) (with_bit 0 (part_bit 0 a) ws)))

-- of the four bits, the one of the word's own part alone is in it
one-of-four : (a i w : ℕ) → i < 16 → bit_or (bit_in 3 (part_bit 3 a) i) (bit_or (bit_in 2 (part_bit 2 a) i) (bit_or (bit_in 1 (part_bit 1 a) i) (bit_or (bit_in 0 (part_bit 0 a) i) w))) ≡ bit_or (address_word a i) w
one-of-four a i w l = which (i / 4) refl
  where
    which : (q : ℕ) → i / 4 ≡ q → bit_or (bit_in 3 (part_bit 3 a) i) (bit_or (bit_in 2 (part_bit 2 a) i) (bit_or (bit_in 1 (part_bit 1 a) i) (bit_or (bit_in 0 (part_bit 0 a) i) w))) ≡ bit_or (address_word a i) w
    which zero e = rw (other-part a 3 i (omega arith), other-part a 2 i (omega arith), other-part a 1 i (omega arith), own-part a 0 i e) (or_zero_l _ ∙ (or_zero_l _ ∙ or_zero_l _))
    which (suc zero) e = rw (other-part a 3 i (omega arith), other-part a 2 i (omega arith), other-part a 0 i (omega arith), own-part a 1 i e) (or_zero_l _ ∙ (or_zero_l _ ∙ ap (bit_or (address_word a i)) (or_zero_l w)))
    which (suc (suc zero)) e =
        rw (other-part a 3 i (omega arith), other-part a 1 i (omega arith), other-part a 0 i (omega arith), own-part a 2 i e)
        (or_zero_l _ ∙ ap (bit_or (address_word a i)) (or_zero_l _ ∙ or_zero_l w))
    which (suc (suc (suc zero))) e =
        rw (other-part a 2 i (omega arith), other-part a 1 i (omega arith), other-part a 0 i (omega arith), own-part a 3 i e)
        (ap (bit_or (address_word a i)) (or_zero_l _ ∙ (or_zero_l _ ∙ or_zero_l w)))
    which (suc (suc (suc (suc q)))) e = absurd (omega arith)

-- words to which an address's bits were added
abbrev pub Adds : ℕ → (ℕ → ℕ) → (ℕ → ℕ) → Type 0
Adds a f g = (i : ℕ) → i < 16 → g i ≡ bit_or (address_word a i) (f i)

with_bits-word : (a : ℕ) (ws : List ℕ) → length ws ≡ 16 → Adds a (slice_index ws) (slice_index (with_bits a ws))
with_bits-word a ws n i l =
    let w1 = with_bit 0 (part_bit 0 a) ws in
    let n1 : length w1 ≡ 16 = with_bit-length 0 (part_bit 0 a) ws ∙ n in
    let w2 = with_bit 1 (part_bit 1 a) w1 in
    let n2 : length w2 ≡ 16 = with_bit-length 1 (part_bit 1 a) w1 ∙ n1 in
    let w3 = with_bit 2 (part_bit 2 a) w2 in
    let n3 : length w3 ≡ 16 = with_bit-length 2 (part_bit 2 a) w2 ∙ n2 in
    let e0 = with_bit-word 0 (part_bit 0 a) i ws (omega (arith, part_bit-below 0 a)) in
    let e1 = with_bit-word 1 (part_bit 1 a) i w1 (omega (arith, part_bit-below 1 a)) in
    let e2 = with_bit-word 2 (part_bit 2 a) i w2 (omega (arith, part_bit-below 2 a)) in
    let e3 = with_bit-word 3 (part_bit 3 a) i w3 (omega (arith, part_bit-below 3 a)) in
    e3 ∙ (ap (bit_or (bit_in 3 (part_bit 3 a) i)) (e2 ∙ ap (bit_or (bit_in 2 (part_bit 2 a) i)) (e1 ∙ ap (bit_or (bit_in 1 (part_bit 1 a) i)) e0)) ∙ one-of-four a i (slice_index ws i) l)

-- the same of the four writes one after the other
pub adds-bits : (a b c : ℕ) (ws w1 w2 w3 w4 : List ℕ) → length ws ≡ 16 → w1 ≡ with_bit 0 (a % 256) ws → w2 ≡ with_bit 1 (a / 256 % 256) w1
    → b ≡ a * 2654435761 % 4294967296 / 16777216 → w3 ≡ with_bit 2 b w2 → c ≡ a * 2246822519 % 4294967296 / 16777216 → w4 ≡ with_bit 3 c w3
    → Adds a (slice_index ws) (slice_index w4)
adds-bits a b c ws w1 w2 w3 w4 n e1 e2 eb e3 ec e4 = λ i l. ap (λ (w : List ℕ). slice_index w i) is ∙ with_bits-word a ws n i l
  where
    is : w4 ≡ with_bits a ws
    is = rw (part_bit-0 a, part_bit-1 a, part_bit-2 a, part_bit-3 a, ← e1, ← e2, ← eb, ← e3, ← ec, ← e4) refl

-- bits of words
or-left : (x y k : ℕ) → bit_at x k ≡ 1 → bit_at (bit_or x y) k ≡ 1
or-left x y k h = bit_at_or x y k ∙ (let l : bit_at y k < 2 = bit_at-lt y k in omega arith)

or-right : (x y k : ℕ) → bit_at y k ≡ 1 → bit_at (bit_or x y) k ≡ 1
or-right x y k h = bit_at_or x y k ∙ (let l : bit_at x k < 2 = bit_at-lt x k in omega arith)

common-bit : (x y k : ℕ) → bit_at x k ≡ 1 → bit_at y k ≡ 1 → IsTrue (not (bit_and x y == 0))
common-bit x y k h j = nonzero-test (bit_and x y) (λ e. absurd (omega (arith, sym both ∙ (ap (λ z. bit_at z k) e ∙ bit_at-zero k))))
  where
    both : bit_at (bit_and x y) k ≡ 1
    both = bit_at_and x y k ∙ omega arith

-- an address sets its bit of each part
sets : (a p : ℕ) → bit_at (address_word a (4 * p + part_bit p a / 64)) (part_bit p a % 64) ≡ 1
sets a p =
    let i = 4 * p + part_bit p a / 64 in
    let part : i / 4 ≡ p = omega (arith, part_bit-below p a) in
    let self : (i == 4 * p + part_bit p a / 64) ≡ true = same-self i in
    ap (λ x. bit_at x (part_bit p a % 64)) (sym (own-part a p i part) ∙ ap (λ (t : Bool). if t then 2 ^ (part_bit p a % 64) else 0) self) ∙ bit_at-pow_same (part_bit p a % 64)
  where
    same-self : (n : ℕ) → (n == n) ≡ true
    same-self n = grind (arith, nat_tests)

pub has-added : (a : ℕ) (f g : ℕ → ℕ) → Adds a f g → Has a g
has-added a f g h = λ p l.
    let i = 4 * p + part_bit p a / 64 in
    ap (λ x. bit_at x (part_bit p a % 64)) (h i (omega (arith, part_bit-below p a))) ∙ or-left (address_word a i) (f i) (part_bit p a % 64) (sets a p)

pub has-stays : (a b : ℕ) (f g : ℕ → ℕ) → Adds a f g → Has b f → Has b g
has-stays a b f g h s = λ p l.
    let i = 4 * p + part_bit p b / 64 in
    ap (λ x. bit_at x (part_bit p b % 64)) (h i (omega (arith, part_bit-below p b))) ∙ or-right (address_word a i) (f i) (part_bit p b % 64) (s p l)

has-listed : (a : ℕ) (xs : List ℕ) (k : ℕ) → k < length xs → slice_index_or xs k a ≡ a → Has a (filter_word xs)
has-listed a [] k l e = absurd (omega arith)
has-listed a (x ∷ xs) zero l e = has-added a (filter_word xs) (filter_word (x ∷ xs)) (λ i m. ap (λ y. bit_or (address_word y i) (filter_word xs i)) e)
has-listed a (x ∷ xs) (suc k) l e = has-stays x a (filter_word xs) (filter_word (x ∷ xs)) (λ i m. refl) (has-listed a xs k (omega arith) e)

pub filter-has : (a : ℕ) (xs : List ℕ) → Contains xs a → Has a (filter_word xs)
filter-has a xs c = has-listed a xs c.0 c.1 c.2

-- filters that both have an address
true-first : (p q : Bool) → IsTrue p → IsTrue (p || q)
true-first true q h = h
true-first false q h = absurd cc

true-second : (p q : Bool) → IsTrue q → IsTrue (p || q)
true-second true q h = refl
true-second false q h = h

both-true : (p q : Bool) → IsTrue p → IsTrue q → IsTrue (p && q)
both-true true q h j = j
both-true false q h j = h

word-in-part : (f g : ℕ → ℕ) (p n : ℕ) → n < 4 → IsTrue (word_meets f g (4 * p + n)) → IsTrue (part_meets f g p)
word-in-part f g p n l h = which n l h
  where
    at : ℕ → Bool
    at i = word_meets f g i

    which : (n : ℕ) → n < 4 → IsTrue (word_meets f g (4 * p + n)) → IsTrue (part_meets f g p)
    which zero l h = true-first (at (4 * p)) _ (subst (λ i. IsTrue (word_meets f g i)) (omega arith) h)
    which (suc zero) l h = true-second (at (4 * p)) _ (true-first (at (4 * p + 1)) _ h)
    which (suc (suc zero)) l h = true-second (at (4 * p)) _ (true-second (at (4 * p + 1)) _ (true-first (at (4 * p + 2)) _ h))
    which (suc (suc (suc zero))) l h = true-second (at (4 * p)) _ (true-second (at (4 * p + 1)) _ (true-second (at (4 * p + 2)) _ h))
    which (suc (suc (suc (suc n)))) l h = absurd (omega arith)

pub shared-meet : (a : ℕ) (f g : ℕ → ℕ) → Has a f → Has a g → IsTrue (meets f g)
shared-meet a f g h j = both-true _ _ (part 0 (omega arith)) (both-true _ _ (part 1 (omega arith)) (both-true _ _ (part 2 (omega arith)) (part 3 (omega arith))))
  where
    part : (p : ℕ) → p < 4 → IsTrue (part_meets f g p)
    part p l = word-in-part f g p (part_bit p a / 64) (omega (arith, part_bit-below p a)) (common-bit _ _ (part_bit p a % 64) (h p l) (j p l))

-- one test of four words in place of four
four-words : (a b c d : ℕ) → not (bit_or (bit_or a b) (bit_or c d) == 0) ≡ (not (a == 0) || (not (b == 0) || (not (c == 0) || not (d == 0))))
four-words a b c d = by (a == 0) (b == 0) (c == 0) (d == 0) refl refl refl refl
  where
    all : ℕ
    all = bit_or (bit_or a b) (bit_or c d)

    low : bit_or a b ≤ all
    low = le_or_l (bit_or a b) (bit_or c d)

    high : bit_or c d ≤ all
    high = le_or_r (bit_or a b) (bit_or c d)

    by : (w x y z : Bool) → (a == 0) ≡ w → (b == 0) ≡ x → (c == 0) ≡ y → (d == 0) ≡ z → not (all == 0) ≡ (not w || (not x || (not y || not z)))
    by false x y z p q r s = ap not (zero-test all (λ e. eqb-false a 0 p (omega (arith, low, le_or_l a b))))
    by true false y z p q r s = ap not (zero-test all (λ e. eqb-false b 0 q (omega (arith, low, le_or_r a b))))
    by true true false z p q r s = ap not (zero-test all (λ e. eqb-false c 0 r (omega (arith, high, le_or_l c d))))
    by true true true false p q r s = ap not (zero-test all (λ e. eqb-false d 0 s (omega (arith, high, le_or_r c d))))
    by true true true true p q r s = rw (eqb-true a 0 p, eqb-true b 0 q, eqb-true c 0 r, eqb-true d 0 s) refl

pub part-test : (f g : ℕ → ℕ) (p : ℕ)
    → not (bit_or (bit_or (bit_and (f (4 * p)) (g (4 * p))) (bit_and (f (4 * p + 1)) (g (4 * p + 1))))
    (bit_or (bit_and (f (4 * p + 2)) (g (4 * p + 2))) (bit_and (f (4 * p + 3)) (g (4 * p + 3)))) == 0) ≡ part_meets f g p
part-test f g p = four-words (bit_and (f (4 * p)) (g (4 * p))) (bit_and (f (4 * p + 1)) (g (4 * p + 1))) (bit_and (f (4 * p + 2)) (g (4 * p + 2))) (bit_and (f (4 * p + 3)) (g (4 * p + 3)))

-- the lowest word with common bits
pub lowest-next : (f g : ℕ → ℕ) (i : ℕ) → i < 16 → bit_and (f i) (g i) ≡ 0 → lowest_from f g i (16 - i) ≡ lowest_from f g (i + 1) (16 - (i + 1))
unfolding lowest_from
lowest-next f g i l e =
    let n : 16 - i ≡ suc (16 - (i + 1)) = omega arith in
    rw (n, e) refl

pub lowest-here : (f g : ℕ → ℕ) (i : ℕ) → i < 16 → bit_and (f i) (g i) ≢ 0 → lowest_from f g i (16 - i) ≡ bit_and (f i) (g i)
unfolding lowest_from
lowest-here f g i l h =
    let n : 16 - i ≡ suc (16 - (i + 1)) = omega arith in
    rw (n, zero-test _ h) refl

pub lowest-none : (f g : ℕ → ℕ) (i : ℕ) → 16 ≤ i → lowest_from f g i (16 - i) ≡ 0
unfolding lowest_from
lowest-none f g i l =
    let n : 16 - i ≡ 0 = omega arith in
    rw n refl

some-lowest : (f g : ℕ → ℕ) (n i k : ℕ) → k < n → bit_and (f (i + k)) (g (i + k)) ≢ 0 → lowest_from f g i n ≢ 0
unfolding lowest_from
some-lowest f g zero i k l h = absurd (omega arith)
some-lowest f g (suc n) i zero l h =
    let here : bit_and (f i) (g i) ≢ 0 = subst (λ j. bit_and (f j) (g j) ≢ 0) (omega arith) h in
    rw (zero-test _ here) here
some-lowest f g (suc n) i (suc k) l h =
    by (bit_and (f i) (g i) == 0) refl (some-lowest f g n (i + 1) k (omega arith) (subst (λ j. bit_and (f j) (g j) ≢ 0) (omega arith) h))
  where
    by : (t : Bool) → (bit_and (f i) (g i) == 0) ≡ t → lowest_from f g (i + 1) n ≢ 0 → (if t then lowest_from f g (i + 1) n else bit_and (f i) (g i)) ≢ 0
    by true e r = r
    by false e r = eqb-false _ 0 e

either : (p q : Bool) → IsTrue (p || q) → IsTrue p ⊎ IsTrue q
either true q h = inl h
either false q h = inr h

and-first : (p q : Bool) → IsTrue (p && q) → IsTrue p
and-first true q h = refl
and-first false q h = h

pub meets-lowest : (f g : ℕ → ℕ) → IsTrue (meets f g) → lowest_common f g ≢ 0
meets-lowest f g h = first (and-first (part_meets f g 0) _ h)
  where
    word : (k : ℕ) → k < 4 → IsTrue (word_meets f g k) → lowest_common f g ≢ 0
    word k l m = some-lowest f g 16 0 k (omega arith) (subst (λ j. bit_and (f j) (g j) ≢ 0) (omega arith) (test-nonzero (bit_and (f k) (g k)) m))

    first : IsTrue (part_meets f g 0) → lowest_common f g ≢ 0
    first m = elim (either (word_meets f g 0) _ m) [
      | inl a ↦ word 0 (omega arith) a
      | inr r ↦ elim (either (word_meets f g 1) _ r) [
        | inl b ↦ word 1 (omega arith) b
        | inr q ↦ elim (either (word_meets f g 2) _ q) [ inl c ↦ word 2 (omega arith) c | inr d ↦ word 3 (omega arith) d ]
      ]
    ]
