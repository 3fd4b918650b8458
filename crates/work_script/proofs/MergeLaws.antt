-- Ordered rows with the same numbers in them have them in the same order.
use Rattle.std.proofs.Common.{ℕ, ◌≡◌, ◌≢◌, ◌<◌, ◌≤◌, ◌+◌, List, [], ◌∷◌, Bool, true, false, refl, sym, ap, ◌∙◌, arith, inl, inr}
use Rattle.std.specs.Prelude.{◌==◌, ◌⊎◌, ltb, if◌then◌else◌, sum_by, map}
use Rattle.std.proofs.lemmas.Bool.Decides.{nat_tests}
use Rattle.std.proofs.lemmas.List.Sums.{sum_by-cons}
use Rattle.stm_model.specs.Histories.{Entry, Ascending}
use Rattle.work_script.specs.declared.report.Row.{Row}
use Rattle.work_script.specs.declared.report.Kind.{Kind}
use Rattle.work_script.specs.declared.report.Kind.TheVariants.{W, R, C}
use Rattle.work_script.specs.Reports.{Ordered, AllAfter, IsBefore, rank, code, writer_to, writers_by, rows_of}

-- the order of pairs, by the first number and then the second
abbrev pub Less : ℕ × ℕ → ℕ × ℕ → Type 0
Less x y = (x.0 < y.0) ⊎ ((x.0 ≡ y.0) × (x.1 < y.1))

abbrev pub AtMost : ℕ × ℕ → ℕ × ℕ → Type 0
AtMost x y = (x.0 < y.0) ⊎ ((x.0 ≡ y.0) × (x.1 ≤ y.1))

abbrev pub AllFrom : ℕ × ℕ → List (ℕ × ℕ) → Type 0
AllFrom p [] = Unit {0}
AllFrom p (x ∷ xs) = AtMost p x × AllFrom p xs

abbrev pub Rising : List (ℕ × ℕ) → Type 0
Rising [] = Unit {0}
Rising (x ∷ xs) = AllFrom x xs × Rising xs

abbrev pub one_at : ℕ × ℕ → ℕ × ℕ → ℕ
one_at t x = if x.0 == t.0 then (if x.1 == t.1 then 1 else 0) else 0

-- how often t is in the list
abbrev pub count : ℕ × ℕ → List (ℕ × ℕ) → ℕ
count t [] = 0
count t (x ∷ xs) = one_at t x + count t xs

test-same : (a : ℕ) → (a == a) ≡ true
test-same a = grind (arith, nat_tests)

test-other : (a b : ℕ) → a ≢ b → (a == b) ≡ false
test-other a b n = grind (arith, nat_tests)

one_at-same : (t : ℕ × ℕ) → one_at t t ≡ 1
one_at-same t = rw (test-same t.0, test-same t.1) refl

second-other : (b c : Bool) → c ≡ false → (let n : ℕ = (if b then (if c then 1 else 0) else 0) in n ≡ 0)
second-other true true e = absurd cc
second-other true false e = refl
second-other false c e = refl

one_at-less : (t x : ℕ × ℕ) → Less t x → one_at t x ≡ 0
one_at-less t x (inl h) = rw (test-other x.0 t.0 (λ e. absurd (omega arith))) refl
one_at-less t x (inr h) = second-other (x.0 == t.0) (x.1 == t.1) (test-other x.1 t.1 (λ e. let k = h.1 in absurd (omega arith)))

less-at_most : (t p x : ℕ × ℕ) → Less t p → AtMost p x → Less t x
less-at_most t p x (inl h) (inl k) = inl (omega arith)
less-at_most t p x (inl h) (inr k) = inl (let e = k.0 in omega arith)
less-at_most t p x (inr h) (inl k) = inl (let e = h.0 in omega arith)
less-at_most t p x (inr h) (inr k) = inr (h.0 ∙ k.0, let a = h.1 in let b = k.1 in omega arith)

-- what is below all of a list isn't in it
count-below : (t p : ℕ × ℕ) (xs : List (ℕ × ℕ)) → Less t p → AllFrom p xs → count t xs ≡ 0
count-below t p [] lt h = refl
count-below t p (x ∷ xs) lt h =
    let one = one_at-less t x (less-at_most t p x lt h.0) in
    let rest = count-below t p xs lt h.1 in omega arith

nat-compared-by : (a b : ℕ) (t u : Bool) → ltb a b ≡ t → ltb b a ≡ u → (a < b) ⊎ ((b < a) ⊎ (a ≡ b))
nat-compared-by a b true u e f = inl (grind (arith, nat_tests))
nat-compared-by a b false true e f = inr (inl (grind (arith, nat_tests)))
nat-compared-by a b false false e f = inr (inr (grind (arith, nat_tests)))

nat-compared : (a b : ℕ) → (a < b) ⊎ ((b < a) ⊎ (a ≡ b))
nat-compared a b = nat-compared-by a b (ltb a b) (ltb b a) refl refl

pair-same : (a b c d : ℕ) → a ≡ b → c ≡ d → (let x : ℕ × ℕ = (a, c) in let y : ℕ × ℕ = (b, d) in x ≡ y)
pair-same a b c d e f = ap (λ u. let x : ℕ × ℕ = (u, c) in x) e ∙ ap (λ v. let x : ℕ × ℕ = (b, v) in x) f

compared-second : (x y : ℕ × ℕ) → x.0 ≡ y.0 → (x.1 < y.1) ⊎ ((y.1 < x.1) ⊎ (x.1 ≡ y.1)) → Less x y ⊎ (Less y x ⊎ (x ≡ y))
compared-second x y e (inl h) = inl (inr (e, h))
compared-second x y e (inr (inl h)) = inr (inl (inr (sym e, h)))
compared-second x y e (inr (inr h)) = inr (inr (pair-same x.0 y.0 x.1 y.1 e h))

compared-by : (x y : ℕ × ℕ) → (x.0 < y.0) ⊎ ((y.0 < x.0) ⊎ (x.0 ≡ y.0)) → Less x y ⊎ (Less y x ⊎ (x ≡ y))
compared-by x y (inl h) = inl (inl h)
compared-by x y (inr (inl h)) = inr (inl (inl h))
compared-by x y (inr (inr h)) = compared-second x y h (nat-compared x.1 y.1)

compared : (x y : ℕ × ℕ) → Less x y ⊎ (Less y x ⊎ (x ≡ y))
compared x y = compared-by x y (nat-compared x.0 y.0)

same-head : (x y : ℕ × ℕ) (xs ys : List (ℕ × ℕ)) → AllFrom x xs → AllFrom y ys → ((t : ℕ × ℕ) → one_at t x + count t xs ≡ one_at t y + count t ys) → Less x y ⊎ (Less y x ⊎ (x ≡ y)) → x ≡ y
same-head x y xs ys fx fy h (inl lt) =
    let k = h x in let one = one_at-same x in let none = one_at-less x y lt in let rest = count-below x y ys lt fy in absurd (omega arith)
same-head x y xs ys fx fy h (inr (inl lt)) =
    let k = h y in let one = one_at-same y in let none = one_at-less y x lt in let rest = count-below y x xs lt fx in absurd (omega arith)
same-head x y xs ys fx fy h (inr (inr e)) = e

-- rising lists with the same counts are one
pub same_rising : (xs ys : List (ℕ × ℕ)) → Rising xs → Rising ys → ((t : ℕ × ℕ) → count t xs ≡ count t ys) → xs ≡ ys
same_rising [] [] up vp h = refl
same_rising [] (y ∷ ys) up vp h = let k = h y in let one = one_at-same y in absurd (omega arith)
same_rising (x ∷ xs) [] up vp h = let k = h x in let one = one_at-same x in absurd (omega arith)
same_rising (x ∷ xs) (y ∷ ys) up vp h =
    let same : x ≡ y = same-head x y xs ys up.0 vp.0 h (compared x y) in
    let rest : xs ≡ ys = same_rising xs ys up.1 vp.1 (λ t. let k = h t in let z = ap (one_at t) same in omega arith) in
    ap (λ u. u ∷ xs) same ∙ ap (λ l. y ∷ l) rest

-- how often a row writes at the time t.0 for the caller t.1
abbrev pub weigh : ℕ × ℕ → Kind → ℕ × ℕ → ℕ
weigh t W x = one_at t x
weigh t R x = 0
weigh t C x = 0

count-writer : (t : ℕ × ℕ) (k : Kind) (x : ℕ × ℕ) (xs : List (ℕ × ℕ)) → count t (writer_to k x xs) ≡ weigh t k x + count t xs
count-writer t W x xs = refl
count-writer t R x xs = omega arith
count-writer t C x xs = omega arith

abbrev pub row_weight : ℕ × ℕ → Row → ℕ
row_weight t r = weigh t r.kind (r.place, r.caller)

pub count-writers : (t : ℕ × ℕ) (rows : List Row) → count t (writers_by rows) ≡ sum_by (row_weight t) rows
count-writers t [] = refl
count-writers t (r ∷ rs) =
    count-writer t r.kind (r.place, r.caller) (writers_by rs) ∙ (ap (λ n. row_weight t r + n) (count-writers t rs) ∙ sym (sum_by-cons (row_weight t) r rs))

-- time and caller of an entry
abbrev pub stamp : Entry → ℕ × ℕ
stamp e = (e.time, e.caller)

abbrev pub stamps : List Entry → List (ℕ × ℕ)
stamps es = map (λ (e : Entry). (e.time, e.caller)) es

abbrev pub entry_weight : ℕ × ℕ → Entry → ℕ
entry_weight t e = one_at t (e.time, e.caller)

pub count-stamps : (t : ℕ × ℕ) (es : List Entry) → count t (stamps es) ≡ sum_by (entry_weight t) es
count-stamps t [] = refl
count-stamps t (e ∷ es) = ap (λ n. entry_weight t e + n) (count-stamps t es) ∙ sym (sum_by-cons (entry_weight t) e es)

-- the W rows of ordered rows rise
before-both : (r x : Row) → code r.kind ≡ 0 → code x.kind ≡ 0 → IsBefore r x → (let a : ℕ × ℕ = (r.place, r.caller) in let b : ℕ × ℕ = (x.place, x.caller) in AtMost a b)
before-both r x rw xw (inl h) = inl (omega arith)
before-both r x rw xw (inr (e, inl h)) = inr (omega arith, omega arith)
before-both r x rw xw (inr (e, inr h)) = inr (omega arith, let s = h.0 in omega arith)

from-cons : (r x : Row) (k : Kind) (xs : List (ℕ × ℕ)) → x.kind ≡ k → code r.kind ≡ 0 → IsBefore r x → AllFrom (r.place, r.caller) xs → AllFrom (r.place, r.caller) (writer_to k (x.place, x.caller) xs)
from-cons r x W xs is w b h = (before-both r x w (ap code is) b, h)
from-cons r x R xs is w b h = h
from-cons r x C xs is w b h = h

from-rows : (r : Row) (rs : List Row) → code r.kind ≡ 0 → AllAfter r rs → AllFrom (r.place, r.caller) (writers_by rs)
from-rows r [] w h = tt
from-rows r (x ∷ rs) w h = from-cons r x x.kind (writers_by rs) refl w h.0 (from-rows r rs w h.1)

rising-cons : (r : Row) (k : Kind) (rs : List Row) → r.kind ≡ k → AllAfter r rs → Rising (writers_by rs) → Rising (writer_to k (r.place, r.caller) (writers_by rs))
rising-cons r W rs is h up = (from-rows r rs (ap code is) h, up)
rising-cons r R rs is h up = up
rising-cons r C rs is h up = up

pub rising-writers : (rs : List Row) → Ordered rs → Rising (writers_by rs)
rising-writers [] h = tt
rising-writers (r ∷ rs) h = rising-cons r r.kind rs refl h.0 (rising-writers rs h.1)

from-entries : (p : ℕ × ℕ) (floor : ℕ) (es : List Entry) → p.0 ≤ floor → Ascending floor es → AllFrom p (stamps es)
from-entries p floor [] le asc = tt
from-entries p floor (e ∷ es) le asc = let low = asc.0 in (inl (omega arith), from-entries p e.time es (omega arith) asc.1)

pub rising-stamps : (floor : ℕ) (es : List Entry) → Ascending floor es → Rising (stamps es)
rising-stamps floor [] asc = tt
rising-stamps floor (e ∷ es) asc = (from-entries (stamp e) e.time es (omega arith) asc.1, rising-stamps e.time es asc.1)

-- rank and seq of the rows of one caller
abbrev pub keys : List Row → List (ℕ × ℕ)
keys rows = map (λ (r : Row). (rank r, r.seq)) rows

abbrev pub Mine : ℕ → List Row → Type 0
Mine n [] = Unit {0}
Mine n (r ∷ rs) = (r.caller ≡ n) × Mine n rs

before-keys : (n : ℕ) (r x : Row) → r.caller ≡ n → x.caller ≡ n → IsBefore r x → (let a : ℕ × ℕ = (rank r, r.seq) in let b : ℕ × ℕ = (rank x, x.seq) in AtMost a b)
before-keys n r x rn xn (inl h) = inl h
before-keys n r x rn xn (inr (e, inl h)) = absurd (omega arith)
before-keys n r x rn xn (inr (e, inr h)) = inr (e, h.1)

from-keys : (n : ℕ) (r : Row) (rs : List Row) → r.caller ≡ n → Mine n rs → AllAfter r rs → AllFrom (rank r, r.seq) (keys rs)
from-keys n r [] rn mine h = tt
from-keys n r (x ∷ rs) rn mine h = (before-keys n r x rn mine.0 h.0, from-keys n r rs rn mine.1 h.1)

pub rising-keys : (n : ℕ) (rs : List Row) → Mine n rs → Ordered rs → Rising (keys rs)
rising-keys n [] mine h = tt
rising-keys n (r ∷ rs) mine h = (from-keys n r rs mine.0 mine.1 h.0, rising-keys n rs mine.1 h.1)

-- the rows of one caller
mine-by : (n : ℕ) (r : Row) (rs : List Row) (b : Bool) → (r.caller == n) ≡ b → Mine n (rows_of n rs) → Mine n (if b then r ∷ rows_of n rs else rows_of n rs)
mine-by n r rs true e h = (grind (arith, nat_tests), h)
mine-by n r rs false e h = h

pub mine-rows_of : (n : ℕ) (rs : List Row) → Mine n (rows_of n rs)
mine-rows_of n [] = tt
mine-rows_of n (r ∷ rs) = mine-by n r rs (r.caller == n) refl (mine-rows_of n rs)

after-by : (n : ℕ) (r x : Row) (rs : List Row) (b : Bool) → IsBefore r x → AllAfter r (rows_of n rs) → AllAfter r (if b then x ∷ rows_of n rs else rows_of n rs)
after-by n r x rs true one h = (one, h)
after-by n r x rs false one h = h

after-rows_of : (n : ℕ) (r : Row) (rs : List Row) → AllAfter r rs → AllAfter r (rows_of n rs)
after-rows_of n r [] h = tt
after-rows_of n r (x ∷ rs) h = after-by n r x rs (x.caller == n) h.0 (after-rows_of n r rs h.1)

ordered-by : (n : ℕ) (r : Row) (rs : List Row) (b : Bool) → AllAfter r (rows_of n rs) → Ordered (rows_of n rs) → Ordered (if b then r ∷ rows_of n rs else rows_of n rs)
ordered-by n r rs true one h = (one, h)
ordered-by n r rs false one h = h

pub ordered-rows_of : (n : ℕ) (rs : List Row) → Ordered rs → Ordered (rows_of n rs)
ordered-rows_of n [] h = tt
ordered-rows_of n (r ∷ rs) h = ordered-by n r rs (r.caller == n) (after-rows_of n r rs h.0) (ordered-rows_of n rs h.1)

abbrev pub key_weight : ℕ → ℕ × ℕ → Row → ℕ
key_weight n t r = if r.caller == n then one_at t (rank r, r.seq) else 0

count-keys-by : (n : ℕ) (t : ℕ × ℕ) (r : Row) (rs : List Row) (b : Bool) → count t (keys (if b then r ∷ rows_of n rs else rows_of n rs)) ≡ (if b then one_at t (rank r, r.seq) else 0) + count t (keys (rows_of n rs))
count-keys-by n t r rs true = refl
count-keys-by n t r rs false = omega arith

pub count-keys : (n : ℕ) (t : ℕ × ℕ) (rs : List Row) → count t (keys (rows_of n rs)) ≡ sum_by (key_weight n t) rs
count-keys n t [] = refl
count-keys n t (r ∷ rs) =
    count-keys-by n t r rs (r.caller == n) ∙ (ap (λ k. key_weight n t r + k) (count-keys n t rs) ∙ sym (sum_by-cons (key_weight n t) r rs))

pub seqs-keys : (rows : List Row) → map (λ (r : Row). r.seq) rows ≡ map (λ (x : ℕ × ℕ). x.1) (keys rows)
seqs-keys [] = refl
seqs-keys (r ∷ rs) = ap (λ l. r.seq ∷ l) (seqs-keys rs)
