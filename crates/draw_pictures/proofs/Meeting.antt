-- Parts whose lines meet.
use Rattle.std.proofs.Common.{ℕ, ◌≡◌, ◌≤◌, ◌<◌, ◌+◌, List, [], ◌∷◌, ◌++◌, Bool, true, false, refl, sym, ap, ◌∙◌, arith}
use Rattle.std.specs.Prelude.{leb, ◌&&◌, if◌then◌else◌, Option}
use Rattle.std.specs.List.{filter}
use Rattle.std.proofs.lemmas.Bool.Decides.{nat_tests}
use Rattle.draw_pictures.specs.declared.part.Callers.{Callers}
use Rattle.draw_pictures.specs.Parts.{is_of, is_own, of_lines, Ascend, PartsMeet}
use Rattle.draw_pictures.specs.Shapes.{Box}

-- a row of these lines
abbrev of : Option Callers → ℕ → ℕ → Box → Bool
of callers a b x = is_own (of_lines a b callers) x

out-by : (p q r : Bool) → q ≡ false → ((p && q) && r) ≡ false
out-by true q r e = rw e refl
out-by false q r e = refl

out-first : (p q r : Bool) → p ≡ false → ((p && q) && r) ≡ false
out-first p q r e = rw e refl

by-other : (p q r k l m : Bool) → p ≡ k → q ≡ l → r ≡ m → ((p && q) && r) ≡ ((k && l) && m)
by-other p q r k l m e f g = (λ i. (e i && f i) && g i)

keep-same : (k l : Bool) (x : Box) (xs ys : List Box) → k ≡ l → xs ≡ ys → (if k then x ∷ xs else xs) ≡ (if l then x ∷ ys else ys)
keep-same k l x xs ys e f = (λ i. if e i then x ∷ f i else f i)

keep-first : (k : Bool) (x : Box) (xs ys zs : List Box) → xs ++ ys ≡ zs → (if k then x ∷ xs else xs) ++ ys ≡ (if k then x ∷ zs else zs)
keep-first true x xs ys zs e = ap (λ l. x ∷ l) e
keep-first false x xs ys zs e = e

module _ (callers : Option Callers) where
  -- none of the rows after its last line is of a part
  none-past : (a b n : ℕ) (xs : List Box) → b < n → Ascend n xs → filter (of callers a b) xs ≡ []
  none-past a b n [] lt up = refl
  none-past a b n (x ∷ xs) lt up =
      let at = up.0 in
      let t : leb x.number b ≡ false = grind (arith, nat_tests) in
      keep-same (of callers a b x) false x (filter (of callers a b) xs) [] (out-by (leb a x.number) (leb x.number b) (is_of callers x) t) (none-past a b x.number xs (omega (arith, lt, at)) up.1)

  -- after a line the part from the next one on has what one from before has
  same-past : (a b c n : ℕ) (xs : List Box) → a ≤ b + 1 → b < n → Ascend n xs → filter (of callers (b + 1) c) xs ≡ filter (of callers a c) xs
  same-past a b c n [] le lt up = refl
  same-past a b c n (x ∷ xs) le lt up =
      let at = up.0 in
      let next : leb (b + 1) x.number ≡ true = grind (arith, nat_tests) in
      let first : leb a x.number ≡ true = grind (arith, nat_tests) in
      keep-same (of callers (b + 1) c x) (of callers a c x) x (filter (of callers (b + 1) c) xs) (filter (of callers a c) xs)
      (by-other (leb (b + 1) x.number) (leb x.number c) (is_of callers x) (leb a x.number) (leb x.number c) (is_of callers x) (next ∙ sym first) refl refl)
      (same-past a b c x.number xs le (omega (arith, lt, at)) up.1)

  -- by whether the first row is of the first part's lines or comes after them
  meet-by : (k : Bool) (a b c : ℕ) (x : Box) (xs : List Box) → leb x.number b ≡ k → Ascend x.number xs → a ≤ b + 1 → b ≤ c
      → filter (of callers a b) xs ++ filter (of callers (b + 1) c) xs ≡ filter (of callers a c) xs
      → filter (of callers a b) (x ∷ xs) ++ filter (of callers (b + 1) c) (x ∷ xs) ≡ filter (of callers a c) (x ∷ xs)
  meet-by true a b c x xs e up le within rest =
      let before : leb (b + 1) x.number ≡ false = grind (arith, nat_tests) in
      let last : leb x.number c ≡ true = grind (arith, nat_tests) in
      let out : filter (of callers (b + 1) c) (x ∷ xs) ≡ filter (of callers (b + 1) c) xs =
      keep-same (of callers (b + 1) c x) false x (filter (of callers (b + 1) c) xs) (filter (of callers (b + 1) c) xs) (out-first (leb (b + 1) x.number) (leb x.number c) (is_of callers x) before) refl in
      let same : of callers a b x ≡ of callers a c x = by-other (leb a x.number) (leb x.number b) (is_of callers x) (leb a x.number) (leb x.number c) (is_of callers x) refl (e ∙ sym last) refl in
      ap (λ l. filter (of callers a b) (x ∷ xs) ++ l) out
      ∙ (keep-first (of callers a b x) x (filter (of callers a b) xs) (filter (of callers (b + 1) c) xs) (filter (of callers a c) xs) rest
      ∙ keep-same (of callers a b x) (of callers a c x) x (filter (of callers a c) xs) (filter (of callers a c) xs) same refl)
  meet-by false a b c x xs e up le within rest =
      let after : b < x.number = grind (arith, nat_tests) in
      let rows : Ascend x.number (x ∷ xs) = (omega arith, up) in
      ap (λ l. l ++ filter (of callers (b + 1) c) (x ∷ xs)) (none-past a b x.number (x ∷ xs) after rows)
      ∙ same-past a b c x.number (x ∷ xs) le after rows

  meet : (a b c n : ℕ) (rows : List Box) → Ascend n rows → a ≤ b + 1 → b ≤ c → filter (of callers a b) rows ++ filter (of callers (b + 1) c) rows ≡ filter (of callers a c) rows
  meet a b c n [] up le within = refl
  meet a b c n (x ∷ xs) up le within = meet-by (leb x.number b) a b c x xs refl up.1 le within (meet a b c x.number xs up.1 le within)

pub parts-meet : PartsMeet
parts-meet a b c n callers rows up le within = meet callers a b c n rows up le within
