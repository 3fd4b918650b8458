-- A picture is markup: each of its tags is closed, and no words have a character that a tag is made of.
use Rattle.std.proofs.Common.{ℕ, zero, suc, ◌≡◌, ◌<◌, ◌/◌, ◌%◌, List, [], ◌∷◌, ◌++◌, Bool, true, false, refl, sym, ap, ◌∙◌, arith}
use Rattle.std.specs.Prelude.{◌+◌, ◌-◌, ◌==◌, ◌||◌, ltb, length, if◌then◌else◌, Option, Some, None, codes}
use Rattle.std.specs.Fmt.{decimal, digits, digits_onto, digit_glyph}
use Rattle.std.proofs.lemmas.Bool.Decides.{nat_tests}
use Rattle.draw_pictures.specs.declared.shown.TheConstants.{MOST_SHOWN}
use Rattle.draw_pictures.specs.declared.style.TheConstants.{TIP}
use Rattle.draw_pictures.specs.Markup.{Reading, Words, Value, next, reads_on}
use Rattle.draw_pictures.specs.Shown.{is_digit, digits_at, next_before, shown, shown_byte, shown_digit, shown_other, shown_words}

-- none of < > & '
abbrev pub is_calm : ℕ → Bool
is_calm b = if b == 60 then false else (if b == 62 then false else (if b == 38 then false else (if b == 39 then false else true)))

abbrev pub all_calm : List ℕ → Bool
all_calm [] = true
all_calm (b ∷ bs) = if is_calm b then all_calm bs else false

-- such bytes change nothing, in words and in a value
pub record Calm (bs : List ℕ) : Type 0 where
  pub test : all_calm bs ≡ true
  pub words : (tags : List (List ℕ)) → reads_on (Some (Words tags)) bs ≡ Some (Words tags)
  pub value : (tags : List (List ℕ)) (name : List ℕ) → reads_on (Some (Value tags name)) bs ≡ Some (Value tags name)

none-stays : (bs : List ℕ) → reads_on None bs ≡ None
none-stays [] = refl
none-stays (b ∷ bs) = refl

pub on-append : (at : Option Reading) (xs ys : List ℕ) → reads_on at (xs ++ ys) ≡ reads_on (reads_on at xs) ys
on-append at [] ys = refl
on-append None (x ∷ xs) ys = sym (none-stays ys)
on-append (Some r) (x ∷ xs) ys = on-append (next r x) xs ys

-- where a reading has come to after one text, and then after another
pub onto : (at : Option Reading) (xs ys : List ℕ) (now : Option Reading) → reads_on at xs ≡ now → reads_on at (xs ++ ys) ≡ reads_on now ys
onto at xs ys now is = on-append at xs ys ∙ ap (λ t. reads_on t ys) is

pub record CalmByte (b : ℕ) : Type 0 where
  pub no_less : (b == 60) ≡ false
  pub no_more : (b == 62) ≡ false
  pub no_and : (b == 38) ≡ false
  pub no_quote : (b == 39) ≡ false

split : (b : ℕ) (p q r s : Bool) → (b == 60) ≡ p → (b == 62) ≡ q → (b == 38) ≡ r → (b == 39) ≡ s
    → (if p then false else (if q then false else (if r then false else (if s then false else true)))) ≡ true → CalmByte b
split b false false false false e f g h is = record { no_less = e; no_more = f; no_and = g; no_quote = h }
split b true q r s e f g h is = absurd cc
split b false true r s e f g h is = absurd cc
split b false false true s e f g h is = absurd cc
split b false false false true e f g h is = absurd cc

and-split : (p q : Bool) → (if p then q else false) ≡ true → (p ≡ true) × (q ≡ true)
and-split true q is = (refl, is)
and-split false q is = absurd cc

calm-cons : (b : ℕ) (bs : List ℕ) → all_calm (b ∷ bs) ≡ true → CalmByte b → Calm bs → Calm (b ∷ bs)
calm-cons b bs is c rest =
    let less = c.no_less in
    let more = c.no_more in
    let also = c.no_and in
    let quote = c.no_quote in
    record {
      test = is;
      words = λ tags. rw (less, more, also) (rest.words tags);
      value = λ tags name. rw (quote, less, more, also) (rest.value tags name);
    }

pub calm : (bs : List ℕ) → all_calm bs ≡ true → Calm bs
calm [] is = record { test = refl; words = λ tags. refl; value = λ tags name. refl }
calm (b ∷ bs) is =
    let two = and-split (is_calm b) (all_calm bs) is in
    calm-cons b bs is (split b (b == 60) (b == 62) (b == 38) (b == 39) refl refl refl refl two.0) (calm bs two.1)

calm-more : (b : ℕ) (bs : List ℕ) → is_calm b ≡ true → all_calm bs ≡ true → all_calm (b ∷ bs) ≡ true
calm-more b bs e f = rw e f

append-test : (xs ys : List ℕ) → all_calm xs ≡ true → all_calm ys ≡ true → all_calm (xs ++ ys) ≡ true
append-test [] ys e f = f
append-test (x ∷ xs) ys e f = let two = and-split (is_calm x) (all_calm xs) e in calm-more x (xs ++ ys) two.0 (append-test xs ys two.1 f)

pub calm-append : (xs ys : List ℕ) → Calm xs → Calm ys → Calm (xs ++ ys)
calm-append xs ys c d = record {
  test = append-test xs ys c.test d.test;
  words = λ tags. onto (Some (Words tags)) xs ys (Some (Words tags)) (c.words tags) ∙ d.words tags;
  value = λ tags name. onto (Some (Value tags name)) xs ys (Some (Value tags name)) (c.value tags name) ∙ d.value tags name;
}

-- digits

calm-digit : (d : ℕ) → d < 10 → is_calm (digit_glyph false d) ≡ true
calm-digit d lt = grind (arith, nat_tests)

both : (p : Bool) (x y : List ℕ) → all_calm x ≡ true → all_calm y ≡ true → all_calm (if p then x else y) ≡ true
both true x y e f = e
both false x y e f = f

calm-onto : (k n : ℕ) (acc : List ℕ) → all_calm acc ≡ true → all_calm (digits_onto k 10 false n acc) ≡ true
calm-onto zero n acc h = h
calm-onto (suc k) n acc h =
    let now : all_calm (digit_glyph false (n % 10) ∷ acc) ≡ true = calm-more (digit_glyph false (n % 10)) acc (calm-digit (n % 10) (omega arith)) h in
    both (n / 10 == 0) (digit_glyph false (n % 10) ∷ acc) (digits_onto k 10 false (n / 10) (digit_glyph false (n % 10) ∷ acc)) now (calm-onto k (n / 10) (digit_glyph false (n % 10) ∷ acc) now)

calm-digits : (n : ℕ) → all_calm (decimal n) ≡ true
unfolding digits
calm-digits n = calm-onto 64 n [] refl

pub calm-decimal : (n : ℕ) → Calm (decimal n)
calm-decimal n = calm (decimal n) (calm-digits n)

-- words as they are shown

byte-test : (before after b : ℕ) → is_calm b ≡ true → all_calm (shown_byte before after b) ≡ true
unfolding shown_byte
byte-test before after b is =
    let one : all_calm (b ∷ []) ≡ true = calm-more b [] is refl in
    both (is_digit b) (shown_digit before after b) (shown_other b)
    (both (ltb (before + after) 8 || (ltb before 3 || ltb after 3)) (b ∷ []) (if before == 3 then codes ".." else []) one (both (before == 3) (codes "..") [] refl refl))
    (both (b == 226) TIP.now (if ltb b 128 then b ∷ [] else []) refl (both (ltb b 128) (b ∷ []) [] one refl))

shown-test : (room before : ℕ) (bs : List ℕ) → all_calm bs ≡ true → all_calm (shown room before bs) ≡ true
shown-test room before [] is = refl
shown-test room before (b ∷ bs) is =
    let two = and-split (is_calm b) (all_calm bs) is in
    let piece : List ℕ = shown_byte before (digits_at bs) b in
    let rest : List ℕ = shown (room - length piece) (next_before before b) bs in
    both (room == 0) (codes "..") (piece ++ rest) refl
    (append-test piece rest (byte-test before (digits_at bs) b two.0) (shown-test (room - length piece) (next_before before b) bs two.1))

pub shown-calm : (words : List ℕ) → Calm words → Calm (shown_words words)
shown-calm words c = calm (shown_words words) (shown-test MOST_SHOWN 0 words c.test)

-- what stands between tags, or tags with all between them: it leaves open what was open
pub record Keeps (bs : List ℕ) : Type 0 where
  pub keeps : (tags : List (List ℕ)) → reads_on (Some (Words tags)) bs ≡ Some (Words tags)

pub keeps-none : Keeps []
keeps-none = record { keeps = λ tags. refl }

pub keeps-append : (xs ys : List ℕ) → Keeps xs → Keeps ys → Keeps (xs ++ ys)
keeps-append xs ys c d = record { keeps = λ tags. onto (Some (Words tags)) xs ys (Some (Words tags)) (c.keeps tags) ∙ d.keeps tags }

pub calm-keeps : (bs : List ℕ) → Calm bs → Keeps bs
calm-keeps bs c = record { keeps = c.words }

-- in a value, and so on after it
pub past-value : (tags : List (List ℕ)) (name xs ys : List ℕ) → Calm xs → reads_on (Some (Value tags name)) (xs ++ ys) ≡ reads_on (Some (Value tags name)) ys
past-value tags name xs ys c = onto (Some (Value tags name)) xs ys (Some (Value tags name)) (c.value tags name)

pub past-words : (tags : List (List ℕ)) (xs ys : List ℕ) → Calm xs → reads_on (Some (Words tags)) (xs ++ ys) ≡ reads_on (Some (Words tags)) ys
past-words tags xs ys c = onto (Some (Words tags)) xs ys (Some (Words tags)) (c.words tags)
