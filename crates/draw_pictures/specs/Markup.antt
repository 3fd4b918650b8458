-- MARKUP: tags that are closed in turn, the one opened last first, with attributes in quotes; and words, which have no
-- character that a tag is made of.
use Rattle.std.specs.Prelude.{ℕ, ◌≡◌, ◌==◌, leb, Bool, ◌||◌, ◌&&◌, List, [], ◌∷◌, ◌++◌, if◌then◌else◌, Option, Some, None}

-- how far a text is read: the names of the tags that are open, the last one first, and where in a tag it stands
pub data Reading : Type 0 where
  Words : List (List ℕ) → Reading
  Tag : List (List ℕ) → Reading
  Name : List (List ℕ) → List ℕ → Reading
  Attributes : List (List ℕ) → List ℕ → Reading
  Equals : List (List ℕ) → List ℕ → Reading
  Value : List (List ℕ) → List ℕ → Reading
  Empty : List (List ℕ) → Reading
  End : List (List ℕ) → List ℕ → Reading

-- < > &
abbrev pub is_mark : ℕ → Bool
is_mark b = (b == 60) || ((b == 62) || (b == 38))

abbrev pub is_letter : ℕ → Bool
is_letter b = leb 97 b && leb b 122

abbrev pub in_words : List (List ℕ) → ℕ → Option Reading
in_words tags b = if b == 60 then Some (Tag tags) else (if is_mark b then None else Some (Words tags))

-- an end tag has the name of the last tag that is open
abbrev pub ending : List (List ℕ) → Option Reading
ending [] = None
ending (name ∷ tags) = Some (End tags name)

abbrev pub in_tag : List (List ℕ) → ℕ → Option Reading
in_tag tags b = if b == 47 then ending tags else (if is_letter b then Some (Name tags (b ∷ [])) else None)

-- after a tag's name: the tag ends, or is empty, or an attribute has a name
abbrev pub past_name : List (List ℕ) → List ℕ → ℕ → Option Reading
past_name tags name b =
    if b == 62 then Some (Words (name ∷ tags)) else
    (if b == 47 then Some (Empty tags) else
    (if b == 61 then Some (Equals tags name) else
    (if is_mark b || (b == 39) then None else Some (Attributes tags name))))

abbrev pub in_name : List (List ℕ) → List ℕ → ℕ → Option Reading
in_name tags name b =
    if is_letter b then Some (Name tags (name ++ b ∷ [])) else
    (if (b == 32) || ((b == 62) || (b == 47)) then past_name tags name b else None)

abbrev pub in_value : List (List ℕ) → List ℕ → ℕ → Option Reading
in_value tags name b = if b == 39 then Some (Attributes tags name) else (if is_mark b then None else Some (Value tags name))

abbrev pub in_end : List (List ℕ) → List ℕ → ℕ → Option Reading
in_end tags [] b = if b == 62 then Some (Words tags) else None
in_end tags (a ∷ name) b = if b == a then Some (End tags name) else None

abbrev pub next : Reading → ℕ → Option Reading
next (Words tags) b = in_words tags b
next (Tag tags) b = in_tag tags b
next (Name tags name) b = in_name tags name b
next (Attributes tags name) b = past_name tags name b
next (Equals tags name) b = if b == 39 then Some (Value tags name) else None
next (Value tags name) b = in_value tags name b
next (Empty tags) b = if b == 62 then Some (Words tags) else None
next (End tags name) b = in_end tags name b

-- where the reading of a text ends
abbrev pub reads_on : Option Reading → List ℕ → Option Reading
reads_on at [] = at
reads_on None (b ∷ bs) = None
reads_on (Some at) (b ∷ bs) = reads_on (next at b) bs

-- a text that is markup: every tag is closed at its end
abbrev pub IsMarkup : List ℕ → Type 0
IsMarkup text = reads_on (Some (Words [])) text ≡ Some (Words [])
