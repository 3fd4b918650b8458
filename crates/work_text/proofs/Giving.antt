-- What an answer gives, where there is one.
use Rattle.std.proofs.Common.{◌≡◌, Result, Ok, Err, subst}

-- P holds of it, where it is Ok
abbrev pub Gives : {A B : Type 0} → (A → Type 0) → Result A B → Type 0
Gives P (Ok a) = P a
Gives P (Err c) = Unit {0}

pub gives-with : {A B : Type 0} (P Q : A → Type 0) (r : Result A B) → Gives P r → ((a : A) → P a → Q a) → Gives Q r
gives-with P Q (Ok a) h g = g a h
gives-with P Q (Err c) h g = tt

pub given : {A B : Type 0} (P : A → Type 0) (r : Result A B) (a : A) → Gives P r → r ≡ Ok a → P a
given P r a h is = subst (Gives P) is h
