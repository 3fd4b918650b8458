-- Laws of bytes that are taken from a source and put to a sink piece by piece.
use Rattle.std.proofs.Common.{ℕ, ◌≡◌, List, ◌++◌, Some, None, Option, refl, sym, ap, ◌∙◌}
use Rattle.std.proofs.lemmas.List.{append_assoc}
use Rattle.std.specs.Io.KnownBytes.{prepend_known, append_known}
use Rattle.work_io.specs.Ends.{Took, Gained}

prepend-append : (xs ys : List ℕ) (known : Option (List ℕ)) → prepend_known xs (prepend_known ys known) ≡ prepend_known (xs ++ ys) known
prepend-append xs ys None = refl
prepend-append xs ys (Some rest) = ap Some (sym (append_assoc xs ys rest))

append-append : (known : Option (List ℕ)) (xs ys : List ℕ) → append_known (append_known known xs) ys ≡ append_known known (xs ++ ys)
append-append None xs ys = refl
append-append (Some front) xs ys = ap Some (append_assoc front xs ys)

-- two pieces taken one after the other are one piece taken
pub Took-append : (first middle last : Option (List ℕ)) (xs ys : List ℕ) → Took first middle xs → Took middle last ys → Took first last (xs ++ ys)
Took-append first middle last xs ys p q = p ∙ (ap (prepend_known xs) q ∙ prepend-append xs ys last)

-- two pieces gained one after the other are one piece gained
pub Gained-append : (first middle last : Option (List ℕ)) (xs ys : List ℕ) → Gained first middle xs → Gained middle last ys → Gained first last (xs ++ ys)
Gained-append first middle last xs ys p q = q ∙ (ap (λ held. append_known held ys) p ∙ append-append first xs ys)
