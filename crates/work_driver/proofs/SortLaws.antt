-- Rows in any order have an order of a report.
use Rattle.std.proofs.Common.{ℕ, ◌≡◌, ◌<◌, Bool, true, false, List, [], ◌∷◌, refl, sym, arith, inl, inr}
use Rattle.std.specs.Prelude.{◌⊎◌, ◌==◌, nat_lt, IsPermutation}
use Rattle.std.proofs.lemmas.Bool.Decides.{nat_tests}
use Rattle.std.proofs.lemmas.List.Sorted.{IsPermutation-refl, IsPermutation-cons, IsPermutation-middle, IsPermutation-sym, IsPermutation-trans}
use Rattle.work_script.specs.declared.report.Row.{Row}
use Rattle.work_script.specs.Reports.{Ordered, AllAfter, IsBefore, rank}
use Rattle.work_driver.proofs.OrderLaws.{after-head}

either : (a b : ℕ) → (a < b) ⊎ ((a ≡ b) ⊎ (b < a))
either a b = by (nat_lt a b) refl (a == b) refl
  where
    by : (x : Bool) → nat_lt a b ≡ x → (y : Bool) → (a == b) ≡ y → (a < b) ⊎ ((a ≡ b) ⊎ (b < a))
    by true e y f = inl (grind (arith, nat_tests))
    by false e true f = inr (inl (grind (arith, nat_tests)))
    by false e false f = inr (inr (grind (arith, nat_tests)))

-- of two rows one comes first
which : (r x : Row) → IsBefore r x ⊎ IsBefore x r
which r x = by-rank (either (rank r) (rank x))
  where
    by-seq : rank r ≡ rank x → r.caller ≡ x.caller → (r.seq < x.seq) ⊎ ((r.seq ≡ x.seq) ⊎ (x.seq < r.seq)) → IsBefore r x ⊎ IsBefore x r
    by-seq e f (inl h) = inl (inr (e, inr (f, omega (arith, h))))
    by-seq e f (inr (inl h)) = inl (inr (e, inr (f, omega (arith, h))))
    by-seq e f (inr (inr h)) = inr (inr (sym e, inr (sym f, omega (arith, h))))

    by-caller : rank r ≡ rank x → (r.caller < x.caller) ⊎ ((r.caller ≡ x.caller) ⊎ (x.caller < r.caller)) → IsBefore r x ⊎ IsBefore x r
    by-caller e (inl h) = inl (inr (e, inl h))
    by-caller e (inr (inl h)) = by-seq e h (either r.seq x.seq)
    by-caller e (inr (inr h)) = inr (inr (sym e, inl h))

    by-rank : (rank r < rank x) ⊎ ((rank r ≡ rank x) ⊎ (rank x < rank r)) → IsBefore r x ⊎ IsBefore x r
    by-rank (inl h) = inl (inl h)
    by-rank (inr (inl h)) = by-caller h (either r.caller x.caller)
    by-rank (inr (inr h)) = inr (inl h)

-- one row more, at its place
record Placed (r : Row) (xs : List Row) : Type 0 where
  rows : List Row
  moved : IsPermutation (r ∷ xs) rows
  ordered : Ordered xs → Ordered rows
  after : (y : Row) → IsBefore y r → AllAfter y xs → AllAfter y rows

placed : (r : Row) (xs : List Row) → Placed r xs
placed r [] = record { rows = r ∷ []; moved = IsPermutation-refl (r ∷ []); ordered = λ h. (tt, tt); after = λ y b h. (b, tt) }
placed r (x ∷ xs) = by (which r x) (placed r xs)
  where
    by : IsBefore r x ⊎ IsBefore x r → Placed r xs → Placed r (x ∷ xs)
    by (inl b) p = record { rows = r ∷ x ∷ xs; moved = IsPermutation-refl (r ∷ x ∷ xs); ordered = λ h. ((b, after-head r x xs b h.0), h); after = λ y c h. (c, h) }
    by (inr b) p = record {
      rows = x ∷ p.rows;
      moved = IsPermutation-trans (r ∷ x ∷ xs) (x ∷ r ∷ xs) (x ∷ p.rows) (IsPermutation-sym (x ∷ r ∷ xs) (r ∷ x ∷ xs) (IsPermutation-middle (x ∷ []) r xs)) (IsPermutation-cons x (r ∷ xs) p.rows p.moved);
      ordered = λ h. (p.after x b h.0, p.ordered h.1);
      after = λ y c h. (h.0, p.after y c h.1);
    }

pub record Sorted (rows : List Row) : Type 0 where
  pub sorted : List Row
  pub moved : IsPermutation rows sorted
  pub ordered : Ordered sorted

pub sorted-of : (rows : List Row) → Sorted rows
sorted-of [] = record { sorted = []; moved = IsPermutation-refl []; ordered = tt }
sorted-of (r ∷ rows) =
    let s = sorted-of rows in
    let p = placed r s.sorted in
    record { sorted = p.rows; moved = IsPermutation-trans (r ∷ rows) (r ∷ s.sorted) p.rows (IsPermutation-cons r rows s.sorted s.moved) p.moved; ordered = p.ordered s.ordered }
