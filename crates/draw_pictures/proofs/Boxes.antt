-- The boxes of some of a trace's lines are some of its boxes.
use Rattle.std.proofs.Common.{ℕ, zero, suc, ◌≡◌, ◌<◌, ◌≤◌, ◌+◌, ◌-◌, List, [], ◌∷◌, length, take, drop, true, false, refl, ap, ◌∙◌, arith}
use Rattle.std.specs.Prelude.{◌==◌, ltb, if◌then◌else◌, Some, None}
use Rattle.std.proofs.lemmas.Bool.Decides.{nat_tests}
use Rattle.std.proofs.lemmas.List.{take_rest}
use Rattle.draw_pictures.specs.declared.row.Row.{Row}
use Rattle.stm_model.specs.declared.alg.Alg.{Alg}
use Rattle.draw_pictures.specs.declared.kind.Kind.{Kind}
use Rattle.draw_pictures.specs.declared.shape.Shape.TheVariants.{Attempt}
use Rattle.draw_pictures.specs.declared.shape.Sought.{Sought}
use Rattle.draw_pictures.specs.declared.shape.Sought.TheVariants.{End}
use Rattle.draw_pictures.specs.Shapes.{box_of, boxes_of, before, more, part, ended_by, attempt_at}

pub length-boxes : (ls : List Row) → length (boxes_of ls) ≡ length ls
length-boxes [] = refl
length-boxes (l ∷ ls) = ap suc (length-boxes ls)

pub drop-boxes : (k : ℕ) (ls : List Row) → boxes_of (drop k ls) ≡ drop k (boxes_of ls)
drop-boxes zero ls = refl
drop-boxes (suc k) [] = refl
drop-boxes (suc k) (l ∷ ls) = drop-boxes k ls

pub take-boxes : (k : ℕ) (ls : List Row) → boxes_of (take k ls) ≡ take k (boxes_of ls)
take-boxes zero ls = refl
take-boxes (suc k) [] = refl
take-boxes (suc k) (l ∷ ls) = ap (λ t. box_of l ∷ t) (take-boxes k ls)

pub some-left : (n : ℕ) → (suc n == 0) ≡ false
some-left n = grind (arith, nat_tests)

-- the part of an attempt, by where it ends and by where what is looked for stands
module _ (sought : Sought) (row lane k m : ℕ) (ls : List Row) (end : k ≡ before End lane (boxes_of ls)) (first : m ≡ before sought lane (boxes_of (take k ls))) where
  part-by : part sought row lane (boxes_of ls) ≡ (if ltb m k then Some (row + 1 + m, more k (boxes_of ls) - (m + 1)) else None)
  part-by = let at : m ≡ before sought lane (take k (boxes_of ls)) = first ∙ ap (before sought lane) (take-boxes k ls) in rw (← end, ← at) refl

  pub part-some : m < k → part sought row lane (boxes_of ls) ≡ Some (row + 1 + m, more k (boxes_of ls) - (m + 1))
  part-some lt = let t : ltb m k ≡ true = grind (arith, nat_tests) in part-by ∙ rw t refl

  pub part-none : k ≤ m → part sought row lane (boxes_of ls) ≡ None
  part-none le = let t : ltb m k ≡ false = grind (arith, nat_tests) in part-by ∙ rw t refl

-- an attempt, by where it ends
pub attempt-by : (row lane k m : ℕ) (alg : Alg) (kind : Kind) (ls : List Row) → k ≡ before End lane (boxes_of ls) → m ≡ more k (boxes_of ls) → kind ≡ ended_by alg (boxes_of (take (length ls - k) (drop k ls)))
    → Attempt lane row m kind ≡ attempt_at row lane alg (boxes_of ls)
attempt-by row lane k m alg kind ls end rows is =
    let last : kind ≡ ended_by alg (drop k (boxes_of ls)) = is ∙ ap (λ (x : List Row). ended_by alg (boxes_of x)) (take_rest ls k) ∙ ap (ended_by alg) (drop-boxes k ls) in
    (λ i. Attempt lane row (rows i) (last i)) ∙ (rw (← end) refl)
