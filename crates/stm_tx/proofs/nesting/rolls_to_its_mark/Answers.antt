use Rattle.std.proofs.Common.{ℕ, ◌≡◌, ◌-◌, ◌++◌, ◌∷◌, [], List, length, get_or, ap, ◌∙◌, arith, append_assoc}
use Rattle.std.proofs.Math.Seq.{get_or-append_seam}
use Rattle.stm_tx.proofs.nesting.rolls_to_its_mark.Goals as goal

pub returns : goal.returns
returns g c = λ rule f n depth u v w x plain marked further same rolled.
    let m = marked.2.marks plain in
    let place : depth - 1 ≡ length u.marks = omega (arith, marked.1, m.0) in (
      rolled.0.writes
          ∙ ((λ j. get_or (same j) (place j) [])
          ∙ (ap (λ (ms : List (List (ℕ × ℕ))). get_or (ms ++ further) (length u.marks) []) m.1
          ∙ (ap (λ (ms : List (List (ℕ × ℕ))). get_or ms (length u.marks) []) (append_assoc u.marks (u.log.writes ∷ []) further)
          ∙ get_or-append_seam u.marks u.log.writes further []))),
      rolled.0.reads,
      rolled.0.depth,
    )
