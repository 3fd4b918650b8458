-- The log of what was written, with one write more.
use Rattle.std.proofs.Common.{ℕ, ◌≡◌, ◌<◌, List, [], ◌∷◌, Bool, true, false, refl, sym, ap, ◌∙◌, arith, subst}
use Rattle.std.proofs.lemmas.Bool.Decides.{nat_tests}
use Rattle.std.specs.Prelude.{◌^◌, ◌==◌, if◌then◌else◌}
use Rattle.stm_model.specs.Memories.{item_at, put, is_empty, Once}
use Rattle.rule_base.specs.declared.entries.Cell.{Cell}
use Rattle.rule_base.specs.Encodings.{fenced}
use Rattle.rule_base.specs.Bridge.{items}
use Rattle.rule_base.specs.Lemmas.BridgeLemmas.{item-some, items-once}
use Rattle.rule_base.specs.History.{over, touches, Inside, Small}
use Rattle.rule_base.specs.Lemmas.HistoryLemmas.{over-miss, over-hit, inside-more, small-more}
use Rattle.stm_gate.specs.Logging.{item-touched}
use Rattle.stm_rule.specs.RecordsKept.{Apart, cells_of}
use Rattle.stm_gate.proofs.Cells.{items-cells}

-- cells of the same items say the same
same-touched : (cs ds : List Cell) (a : ℕ) → items cs ≡ items ds → touches cs a ≡ true → (touches ds a ≡ true) × (over ds a 0 ≡ over cs a 0)
same-touched cs ds a e t = item-some ds a (over cs a 0) (ap (item_at a) (sym e) ∙ item-touched cs a t)

same-over : (cs ds : List Cell) (a d : ℕ) → items cs ≡ items ds → over cs a d ≡ over ds a d
same-over cs ds a d e = by (touches cs a) refl (touches ds a) refl
  where
    by : (t : Bool) → touches cs a ≡ t → (u : Bool) → touches ds a ≡ u → over cs a d ≡ over ds a d
    by true p u q = let s = same-touched cs ds a e p in over-hit cs a d 0 p ∙ (sym s.1 ∙ over-hit ds a 0 d s.0)
    by false p true q = let s = same-touched ds cs a (sym e) q in absurd (let f : true ≡ false = sym s.0 ∙ p in cc)
    by false p false q = over-miss cs a d p ∙ sym (over-miss ds a d q)

module _ (a x : ℕ) (ws : List (ℕ × ℕ)) (once : Once ws) where
  abbrev more : List Cell
  more = record { at = a; value = x } ∷ cells_of ws

  more-items : items more ≡ put a x ws
  more-items = ap (put a x) (items-cells ws once)

  pub once-put : Once (put a x ws)
  once-put = subst Once more-items (items-once more)

  same : items (cells_of (put a x ws)) ≡ items more
  same = items-cells (put a x ws) once-put ∙ sym more-items

  pub inside-put : (words : ℕ) → a < words → Inside words (cells_of ws) → Inside words (cells_of (put a x ws))
  inside-put words low inside b t = inside-more words (record { at = a; value = x }) (cells_of ws) low inside b (same-touched (cells_of (put a x ws)) more b same t).0

  pub small-put : x < 2 ^ 64 → Small (cells_of ws) → Small (cells_of (put a x ws))
  small-put low small b d lt = subst (λ (k : ℕ). k < 2 ^ 64) (sym (same-over (cells_of (put a x ws)) more b d same)) (small-more (record { at = a; value = x }) (cells_of ws) low small b d lt)

  pub apart-put : (fence : ℕ) → fenced fence a ≡ false → Apart fence (cells_of ws) → Apart fence (cells_of (put a x ws))
  apart-put fence out apart b t = by (a == b) refl (same-touched (cells_of (put a x ws)) more b same t).0
    where
      by : (k : Bool) → (a == b) ≡ k → (if k then true else touches (cells_of ws) b) ≡ true → fenced fence b ≡ false
      by true e u = subst (λ d. fenced fence d ≡ false) (let at : a ≡ b = grind (arith, nat_tests) in at) out
      by false e u = apart b u

pub some-put : (a x : ℕ) (ws : List (ℕ × ℕ)) → is_empty (put a x ws) ≡ false
some-put a x [] = refl
some-put a x (w ∷ ws) = by (w.0 == a)
  where
    by : (b : Bool) → is_empty (if b then (a, x) ∷ ws else w ∷ put a x ws) ≡ false
    by true = refl
    by false = refl
