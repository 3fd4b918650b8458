-- What was written, as the items of its log and as cells.
use Rattle.std.proofs.Common.{ℕ, zero, suc, ◌≡◌, ◌≢◌, ◌<◌, List, [], ◌∷◌, ◌++◌, length, get_or, take, Bool, true, false, refl, sym, ap, ◌∙◌, arith}
use Rattle.std.specs.Prelude.{Some, None, ◌==◌, if◌then◌else◌}
use Rattle.std.proofs.lemmas.Bool.Decides.{nat_tests}
use Rattle.stm_model.specs.Memories.{item_at, put, is_empty, Once}
use Rattle.rule_base.specs.declared.entries.Cell.{Cell}
use Rattle.rule_base.specs.Bridge.{items}
use Rattle.rule_base.specs.History.{touches}
use Rattle.stm_rule.specs.RecordsKept.{cells_of}

abbrev pub cell : ℕ × ℕ → Cell
cell w = record { at = w.0; value = w.1 }

touches-last : (cs : List Cell) (w : Cell) (a : ℕ) → touches (cs ++ w ∷ []) a ≡ (if touches cs a then true else w.at == a)
touches-last [] w a = by (w.at == a)
  where
    by : (b : Bool) → (if b then true else false) ≡ b
    by true = refl
    by false = refl
touches-last (c ∷ cs) w a = by (c.at == a) (touches-last cs w a)
  where
    by : (b : Bool) → touches (cs ++ w ∷ []) a ≡ (if touches cs a then true else w.at == a) → (if b then true else touches (cs ++ w ∷ []) a) ≡ (if (if b then true else touches cs a) then true else w.at == a)
    by true e = refl
    by false e = e

-- a cell is an item of the log
pub cells-at : (ws : List (ℕ × ℕ)) (a : ℕ) → touches (cells_of ws) a ≡ true → (j : ℕ) × (j < length ws) × ((get_or ws j (0, 0)).0 ≡ a)
cells-at [] a t = absurd cc
cells-at (w ∷ ws) a t = by (touches (cells_of ws) a) refl (sym (touches-last (cells_of ws) (cell w) a) ∙ t) (cells-at ws a)
  where
    by : (b : Bool) → touches (cells_of ws) a ≡ b → (if touches (cells_of ws) a then true else w.0 == a) ≡ true
        → (touches (cells_of ws) a ≡ true → (j : ℕ) × (j < length ws) × ((get_or ws j (0, 0)).0 ≡ a))
        → (j : ℕ) × (j < suc (length ws)) × ((get_or (w ∷ ws) j (0, 0)).0 ≡ a)
    by true q e rec = let r = rec q in (suc r.0, omega (arith, r.1), r.2)
    by false q e rec = let f : (w.0 == a) ≡ true = rw q at e in (0, omega arith, grind (arith, nat_tests))

-- and the other way round
pub cells-there : (ws : List (ℕ × ℕ)) (j : ℕ) → j < length ws → touches (cells_of ws) (get_or ws j (0, 0)).0 ≡ true
cells-there [] j l = absurd (omega arith)
cells-there (w ∷ ws) zero l = touches-last (cells_of ws) (cell w) w.0 ∙ by (touches (cells_of ws) w.0)
  where
    here : (w.0 == w.0) ≡ true
    here = grind (arith, nat_tests)

    by : (b : Bool) → (if b then true else w.0 == w.0) ≡ true
    by true = refl
    by false = here
cells-there (w ∷ ws) (suc j) l = let a = (get_or ws j (0, 0)).0 in touches-last (cells_of ws) (cell w) a ∙ ap (λ (b : Bool). if b then true else w.0 == a) (cells-there ws j (omega arith))

cells-none : (ws : List (ℕ × ℕ)) (a : ℕ) → item_at a ws ≡ None → touches (cells_of ws) a ≡ false
cells-none [] a e = refl
cells-none (w ∷ ws) a e = touches-last (cells_of ws) (cell w) a ∙ by (w.0 == a) refl e (cells-none ws a)
  where
    by : (b : Bool) → (w.0 == a) ≡ b → (if w.0 == a then Some w.1 else item_at a ws) ≡ None → (item_at a ws ≡ None → touches (cells_of ws) a ≡ false) → (if touches (cells_of ws) a then true else w.0 == a) ≡ false
    by true q f rec = absurd (let g = rw q at f in cc)
    by false q f rec = rw (rec (rw q at f)) q

items-last : (cs : List Cell) (w : Cell) → touches cs w.at ≡ false → items (cs ++ w ∷ []) ≡ (w.at, w.value) ∷ items cs
items-last [] w e = refl
items-last (c ∷ cs) w e = by (c.at == w.at) refl e (items-last cs w)
  where
    by : (b : Bool) → (c.at == w.at) ≡ b → (if c.at == w.at then true else touches cs w.at) ≡ false
        → (touches cs w.at ≡ false → items (cs ++ w ∷ []) ≡ (w.at, w.value) ∷ items cs)
        → put c.at c.value (items (cs ++ w ∷ [])) ≡ (w.at, w.value) ∷ put c.at c.value (items cs)
    by true q f rec = absurd (let g = rw q at f in cc)
    by false q f rec =
        let g : touches cs w.at ≡ false = rw q at f in
        let apart : (w.at == c.at) ≡ false = grind (arith, nat_tests) in
        ap (put c.at c.value) (rec g) ∙ ap (λ (b : Bool). if b then (c.at, c.value) ∷ items cs else (w.at, w.value) ∷ put c.at c.value (items cs)) apart

-- a log of one item an address is that of its cells
pub items-cells : (ws : List (ℕ × ℕ)) → Once ws → items (cells_of ws) ≡ ws
items-cells [] o = refl
items-cells (w ∷ ws) o = items-last (cells_of ws) (cell w) (cells-none ws w.0 o.0) ∙ ap (λ l. w ∷ l) (items-cells ws o.1)

-- a log that wrote has cells
pub cells-some : (ws : List (ℕ × ℕ)) → is_empty ws ≡ false → items (cells_of ws) ≡ ws → cells_of ws ≢ []
cells-some [] e s n = absurd cc
cells-some (w ∷ ws) e s n = let f : [] ≡ w ∷ ws = sym (ap items n) ∙ s in cc

-- the first items as cells, and one item more
pub cells-next : (ws : List (ℕ × ℕ)) (i : ℕ) → i < length ws → cells_of (take (suc i) ws) ≡ cell (get_or ws i (0, 0)) ∷ cells_of (take i ws)
cells-next [] i l = absurd (omega arith)
cells-next (w ∷ ws) zero l = refl
cells-next (w ∷ ws) (suc i) l = ap (λ (cs : List Cell). cs ++ cell w ∷ []) (cells-next ws i (omega arith))
