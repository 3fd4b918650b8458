-- The items of a log by their places.
use Rattle.std.proofs.Common.{ℕ, zero, suc, ◌≡◌, ◌<◌, List, [], ◌∷◌, length, Bool, true, false, refl, arith}
use Rattle.std.specs.Prelude.{slice_index_or, ◌==◌, if◌then◌else◌, Some}
use Rattle.std.proofs.lemmas.Bool.Decides.{nat_tests}
use Rattle.stm_model.specs.Memories.{item_at}
use Rattle.rule_base.specs.declared.entries.Cell.{Cell}
use Rattle.rule_base.specs.Bridge.{items}
use Rattle.rule_base.specs.Lemmas.BridgeLemmas.{item-some}
use Rattle.rule_base.specs.History.{touches}
use Rattle.stm_gate.specs.Logging.{item-touched}

abbrev address_at : List (ℕ × ℕ) → ℕ → ℕ
address_at ws i = (slice_index_or ws i (0, 0)).0

-- an item has a value at its address
item-here : (ws : List (ℕ × ℕ)) (i : ℕ) → i < length ws → (v : ℕ) × (item_at (address_at ws i) ws ≡ Some v)
item-here [] i low = absurd (omega arith)
item-here (w ∷ ws) zero low = (w.1, let e : (w.0 == w.0) ≡ true = grind (arith, nat_tests) in rw e refl)
item-here (w ∷ ws) (suc i) low = by (w.0 == address_at ws i) (item-here ws i (omega arith))
  where
    by : (b : Bool) → (v : ℕ) × (item_at (address_at ws i) ws ≡ Some v) → (v : ℕ) × ((if b then Some w.1 else item_at (address_at ws i) ws) ≡ Some v)
    by true h = (w.1, refl)
    by false h = h

-- an address with a value has an item
item-place : (ws : List (ℕ × ℕ)) (a v : ℕ) → item_at a ws ≡ Some v → (i : ℕ) × (i < length ws) × (address_at ws i ≡ a)
item-place [] a v e = absurd cc
item-place (w ∷ ws) a v e = by (w.0 == a) refl e (item-place ws a v)
  where
    by : (b : Bool) → (w.0 == a) ≡ b → (if b then Some w.1 else item_at a ws) ≡ Some v → (item_at a ws ≡ Some v → (i : ℕ) × (i < length ws) × (address_at ws i ≡ a))
        → (i : ℕ) × (i < length (w ∷ ws)) × (address_at (w ∷ ws) i ≡ a)
    by true q f rec = (0, omega arith, grind (arith, nat_tests))
    by false q f rec = let r = rec f in (suc r.0, (let l = r.1 in omega arith), r.2)

-- a cell is of the address of each item
pub touched-at : (cs : List Cell) (i : ℕ) → i < length (items cs) → touches cs (address_at (items cs) i) ≡ true
touched-at cs i low = let h = item-here (items cs) i low in (item-some cs (address_at (items cs) i) h.0 h.1).0

-- and an item is of the address of each cell
pub place-of : (cs : List Cell) (a : ℕ) → touches cs a ≡ true → (i : ℕ) × (i < length (items cs)) × (address_at (items cs) i ≡ a)
place-of cs a read = item-place (items cs) a _ (item-touched cs a read)
