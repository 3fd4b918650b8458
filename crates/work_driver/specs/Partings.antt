-- What each caller has of a workload.
use Rattle.std.proofs.Common.{ℕ, zero, suc, ◌≡◌, List, length, map, refl, ap}
use Rattle.work_script.specs.declared.workload.Item.{Item}
use Rattle.work_script.specs.Reports.{counted}
use Rattle.work_trace.specs.Places.{items_of}

-- those of each caller in turn
abbrev pub parted : ℕ → List Item → List (List Item)
parted callers items = map (λ n. items_of n items) (counted 0 callers)

-- one part a caller
pub parts-length : (k m : ℕ) (items : List Item) → length (map (λ n. items_of n items) (counted k m)) ≡ m
parts-length k zero items = refl
parts-length k (suc m) items = ap suc (parts-length (suc k) m items)
