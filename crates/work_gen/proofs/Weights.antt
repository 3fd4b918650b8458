-- Sums over scripts: of operations, of a workload's transactions, and of a report's rows.
use Rattle.std.specs.Prelude.{ℕ, ◌+◌, ◌==◌, if◌then◌else◌, List, [], ◌∷◌}
use Rattle.work_script.specs.declared.op.Op.{Op}
use Rattle.work_script.specs.declared.op.Op.TheVariants.{Write, Count, ListInsert}
use Rattle.work_script.specs.declared.report.Row.{Row}
use Rattle.work_script.specs.declared.workload.Item.{Item}
use Rattle.work_script.specs.declared.workload.Item.TheVariants.{Tx, Switch, Reserve}

-- of each script what it weighs
abbrev pub scripts_sum : (List Op → ℕ) → List (List Op) → ℕ
scripts_sum f [] = 0
scripts_sum f (s ∷ ss) = f s + scripts_sum f ss

abbrev pub items_sum : (List Op → ℕ) → List Item → ℕ
items_sum f [] = 0
items_sum f (Tx caller script ∷ items) = f script + items_sum f items
items_sum f (Switch caller alg ∷ items) = items_sum f items
items_sum f (Reserve caller reads writes ∷ items) = items_sum f items

abbrev pub rows_sum : (List Op → ℕ) → (Row → List Op) → List Row → ℕ
rows_sum f script [] = 0
rows_sum f script (r ∷ rs) = f (script r) + rows_sum f script rs

-- of each operation what it weighs
abbrev pub weigh : (Op → ℕ) → List Op → ℕ
weigh f [] = 0
weigh f (op ∷ ops) = f op + weigh f ops

-- every script counts once
abbrev pub once : List Op → ℕ
once script = 1

-- the write that opens the first account
abbrev pub opens : Op → ℕ
opens (Write a v) = if a == 0 then 1 else 0
opens op = 0

-- what is counted
abbrev pub counts : Op → ℕ
counts (Count region stripe k) = k
counts op = 0

-- the inserts of one key into the list
abbrev pub inserts : ℕ → Op → ℕ
inserts key (ListInsert region k) = if k == key then 1 else 0
inserts key op = 0
