-- THE GENERATED WORKLOAD.
use Rattle.std.specs.Prelude.{ℕ, zero, suc, ◌+◌, ◌*◌, ◌/◌, ◌%◌, ◌==◌, min, List, [], ◌∷◌, ◌++◌, if◌then◌else◌}
use Rattle.stm_model.specs.declared.alg.Alg.{Alg}
use Rattle.stm_model.specs.declared.alg.Alg.TheVariants.{OrecLazy}
use Rattle.work_profile.specs.Policies.{next_in_cycle}
use Rattle.work_script.specs.declared.op.Op.{Op}
use Rattle.work_script.specs.declared.op.Op.TheVariants.{Write, Move, Count, ListInsert}
use Rattle.work_profile.specs.declared.policy.Policy.TheVariants.{Fixed}
use Rattle.work_script.specs.declared.op.TheConstants.{COUNTER, LIST}
use Rattle.work_script.specs.declared.workload.Version.TheVariants.{One}
use Rattle.data_regions.specs.Regions.{version_one}
use Rattle.work_script.specs.declared.workload.Header.{Header}
use Rattle.work_script.specs.declared.workload.Item.{Item}
use Rattle.work_script.specs.declared.workload.Item.TheVariants.{Tx, Switch}
use Rattle.work_script.specs.declared.workload.Workload.{Workload}
use Rattle.work_gen.specs.declared.generate.TheConstants.{ACCOUNTS, DEPOSIT, KEYS, MOST_MOVED, STRIPES, SWITCH_EVERY}
use Rattle.work_gen.specs.Draws.{drawn}

abbrev pub header_for : ℕ → Header
header_for callers = record { version = One; words = 1024; records = 64; ring = 16; callers = callers; reads = 256; writes = 256; clock = 0; alg = OrecLazy; regions = version_one; policy = Fixed }

-- the deposit for each of the first n accounts
abbrev pub deposits : ℕ → List Op
deposits zero = []
deposits (suc n) = deposits n ++ Write n DEPOSIT ∷ []

-- a move by the three draws from draw k on
abbrev pub drawn_move : ℕ → ℕ → Op
drawn_move seed k = Move (drawn seed k % ACCOUNTS) (drawn seed (k + 1) % ACCOUNTS) (drawn seed (k + 2) % MOST_MOVED)

-- how many draws the transactions before transaction i take: of four the first two move, with three draws each
abbrev pub draws_before : ℕ → ℕ
draws_before i = 6 * (i / 4) + 3 * min (i % 4) 2

-- the operation of transaction i
abbrev pub operation : ℕ → ℕ → Op
operation seed i =
    if i % 4 == 2 then Count COUNTER (i / 4 % STRIPES) 1
    else (if i % 4 == 3 then ListInsert LIST (i / 4 % KEYS)
    else drawn_move seed (draws_before i))

-- the algorithm that the first j switches lead to, along the cycle
abbrev pub switched : ℕ → Alg
switched zero = OrecLazy
switched (suc j) = next_in_cycle (switched j)

-- the switch that stands after transaction i, where one does
abbrev pub switch_after : ℕ → List Item
switch_after i = if i % SWITCH_EVERY == 15 then Switch 0 (switched (suc (i / SWITCH_EVERY))) ∷ [] else []

-- transaction i, and what stands after it
abbrev pub items_at : ℕ → ℕ → ℕ → List Item
items_at callers seed i = Tx (i % callers) (operation seed i ∷ []) ∷ switch_after i

-- the opening transaction, and the first n that follow
abbrev pub items_for : ℕ → ℕ → ℕ → List Item
items_for zero callers seed = Tx 0 (deposits ACCOUNTS) ∷ []
items_for (suc n) callers seed = items_for n callers seed ++ items_at callers seed n

abbrev pub generated : ℕ → ℕ → ℕ → Workload
generated n callers seed = record { header = header_for callers; items = items_for n callers seed; schedule = [] }
