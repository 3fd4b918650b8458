-- A generated workload is one of the grammar.
use Rattle.std.proofs.Common.{ℕ, zero, suc, ◌≡◌, ◌≢◌, ◌<◌, ◌≤◌, ◌+◌, ◌/◌, ◌%◌, List, [], ◌∷◌, ◌++◌, length, Bool, true, false, refl, arith, inl, inr}
use Rattle.std.specs.Prelude.{◌==◌, ◌||◌, if◌then◌else◌, All}
use Rattle.std.proofs.Math.Nat.{mod-lt}
use Rattle.std.proofs.lemmas.Bool.Decides.{nat_tests}
use Rattle.std.proofs.lemmas.List.{length-append}
use Rattle.std.proofs.lemmas.List.Elements.{All-nil, All-cons, All-push, All-append}
use Rattle.work_script.specs.Operations.{is_irrev}
use Rattle.work_script.specs.declared.op.Op.{Op}
use Rattle.work_script.specs.declared.op.Op.TheVariants.{Write, Count, ListInsert}
use Rattle.work_script.specs.declared.workload.Item.TheVariants.{Tx, Switch}
use Rattle.work_text.specs.declared.parse.Mode.TheVariants.{Run}
use Rattle.work_text.specs.Parsed.{HeaderFits, OpFits, AreInOrder, ScriptFits, ItemFits, IsParsed}
use Rattle.work_gen.specs.Draws.{drawn}
use Rattle.work_gen.specs.Generated.{header_for, deposits, drawn_move, draws_before, operation, switched, switch_after, items_at, items_for, generated}

header-fits : (callers : ℕ) → 1 ≤ callers → callers ≤ 32 → HeaderFits (header_for callers)
header-fits callers some few = record {
  config = record {
    words = (omega arith, omega arith);
    records = (omega arith, omega arith);
    ring = (omega arith, omega arith);
    callers = (some, few);
    reads = (omega arith, omega arith);
    writes = (omega arith, omega arith);
    clock = omega arith;
  };
  words = omega arith;
  layout = (inr (refl, omega arith), refl);
}

-- how many items there are

switches : (n : ℕ) → length (switch_after n) + n / 16 ≡ suc n / 16
switches n = by (n % 16 == 15) refl
  where
    by : (t : Bool) → (n % 16 == 15) ≡ t → length (if t then Switch 0 (switched (suc (n / 16))) ∷ [] else []) + n / 16 ≡ suc n / 16
    by true q = let e : n % 16 ≡ 15 = grind (arith, nat_tests) in omega arith
    by false q = let d : n % 16 ≢ 15 = grind (arith, nat_tests) in omega arith

items-many : (n callers seed : ℕ) → length (items_for n callers seed) ≡ n + 1 + n / 16
items-many zero callers seed = refl
items-many (suc n) callers seed =
    let rest = items-many n callers seed in
    let one = switches n in
    let both = length-append (items_for n callers seed) (items_at callers seed n) in omega arith

-- the opening script

deposits-many : (n : ℕ) → length (deposits n) ≡ n
deposits-many zero = refl
deposits-many (suc n) = let rest = deposits-many n in let both = length-append (deposits n) (Write n 1000 ∷ []) in omega arith

deposits-fit : (callers n : ℕ) → n ≤ 64 → All (OpFits (header_for callers)) (deposits n)
deposits-fit callers zero le = All-nil (OpFits (header_for callers))
deposits-fit callers (suc n) le =
    All-push (OpFits (header_for callers)) (deposits n) (Write n 1000) (deposits-fit callers n (omega arith)) (omega arith, omega arith, inr (inl (omega arith)))

write-in-order : (asked : Bool) (ops : List Op) (a v : ℕ) → AreInOrder asked ops → AreInOrder asked (ops ++ Write a v ∷ [])
write-in-order asked [] a v order = (tt, tt)
write-in-order asked (op ∷ ops) a v order = (order.0, write-in-order (asked || is_irrev op) ops a v order.1)

deposits-in-order : (n : ℕ) → AreInOrder false (deposits n)
deposits-in-order zero = tt
deposits-in-order (suc n) = write-in-order false (deposits n) n 1000 (deposits-in-order n)

opening-fits : (callers : ℕ) → ScriptFits (header_for callers) (deposits 64)
opening-fits callers = record {
  count = let many = deposits-many 64 in omega arith;
  each = deposits-fit callers 64 (omega arith);
  order = deposits-in-order 64;
}

-- the scripts of one operation

one-fits : (callers : ℕ) (op : Op) → OpFits (header_for callers) op → AreInOrder false (op ∷ []) → ScriptFits (header_for callers) (op ∷ [])
one-fits callers op fits order = record { count = omega arith; each = All-cons (OpFits (header_for callers)) op [] fits (All-nil (OpFits (header_for callers))); order = order }

operation-fits : (callers seed i : ℕ) → ScriptFits (header_for callers) (operation seed i ∷ [])
operation-fits callers seed i = by (i % 4 == 2) (i % 4 == 3)
  where
    by : (a b : Bool) → ScriptFits (header_for callers) ((if a then Count 0 (i / 4 % 4) 1 else (if b then ListInsert 1 (i / 4 % 24) else drawn_move seed (draws_before i))) ∷ [])
    by true b = one-fits callers (Count 0 (i / 4 % 4) 1) ((omega arith, refl), mod-lt (i / 4) {m = 4} (omega arith), omega arith) (tt, tt)
    by false true = let low : i / 4 % 24 < 24 = mod-lt (i / 4) {m = 24} (omega arith) in one-fits callers (ListInsert 1 (i / 4 % 24)) ((omega arith, refl), omega arith) (tt, tt)
    by false false =
        let k : ℕ = draws_before i in
        let from : drawn seed k % 64 < 64 = mod-lt (drawn seed k) {m = 64} (omega arith) in
        let to : drawn seed (k + 1) % 64 < 64 = mod-lt (drawn seed (k + 1)) {m = 64} (omega arith) in
        let amount : drawn seed (k + 2) % 100 < 100 = mod-lt (drawn seed (k + 2)) {m = 100} (omega arith) in
        one-fits callers (drawn_move seed k) (omega arith, omega arith, omega arith, inr (inl from), inr (inl to)) (tt, tt)

-- the items

switch-fits : (callers i : ℕ) → 1 ≤ callers → All (ItemFits (header_for callers)) (switch_after i)
switch-fits callers i some = by (i % 16 == 15)
  where
    by : (t : Bool) → All (ItemFits (header_for callers)) (if t then Switch 0 (switched (suc (i / 16))) ∷ [] else [])
    by true = All-cons (ItemFits (header_for callers)) (Switch 0 (switched (suc (i / 16)))) [] some (All-nil (ItemFits (header_for callers)))
    by false = All-nil (ItemFits (header_for callers))

items-fit : (n callers seed : ℕ) → 1 ≤ callers → All (ItemFits (header_for callers)) (items_for n callers seed)
items-fit zero callers seed some = All-cons (ItemFits (header_for callers)) (Tx 0 (deposits 64)) [] (some, opening-fits callers) (All-nil (ItemFits (header_for callers)))
items-fit (suc n) callers seed some =
    All-append (ItemFits (header_for callers)) (items_for n callers seed) (items_at callers seed n) (items-fit n callers seed some)
    (All-cons (ItemFits (header_for callers)) (Tx (n % callers) (operation seed n ∷ [])) (switch_after n) (mod-lt n {m = callers} some, operation-fits callers seed n) (switch-fits callers n some))

pub generated-is_parsed : (n callers seed : ℕ) → n ≤ 50000 → 1 ≤ callers → callers ≤ 32 → IsParsed Run (generated n callers seed)
generated-is_parsed n callers seed small some few = record {
  header = header-fits callers some few;
  count = let many = items-many n callers seed in omega arith;
  items = items-fit n callers seed some;
  schedule = refl;
}
