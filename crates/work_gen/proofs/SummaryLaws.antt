-- The summary of a report that replays a generated workload.
use Rattle.std.proofs.Common.{ℕ, zero, suc, ◌≡◌, ◌≢◌, ◌<◌, ◌≤◌, ◌+◌, ◌*◌, ◌/◌, ◌%◌, ◌^◌, List, [], ◌∷◌, length, get_or, Bool, true, false, refl, sym, ap, ◌∙◌, arith, min}
use Rattle.std.specs.Prelude.{◌==◌, ◌||◌, not, ltb, if◌then◌else◌, replicate}
use Rattle.std.proofs.Math.Nat.{mod-eq_of_lt}
use Rattle.std.proofs.lemmas.Bool.Decides.{nat_tests}
use Rattle.std.proofs.Math.ListN.{length-replicate}
use Rattle.data_effects.specs.Keys.{AllAbove, Ascends, has, how_many, keys_of, with_tag}
use Rattle.data_effects.proofs.KeyLaws.{keys-many, same-sets}
use Rattle.data_cells.specs.Chains.{keys, tag, tag_at}
use Rattle.data_cells.specs.Counters.{count, sum_from}
use Rattle.data_cells.specs.Structures.{list_of}
use Rattle.data_cells.specs.Statements.{ZerosAreEmpty}
use Rattle.data_regions.specs.Regions.{counter_one, list_one}
use Rattle.work_script.specs.declared.report.Report.{Report}
use Rattle.work_script.specs.Reports.{Replays, nonzero, zeros, script_of}
use Rattle.work_gen.specs.Generated.{items_for, generated}
use Rattle.work_gen.proofs.Weights.{weigh, opens, counts, inserts, once, items_sum, rows_sum}
use Rattle.work_gen.specs.Summaries.{committed, word_in, sum_in, is_used, summary_of, summary_for}
use Rattle.work_gen.proofs.RowSums.{rows-are-items}
use Rattle.work_gen.proofs.Replaying.{Laws, State, replay-state, all-commit}
use Rattle.work_gen.proofs.Totals.{callers-below, rows-made, total-once, total-opens, total-counts, total-inserts}

-- the words that a report tells

absent : (m : List ℕ) (a x : ℕ) → x < a → word_in (nonzero a m) x ≡ 0
absent [] a x lt = refl
absent (v ∷ vs) a x lt = by (v == 0) (a == x) (grind (arith, nat_tests)) (absent vs (suc a) x (omega arith))
  where
    by : (t u : Bool) → u ≡ false → word_in (nonzero (suc a) vs) x ≡ 0 → word_in (if t then nonzero (suc a) vs else (a, v) ∷ nonzero (suc a) vs) x ≡ 0
    by true u d go = go
    by false u d go = let q : (a == x) ≡ false = grind (arith, nat_tests) in rw q go

told : (m : List ℕ) (a i : ℕ) → word_in (nonzero a m) (a + i) ≡ get_or m i 0
told [] a i = refl
told (v ∷ vs) a zero = by (v == 0) refl (absent vs (suc a) (a + 0) (omega arith))
  where
    by : (t : Bool) → (v == 0) ≡ t → word_in (nonzero (suc a) vs) (a + 0) ≡ 0 → word_in (if t then nonzero (suc a) vs else (a, v) ∷ nonzero (suc a) vs) (a + 0) ≡ v
    by true q none = let z : v ≡ 0 = grind (arith, nat_tests) in none ∙ sym z
    by false q none = let here : (a == a + 0) ≡ true = grind (arith, nat_tests) in rw here refl
told (v ∷ vs) a (suc i) = by (v == 0) (ap (λ x. word_in (nonzero (suc a) vs) x) (omega arith) ∙ told vs (suc a) i)
  where
    by : (t : Bool) → word_in (nonzero (suc a) vs) (a + suc i) ≡ get_or vs i 0 → word_in (if t then nonzero (suc a) vs else (a, v) ∷ nonzero (suc a) vs) (a + suc i) ≡ get_or vs i 0
    by true go = go
    by false go = let other : (a == a + suc i) ≡ false = grind (arith, nat_tests) in rw other go

word-told : (m : List ℕ) (i : ℕ) → word_in (nonzero 0 m) i ≡ get_or m i 0
word-told m i = ap (λ x. word_in (nonzero 0 m) x) (omega arith) ∙ told m 0 i

sum-told : (m : List ℕ) (a n : ℕ) → sum_in (nonzero 0 m) a n ≡ sum_from m a n
sum-told m a zero = refl
sum-told m a (suc n) = let rest = sum-told m a n in let one = word-told m (a + n) in cc

list-told : (m : List ℕ) → how_many (is_used (nonzero 0 m)) 32 ≡ length (keys (list_of list_one) m)
list-told m = sym (keys-many (tag (list_of list_one) m) (is_used (nonzero 0 m)) 32
    (λ i lt z. let e : word_in (nonzero 0 m) (129 + 2 * i) ≡ 0 = word-told m (129 + 2 * i) ∙ (ap (λ x. get_or m x 0) (omega arith) ∙ z) in ap (λ w. not (w == 0)) e)
    (λ i lt some. let e : word_in (nonzero 0 m) (129 + 2 * i) ≡ get_or m (tag_at (list_of list_one) i) 0 = word-told m (129 + 2 * i) ∙ ap (λ x. get_or m x 0) (omega arith) in
    let d : (word_in (nonzero 0 m) (129 + 2 * i) == 0) ≡ false = grind (arith, nat_tests) in ap not d))

-- a summary of a memory
pub summary-tells : (report : Report) (m : List ℕ) → report.memory ≡ nonzero 0 m →
    ((summary_of report).accounts ≡ sum_from m 0 64 % 2 ^ 64)
    × ((summary_of report).counter ≡ count counter_one m)
    × ((summary_of report).list ≡ length (keys (list_of list_one) m))
summary-tells report m is = (
  ap (λ ps. sum_in ps 0 64 % 2 ^ 64) is ∙ ap (λ s. s % 2 ^ 64) (sum-told m 0 64),
  ap (λ ps. sum_in ps 64 4 % 2 ^ 64) is ∙ ap (λ s. s % 2 ^ 64) (sum-told m 64 4),
  ap (λ ps. how_many (is_used ps) 32) is ∙ list-told m,
)

-- the first keys

abbrev keys_from : ℕ → ℕ → List ℕ
keys_from j zero = []
keys_from j (suc n) = j ∷ keys_from (suc j) n

from-above : (x j n : ℕ) → x < j → AllAbove x (keys_from j n)
from-above x j zero lt = tt
from-above x j (suc n) lt = (lt, from-above x (suc j) n (omega arith))

from-ascends : (j n : ℕ) → Ascends (keys_from j n)
from-ascends j zero = tt
from-ascends j (suc n) = (from-above j (suc j) n (omega arith), from-ascends (suc j) n)

from-has : (k j n : ℕ) → j ≤ k → has k (keys_from j n) ≡ ltb k (j + n)
from-has k j zero le = let q : ltb k (j + 0) ≡ false = grind (arith, nat_tests) in sym q
from-has k j (suc n) le = by (k == j) refl (λ more. from-has k (suc j) n more)
  where
    by : (t : Bool) → (k == j) ≡ t → (suc j ≤ k → has k (keys_from (suc j) n) ≡ ltb k (suc j + n)) → (t || has k (keys_from (suc j) n)) ≡ ltb k (j + suc n)
    by true q go = let e : k ≡ j = grind (arith, nat_tests) in let yes : ltb k (j + suc n) ≡ true = grind (arith, nat_tests) in sym yes
    by false q go = let d : k ≢ j = grind (arith, nat_tests) in go (omega arith) ∙ ap (λ x. ltb k x) (omega arith)

from-length : (j n : ℕ) → length (keys_from j n) ≡ n
from-length j zero = refl
from-length j (suc n) = ap suc (from-length (suc j) n)

-- a set of just the first n keys has n
first-keys : (ks : List ℕ) (n : ℕ) → Ascends ks → ((k : ℕ) → has k ks ≡ ltb k n) → length ks ≡ n
first-keys ks n up each =
    ap length (same-sets ks (keys_from 0 n) up (from-ascends 0 n) (λ k. each k ∙ (ap (λ x. ltb k x) (omega arith) ∙ sym (from-has k 0 n (omega arith))))) ∙ from-length 0 n

zero-words : (n i : ℕ) → ◌≡◌ {A = ℕ} (get_or (replicate n 0) i 0) 0
zero-words zero i = refl
zero-words (suc n) zero = refl
zero-words (suc n) (suc i) = zero-words n i

no-sum : (n a k : ℕ) → sum_from (replicate n 0) a k ≡ 0
no-sum n a zero = refl
no-sum n a (suc k) = let rest = no-sum n a k in let one = zero-words n (a + k) in omega arith

no-keys : (t : ℕ → ℕ) (k n : ℕ) → ((i : ℕ) → t i ≡ 0) → has k (keys_of t n) ≡ false
no-keys t k zero none = refl
no-keys t k (suc n) none = ap (λ v. has k (with_tag v (keys_of t n))) (none n) ∙ no-keys t k n none

-- the memory that a run begins with
opening-state : ZerosAreEmpty → State 0 0 (λ k. 0) (zeros 1024)
opening-state empty = record {
  long = length-replicate {A = ℕ} 1024 0;
  closed = λ z a lt. zero-words 1024 a;
  opened = λ z. absurd (omega arith);
  counted = ap (λ n. n % 2 ^ 64) (no-sum 1024 64 4);
  chains = empty (list_of list_one) 1024;
  keys = λ k. no-keys (tag (list_of list_one) (zeros 1024)) k 32 (λ i. zero-words 1024 (tag_at (list_of list_one) i));
  few = λ k le. refl;
}

pub summary-counted : Laws → ZerosAreEmpty → (n callers seed : ℕ) (report : Report) → n ≤ 50000 → 1 ≤ callers → Replays (generated n callers seed) report → summary_of report ≡ summary_for n
summary-counted laws empty n callers seed report small some r =
    let items = items_for n callers seed in
    let below = callers-below n callers seed some in
    let made = rows-made n callers seed in
    let end = replay-state laws (script_of items) made report.rows 0 0 (λ k. 0) (zeros 1024) r.last (opening-state empty) r.replay in
    let all : rows_sum once (script_of items) report.rows ≡ n + 1 = rows-are-items once callers items report.rows below r.complete ∙ total-once n callers seed in
    let opened : rows_sum (weigh opens) (script_of items) report.rows ≡ 1 = rows-are-items (weigh opens) callers items report.rows below r.complete ∙ total-opens n callers seed in
    let tally : rows_sum (weigh counts) (script_of items) report.rows ≡ (n + 1) / 4 = rows-are-items (weigh counts) callers items report.rows below r.complete ∙ total-counts n callers seed in
    let put : (k : ℕ) → rows_sum (weigh (inserts k)) (script_of items) report.rows ≡ items_sum (weigh (inserts k)) items = λ k. rows-are-items (weigh (inserts k)) callers items report.rows below r.complete in
    let commits : committed report.rows ≡ n + 1 = all-commit (script_of items) made report.rows (zeros 1024) r.last r.replay ∙ all in
    let told = summary-tells report r.last r.memory in
    let accounts : sum_in report.memory 0 64 % 2 ^ 64 ≡ 64000 = told.0 ∙ ap (λ s. s % 2 ^ 64) (end.opened (omega arith)) in
    let counter : sum_in report.memory 64 4 % 2 ^ 64 ≡ (n + 1) / 4 = told.1 ∙ (end.counted ∙ (ap (λ s. s % 2 ^ 64) (omega arith) ∙ mod-eq_of_lt (omega arith))) in
    let list : how_many (is_used report.memory) 32 ≡ min (n / 4) 24 =
    told.2 ∙ (first-keys (keys (list_of list_one) r.last) (min (n / 4) 24) (laws.ascend (list_of list_one) r.last end.chains)
    (λ k. end.keys k ∙ (ap (λ s. ltb 0 s) (omega (arith, put k)) ∙ total-inserts k n callers seed))) in
    λ i. record { commits = commits i; accounts = accounts i; counter = counter i; list = list i }
