-- What the transactions of a generated workload leave, in whatever order they come.
use Rattle.std.proofs.Common.{ℕ, zero, suc, ◌≡◌, ◌≢◌, ◌<◌, ◌≤◌, ◌+◌, ◌-◌, ◌%◌, ◌^◌, List, [], ◌∷◌, ◌++◌, length, set, get_or, Bool, true, false, refl, sym, ap, ◌∙◌, subst, arith, inl}
use Rattle.std.specs.Prelude.{◌==◌, ◌||◌, ltb, leb, Option, Some, None, if◌then◌else◌}
use Rattle.std.proofs.Math.ListN.{length-set}
use Rattle.std.proofs.Math.Nat.{mod-eq_of_lt, mod-add-mod}
use Rattle.std.proofs.lemmas.Bool.Decides.{nat_tests}
use Rattle.std.proofs.lemmas.List.{get_or-set_same, get_or-set_other}
use Rattle.data_effects.specs.declared.insert.Insert.TheVariants.{Present}
use Rattle.data_effects.specs.Effects.{unchanged}
use Rattle.data_effects.specs.Keys.{has, keys_after, free_from}
use Rattle.data_effects.proofs.KeyLaws.{has-with, keys-same}
use Rattle.data_cells.specs.Chains.{keys, tag, tag_at, IsChains, inserted_by, inserted_in}
use Rattle.data_cells.specs.declared.chains.Chains.{Chains}
use Rattle.data_cells.specs.Counters.{count, sum_from, added_in}
use Rattle.data_cells.specs.Structures.{list_of}
use Rattle.data_cells.specs.Statements.{AddsToSum, AddsWithin, InsertsKey, KeysAscend, DependsOnOwnWords, ChangesOwnWords}
use Rattle.data_regions.specs.Regions.{counter_one, list_one, version_one}
use Rattle.work_script.specs.declared.op.Op.{Op}
use Rattle.work_script.specs.declared.op.Op.TheVariants.{Write, Move, Count, ListInsert}
use Rattle.work_script.specs.declared.report.Kind.{Kind}
use Rattle.work_script.specs.declared.report.Kind.TheVariants.{W, R, C}
use Rattle.work_script.specs.declared.report.Row.{Row}
use Rattle.work_script.specs.Operations.{effect_of, moved, replies}
use Rattle.work_script.proofs.StructureLaws.{chain-insert-length}
use Rattle.work_script.specs.Scripts.{run, run_row, has_cancel, KindFits}
use Rattle.work_script.specs.Reports.{Replay}
use Rattle.work_gen.specs.Generated.{deposits}
use Rattle.work_gen.proofs.Weights.{weigh, opens, counts, inserts, once, rows_sum}
use Rattle.work_gen.specs.Summaries.{committed, is_committed}
use Rattle.work_gen.proofs.Lists.{sum-same, sum-put, sum-all, one-of-sum, few-keys, no-room}

-- the scripts that a generated workload has
pub data IsMade (script : List Op) : Type 0 where
  nothing : script ≡ [] → IsMade script
  opening : script ≡ deposits 64 → IsMade script
  moving : (a b k : ℕ) → a < 64 → b < 64 → script ≡ Move a b k ∷ [] → IsMade script
  counting : (stripe : ℕ) → stripe < 4 → script ≡ Count 0 stripe 1 ∷ [] → IsMade script
  inserting : (key : ℕ) → key < 24 → script ≡ ListInsert 1 key ∷ [] → IsMade script

-- the laws of structures that stand on their own functions
pub record Laws : Type 0 where
  pub sum : AddsToSum
  pub stripe : AddsWithin
  pub inserts : InsertsKey
  pub ascend : KeysAscend
  pub own : DependsOnOwnWords
  pub within : ChangesOwnWords

-- a memory after o openings, with c counted, and so many inserts of each key
pub record State (o c : ℕ) (put : ℕ → ℕ) (m : List ℕ) : Type 0 where
  pub long : length m ≡ 1024
  pub closed : o ≡ 0 → (a : ℕ) → a < 64 → get_or m a 0 ≡ 0
  pub opened : 0 < o → sum_from m 0 64 ≡ 64000
  pub counted : count counter_one m ≡ c % 2 ^ 64
  pub chains : IsChains (list_of list_one) m
  pub keys : (k : ℕ) → has k (keys (list_of list_one) m) ≡ ltb 0 (put k)
  pub few : (k : ℕ) → 24 ≤ k → put k ≡ 0

abbrev list : Chains
list = list_of list_one

-- the same state, told by other numbers
cast : (o c : ℕ) (put : ℕ → ℕ) (p d : ℕ) (more : ℕ → ℕ) (m : List ℕ) → o ≡ p → c ≡ d → ((k : ℕ) → put k ≡ more k) → State o c put m → State p d more m
cast o c put p d more m e h f s = record {
  long = s.long;
  closed = λ z. s.closed (e ∙ z);
  opened = λ z. s.opened (omega arith);
  counted = s.counted ∙ ap (λ n. n % 2 ^ 64) h;
  chains = s.chains;
  keys = λ k. s.keys k ∙ ap (λ n. ltb 0 n) (f k);
  few = λ k le. sym (f k) ∙ s.few k le;
}

-- the words of two memories from 64 on are the same
abbrev SameAbove : List ℕ → List ℕ → Type 0
SameAbove m k = (x : ℕ) → 64 ≤ x → get_or k x 0 ≡ get_or m x 0

module _ (laws : Laws) where
  -- accounts alone are written
  low-written : (o p c : ℕ) (put : ℕ → ℕ) (m k : List ℕ) → State o c put m → length k ≡ length m → SameAbove m k
      → (p ≡ 0 → (a : ℕ) → a < 64 → get_or k a 0 ≡ 0) → (0 < p → sum_from k 0 64 ≡ 64000) → State p c put k
  low-written o p c put m k s long same closed opened = record {
    long = long ∙ s.long;
    closed = closed;
    opened = opened;
    counted = ap (λ n. n % 2 ^ 64) (sum-same m k 64 4 (λ i lt. same (64 + i) (omega arith))) ∙ s.counted;
    chains = laws.own list m k s.chains (λ x low high. same x (omega arith));
    keys = λ j. ap (has j) (keys-same (tag list m) (tag list k) 32 (λ i lt. same (tag_at list i) (omega arith))) ∙ s.keys j;
    few = s.few;
  }

  zero-put : (m : List ℕ) (a v : ℕ) → a < length m → v ≡ 0 → ((i : ℕ) → i < 64 → get_or m i 0 ≡ 0) → (i : ℕ) → i < 64 → get_or (set m a v) i 0 ≡ 0
  zero-put m a v lt z all i less = by (i == a) refl
    where
      by : (t : Bool) → (i == a) ≡ t → get_or (set m a v) i 0 ≡ 0
      by true q = let e : i ≡ a = grind (arith, nat_tests) in ap (λ x. get_or (set m a v) x 0) e ∙ (get_or-set_same m a v 0 lt ∙ z)
      by false q = let d : i ≢ a = grind (arith, nat_tests) in get_or-set_other m a i v 0 d ∙ all i less

  -- a move
  move-state : (o c : ℕ) (put : ℕ → ℕ) (m : List ℕ) (a b k : ℕ) → a < 64 → b < 64 → State o c put m → State o c put (effect_of version_one (Move a b k) m).memory
  move-state o c put m a b k la lb s = by (ltb (get_or m a 0) k) refl
    where
      by : (t : Bool) → ltb (get_or m a 0) k ≡ t → State o c put (if t then replies 0 m else record { reply = 1; emits = []; memory = moved a b k m; wrote = true }).memory
      by true q = s
      by false q =
          let enough : k ≤ get_or m a 0 = grind (arith, nat_tests) in
          let less : List ℕ = set m a (get_or m a 0 - k) in
          let word : ℕ = (get_or less b 0 + k) % 2 ^ 64 in
          let size = s.long in
          let long : length less ≡ length m = length-set m a (get_or m a 0 - k) in
          low-written o o c put m (set less b word) s (length-set less b word ∙ long)
          (λ x high. get_or-set_other less b x word 0 (λ e. absurd (omega arith)) ∙ get_or-set_other m a x (get_or m a 0 - k) 0 (λ e. absurd (omega arith)))
          (λ z.
          let all : (i : ℕ) → i < 64 → get_or m i 0 ≡ 0 = s.closed z in
          let here : get_or m a 0 ≡ 0 = all a la in
          let some : (i : ℕ) → i < 64 → get_or less i 0 ≡ 0 = zero-put m a (get_or m a 0 - k) (omega arith) (omega arith) all in
          let there : get_or less b 0 ≡ 0 = some b lb in
          zero-put less b word (omega arith) (omega arith) some)
          (λ z.
          let whole : sum_from m 0 64 ≡ 64000 = s.opened z in
          let first : sum_from less 0 64 + get_or m a 0 ≡ sum_from m 0 64 + (get_or m a 0 - k) = sum-put m a (get_or m a 0 - k) 64 la (omega arith) in
          let part : get_or less b 0 ≤ sum_from less 0 64 = one-of-sum less b 64 lb in
          let second : sum_from (set less b word) 0 64 + get_or less b 0 ≡ sum_from less 0 64 + word = sum-put less b word 64 lb (omega arith) in
          let most : get_or m a 0 ≤ sum_from m 0 64 = one-of-sum m a 64 la in
          let small : word ≡ get_or less b 0 + k = mod-eq_of_lt (omega arith) in
          omega arith)

  -- a count
  count-state : (o c : ℕ) (put : ℕ → ℕ) (m : List ℕ) (stripe : ℕ) → stripe < 4 → State o c put m → State o (c + 1) put (effect_of version_one (Count 0 stripe 1) m).memory
  count-state o c put m stripe lt s =
      let k : List ℕ = (added_in counter_one stripe 1 m).memory in
      let size = s.long in
      let same : (x : ℕ) → x ≢ 64 + stripe → get_or k x 0 ≡ get_or m x 0 = λ x d. laws.stripe counter_one stripe 1 x m d in
      let keeps : length k ≡ length m = length-set m (64 + stripe) ((get_or m (64 + stripe) 0 + 1) % 2 ^ 64) in
      record {
        long = keeps ∙ s.long;
        closed = λ z a la. same a (λ e. absurd (omega arith)) ∙ s.closed z a la;
        opened = λ z. sum-same m k 0 64 (λ i less. same (0 + i) (λ e. absurd (omega arith))) ∙ s.opened z;
        counted = laws.sum counter_one stripe 1 m lt (omega arith) ∙ (ap (λ n. (n + 1) % 2 ^ 64) s.counted ∙ mod-add-mod c (2 ^ 64) 1);
        chains = laws.own list m k s.chains (λ x low high. same x (λ e. absurd (omega arith)));
        keys = λ j. ap (has j) (keys-same (tag list m) (tag list k) 32 (λ i less. same (tag_at list i) (λ e. absurd (omega arith)))) ∙ s.keys j;
        few = s.few;
      }

  -- the keys after an insert: there is always room
  insert-keys : (o c : ℕ) (put : ℕ → ℕ) (m : List ℕ) (key j : ℕ) → State o c put m
      → has j (keys_after (inserted_in list key m).reply key (keys list m)) ≡ ((j == key) || has j (keys list m))
  insert-keys o c put m key j s = by (has key (keys list m)) (free_from (tag list m) 0 32) refl refl
    where
      here : (t : Bool) → has key (keys list m) ≡ true → (j == key) ≡ t → has j (keys list m) ≡ (t || has j (keys list m))
      here true h q = let e : j ≡ key = grind (arith, nat_tests) in ap (λ x. has x (keys list m)) e ∙ h
      here false h q = refl

      below : (k : ℕ) → has k (keys list m) ≡ true → k < 24
      below k h = at (leb 24 k) refl
        where
          at : (t : Bool) → leb 24 k ≡ t → k < 24
          at true q = let none : put k ≡ 0 = s.few k (grind (arith, nat_tests)) in let some : ltb 0 (put k) ≡ true = sym (s.keys k) ∙ h in absurd (grind (arith, nat_tests))
          at false q = grind (arith, nat_tests)

      by : (t : Bool) (f : Option ℕ) → has key (keys list m) ≡ t → free_from (tag list m) 0 32 ≡ f
          → has j (keys_after (if t then unchanged Present m else inserted_by list key m f).reply key (keys list m)) ≡ ((j == key) || has j (keys list m))
      by true f h e = here (j == key) h refl
      by false (Some cell) h e = has-with j key (keys list m)
      by false None h e =
          let all : length (keys list m) ≡ 32 = no-room (tag list m) 32 e in
          let most : length (keys list m) ≤ 24 = few-keys 24 (keys list m) (laws.ascend list m s.chains) below in absurd (omega arith)

  one-key : (n key j : ℕ) (t : Bool) → (j == key) ≡ t → (t || ltb 0 n) ≡ ltb 0 (n + (if key == j then 1 else 0))
  one-key n key j true q = let e : (key == j) ≡ true = grind (arith, nat_tests) in rw e (grind (arith, nat_tests))
  one-key n key j false q = let e : (key == j) ≡ false = grind (arith, nat_tests) in rw e (ap (λ k. ltb 0 k) (omega arith))

  -- an insert
  insert-state : (o c : ℕ) (put : ℕ → ℕ) (m : List ℕ) (key : ℕ) → key < 24 → State o c put m
      → State o c (λ k. put k + (if key == k then 1 else 0)) (effect_of version_one (ListInsert 1 key) m).memory
  insert-state o c put m key lt s =
      let k : List ℕ = (inserted_in list key m).memory in
      let size = s.long in
      let same : (x : ℕ) → x < 128 → get_or k x 0 ≡ get_or m x 0 = λ x low. (laws.within list m key x s.chains (omega arith) (inl low)).0 in
      let after = laws.inserts list m key s.chains (omega arith) (omega arith) (omega arith) in
      record {
        long = chain-insert-length list key m ∙ s.long;
        closed = λ z a la. same a (omega arith) ∙ s.closed z a la;
        opened = λ z. sum-same m k 0 64 (λ i less. same (0 + i) (omega arith)) ∙ s.opened z;
        counted = ap (λ n. n % 2 ^ 64) (sum-same m k 64 4 (λ i less. same (64 + i) (omega arith))) ∙ s.counted;
        chains = after.1;
        keys = λ j. ap (has j) after.0 ∙ (insert-keys o c put m key j s ∙ (ap (λ b. (j == key) || b) (s.keys j) ∙ one-key (put j) key j (j == key) refl));
        few = λ j le. let z : put j ≡ 0 = s.few j le in let d : (key == j) ≡ false = grind (arith, nat_tests) in rw d (omega arith);
      }

-- a script that is one after another
run-append : (xs ys : List Op) (m : List ℕ) → (run version_one (xs ++ ys) m).memory ≡ (run version_one ys (run version_one xs m).memory).memory
run-append [] ys m = refl
run-append (op ∷ ops) ys m = run-append ops ys (effect_of version_one op m).memory

-- k is m after the deposits to the first n accounts
record Opened (m k : List ℕ) (n : ℕ) : Type 0 where
  long : length k ≡ length m
  each : (i : ℕ) → i < n → get_or k i 0 ≡ 1000
  above : (x : ℕ) → n ≤ x → get_or k x 0 ≡ get_or m x 0

opening-words : (m : List ℕ) (n : ℕ) → n ≤ length m → Opened m (run version_one (deposits n) m).memory n
opening-words m zero le = record { long = refl; each = λ i lt. absurd (omega arith); above = λ x high. refl }
opening-words m (suc n) le =
    let k : List ℕ = (run version_one (deposits n) m).memory in
    let old : Opened m k n = opening-words m n (omega arith) in
    let path : (run version_one (deposits (suc n)) m).memory ≡ set k n 1000 = run-append (deposits n) (Write n 1000 ∷ []) m in
    let size = old.long in
    subst (λ w. Opened m w (suc n)) (sym path) (record {
      long = length-set k n 1000 ∙ old.long;
      each = λ i lt. one k old.each size i (i == n) refl lt;
      above = λ x high. get_or-set_other k n x 1000 0 (λ e. absurd (omega arith)) ∙ old.above x (omega arith);
    })
  where
    one : (k : List ℕ) → ((i : ℕ) → i < n → get_or k i 0 ≡ 1000) → length k ≡ length m → (i : ℕ) (t : Bool) → (i == n) ≡ t → i < suc n → get_or (set k n 1000) i 0 ≡ 1000
    one k each size i true q lt = let e : i ≡ n = grind (arith, nat_tests) in ap (λ x. get_or (set k n 1000) x 0) e ∙ get_or-set_same k n 1000 0 (omega arith)
    one k each size i false q lt = let d : i ≢ n = grind (arith, nat_tests) in get_or-set_other k n i 1000 0 d ∙ each i (omega arith)

no-cancel : (s : List Op) → IsMade s → has_cancel s ≡ false
no-cancel s (nothing e) = ap has_cancel e
no-cancel s (opening e) = ap has_cancel e
no-cancel s (moving a b k la lb e) = ap has_cancel e
no-cancel s (counting stripe lt e) = ap has_cancel e
no-cancel s (inserting key lt e) = ap has_cancel e

-- a row's memory is its script's: none is cancelled
row-memory : (kind : Kind) (s : List Op) (wrote : Bool) (m : List ℕ) → IsMade s → KindFits kind s wrote → (run_row version_one kind s m).memory ≡ (run version_one s m).memory
row-memory W s wrote m made fits = refl
row-memory R s wrote m made fits = refl
row-memory C s wrote m made fits = let no = no-cancel s made in let yes = fits.0 in cc

module _ (laws : Laws) where
  opening-state : (o c : ℕ) (put : ℕ → ℕ) (m : List ℕ) → State o c put m → State (o + 1) c put (run version_one (deposits 64) m).memory
  opening-state o c put m s =
      let size = s.long in
      let k : List ℕ = (run version_one (deposits 64) m).memory in
      let w : Opened m k 64 = opening-words m 64 (omega arith) in
      low-written laws o (o + 1) c put m k s w.long w.above (λ z. absurd (omega arith)) (λ z. sum-all k 1000 64 w.each)

  -- a script, with what it weighs
  made-state : (s : List Op) → IsMade s → (o c : ℕ) (put : ℕ → ℕ) (m : List ℕ) → State o c put m
      → State (o + weigh opens s) (c + weigh counts s) (λ k. put k + weigh (inserts k) s) (run version_one s m).memory
  made-state s (nothing e) o c put m st =
      subst (λ (x : List Op). State (o + weigh opens x) (c + weigh counts x) (λ k. put k + weigh (inserts k) x) (run version_one x m).memory) (sym e)
      (cast o c put (o + 0) (c + 0) (λ k. put k + 0) m (omega arith) (omega arith) (λ k. omega arith) st)
  made-state s (opening e) o c put m st =
      subst (λ (x : List Op). State (o + weigh opens x) (c + weigh counts x) (λ k. put k + weigh (inserts k) x) (run version_one x m).memory) (sym e)
      (cast (o + 1) c put (o + 1) (c + 0) (λ k. put k + 0) (run version_one (deposits 64) m).memory refl (omega arith) (λ k. omega arith) (opening-state o c put m st))
  made-state s (moving a b k la lb e) o c put m st =
      subst (λ (x : List Op). State (o + weigh opens x) (c + weigh counts x) (λ j. put j + weigh (inserts j) x) (run version_one x m).memory) (sym e)
      (cast o c put (o + 0) (c + 0) (λ j. put j + 0) (effect_of version_one (Move a b k) m).memory (omega arith) (omega arith) (λ j. omega arith) (move-state laws o c put m a b k la lb st))
  made-state s (counting stripe lt e) o c put m st =
      subst (λ (x : List Op). State (o + weigh opens x) (c + weigh counts x) (λ j. put j + weigh (inserts j) x) (run version_one x m).memory) (sym e)
      (cast o (c + 1) put (o + 0) (c + 1) (λ j. put j + 0) (effect_of version_one (Count 0 stripe 1) m).memory (omega arith) refl (λ j. omega arith) (count-state laws o c put m stripe lt st))
  made-state s (inserting key lt e) o c put m st =
      subst (λ (x : List Op). State (o + weigh opens x) (c + weigh counts x) (λ j. put j + weigh (inserts j) x) (run version_one x m).memory) (sym e)
      (cast o c (λ j. put j + (if key == j then 1 else 0)) (o + 0) (c + 0) (λ j. put j + ((if key == j then 1 else 0) + 0))
      (effect_of version_one (ListInsert 1 key) m).memory (omega arith) (omega arith) (λ j. omega arith)
      (insert-state laws o c put m key lt st))

  -- the rows of a report, in its order
  pub replay-state : (script : Row → List Op) → ((r : Row) → IsMade (script r)) → (rows : List Row) (o c : ℕ) (put : ℕ → ℕ) (m last : List ℕ) → State o c put m
      → Replay version_one script m rows last
      → State (o + rows_sum (weigh opens) script rows) (c + rows_sum (weigh counts) script rows) (λ k. put k + rows_sum (weigh (inserts k)) script rows) last
  replay-state script made [] o c put m last st replay =
      subst (λ (w : List ℕ). State (o + 0) (c + 0) (λ k. put k + 0) w) replay (cast o c put (o + 0) (c + 0) (λ k. put k + 0) m (omega arith) (omega arith) (λ k. omega arith) st)
  replay-state script made (r ∷ rs) o c put m last st replay =
      let s : List Op = script r in
      let path : (run_row version_one r.kind s m).memory ≡ (run version_one s m).memory = row-memory r.kind s (run_row version_one r.kind s m).wrote m (made r) replay.0.kind in
      let next : State (o + weigh opens s) (c + weigh counts s) (λ k. put k + weigh (inserts k) s) (run_row version_one r.kind s m).memory =
      subst (λ (w : List ℕ). State (o + weigh opens s) (c + weigh counts s) (λ k. put k + weigh (inserts k) s) w) (sym path) (made-state s (made r) o c put m st) in
      let rest = replay-state script made rs (o + weigh opens s) (c + weigh counts s) (λ k. put k + weigh (inserts k) s) (run_row version_one r.kind s m).memory last next replay.1 in
      cast (o + weigh opens s + rows_sum (weigh opens) script rs) (c + weigh counts s + rows_sum (weigh counts) script rs) (λ k. put k + weigh (inserts k) s + rows_sum (weigh (inserts k)) script rs)
      (o + (weigh opens s + rows_sum (weigh opens) script rs)) (c + (weigh counts s + rows_sum (weigh counts) script rs)) (λ k. put k + (weigh (inserts k) s + rows_sum (weigh (inserts k)) script rs))
      last (omega arith) (omega arith) (λ k. omega arith) rest

-- all rows are of transactions that committed
pub all-commit : (script : Row → List Op) → ((r : Row) → IsMade (script r)) → (rows : List Row) (m last : List ℕ) → Replay version_one script m rows last → committed rows ≡ rows_sum once script rows
all-commit script made [] m last replay = refl
all-commit script made (r ∷ rs) m last replay = one r.kind replay.0.kind (all-commit script made rs (run_row version_one r.kind (script r) m).memory last replay.1)
  where
    one : (kind : Kind) → KindFits kind (script r) (run_row version_one r.kind (script r) m).wrote → committed rs ≡ rows_sum once script rs → is_committed kind + committed rs ≡ 1 + rows_sum once script rs
    one W fits go = ap (λ n. 1 + n) go
    one R fits go = ap (λ n. 1 + n) go
    one C fits go = let no = no-cancel (script r) (made r) in let yes = fits.0 in cc
