-- What a memory has in its first words, or in a range of them: their sum, and how many pass a test.
use Rattle.std.proofs.Common.{ℕ, suc, ◌≡◌, ◌≢◌, ◌<◌, ◌≤◌, ◌+◌, ◌-◌, ◌*◌, ◌∙◌, Bool, true, false, List, [], ◌∷◌, length, get_or, set, take, drop, sum, refl, sym, ap, arith, subst, length-take-le, get_or-take, get_or-drop, get_or-set_other, drop-set-lt}
use Rattle.std.specs.Prelude.{sum_by, cond, min}
use Rattle.std.proofs.lemmas.Bool.Decides.{nat_tests}
use Rattle.std.proofs.lemmas.Grind.{elements, get_or-set_at}
use Rattle.std.proofs.lemmas.List.{take-set-le, drop-set-add, length-drop, length-take, get_or_default}
use Rattle.std.proofs.lemmas.List.Sums.{sum_by-set, sum_by-le, get_or-le-sum_by, count_by-le-length}
use Rattle.std.proofs.Math.ListN.{length-set}
use Rattle.std.proofs.Math.Seq.{take-set-lt}
use Rattle.stm_model.specs.Memories.{written}
use Rattle.tx_transaction.specs.Words.{words_in, sum_in, count_in}

-- THE FIRST WORDS, each counted by f
module _ (f : ℕ → ℕ) where
  first-part : (m : List ℕ) (n a : ℕ) → a < n → n ≤ length m → f (get_or m a 0) ≤ sum_by f (take n m)
  first-part m n a lt le =
      let at = ap f (get_or-take n m a 0 lt) in
      let long = length-take-le n m le in
      let part = get_or-le-sum_by f (take n m) a 0 (omega arith) in
      omega arith

  first-set : (m : List ℕ) (n a v : ℕ) → a < n → n ≤ length m → sum_by f (take n (set m a v)) + f (get_or m a 0) ≡ sum_by f (take n m) + f v
  first-set m n a v lt le =
      let at = ap f (get_or-take n m a 0 lt) in
      let long = length-take-le n m le in
      let same : sum_by f (take n (set m a v)) ≡ sum_by f (set (take n m) a v) = ap (sum_by f) (take-set-lt n m a v lt) in
      let moved = sum_by-set f (take n m) a v 0 (omega arith) in
      omega arith

-- a word of the first n is a part of their sum
pub part-of-sum : (m : List ℕ) (n a : ℕ) → a < n → n ≤ length m → get_or m a 0 ≤ sum (take n m)
part-of-sum m n a lt le = first-part (λ x. x) m n a lt le

-- which a write of it changes by as much
pub sum-set : (m : List ℕ) (n a v : ℕ) → a < n → n ≤ length m → sum (take n (set m a v)) + get_or m a 0 ≡ sum (take n m) + v
sum-set m n a v lt le = first-set (λ x. x) m n a v lt le

-- and a write of a word past them leaves
pub sum-past : (m : List ℕ) (n a v : ℕ) → n ≤ a → sum (take n (set m a v)) ≡ sum (take n m)
sum-past m n a v past = ap sum (take-set-le n m a v past)

-- two of them are parts of it together
pub parts-of-sum : (m : List ℕ) (n a b : ℕ) → a < n → b < n → a ≢ b → n ≤ length m → get_or m a 0 + get_or m b 0 ≤ sum (take n m)
parts-of-sum m n a b low high apart le =
    let without = sum-set m n a 0 low le in
    let part = part-of-sum (set m a 0) n b high (simp length-set le) in
    let other : get_or (set m a 0) b 0 ≡ get_or m b 0 = get_or-set_other m a b 0 0 (λ e. apart (sym e)) in omega arith

-- where one of them loses what another gains, the sum is as before
pub sum-moves : (m : List ℕ) (n a b v w : ℕ) → a < n → b < n → a ≢ b → n ≤ length m → v + w ≡ get_or m a 0 + get_or m b 0
    → sum (take n (written m ((a, v) ∷ (b, w) ∷ []))) ≡ sum (take n m)
sum-moves m n a b v w low high apart le same =
    let one = sum-set m n a v low le in
    let two = sum-set (set m a v) n b w high (simp length-set le) in
    let other : get_or (set m a v) b 0 ≡ get_or m b 0 = get_or-set_other m a b v 0 (λ e. apart (sym e)) in omega arith

-- A RANGE'S WORDS, each counted by f
module _ (f : ℕ → ℕ) where
  within-part : (m : List ℕ) (start end a : ℕ) → start ≤ a → a < end → end ≤ length m → f (get_or m a 0) ≤ sum_by f (words_in start end m)
  within-part m start end a from lt le =
      let at : get_or (drop start m) (a - start) 0 ≡ get_or m a 0 = get_or-drop start m (a - start) 0 ∙ ap (λ (i : ℕ). get_or m i 0) (let is : start + (a - start) ≡ a = omega arith in is) in
      let same = ap f at in
      let long = length-drop start m in
      let part = first-part f (drop start m) (end - start) (a - start) (omega arith) (omega arith) in
      omega arith

  within-set : (m : List ℕ) (start end a v : ℕ) → start ≤ a → a < end → end ≤ length m → sum_by f (words_in start end (set m a v)) + f (get_or m a 0) ≡ sum_by f (words_in start end m) + f v
  within-set m start end a v from lt le =
      let is : start + (a - start) ≡ a = omega arith in
      let at : get_or (drop start m) (a - start) 0 ≡ get_or m a 0 = get_or-drop start m (a - start) 0 ∙ ap (λ (i : ℕ). get_or m i 0) is in
      let same = ap f at in
      let long = length-drop start m in
      let there : drop start (set m a v) ≡ set (drop start m) (a - start) v = ap (λ (i : ℕ). drop start (set m i v)) (sym is) ∙ drop-set-add start m (a - start) v in
      let moved = first-set f (drop start m) (end - start) (a - start) v (omega arith) (omega arith) in
      let here = ap (λ (xs : List ℕ). sum_by f (take (end - start) xs)) there in
      omega arith

  within-past : (m : List ℕ) (start end a v : ℕ) → end ≤ a → start ≤ end → sum_by f (words_in start end (set m a v)) ≡ sum_by f (words_in start end m)
  within-past m start end a v past from =
      let is : start + (a - start) ≡ a = omega arith in
      let there : drop start (set m a v) ≡ set (drop start m) (a - start) v = ap (λ (i : ℕ). drop start (set m i v)) (sym is) ∙ drop-set-add start m (a - start) v in
      ap (λ (xs : List ℕ). sum_by f (take (end - start) xs)) there ∙ ap (sum_by f) (take-set-le (end - start) (drop start m) (a - start) v (omega arith))

  within-before : (m : List ℕ) (start end a v : ℕ) → a < start → sum_by f (words_in start end (set m a v)) ≡ sum_by f (words_in start end m)
  within-before m start end a v before = ap (λ (xs : List ℕ). sum_by f (take (end - start) xs)) (drop-set-lt start m a v before)

-- a word of a range is a part of its sum
pub part-of-range : (m : List ℕ) (start end a : ℕ) → start ≤ a → a < end → end ≤ length m → get_or m a 0 ≤ sum_in start end m
part-of-range m start end a from lt le = within-part (λ x. x) m start end a from lt le

-- which a write of it changes by as much
pub range-set : (m : List ℕ) (start end a v : ℕ) → start ≤ a → a < end → end ≤ length m → sum_in start end (set m a v) + get_or m a 0 ≡ sum_in start end m + v
range-set m start end a v from lt le = within-set (λ x. x) m start end a v from lt le

-- and a write past it, or before it, leaves
pub range-past : (m : List ℕ) (start end a v : ℕ) → end ≤ a → start ≤ end → sum_in start end (set m a v) ≡ sum_in start end m
range-past m start end a v past from = within-past (λ x. x) m start end a v past from

pub range-before : (m : List ℕ) (start end a v : ℕ) → a < start → sum_in start end (set m a v) ≡ sum_in start end m
range-before m start end a v before = within-before (λ x. x) m start end a v before

-- where each is at most so much, it is at most so many times that
pub range-most : (m : List ℕ) (start end most : ℕ) → start ≤ end → end ≤ length m → ((a : ℕ) → start ≤ a → a < end → get_or m a 0 ≤ most) → sum_in start end m ≤ (end - start) * most
range-most m start end most from le each =
    let long = length-drop start m in
    let many = length-take-le (end - start) (drop start m) (omega arith) in
    let sum = sum_by-le (λ x. x) most (words_in start end m) (λ k d lt.
    let at : get_or (words_in start end m) k d ≡ get_or m (start + k) d = get_or-take (end - start) (drop start m) k d (omega arith) ∙ get_or-drop start m k d in
    let same = get_or_default m (start + k) d 0 (omega arith) in
    let here = each (start + k) (omega arith) (omega arith) in
    omega arith) in
    subst (λ (n : ℕ). sum_in start end m ≤ n * most) many sum

-- how many of a range's words pass a test: of a write in it, and past it
pub count-set : (passes : ℕ → Bool) (m : List ℕ) (start end a v : ℕ) → start ≤ a → a < end → end ≤ length m
    → count_in passes start end (set m a v) + cond (passes (get_or m a 0)) 1 0 ≡ count_in passes start end m + cond (passes v) 1 0
count-set passes m start end a v from lt le = within-set (λ x. cond (passes x) 1 0) m start end a v from lt le

pub count-past : (passes : ℕ → Bool) (m : List ℕ) (start end a v : ℕ) → end ≤ a → start ≤ end → count_in passes start end (set m a v) ≡ count_in passes start end m
count-past passes m start end a v past from = within-past (λ x. cond (passes x) 1 0) m start end a v past from

pub count-before : (passes : ℕ → Bool) (m : List ℕ) (start end a v : ℕ) → a < start → count_in passes start end (set m a v) ≡ count_in passes start end m
count-before passes m start end a v before = within-before (λ x. cond (passes x) 1 0) m start end a v before

-- they are no more than the range has
pub count-most : (passes : ℕ → Bool) (m : List ℕ) (start end : ℕ) → count_in passes start end m ≤ end - start
count-most passes m start end =
    let few = count_by-le-length passes (words_in start end m) in
    let long : length (words_in start end m) ≡ min (end - start) (length (drop start m)) = length-take (end - start) (drop start m) in
    omega arith

-- one that passes counts
pub part-of-count : (passes : ℕ → Bool) (m : List ℕ) (start end a : ℕ) → start ≤ a → a < end → end ≤ length m → cond {A = ℕ} (passes (get_or m a 0)) 1 0 ≤ count_in passes start end m
part-of-count passes m start end a from lt le = within-part (λ x. cond (passes x) 1 0) m start end a from lt le

-- where none passes, this one doesn't
pub none-passes : (passes : ℕ → Bool) (m : List ℕ) (start end a : ℕ) → count_in passes start end m ≡ 0 → start ≤ a → a < end → end ≤ length m → passes (get_or m a 0) ≡ false
none-passes passes m start end a none from lt le = by (passes (get_or m a 0)) (part-of-count passes m start end a from lt le)
  where
    by : (b : Bool) → cond b 1 0 ≤ count_in passes start end m → b ≡ false
    by true one = absurd (omega arith)
    by false one = refl

-- what a write leaves of a memory
pub length-written : (m : List ℕ) (a v : ℕ) → length (set m a v) ≡ length m
length-written m a v = length-set m a v

pub word-written : (m : List ℕ) (a b v : ℕ) → b ≡ a → a < length m → get_or (set m a v) b 0 ≡ v
word-written m a b v = get_or-set_at m a b v 0

pub word-beside : (m : List ℕ) (a b v : ℕ) → b ≢ a → get_or (set m a v) b 0 ≡ get_or m b 0
word-beside m a b v = get_or-set_other m a b v 0

-- for `grind`: what a memory under the rule has after writes, and the sum of its first words, or of a range
pub ruleset sum_steps = (arith, nat_tests, elements, part-of-sum, parts-of-sum, sum-set, sum-past)

pub ruleset range_steps = (arith, nat_tests, elements, part-of-range, range-set, range-past, range-before)

-- for `omega`: such sums, where `grind` splits cases without end
pub ruleset sum_facts = (arith, sum-set, sum-past, length-written, word-written, word-beside)

pub ruleset range_facts = (arith, range-set, range-past, range-before, count-set, count-past, count-before, length-written, word-written, word-beside)
