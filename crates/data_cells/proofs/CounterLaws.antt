-- Laws of counters.
use Rattle.std.proofs.Common.{ℕ, zero, suc, ◌≡◌, ◌+◌, ◌*◌, ◌/◌, ◌%◌, ◌^◌, ◌<◌, ◌≤◌, ◌≢◌, List, length, get_or, set, Bool, true, false, refl, sym, ap, ◌∙◌, arith}
use Rattle.std.specs.Prelude.{◌==◌, slice_index}
use Rattle.std.proofs.Math.Nat.{mod-add-mod, mod-add-div, add-mul-mod_self_left}
use Rattle.std.proofs.lemmas.List.{get_or-set_same, get_or-set_other}
use Rattle.std.proofs.lemmas.Bool.Decides.{nat_tests}
use Rattle.data_cells.specs.declared.counter.Counter.{Counter}
use Rattle.data_cells.specs.Counters.{sum_from, count, added_in}

-- one more stripe
pub sum-on : (m : List ℕ) (a i t v : ℕ) → t ≡ sum_from m a i % 2 ^ 64 → v ≡ slice_index m (a + i) → (t + v) % 2 ^ 64 ≡ sum_from m a (i + 1) % 2 ^ 64
sum-on m a i t v e h = let q : i + 1 ≡ suc i = omega arith in rw (q, e, h) (mod-add-mod (sum_from m a i) (2 ^ 64) (get_or m (a + i) 0))

sum-apart : (m : List ℕ) (a x v n : ℕ) → a + n ≤ x → sum_from (set m x v) a n ≡ sum_from m a n
sum-apart m a x v zero le = refl
sum-apart m a x v (suc n) le =
    let e = sum-apart m a x v n (omega arith) in
    let s : get_or (set m x v) (a + n) 0 ≡ get_or m (a + n) 0 = get_or-set_other m x (a + n) v 0 (λ q. absurd (omega arith)) in cc

sum-set : (m : List ℕ) (a i v n : ℕ) → i < n → a + n ≤ length m → sum_from (set m (a + i) v) a n + get_or m (a + i) 0 ≡ sum_from m a n + v
sum-set m a i v zero lt le = absurd (omega arith)
sum-set m a i v (suc n) lt le = by (i == n) refl (λ less. sum-set m a i v n less (omega arith))
  where
    by : (t : Bool) → (i == n) ≡ t → (i < n → sum_from (set m (a + i) v) a n + get_or m (a + i) 0 ≡ sum_from m a n + v)
        → sum_from (set m (a + i) v) a n + get_or (set m (a + i) v) (a + n) 0 + get_or m (a + i) 0 ≡ sum_from m a n + get_or m (a + n) 0 + v
    by true q go =
        let e : i ≡ n = grind (arith, nat_tests) in
        let s = sum-apart m a (a + i) v n (omega arith) in
        let h : get_or (set m (a + i) v) (a + n) 0 ≡ v = rw e (get_or-set_same m (a + n) v 0 (omega arith)) in
        let g : get_or m (a + i) 0 ≡ get_or m (a + n) 0 = ap (λ x. get_or m (a + x) 0) e in omega arith
    by false q go =
        let d : i ≢ n = grind (arith, nat_tests) in
        let s = go (omega arith) in
        let h : get_or (set m (a + i) v) (a + n) 0 ≡ get_or m (a + n) 0 = get_or-set_other m (a + i) (a + n) v 0 (λ z. d (omega arith)) in omega arith

-- AN ADD ADDS TO THE SUM (below 2^64)
pub added-sum : (c : Counter) (stripe k : ℕ) (m : List ℕ) → stripe < c.stripes → c.at + c.stripes ≤ length m → count c (added_in c stripe k m).memory ≡ (count c m + k) % 2 ^ 64
added-sum c stripe k m lt le =
    let old : ℕ = get_or m (c.at + stripe) 0 in
    let q : ℕ = (old + k) / 2 ^ 64 in
    let e : (old + k) % 2 ^ 64 + 2 ^ 64 * q ≡ old + k = mod-add-div (old + k) (2 ^ 64) in
    let s : sum_from (set m (c.at + stripe) ((old + k) % 2 ^ 64)) c.at c.stripes + old ≡ sum_from m c.at c.stripes + (old + k) % 2 ^ 64 = sum-set m c.at stripe ((old + k) % 2 ^ 64) c.stripes lt le in
    let z : ℕ = sum_from (set m (c.at + stripe) ((old + k) % 2 ^ 64)) c.at c.stripes in
    let w : z + 2 ^ 64 * q ≡ sum_from m c.at c.stripes + k = omega arith in
    sym (add-mul-mod_self_left z (2 ^ 64) q) ∙ (ap (λ x. x % 2 ^ 64) w ∙ sym (mod-add-mod (sum_from m c.at c.stripes) (2 ^ 64) k))
