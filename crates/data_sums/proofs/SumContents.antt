-- What a put does to the pairs.
use Rattle.std.proofs.Common.{ℕ, zero, suc, ◌≡◌, ◌<◌, ◌≤◌, ◌≢◌, ◌+◌, ◌*◌, ◌^◌, List, [], ◌∷◌, length, get_or, set, Bool, true, false, refl, sym, ap, ◌∙◌, arith, subst}
use Rattle.std.specs.Prelude.{◌==◌, ltb, if◌then◌else◌, Option, Some, None, slice_index}
use Rattle.std.proofs.lemmas.List.{get_or-set_same, get_or-set_other}
use Rattle.std.proofs.lemmas.Bool.Decides.{nat_tests}
use Rattle.data_effects.specs.declared.position.Position.{Position}
use Rattle.data_effects.specs.Effects.{changed, unchanged}
use Rattle.data_effects.specs.Keys.{free_from}
use Rattle.data_effects.proofs.KeyLaws.{free-is}
use Rattle.data_tree.specs.Shapes.{Names}
use Rattle.data_tree.proofs.ShapeWalks.{Found, position-found}
use Rattle.data_sums.specs.declared.sum_map.SumMap.{SumMap}
use Rattle.data_sums.specs.declared.sum_map.MapPut.TheVariants.{Added, Replaced, NoRoom}
use Rattle.data_sums.specs.Sums.{pool, tag_at, value_at, sum_at, tag, value, IsSumMap, with_pair, pair_of, pairs_to, pairs, value_of, side_at, raised, mended_by, mended, attached, step_to, position_of, put_by, added_by, replaced_in, put_in}
use Rattle.data_sums.specs.Statements.{with_value, PutsPair}
use Rattle.data_sums.proofs.SumPairs.{value-none, value-some}
use Rattle.data_sums.proofs.SumPuts.{a-tags, a-values, a-tag, a-value, put-keeps}

-- THE MENDING changes sum words alone
pub mended-other : (r : SumMap) (key d n a : ℕ) (m : List ℕ) (x : ℕ) → ((j : ℕ) → x ≢ sum_at r j) → get_or (mended r key d n a m) x 0 ≡ get_or m x 0
mended-other r key d zero a m x out = refl
mended-other r key d (suc n) a m x out = by (slice_index m a) (λ j. mended-other r key d n (side_at r m key j) (raised r d j m) x out)
  where
    by : (v : ℕ) → ((j : ℕ) → get_or (mended r key d n (side_at r m key j) (raised r d j m)) x 0 ≡ get_or (raised r d j m) x 0)
        → get_or (mended_by (λ j. if tag r m j == suc key then raised r d j m else mended r key d n (side_at r m key j) (raised r d j m)) m v) x 0 ≡ get_or m x 0
    by zero go = refl
    by (suc j) go = at (tag r m j == suc key)
      where
        at : (b : Bool) → get_or (if b then raised r d j m else mended r key d n (side_at r m key j) (raised r d j m)) x 0 ≡ get_or m x 0
        at true = get_or-set_other m (sum_at r j) x _ 0 (out j)
        at false = go j ∙ get_or-set_other m (sum_at r j) x _ 0 (out j)

pub mended-tag : (r : SumMap) (key d n a : ℕ) (m : List ℕ) (i : ℕ) → tag r (mended r key d n a m) i ≡ tag r m i
mended-tag r key d n a m i = mended-other r key d n a m (tag_at r i) (λ j e. absurd (omega arith))

pub mended-value : (r : SumMap) (key d n a : ℕ) (m : List ℕ) (i : ℕ) → value r (mended r key d n a m) i ≡ value r m i
mended-value r key d n a m i = mended-other r key d n a m (value_at r i) (λ j e. absurd (omega arith))

pub pairs-same : (r : SumMap) (m k : List ℕ) (n : ℕ) → ((i : ℕ) → i < n → (tag r k i ≡ tag r m i) × (value r k i ≡ value r m i)) → pairs_to r k n ≡ pairs_to r m n
pairs-same r m k zero s = refl
pairs-same r m k (suc n) s = let e = pairs-same r m k n (λ i lt. s i (omega arith)) in let t = s n (omega arith) in let a = t.0 in let b = t.1 in rw (a, b, e) refl

pub pairs-mended : (r : SumMap) (key d a : ℕ) (m : List ℕ) → pairs r (mended r key d r.cells a m) ≡ pairs r m
pairs-mended r key d a m = pairs-same r m (mended r key d r.cells a m) r.cells (λ i lt. (mended-tag r key d r.cells a m i, mended-value r key d r.cells a m i))

-- PAIRS OF DIFFERENT KEYS go in in any order
pub with-swap : (p q : ℕ × ℕ) (qs : List (ℕ × ℕ)) → p.0 ≢ q.0 → with_pair p (with_pair q qs) ≡ with_pair q (with_pair p qs)
with-swap p q [] d = by (ltb p.0 q.0) refl (ltb q.0 p.0) refl
  where
    by : (s : Bool) → ltb p.0 q.0 ≡ s → (t : Bool) → ltb q.0 p.0 ≡ t → (if s then p ∷ q ∷ [] else q ∷ p ∷ []) ≡ (if t then q ∷ p ∷ [] else p ∷ q ∷ [])
    by true e true f = absurd (grind (arith, nat_tests))
    by true e false f = refl
    by false e true f = refl
    by false e false f = absurd (d (grind (arith, nat_tests)))
with-swap p q (z ∷ zs) d = by (ltb p.0 z.0) refl (ltb q.0 z.0) refl (ltb p.0 q.0) refl (ltb q.0 p.0) refl (with-swap p q zs d)
  where
    by : (x : Bool) → ltb p.0 z.0 ≡ x → (y : Bool) → ltb q.0 z.0 ≡ y → (s : Bool) → ltb p.0 q.0 ≡ s → (t : Bool) → ltb q.0 p.0 ≡ t → with_pair p (with_pair q zs) ≡ with_pair q (with_pair p zs)
        → with_pair p (if y then q ∷ z ∷ zs else z ∷ with_pair q zs) ≡ with_pair q (if x then p ∷ z ∷ zs else z ∷ with_pair p zs)
    by true i true j true e true o h = absurd (grind (arith, nat_tests))
    by true i true j true e false o h = rw (e, o, j) refl
    by true i true j false e true o h = rw (e, o, i) refl
    by true i true j false e false o h = absurd (d (grind (arith, nat_tests)))
    by true i false j true e true o h = absurd (grind (arith, nat_tests))
    by true i false j true e false o h = rw (i, o, j) refl
    by true i false j false e t o h = let l : p.0 < z.0 = grind (arith, nat_tests) in let k : z.0 ≤ q.0 = grind (arith, nat_tests) in let m : q.0 ≤ p.0 = grind (arith, nat_tests) in absurd (omega arith)
    by false i true j true e true o h = absurd (grind (arith, nat_tests))
    by false i true j false e true o h = rw (i, j, e) refl
    by false i true j s e false o h = let l : z.0 ≤ p.0 = grind (arith, nat_tests) in let k : q.0 < z.0 = grind (arith, nat_tests) in let m : p.0 ≤ q.0 = grind (arith, nat_tests) in absurd (omega arith)
    by false i false j s e t o h = rw (i, j) (ap (λ l. z ∷ l) h)

-- ANOTHER VALUE at a key
value-with : (key v old : ℕ) (qs : List (ℕ × ℕ)) → value_of key qs ≡ None → with_value (key, v) (with_pair (key, old) qs) ≡ with_pair (key, v) qs
value-with key v old [] h = let e : (key == key) ≡ true = grind (arith, nat_tests) in rw e refl
value-with key v old (q ∷ qs) h = by (ltb key q.0) (q.0 == key) refl h (value-with key v old qs)
  where
    by : (b c : Bool) → (q.0 == key) ≡ c → (if c then Some q.1 else value_of key qs) ≡ None → (value_of key qs ≡ None → with_value (key, v) (with_pair (key, old) qs) ≡ with_pair (key, v) qs)
        → with_value (key, v) (if b then (key, old) ∷ q ∷ qs else q ∷ with_pair (key, old) qs) ≡ (if b then (key, v) ∷ q ∷ qs else q ∷ with_pair (key, v) qs)
    by b true e g go = absurd cc
    by true false e g go = let y : (key == key) ≡ true = grind (arith, nat_tests) in rw y refl
    by false false e g go = rw e (ap (λ l. q ∷ l) (go g))

value-past : (key v a u : ℕ) (qs : List (ℕ × ℕ)) → a ≢ key → with_value (key, v) (with_pair (a, u) qs) ≡ with_pair (a, u) (with_value (key, v) qs)
value-past key v a u [] d = let e : (a == key) ≡ false = grind (arith, nat_tests) in rw e refl
value-past key v a u (q ∷ qs) d = by (ltb a q.0) refl (q.0 == key) refl (value-past key v a u qs d)
  where
    by : (b : Bool) → ltb a q.0 ≡ b → (c : Bool) → (q.0 == key) ≡ c → with_value (key, v) (with_pair (a, u) qs) ≡ with_pair (a, u) (with_value (key, v) qs)
        → with_value (key, v) (if b then (a, u) ∷ q ∷ qs else q ∷ with_pair (a, u) qs) ≡ with_pair (a, u) (if c then (key, v) ∷ qs else q ∷ with_value (key, v) qs)
    by true i true e h = let x : (a == key) ≡ false = grind (arith, nat_tests) in let y : ltb a key ≡ true = grind (arith, nat_tests) in rw (x, y, e) refl
    by true i false e h = let x : (a == key) ≡ false = grind (arith, nat_tests) in rw (x, i, e) refl
    by false i true e h = let y : ltb a key ≡ false = grind (arith, nat_tests) in rw (y, e) refl
    by false i false e h = rw (i, e) (ap (λ l. q ∷ l) h)

-- one cell has another value
pairs-valued : (r : SumMap) (m k : List ℕ) (key v c n : ℕ) → c < n → tag r m c ≡ suc key → value r k c ≡ v
    → ((i : ℕ) → i < n → tag r k i ≡ tag r m i) → ((i : ℕ) → i < n → i ≢ c → (value r k i ≡ value r m i) × (tag r m i ≢ suc key))
    → pairs_to r k n ≡ with_value (key, v) (pairs_to r m n)
pairs-valued r m k key v c zero lt t e tags others = absurd (omega arith)
pairs-valued r m k key v c (suc n) lt t e tags others = by (n == c) refl (λ less. pairs-valued r m k key v c n less t e (λ i l. tags i (omega arith)) (λ i l. others i (omega arith)))
  where
    past : (a u w : ℕ) → a ≢ suc key → u ≡ w → pairs_to r k n ≡ with_value (key, v) (pairs_to r m n) → pair_of a u (pairs_to r k n) ≡ with_value (key, v) (pair_of a w (pairs_to r m n))
    past zero u w d q h = h
    past (suc a) u w d q h = ap (λ x. with_pair (a, x) (pairs_to r k n)) q ∙ (ap (with_pair (a, w)) h ∙ sym (value-past key v a w (pairs_to r m n) (λ z. d (ap suc z))))

    by : (b : Bool) → (n == c) ≡ b → (c < n → pairs_to r k n ≡ with_value (key, v) (pairs_to r m n))
        → pair_of (tag r k n) (value r k n) (pairs_to r k n) ≡ with_value (key, v) (pair_of (tag r m n) (value r m n) (pairs_to r m n))
    by true q go =
        let s : n ≡ c = grind (arith, nat_tests) in
        let tm : tag r m n ≡ suc key = ap (tag r m) s ∙ t in
        let tk : tag r k n ≡ suc key = tags n (omega arith) ∙ tm in
        let vk : value r k n ≡ v = ap (value r k) s ∙ e in
        let same : pairs_to r k n ≡ pairs_to r m n = pairs-same r m k n (λ i l. (tags i (omega arith), (others i (omega arith) (λ z. absurd (omega arith))).0)) in
        let none = value-none r m key n (λ i l. (others i (omega arith) (λ z. absurd (omega arith))).1) in
        rw (tm, tk, vk, same) (sym (value-with key v (value r m n) (pairs_to r m n) none))
    by false q go =
        let d : n ≢ c = grind (arith, nat_tests) in
        let o = others n (omega arith) d in
        ap (λ x. pair_of x (value r k n) (pairs_to r k n)) (tags n (omega arith)) ∙ past (tag r m n) (value r k n) (value r m n) o.1 o.0 (go (omega arith))

-- one cell more is used
pairs-added : (r : SumMap) (m k : List ℕ) (key v c n : ℕ) → c < n → tag r m c ≡ 0 → tag r k c ≡ suc key → value r k c ≡ v
    → ((i : ℕ) → i < n → i ≢ c → (tag r k i ≡ tag r m i) × (value r k i ≡ value r m i) × (tag r m i ≢ suc key))
    → pairs_to r k n ≡ with_pair (key, v) (pairs_to r m n)
pairs-added r m k key v c zero lt f t e others = absurd (omega arith)
pairs-added r m k key v c (suc n) lt f t e others = by (n == c) refl (λ less. pairs-added r m k key v c n less f t e (λ i l. others i (omega arith)))
  where
    past : (a u : ℕ) → a ≢ suc key → pairs_to r k n ≡ with_pair (key, v) (pairs_to r m n) → pair_of a u (pairs_to r k n) ≡ with_pair (key, v) (pair_of a u (pairs_to r m n))
    past zero u d h = h
    past (suc a) u d h = ap (with_pair (a, u)) h ∙ with-swap (a, u) (key, v) (pairs_to r m n) (λ z. d (ap suc z))

    by : (b : Bool) → (n == c) ≡ b → (c < n → pairs_to r k n ≡ with_pair (key, v) (pairs_to r m n))
        → pair_of (tag r k n) (value r k n) (pairs_to r k n) ≡ with_pair (key, v) (pair_of (tag r m n) (value r m n) (pairs_to r m n))
    by true q go =
        let s : n ≡ c = grind (arith, nat_tests) in
        let tm : tag r m n ≡ 0 = ap (tag r m) s ∙ f in
        let tk : tag r k n ≡ suc key = ap (tag r k) s ∙ t in
        let vk : value r k n ≡ v = ap (value r k) s ∙ e in
        let same : pairs_to r k n ≡ pairs_to r m n = pairs-same r m k n (λ i l. (let o = others i (omega arith) (λ z. absurd (omega arith)) in (o.0, o.1))) in
        rw (tm, tk, vk, same) refl
    by false q go =
        let d : n ≢ c = grind (arith, nat_tests) in
        let o = others n (omega arith) d in
        let a = o.0 in
        let b = o.1 in
        rw (a, b) (past (tag r m n) (value r m n) o.2 (go (omega arith)))

-- HOW MANY PAIRS
length-with : (p : ℕ × ℕ) (qs : List (ℕ × ℕ)) → length (with_pair p qs) ≡ suc (length qs)
length-with p [] = refl
length-with p (q ∷ qs) = by (ltb p.0 q.0) (length-with p qs)
  where
    by : (b : Bool) → length (with_pair p qs) ≡ suc (length qs) → length (if b then p ∷ q ∷ qs else q ∷ with_pair p qs) ≡ suc (suc (length qs))
    by true h = refl
    by false h = ap suc h

length-step : (t v : ℕ) (qs : List (ℕ × ℕ)) → length (pair_of t v qs) ≤ suc (length qs)
length-step zero v qs = omega arith
length-step (suc k) v qs = let e = length-with (k, v) qs in omega arith

length-most : (r : SumMap) (m : List ℕ) (n : ℕ) → length (pairs_to r m n) ≤ n
length-most r m zero = omega arith
length-most r m (suc n) = let h = length-most r m n in let s = length-step (tag r m n) (value r m n) (pairs_to r m n) in omega arith

length-free : (r : SumMap) (m : List ℕ) (c n : ℕ) → c < n → tag r m c ≡ 0 → length (pairs_to r m n) < n
length-free r m c zero lt e = absurd (omega arith)
length-free r m c (suc n) lt e = by (n == c) refl (λ less. length-free r m c n less e)
  where
    by : (b : Bool) → (n == c) ≡ b → (c < n → length (pairs_to r m n) < n) → length (pair_of (tag r m n) (value r m n) (pairs_to r m n)) < suc n
    by true q go = let s : n ≡ c = grind (arith, nat_tests) in let t : tag r m n ≡ 0 = ap (tag r m) s ∙ e in let h = length-most r m n in rw t (omega arith)
    by false q go = let d : n ≢ c = grind (arith, nat_tests) in let h = go (omega arith) in let s = length-step (tag r m n) (value r m n) (pairs_to r m n) in omega arith

length-full : (r : SumMap) (m : List ℕ) (n : ℕ) → ((i : ℕ) → i < n → tag r m i ≢ 0) → length (pairs_to r m n) ≡ n
length-full r m zero all = refl
length-full r m (suc n) all = by (tag r m n) (all n (omega arith)) (length-full r m n (λ i lt. all i (omega arith)))
  where
    by : (t : ℕ) → t ≢ 0 → length (pairs_to r m n) ≡ n → length (pair_of t (value r m n) (pairs_to r m n)) ≡ suc n
    by zero d h = absurd (d refl)
    by (suc k) d h = length-with (k, value r m n) (pairs_to r m n) ∙ ap suc h

free-all : (t : ℕ → ℕ) (j n i : ℕ) → free_from t j n ≡ None → j ≤ i → i < j + n → t i ≢ 0
free-all t j zero i e lo hi = absurd (omega arith)
free-all t j (suc n) i e lo hi = by (t j == 0) refl (j == i) refl e (free-all t (suc j) n i)
  where
    by : (b : Bool) → (t j == 0) ≡ b → (c : Bool) → (j == i) ≡ c → (if b then Some j else free_from t (suc j) n) ≡ None → (free_from t (suc j) n ≡ None → suc j ≤ i → i < suc j + n → t i ≢ 0) → t i ≢ 0
    by true q c s e go = absurd cc
    by false q true s e go = let z : j ≡ i = grind (arith, nat_tests) in subst (λ x. t x ≢ 0) z (grind (arith, nat_tests))
    by false q false s e go = let d : j ≢ i = grind (arith, nat_tests) in go e (omega arith) (omega arith)

-- A PUT
module _ (r : SumMap) (m : List ℕ) (key v : ℕ) (w : IsSumMap r m) (room : r.at + 1 + 5 * r.cells ≤ length m) (small : key < 2 ^ 32) where
  f : Found (pool r) m w.0 key (position_of r m key)
  f = position-found (pool r) m w.0 key w.1.shape small

  absent : (position_of r m key).next ≡ 0 → (i : ℕ) → i < r.cells → tag r m i ≢ suc key
  absent e i lt t =
      let z : Names (pool r) m w.0 f.low f.high 0 = subst (Names (pool r) m w.0 f.low f.high) (f.word ∙ e) (w.1.shape.names f.low f.high (position_of r m key).link f.link) in
      z i (record { inside = lt; above = (let a = f.above in omega arith); below = (let b = f.below in omega arith) })

  there : (j : ℕ) → (position_of r m key).next ≡ suc j → (j < r.cells) × (tag r m j ≡ suc key)
  there j e =
      let z : Names (pool r) m w.0 f.low f.high (suc j) = subst (Names (pool r) m w.0 f.low f.high) (f.word ∙ e) (w.1.shape.names f.low f.high (position_of r m key).link f.link) in
      (z.0.inside, (f.some j e).1)

  once : (j i : ℕ) → j < r.cells → tag r m j ≡ suc key → i < r.cells → i ≢ j → tag r m i ≢ suc key
  once j i lj t li d e = d (w.1.shape.differ i j (record { inside = li; pos = omega arith }) (record { inside = lj; pos = omega arith }) (e ∙ sym t))

  replaced-pairs : (j : ℕ) → (position_of r m key).next ≡ suc j → ((put_in r key v m).reply ≡ Replaced) × (pairs r (put_in r key v m).memory ≡ with_value (key, v) (pairs r m))
  replaced-pairs j e =
      let o = there j e in
      let k : List ℕ = set m (value_at r j) v in
      let p : put_in r key v m ≡ replaced_in r key v j m = ap (put_by r key v m) e in
      let q = pairs-valued r m k key v j r.cells o.0 o.1 (let i = o.0 in get_or-set_same m (value_at r j) v 0 (omega arith)) (λ i l. get_or-set_other m (value_at r j) (tag_at r i) v 0 (λ x. absurd (omega arith)))
      (λ i l d. (get_or-set_other m (value_at r j) (value_at r i) v 0 (λ x. d (omega arith)), once j i o.0 o.1 l d)) in
      (ap (λ x. x.reply) p, ap (λ x. pairs r x.memory) p ∙ (pairs-mended r key (step_to (value r m j) v) r.at k ∙ q))

  added-pairs : (c : ℕ) → (position_of r m key).next ≡ 0 → free_from (tag r m) 0 r.cells ≡ Some c → ((put_in r key v m).reply ≡ Added) × (pairs r (put_in r key v m).memory ≡ with_pair (key, v) (pairs r m))
  added-pairs c e q =
      let z = free-is (tag r m) 0 r.cells c q in
      let inside : c < r.cells = (let y = z.0 in omega arith) in
      let s : Position = position_of r m key in
      let k : List ℕ = attached r key v c s.link m in
      let p : put_in r key v m ≡ changed Added (mended r key v r.cells r.at k) = ap (put_by r key v m) e ∙ ap (added_by r key v m) q in
      let h = pairs-added r m k key v c r.cells inside z.1 (a-tag r m w.0 key v c s w.1 f small e inside z.1 room) (a-value r m w.0 key v c s w.1 f small e inside z.1 room)
      (λ i l d. (a-tags r m w.0 key v c s w.1 f small e inside z.1 room i d, a-values r m w.0 key v c s w.1 f small e inside z.1 room i d, absent e i l)) in
      (ap (λ x. x.reply) p, ap (λ x. pairs r x.memory) p ∙ (pairs-mended r key v r.at k ∙ h))

  pub had : (old : ℕ) → value_of key (pairs r m) ≡ Some old → ((put_in r key v m).reply ≡ Replaced) × (pairs r (put_in r key v m).memory ≡ with_value (key, v) (pairs r m))
  had old h = by (position_of r m key).next refl
    where
      by : (n : ℕ) → (position_of r m key).next ≡ n → ((put_in r key v m).reply ≡ Replaced) × (pairs r (put_in r key v m).memory ≡ with_value (key, v) (pairs r m))
      by zero e = let z = value-none r m key r.cells (absent e) in absurd cc
      by (suc j) e = replaced-pairs j e

  lacked : value_of key (pairs r m) ≡ None → (position_of r m key).next ≡ 0
  lacked h = by (position_of r m key).next refl
    where
      by : (n : ℕ) → (position_of r m key).next ≡ n → n ≡ 0
      by zero e = refl
      by (suc j) e = let o = there j e in let z = value-some r m key j r.cells o.0 o.1 (λ i l d. once j i o.0 o.1 l d) in absurd cc

  pub roomy : value_of key (pairs r m) ≡ None → length (pairs r m) < r.cells → ((put_in r key v m).reply ≡ Added) × (pairs r (put_in r key v m).memory ≡ with_pair (key, v) (pairs r m))
  roomy h lt = by (free_from (tag r m) 0 r.cells) refl
    where
      by : (o : Option ℕ) → free_from (tag r m) 0 r.cells ≡ o → ((put_in r key v m).reply ≡ Added) × (pairs r (put_in r key v m).memory ≡ with_pair (key, v) (pairs r m))
      by None q = let e = length-full r m r.cells (λ i l. free-all (tag r m) 0 r.cells i q (omega arith) (omega arith)) in absurd (omega arith)
      by (Some c) q = added-pairs c (lacked h) q

  pub crowded : value_of key (pairs r m) ≡ None → r.cells ≤ length (pairs r m) → ((put_in r key v m).reply ≡ NoRoom) × ((put_in r key v m).memory ≡ m)
  crowded h le = by (free_from (tag r m) 0 r.cells) refl
    where
      by : (o : Option ℕ) → free_from (tag r m) 0 r.cells ≡ o → ((put_in r key v m).reply ≡ NoRoom) × ((put_in r key v m).memory ≡ m)
      by None q = let p : put_in r key v m ≡ unchanged NoRoom m = ap (put_by r key v m) (lacked h) ∙ ap (added_by r key v m) q in (ap (λ x. x.reply) p, ap (λ x. x.memory) p)
      by (Some c) q = let z = free-is (tag r m) 0 r.cells c q in let y = z.0 in let e = length-free r m c r.cells (omega arith) z.1 in absurd (omega arith)

pub puts-pair : PutsPair
puts-pair r m key v w fits values small fv = (put-keeps r m key v w values small fits.0, had r m key v w fits.0 small, roomy r m key v w fits.0 small, crowded r m key v w fits.0 small)
