-- Cells of a queue, and what its calls do to them: the laws are at the end.
use Rattle.std.proofs.Common.{ℕ, zero, suc, ◌≡◌, ◌≢◌, ◌<◌, ◌≤◌, ◌+◌, ◌-◌, ◌^◌, List, [], ◌∷◌, ◌++◌, length, get_or, set, replicate, Bool, true, false, refl, sym, ap, ◌∙◌, arith, subst, length-set, inl, inr}
use Rattle.std.specs.Prelude.{ltb, leb, ◌==◌, ◌⊎◌, if◌then◌else◌, Option, Some, None}
use Rattle.std.proofs.lemmas.Bool.Decides.{nat_tests, leb_tells}
use Rattle.std.proofs.lemmas.List.{get_or-set_same, get_or-set_other}
use Rattle.data_effects.specs.Effects.{unchanged, changed}
use Rattle.data_effects.specs.EffectLaws.{zero-at}
use Rattle.data_queue.specs.declared.queue.Queue.{Queue}
use Rattle.data_queue.specs.declared.queue.Put.TheVariants.{Added, NoRoom}
use Rattle.data_queue.specs.Statements.{PutsLast, GetsFirst, CountsLength, ZerosAreEmpty, DependsOnOwnWords, ChangesOwnWords, Puts, Gets, RepliesTell, AreApart, Stays, StaysBeside}
use Rattle.data_queue.specs.Queues.{QueueFits, front, count, cell_at, cell, wrapped, index_of, values_from, contents, IsQueue, enqueued, dequeued, put_in, got_in}

wrap-low : (n i : ℕ) → i < n → wrapped n i ≡ i
wrap-low n i lt = let t : ltb i n ≡ true = grind (arith, nat_tests) in rw t refl

wrap-high : (n i : ℕ) → n ≤ i → wrapped n i ≡ i - n
wrap-high n i le = let t : ltb i n ≡ false = grind (arith, nat_tests) in rw t refl

-- which of the two it is
wrap-cases : (n i : ℕ) → ((i < n) × (wrapped n i ≡ i)) ⊎ ((n ≤ i) × (wrapped n i ≡ i - n))
wrap-cases n i = by (ltb i n) refl
  where
    by : (b : Bool) → ltb i n ≡ b → ((i < n) × (wrapped n i ≡ i)) ⊎ ((n ≤ i) × (wrapped n i ≡ i - n))
    by true e = inl (grind (arith, nat_tests), rw e refl)
    by false e = inr (grind (arith, nat_tests), rw e refl)

pub wrap-inside : (n f k : ℕ) → f < n → k ≤ n → wrapped n (f + k) < n
wrap-inside n f k lt le = by (wrap-cases n (f + k))
  where
    by : ((f + k < n) × (wrapped n (f + k) ≡ f + k)) ⊎ ((n ≤ f + k) × (wrapped n (f + k) ≡ f + k - n)) → wrapped n (f + k) < n
    by (inl h) = let e = h.1 in let l = h.0 in omega arith
    by (inr h) = let e = h.1 in let l = h.0 in omega arith

-- cells of different values differ
wrap-differ : (n f j k : ℕ) → f < n → j < n → k < n → j ≢ k → wrapped n (f + j) ≢ wrapped n (f + k)
wrap-differ n f j k lt lj lk apart = by (wrap-cases n (f + j)) (wrap-cases n (f + k))
  where
    by : ((f + j < n) × (wrapped n (f + j) ≡ f + j)) ⊎ ((n ≤ f + j) × (wrapped n (f + j) ≡ f + j - n))
        → ((f + k < n) × (wrapped n (f + k) ≡ f + k)) ⊎ ((n ≤ f + k) × (wrapped n (f + k) ≡ f + k - n))
        → wrapped n (f + j) ≢ wrapped n (f + k)
    by (inl h) (inl g) = λ e. let a = h.1 in let b = g.1 in apart (omega arith)
    by (inl h) (inr g) = λ e. let a = h.1 in let b = g.1 in let c = g.0 in let d = h.0 in absurd (omega arith)
    by (inr h) (inl g) = λ e. let a = h.1 in let b = g.1 in let c = g.0 in let d = h.0 in absurd (omega arith)
    by (inr h) (inr g) = λ e. let a = h.1 in let b = g.1 in let c = g.0 in let d = h.0 in apart (omega arith)

-- a step to the next cell, and then k more
wrap-step : (n f k : ℕ) → f < n → k < n → wrapped n (wrapped n (f + 1) + k) ≡ wrapped n (f + (k + 1))
wrap-step n f k lt lk = by (wrap-cases n (f + 1)) (wrap-cases n (f + (k + 1))) (wrap-cases n (wrapped n (f + 1) + k))
  where
    by : ((f + 1 < n) × (wrapped n (f + 1) ≡ f + 1)) ⊎ ((n ≤ f + 1) × (wrapped n (f + 1) ≡ f + 1 - n))
        → ((f + (k + 1) < n) × (wrapped n (f + (k + 1)) ≡ f + (k + 1))) ⊎ ((n ≤ f + (k + 1)) × (wrapped n (f + (k + 1)) ≡ f + (k + 1) - n))
        → ((wrapped n (f + 1) + k < n) × (wrapped n (wrapped n (f + 1) + k) ≡ wrapped n (f + 1) + k)) ⊎ ((n ≤ wrapped n (f + 1) + k) × (wrapped n (wrapped n (f + 1) + k) ≡ wrapped n (f + 1) + k - n))
        → wrapped n (wrapped n (f + 1) + k) ≡ wrapped n (f + (k + 1))
    by (inl a) (inl b) (inl c) = let x = a.1 in let y = b.1 in let z = c.1 in omega arith
    by (inl a) (inl b) (inr c) = let x = a.1 in let y = b.1 in let z = c.1 in let u = c.0 in let v = b.0 in omega arith
    by (inl a) (inr b) (inl c) = let x = a.1 in let y = b.1 in let z = c.1 in let u = c.0 in let v = b.0 in omega arith
    by (inl a) (inr b) (inr c) = let x = a.1 in let y = b.1 in let z = c.1 in let u = c.0 in let v = b.0 in omega arith
    by (inr a) (inl b) (inl c) = let x = a.1 in let y = b.1 in let z = c.1 in let u = c.0 in let v = b.0 in let w = a.0 in omega arith
    by (inr a) (inl b) (inr c) = let x = a.1 in let y = b.1 in let z = c.1 in let u = c.0 in let v = b.0 in let w = a.0 in omega arith
    by (inr a) (inr b) (inl c) = let x = a.1 in let y = b.1 in let z = c.1 in let u = c.0 in let v = b.0 in let w = a.0 in omega arith
    by (inr a) (inr b) (inr c) = let x = a.1 in let y = b.1 in let z = c.1 in let u = c.0 in let v = b.0 in let w = a.0 in omega arith

-- from the cell of the j-th value to the next
wrap-next : (n f j : ℕ) → f < n → j < n → wrapped n (wrapped n (f + j) + 1) ≡ wrapped n (f + (j + 1))
wrap-next n f j lt lj = by (wrap-cases n (f + j)) (wrap-cases n (f + (j + 1))) (wrap-cases n (wrapped n (f + j) + 1))
  where
    by : ((f + j < n) × (wrapped n (f + j) ≡ f + j)) ⊎ ((n ≤ f + j) × (wrapped n (f + j) ≡ f + j - n))
        → ((f + (j + 1) < n) × (wrapped n (f + (j + 1)) ≡ f + (j + 1))) ⊎ ((n ≤ f + (j + 1)) × (wrapped n (f + (j + 1)) ≡ f + (j + 1) - n))
        → ((wrapped n (f + j) + 1 < n) × (wrapped n (wrapped n (f + j) + 1) ≡ wrapped n (f + j) + 1)) ⊎ ((n ≤ wrapped n (f + j) + 1) × (wrapped n (wrapped n (f + j) + 1) ≡ wrapped n (f + j) + 1 - n))
        → wrapped n (wrapped n (f + j) + 1) ≡ wrapped n (f + (j + 1))
    by (inl a) (inl b) (inl c) = let x = a.1 in let y = b.1 in let z = c.1 in omega arith
    by (inl a) (inl b) (inr c) = let x = a.1 in let y = b.1 in let z = c.1 in let u = c.0 in let v = b.0 in omega arith
    by (inl a) (inr b) (inl c) = let x = a.1 in let y = b.1 in let z = c.1 in let u = c.0 in let v = b.0 in omega arith
    by (inl a) (inr b) (inr c) = let x = a.1 in let y = b.1 in let z = c.1 in let u = c.0 in let v = b.0 in omega arith
    by (inr a) (inl b) (inl c) = let x = a.1 in let y = b.1 in let z = c.1 in let u = c.0 in let v = b.0 in let w = a.0 in omega arith
    by (inr a) (inl b) (inr c) = let x = a.1 in let y = b.1 in let z = c.1 in let u = c.0 in let v = b.0 in let w = a.0 in omega arith
    by (inr a) (inr b) (inl c) = let x = a.1 in let y = b.1 in let z = c.1 in let u = c.0 in let v = b.0 in let w = a.0 in omega arith
    by (inr a) (inr b) (inr c) = let x = a.1 in let y = b.1 in let z = c.1 in let u = c.0 in let v = b.0 in let w = a.0 in omega arith

two-other : (m : List ℕ) (a v b w x : ℕ) → x ≢ a → x ≢ b → get_or (set (set m a v) b w) x 0 ≡ get_or m x 0
two-other m a v b w x na nb = get_or-set_other (set m a v) b x w 0 nb ∙ get_or-set_other m a x v 0 na

three-other : (m : List ℕ) (a v b w c u x : ℕ) → x ≢ a → x ≢ b → x ≢ c → get_or (set (set (set m a v) b w) c u) x 0 ≡ get_or m x 0
three-other m a v b w c u x na nb nc = get_or-set_other (set (set m a v) b w) c x u 0 nc ∙ two-other m a v b w x na nb

-- the same values, where the cells that hold them are the same
values_from-same : (q : Queue) (m k : List ℕ) (f j n : ℕ) → f < q.cells → j + n ≤ q.cells
    → ((i : ℕ) → i < n → cell q k (wrapped q.cells (f + (j + i))) ≡ cell q m (wrapped q.cells (f + (j + i))))
    → values_from q k (wrapped q.cells (f + j)) n ≡ values_from q m (wrapped q.cells (f + j)) n
values_from-same q m k f j zero lt le same = refl
values_from-same q m k f j (suc n) lt le same =
    let here : cell q k (wrapped q.cells (f + j)) ≡ cell q m (wrapped q.cells (f + j)) = subst
    (λ x. cell q k (wrapped q.cells (f + x)) ≡ cell q m (wrapped q.cells (f + x))) (let e : j + 0 ≡ j = omega arith in e)
    (same 0 (omega arith)) in
    let next = wrap-next q.cells f j lt (omega arith) in
    let rest = values_from-same q m k f (j + 1) n lt (omega arith) (λ i li.
    subst (λ x. cell q k (wrapped q.cells (f + x)) ≡ cell q m (wrapped q.cells (f + x))) (let e : j + suc i ≡ j + 1 + i = omega arith in e)
    (same (suc i) (omega arith))) in
    ap (λ x. x ∷ values_from q k (wrapped q.cells (wrapped q.cells (f + j) + 1)) n) here
    ∙ ap (λ l. cell q m (wrapped q.cells (f + j)) ∷ l) (ap (λ i. values_from q k i n) next ∙ (rest ∙ ap (λ i. values_from q m i n) (sym next)))

-- one value more
values_from-push : (q : Queue) (m : List ℕ) (f j n : ℕ) → f < q.cells → j + n < q.cells
    → values_from q m (wrapped q.cells (f + j)) (suc n)
    ≡ values_from q m (wrapped q.cells (f + j)) n ++ cell q m (wrapped q.cells (f + (j + n))) ∷ []
values_from-push q m f j zero lt le = ap (λ x. cell q m (wrapped q.cells (f + x)) ∷ []) (let e : j ≡ j + 0 = omega arith in e)
values_from-push q m f j (suc n) lt le =
    let next = wrap-next q.cells f j lt (omega arith) in
    let rest = values_from-push q m f (j + 1) n lt (omega arith) in
    ap (λ l. cell q m (wrapped q.cells (f + j)) ∷ l)
    (ap (λ i. values_from q m i (suc n)) next ∙ (rest ∙ (ap (λ i. values_from q m i n ++ cell q m (wrapped q.cells (f + (j + 1 + n))) ∷ []) (sym next)
    ∙ ap (λ x. values_from q m (wrapped q.cells (wrapped q.cells (f + j) + 1)) n ++ cell q m (wrapped q.cells (f + x)) ∷ []) (let e : j + 1 + n ≡ j + suc n = omega arith in e))))

pub values_from-length : (q : Queue) (m : List ℕ) (i n : ℕ) → length (values_from q m i n) ≡ n
values_from-length q m i zero = refl
values_from-length q m i (suc n) = ap suc (values_from-length q m (wrapped q.cells (i + 1)) n)

wrap-none : (n f : ℕ) → f < n → wrapped n (f + 0) ≡ f
wrap-none n f lt = let e : f + 0 ≡ f = omega arith in ap (wrapped n) e ∙ wrap-low n f lt

module _ (q : Queue) (m : List ℕ) (h : IsQueue q m) (fits : QueueFits q (length m)) where
  first : front q m < q.cells
  first = h.starts fits.0

  module _ (v : ℕ) (room : count q m < q.cells) where
    abbrev new : List ℕ
    new = enqueued q v m

    abbrev end : ℕ
    end = index_of q m (count q m)

    new-front : front q new ≡ front q m
    new-front = two-other m (cell_at q end) v (q.at + 1) (count q m + 1) q.at (λ e. absurd (omega arith)) (λ e. absurd (omega arith))

    new-count : count q new ≡ count q m + 1
    new-count = let l = length-set m (cell_at q end) v in let f = fits.1 in get_or-set_same (set m (cell_at q end) v) (q.at + 1) (count q m + 1) 0 (omega arith)

    new-other : (i : ℕ) → i ≢ end → cell q new i ≡ cell q m i
    new-other i apart = two-other m (cell_at q end) v (q.at + 1) (count q m + 1) (cell_at q i) (λ e. apart (omega arith)) (λ e. absurd (omega arith))

    new-end : cell q new end ≡ v
    new-end =
        let inside = wrap-inside q.cells (front q m) (count q m) first (omega arith) in
        let f = fits.1 in
        get_or-set_other (set m (cell_at q end) v) (q.at + 1) (cell_at q end) (count q m + 1) 0 (λ e. absurd (omega arith)) ∙ get_or-set_same m (cell_at q end) v 0 (omega arith)

    index_of-same : (k : ℕ) → index_of q new k ≡ index_of q m k
    index_of-same k = ap (λ f. wrapped q.cells (f + k)) new-front

    differ : (k : ℕ) → k < q.cells → k ≢ count q m → index_of q m k ≢ end
    differ k lk apart = wrap-differ q.cells (front q m) k (count q m) first lk room apart

    pub enqueued-keeps : v < 2 ^ 32 → IsQueue q new
    enqueued-keeps small = record {
      starts = λ z. let e = new-front in let l = first in omega arith;
      fits = let e = new-count in omega arith;
      small = λ k lt. subst (λ p. cell q new p < 2 ^ 32) (sym (index_of-same k)) (low k (let e = new-count in omega arith) (k == count q m) refl);
      spare = λ k le lt. ap (cell q new) (index_of-same k) ∙ (new-other (index_of q m k) (differ k lt (λ e. let c = new-count in absurd (omega arith))) ∙ h.spare k (let c = new-count in omega arith) lt);
    }
      where
        low : (k : ℕ) → k < count q m + 1 → (b : Bool) → (k == count q m) ≡ b → cell q new (index_of q m k) < 2 ^ 32
        low k lt true e = let s : k ≡ count q m = grind (arith, nat_tests) in subst (λ x. cell q new (index_of q m x) < 2 ^ 32) (sym s) (let t = new-end in omega arith)
        low k lt false e =
            let apart : k ≢ count q m = grind (arith, nat_tests) in
            let t = new-other (index_of q m k) (differ k (omega arith) apart) in
            let s = h.small k (omega arith) in omega arith

    pub enqueued-contents : contents q new ≡ contents q m ++ v ∷ []
    enqueued-contents =
        let f = front q m in
        let n = count q m in
        let base = wrap-none q.cells f first in
        let one : n + 1 ≡ suc n = omega arith in
        let zero-more : 0 + n ≡ n = omega arith in
        let last : cell q new (wrapped q.cells (f + (0 + n))) ≡ v = ap (λ x. cell q new (wrapped q.cells (f + x))) zero-more ∙ new-end in
        ap (λ x. values_from q new x (count q new)) new-front ∙ (ap (values_from q new f) (new-count ∙ one) ∙ (ap (λ x. values_from q new x (suc n)) (sym base) ∙ (values_from-push q new f 0 n first (omega arith)
        ∙ (ap (λ x. values_from q new (wrapped q.cells (f + 0)) n ++ x ∷ []) last ∙ (ap (λ l. l ++ v ∷ []) (values_from-same q m new f 0 n first (omega arith) (λ i lt.
        new-other (wrapped q.cells (f + (0 + i)))
        (subst (λ x. wrapped q.cells (f + x) ≢ end) (let e : i ≡ 0 + i = omega arith in e)
        (differ i (omega arith) (λ e. absurd (omega arith)))))) ∙ ap (λ x. values_from q m x n ++ v ∷ []) base)))))

  module _ (some : 0 < count q m) where
    abbrev past : List ℕ
    past = dequeued q m

    past-front : front q past ≡ index_of q m 1
    past-front =
        let l = length-set m (cell_at q (front q m)) 0 in let f = fits.1 in
        get_or-set_other (set (set m (cell_at q (front q m)) 0) q.at (index_of q m 1)) (q.at + 1) q.at (count q m - 1) 0 (λ e. absurd (omega arith))
        ∙ get_or-set_same (set m (cell_at q (front q m)) 0) q.at (index_of q m 1) 0 (omega arith)

    past-count : count q past ≡ count q m - 1
    past-count =
        let l = length-set m (cell_at q (front q m)) 0 in
        let k = length-set (set m (cell_at q (front q m)) 0) q.at (index_of q m 1) in let f = fits.1 in
        get_or-set_same (set (set m (cell_at q (front q m)) 0) q.at (index_of q m 1)) (q.at + 1) (count q m - 1) 0 (omega arith)

    past-other : (i : ℕ) → i ≢ front q m → cell q past i ≡ cell q m i
    past-other i apart = three-other m (cell_at q (front q m)) 0 q.at (index_of q m 1) (q.at + 1) (count q m - 1) (cell_at q i) (λ e. apart (omega arith)) (λ e. absurd (omega arith)) (λ e. absurd (omega arith))

    past-first : cell q past (front q m) ≡ 0
    past-first =
        let f = fits.1 in let l = first in
        two-other (set m (cell_at q (front q m)) 0) q.at (index_of q m 1) (q.at + 1) (count q m - 1) (cell_at q (front q m)) (λ e. absurd (omega arith)) (λ e. absurd (omega arith))
        ∙ get_or-set_same m (cell_at q (front q m)) 0 0 (omega arith)

    past-index_of : (k : ℕ) → k < q.cells → index_of q past k ≡ index_of q m (k + 1)
    past-index_of k lt = ap (λ f. wrapped q.cells (f + k)) past-front ∙ wrap-step q.cells (front q m) k first lt

    later : (k : ℕ) → k + 1 < q.cells → index_of q m (k + 1) ≢ front q m
    later k lt = λ e. wrap-differ q.cells (front q m) (k + 1) 0 first lt (omega arith) (λ x. absurd (omega arith)) (e ∙ sym (wrap-none q.cells (front q m) first))

    pub dequeued-keeps : IsQueue q past
    dequeued-keeps = record {
      starts = λ z. let e = past-front in let w = wrap-inside q.cells (front q m) 1 first (omega arith) in omega arith;
      fits = let e = past-count in let f = h.fits in omega arith;
      small = λ k lt. low k (let e = past-count in omega arith);
      spare = λ k le lt. ap (cell q past) (past-index_of k lt) ∙ none k (let e = past-count in omega arith) lt (ltb (k + 1) q.cells) refl;
    }
      where
        low : (k : ℕ) → k + 1 < count q m → cell q past (index_of q past k) < 2 ^ 32
        low k lt =
            let f = h.fits in
            let e = ap (cell q past) (past-index_of k (omega arith)) ∙ past-other (index_of q m (k + 1)) (later k (omega arith)) in
            let s = h.small (k + 1) lt in omega arith

        none : (k : ℕ) → count q m ≤ k + 1 → k < q.cells → (b : Bool) → ltb (k + 1) q.cells ≡ b → cell q past (index_of q m (k + 1)) ≡ 0
        none k le lt true e =
            let more : k + 1 < q.cells = grind (arith, nat_tests) in
            past-other (index_of q m (k + 1)) (later k more) ∙ h.spare (k + 1) le more
        none k le lt false e =
            let most : q.cells ≤ k + 1 = grind (arith, nat_tests) in
            let all : index_of q m (k + 1) ≡ front q m = let w = wrap-high q.cells (front q m + (k + 1)) (omega arith) in let l = first in omega arith in
            ap (cell q past) all ∙ past-first

    pub dequeued-contents : contents q m ≡ cell q m (front q m) ∷ contents q past
    dequeued-contents =
        let f = front q m in
        let n = count q m - 1 in
        let c : count q m ≡ suc n = omega arith in
        let fits' = h.fits in
        ap (values_from q m f) c ∙ ap (λ l. cell q m f ∷ l)
        (sym (values_from-same q m past f 1 n first (omega arith) (λ i lt.
        past-other (wrapped q.cells (f + (1 + i)))
        (subst (λ x. wrapped q.cells (f + x) ≢ f) (let e : i + 1 ≡ 1 + i = omega arith in e) (later i (omega arith)))))
        ∙ (ap (λ x. values_from q past x n) (sym past-front) ∙ ap (values_from q past (front q past)) (sym past-count)))

-- a put, by what was read
pub no-room : (q : Queue) (m : List ℕ) (v n : ℕ) → n ≡ count q m → q.cells ≤ n → put_in q v m ≡ unchanged NoRoom m
no-room q m v n is le = let t : leb q.cells (count q m) ≡ true = grind (arith, nat_tests) in rw t refl

pub put-added : (q : Queue) (m : List ℕ) (v n f e : ℕ) → n ≡ count q m → f ≡ front q m → n < q.cells → e ≡ wrapped q.cells (f + n) → put_in q v m ≡ changed Added (set (set m (cell_at q e) v) (q.at + 1) (n + 1))
put-added q m v n f e in' if' lt ie =
    let t : leb q.cells (count q m) ≡ false = grind (arith, nat_tests) in
    let end : index_of q m (count q m) ≡ e = ap (λ x. wrapped q.cells (x + count q m)) (sym if') ∙ (ap (λ x. wrapped q.cells (f + x)) (sym in') ∙ sym ie) in
    ap (λ b. if b then unchanged NoRoom m else changed Added (enqueued q v m)) t
    ∙ ap (changed Added) (ap (λ x. set (set m (cell_at q x) v) (q.at + 1) (count q m + 1)) end ∙ ap (λ x. set (set m (cell_at q e) v) (q.at + 1) (x + 1)) (sym in'))

keeps-by : (q : Queue) (m : List ℕ) (v : ℕ) → IsQueue q m → QueueFits q (length m) → v < 2 ^ 32 → (b : Bool) → leb q.cells (count q m) ≡ b
    → IsQueue q (if b then unchanged NoRoom m else changed Added (enqueued q v m)).memory
keeps-by q m v h fits small true e = h
keeps-by q m v h fits small false e = enqueued-keeps q m h fits v (grind (arith, nat_tests)) small

pub put-keeps : (q : Queue) (m : List ℕ) (v : ℕ) → IsQueue q m → QueueFits q (length m) → v < 2 ^ 32 → IsQueue q (put_in q v m).memory
put-keeps q m v h fits small = keeps-by q m v h fits small (leb q.cells (count q m)) refl

-- a get, by what was read
pub got-none : (q : Queue) (m : List ℕ) (n : ℕ) → n ≡ count q m → n ≡ 0 → got_in q m ≡ unchanged None m
got-none q m n is none = let t : (count q m == 0) ≡ true = grind (arith, nat_tests) in rw t refl

pub got-some : (q : Queue) (m : List ℕ) (n f x e : ℕ) → n ≡ count q m → f ≡ front q m → x ≡ cell q m f → 0 < n → e ≡ wrapped q.cells (f + 1)
    → got_in q m ≡ changed (Some x) (set (set (set m (cell_at q f) 0) q.at e) (q.at + 1) (n - 1))
got-some q m n f x e in' if' ix lt ie =
    let t : (count q m == 0) ≡ false = grind (arith, nat_tests) in
    let value : cell q m (front q m) ≡ x = ap (cell q m) (sym if') ∙ sym ix in
    let next : index_of q m 1 ≡ e = ap (λ y. wrapped q.cells (y + 1)) (sym if') ∙ sym ie in
    ap (λ b. if b then unchanged None m else changed (Some (cell q m (front q m))) (dequeued q m)) t
    ∙ (ap (λ y. changed (Some y) (dequeued q m)) value
    ∙ ap (changed (Some x)) (ap (λ y. set (set (set m (cell_at q y) 0) q.at (index_of q m 1)) (q.at + 1) (count q m - 1)) (sym if')
    ∙ (ap (λ y. set (set (set m (cell_at q f) 0) q.at y) (q.at + 1) (count q m - 1)) next ∙ ap (λ y. set (set (set m (cell_at q f) 0) q.at e) (q.at + 1) (y - 1)) (sym in'))))

got-by : (q : Queue) (m : List ℕ) → IsQueue q m → QueueFits q (length m) → (b : Bool) → (count q m == 0) ≡ b → IsQueue q (if b then unchanged None m else changed (Some (cell q m (front q m))) (dequeued q m)).memory
got-by q m h fits true e = h
got-by q m h fits false e = dequeued-keeps q m h fits (grind (arith, nat_tests))

pub got-keeps : (q : Queue) (m : List ℕ) → IsQueue q m → QueueFits q (length m) → IsQueue q (got_in q m).memory
got-keeps q m h fits = got-by q m h fits (count q m == 0) refl

-- the first value is small
pub first-small : (q : Queue) (m : List ℕ) (n f x : ℕ) → IsQueue q m → 0 < q.cells → n ≡ count q m → f ≡ front q m → x ≡ cell q m f → 0 < n → x < 2 ^ 32
first-small q m n f x h some in' if' ix lt =
    let s = h.small 0 (omega arith) in
    let at : index_of q m 0 ≡ f = wrap-none q.cells (front q m) (h.starts some) ∙ sym if' in
    let c = ap (cell q m) at in
    omega arith

pub front-inside : (q : Queue) (m : List ℕ) (f : ℕ) → IsQueue q m → 0 < q.cells → f ≡ front q m → f < q.cells
front-inside q m f h some is = let l = h.starts some in omega arith

-- THE LAWS
puts-by : (q : Queue) (m : List ℕ) (v : ℕ) → IsQueue q m → QueueFits q (length m) → (count q m < q.cells) → ((put_in q v m).reply ≡ Added) × (contents q (put_in q v m).memory ≡ contents q m ++ v ∷ [])
puts-by q m v h fits lt =
    let t : leb q.cells (count q m) ≡ false = grind (arith, nat_tests) in
    let e : put_in q v m ≡ changed Added (enqueued q v m) = ap (λ b. if b then unchanged NoRoom m else changed Added (enqueued q v m)) t in
    (ap (λ x. x.reply) e, ap (λ x. contents q x.memory) e ∙ enqueued-contents q m h fits v lt)

pub puts-last : PutsLast
puts-last q m v h fits small =
    let long : length (contents q m) ≡ count q m = values_from-length q m (front q m) (count q m) in (
      put-keeps q m v h fits small,
      (λ lt. puts-by q m v h fits (omega arith)),
      (λ le. let e = no-room q m v (count q m) refl (omega arith) in (ap (λ x. x.reply) e, ap (λ x. x.memory) e)),
    )

gets-by : (q : Queue) (m : List ℕ) (v : ℕ) (vs : List ℕ) → IsQueue q m → QueueFits q (length m) → 0 < count q m → contents q m ≡ v ∷ vs
    → ((got_in q m).reply ≡ Some v) × (contents q (got_in q m).memory ≡ vs) × (v < 2 ^ 32)
gets-by q m v vs h fits lt is =
    let t : (count q m == 0) ≡ false = grind (arith, nat_tests) in
    let e : got_in q m ≡ changed (Some (cell q m (front q m))) (dequeued q m) = ap (λ b. if b then unchanged None m else changed (Some (cell q m (front q m))) (dequeued q m)) t in
    let both = sym (dequeued-contents q m h fits lt) ∙ is in
    let value : cell q m (front q m) ≡ v = cc in
    let rest : contents q (dequeued q m) ≡ vs = cc in
    let small = first-small q m (count q m) (front q m) (cell q m (front q m)) h fits.0 refl refl refl lt in
    (ap (λ x. x.reply) e ∙ ap (λ x. let o : Option ℕ = Some x in o) value, ap (λ x. contents q x.memory) e ∙ rest, subst (λ x. x < 4294967296) value small)

pub gets-first : GetsFirst
gets-first q m h fits =
    let long : length (contents q m) ≡ count q m = values_from-length q m (front q m) (count q m) in (
      got-keeps q m h fits,
      (λ none. let z = ap length none in let e = got-none q m (count q m) refl (omega arith) in (ap (λ x. x.reply) e, ap (λ x. x.memory) e)),
      (λ v vs is. let some = ap length is in gets-by q m v vs h fits (omega arith) is),
    )

pub counts-length : CountsLength
counts-length q m = values_from-length q m (front q m) (count q m)

pub zeros-empty : ZerosAreEmpty
zeros-empty q n =
    let z = zero-at n in
    let none : count q (replicate n 0) ≡ 0 = z (q.at + 1) in (
      record {
        starts = λ some. let f = z q.at in omega arith;
        fits = omega arith;
        small = λ k lt. absurd (omega arith);
        spare = λ k le lt. z (cell_at q (index_of q (replicate n 0) k));
      },
      ap (values_from q (replicate n 0) (front q (replicate n 0))) none,
    )

pub own-words : DependsOnOwnWords
own-words q m k h same = by (ltb 0 q.cells) refl
  where
    f : front q k ≡ front q m
    f = same q.at (omega arith) (omega arith)

    n : count q k ≡ count q m
    n = same (q.at + 1) (omega arith) (omega arith)

    by : (b : Bool) → ltb 0 q.cells ≡ b → IsQueue q k
    by false e =
        let none : q.cells ≤ 0 = grind (arith, nat_tests) in let l = h.fits in
        record { starts = λ z. absurd (omega arith); fits = omega arith; small = λ j lt. absurd (omega arith); spare = λ j le lt. absurd (omega arith) }
    by true e =
        let some : 0 < q.cells = grind (arith, nat_tests) in
        let first' = h.starts some in
        let l = h.fits in
        record {
          starts = λ z. omega arith;
          fits = omega arith;
          small = λ j lt. let w = wrap-inside q.cells (front q m) j first' (omega arith) in let s = h.small j (omega arith) in
              subst (λ x. x < 4294967296) (sym (ap (λ x. cell q k (wrapped q.cells (x + j))) f ∙ same (cell_at q (index_of q m j)) (omega arith) (omega arith))) s;
          spare = λ j le lt. let w = wrap-inside q.cells (front q m) j first' (omega arith) in
              ap (λ x. cell q k (wrapped q.cells (x + j))) f ∙ (same (cell_at q (index_of q m j)) (omega arith) (omega arith) ∙ h.spare j (omega arith) lt);
        }

outside-put : (q : Queue) (m : List ℕ) (v x : ℕ) → IsQueue q m → QueueFits q (length m) → (x < q.at) ⊎ (q.at + 2 + q.cells ≤ x) → (b : Bool)
    → leb q.cells (count q m) ≡ b → get_or (if b then unchanged NoRoom m else changed Added (enqueued q v m)).memory x 0 ≡ get_or m x 0
outside-put q m v x h fits out true e = refl
outside-put q m v x h fits out false e =
    let lt : count q m < q.cells = grind (arith, nat_tests) in
    let w = wrap-inside q.cells (front q m) (count q m) (h.starts fits.0) (omega arith) in
    two-other m (cell_at q (index_of q m (count q m))) v (q.at + 1) (count q m + 1) x
    (λ s. away out (cell_at q (index_of q m (count q m))) (omega arith) (omega arith) s) (λ s.
    away out (q.at + 1) (omega arith) (let z = fits.0 in omega arith) s)
  where
    away : (x < q.at) ⊎ (q.at + 2 + q.cells ≤ x) → (a : ℕ) → q.at ≤ a → a < q.at + 2 + q.cells → x ≡ a → ⊥
    away (inl h) a low high e = absurd (omega arith)
    away (inr h) a low high e = absurd (omega arith)

outside-got : (q : Queue) (m : List ℕ) (x : ℕ) → IsQueue q m → QueueFits q (length m) → (x < q.at) ⊎ (q.at + 2 + q.cells ≤ x) → (b : Bool)
    → (count q m == 0) ≡ b
    → get_or (if b then unchanged None m else changed (Some (cell q m (front q m))) (dequeued q m)).memory x 0 ≡ get_or m x 0
outside-got q m x h fits out true e = refl
outside-got q m x h fits out false e =
    let w = h.starts fits.0 in
    three-other m (cell_at q (front q m)) 0 q.at (index_of q m 1) (q.at + 1) (count q m - 1) x
    (λ s. away out (cell_at q (front q m)) (omega arith) (omega arith) s) (λ s. away out q.at (omega arith) (omega arith) s) (λ s.
    away out (q.at + 1) (omega arith) (omega arith) s)
  where
    away : (x < q.at) ⊎ (q.at + 2 + q.cells ≤ x) → (a : ℕ) → q.at ≤ a → a < q.at + 2 + q.cells → x ≡ a → ⊥
    away (inl h) a low high e = absurd (omega arith)
    away (inr h) a low high e = absurd (omega arith)

pub changes-own : ChangesOwnWords
changes-own q m v x h fits out = (outside-put q m v x h fits out (leb q.cells (count q m)) refl, outside-got q m x h fits out (count q m == 0) refl)

-- by what a call replies
pub put-told : (q : Queue) (m : List ℕ) (v : ℕ) → IsQueue q m → QueueFits q (length m) → v < 2 ^ 32 → Puts q v (put_in q v m).reply m (put_in q v m).memory
put-told q m v h fits small =
    let law = puts-last q m v h fits small in
    elim (leb_tells q.cells (length (contents q m))) [
      | inl full ↦ (let done = law.2 full.1 in subst (λ p. Puts q v p m (put_in q v m).memory) (sym done.0) (full.1, done.1))
      | inr room ↦ (let done = law.1 room.1 in subst (λ p. Puts q v p m (put_in q v m).memory) (sym done.0) done.1)
    ]

pub get-told : (q : Queue) (m : List ℕ) → IsQueue q m → QueueFits q (length m) → Gets q (got_in q m).reply m (got_in q m).memory
get-told q m h fits = by (contents q m) refl
  where
    by : (l : List ℕ) → contents q m ≡ l → Gets q (got_in q m).reply m (got_in q m).memory
    by [] none = let law = (gets-first q m h fits).1 none in rw law.0 (none, law.1)
    by (v ∷ vs) some = let law = (gets-first q m h fits).2 v vs some in rw law.0 (some ∙ ap (λ l. v ∷ l) (sym law.1))

pub replies-tell : RepliesTell
replies-tell q m h fits = ((λ v small. (put-keeps q m v h fits small, put-told q m v h fits small)), got-keeps q m h fits, get-told q m h fits)

-- where a queue's own words are as they were
values-stay : (q : Queue) (m k : List ℕ) → ((x : ℕ) → q.at ≤ x → x < q.at + 2 + q.cells → get_or k x 0 ≡ get_or m x 0) → (i n : ℕ) → (0 < n → i < q.cells)
    → values_from q k i n ≡ values_from q m i n
values-stay q m k same i zero lt = refl
values-stay q m k same i (suc n) lt =
    let low = lt (omega arith) in
    let next = wrap-inside q.cells i 1 low (omega arith) in
    ap (λ (v : ℕ). v ∷ values_from q k (wrapped q.cells (i + 1)) n) (same (q.at + 2 + i) (omega arith) (omega arith))
    ∙ ap (λ (vs : List ℕ). cell q m i ∷ vs) (values-stay q m k same (wrapped q.cells (i + 1)) n (λ some. next))

pub stays : (q : Queue) (m k : List ℕ) → IsQueue q m → ((x : ℕ) → q.at ≤ x → x < q.at + 2 + q.cells → get_or k x 0 ≡ get_or m x 0) → Stays q m k
stays q m k h same = (
  own-words q m k h same,
  ap (λ (i : ℕ). values_from q k i (count q k)) (same q.at (omega arith) (omega arith))
      ∙ (ap (λ (n : ℕ). values_from q k (front q m) n) (same (q.at + 1) (omega arith) (omega arith)) ∙ values-stay q m k same (front q m) (count q m) (λ some. h.starts (let le = h.fits in omega arith))),
)

pub beside : StaysBeside
beside q r m v apart h fits other = (
  stays r m (put_in q v m).memory other (λ x low high. (changes-own q m v x h fits (out x low high)).0),
  stays r m (got_in q m).memory other (λ x low high. (changes-own q m v x h fits (out x low high)).1),
)
  where
    out : (x : ℕ) → r.at ≤ x → x < r.at + 2 + r.cells → (x < q.at) ⊎ (q.at + 2 + q.cells ≤ x)
    out x low high = by apart
      where
        by : AreApart q r → (x < q.at) ⊎ (q.at + 2 + q.cells ≤ x)
        by (inl after) = inr (omega arith)
        by (inr before) = inl (omega arith)
