-- Searches and changes of an index.
use Rattle.std.proofs.Common.{ℕ, zero, suc, ◌≡◌, ◌≢◌, ◌<◌, ◌≤◌, ◌+◌, ◌-◌, ◌*◌, ◌%◌, ◌⊎◌, inl, inr, List, [], ◌∷◌, ◌++◌, length, get_or, set, take, drop, Bool, true, false, refl, sym, ap, ◌∙◌, subst, arith, length-append, length-drop}
use Rattle.std.specs.Prelude.{nat_lt, Option, Some, None, MatchOption, ◌==◌, if◌then◌else◌}
use Rattle.std.specs.List.{sum_by}
use Rattle.std.proofs.lemmas.Bool.{cases_lt, cases_order}
use Rattle.std.proofs.lemmas.Bool.Decides.{nat_tests}
use Rattle.std.proofs.lemmas.Nat.{mod_below}
use Rattle.std.proofs.Math.Nat.{div-lt_iff_lt-mul, mul-lt-mul_of_pos_right}
use Rattle.std.proofs.lemmas.List.{append-nil, drop_all, length-set, length-take-le, get_or-set_same, get_or-set_other, get_or-drop, get_or-take, get_or_append_left, get_or-append_right, take_more}
use Rattle.std.proofs.lemmas.List.Sums.{sum_by-append, sum_by-cons, sum_by-set, sum_by-take-drop}
use Rattle.std.proofs.Math.Seq.{get_or-append_seam, take-length}
use Rattle.stm_model.specs.Memories.{item_at, Once}
use Rattle.stm_logs.specs.declared.index.Bucket.{Bucket}
use Rattle.stm_logs.specs.declared.index.Lookup.{Lookup}
use Rattle.stm_logs.specs.declared.index.Homes.{Homes}
use Rattle.stm_logs.specs.declared.index.Homes.TheVariants.{Mixed, Modulo}
use Rattle.stm_logs.specs.Buckets.{home_of, wrapped, blank, bucket_at, address_of, AllTaken, taken, Reaches, IsIndex, IsLookup}
use Rattle.stm_logs.proofs.ItemLemmas.{SameAddresses, none-other, none-where, once-same, once-more, once-less, once-apart}

pub wrapped-low : (m x : ℕ) → x < m → wrapped m x ≡ x
wrapped-low m x h = by (nat_lt x m) refl
  where
    by : (t : Bool) → nat_lt x m ≡ t → (if t then x else x - m) ≡ x
    by true e = refl
    by false e = absurd (grind (arith, nat_tests))

pub wrapped-high : (m x : ℕ) → m ≤ x → wrapped m x ≡ x - m
wrapped-high m x h = by (nat_lt x m) refl
  where
    by : (t : Bool) → nat_lt x m ≡ t → (if t then x else x - m) ≡ x - m
    by true e = absurd (grind (arith, nat_tests))
    by false e = refl

pub wrapped-below : (m x : ℕ) → x < m + m → wrapped m x < m
wrapped-below m x h = elim (cases_lt x m) [
  | inl l ↦ rw (wrapped-low m x l) l
  | inr l ↦ rw (wrapped-high m x l) (omega arith)
]

pub home-below : (homes : Homes) (buckets a : ℕ) → 0 < buckets → home_of homes buckets a < buckets
home-below Mixed buckets a some =
    let part : a % 4294967296 * 1339872799 % 4294967296 < 4294967296 = omega arith in
    (div-lt_iff_lt-mul (omega arith)).1 (let h : a % 4294967296 * 1339872799 % 4294967296 * buckets < 4294967296 * buckets = mul-lt-mul_of_pos_right part some in omega arith)
home-below Modulo buckets a some = mod_below a buckets some

-- a list whose first d buckets are taken has d taken buckets
front-taken : (g : ℕ) (bs : List Bucket) (d : ℕ) → d ≤ length bs → ((k : ℕ) → k < d → (get_or bs k blank).mark ≡ g) → d ≤ sum_by (taken g) bs
front-taken g bs zero h t = omega arith
front-taken g [] (suc d) h t = omega arith
front-taken g (p ∷ bs) (suc d) h t =
    let rest : d ≤ sum_by (taken g) bs = front-taken g bs d (omega arith) (λ k l. t (suc k) (omega arith)) in
    let here : p.mark ≡ g = t 0 (omega arith) in
    rw (sum_by-cons (taken g) p bs) (by (p.mark == g) refl here rest)
  where
    by : (t : Bool) → (p.mark == g) ≡ t → p.mark ≡ g → d ≤ sum_by (taken g) bs → suc d ≤ (if t then 1 else 0) + sum_by (taken g) bs
    by true e h r = omega arith
    by false e h r = absurd (grind (arith, nat_tests))

rotated : (bs : List Bucket) (h k : ℕ) → h < length bs → k < length bs → get_or (drop h bs ++ take h bs) k blank ≡ bucket_at bs (h + k)
rotated bs h k lh lk =
    let n : length (drop h bs) ≡ length bs - h = length-drop h bs in
    elim (cases_lt (h + k) (length bs)) [
      | inl l ↦ get_or_append_left (drop h bs) (take h bs) _ k (omega arith) ∙ (get_or-drop h bs k _ ∙ ap (λ x. get_or bs x blank) (sym (wrapped-low (length bs) (h + k) l)))
      | inr l ↦ get_or-append_right (drop h bs) (take h bs) (length bs - h) k _ n (omega arith) ∙ (get_or-take h bs (k - (length bs - h)) _ (omega arith) ∙ ap (λ x. get_or bs x blank) (let e : k - (length bs - h) ≡ h + k - length bs = omega arith in e ∙ sym (wrapped-high (length bs) (h + k) l)))
    ]

-- d taken buckets one after the other, round the end, are at most as many as are taken at all
pub run-taken : (g : ℕ) (bs : List Bucket) (h d : ℕ) → h < length bs → d ≤ length bs → AllTaken g bs h d → d ≤ sum_by (taken g) bs
run-taken g bs h d lh ld t =
    let n : length (drop h bs ++ take h bs) ≡ length bs = omega (arith, length-append (drop h bs) (take h bs), length-drop h bs, length-take-le h bs (omega arith)) in
    let front : d ≤ sum_by (taken g) (drop h bs ++ take h bs) = front-taken g (drop h bs ++ take h bs) d (omega arith) (λ k l. ap (λ (p : Bucket). p.mark) (rotated bs h k lh (omega arith)) ∙ t k l) in
    omega (arith, sum_by-take-drop (taken g) bs h, sum_by-append (taken g) (drop h bs) (take h bs))

-- what a search from the address's home has seen
pub record IsSearch (homes : Homes) (g : ℕ) (items : List (ℕ × ℕ)) (bs : List Bucket) (a at distance : ℕ) : Type 0 where
  pub few : distance ≤ length items
  pub at-is : at ≡ wrapped (length bs) (home_of homes (length bs) a + distance)
  pub within : at < length bs
  pub passed : AllTaken g bs (home_of homes (length bs) a) distance
  pub others : (k : ℕ) → k < distance → address_of items (bucket_at bs (home_of homes (length bs) a + k)).item ≢ a

pub here-is : (bs : List Bucket) (x : ℕ) → x < length bs → bucket_at bs x ≡ get_or bs x blank
here-is bs x l = ap (λ y. get_or bs y blank) (wrapped-low (length bs) x l)

last-is : {homes : Homes} (g : ℕ) (items : List (ℕ × ℕ)) (bs : List Bucket) (a at d : ℕ) → IsSearch homes g items bs a at d → bucket_at bs (home_of homes (length bs) a + d) ≡ get_or bs at blank
last-is g items bs a at d s = ap (λ y. get_or bs y blank) (sym s.at-is)

-- an open bucket ends the search: the address isn't there
pub lookup-open : {homes : Homes} (g : ℕ) (items : List (ℕ × ℕ)) (bs : List Bucket) (a at d : ℕ) → IsIndex homes g items bs → IsSearch homes g items bs a at d → (get_or bs at blank).mark ≢ g → IsLookup homes g items bs a (record { at = at; distance = d; item = None })
lookup-open {homes} g items bs a at d x s free = record {
  within = s.within;
  distance = s.few;
  at = s.at-is;
  passed = s.passed;
  others = s.others;
  answer = (none-where items a absent, (λ e. free (sym (ap (λ (p : Bucket). p.mark) (here-is bs at s.within)) ∙ e)));
}
  where
    absent : (i : ℕ) → i < length items → address_of items i ≢ a
    absent i l e =
        let st = subst (λ b. Reaches g bs (home_of homes (length bs) b) i) e (x.reached i l) in
        let is = ap (λ (p : Bucket). p.mark) (last-is g items bs a at d s) in
        elim (cases_order st.distance d) [
          | inl same ↦ free (sym is ∙ subst (λ k. (bucket_at bs (home_of homes (length bs) a + k)).mark ≡ g) same st.mark)
          | inr other ↦ elim other [
            | inl before ↦ s.others st.distance before (ap (address_of items) st.item ∙ e)
            | inr after ↦ free (sym is ∙ st.passed d after)
          ]
        ]

-- an open home ends it at once
pub home-open : {homes : Homes} (g : ℕ) (items : List (ℕ × ℕ)) (bs : List Bucket) (a home : ℕ) → IsIndex homes g items bs → 0 < length bs → home ≡ home_of homes (length bs) a → (get_or bs home blank).mark ≢ g → IsLookup homes g items bs a (record { at = home; distance = 0; item = None })
home-open {homes} g items bs a home x some is free =
    let low : home < length bs = omega (arith, home-below homes (length bs) a some) in
    let first : home ≡ wrapped (length bs) (home_of homes (length bs) a + 0) = sym (ap (wrapped (length bs)) (omega arith) ∙ wrapped-low (length bs) home low) in
    lookup-open g items bs a home 0 x (record { few = omega arith; at-is = first; within = low; passed = λ k l. absurd (omega arith); others = λ k l. absurd (omega arith) }) free

pub named : {homes : Homes} (g : ℕ) (items : List (ℕ × ℕ)) (bs : List Bucket) (x : ℕ) → IsIndex homes g items bs → x < length bs → (get_or bs x blank).mark ≡ g → (get_or bs x blank).item < length items
named g items bs x h l m =
    let e = here-is bs x l in
    let n : (bucket_at bs x).item < length items = h.names x l (ap (λ (p : Bucket). p.mark) e ∙ m) in
    omega (arith, ap (λ (p : Bucket). p.item) e)

-- one bucket on
pub search-goes : {homes : Homes} (g : ℕ) (items : List (ℕ × ℕ)) (bs : List Bucket) (a at d : ℕ) → IsIndex homes g items bs → length items < length bs → IsSearch homes g items bs a at d → (get_or bs at blank).mark ≡ g → address_of items (get_or bs at blank).item ≢ a → (next : ℕ) → next ≡ wrapped (length bs) (at + 1) → IsSearch homes g items bs a next (d + 1)
search-goes {homes} g items bs a at d x room s mark other next is =
    let m = length bs in
    let h = home_of homes (length bs) a in
    let home : h < m = home-below homes (length bs) a (omega (arith, s.within)) in
    let same = last-is g items bs a at d s in
    let passed : AllTaken g bs h (d + 1) = λ k l. elim (cases_lt k d) [ inl b ↦ s.passed k b | inr e ↦ (let z : k ≡ d = omega arith in subst (λ y. (bucket_at bs (h + y)).mark ≡ g) (sym z) (ap (λ (p : Bucket). p.mark) same ∙ mark)) ] in
    let others : (k : ℕ) → k < d + 1 → address_of items (bucket_at bs (h + k)).item ≢ a = λ k l. elim (cases_lt k d) [ inl b ↦ s.others k b | inr e ↦ (let z : k ≡ d = omega arith in subst (λ y. address_of items (bucket_at bs (h + y)).item ≢ a) (sym z) (λ f. other (sym (ap (λ (p : Bucket). address_of items p.item) same) ∙ f))) ] in
    let run : d + 1 ≤ sum_by (taken g) bs = run-taken g bs h (d + 1) home (omega (arith, s.few)) passed in
    let few : d + 1 ≤ length items = omega (arith, x.few) in
    let at-is : next ≡ wrapped m (h + (d + 1)) = is ∙ on m h d at home (omega arith) s.at-is in
    record { few = few; at-is = at-is; within = rw at-is (wrapped-below m (h + (d + 1)) (omega arith)); passed = passed; others = others }
  where
    on : (m h d at : ℕ) → h < m → d < m → at ≡ wrapped m (h + d) → wrapped m (at + 1) ≡ wrapped m (h + (d + 1))
    on m h d at lh ld e = grind (arith, nat_tests)

-- where no bucket has the generation's mark, the log is empty
pub index-empty : {homes : Homes} (g : ℕ) (bs : List Bucket) → ((x : ℕ) → x < length bs → (get_or bs x blank).mark < g) → IsIndex homes g [] bs
index-empty g bs h = record {
  once = tt;
  reached = λ i l. absurd (omega arith);
  names = λ x l e. absurd (omega (arith, below x l));
  single = λ x y l b e. absurd (omega (arith, below x l));
  latest = λ x l. (let b = below x l in omega arith);
  few = none-taken bs h;
}
  where
    below : (x : ℕ) → x < length bs → (bucket_at bs x).mark < g
    below x l = rw (wrapped-low (length bs) x l) (h x l)

    none-taken : (bs : List Bucket) → ((x : ℕ) → x < length bs → (get_or bs x blank).mark < g) → sum_by (taken g) bs ≤ 0
    none-taken [] h = omega arith
    none-taken (p ∷ bs) h = rw (sum_by-cons (taken g) p bs) (by (p.mark == g) refl (h 0 (omega arith)) (none-taken bs (λ x l. h (suc x) (omega arith))))
      where
        by : (t : Bool) → (p.mark == g) ≡ t → p.mark < g → sum_by (taken g) bs ≤ 0 → (if t then 1 else 0) + sum_by (taken g) bs ≤ 0
        by true e l r = absurd (grind (arith, nat_tests))
        by false e l r = omega arith

-- a write of an open bucket leaves the taken ones as they are
bucket-set : (g : ℕ) (bs : List Bucket) (at : ℕ) (q : Bucket) (y : ℕ) → at < length bs → (bucket_at bs at).mark ≢ g → (bucket_at bs y).mark ≡ g → bucket_at (set bs at q) y ≡ bucket_at bs y
bucket-set g bs at q y l n t =
    let apart : wrapped (length bs) y ≢ at = λ e. n (ap (λ z. (get_or bs z blank).mark) (wrapped-low (length bs) at l ∙ sym e) ∙ t) in
    rw (length-set bs at q) (get_or-set_other bs at (wrapped (length bs) y) q _ apart)

bucket-new : (bs : List Bucket) (at : ℕ) (q : Bucket) (y : ℕ) → at < length bs → wrapped (length bs) y ≡ at → bucket_at (set bs at q) y ≡ q
bucket-new bs at q y l e = rw (length-set bs at q, e) (get_or-set_same bs at q _ l)

reaches-set : (g : ℕ) (bs : List Bucket) (at : ℕ) (q : Bucket) (x i : ℕ) → at < length bs → (bucket_at bs at).mark ≢ g → Reaches g bs x i → Reaches g (set bs at q) x i
reaches-set g bs at q x i l n s = record {
  distance = s.distance;
  within = rw (length-set bs at q) s.within;
  passed = λ k b. ap (λ (p : Bucket). p.mark) (bucket-set g bs at q (x + k) l n (s.passed k b)) ∙ s.passed k b;
  earlier = λ k b. (let e = s.earlier k b in omega (arith, ap (λ (p : Bucket). p.item) (bucket-set g bs at q (x + k) l n (s.passed k b))));
  mark = ap (λ (p : Bucket). p.mark) (bucket-set g bs at q (x + s.distance) l n s.mark) ∙ s.mark;
  item = ap (λ (p : Bucket). p.item) (bucket-set g bs at q (x + s.distance) l n s.mark) ∙ s.item;
}

-- a taken bucket names an item, counted round the end too
names-on : {homes : Homes} (g : ℕ) (items : List (ℕ × ℕ)) (bs : List Bucket) (y : ℕ) → IsIndex homes g items bs → y < length bs + length bs → (bucket_at bs y).mark ≡ g → (bucket_at bs y).item < length items
names-on g items bs y x low m =
    let w = wrapped-below (length bs) y low in
    let same : bucket_at bs (wrapped (length bs) y) ≡ bucket_at bs y = ap (λ (z : ℕ). get_or bs z blank) (wrapped-low (length bs) (wrapped (length bs) y) w) in
    let i : (bucket_at bs (wrapped (length bs) y)).item < length items = x.names (wrapped (length bs) y) w (ap (λ (p : Bucket). p.mark) same ∙ m) in
    omega (arith, ap (λ (p : Bucket). p.item) same)

-- a new item, at the open bucket where its search ended
pub index-more : {homes : Homes} (g : ℕ) (items : List (ℕ × ℕ)) (bs : List Bucket) (a v at d : ℕ) → IsIndex homes g items bs → item_at a items ≡ None → at < length bs → d < length bs → at ≡ wrapped (length bs) (home_of homes (length bs) a + d) → AllTaken g bs (home_of homes (length bs) a) d → (bucket_at bs at).mark ≢ g → IsIndex homes g (items ++ (a, v) ∷ []) (set bs at (record { mark = g; item = length items }))
index-more {homes} g items bs a v at d x new-here l ld is passed n = record {
  once = once-more items a v x.once new-here;
  reached = reached;
  names = names;
  single = single;
  latest = latest;
  few = few;
}
  where
    q : Bucket
    q = record { mark = g; item = length items }

    more : length (items ++ (a, v) ∷ []) ≡ length items + 1
    more = length-append items ((a, v) ∷ [])

    size : length (set bs at q) ≡ length bs
    size = length-set bs at q

    home : home_of homes (length bs) a < length bs
    home = home-below homes (length bs) a (omega arith)

    passed-names : (k : ℕ) → k < d → (bucket_at bs (home_of homes (length bs) a + k)).item < length items
    passed-names k b = names-on g items bs (home_of homes (length bs) a + k) x (let h = home in omega arith) (passed k b)

    new : Reaches g (set bs at q) (home_of homes (length bs) a) (length items)
    new =
        let e = bucket-new bs at q (home_of homes (length bs) a + d) l (sym is) in record {
          distance = d;
          within = rw size ld;
          passed = λ k b. ap (λ (p : Bucket). p.mark) (bucket-set g bs at q (home_of homes (length bs) a + k) l n (passed k b)) ∙ passed k b;
          earlier = λ k b. (let m = passed-names k b in omega (arith, ap (λ (p : Bucket). p.item) (bucket-set g bs at q (home_of homes (length bs) a + k) l n (passed k b))));
          mark = ap (λ (p : Bucket). p.mark) e;
          item = ap (λ (p : Bucket). p.item) e;
        }

    moved : (x y i : ℕ) → x ≡ y → Reaches g (set bs at q) (home_of homes (length bs) y) i → Reaches g (set bs at q) (home_of homes (length bs) x) i
    moved x y i e s = subst (λ z. Reaches g (set bs at q) (home_of homes (length bs) z) i) (sym e) s

    reached : (i : ℕ) → i < length (items ++ (a, v) ∷ []) → Reaches g (set bs at q) (home_of homes (length (set bs at q)) (address_of (items ++ (a, v) ∷ []) i)) i
    reached i b = elim (cases_lt i (length items)) [
      | inl old ↦ rw size (moved _ (address_of items i) i (ap (λ (p : ℕ × ℕ). p.0) (get_or_append_left items ((a, v) ∷ []) (0, 0) i old)) (reaches-set g bs at q (home_of homes (length bs) (address_of items i)) i l n (x.reached i old)))
      | inr e ↦ (let z : i ≡ length items = omega (arith, more) in rw (size, z) (moved _ a (length items) (ap (λ (p : ℕ × ℕ). p.0) (get_or-append_seam items (a, v) [] (0, 0))) new))
    ]

    either : (y : ℕ) → y < length (set bs at q) → (bucket_at (set bs at q) y ≡ q) ⊎ (bucket_at (set bs at q) y ≡ bucket_at bs y)
    either y b = elim (cases_order y at) [
      | inl e ↦ inl (bucket-new bs at q y l (wrapped-low (length bs) y (omega (arith, size)) ∙ e))
      | inr o ↦ inr (rw (size, wrapped-low (length bs) y (omega (arith, size))) (get_or-set_other bs at y q _ (λ e. elim o [ inl f ↦ omega arith | inr f ↦ omega arith ])))
    ]

    names : (y : ℕ) → y < length (set bs at q) → (bucket_at (set bs at q) y).mark ≡ g → (bucket_at (set bs at q) y).item < length (items ++ (a, v) ∷ [])
    names y b t = elim (either y b) [
      | inl e ↦ omega (arith, more, ap (λ (p : Bucket). p.item) e)
      | inr e ↦ (let i : (bucket_at bs y).item < length items = x.names y (omega (arith, size)) (sym (ap (λ (p : Bucket). p.mark) e) ∙ t) in omega (arith, more, ap (λ (p : Bucket). p.item) e))
    ]

    apart : (y : ℕ) → y < length (set bs at q) → y ≢ at → bucket_at (set bs at q) y ≡ bucket_at bs y
    apart y b o = rw (size, wrapped-low (length bs) y (omega (arith, size))) (get_or-set_other bs at y q _ o)

    -- who names the new item is the new bucket
    old-names : (y : ℕ) → y < length (set bs at q) → y ≢ at → (bucket_at (set bs at q) y).mark ≡ g → (bucket_at (set bs at q) y).item < length items
    old-names y b o t =
        let i : (bucket_at bs y).item < length items = x.names y (omega (arith, size)) (sym (ap (λ (p : Bucket). p.mark) (apart y b o)) ∙ t) in
        omega (arith, ap (λ (p : Bucket). p.item) (apart y b o))

    at-new : (y : ℕ) → y ≡ at → (bucket_at (set bs at q) y).item ≡ length items
    at-new y e = ap (λ (p : Bucket). p.item) (bucket-new bs at q y l (wrapped-low (length bs) y (omega arith) ∙ e))

    single : (y z : ℕ) → y < length (set bs at q) → z < length (set bs at q) → (bucket_at (set bs at q) y).mark ≡ g → (bucket_at (set bs at q) z).mark ≡ g → (bucket_at (set bs at q) y).item ≡ (bucket_at (set bs at q) z).item → y ≡ z
    single y z ly lz my mz e = elim (same y) [
      | inl f ↦ elim (same z) [ inl h ↦ f ∙ sym h | inr o ↦ absurd (omega (arith, at-new y f, old-names z lz o mz, e)) ]
      | inr o ↦ elim (same z) [
        | inl h ↦ absurd (omega (arith, at-new z h, old-names y ly o my, e))
        | inr r ↦ x.single y z (omega (arith, size)) (omega (arith, size)) (sym (ap (λ (p : Bucket). p.mark) (apart y ly o)) ∙ my) (sym (ap (λ (p : Bucket). p.mark) (apart z lz r)) ∙ mz)
            (sym (ap (λ (p : Bucket). p.item) (apart y ly o)) ∙ (e ∙ ap (λ (p : Bucket). p.item) (apart z lz r)))
      ]
    ]
      where
        same : (y : ℕ) → (y ≡ at) ⊎ (y ≢ at)
        same y = elim (cases_order y at) [ inl e ↦ inl e | inr o ↦ inr (λ e. elim o [ inl f ↦ omega arith | inr f ↦ omega arith ]) ]

    latest : (y : ℕ) → y < length (set bs at q) → (bucket_at (set bs at q) y).mark ≤ g
    latest y b = elim (either y b) [
      | inl e ↦ omega (arith, ap (λ (p : Bucket). p.mark) e)
      | inr e ↦ (let i : (bucket_at bs y).mark ≤ g = x.latest y (omega (arith, size)) in omega (arith, ap (λ (p : Bucket). p.mark) e))
    ]

    at-most : (p : Bucket) → taken g p ≤ 1
    at-most p = by (p.mark == g)
      where
        by : (t : Bool) → (if t then 1 else 0) ≤ 1
        by true = omega arith
        by false = omega arith

    few : sum_by (taken g) (set bs at q) ≤ length (items ++ (a, v) ∷ [])
    few = omega (arith, more, x.few, at-most q, sum_by-set (taken g) bs at q blank l)

-- another value for an item
pub index-same : {homes : Homes} (g : ℕ) (items others : List (ℕ × ℕ)) (bs : List Bucket) → SameAddresses items others → IsIndex homes g items bs → IsIndex homes g others bs
index-same g items others bs s x = record {
  once = once-same items others s x.once;
  reached = λ i l. (let e : address_of others i ≡ address_of items i = s.each i (omega (arith, s.size)) in rw e (x.reached i (omega (arith, s.size))));
  names = λ y l t. rw s.size (x.names y l t);
  single = x.single;
  latest = x.latest;
  few = rw s.size x.few;
}

pub set-same : (items : List (ℕ × ℕ)) (i a v : ℕ) → i < length items → address_of items i ≡ a → SameAddresses items (set items i (a, v))
set-same items i a v l e = record {
  size = length-set items i (a, v);
  each = λ j b. elim (cases_order j i) [
    | inl z ↦ (let f : get_or (set items i (a, v)) j (0, 0) ≡ (a, v) = rw z (get_or-set_same items i (a, v) (0, 0) l) in ap (λ (p : ℕ × ℕ). p.0) f ∙ (sym e ∙ ap (address_of items) (sym z)))
    | inr o ↦ ap (λ (p : ℕ × ℕ). p.0) (get_or-set_other items i j (a, v) (0, 0) (λ z. elim o [ inl f ↦ omega arith | inr f ↦ omega arith ]))
  ];
}

-- the same in the words of a search
pub index-push : {homes : Homes} (g : ℕ) (items : List (ℕ × ℕ)) (bs : List Bucket) (a v : ℕ) (s : Lookup) → IsIndex homes g items bs → length items < length bs → IsLookup homes g items bs a s → s.item ≡ None → IsIndex homes g (items ++ (a, v) ∷ []) (set bs s.at (record { mark = g; item = length items }))
index-push g items bs a v s x room found e =
    let answer = subst (λ o. MatchOption o ((item_at a items ≡ None) × ((bucket_at bs s.at).mark ≢ g)) (λ i. (i < length items) × (address_of items i ≡ a) × ((bucket_at bs s.at).mark ≡ g) × ((bucket_at bs s.at).item ≡ i))) e found.answer in
    index-more g items bs a v s.at s.distance x answer.0 found.within (omega (arith, found.distance)) found.at found.passed answer.1

-- and the bucket where it ends names it
pub lookup-where : {homes : Homes} (g : ℕ) (items : List (ℕ × ℕ)) (bs : List Bucket) (a i : ℕ) (s : Lookup) → IsLookup homes g items bs a s → s.item ≡ Some i → (i < length items) × (address_of items i ≡ a) × ((bucket_at bs s.at).mark ≡ g) × ((bucket_at bs s.at).item ≡ i)
lookup-where g items bs a i s found e =
    subst (λ o. MatchOption o ((item_at a items ≡ None) × ((bucket_at bs s.at).mark ≢ g)) (λ i. (i < length items) × (address_of items i ≡ a) × ((bucket_at bs s.at).mark ≡ g) × ((bucket_at bs s.at).item ≡ i))) e found.answer

pub lookup-found : {homes : Homes} (g : ℕ) (items : List (ℕ × ℕ)) (bs : List Bucket) (a i : ℕ) (s : Lookup) → IsLookup homes g items bs a s → s.item ≡ Some i → (i < length items) × (address_of items i ≡ a)
lookup-found g items bs a i s found e = let h = lookup-where g items bs a i s found e in (h.0, h.1)

pub lookup-new : {homes : Homes} (g : ℕ) (items : List (ℕ × ℕ)) (bs : List Bucket) (a : ℕ) (s : Lookup) → IsLookup homes g items bs a s → s.item ≡ None → item_at a items ≡ None
lookup-new g items bs a s found e =
    (subst (λ o. MatchOption o ((item_at a items ≡ None) × ((bucket_at bs s.at).mark ≢ g)) (λ i. (i < length items) × (address_of items i ≡ a) × ((bucket_at bs s.at).mark ≡ g) × ((bucket_at bs s.at).item ≡ i))) e found.answer).0

-- a greater generation leaves every bucket open
pub raised : {homes : Homes} (g : ℕ) (items : List (ℕ × ℕ)) (bs : List Bucket) → IsIndex homes g items bs → IsIndex homes (g + 1) [] bs
raised g items bs x = index-empty (g + 1) bs (λ y l. (let m : (bucket_at bs y).mark ≤ g = x.latest y l in omega (arith, ap (λ (p : Bucket). p.mark) (here-is bs y l))))

-- a slice of a whole list that was written leaves the written list
pub written-over : {X : Type 0} (new old : List X) (n : ℕ) → length new ≡ length old → n ≡ length new → take n (new ++ drop (length new) old) ≡ new
written-over new old n e f =
    let rest : drop (length new) old ≡ [] = drop_all (length new) old (omega arith) in
    rw (rest, append-nil new, f) (take-length new)

-- the last item goes, and its bucket is open
pub index-pop : {homes : Homes} (g : ℕ) (items : List (ℕ × ℕ)) (bs : List Bucket) (a v at : ℕ) → IsIndex homes g (items ++ (a, v) ∷ []) bs → 0 < g → at < length bs → (bucket_at bs at).mark ≡ g → (bucket_at bs at).item ≡ length items → IsIndex homes g items (set bs at (record { mark = 0; item = 0 }))
index-pop {homes} g items bs a v at x some l m is = record {
  once = once-less items a v x.once;
  reached = reached;
  names = names;
  single = single;
  latest = latest;
  few = few;
}
  where
    q : Bucket
    q = record { mark = 0; item = 0 }

    more : length (items ++ (a, v) ∷ []) ≡ length items + 1
    more = length-append items ((a, v) ∷ [])

    size : length (set bs at q) ≡ length bs
    size = length-set bs at q

    -- a bucket that names an earlier item is another
    spared : (y : ℕ) → (bucket_at bs y).item < length items → bucket_at (set bs at q) y ≡ bucket_at bs y
    spared y b =
        let off : wrapped (length bs) y ≢ at = λ e. (let f : bucket_at bs y ≡ bucket_at bs at = ap (λ (z : ℕ). get_or bs z blank) (e ∙ sym (wrapped-low (length bs) at l)) in omega (arith, ap (λ (p : Bucket). p.item) f)) in
        rw size (get_or-set_other bs at (wrapped (length bs) y) q _ off)

    kept : (y i : ℕ) → i < length items → Reaches g bs y i → Reaches g (set bs at q) y i
    kept y i b r = record {
      distance = r.distance;
      within = rw size r.within;
      passed = λ k h. ap (λ (p : Bucket). p.mark) (spared (y + k) (let e = r.earlier k h in omega arith)) ∙ r.passed k h;
      earlier = λ k h. (let e = r.earlier k h in omega (arith, ap (λ (p : Bucket). p.item) (spared (y + k) (omega arith))));
      mark = ap (λ (p : Bucket). p.mark) (spared (y + r.distance) (let e = r.item in omega arith)) ∙ r.mark;
      item = ap (λ (p : Bucket). p.item) (spared (y + r.distance) (let e = r.item in omega arith)) ∙ r.item;
    }

    reached : (i : ℕ) → i < length items → Reaches g (set bs at q) (home_of homes (length (set bs at q)) (address_of items i)) i
    reached i b =
        let e : address_of (items ++ (a, v) ∷ []) i ≡ address_of items i = ap (λ (p : ℕ × ℕ). p.0) (get_or_append_left items ((a, v) ∷ []) (0, 0) i b) in
        let r : Reaches g bs (home_of homes (length bs) (address_of items i)) i = subst (λ (z : ℕ). Reaches g bs (home_of homes (length bs) z) i) e (x.reached i (omega (arith, more))) in
        rw size (kept (home_of homes (length bs) (address_of items i)) i b r)

    old : (y : ℕ) → y < length (set bs at q) → (bucket_at (set bs at q) y).mark ≡ g → (y ≢ at) × (bucket_at (set bs at q) y ≡ bucket_at bs y)
    old y b t =
        let off : y ≢ at = λ e. (let n : (bucket_at (set bs at q) y).mark ≡ 0 = ap (λ (p : Bucket). p.mark) (bucket-new bs at q y l (wrapped-low (length bs) y (omega (arith, size)) ∙ e)) in omega arith) in
        (off, rw (size, wrapped-low (length bs) y (omega (arith, size))) (get_or-set_other bs at y q _ off))

    names : (y : ℕ) → y < length (set bs at q) → (bucket_at (set bs at q) y).mark ≡ g → (bucket_at (set bs at q) y).item < length items
    names y b t =
        let o = old y b t in
        let taken_before : (bucket_at bs y).mark ≡ g = sym (ap (λ (p : Bucket). p.mark) o.1) ∙ t in
        let i : (bucket_at bs y).item < length (items ++ (a, v) ∷ []) = x.names y (omega (arith, size)) taken_before in
        let other : (bucket_at bs y).item ≢ length items = λ e. o.0 (x.single y at (omega (arith, size)) l taken_before m (e ∙ sym is)) in
        omega (arith, more, ap (λ (p : Bucket). p.item) o.1, other)

    single : (y z : ℕ) → y < length (set bs at q) → z < length (set bs at q) → (bucket_at (set bs at q) y).mark ≡ g → (bucket_at (set bs at q) z).mark ≡ g → (bucket_at (set bs at q) y).item ≡ (bucket_at (set bs at q) z).item → y ≡ z
    single y z ly lz my mz e =
        let p = old y ly my in let r = old z lz mz in
        x.single y z (omega (arith, size)) (omega (arith, size)) (sym (ap (λ (p : Bucket). p.mark) p.1) ∙ my) (sym (ap (λ (p : Bucket). p.mark) r.1) ∙ mz) (sym (ap (λ (p : Bucket). p.item) p.1) ∙ (e ∙ ap (λ (p : Bucket). p.item) r.1))

    latest : (y : ℕ) → y < length (set bs at q) → (bucket_at (set bs at q) y).mark ≤ g
    latest y b = elim (cases_order y at) [
      | inl e ↦ omega (arith, ap (λ (p : Bucket). p.mark) (bucket-new bs at q y l (wrapped-low (length bs) y (omega (arith, size)) ∙ e)))
      | inr o ↦ (let s : bucket_at (set bs at q) y ≡ bucket_at bs y = rw (size, wrapped-low (length bs) y (omega (arith, size))) (get_or-set_other bs at y q _ (λ e. elim o [ inl f ↦ omega arith | inr f ↦ omega arith ])) in
          let h : (bucket_at bs y).mark ≤ g = x.latest y (omega (arith, size)) in omega (arith, ap (λ (p : Bucket). p.mark) s))
    ]

    one : (p : Bucket) → p.mark ≡ g → taken g p ≡ 1
    one p e = by (p.mark == g) refl
      where
        by : (t : Bool) → (p.mark == g) ≡ t → ◌≡◌ {A = ℕ} (if t then 1 else 0) 1
        by true f = refl
        by false f = absurd (grind (arith, nat_tests))

    none : taken g q ≡ 0
    none = by (0 == g) refl
      where
        by : (t : Bool) → (0 == g) ≡ t → ◌≡◌ {A = ℕ} (if t then 1 else 0) 0
        by true f = absurd (grind (arith, nat_tests))
        by false f = refl

    few : sum_by (taken g) (set bs at q) ≤ length items
    few =
        let f : (get_or bs at blank).mark ≡ g = ap (λ (p : Bucket). p.mark) (sym (here-is bs at l)) ∙ m in
        let o = one (get_or bs at blank) f in
        omega (arith, more, x.few, none, o, sum_by-set (taken g) bs at q blank l)

-- the lookup of an item's address ends at the bucket that names the item
pub lookup-at : {homes : Homes} (g : ℕ) (items : List (ℕ × ℕ)) (bs : List Bucket) (a i : ℕ) (s : Lookup) → Once items → IsLookup homes g items bs a s → i < length items → address_of items i ≡ a → ((bucket_at bs s.at).mark ≡ g) × ((bucket_at bs s.at).item ≡ i)
lookup-at g items bs a i s once found l e = by s.item refl
  where
    same : (j : ℕ) → j < length items → address_of items j ≡ a → j ≡ i
    same j b f = elim (cases_order j i) [
      | inl h ↦ h
      | inr o ↦ elim o [
        | inl h ↦ absurd (once-apart items j i once h l (f ∙ sym e))
        | inr h ↦ absurd (once-apart items i j once h b (e ∙ sym f))
      ]
    ]

    by : (o : Option ℕ) → s.item ≡ o → ((bucket_at bs s.at).mark ≡ g) × ((bucket_at bs s.at).item ≡ i)
    by None f = absurd (none-other items a i (lookup-new g items bs a s found f) l e)
    by (Some j) f = let h = lookup-where g items bs a j s found f in (h.2, h.3 ∙ same j h.0 h.1)

-- the same in the words of a lookup of the last item's address
pub index-popped : {homes : Homes} (g : ℕ) (items : List (ℕ × ℕ)) (bs : List Bucket) (a last : ℕ) (s : Lookup) → IsIndex homes g items bs → 0 < g → last + 1 ≡ length items → IsLookup homes g items bs a s → address_of items last ≡ a → IsIndex homes g (take last items) (set bs s.at (record { mark = 0; item = 0 }))
index-popped {homes} g items bs a last s x some size found e =
    let h = lookup-at g items bs a last s x.once found (omega arith) e in
    let all : take last items ++ get_or items last (0, 0) ∷ [] ≡ items = sym (take_more items last (0, 0) (omega arith)) ∙ (ap (λ (k : ℕ). take k items) size ∙ take-length items) in
    let front : length (take last items) ≡ last = length-take-le last items (omega arith) in
    index-pop g (take last items) bs (get_or items last (0, 0)).0 (get_or items last (0, 0)).1 s.at (subst (λ (ys : List (ℕ × ℕ)). IsIndex homes g ys bs) (sym all) x) some found.within h.0 (h.1 ∙ sym front)

-- a new item of an address that none has, at the bucket where its lookup ends
pub index-taken : {homes : Homes} (g : ℕ) (items : List (ℕ × ℕ)) (bs : List Bucket) (a v : ℕ) (s : Lookup) → IsIndex homes g items bs → length items < length bs → IsLookup homes g items bs a s → item_at a items ≡ None → IsIndex homes g (items ++ (a, v) ∷ []) (set bs s.at (record { mark = g; item = length items }))
index-taken {homes} g items bs a v s x room found new = by s.item refl
  where
    by : (o : Option ℕ) → s.item ≡ o → IsIndex homes g (items ++ (a, v) ∷ []) (set bs s.at (record { mark = g; item = length items }))
    by None e = index-push g items bs a v s x room found e
    by (Some i) e = let h = lookup-found g items bs a i s found e in absurd (none-other items a i new h.0 h.1)
