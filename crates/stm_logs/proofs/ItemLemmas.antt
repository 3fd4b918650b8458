-- Lists with one item an address, item by item.
use Rattle.std.proofs.Common.{ℕ, zero, suc, ◌≡◌, ◌≢◌, ◌<◌, List, [], ◌∷◌, ◌++◌, length, get_or, set, take, Bool, true, false, refl, sym, ap, ◌∙◌, arith}
use Rattle.std.specs.Prelude.{Option, Some, None, ◌==◌, if◌then◌else◌}
use Rattle.std.proofs.lemmas.Bool.Decides.{nat_tests}
use Rattle.stm_model.specs.Memories.{item_at, put, Once}
use Rattle.stm_logs.specs.Buckets.{address_of}
use Rattle.stm_logs.specs.LogStates.{keep}

-- the head's address is the one asked for, or another
pub here : (w : ℕ × ℕ) (a : ℕ) (o : Option ℕ) → w.0 ≡ a → (if w.0 == a then Some w.1 else o) ≡ Some w.1
here w a o e = by (w.0 == a) refl
  where
    by : (t : Bool) → (w.0 == a) ≡ t → (if t then Some w.1 else o) ≡ Some w.1
    by true h = refl
    by false h = absurd (grind (arith, nat_tests))

pub there : (w : ℕ × ℕ) (a : ℕ) (o : Option ℕ) → w.0 ≢ a → (if w.0 == a then Some w.1 else o) ≡ o
there w a o e = by (w.0 == a) refl
  where
    by : (t : Bool) → (w.0 == a) ≡ t → (if t then Some w.1 else o) ≡ o
    by true h = absurd (grind (arith, nat_tests))
    by false h = refl

pub apart : (w : ℕ × ℕ) (a : ℕ) (o : Option ℕ) → (if w.0 == a then Some w.1 else o) ≡ None → (w.0 ≢ a) × (o ≡ None)
apart w a o e = by (w.0 == a) refl e
  where
    by : (t : Bool) → (w.0 == a) ≡ t → (if t then Some w.1 else o) ≡ None → (w.0 ≢ a) × (o ≡ None)
    by true h f = absurd cc
    by false h f = (grind (arith, nat_tests), f)

pub none-other : (items : List (ℕ × ℕ)) (a i : ℕ) → item_at a items ≡ None → i < length items → address_of items i ≢ a
none-other [] a i h l = absurd (omega arith)
none-other (w ∷ ws) a zero h l = (apart w a _ h).0
none-other (w ∷ ws) a (suc i) h l = none-other ws a i (apart w a _ h).1 (omega arith)

pub none-where : (items : List (ℕ × ℕ)) (a : ℕ) → ((i : ℕ) → i < length items → address_of items i ≢ a) → item_at a items ≡ None
none-where [] a h = refl
none-where (w ∷ ws) a h = there w a _ (h 0 (omega arith)) ∙ none-where ws a (λ i l. h (suc i) (omega arith))

pub item-here : (items : List (ℕ × ℕ)) (i a : ℕ) → Once items → i < length items → address_of items i ≡ a → item_at a items ≡ Some (get_or items i (0, 0)).1
item-here [] i a o l e = absurd (omega arith)
item-here (w ∷ ws) zero a o l e = here w a _ e
item-here (w ∷ ws) (suc i) a o l e =
    let n : w.0 ≢ a = λ f. none-other ws w.0 i o.0 (omega arith) (e ∙ sym f) in
    there w a _ n ∙ item-here ws i a o.1 (omega arith) e

-- the two lists have the same addresses
pub record SameAddresses (xs ys : List (ℕ × ℕ)) : Type 0 where
  pub size : length ys ≡ length xs
  pub each : (i : ℕ) → i < length xs → address_of ys i ≡ address_of xs i

pub once-same : (xs ys : List (ℕ × ℕ)) → SameAddresses xs ys → Once xs → Once ys
once-same xs [] s o = tt
once-same [] (y ∷ ys) s o = absurd (omega (arith, s.size))
once-same (x ∷ xs) (y ∷ ys) s o =
    let size : length ys ≡ length xs = omega (arith, s.size) in
    let head : y.0 ≡ x.0 = s.each 0 (omega arith) in (
      none-where ys y.0 (λ i l e. none-other xs x.0 i o.0 (omega arith) (sym (s.each (suc i) (omega arith)) ∙ (e ∙ head))),
      once-same xs ys (record { size = size; each = λ i l. s.each (suc i) (omega arith) }) o.1,
    )

pub once-more : (items : List (ℕ × ℕ)) (a v : ℕ) → Once items → item_at a items ≡ None → Once (items ++ (a, v) ∷ [])
once-more [] a v o h = (refl, tt)
once-more (w ∷ ws) a v o h = (none-more ws w.0 a v o.0 (λ e. (apart w a _ h).0 (sym e)), once-more ws a v o.1 (apart w a _ h).1)
  where
    none-more : (ws : List (ℕ × ℕ)) (b a v : ℕ) → item_at b ws ≡ None → a ≢ b → item_at b (ws ++ (a, v) ∷ []) ≡ None
    none-more [] b a v h n = there (a, v) b None n
    none-more (w ∷ ws) b a v h n = let p = apart w b _ h in there w b _ p.0 ∙ none-more ws b a v p.1 n

pub none-take : (items : List (ℕ × ℕ)) (i : ℕ) → Once items → i < length items → item_at (address_of items i) (take i items) ≡ None
none-take [] i o l = absurd (omega arith)
none-take (w ∷ ws) zero o l = refl
none-take (w ∷ ws) (suc i) o l =
    there w (address_of ws i) _ (λ e. none-other ws w.0 i o.0 (omega arith) (sym e)) ∙ none-take ws i o.1 (omega arith)

pub put-new : (items : List (ℕ × ℕ)) (a v : ℕ) → item_at a items ≡ None → put a v items ≡ items ++ (a, v) ∷ []
put-new [] a v h = refl
put-new (w ∷ ws) a v h = let p = apart w a _ h in by (w.0 == a) refl p.0 (put-new ws a v p.1)
  where
    by : (t : Bool) → (w.0 == a) ≡ t → w.0 ≢ a → put a v ws ≡ ws ++ (a, v) ∷ [] → (if t then (a, v) ∷ ws else w ∷ put a v ws) ≡ w ∷ (ws ++ (a, v) ∷ [])
    by true e n r = absurd (n (grind (arith, nat_tests)))
    by false e n r = ap (λ xs. w ∷ xs) r

pub keep-new : (items : List (ℕ × ℕ)) (a v : ℕ) → item_at a items ≡ None → keep a v items ≡ items ++ (a, v) ∷ []
keep-new [] a v h = refl
keep-new (w ∷ ws) a v h = let p = apart w a _ h in by (w.0 == a) refl p.0 (keep-new ws a v p.1)
  where
    by : (t : Bool) → (w.0 == a) ≡ t → w.0 ≢ a → keep a v ws ≡ ws ++ (a, v) ∷ [] → (if t then w ∷ ws else w ∷ keep a v ws) ≡ w ∷ (ws ++ (a, v) ∷ [])
    by true e n r = absurd (n (grind (arith, nat_tests)))
    by false e n r = ap (λ xs. w ∷ xs) r

pub put-there : (items : List (ℕ × ℕ)) (i a v : ℕ) → Once items → i < length items → address_of items i ≡ a → put a v items ≡ set items i (a, v)
put-there [] i a v o l e = absurd (omega arith)
put-there (w ∷ ws) zero a v o l e = by (w.0 == a) refl
  where
    by : (t : Bool) → (w.0 == a) ≡ t → (if t then (a, v) ∷ ws else w ∷ put a v ws) ≡ (a, v) ∷ ws
    by true h = refl
    by false h = absurd (grind (arith, nat_tests))
put-there (w ∷ ws) (suc i) a v o l e =
    by (w.0 == a) refl (λ f. none-other ws w.0 i o.0 (omega arith) (e ∙ sym f)) (put-there ws i a v o.1 (omega arith) e)
  where
    by : (t : Bool) → (w.0 == a) ≡ t → w.0 ≢ a → put a v ws ≡ set ws i (a, v) → (if t then (a, v) ∷ ws else w ∷ put a v ws) ≡ w ∷ set ws i (a, v)
    by true h n r = absurd (n (grind (arith, nat_tests)))
    by false h n r = ap (λ xs. w ∷ xs) r

pub keep-there : (items : List (ℕ × ℕ)) (i a v : ℕ) → i < length items → address_of items i ≡ a → keep a v items ≡ items
keep-there [] i a v l e = absurd (omega arith)
keep-there (w ∷ ws) zero a v l e = by (w.0 == a) refl
  where
    by : (t : Bool) → (w.0 == a) ≡ t → (if t then w ∷ ws else w ∷ keep a v ws) ≡ w ∷ ws
    by true h = refl
    by false h = absurd (grind (arith, nat_tests))
keep-there (w ∷ ws) (suc i) a v l e = by (w.0 == a) (keep-there ws i a v (omega arith) e)
  where
    by : (t : Bool) → keep a v ws ≡ ws → (if t then w ∷ ws else w ∷ keep a v ws) ≡ w ∷ ws
    by true r = refl
    by false r = ap (λ xs. w ∷ xs) r

pub none-front : (ws : List (ℕ × ℕ)) (b a v : ℕ) → item_at b (ws ++ (a, v) ∷ []) ≡ None → item_at b ws ≡ None
none-front [] b a v h = refl
none-front (w ∷ ws) b a v h = let p = apart w b _ h in there w b _ p.0 ∙ none-front ws b a v p.1

pub once-less : (items : List (ℕ × ℕ)) (a v : ℕ) → Once (items ++ (a, v) ∷ []) → Once items
once-less [] a v o = tt
once-less (w ∷ ws) a v o = (none-front ws w.0 a v o.0, once-less ws a v o.1)

pub once-apart : (items : List (ℕ × ℕ)) (i j : ℕ) → Once items → i < j → j < length items → address_of items i ≢ address_of items j
once-apart [] i j o h l = absurd (omega arith)
once-apart (w ∷ ws) i zero o h l = absurd (omega arith)
once-apart (w ∷ ws) zero (suc j) o h l = λ e. none-other ws w.0 j o.0 (omega arith) (sym e)
once-apart (w ∷ ws) (suc i) (suc j) o h l = once-apart ws i j o.1 (omega arith) (omega arith)
