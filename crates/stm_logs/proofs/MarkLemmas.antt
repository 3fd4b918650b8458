-- What saving, restoring and merging make of the items at the marks.
use Rattle.std.proofs.Common.{ℕ, zero, suc, ◌≡◌, ◌≢◌, ◌<◌, ◌≤◌, ◌+◌, ◌-◌, List, [], ◌∷◌, ◌++◌, length, get_or, set, take, map, Bool, true, false, refl, sym, ap, ◌∙◌, subst, arith, length-append}
use Rattle.std.specs.Prelude.{Option, Some, None, IsSome, is_some, ◌==◌, if◌then◌else◌}
use Rattle.std.proofs.lemmas.Bool.Decides.{nat_tests}
use Rattle.std.proofs.lemmas.List.{length-map, map-append, take-map, take-take, take-append-le, take_more, length-set, get_or_default, get_or-set_same, get_or-set_other, set-set}
use Rattle.stm_model.specs.Memories.{item_at, put, Once}
use Rattle.stm_model.specs.PlainLaws.{put-item}
use Rattle.stm_logs.specs.declared.marks.Mark.{Mark}
use Rattle.stm_logs.specs.declared.push.Push.{Push}
use Rattle.stm_logs.specs.declared.push.Push.TheVariants.{Done, Full}
use Rattle.stm_logs.specs.LogStates.{LogState, keep, Pushes}
use Rattle.stm_logs.specs.Marks.{value_or, old_or, at_mark, at_first, marked, Covers, Saves, Tied, keep_some, saved, keep_all, merged, blank_mark, CanMerge}
use Rattle.stm_logs.proofs.ItemLemmas.{keep-new, put-new, once-more, apart, there, none-take, item-here}

abbrev pub or_some : Option ℕ → Option ℕ → Option ℕ
or_some None o = o
or_some (Some x) o = Some x

or_none : (o : Option ℕ) → or_some o None ≡ o
or_none None = refl
or_none (Some x) = refl

abbrev one_at : ℕ → ℕ → ℕ → Option ℕ
one_at a v b = if a == b then Some v else None

pub item-keep : (a v b : ℕ) (ys : List (ℕ × ℕ)) → item_at b (keep a v ys) ≡ or_some (item_at b ys) (one_at a v b)
item-keep a v b [] = refl
item-keep a v b (w ∷ ws) = by (w.0 == a) refl (item-keep a v b ws)
  where
    first : (t : Bool) → (w.0 == b) ≡ t → w.0 ≡ a → (if w.0 == b then Some w.1 else item_at b ws) ≡ or_some (if w.0 == b then Some w.1 else item_at b ws) (one_at a v b)
    first true e s = rw e refl
    first false e s = let f : (a == b) ≡ false = ap (λ (x : ℕ). x == b) (sym s) ∙ e in rw (e, f) (sym (or_none (item_at b ws)))

    other : (t : Bool) → (w.0 == b) ≡ t → item_at b (keep a v ws) ≡ or_some (item_at b ws) (one_at a v b)
        → (if w.0 == b then Some w.1 else item_at b (keep a v ws)) ≡ or_some (if w.0 == b then Some w.1 else item_at b ws) (one_at a v b)
    other true e r = rw e refl
    other false e r = rw e r

    by : (t : Bool) → (w.0 == a) ≡ t → item_at b (keep a v ws) ≡ or_some (item_at b ws) (one_at a v b)
        → item_at b (if t then w ∷ ws else w ∷ keep a v ws) ≡ or_some (if w.0 == b then Some w.1 else item_at b ws) (one_at a v b)
    by true e r = first (w.0 == b) refl (grind (arith, nat_tests))
    by false e r = other (w.0 == b) refl r

pub item-keep_all : (b : ℕ) (xs ys : List (ℕ × ℕ)) → item_at b (keep_all xs ys) ≡ or_some (item_at b ys) (item_at b xs)
item-keep_all b [] ys = sym (or_none (item_at b ys))
item-keep_all b (w ∷ ws) ys = item-keep_all b ws (keep w.0 w.1 ys) ∙ (ap (λ (o : Option ℕ). or_some o (item_at b ws)) (item-keep w.0 w.1 b ys) ∙ by (item_at b ys) (w.0 == b))
  where
    by : (o : Option ℕ) (t : Bool) → or_some (or_some o (if t then Some w.1 else None)) (item_at b ws) ≡ or_some o (if t then Some w.1 else item_at b ws)
    by None true = refl
    by None false = refl
    by (Some x) t = refl

pub keep_all-more : (xs ys : List (ℕ × ℕ)) (w : ℕ × ℕ) → keep_all (xs ++ w ∷ []) ys ≡ keep w.0 w.1 (keep_all xs ys)
keep_all-more [] ys w = refl
keep_all-more (x ∷ xs) ys w = keep_all-more xs (keep x.0 x.1 ys) w

map-same : (f g : ℕ × ℕ → ℕ × ℕ) (ws : List (ℕ × ℕ)) → ((w : ℕ × ℕ) → f w ≡ g w) → map f ws ≡ map g ws
map-same f g [] e = refl
map-same f g (w ∷ ws) e = (λ i. e w i ∷ map-same f g ws e i)

map-twice : (f g : ℕ × ℕ → ℕ × ℕ) (ws : List (ℕ × ℕ)) → map f (map g ws) ≡ map (λ (w : ℕ × ℕ). f (g w)) ws
map-twice f g [] = refl
map-twice f g (w ∷ ws) = ap (λ (l : List (ℕ × ℕ)). f (g w) ∷ l) (map-twice f g ws)

old-twice : (lo up : List (ℕ × ℕ)) (w : ℕ × ℕ) → old_or lo (old_or up w) ≡ old_or (keep_all up lo) w
old-twice lo up w = ap (λ (v : ℕ). let p : ℕ × ℕ = (w.0, v) in p) (by (item_at w.0 lo) ∙ ap (λ (o : Option ℕ). value_or o w.1) (sym (item-keep_all w.0 up lo)))
  where
    by : (o : Option ℕ) → value_or o (value_or (item_at w.0 up) w.1) ≡ value_or (or_some o (item_at w.0 up)) w.1
    by None = refl
    by (Some x) = refl

-- a mark that takes in the one above it has the same items
pub at-merged : (lower upper : Mark) (ws : List (ℕ × ℕ)) → lower.count ≤ upper.count → at_mark (merged lower upper) ws ≡ at_mark lower (at_mark upper ws)
at-merged lower upper ws l =
    let lo = lower.olds.items in
    let up = upper.olds.items in
    let k = lower.count in
    let twice : map (old_or lo) (map (old_or up) ws) ≡ map (old_or (keep_all up lo)) ws = map-twice (old_or lo) (old_or up) ws ∙ map-same
    (λ (w : ℕ × ℕ). old_or lo (old_or up w)) (old_or (keep_all up lo)) ws (old-twice lo up) in
    sym (take-map (old_or lo) k (take upper.count (map (old_or up) ws)) ∙ (ap (map (old_or lo)) (take-take k upper.count (map (old_or up) ws) l) ∙ (sym (take-map (old_or lo) k (map (old_or up) ws)) ∙ ap (take k) twice)))

-- an old value of another address changes no item
old-other : (a v : ℕ) (olds ws : List (ℕ × ℕ)) → item_at a ws ≡ None → map (old_or (keep a v olds)) ws ≡ map (old_or olds) ws
old-other a v olds [] h = refl
old-other a v olds (w ∷ ws) h =
    let p = apart w a _ h in
    let no : one_at a v w.0 ≡ None = by (a == w.0) refl p.0 in
    let e : item_at w.0 (keep a v olds) ≡ item_at w.0 olds = item-keep a v w.0 olds ∙ (ap (or_some (item_at w.0 olds)) no ∙ or_none (item_at w.0 olds)) in
    (λ i. let q : ℕ × ℕ = (w.0, value_or (e i) w.1) in q ∷ old-other a v olds ws p.1 i)
  where
    by : (t : Bool) → (a == w.0) ≡ t → w.0 ≢ a → (if t then Some v else None) ≡ None
    by true e n = absurd (n (grind (arith, nat_tests)))
    by false e n = refl

-- a write at an address that is there, with its old value kept, leaves what was there
pub old-kept : (a x v : ℕ) (olds ws : List (ℕ × ℕ)) → Once ws → item_at a ws ≡ Some v → map (old_or (keep a v olds)) (put a x ws) ≡ map (old_or olds) ws
old-kept a x v olds [] o h = absurd cc
old-kept a x v olds (w ∷ ws) o h = by (w.0 == a) refl h (old-kept a x v olds ws o.1)
  where
    this : (a == a) ≡ true
    this = grind (arith, nat_tests)

    or_here : (m : Option ℕ) (y : ℕ) → value_or (or_some m (Some v)) y ≡ value_or m v
    or_here None y = refl
    or_here (Some z) y = refl

    by : (t : Bool) → (w.0 == a) ≡ t → (if t then Some w.1 else item_at a ws) ≡ Some v
        → (item_at a ws ≡ Some v → map (old_or (keep a v olds)) (put a x ws) ≡ map (old_or olds) ws)
        → map (old_or (keep a v olds)) (if t then (a, x) ∷ ws else w ∷ put a x ws) ≡ map (old_or olds) (w ∷ ws)
    by true e f rec =
        let s : w.0 ≡ a = grind (arith, nat_tests) in
        let y : w.1 ≡ v = cc in
        let none : item_at a ws ≡ None = subst (λ (b : ℕ). item_at b ws ≡ None) s o.0 in
        let k : item_at a (keep a v olds) ≡ or_some (item_at a olds) (Some v) = item-keep a v a olds ∙ ap (λ (t : Bool). or_some (item_at a olds) (if t then Some v else None)) this in
        let is : value_or (item_at a (keep a v olds)) x ≡ value_or (item_at a olds) v = ap (λ (m : Option ℕ). value_or m x) k ∙ or_here (item_at a olds) x in
        let head : old_or (keep a v olds) (a, x) ≡ old_or olds w = ap (λ (z : ℕ). let p : ℕ × ℕ = (a, z) in p) is ∙ (λ i. let p : ℕ × ℕ = (sym s i, value_or (item_at (sym s i) olds) (sym y i)) in p) in
        (λ i. head i ∷ old-other a v olds ws none i)
    by false e f rec =
        let n : w.0 ≢ a = grind (arith, nat_tests) in
        let only : item_at a (w ∷ []) ≡ None = there w a None n in
        let head = old-other a v olds (w ∷ []) only in
        let rest = rec f in
        (λ i. get_or (head i) 0 w ∷ rest i)

pub length-put : (a x : ℕ) (ws : List (ℕ × ℕ)) → length ws ≤ length (put a x ws)
length-put a x [] = omega arith
length-put a x (w ∷ ws) = by (w.0 == a) (length-put a x ws)
  where
    by : (t : Bool) → length ws ≤ length (put a x ws) → length (w ∷ ws) ≤ length (if t then (a, x) ∷ ws else w ∷ put a x ws)
    by true r = omega arith
    by false r = omega arith

pub some-here : (ws : List (ℕ × ℕ)) (i : ℕ) → i < length ws → IsSome (item_at (get_or ws i (0, 0)).0 ws)
some-here [] i l = absurd (omega arith)
some-here (w ∷ ws) zero l = let this : (w.0 == w.0) ≡ true = grind (arith, nat_tests) in ap (λ (t : Bool). is_some (if t then Some w.1 else item_at w.0 ws)) this
some-here (w ∷ ws) (suc i) l = by (w.0 == (get_or ws i (0, 0)).0) (some-here ws i (omega arith))
  where
    by : (t : Bool) → IsSome (item_at (get_or ws i (0, 0)).0 ws) → IsSome (if t then Some w.1 else item_at (get_or ws i (0, 0)).0 ws)
    by true k = refl
    by false k = k

-- THE WRITE: what is saved before it keeps the items at the mark
pub at-saved : (a x : ℕ) (m : Mark) (ws : List (ℕ × ℕ)) → Once ws → m.count ≤ length ws → at_mark (saved a ws m) (put a x ws) ≡ at_mark m ws
at-saved a x m ws o l = by (item_at a ws) refl
  where
    by : (s : Option ℕ) → item_at a ws ≡ s → take m.count (map (old_or (keep_some s a m.olds.items)) (put a x ws)) ≡ take m.count (map (old_or m.olds.items) ws)
    by None e =
        let olds = m.olds.items in
        ap (λ (ys : List (ℕ × ℕ)). take m.count (map (old_or olds) ys)) (put-new ws a x e)
        ∙ (ap (take m.count) (map-append (old_or olds) ws ((a, x) ∷ []))
        ∙ take-append-le m.count (map (old_or olds) ws) (old_or olds (a, x) ∷ []) (omega (arith, length-map ws (old_or olds))))
    by (Some v) e = ap (take m.count) (old-kept a x v m.olds.items ws o e)

keep-same : (a v : ℕ) (ys : List (ℕ × ℕ)) → IsSome (item_at a ys) → keep a v ys ≡ ys
keep-same a v [] h = absurd cc
keep-same a v (w ∷ ws) h = by (w.0 == a) h (keep-same a v ws)
  where
    by : (t : Bool) → IsSome (if t then Some w.1 else item_at a ws) → (IsSome (item_at a ws) → keep a v ws ≡ ws) → (if t then w ∷ ws else w ∷ keep a v ws) ≡ w ∷ ws
    by true f rec = refl
    by false f rec = ap (λ (l : List (ℕ × ℕ)). w ∷ l) (rec f)

pub once-keep : (a v : ℕ) (ys : List (ℕ × ℕ)) → Once ys → Once (keep a v ys)
once-keep a v ys o = by (item_at a ys) refl
  where
    by : (m : Option ℕ) → item_at a ys ≡ m → Once (keep a v ys)
    by None e = subst Once (sym (keep-new ys a v e)) (once-more ys a v o e)
    by (Some x) e = subst Once (sym (keep-same a v ys (ap (λ (m : Option ℕ). is_some m) e))) o

-- what is found after a value was kept was there, or is that value's
pub some-keep : (a v b : ℕ) (ys : List (ℕ × ℕ)) (P : Option ℕ → Type 0) → IsSome (item_at b (keep a v ys))
    → (IsSome (item_at b ys) → P (item_at b (keep a v ys))) → (a ≡ b → P (item_at b (keep a v ys))) → P (item_at b (keep a v ys))
some-keep a v b ys P h old new = by (item_at b ys) refl (a == b) refl
  where
    by : (m : Option ℕ) → item_at b ys ≡ m → (t : Bool) → (a == b) ≡ t → P (item_at b (keep a v ys))
    by (Some x) e t f = old (ap (λ (m : Option ℕ). is_some m) e)
    by None e true f = new (grind (arith, nat_tests))
    by None e false f =
        absurd (let k : item_at b (keep a v ys) ≡ None = item-keep a v b ys ∙ (λ i. or_some (e i) (if f i then Some v else None)) in
        let n : is_some (item_at b (keep a v ys)) ≡ false = ap (λ (m : Option ℕ). is_some m) k in let z : true ≡ false = sym h ∙ n in cc)

pub covers-keep : (a v : ℕ) (ws ys : List (ℕ × ℕ)) → Covers ws ys → IsSome (item_at a ws) → Covers ws (keep a v ys)
covers-keep a v ws ys c h b k = some-keep a v b ys (λ o. IsSome (item_at b ws)) k (c b) (λ e. subst (λ (z : ℕ). IsSome (item_at z ws)) e h)

pub some-put : (a x b : ℕ) (ws : List (ℕ × ℕ)) → IsSome (item_at b ws) → IsSome (item_at b (put a x ws))
some-put a x b ws h = subst (λ (o : Option ℕ). IsSome o) (sym (put-item a x b ws)) (by (a == b))
  where
    by : (t : Bool) → IsSome (if t then Some x else item_at b ws)
    by true = refl
    by false = h

-- the tie of a mark goes on over a write
pub saves-saved : (a x : ℕ) (m : Mark) (ws : List (ℕ × ℕ)) → Saves m ws → Saves (saved a ws m) (put a x ws)
saves-saved a x m ws s = record {
  count = (let l = s.count in let p = length-put a x ws in omega arith);
  once = (by (item_at a ws) refl).0;
  there = (by (item_at a ws) refl).1;
}
  where
    more : Covers (put a x ws) m.olds.items
    more b k = some-put a x b ws (s.there b k)

    by : (o : Option ℕ) → item_at a ws ≡ o → Once (keep_some o a m.olds.items) × Covers (put a x ws) (keep_some o a m.olds.items)
    by None e = (s.once, more)
    by (Some v) e = (once-keep a v m.olds.items s.once, covers-keep a v (put a x ws) m.olds.items more (some-put a x a ws (ap (λ (o : Option ℕ). is_some o) e)))

-- the items but that of the address
abbrev less : ℕ → List (ℕ × ℕ) → List (ℕ × ℕ)
less a [] = []
less a (w ∷ ws) = if w.0 == a then ws else w ∷ less a ws

length-less : (a : ℕ) (ws : List (ℕ × ℕ)) → IsSome (item_at a ws) → length ws ≡ length (less a ws) + 1
length-less a [] h = absurd cc
length-less a (w ∷ ws) h = by (w.0 == a) h (length-less a ws)
  where
    by : (t : Bool) → IsSome (if t then Some w.1 else item_at a ws) → (IsSome (item_at a ws) → length ws ≡ length (less a ws) + 1) → length (w ∷ ws) ≡ length (if t then ws else w ∷ less a ws) + 1
    by true f rec = omega arith
    by false f rec = let r = rec f in omega arith

item-less : (a b : ℕ) (ws : List (ℕ × ℕ)) → b ≢ a → item_at b (less a ws) ≡ item_at b ws
item-less a b [] n = refl
item-less a b (w ∷ ws) n = by (w.0 == a) refl (item-less a b ws n)
  where
    by : (t : Bool) → (w.0 == a) ≡ t → item_at b (less a ws) ≡ item_at b ws → item_at b (if t then ws else w ∷ less a ws) ≡ (if w.0 == b then Some w.1 else item_at b ws)
    by true e rec = let f : w.0 ≢ b = λ g. n (grind (arith, nat_tests)) in sym (there w b (item_at b ws) f)
    by false e rec = ap (λ (o : Option ℕ). if w.0 == b then Some w.1 else o) rec

-- a list with one item an address is no longer than one that has all its addresses
pub length-covered : (xs ys : List (ℕ × ℕ)) → Once xs → Covers ys xs → length xs ≤ length ys
length-covered [] ys o c = omega arith
length-covered (x ∷ xs) ys o c =
    let this : (x.0 == x.0) ≡ true = grind (arith, nat_tests) in
    let h : IsSome (item_at x.0 ys) = c x.0 (ap (λ (t : Bool). is_some (if t then Some x.1 else item_at x.0 xs)) this) in
    let rest : Covers (less x.0 ys) xs = λ b k. (let n : b ≢ x.0 = λ e.
    (let f : is_some (item_at b xs) ≡ false = ap (λ (o : Option ℕ). is_some o) (subst (λ (z : ℕ). item_at z xs ≡ None) (sym e) o.0) in
    let z : true ≡ false = sym k ∙ f in cc) in
    let other : item_at b (x ∷ xs) ≡ item_at b xs = there x b (item_at b xs) (λ e. n (sym e)) in
    subst (λ (o : Option ℕ). IsSome o) (sym (item-less x.0 b ys n)) (c b (subst (λ (o : Option ℕ). IsSome o) (sym other) k))) in
    let r = length-covered xs (less x.0 ys) o.1 rest in
    omega (arith, length-less x.0 ys h)

-- so there is room for one value more
pub room-covered : (a : ℕ) (olds ws : List (ℕ × ℕ)) → Once olds → Covers ws olds → IsSome (item_at a ws) → item_at a olds ≡ None → length olds < length ws
room-covered a olds ws o c h n =
    let e : keep a 0 olds ≡ olds ++ (a, 0) ∷ [] = keep-new olds a 0 n in
    let l = length-covered (keep a 0 olds) ws (once-keep a 0 olds o) (covers-keep a 0 ws olds c h) in
    let s : length (keep a 0 olds) ≡ length olds + 1 = ap length e ∙ length-append olds ((a, 0) ∷ []) in
    omega arith

-- a push of an old value is done
pub push-kept : (r : Push) (log new : LogState) (a v : ℕ) (ws : List (ℕ × ℕ)) → Once log.items → Covers ws log.items → IsSome (item_at a ws)
    → length ws ≤ log.len → Pushes log a (keep a v log.items) r new → new ≡ record log { items = keep a v log.items }
push-kept Done log new a v ws o c h l p = p.1
push-kept (Full limit) log new a v ws o c h l p = absurd (let k = room-covered a log.items ws o c h p.0 in omega (arith, p.1))

-- RESTORING, item by item
pub put-old : (a v : ℕ) (olds ws : List (ℕ × ℕ)) → Once ws → IsSome (item_at a ws) → item_at a olds ≡ None → put a v (map (old_or olds) ws) ≡ map (old_or (keep a v olds)) ws
put-old a v olds [] o h n = absurd cc
put-old a v olds (w ∷ ws) o h n = by (w.0 == a) refl h (λ f. put-old a v olds ws o.1 f n)
  where
    this : (a == a) ≡ true
    this = grind (arith, nat_tests)

    by : (t : Bool) → (w.0 == a) ≡ t → IsSome (if t then Some w.1 else item_at a ws)
        → (IsSome (item_at a ws) → put a v (map (old_or olds) ws) ≡ map (old_or (keep a v olds)) ws)
        → (if t then (a, v) ∷ map (old_or olds) ws else old_or olds w ∷ put a v (map (old_or olds) ws))
        ≡ old_or (keep a v olds) w ∷ map (old_or (keep a v olds)) ws
    by true e f rec =
        let s : w.0 ≡ a = grind (arith, nat_tests) in
        let none : item_at a ws ≡ None = subst (λ (b : ℕ). item_at b ws ≡ None) s o.0 in
        let k : item_at a (keep a v olds) ≡ Some v = item-keep a v a olds ∙ (λ i. or_some (n i) (if this i then Some v else None)) in
        let kw : item_at w.0 (keep a v olds) ≡ Some v = subst (λ (b : ℕ). item_at b (keep a v olds) ≡ Some v) (sym s) k in
        (λ i. let p : ℕ × ℕ = (sym s i, value_or (sym kw i) w.1) in p ∷ sym (old-other a v olds ws none) i)
    by false e f rec =
        let m : w.0 ≢ a = grind (arith, nat_tests) in
        let head = old-other a v olds (w ∷ []) (there w a None m) in
        let rest = rec f in
        (λ i. get_or (sym head i) 0 w ∷ rest i)

pub some-old : (a : ℕ) (olds ws : List (ℕ × ℕ)) → IsSome (item_at a ws) → IsSome (item_at a (map (old_or olds) ws))
some-old a olds [] h = h
some-old a olds (w ∷ ws) h = by (w.0 == a) h (some-old a olds ws)
  where
    by : (t : Bool) → IsSome (if t then Some w.1 else item_at a ws) → (IsSome (item_at a ws) → IsSome (item_at a (map (old_or olds) ws)))
        → IsSome (if t then Some (value_or (item_at w.0 olds) w.1) else item_at a (map (old_or olds) ws))
    by true f rec = refl
    by false f rec = rec f

pub old-none : (ws : List (ℕ × ℕ)) → map (old_or []) ws ≡ ws
old-none [] = refl
old-none (w ∷ ws) = ap (λ (l : List (ℕ × ℕ)). w ∷ l) (old-none ws)

-- MANY MARKS. The last one comes first when they are rolled back
pub at_first-last : (ms : List Mark) (m : Mark) (ws : List (ℕ × ℕ)) → at_first (ms ++ m ∷ []) ws ≡ at_first ms (at_mark m ws)
at_first-last [] m ws = refl
at_first-last (n ∷ ms) m ws = ap (at_mark n) (at_first-last ms m ws)

pub marked-last : (ms : List Mark) (m : Mark) (ws : List (ℕ × ℕ)) → marked (ms ++ m ∷ []) ws ≡ marked ms (at_mark m ws) ++ at_mark m ws ∷ []
marked-last [] m ws = refl
marked-last (n ∷ ms) m ws = (λ i. at_mark n (at_first-last ms m ws i) ∷ marked-last ms m ws i)

pub tied-last : (ms : List Mark) (m : Mark) (ws : List (ℕ × ℕ)) → Tied (ms ++ m ∷ []) ws → Saves m ws × Tied ms (at_mark m ws)
tied-last [] m ws t = (t.0, tt)
tied-last (n ∷ ms) m ws t = let r = tied-last ms m ws t.1 in (r.0, (subst (Saves n) (at_first-last ms m ws) t.0, r.1))

pub tied-more : (ms : List Mark) (m : Mark) (ws : List (ℕ × ℕ)) → Saves m ws → Tied ms (at_mark m ws) → Tied (ms ++ m ∷ []) ws
tied-more [] m ws s t = (s, tt)
tied-more (n ∷ ms) m ws s t = (subst (Saves n) (sym (at_first-last ms m ws)) t.0, tied-more ms m ws s t.1)

pub length-marked : (ms : List Mark) (ws : List (ℕ × ℕ)) → length (marked ms ws) ≡ length ms
length-marked [] ws = refl
length-marked (m ∷ ms) ws = ap suc (length-marked ms ws)

-- one more item restored
pub restored-next : (ms ws : List (ℕ × ℕ)) (i : ℕ) (p : ℕ × ℕ) (log new : LogState) (r : Push) → Once ms → Covers ws ms → Once ws → i < length ms → get_or ms i (0, 0) ≡ p → log.items ≡ map (old_or (take i ms)) ws
    → Pushes log p.0 (put p.0 p.1 log.items) r new → new ≡ record log { items = map (old_or (take (i + 1) ms)) ws }
restored-next ms ws i p log new r om c ow l is now push = by r push
  where
    none : item_at p.0 (take i ms) ≡ None
    none = ap (λ (q : ℕ × ℕ). item_at q.0 (take i ms)) (sym is) ∙ none-take ms i om l

    there_now : IsSome (item_at p.0 ws)
    there_now = c p.0 (ap (λ (o : Option ℕ). is_some o) (item-here ms i p.0 om l (ap (λ (q : ℕ × ℕ). q.0) is)))

    more : keep p.0 p.1 (take i ms) ≡ take (i + 1) ms
    more = keep-new (take i ms) p.0 p.1 none ∙ sym (take_more ms i (0, 0) l ∙ ap (λ (q : ℕ × ℕ). take i ms ++ q ∷ []) is)

    is_now : put p.0 p.1 log.items ≡ map (old_or (take (i + 1) ms)) ws
    is_now = ap (put p.0 p.1) now ∙ (put-old p.0 p.1 (take i ms) ws ow there_now none ∙ ap (λ (os : List (ℕ × ℕ)). map (old_or os) ws) more)

    by : (q : Push) → Pushes log p.0 (put p.0 p.1 log.items) q new → new ≡ record log { items = map (old_or (take (i + 1) ms)) ws }
    by Done h = h.1 ∙ ap (λ (xs : List (ℕ × ℕ)). let k : LogState = record log { items = xs } in k) is_now
    by (Full limit) h = absurd (let s : is_some (item_at p.0 log.items) ≡ true = subst (λ (xs : List (ℕ × ℕ)). IsSome (item_at p.0 xs)) (sym now) (some-old p.0 (take i ms) ws there_now) in
        let n : is_some (item_at p.0 log.items) ≡ false = ap (λ (o : Option ℕ). is_some o) h.0 in
        let z : true ≡ false = sym s ∙ n in cc)

abbrev pub lower : List Mark → ℕ → List (ℕ × ℕ) → List Mark
lower ms upper xs = set ms (upper - 1) (record (get_or ms (upper - 1) blank_mark) { olds = record (get_or ms (upper - 1) blank_mark).olds { items = keep_all xs (get_or ms (upper - 1) blank_mark).olds.items } })

pub keep_all-fits : (xs ys ws : List (ℕ × ℕ)) → Once ys → Covers ws ys → Covers ws xs → Once (keep_all xs ys) × Covers ws (keep_all xs ys)
keep_all-fits [] ys ws o c d = (o, c)
keep_all-fits (x ∷ xs) ys ws o c d =
    let this : (x.0 == x.0) ≡ true = grind (arith, nat_tests) in
    let h : IsSome (item_at x.0 ws) = d x.0 (ap (λ (t : Bool). is_some (if t then Some x.1 else item_at x.0 xs)) this) in
    keep_all-fits xs (keep x.0 x.1 ys) ws (once-keep x.0 x.1 ys o) (covers-keep x.0 x.1 ws ys c h) (λ b k. d b (by (x.0 == b) (item_at b xs) k))
  where
    by : (t : Bool) (o : Option ℕ) → IsSome o → IsSome (if t then Some x.1 else o)
    by true o k = refl
    by false o k = k

pub some-take : (b i : ℕ) (xs : List (ℕ × ℕ)) → IsSome (item_at b (take i xs)) → IsSome (item_at b xs)
some-take b zero xs k = absurd cc
some-take b (suc i) [] k = absurd cc
some-take b (suc i) (x ∷ xs) k = by (x.0 == b) k (some-take b i xs)
  where
    by : (t : Bool) → IsSome (if t then Some x.1 else item_at b (take i xs)) → (IsSome (item_at b (take i xs)) → IsSome (item_at b xs)) → IsSome (if t then Some x.1 else item_at b xs)
    by true f rec = refl
    by false f rec = rec f

pub covers-take : (ws xs : List (ℕ × ℕ)) (i : ℕ) → Covers ws xs → Covers ws (take i xs)
covers-take ws xs i c b k = c b (some-take b i xs k)

-- one more value taken into the mark below
pub merged-next : (ms now : List Mark) (upper i : ℕ) (p : ℕ × ℕ) (up low : Mark) (new : LogState) (r : Push) → 0 < upper → upper < length ms → CanMerge (get_or ms (upper - 1) blank_mark) (get_or ms upper blank_mark)
    → now ≡ lower ms upper (take i (get_or ms upper blank_mark).olds.items) → up ≡ get_or now upper up → low ≡ get_or now (upper - 1) low
    → i < length (get_or ms upper blank_mark).olds.items → p ≡ get_or up.olds.items i (0, 0)
    → Pushes low.olds p.0 (keep p.0 p.1 low.olds.items) r new → set now (upper - 1) (record { count = low.count; olds = new }) ≡ lower ms upper (take (i + 1) (get_or ms upper blank_mark).olds.items)
merged-next ms now upper i p up low new r some high can is up_is low_is l item push = last
  where
    ups : List (ℕ × ℕ)
    ups = (get_or ms upper blank_mark).olds.items

    base : Mark
    base = get_or ms (upper - 1) blank_mark

    with_items : List (ℕ × ℕ) → Mark
    with_items xs = record (get_or ms (upper - 1) blank_mark) { olds = record (get_or ms (upper - 1) blank_mark).olds { items = xs } }

    size : length now ≡ length ms
    size = ap length is ∙ length-set ms (upper - 1) (with_items (keep_all (take i ups) base.olds.items))

    up_here : up ≡ get_or ms upper blank_mark
    up_here =
        up_is
        ∙ (get_or_default now upper up blank_mark (omega (arith, size))
        ∙ (ap (λ (xs : List Mark). get_or xs upper blank_mark) is
        ∙ get_or-set_other ms (upper - 1) upper (with_items (keep_all (take i ups) base.olds.items)) blank_mark (omega arith)))

    low_here : low ≡ with_items (keep_all (take i ups) base.olds.items)
    low_here =
        low_is
        ∙ (get_or_default now (upper - 1) low blank_mark (omega (arith, size))
        ∙ (ap (λ (xs : List Mark). get_or xs (upper - 1) blank_mark) is
        ∙ get_or-set_same ms (upper - 1) (with_items (keep_all (take i ups) base.olds.items)) blank_mark (omega arith)))

    at : get_or ups i (0, 0) ≡ p
    at = sym (item ∙ ap (λ (m : Mark). get_or m.olds.items i (0, 0)) up_here)

    fits : Once (keep_all (take i ups) base.olds.items) × Covers can.items (keep_all (take i ups) base.olds.items)
    fits = keep_all-fits (take i ups) base.olds.items can.items can.once can.lower_there (covers-take can.items ups i can.upper_there)

    found : IsSome (item_at p.0 can.items)
    found = can.upper_there p.0 (subst (λ (o : Option ℕ). IsSome o) (ap (λ (q : ℕ × ℕ). item_at q.0 ups) at) (some-here ups i l))

    more : keep p.0 p.1 (keep_all (take i ups) base.olds.items) ≡ keep_all (take (i + 1) ups) base.olds.items
    more = sym (ap (λ (xs : List (ℕ × ℕ)). keep_all xs base.olds.items) (take_more ups i (0, 0) l ∙ ap (λ (q : ℕ × ℕ). take i ups ++ q ∷ []) at) ∙ keep_all-more (take i ups) base.olds.items p)

    pushed : new ≡ record low.olds { items = keep p.0 p.1 low.olds.items }
    pushed =
        push-kept r low.olds new p.0 p.1 can.items (subst (λ (m : Mark). Once m.olds.items) (sym low_here) fits.0)
        (subst (λ (m : Mark). Covers can.items m.olds.items) (sym low_here) fits.1) found
        (subst (λ (m : Mark). length can.items ≤ m.olds.len) (sym low_here) can.room) push

    mark : ◌≡◌ {A = Mark} (record { count = low.count; olds = new }) (with_items (keep_all (take (i + 1) ups) base.olds.items))
    mark = ap (λ (k : LogState). let m : Mark = record { count = low.count; olds = k } in m) pushed
        ∙ (ap (λ (m : Mark). let k : Mark = record { count = m.count; olds = record m.olds { items = keep p.0 p.1 m.olds.items } } in k) low_here ∙ ap with_items more)

    last : set now (upper - 1) (record { count = low.count; olds = new }) ≡ lower ms upper (take (i + 1) ups)
    last = (λ j. set (is j) (upper - 1) (mark j)) ∙ set-set ms (upper - 1) (with_items (keep_all (take i ups) base.olds.items)) (with_items (keep_all (take (i + 1) ups) base.olds.items))
