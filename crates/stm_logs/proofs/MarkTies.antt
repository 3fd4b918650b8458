-- The marks of a log beside its items: what a write, a mark, a roll back and a release make of both.
use Rattle.std.proofs.Common.{ℕ, zero, suc, ◌≡◌, ◌<◌, ◌≤◌, ◌+◌, ◌-◌, List, [], ◌∷◌, ◌++◌, length, get_or, set, take, map, Bool, true, false, inl, inr, refl, sym, ap, ◌∙◌, subst, arith}
use Rattle.std.specs.Prelude.{Option, Some, None, IsSome, is_some, ◌==◌, if◌then◌else◌}
use Rattle.std.proofs.lemmas.Bool.{cases_order}
use Rattle.std.proofs.lemmas.List.{get_or-take, length-map, take-map, length-take-le, take_more, take_more_set, length-set, get_or-set_same, get_or-set_other, set-get_or}
use Rattle.std.proofs.Math.Seq.{take-length, get_or-append_seam, take-append_seam}
use Rattle.stm_model.specs.Memories.{item_at, put, Once}
use Rattle.stm_logs.specs.declared.marks.Mark.{Mark}
use Rattle.stm_logs.specs.declared.push.Push.{Push}
use Rattle.stm_logs.specs.declared.push.Push.TheVariants.{Done, Full}
use Rattle.stm_logs.specs.LogStates.{LogState, Pushes, firsts}
use Rattle.stm_logs.specs.Marks.{value_or, old_or, at_mark, at_first, marked, Covers, Saves, Tied, Rooms, keep_some, saved, emptied_mark, merged, blank_mark, CanMerge}
use Rattle.stm_logs.proofs.MarkLemmas.{at-saved, saves-saved, at-merged, old-none, marked-last, tied-last, tied-more, length-marked, keep_all-fits, some-take}

-- the last mark and those below it
pub top-split : (ms : List Mark) (d : ℕ) → 0 < d → d ≤ length ms → take d ms ≡ take (d - 1) ms ++ get_or ms (d - 1) blank_mark ∷ []
top-split ms d some l = let e : d ≡ d - 1 + 1 = omega arith in ap (λ (k : ℕ). take k ms) e ∙ take_more ms (d - 1) blank_mark (omega arith)

pub top-tied : (ms : List Mark) (d : ℕ) (ws : List (ℕ × ℕ)) → 0 < d → d ≤ length ms → Tied (take d ms) ws → Saves (get_or ms (d - 1) blank_mark) ws × Tied (take (d - 1) ms) (at_mark (get_or ms (d - 1) blank_mark) ws)
top-tied ms d ws some l t = tied-last (take (d - 1) ms) (get_or ms (d - 1) blank_mark) ws (subst (λ (ns : List Mark). Tied ns ws) (top-split ms d some l) t)

pub top-marked : (ms : List Mark) (d : ℕ) (ws : List (ℕ × ℕ)) → 0 < d → d ≤ length ms
    → marked (take d ms) ws
    ≡ marked (take (d - 1) ms) (at_mark (get_or ms (d - 1) blank_mark) ws) ++ at_mark (get_or ms (d - 1) blank_mark) ws ∷ []
top-marked ms d ws some l = ap (λ (ns : List Mark). marked ns ws) (top-split ms d some l) ∙ marked-last (take (d - 1) ms) (get_or ms (d - 1) blank_mark) ws

pub length-marks : (ms : List Mark) (d : ℕ) (ws : List (ℕ × ℕ)) → d ≤ length ms → length (marked (take d ms) ws) ≡ d
length-marks ms d ws l = length-marked (take d ms) ws ∙ length-take-le d ms l

-- how many items there were at a mark
counted : (ms : List Mark) (k : ℕ) (ws : List (ℕ × ℕ)) → k < length ms → Tied ms ws → length (get_or (marked ms ws) k []) ≡ (get_or ms k blank_mark).count
counted [] k ws l t = absurd (omega arith)
counted (m ∷ ms) zero ws l t = length-take-le m.count (map (old_or m.olds.items) (at_first ms ws)) (let n = length-map (at_first ms ws) (old_or m.olds.items) in let h = t.0.count in omega arith)
counted (m ∷ ms) (suc k) ws l t = counted ms k ws (omega arith) t.1

pub count-marked : (ms : List Mark) (d k : ℕ) (ws : List (ℕ × ℕ)) → k < d → d ≤ length ms → Tied (take d ms) ws → length (get_or (marked (take d ms) ws) k []) ≡ (get_or ms k blank_mark).count
count-marked ms d k ws low high t =
    counted (take d ms) k ws (let n = length-take-le d ms high in omega arith) t
    ∙ ap (λ (m : Mark). m.count) (get_or-take d ms k blank_mark low)

-- another last mark, of other items, with the same items at it
pub swap-top : (ms : List Mark) (d : ℕ) (n : Mark) (ws ys : List (ℕ × ℕ)) → 0 < d → d ≤ length ms → Tied (take d ms) ws → Saves n ys → at_mark n ys ≡ at_mark (get_or ms (d - 1) blank_mark) ws
    → Tied (take d (set ms (d - 1) n)) ys × (marked (take d (set ms (d - 1) n)) ys ≡ marked (take d ms) ws)
swap-top ms d n ws ys some l t s e =
    let front : take d (set ms (d - 1) n) ≡ take (d - 1) ms ++ n ∷ [] = (let f : d ≡ d - 1 + 1 = omega arith in ap (λ (k : ℕ). take k (set ms (d - 1) n)) f ∙ take_more_set ms (d - 1) n (omega arith)) in
    let old = top-tied ms d ws some l t in (
      subst (λ (ns : List Mark). Tied ns ys) (sym front) (tied-more (take (d - 1) ms) n ys s (subst (Tied (take (d - 1) ms)) (sym e) old.1)),
      ap (λ (ns : List Mark). marked ns ys) front ∙ (marked-last (take (d - 1) ms) n ys ∙ (ap (λ (zs : List (ℕ × ℕ)). marked (take (d - 1) ms) zs ++ zs ∷ []) e ∙ sym (top-marked ms d ws some l))),
    )

pub rooms-set : (len : ℕ) (ms : List Mark) (i : ℕ) (n : Mark) → Rooms len ms → len ≤ n.olds.len → Rooms len (set ms i n)
rooms-set len ms i n r l k b = elim (cases_order k i) [
  | inl e ↦ (let h : get_or (set ms i n) k blank_mark ≡ n = rw e (get_or-set_same ms i n blank_mark (let s = length-set ms i n in omega arith)) in subst (λ (m : Mark). len ≤ m.olds.len) (sym h) l)
  | inr o ↦
      (let h : get_or (set ms i n) k blank_mark ≡ get_or ms k blank_mark =
      get_or-set_other ms i k n blank_mark (λ e. elim o [ inl f ↦ omega arith | inr f ↦ omega arith ]) in
      subst (λ (m : Mark). len ≤ m.olds.len) (sym h) (r k (let s = length-set ms i n in omega arith)))
]

-- A WRITE
pub push-tied : (ms : List Mark) (d a x : ℕ) (n : Mark) (ws : List (ℕ × ℕ)) → 0 < d → d ≤ length ms → n ≡ saved a ws (get_or ms (d - 1) blank_mark) → Once ws → Tied (take d ms) ws
    → Tied (take d (set ms (d - 1) n)) (put a x ws) × (marked (take d (set ms (d - 1) n)) (put a x ws) ≡ marked (take d ms) ws)
push-tied ms d a x n ws some l e o t =
    let m = get_or ms (d - 1) blank_mark in
    let s = (top-tied ms d ws some l t).0 in
    swap-top ms d n ws (put a x ws) some l t (subst (λ (k : Mark). Saves k (put a x ws)) (sym e) (saves-saved a x m ws s)) (ap (λ (k : Mark). at_mark k (put a x ws)) e ∙ at-saved a x m ws o s.count)

-- one that was refused was at a new address, of which nothing is kept
pub push-refused : (ms : List Mark) (d a : ℕ) (n : Mark) (ws : List (ℕ × ℕ)) → n ≡ saved a ws (get_or ms (d - 1) blank_mark) → item_at a ws ≡ None → set ms (d - 1) n ≡ ms
push-refused ms d a n ws e f =
    let m = get_or ms (d - 1) blank_mark in
    ap (set ms (d - 1)) (e ∙ ap (λ (o : Option ℕ). let k : Mark = record m { olds = record m.olds { items = keep_some o a m.olds.items } } in k) f) ∙ set-get_or ms (d - 1) blank_mark

-- one at a new address, with the marks as they are
pub new-tied : (ms : List Mark) (d a x : ℕ) (ws : List (ℕ × ℕ)) → d ≤ length ms → item_at a ws ≡ None → Once ws → Tied (take d ms) ws
    → Tied (take d ms) (put a x ws) × (marked (take d ms) (put a x ws) ≡ marked (take d ms) ws)
new-tied ms zero a x ws l f o t = (tt, refl)
new-tied ms (suc d) a x ws l f o t =
    let n = saved a ws (get_or ms (suc d - 1) blank_mark) in
    subst (λ (ns : List Mark). Tied (take (suc d) ns) (put a x ws) × (marked (take (suc d) ns) (put a x ws) ≡ marked (take (suc d) ms) ws))
    (push-refused ms (suc d) a n ws refl f) (push-tied ms (suc d) a x n ws (omega arith) l refl o t)

-- what stands of a log with marks
abbrev pub Whole : List Mark → ℕ → LogState → Type 0
Whole ms d g = (d ≤ length ms) × Rooms g.len ms × Tied (take d ms) g.items

abbrev with_marks : List Mark → ℕ → LogState → LogState
with_marks ms d g = record g { marks = marked (take d ms) g.items; marks_limit = length ms }

pub pushed-stands : (ms : List Mark) (d a x : ℕ) (n : Mark) (g h : LogState) (r : Push) → 0 < d → d ≤ length ms
    → n ≡ saved a g.items (get_or ms (d - 1) blank_mark) → Once g.items → Rooms g.len (set ms (d - 1) n)
    → Tied (take d ms) g.items → Pushes g a (put a x g.items) r h → Whole (set ms (d - 1) n) d h
pushed-stands ms d a x n g h Done some l e o rooms t p =
    let whole : Whole (set ms (d - 1) n) d (record g { items = put a x g.items }) = ((let s = length-set ms (d - 1) n in omega arith), rooms, (push-tied ms d a x n g.items some l e o t).0) in
    subst (Whole (set ms (d - 1) n) d) (sym p.1) whole
pushed-stands ms d a x n g h (Full limit) some l e o rooms t p =
    let whole : Whole (set ms (d - 1) n) d g = ((let s = length-set ms (d - 1) n in omega arith), rooms, subst (λ (ns : List Mark). Tied (take d ns) g.items) (sym (push-refused ms d a n g.items e p.0)) t) in
    subst (Whole (set ms (d - 1) n) d) (sym p.3) whole

pub pushed-view : (ms : List Mark) (d a x : ℕ) (n : Mark) (g h : LogState) (r : Push) → 0 < d → d ≤ length ms → n ≡ saved a g.items (get_or ms (d - 1) blank_mark) → Once g.items
    → Tied (take d ms) g.items → Pushes g a (put a x g.items) r h → Pushes (with_marks ms d g) a (put a x g.items) r (with_marks (set ms (d - 1) n) d h)
pushed-view ms d a x n g h Done some l e o t p =
    (p.0, ap (with_marks (set ms (d - 1) n) d) p.1 ∙ λ j. let k : LogState = record g { items = put a x g.items; marks = (push-tied ms d a x n g.items some l e o t).1 j; marks_limit = length-set ms (d - 1) n j } in k)
pushed-view ms d a x n g h (Full limit) some l e o t p =
    (p.0, p.1, p.2, ap (with_marks (set ms (d - 1) n) d) p.3 ∙ ap (λ (ns : List Mark). with_marks ns d g) (push-refused ms d a n g.items e p.0))

pub new-stands : (ms : List Mark) (d a x : ℕ) (g h : LogState) (r : Push) → d ≤ length ms → item_at a g.items ≡ None → Once g.items → Whole ms d g
    → Pushes g a (put a x g.items) r h → Whole ms d h
new-stands ms d a x g h Done l f o w p = subst (Whole ms d) (sym p.1) (w.0, w.1, (new-tied ms d a x g.items l f o w.2).0)
new-stands ms d a x g h (Full limit) l f o w p = subst (Whole ms d) (sym p.3) w

pub new-view : (ms : List Mark) (d a x : ℕ) (g h : LogState) (r : Push) → d ≤ length ms → item_at a g.items ≡ None → Once g.items → Tied (take d ms) g.items
    → Pushes g a (put a x g.items) r h → Pushes (with_marks ms d g) a (put a x g.items) r (with_marks ms d h)
new-view ms d a x g h Done l f o t p =
    (p.0, ap (with_marks ms d) p.1 ∙ ap (λ (ks : List (List (ℕ × ℕ))). let k : LogState = record g { items = put a x g.items; marks = ks; marks_limit = length ms } in k) (new-tied ms d a x g.items l f o t).1)
new-view ms d a x g h (Full limit) l f o t p = (p.0, p.1, p.2, ap (with_marks ms d) p.3)

-- A ROLL BACK to the last mark
pub restored-tied : (ms : List Mark) (d : ℕ) (n : Mark) (ws : List (ℕ × ℕ)) → 0 < d → d ≤ length ms → n ≡ emptied_mark (get_or ms (d - 1) blank_mark) → Tied (take d ms) ws
    → Tied (take d (set ms (d - 1) n)) (at_mark (get_or ms (d - 1) blank_mark) ws) × (marked (take d (set ms (d - 1) n)) (at_mark (get_or ms (d - 1) blank_mark) ws) ≡ marked (take d ms) ws)
restored-tied ms d n ws some l e t =
    let m = get_or ms (d - 1) blank_mark in
    let s = (top-tied ms d ws some l t).0 in
    let size : length (at_mark m ws) ≡ m.count = length-take-le m.count (map (old_or m.olds.items) ws) (let k = length-map ws (old_or m.olds.items) in let h = s.count in omega arith) in
    let same : at_mark (emptied_mark m) (at_mark m ws) ≡ at_mark m ws = ap (take m.count) (old-none (at_mark m ws)) ∙ (ap (λ (k : ℕ). take k (at_mark m ws)) (sym size) ∙ take-length (at_mark m ws)) in
    let saves : Saves (emptied_mark m) (at_mark m ws) = record { count = omega arith; once = tt; there = λ b k. absurd cc } in
    swap-top ms d n ws (at_mark m ws) some l t (subst (λ (k : Mark). Saves k (at_mark m ws)) (sym e) saves) (ap (λ (k : Mark). at_mark k (at_mark m ws)) e ∙ same)

pub last-marked : (ms : List Mark) (d : ℕ) (ws : List (ℕ × ℕ)) → 0 < d → d ≤ length ms → get_or (marked (take d ms) ws) (length (marked (take d ms) ws) - 1) [] ≡ at_mark (get_or ms (d - 1) blank_mark) ws
last-marked ms d ws some l =
    let y = at_mark (get_or ms (d - 1) blank_mark) ws in
    let low = marked (take (d - 1) ms) y in
    let size : length (marked (take d ms) ws) - 1 ≡ length low = (let a = length-marks ms d ws l in let b = length-marks ms (d - 1) y (omega arith) in omega arith) in
    (λ i. get_or (top-marked ms d ws some l i) (size i) []) ∙ get_or-append_seam low y [] []

-- A MARK more
pub mark-tied : (ms : List Mark) (d : ℕ) (n : Mark) (ws : List (ℕ × ℕ)) → d < length ms → n.count ≡ length ws → n.olds.items ≡ [] → Tied (take d ms) ws
    → Tied (take (d + 1) (set ms d n)) ws × (marked (take (d + 1) (set ms d n)) ws ≡ marked (take d ms) ws ++ ws ∷ [])
mark-tied ms d n ws l count none t =
    let front : take (d + 1) (set ms d n) ≡ take d ms ++ n ∷ [] = take_more_set ms d n l in
    let same : at_mark n ws ≡ ws = (λ i. take (count i) (map (old_or (none i)) ws)) ∙ (ap (take (length ws)) (old-none ws) ∙ take-length ws) in
    let saves : Saves n ws = record {
      count = omega arith;
      once = subst Once (sym none) tt;
      there = λ b k.
          absurd (let z : is_some (item_at b n.olds.items) ≡ false = ap (λ (os : List (ℕ × ℕ)). is_some (item_at b os)) none in
          let y : true ≡ false = sym k ∙ z in cc);
    } in (
      subst (λ (ns : List Mark). Tied ns ws) (sym front) (tied-more (take d ms) n ws saves (subst (Tied (take d ms)) (sym same) t)),
      ap (λ (ns : List Mark). marked ns ws) front ∙ (marked-last (take d ms) n ws ∙ ap (λ (zs : List (ℕ × ℕ)). marked (take d ms) zs ++ zs ∷ []) same),
    )

-- A RELEASE of the last mark
covers-at : (m : Mark) (ws olds : List (ℕ × ℕ)) → Covers (at_mark m ws) olds → Covers ws olds
covers-at m ws olds c b k = below b ws (some-take b m.count (map (old_or m.olds.items) ws) (c b k))
  where
    below : (b : ℕ) (xs : List (ℕ × ℕ)) → IsSome (item_at b (map (old_or m.olds.items) xs)) → IsSome (item_at b xs)
    below b [] h = h
    below b (x ∷ xs) h = by (x.0 == b) h (below b xs)
      where
        by : (t : Bool) → IsSome (if t then Some (value_or (item_at x.0 m.olds.items) x.1) else item_at b (map (old_or m.olds.items) xs))
            → (IsSome (item_at b (map (old_or m.olds.items) xs)) → IsSome (item_at b xs)) → IsSome (if t then Some x.1 else item_at b xs)
        by true f rec = refl
        by false f rec = rec f

pub can-merge : (ms : List Mark) (d len : ℕ) (ws : List (ℕ × ℕ)) → 1 < d → d ≤ length ms → Rooms len ms → length ws ≤ len → Tied (take d ms) ws → CanMerge (get_or ms (d - 1 - 1) blank_mark) (get_or ms (d - 1) blank_mark)
can-merge ms d len ws some l rooms fits t =
    let top = top-tied ms d ws (omega arith) l t in
    let low = top-tied ms (d - 1) (at_mark (get_or ms (d - 1) blank_mark) ws) (omega arith) (omega arith) top.1 in
    record {
      items = ws;
      room = (let r = rooms (d - 1 - 1) (omega arith) in omega arith);
      once = low.0.once;
      lower_there = covers-at (get_or ms (d - 1) blank_mark) ws (get_or ms (d - 1 - 1) blank_mark).olds.items low.0.there;
      upper_there = top.0.there;
    }

pub dropped-tied : (ms : List Mark) (d : ℕ) (n : Mark) (ws : List (ℕ × ℕ)) → 1 < d → d ≤ length ms → n ≡ merged (get_or ms (d - 1 - 1) blank_mark) (get_or ms (d - 1) blank_mark) → Tied (take d ms) ws
    → Tied (take (d - 1) (set ms (d - 1 - 1) n)) ws × (marked (take (d - 1) (set ms (d - 1 - 1) n)) ws ≡ take (length (marked (take d ms) ws) - 1) (marked (take d ms) ws))
dropped-tied ms d n ws some l e t =
    let up = get_or ms (d - 1) blank_mark in
    let lo = get_or ms (d - 1 - 1) blank_mark in
    let y = at_mark up ws in
    let top = top-tied ms d ws (omega arith) l t in
    let low = top-tied ms (d - 1) y (omega arith) (omega arith) top.1 in
    let size : length y ≡ up.count = length-take-le up.count (map (old_or up.olds.items) ws) (let k = length-map ws (old_or up.olds.items) in let h = top.0.count in omega arith) in
    let fits = keep_all-fits up.olds.items lo.olds.items ws low.0.once (covers-at up ws lo.olds.items low.0.there) top.0.there in
    let saves : Saves (merged lo up) ws = record { count = (let h = low.0.count in let g = top.0.count in omega arith); once = fits.0; there = fits.1 } in
    let swapped = swap-top ms (d - 1) n y ws (omega arith) (omega arith) top.1 (subst (λ (k : Mark). Saves k ws) (sym e) saves)
    (ap (λ (k : Mark). at_mark k ws) e ∙ at-merged lo up ws (let h = low.0.count in omega arith)) in
    let rest = marked (take (d - 1) ms) y in
    let whole : marked (take d ms) ws ≡ rest ++ y ∷ [] = top-marked ms d ws (omega arith) l in
    let less : length (marked (take d ms) ws) - 1 ≡ length rest = (let a = length-marks ms d ws l in let b = length-marks ms (d - 1) y (omega arith) in omega arith) in
    (swapped.0, swapped.1 ∙ sym ((λ i. take (less i) (whole i)) ∙ take-append_seam rest (y ∷ [])))

-- the items at a mark are the first of those now, with other values
firsts-old : (olds ws : List (ℕ × ℕ)) → firsts (map (old_or olds) ws) ≡ firsts ws
firsts-old olds [] = refl
firsts-old olds (w ∷ ws) = ap (λ (l : List ℕ). w.0 ∷ l) (firsts-old olds ws)

pub at-prefix : (m : Mark) (ws : List (ℕ × ℕ)) → m.count ≤ length ws → firsts (at_mark m ws) ≡ take (length (at_mark m ws)) (firsts ws)
at-prefix m ws l =
    let xs = map (old_or m.olds.items) ws in
    let size : length (at_mark m ws) ≡ m.count = length-take-le m.count xs (let k = length-map ws (old_or m.olds.items) in omega arith) in
    sym (take-map (λ (w : ℕ × ℕ). w.0) m.count xs) ∙ (ap (take m.count) (firsts-old m.olds.items ws) ∙ ap (λ (k : ℕ). take k (firsts ws)) (sym size))
