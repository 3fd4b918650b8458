-- Laws of overlay, put and logs (they stand here, since other crates cite them).
use Rattle.std.proofs.Common.{ℕ, zero, suc, ◌≡◌, ◌<◌, ◌≢◌, List, [], ◌∷◌, ◌++◌, length, get_or, set, Bool, true, false, refl, sym, ap, ◌∙◌, arith, subst}
use Rattle.std.specs.Prelude.{Option, Some, None, MatchOption, ltb, ◌≤◌, ◌==◌, if◌then◌else◌}
use Rattle.std.proofs.Math.ListN.{length-set}
use Rattle.std.proofs.lemmas.List.{get_or-set_same, get_or-set_other}
use Rattle.std.proofs.lemmas.Bool.Decides.{nat_tests}
use Rattle.stm_model.specs.Memories.{overlay, item_at, put, Explains}
use Rattle.stm_model.specs.Logs.{Log, Reads, Writes}

pub overlay-length : (m : List ℕ) (ws : List (ℕ × ℕ)) → length (overlay m ws) ≡ length m
overlay-length m [] = refl
overlay-length m (w ∷ ws) = simp length-set (overlay-length m ws)

set_same : (l : List ℕ) (i x y : ℕ) → set (set l i x) i y ≡ set l i y
set_same [] i x y = refl
set_same (z ∷ l) zero x y = refl
set_same (z ∷ l) (suc i) x y = ap (λ w. z ∷ w) (set_same l i x y)

pub set_apart : (l : List ℕ) (i j x y : ℕ) → i ≢ j → set (set l i x) j y ≡ set (set l j y) i x
set_apart [] i j x y n = refl
set_apart (z ∷ l) zero zero x y n = absurd (n refl)
set_apart (z ∷ l) zero (suc j) x y n = refl
set_apart (z ∷ l) (suc i) zero x y n = refl
set_apart (z ∷ l) (suc i) (suc j) x y n = ap (λ w. z ∷ w) (set_apart l i j x y (λ e. n (ap suc e)))

overlay-put-cons : (m : List ℕ) (a v : ℕ) (w : ℕ × ℕ) (ws : List (ℕ × ℕ)) (b : Bool) → (w.0 == a) ≡ b
    → overlay m (put a v ws) ≡ set (overlay m ws) a v
    → overlay m (if b then (a, v) ∷ ws else w ∷ put a v ws) ≡ set (set (overlay m ws) w.0 w.1) a v
overlay-put-cons m a v w ws true e h =
    let same : w.0 ≡ a = grind (arith, nat_tests) in rw same (sym (set_same (overlay m ws) a w.1 v))
overlay-put-cons m a v w ws false e h =
    let apart : w.0 ≢ a = grind (arith, nat_tests) in rw h (set_apart (overlay m ws) a w.0 v w.1 (λ x. apart (sym x)))

-- a write into the log is a write onto the memory under it
pub overlay-put : (m : List ℕ) (a v : ℕ) (ws : List (ℕ × ℕ)) → overlay m (put a v ws) ≡ set (overlay m ws) a v
overlay-put m a v [] = refl
overlay-put m a v (w ∷ ws) = overlay-put-cons m a v w ws (w.0 == a) refl (overlay-put m a v ws)

at_some-cons : (m : List ℕ) (a x : ℕ) (w : ℕ × ℕ) (ws : List (ℕ × ℕ)) → a < length m → (b : Bool) → (w.0 == a) ≡ b
    → (if b then Some w.1 else item_at a ws) ≡ Some x → (item_at a ws ≡ Some x → get_or (overlay m ws) a 0 ≡ x)
    → get_or (set (overlay m ws) w.0 w.1) a 0 ≡ x
at_some-cons m a x w ws lt true t e h =
    let same : w.0 ≡ a = grind (arith, nat_tests) in
    let value : w.1 ≡ x = cc in
    let room : a < length (overlay m ws) = omega (arith, overlay-length m ws) in
    rw (same, value) (get_or-set_same (overlay m ws) a x 0 room)
at_some-cons m a x w ws lt false t e h =
    let apart : w.0 ≢ a = grind (arith, nat_tests) in
    get_or-set_other (overlay m ws) w.0 a w.1 0 (λ y. apart (sym y)) ∙ h e

-- what stands at an address of the memory under the writes
pub overlay-at_some : (m : List ℕ) (a x : ℕ) (ws : List (ℕ × ℕ)) → a < length m → item_at a ws ≡ Some x → get_or (overlay m ws) a 0 ≡ x
overlay-at_some m a x [] lt e = absurd (cc)
overlay-at_some m a x (w ∷ ws) lt e = at_some-cons m a x w ws lt (w.0 == a) refl e (overlay-at_some m a x ws lt)

at_none-cons : (m : List ℕ) (a : ℕ) (w : ℕ × ℕ) (ws : List (ℕ × ℕ)) (b : Bool) → (w.0 == a) ≡ b
    → (if b then Some w.1 else item_at a ws) ≡ None → (item_at a ws ≡ None → get_or (overlay m ws) a 0 ≡ get_or m a 0)
    → get_or (set (overlay m ws) w.0 w.1) a 0 ≡ get_or m a 0
at_none-cons m a w ws true t e h = absurd (cc)
at_none-cons m a w ws false t e h =
    let apart : w.0 ≢ a = grind (arith, nat_tests) in
    get_or-set_other (overlay m ws) w.0 a w.1 0 (λ y. apart (sym y)) ∙ h e

pub overlay-at_none : (m : List ℕ) (a : ℕ) (ws : List (ℕ × ℕ)) → item_at a ws ≡ None → get_or (overlay m ws) a 0 ≡ get_or m a 0
overlay-at_none m a [] e = refl
overlay-at_none m a (w ∷ ws) e = at_none-cons m a w ws (w.0 == a) refl e (overlay-at_none m a ws)

explains-item-cons : (m : List ℕ) (a x : ℕ) (r : ℕ × ℕ) (rs : List (ℕ × ℕ)) → get_or m r.0 0 ≡ r.1 → (b : Bool) → (r.0 == a) ≡ b
    → (if b then Some r.1 else item_at a rs) ≡ Some x → (item_at a rs ≡ Some x → get_or m a 0 ≡ x) → get_or m a 0 ≡ x
explains-item-cons m a x r rs at true t e h =
    let same : r.0 ≡ a = grind (arith, nat_tests) in
    let value : r.1 ≡ x = cc in sym (ap (λ k. get_or m k 0) same) ∙ (at ∙ value)
explains-item-cons m a x r rs at false t e h = h e

-- what explains a log reads the item of an address there
pub explains-item : (m : List ℕ) (a x : ℕ) (rs : List (ℕ × ℕ)) → Explains m rs → item_at a rs ≡ Some x → get_or m a 0 ≡ x
explains-item m a x [] h e = absurd (cc)
explains-item m a x (r ∷ rs) h e = explains-item-cons m a x r rs h.0 (r.0 == a) refl e (explains-item m a x rs h.1)

pub explains-prefix : (m : List ℕ) (rs : List (ℕ × ℕ)) (r : ℕ × ℕ) → Explains m (rs ++ r ∷ []) → Explains m rs × (get_or m r.0 0 ≡ r.1)
explains-prefix m [] r h = (tt, h.0)
explains-prefix m (q ∷ rs) r h = let k = explains-prefix m rs r h.1 in ((h.0, k.0), k.1)

see-by : (m : List ℕ) (l : Log) (a v : ℕ) (k : Log) → a < length m → (own : Option ℕ) → item_at a l.writes ≡ own → (old : Option ℕ) → item_at a l.reads ≡ old
    → MatchOption own (MatchOption old (k.reads ≡ l.reads ++ (a, v) ∷ []) (λ x. (v ≡ x) × (k.reads ≡ l.reads))) (λ x. (v ≡ x) × (k.reads ≡ l.reads))
    → Explains m k.reads → Explains m l.reads × (get_or (overlay m l.writes) a 0 ≡ v)
see-by m l a v k lt (Some x) own old is r h =
    (subst (Explains m) r.1 h, overlay-at_some m a x l.writes lt own ∙ sym r.0)
see-by m l a v k lt None own (Some x) is r h =
    let e = subst (Explains m) r.1 h in
    (e, overlay-at_none m a l.writes own ∙ (explains-item m a x l.reads e is ∙ sym r.0))
see-by m l a v k lt None own None is r h =
    let e = explains-prefix m l.reads (a, v) (subst (Explains m) r h) in
    (e.0, overlay-at_none m a l.writes own ∙ e.1)

-- a memory that explains the log after a read explained it before, and the answer is what the script sees there
pub reads-see : (m : List ℕ) (l : Log) (a v : ℕ) (k : Log) → a < length m → Reads l a v k → Explains m k.reads
    → Explains m l.reads × (get_or (overlay m l.writes) a 0 ≡ v)
reads-see m l a v k lt r h = see-by m l a v k lt (item_at a l.writes) refl (item_at a l.reads) refl r.1 h

-- two lists of numbers of one length that agree at each place are one
pub same_list : (xs ys : List ℕ) → length xs ≡ length ys → ((k : ℕ) → get_or xs k 0 ≡ get_or ys k 0) → xs ≡ ys
same_list [] [] e h = refl
same_list [] (y ∷ ys) e h = absurd (omega arith)
same_list (x ∷ xs) [] e h = absurd (omega arith)
same_list (x ∷ xs) (y ∷ ys) e h =
    let t : xs ≡ ys = same_list xs ys (omega arith) (λ k. h (suc k)) in
    let hd : x ≡ y = h 0 in cc

pub get_past : (xs : List ℕ) (k : ℕ) → length xs ≤ k → get_or xs k 0 ≡ 0
get_past [] k le = refl
get_past (x ∷ xs) zero le = absurd (omega arith)
get_past (x ∷ xs) (suc k) le = get_past xs k (omega arith)

overlay-same-at : (m : List ℕ) (ws vs : List (ℕ × ℕ)) (k : ℕ) → k < length m → (x : Option ℕ) → item_at k ws ≡ x → item_at k vs ≡ x → get_or (overlay m ws) k 0 ≡ get_or (overlay m vs) k 0
overlay-same-at m ws vs k lt None e f = overlay-at_none m k ws e ∙ sym (overlay-at_none m k vs f)
overlay-same-at m ws vs k lt (Some x) e f = overlay-at_some m k x ws lt e ∙ sym (overlay-at_some m k x vs lt f)

overlay-same-or : (m : List ℕ) (ws vs : List (ℕ × ℕ)) → ((b : ℕ) → item_at b ws ≡ item_at b vs) → (k : ℕ) → (b : Bool) → (ltb k (length m)) ≡ b → get_or (overlay m ws) k 0 ≡ get_or (overlay m vs) k 0
overlay-same-or m ws vs h k true e =
    let lt : k < length m = grind (arith, nat_tests) in overlay-same-at m ws vs k lt (item_at k vs) (h k) refl
overlay-same-or m ws vs h k false e =
    let le : length m ≤ k = grind (arith, nat_tests) in
    get_past (overlay m ws) k (omega (arith, overlay-length m ws)) ∙ sym (get_past (overlay m vs) k (omega (arith, overlay-length m vs)))

-- lists with the same items leave the same memory
pub overlay-same : (m : List ℕ) (ws vs : List (ℕ × ℕ)) → ((b : ℕ) → item_at b ws ≡ item_at b vs) → overlay m ws ≡ overlay m vs
overlay-same m ws vs h = same_list (overlay m ws) (overlay m vs) (overlay-length m ws ∙ sym (overlay-length m vs)) (λ k. overlay-same-or m ws vs h k (ltb k (length m)) refl)

-- a write is a write onto the memory that the script sees
pub writes-see : (m : List ℕ) (l : Log) (a v : ℕ) (k : Log) → Writes l a v k
    → (Explains m k.reads → Explains m l.reads) × (overlay m k.writes ≡ set (overlay m l.writes) a v)
writes-see m l a v k w = (
  subst (Explains m) w.0,
  overlay-same m k.writes (put a v l.writes) w.1 ∙ overlay-put m a v l.writes,
)
