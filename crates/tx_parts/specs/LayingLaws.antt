-- Laws of what is laid over a log.
use Rattle.std.proofs.Common.{ℕ, zero, suc, ◌≡◌, ◌<◌, ◌≤◌, ◌+◌, List, [], ◌∷◌, ◌++◌, length, take, get_or, Bool, true, false, refl, sym, ap, ◌∙◌, arith, subst, append-nil, append_assoc}
use Rattle.std.proofs.Math.Nat.{le-max_right}
use Rattle.std.specs.Prelude.{max, Option, Some, None, Result, Ok, Err, IfOk, OnOk, IfSome, IfNone, MatchOption, ◌==◌, if◌then◌else◌}
use Rattle.std.proofs.lemmas.Bool.Decides.{nat_tests}
use Rattle.stm_model.specs.declared.stop.Stop.{Stop}
use Rattle.stm_model.specs.Memories.{item_at, put, Once, Explains, overlay}
use Rattle.stm_model.specs.Overlays.{overlay-same}
use Rattle.stm_model.specs.PlainLaws.{put-item}
use Rattle.stm_model.specs.Logs.{Log, IsLog, Reads, Writes, SameMemories}
use Rattle.data_effects.specs.Effects.{Under}
use Rattle.stm_logs.specs.LogStates.{firsts}
use Rattle.tx_parts.specs.Laying.{laid, over, IsFull, Top, Within, ReadsMore, SameLog, Lays, OnlyReads, OnTop}

-- ITEMS. The first that is there
abbrev pub either : Option ℕ → Option ℕ → Option ℕ
either None o = o
either (Some x) o = Some x

once-put-cons : (a v : ℕ) (w : ℕ × ℕ) (ws : List (ℕ × ℕ)) (t : Bool) → (w.0 == a) ≡ t → item_at w.0 ws ≡ None → Once ws → Once (put a v ws) → Once (if t then (a, v) ∷ ws else w ∷ put a v ws)
once-put-cons a v w ws true e none o h = let same : w.0 ≡ a = grind (arith, nat_tests) in (subst (λ b. item_at b ws ≡ None) same none, o)
once-put-cons a v w ws false e none o h = (put-item a v w.0 ws ∙ (let n : (a == w.0) ≡ false = grind (arith, nat_tests) in rw n none), h)

pub once-put : (a v : ℕ) (ws : List (ℕ × ℕ)) → Once ws → Once (put a v ws)
once-put a v [] o = (refl, tt)
once-put a v (w ∷ ws) o = once-put-cons a v w ws (w.0 == a) refl o.0 o.1 (once-put a v ws o.1)

pub once-laid : (is ws : List (ℕ × ℕ)) → Once ws → Once (laid is ws)
once-laid [] ws o = o
once-laid (i ∷ is) ws o = once-laid is (put i.0 i.1 ws) (once-put i.0 i.1 ws o)

laid-item-cons : (b : ℕ) (i : ℕ × ℕ) (is ws : List (ℕ × ℕ)) (t : Bool) → (i.0 == b) ≡ t → item_at i.0 is ≡ None
    → either (item_at b is) (if t then Some i.1 else item_at b ws) ≡ either (if t then Some i.1 else item_at b is) (item_at b ws)
laid-item-cons b i is ws true e none = let same : i.0 ≡ b = grind (arith, nat_tests) in ap (λ o. either o (Some i.1)) (subst (λ a. item_at a is ≡ None) same none)
laid-item-cons b i is ws false e none = refl

-- what stands at an address under the items
pub laid-item : (b : ℕ) (is ws : List (ℕ × ℕ)) → Once is → item_at b (laid is ws) ≡ either (item_at b is) (item_at b ws)
laid-item b [] ws o = refl
laid-item b (i ∷ is) ws o = laid-item b is (put i.0 i.1 ws) o.1 ∙ (ap (either (item_at b is)) (put-item i.0 i.1 b ws) ∙ laid-item-cons b i is ws (i.0 == b) refl o.0)

pub over-once : (is : List (ℕ × ℕ)) (l : Log) → IsLog l → IsLog (over is l)
over-once is l o = record { reads = o.reads; writes = once-laid is l.writes o.writes }

-- one item more at the end
pub laid-last : (is ws : List (ℕ × ℕ)) (i : ℕ × ℕ) → laid (is ++ i ∷ []) ws ≡ put i.0 i.1 (laid is ws)
laid-last [] ws i = refl
laid-last (j ∷ is) ws i = laid-last is (put j.0 j.1 ws) i

-- FRAMES
pub reads-same : (l : Log) → ReadsMore l l
reads-same l = ([], sym (append-nil l.reads))

pub reads-then : (l k j : Log) → ReadsMore l k → ReadsMore k j → ReadsMore l j
reads-then l k j a b = (a.0 ++ b.0, b.1 ∙ (ap (λ rs. rs ++ b.0) a.1 ∙ append_assoc l.reads a.0 b.0))

pub only-same : (l : Log) → OnlyReads l l
only-same l = (reads-same l, refl)

pub only-then : (l k j : Log) → OnlyReads l k → OnlyReads k j → OnlyReads l j
only-then l k j a b = (reads-then l k j a.0 b.0, b.1 ∙ a.1)

pub no-stop : (o : Option Stop) (s : Stop) → o ≡ Some s → o ≡ None → ⊥
no-stop None s e n = absurd cc
no-stop (Some t) s e n = absurd cc

pub not-crowded : {P : Type 0} (len : ℕ) (p : Option Stop) → IsFull len p → p ≡ None → P
not-crowded len None f e = absurd f
not-crowded len (Some s) f e = absurd (no-stop (Some s) s refl e)

module _ {B : Type 0} (good : B → List ℕ → Type 0) (words : B → ℕ) (stops : B → Option Stop) (log : B → Log) where
  pub on_top-refl : (s : Top B) → OnTop good words stops log s s
  on_top-refl s = record { same = λ m. ((λ h. h), (λ h. h)); still = refl; len = refl; limit = refl; name = refl; reads = λ e. (e, only-same (log s.below)); marks = λ e. (e, refl, only-same (log s.below)) }

  pub on_top-trans : (s t u : Top B) → OnTop good words stops log s t → OnTop good words stops log t u → OnTop good words stops log s u
  on_top-trans s t u a e = record {
    same = λ w. ((λ q. (e.same w).0 ((a.same w).0 q)), (λ q. (a.same w).1 ((e.same w).1 q)));
    still = e.still ∙ a.still;
    len = e.len ∙ a.len;
    limit = e.limit ∙ a.limit;
    name = e.name ∙ a.name;
    reads = λ q. (let f = e.reads q in let r = a.reads f.0 in (r.0, only-then (log s.below) (log t.below) (log u.below) r.1 f.1));
    marks = λ q. (let f = e.marks q in let r = a.marks f.0 in (r.0, f.1 ∙ r.1, only-then (log s.below) (log t.below) (log u.below) r.2 f.2));
  }

  -- from a mark on, in the terms of what was there before it
  pub on_top-moved : (s t u : Top B) → t.below ≡ s.below → s.stopped ≡ None → t.room.len ≡ s.room.len → t.room.marks_limit ≡ s.room.marks_limit → t.name ≡ s.name
      → (u.stopped ≡ None → u.room.marks ≡ s.room.marks) → OnTop good words stops log t u → OnTop good words stops log s u
  on_top-moved s t u same none len limit name marks a =
      let o : OnTop good words stops log (record t { below = s.below }) u = subst (λ (b : B). OnTop good words stops log (record t { below = b }) u) same a in
      record { same = o.same; still = o.still; len = a.len ∙ len; limit = a.limit ∙ limit; name = a.name ∙ name; reads = o.reads; marks = λ q. (none, marks q, (o.marks q).2) }

  pub on_top-opened : (s t u : Top B) (stop : Stop) → t.below ≡ s.below → s.stopped ≡ None → t.room.len ≡ s.room.len → t.room.marks_limit ≡ s.room.marks_limit → t.name ≡ s.name
      → u.stopped ≡ Some stop → OnTop good words stops log t u → OnTop good words stops log s u
  on_top-opened s t u stop same none len limit name is a = on_top-moved s t u same none len limit name (λ q. absurd (no-stop u.stopped stop is q)) a

-- A READ through the overlay
-- of a word that lies in it
pub reads-top : (is : List (ℕ × ℕ)) (l : Log) (a v : ℕ) → Once is → item_at a is ≡ Some v → Reads (over is l) a v (over is l)
reads-top is l a v o e = (
  refl,
  subst (λ (q : Option ℕ).
      MatchOption q (MatchOption (item_at a l.reads) (l.reads ≡ l.reads ++ (a, v) ∷ []) (λ x. (v ≡ x) × (l.reads ≡ l.reads))) (λ x.
      (v ≡ x) × (l.reads ≡ l.reads))) (sym (laid-item a is l.writes o ∙ ap (λ q. either q (item_at a l.writes)) e)) (refl, refl),
)

-- of another
pub reads-below : (is : List (ℕ × ℕ)) (l k : Log) (a v : ℕ) → Once is → item_at a is ≡ None → Reads l a v k → Reads (over is l) a v (over is k)
reads-below is l k a v o e h = (
  ap (laid is) h.0,
  subst (λ (q : Option ℕ).
      MatchOption q (MatchOption (item_at a l.reads) (k.reads ≡ l.reads ++ (a, v) ∷ []) (λ x. (v ≡ x) × (k.reads ≡ l.reads))) (λ x.
      (v ≡ x) × (k.reads ≡ l.reads))) (sym (laid-item a is l.writes o ∙ ap (λ q. either q (item_at a l.writes)) e)) h.1,
)

-- A WRITE into it
put-either : (a v b : ℕ) (p q : Option ℕ) → either (if a == b then Some v else p) q ≡ (if a == b then Some v else either p q)
put-either a v b p q = by (a == b)
  where
    by : (t : Bool) → either (if t then Some v else p) q ≡ (if t then Some v else either p q)
    by true = refl
    by false = refl

pub writes-top : (is : List (ℕ × ℕ)) (l : Log) (a v : ℕ) → Once is → Writes (over is l) a v (over (put a v is) l)
writes-top is l a v o = (
  refl,
  λ b.
      laid-item b (put a v is) l.writes (once-put a v is o)
      ∙ (ap (λ q. either q (item_at b l.writes)) (put-item a v b is)
      ∙ (put-either a v b (item_at b is) (item_at b l.writes)
      ∙ (ap (λ q. if a == b then Some v else q) (sym (laid-item b is l.writes o)) ∙ sym (put-item a v b (laid is l.writes))))),
)

pub within-put : (n a v : ℕ) (is : List (ℕ × ℕ)) → a < n → Within n (firsts is) → Within n (firsts (put a v is))
within-put n a v [] low h = (low, tt)
within-put n a v (i ∷ is) low h = by (i.0 == a) (within-put n a v is low h.1)
  where
    by : (t : Bool) → Within n (firsts (put a v is)) → Within n (firsts (if t then (a, v) ∷ is else i ∷ put a v is))
    by true k = (low, h.1)
    by false k = (h.0, k)

pub within-take : (n k : ℕ) (xs : List ℕ) → Within n xs → Within n (take k xs)
within-take n zero [] h = tt
within-take n zero (a ∷ xs) h = tt
within-take n (suc k) [] h = tt
within-take n (suc k) (a ∷ xs) h = (h.0, within-take n k xs h.1)

pub within-at : (n i : ℕ) (is : List (ℕ × ℕ)) → i < length is → Within n (firsts is) → (get_or is i (0, 0)).0 < n
within-at n i [] low h = absurd (omega arith)
within-at n zero (w ∷ ws) low h = h.0
within-at n (suc i) (w ∷ ws) low h = within-at n i ws (omega arith) h.1

-- WRITTEN THROUGH
take-more : (is : List (ℕ × ℕ)) (i : ℕ) → i < length is → take (i + 1) is ≡ take i is ++ get_or is i (0, 0) ∷ []
take-more [] i low = absurd (omega arith)
take-more (w ∷ ws) zero low = refl
take-more (w ∷ ws) (suc i) low = ap (λ (k : ℕ). take k (w ∷ ws)) next ∙ ap (λ vs. w ∷ vs) (take-more ws i (omega arith))
  where
    next : suc i + 1 ≡ suc (i + 1)
    next = omega arith

pub lays-more : (is : List (ℕ × ℕ)) (i : ℕ) (l k j : Log) → i < length is → Lays (take i is) l k → Writes k (get_or is i (0, 0)).0 (get_or is i (0, 0)).1 j → Lays (take (i + 1) is) l j
lays-more is i l k j low h w = (
  w.0 ∙ h.0,
  λ b.
      w.1 b
      ∙ (put-item x.0 x.1 b k.writes
      ∙ (ap (λ q. if x.0 == b then Some x.1 else q) (h.1 b)
      ∙ (sym (put-item x.0 x.1 b (laid (take i is) l.writes))
      ∙ ap (item_at b) (sym (ap (λ vs. laid vs l.writes) (take-more is i low) ∙ laid-last (take i is) l.writes x))))),
)
  where
    x : ℕ × ℕ
    x = get_or is i (0, 0)

pub take-whole : (is : List (ℕ × ℕ)) (i : ℕ) → length is ≤ i → take i is ≡ is
take-whole [] zero low = refl
take-whole [] (suc i) low = refl
take-whole (w ∷ ws) zero low = absurd (omega arith)
take-whole (w ∷ ws) (suc i) low = ap (λ vs. w ∷ vs) (take-whole ws i (omega arith))

pub lays-all : (is : List (ℕ × ℕ)) (i : ℕ) (l k : Log) → length is ≤ i → Lays (take i is) l k → Lays is l k
lays-all is i l k high h = subst (λ (vs : List (ℕ × ℕ)). Lays vs l k) (take-whole is i high) h

pub same-then : (a b c : List ℕ → Type 0) → SameMemories a b → SameMemories b c → SameMemories a c
same-then a b c f g = λ m. ((λ h. (g m).0 ((f m).0 h)), (λ h. (f m).1 ((g m).1 h)))

-- THE RULE
pub keeps-like : (good : List ℕ → Type 0) (words : ℕ) (l k : Log) → SameLog l k → Under good words l good → Under good words k good
keeps-like good words l k same keeps m ok long sees = subst good (sym (overlay-same m k.writes l.writes same.1)) (keeps m ok long (subst (Explains m) same.0 sees))

pub explains-front : (m : List ℕ) (xs ys : List (ℕ × ℕ)) → Explains m (xs ++ ys) → Explains m xs
explains-front m [] ys e = tt
explains-front m (x ∷ xs) ys e = (e.0, explains-front m xs ys e.1)

-- who only read keeps the rule where he did before
pub keeps-more : (good : List ℕ → Type 0) (words : ℕ) (l k : Log) → OnlyReads l k → Under good words l good → Under good words k good
keeps-more good words l k more keeps m ok long sees =
    subst (λ (ws : List (ℕ × ℕ)). good (overlay m ws)) (sym more.1) (keeps m ok long (explains-front m l.reads more.0.0 (subst (Explains m) more.0.1 sees)))

-- what is so of an answer
pub answer-then : {T E : Type 0} (r : Result (Option T) E) (F G : T → Type 0) → IfOk r (λ o. IfSome o F) → ((t : T) → F t → G t) → IfOk r (λ o. IfSome o G)
answer-then (Ok (Some t)) F G h f = f t h
answer-then (Ok None) F G h f = h
answer-then (Err e) F G h f = h

pub ok-then : {T E : Type 0} (r : Result T E) (F G : T → Type 0) (W : Type 0) → OnOk r W → IfOk r F → ((t : T) → W → F t → G t) → IfOk r G
ok-then (Ok t) F G W w h f = f t w h
ok-then (Err e) F G W w h f = h

-- what lies below goes on, whether there was room or not
pub goes-either : (b o : Option Stop) (full : Option ℕ) → IfSome full (λ limit. b ≡ None) → IfNone full (b ≡ o) → o ≡ None → b ≡ None
goes-either b o None some none goes = none ∙ goes
goes-either b o (Some limit) some none goes = some

-- marks for the deeper of two parts are enough for the second
pub room-second : (d e a b most : ℕ) → e ≡ d → d + max a b ≤ most → e + b ≤ most
room-second d e a b most same fits = let le : b ≤ max a b = le-max_right a b in omega (arith, same, fits, le)
