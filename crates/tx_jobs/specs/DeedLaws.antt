-- Laws of deeds: what one transaction did, what a caller did, and what all did in a closed memory.
use Rattle.std.proofs.Common.{ℕ, zero, suc, ◌≡◌, ◌<◌, ◌≤◌, ◌+◌, ◌-◌, ◌∙◌, List, [], ◌∷◌, ◌++◌, Bool, true, false, length, length-append, get_or, refl, sym, ap, arith, subst, append-nil, append_assoc, inl, inr}
use Rattle.std.specs.Prelude.{◌==◌, ◌⊎◌, leb, ltb, if◌then◌else◌, All, sum_by, map, Option, Some, None}
use Rattle.std.specs.List.{range_with_len}
use Rattle.std.proofs.lemmas.Bool.Decides.{nat_tests}
use Rattle.std.proofs.lemmas.List.{get_or_default, length-replicate, map-append}
use Rattle.std.proofs.lemmas.List.FromFn.{map-range_with_len_more}
use Rattle.std.proofs.lemmas.List.Sums.{sum_by-cons}
use Rattle.stm_model.specs.declared.alg.Alg.{Alg}
use Rattle.stm_model.specs.declared.config.Config.{Config}
use Rattle.stm_model.specs.Histories.{Entry, Ascending, IsLegal, made_by, memory_at, memory_after}
use Rattle.stm_model.specs.HistoryLaws.{memory_at-early, memory_at-past, memory_at-first, memory_at-all}
use Rattle.stm_model.specs.Logs.{Log}
use Rattle.stm_model.specs.Memories.{overlay, Explains, is_empty}
use Rattle.stm_model.specs.Overlays.{overlay-length}
use Rattle.tx_jobs.specs.Counts.{over-same, numbered}
use Rattle.tx_jobs.specs.Deeds.{IsDeed, AreDeeds, HasDone, deeds_by, Leads, over, InOrder, InOneOrder}
use Rattle.tx_jobs.specs.Gathered.{listed, Listed, none_yet, one_more, Gathered}
use Rattle.tx_jobs.specs.Known.{Known}
use Rattle.tx_jobs.specs.Moments.{Took, zeros}
use Rattle.tx_jobs.specs.MomentLaws.{stood}
use Rattle.tx_jobs.specs.Repeats.{MadeOne, log_of}
use Rattle.tx_jobs.specs.Stories.{Past, Came}
use Rattle.tx_jobs.specs.StoryLaws.{story}

-- WHAT A CALLER DID. Nothing, and this after that
pub done-none : {D : Type 0} {does : D → Log → Type 0} {before after : List Entry} → after ≡ before → HasDone does [] before after
done-none {before = before} same = record { entries = []; made = same ∙ sym (append-nil before); are = tt }

are-append : {D : Type 0} (does : D → Log → Type 0) (es fs : List Entry) (ds cs : List D) → AreDeeds does es ds → AreDeeds does fs cs → AreDeeds does (es ++ fs) (ds ++ cs)
are-append does [] fs [] cs p q = q
are-append does [] fs (d ∷ ds) cs p q = absurd p
are-append does (e ∷ es) fs [] cs p q = absurd p
are-append does (e ∷ es) fs (d ∷ ds) cs p q = (p.0, are-append does es fs ds cs p.1 q)

pub done-then : {D : Type 0} {does : D → Log → Type 0} {ds cs : List D} {a b c : List Entry} → HasDone does ds a b → HasDone does cs b c → HasDone does (ds ++ cs) a c
done-then {does = does} {ds = ds} {cs = cs} {a = a} p q = record {
  entries = p.entries ++ q.entries;
  made = q.made ∙ (ap (λ l. l ++ q.entries) p.made ∙ append_assoc a p.entries q.entries);
  are = are-append does p.entries q.entries ds cs p.are q.are;
}

no-writes : (ws : List (ℕ × ℕ)) → is_empty ws ≡ true → ws ≡ []
no-writes [] is = refl
no-writes (w ∷ ws) is = absurd cc

-- a transaction that tells of a deed is that deed, and no other, if the deed leaves nothing as it was
pub did : {D S : Type 0} {good : List ℕ → Type 0} {words : ℕ} {tells : Log → Type 0} {u w : Known} (view : List ℕ → S) (moves : D → S → S → Type 0) (d : D)
    → ((s : S) → moves d s s → ⊥) → ((log : Log) → tells log → IsDeed good words view moves d log) → Took good words tells u w
    → HasDone (IsDeed good words view moves) (d ∷ []) u.made w.made
did {D} {S} {good} {words} {tells} {u} {w} view moves d changes to took = by took.made
  where
    by : MadeOne took.log u.made w.made → HasDone (IsDeed good words view moves) (d ∷ []) u.made w.made
    by (inl k) =
        let s = stood took in
        let moved : moves d (view s.0) (view (overlay s.0 took.log.writes)) = to took.log took.told s.0 s.1 s.2 s.3 in
        absurd (changes (view s.0) (subst (λ (ws : List (ℕ × ℕ)). moves d (view s.0) (view (overlay s.0 ws))) (no-writes took.log.writes k.0) moved))
    by (inr k) = record { entries = k.1 ∷ []; made = k.3; are = (subst (IsDeed good words view moves d) (sym k.2) (to took.log took.told), tt) }

-- and one that wrote nothing is none
pub did-nothing : {D : Type 0} {does : D → Log → Type 0} {good : List ℕ → Type 0} {words : ℕ} {tells : Log → Type 0} {u w : Known}
    → ((log : Log) → tells log → log.writes ≡ []) → Took good words tells u w → HasDone does [] u.made w.made
did-nothing {D} {does} {good} {words} {tells} {u} {w} none took = by took.made
  where
    by : MadeOne took.log u.made w.made → HasDone does [] u.made w.made
    by (inl k) = done-none k.1
    by (inr k) = absurd (let no : true ≡ false = subst (λ (ws : List (ℕ × ℕ)). is_empty ws ≡ false) (none took.log took.told) k.0 in cc)

-- what was gathered in rounds, of each of which it is told what was done
listed-did : {D V : Type 0} (does : D → Log → Type 0) (deed : V → D) {tells : ℕ → Option V → Known → Known → Type 0} {u : Known} (xs : List V) (w : Known)
    → ((k : ℕ) (o : Option V) (v w : Known) → tells k o v w → HasDone does (map deed (listed o)) v.made w.made) → Listed tells u xs w → HasDone does (map deed xs) u.made w.made
listed-did does deed xs w to none_yet = done-none refl
listed-did {D} {V} does deed {u = u} xs w to (one_more {xs = ys} {v = v} x each told) =
    subst (λ ds. HasDone does ds u.made w.made) (sym (map-append deed ys (x ∷ []))) (done-then (listed-did does deed ys v to each) (to (length ys) (Some x) v w told))

pub gathered-did : {D V : Type 0} {does : D → Log → Type 0} {tells : ℕ → Option V → Known → Known → Type 0} {count : ℕ} {u : Known} {xs : List V} {w : Known} (deed : V → D)
    → ((k : ℕ) (o : Option V) (v w : Known) → tells k o v w → HasDone does (map deed (listed o)) v.made w.made) → Gathered tells count u xs w
    → HasDone does (map deed xs) u.made w.made
gathered-did {D} {V} {does} {tells} {count} {u} {xs} {w} deed to gathered = by gathered.ends
  where
    by : ((length xs ≡ count) × (w ≡ gathered.last)) ⊎ tells (length xs) None gathered.last w → HasDone does (map deed xs) u.made w.made
    by (inl whole) = subst (λ (k : Known). HasDone does (map deed xs) u.made k.made) (sym whole.1) (listed-did does deed xs gathered.last to gathered.each)
    by (inr told) =
        subst (λ ds. HasDone does ds u.made w.made) (append-nil (map deed xs))
        (done-then (listed-did does deed xs gathered.last to gathered.each) (to (length xs) None gathered.last w told))

-- and which answers these are, where each round tells it
pub gathered-are : {V : Type 0} {tells : ℕ → Option V → Known → Known → Type 0} {count : ℕ} {u : Known} {xs : List V} {w : Known} (f : ℕ → V)
    → ((k : ℕ) (x : V) (v w : Known) → tells k (Some x) v w → x ≡ f k) → Gathered tells count u xs w → xs ≡ map f (range_with_len 0 (length xs))
gathered-are {V} {tells} {count} {u} {xs} {w} f is gathered = by xs gathered.last gathered.each
  where
    by : (xs : List V) (w : Known) → Listed tells u xs w → xs ≡ map f (range_with_len 0 (length xs))
    by xs w none_yet = refl
    by xs w (one_more {xs = ys} {v = v} x each told) =
        let more = map-range_with_len_more f 0 (length ys) (length ys) (omega arith) in
        ap (λ l. l ++ x ∷ []) (by ys v each) ∙ (ap (λ y. map f (range_with_len 0 (length ys)) ++ y ∷ []) (is (length ys) x v w told)
        ∙ (sym more ∙ ap (λ k. map f (range_with_len 0 k)) (sym (length-append ys (x ∷ [])))))

-- so where they are numbers from one on
pub gathered-range : {tells : ℕ → Option ℕ → Known → Known → Type 0} {count : ℕ} {u : Known} {xs : List ℕ} {w : Known} (from : ℕ)
    → ((k x : ℕ) (v w : Known) → tells k (Some x) v w → x ≡ from + k) → Gathered tells count u xs w → xs ≡ range_with_len from (length xs)
gathered-range {xs = xs} from is gathered = gathered-are (λ i. from + i) is gathered ∙ numbered from (length xs)

-- of a caller that had made nothing, the entries that it has made
all-made : {D : Type 0} {does : D → Log → Type 0} {ds : List D} {before after : List Entry} (es : List Entry) → HasDone does ds before after → before ≡ [] → after ≡ es → AreDeeds does es ds
all-made {does = does} {ds = ds} es done none is = subst (λ es. AreDeeds does es ds) (sym (done.made ∙ ap (λ l. l ++ done.entries) none) ∙ is) done.are

-- WHAT ALL DID. At each entry of a legal history the memory is good and has what was read
abbrev StandsAt : (List ℕ → Type 0) → List ℕ → List Entry → Type 0
StandsAt good m [] = Unit {0}
StandsAt good m (e ∷ es) = good m × Explains m e.reads × StandsAt good (overlay m e.writes) es

later : (floor : ℕ) (es : List Entry) (k : ℕ) (d : Entry) → Ascending floor es → k < length es → floor < (get_or es k d).time
later floor [] k d asc lt = absurd (omega arith)
later floor (x ∷ es) zero d asc lt = asc.0
later floor (x ∷ es) (suc k) d asc lt = let a = asc.0 in let h = later x.time es k d asc.1 (omega arith) in omega arith

stands : (good : List ℕ → Type 0) (es : List Entry) (floor : ℕ) (m : List ℕ) → Ascending floor es
    → All (λ e. Explains (memory_at (e.time - 1) es m) e.reads) es → ((s : ℕ) → good (memory_at s es m)) → StandsAt good m es
stands good [] floor m asc reads goods = tt
stands good (e ∷ es) floor m asc reads goods = (
  subst good same (goods (e.time - 1)),
  subst (λ k. Explains k e.reads) same (reads 0 e (omega arith)),
  stands good es e.time (overlay m e.writes) asc.1 more_reads more_goods,
)
  where
    same : memory_at (e.time - 1) (e ∷ es) m ≡ m
    same = memory_at-early (e.time - 1) (e.time - 1) (e ∷ es) m (omega arith) ((let a = asc.0 in omega arith), asc.1)

    more_reads : All (λ d. Explains (memory_at (d.time - 1) es (overlay m e.writes)) d.reads) es
    more_reads = λ k d lt.
        let t = later e.time es k d asc.1 lt in
        subst (λ x. Explains x (get_or es k d).reads) (memory_at-past ((get_or es k d).time - 1) e es m (omega arith)) (reads (suc k) d (omega arith))

    more_goods : (s : ℕ) → good (memory_at s es (overlay m e.writes))
    more_goods s = by (leb e.time s) refl
      where
        by : (b : Bool) → leb e.time s ≡ b → good (memory_at s es (overlay m e.writes))
        by true is = subst good (memory_at-past s e es m (grind (arith, nat_tests))) (goods s)
        by false is =
            let le : s ≤ e.time = grind (arith, nat_tests) in
            subst good (memory_at-first e es m asc.1 ∙ sym (memory_at-early s e.time es (overlay m e.writes) le asc.1)) (goods e.time)

leading : {D S : Type 0} (good : List ℕ → Type 0) (words : ℕ) (view : List ℕ → S) (moves : D → S → S → Type 0) (es : List Entry) (ds : List D) (m : List ℕ) → length m ≡ words
    → StandsAt good m es → AreDeeds (IsDeed good words view moves) es ds → Leads moves ds (view m) (view (memory_after es m))
leading good words view moves [] [] m long at are = refl
leading good words view moves [] (d ∷ ds) m long at are = absurd are
leading good words view moves (e ∷ es) [] m long at are = absurd are
leading good words view moves (e ∷ es) (d ∷ ds) m long at are = (
  view (overlay m e.writes),
  are.0 m at.0 long at.1,
  leading good words view moves es ds (overlay m e.writes) (overlay-length m e.writes ∙ long) at.2 are.1,
)

-- each caller's deeds, put together as the entries stand
module _ {D : Type 0} (does : D → Log → Type 0) where
  none-left : (ds : List D) → AreDeeds does [] ds → [] ≡ ds
  none-left [] are = refl
  none-left (d ∷ ds) are = absurd are

  first-of : (b : Bool) → b ≡ true → (e : Entry) (es : List Entry) (ds : List D) → AreDeeds does (if b then e ∷ es else es) ds
      → (d : D) × (rest : List D) × (ds ≡ d ∷ rest) × does d (log_of e) × AreDeeds does es rest
  first-of true is e es [] are = absurd are
  first-of true is e es (d ∷ ds) are = (d, ds, refl, are.0, are.1)
  first-of false is e es ds are = absurd (let no : false ≡ true = is in cc)

  -- what each caller did but for the first deed of one
  abbrev others : ℕ → List D → (ℕ → List D) → ℕ → List D
  others caller rest own n = if caller == n then rest else own n

  others-are : (e : Entry) (es : List Entry) (own : ℕ → List D) (rest : List D) → AreDeeds does (made_by e.caller es) rest
      → ((n : ℕ) → AreDeeds does (made_by n (e ∷ es)) (own n)) → (n : ℕ) → AreDeeds does (made_by n es) (others e.caller rest own n)
  others-are e es own rest here are n = by (e.caller == n) refl (are n)
    where
      by : (b : Bool) → (e.caller == n) ≡ b → AreDeeds does (if b then e ∷ made_by n es else made_by n es) (own n) → AreDeeds does (made_by n es) (if b then rest else own n)
      by true is all = let same : e.caller ≡ n = grind (arith, nat_tests) in subst (λ (k : ℕ). AreDeeds does (made_by k es) rest) same here
      by false is all = all

  joined : (e : Entry) (es : List Entry) (own : ℕ → List D) (d : D) (rest ds : List D) → own e.caller ≡ d ∷ rest
      → ((n : ℕ) → deeds_by n es ds ≡ others e.caller rest own n) → (n : ℕ) → deeds_by n (e ∷ es) (d ∷ ds) ≡ own n
  joined e es own d rest ds first more n = by (e.caller == n) refl (more n)
    where
      by : (b : Bool) → (e.caller == n) ≡ b → deeds_by n es ds ≡ (if b then rest else own n) → (if b then d ∷ deeds_by n es ds else deeds_by n es ds) ≡ own n
      by true is rests = let same : e.caller ≡ n = grind (arith, nat_tests) in ap (λ (l : List D). d ∷ l) rests ∙ (sym first ∙ ap own same)
      by false is rests = rests

  together : (es : List Entry) (own : ℕ → List D) → ((n : ℕ) → AreDeeds does (made_by n es) (own n)) → (ds : List D) × AreDeeds does es ds × ((n : ℕ) → deeds_by n es ds ≡ own n)
  together [] own are = ([], tt, λ n. none-left (own n) (are n))
  together (e ∷ es) own are =
      let here : (d : D) × (rest : List D) × (own e.caller ≡ d ∷ rest) × does d (log_of e) × AreDeeds does (made_by e.caller es) rest =
      first-of (e.caller == e.caller) (grind (arith, nat_tests)) e (made_by e.caller es) (own e.caller) (are e.caller) in
      let more = together es (others e.caller here.1 own) (others-are e es own here.1 here.4 are) in
      (here.0 ∷ more.0, (here.3, more.1), joined e es own here.0 here.1 more.0 here.2 more.2)

-- THE LAW, in any legal history that begins with so many words
pub in-order : {D S : Type 0} (good : List ℕ → Type 0) (words : ℕ) (view : List ℕ → S) (moves : D → S → S → Type 0) (opening : List ℕ) (floor : ℕ) (history : List Entry) (own : ℕ → List D)
    → length opening ≡ words → IsLegal good opening floor history → ((n : ℕ) → AreDeeds (IsDeed good words view moves) (made_by n history) (own n))
    → InOrder (IsDeed good words view moves) moves own history (view opening) (view (memory_after history opening))
in-order good words view moves opening floor history own long legal are =
    let all = together (IsDeed good words view moves) history own are in
    record {
      deeds = all.0;
      are = all.1;
      each = all.2;
      leads = leading good words view moves history all.0 opening long (stands good history floor opening legal.ascending legal.reads legal.good_always) all.1;
    }

-- SUMS over callers
over-none : (k : ℕ) → over k (λ n. 0) ≡ 0
over-none zero = refl
over-none (suc k) = let more = over-none k in omega (arith, more)

module _ {D : Type 0} (f : D → ℕ) (c : ℕ) (d : D) (own : ℕ → List D) where
  abbrev more_of : ℕ → ℕ
  more_of n = sum_by f (if c == n then d ∷ own n else own n)

  not-yet : (k : ℕ) → k ≤ c → over k more_of ≡ over k (λ n. sum_by f (own n))
  not-yet k le = over-same k more_of (λ n. sum_by f (own n)) (λ n lt. by n (c == n) refl (omega (arith, le, lt)))
    where
      by : (n : ℕ) (b : Bool) → (c == n) ≡ b → n < c → sum_by f (if b then d ∷ own n else own n) ≡ sum_by f (own n)
      by n true is lt = absurd (let same : c ≡ n = grind (arith, nat_tests) in omega (arith, same, lt))
      by n false is lt = refl

  one-more : (k : ℕ) → c < k → over k more_of ≡ f d + over k (λ n. sum_by f (own n))
  one-more zero lt = absurd (omega (arith, lt))
  one-more (suc k) lt = by (c == k) refl (λ less. one-more k less)
    where
      by : (b : Bool) → (c == k) ≡ b → (c < k → over k more_of ≡ f d + over k (λ n. sum_by f (own n))) → over k more_of + sum_by f (if b then d ∷ own k else own k) ≡ f d + (over k (λ n. sum_by f (own n)) + sum_by f (own k))
      by true is more = let same : c ≡ k = grind (arith, nat_tests) in let before = not-yet k (omega (arith, same)) in let here = sum_by-cons f d (own k) in omega (arith, before, here)
      by false is more = let less : c < k = grind (arith, nat_tests, lt) in let before = more less in omega (arith, before)

not-there : (b : Bool) (e : Entry) (es : List Entry) → (if b then e ∷ es else es) ≡ [] → (b ≡ false) × (es ≡ [])
not-there true e es none = absurd cc
not-there false e es none = (refl, none)

all-sums : {D : Type 0} (does : D → Log → Type 0) (f : D → ℕ) (k : ℕ) (es : List Entry) (ds : List D) → AreDeeds does es ds → ((n : ℕ) → k ≤ n → made_by n es ≡ [])
    → sum_by f ds ≡ over k (λ n. sum_by f (deeds_by n es ds))
all-sums does f k [] [] are nobody = sym (over-none k)
all-sums does f k [] (d ∷ ds) are nobody = absurd are
all-sums does f k (e ∷ es) [] are nobody = absurd are
all-sums does f k (e ∷ es) (d ∷ ds) are nobody =
    let more = all-sums does f k es ds are.1 (λ n le. (not-there (e.caller == n) e (made_by n es) (nobody n le)).1) in
    let here = one-more f e.caller d (λ n. deeds_by n es ds) k low in
    let one = sum_by-cons f d ds in
    omega (arith, more, here, one)
  where
    low : e.caller < k
    low = by (ltb e.caller k) refl
      where
        by : (b : Bool) → ltb e.caller k ≡ b → e.caller < k
        by true is = grind (arith, nat_tests, is)
        by false is =
            let le : k ≤ e.caller = grind (arith, nat_tests, is) in
            let own : (e.caller == e.caller) ≡ true = grind (arith, nat_tests) in
            let no : true ≡ false = sym own ∙ (not-there (e.caller == e.caller) e (made_by e.caller es) (nobody e.caller le)).0 in
            absurd (let both = no in cc)

-- THE LAW in a closed memory of so many words and callers, each of which tells of deeds
module _ {D S V : Type 0} (good : List ℕ → Type 0) (view : List ℕ → S) (moves : D → S → S → Type 0) (own : ℕ → V → List D) (tells : ℕ → ℕ → V → Known → Known → Type 0) where
  -- the deeds of caller n, if there is one
  own-of : (c : Config) (alg : Alg) (memory : List ℕ) (answers : List V) (past : Past)
      → ((n : ℕ) (v : V) (u w : Known) → tells c.words n v u w → HasDone (IsDeed good c.words view moves) (own n v) u.made w.made)
      → Came good c alg (tells c.words) memory answers past → (n : ℕ)
      → (ds : List D) × AreDeeds (IsDeed good c.words view moves) (made_by n past.history) ds × ((v : V) → n < c.callers → ds ≡ own n (get_or answers n v))
  own-of c alg memory answers past told came n = by (ltb n c.callers) refl
    where
      by : (b : Bool) → ltb n c.callers ≡ b
          → (ds : List D) × AreDeeds (IsDeed good c.words view moves) (made_by n past.history) ds × ((v : V) → n < c.callers → ds ≡ own n (get_or answers n v))
      by true is =
          let low : n < c.callers = grind (arith, nat_tests, is) in
          let v : V = (story came n low).0 in
          let s = came.stories n v low in (
            own n (get_or answers n v),
            all-made (made_by n past.history) (told n (get_or answers n v) s.before s.after s.told) s.fresh.0 s.made,
            λ x lt. ap (own n) (get_or_default answers n v x (let count = came.each in omega (arith, count, lt))),
          )
      by false is =
          let high : c.callers ≤ n = grind (arith, nat_tests, is) in
          ([], subst (λ es. AreDeeds (IsDeed good c.words view moves) es []) (sym (came.nobody_else n high)) tt, λ x lt. absurd (omega (arith, high, lt)))

  order-of : (c : Config) (alg : Alg) (memory : List ℕ) (answers : List V) (past : Past)
      → ((n : ℕ) (v : V) (u w : Known) → tells c.words n v u w → HasDone (IsDeed good c.words view moves) (own n v) u.made w.made)
      → Came good c alg (tells c.words) memory answers past
      → InOneOrder (IsDeed good c.words view moves) moves own c.callers answers past.history (view (zeros c.words)) (view memory)
  order-of c alg memory answers past told came =
      let each = own-of c alg memory answers past told came in
      let all = in-order good c.words view moves (zeros c.words) c.clock past.history (λ n. (each n).0) (length-replicate {A = ℕ} c.words 0) came.legal (λ n. (each n).1) in
      let end : memory_after past.history (zeros c.words) ≡ memory = sym (came.end ∙ memory_at-all past.clock past.history (zeros c.words) came.within) in
      let same : (n : ℕ) (v : V) → n < c.callers → deeds_by n past.history all.deeds ≡ own n (get_or answers n v) = λ n v lt. all.each n ∙ (each n).2 v lt in
      record {
        deeds = all.deeds;
        are = all.are;
        each = same;
        leads = subst (λ m. Leads moves all.deeds (view (zeros c.words)) (view m)) end all.leads;
        sums =
            λ f v.
            all-sums (IsDeed good c.words view moves) f c.callers past.history all.deeds all.are came.nobody_else
            ∙ over-same c.callers (λ n. sum_by f (deeds_by n past.history all.deeds)) (λ n. sum_by f (own n (get_or answers n v))) (λ n lt. ap (sum_by f) (same n v lt));
      }

  pub in-one-order : {c : Config} {alg : Alg} {memory : List ℕ} {answers : List V} {past : Past} (words callers : ℕ) → c.words ≡ words → c.callers ≡ callers
      → ((n : ℕ) (v : V) (u w : Known) → tells words n v u w → HasDone (IsDeed good words view moves) (own n v) u.made w.made)
      → Came good c alg (tells c.words) memory answers past
      → InOneOrder (IsDeed good words view moves) moves own callers answers past.history (view (zeros words)) (view memory)
  in-one-order {c} {alg} {memory} {answers} {past} words callers is_words is_callers told came =
      let here = subst (λ (k : ℕ). (n : ℕ) (v : V) (u w : Known) → tells k n v u w → HasDone (IsDeed good k view moves) (own n v) u.made w.made) (sym is_words) told in
      subst (λ (k : ℕ). InOneOrder (IsDeed good words view moves) moves own k answers past.history (view (zeros words)) (view memory)) is_callers
      (subst (λ (k : ℕ). InOneOrder (IsDeed good k view moves) moves own c.callers answers past.history (view (zeros k)) (view memory)) is_words (order-of c alg memory answers past here came))

-- WHAT IS KEPT: where each deed moves a weight from what it brings to what it takes, so do all
pub conserved : {D S : Type 0} (moves : D → S → S → Type 0) (weight : S → ℕ) (brings takes : D → ℕ)
    → ((d : D) (a b : S) → moves d a b → weight a + brings d ≡ takes d + weight b)
    → (ds : List D) (from to : S) → Leads moves ds from to → weight from + sum_by brings ds ≡ sum_by takes ds + weight to
conserved moves weight brings takes one [] from to leads = let same = ap weight leads in let none : sum_by brings [] ≡ 0 = refl in let nor : sum_by takes [] ≡ 0 = refl in omega (arith, same, none, nor)
conserved moves weight brings takes one (d ∷ ds) from to leads =
    let here = one d from leads.0 leads.1 in
    let more = conserved moves weight brings takes one ds leads.0 to leads.2 in
    let brought = sum_by-cons brings d ds in
    let taken = sum_by-cons takes d ds in
    omega (arith, here, more, brought, taken)
