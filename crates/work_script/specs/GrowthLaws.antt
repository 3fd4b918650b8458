-- What a caller has seen only grows, and so do its rows.
use Rattle.std.proofs.Common.{ℕ, zero, suc, ◌≡◌, ◌<◌, ◌≤◌, ◌+◌, List, [], ◌∷◌, ◌++◌, Bool, true, false, refl, sym, ap, ◌∙◌, arith, append_assoc, subst, length, get_or, inl, inr}
use Rattle.std.specs.Prelude.{◌⊎◌, ltb, All, Contains, map}
use Rattle.std.proofs.lemmas.Bool.Decides.{nat_tests}
use Rattle.std.proofs.lemmas.List.Elements.{Contains-append_left, Contains-append_right, All-append, All-head, All-tail}
use Rattle.stm_model.specs.Histories.{Entry, memory_at, Ascending}
use Rattle.stm_model.specs.HistoryLaws.{Within, memory_at-early, memory_at-append}
use Rattle.work_script.specs.declared.op.Op.{Op}
use Rattle.data_regions.specs.declared.region.Region.{Region}
use Rattle.work_script.specs.declared.report.Kind.{Kind}
use Rattle.work_script.specs.declared.report.Kind.TheVariants.{W, R, C}
use Rattle.work_script.specs.declared.report.Row.{Row}
use Rattle.work_script.specs.Reports.{RowFits, writers, writer_to, code, rank, IsBefore, AllAfter, Ordered, counted}
use Rattle.work_script.specs.Parts.{times, BeginsWith, RowIn, RowOf, by_kind, Worked}

-- what was seen up to the front is the memory of the whole there
pub seen-same : (s front : ℕ) (es seen : List Entry) (m : List ℕ) → BeginsWith es seen front → s ≤ front → memory_at s es m ≡ memory_at s seen m
seen-same s front es seen m h le =
    ap (λ x. memory_at s x m) h.1 ∙ (memory_at-append s seen h.0 m ∙ memory_at-early s front h.0 (memory_at s seen m) le h.2)

-- the caller saw more, up to a later front
pub record Grew (seen : List Entry) (front : ℕ) (now : List Entry) (then : ℕ) : Type 0 where
  pub later : List Entry
  pub is : now ≡ seen ++ later
  pub ascending : Ascending front later
  pub up_to : Within then later
  pub front_rose : front ≤ then

append-nil : {A : Type 0} (xs : List A) → xs ++ [] ≡ xs
append-nil [] = refl
append-nil (x ∷ xs) = ap (λ w. x ∷ w) (append-nil xs)

ascending-append : (a b : ℕ) (xs ys : List Entry) → Ascending a xs → Within b xs → a ≤ b → Ascending b ys → Ascending a (xs ++ ys)
ascending-append a b [] [] h u le k = tt
ascending-append a b [] (y ∷ ys) h u le k = (let z = k.0 in omega arith, k.1)
ascending-append a b (x ∷ xs) ys h u le k = (h.0, ascending-append x.time b xs ys h.1 u.1 u.0 k)

within-append : (b c : ℕ) (xs ys : List Entry) → Within b xs → b ≤ c → Within c ys → Within c (xs ++ ys)
within-append b c [] ys u le k = k
within-append b c (x ∷ xs) ys u le k = (let z = u.0 in omega arith, within-append b c xs ys u.1 le k)

pub grew-trans : (s : List Entry) (f : ℕ) (t : List Entry) (g : ℕ) (u : List Entry) (h : ℕ) → Grew s f t g → Grew t g u h → Grew s f u h
grew-trans s f t g u h a b =
    let fg = a.front_rose in let gh = b.front_rose in
    record {
      later = a.later ++ b.later;
      is = b.is ∙ (ap (λ w. w ++ b.later) a.is ∙ append_assoc s a.later b.later);
      ascending = ascending-append f g a.later b.later a.ascending a.up_to a.front_rose b.ascending;
      up_to = within-append g h a.later b.later a.up_to b.front_rose b.up_to;
      front_rose = omega arith;
    }

pub grew-begins : (s : List Entry) (f : ℕ) (t : List Entry) (g : ℕ) → Grew s f t g → BeginsWith t s f
grew-begins s f t g a = (a.later, a.is, a.ascending)

writer-append : (k : Kind) (p : ℕ) (xs ys : List ℕ) → writer_to k p xs ++ ys ≡ writer_to k p (xs ++ ys)
writer-append W p xs ys = refl
writer-append R p xs ys = refl
writer-append C p xs ys = refl

writers-append : (xs ys : List Row) → writers (xs ++ ys) ≡ writers xs ++ writers ys
writers-append [] ys = refl
writers-append (x ∷ xs) ys = ap (writer_to x.kind x.place) (writers-append xs ys) ∙ sym (writer-append x.kind x.place (writers xs) (writers ys))

times-append : (xs ys : List Entry) → times (xs ++ ys) ≡ times xs ++ times ys
times-append [] ys = refl
times-append (x ∷ xs) ys = ap (λ w. x.time ∷ w) (times-append xs ys)

one-at : (P : Row → Type 0) (r : Row) → P r → (k : ℕ) (d : Row) → k < 1 → P (get_or (r ∷ []) k d)
one-at P r h zero d lt = h
one-at P r h (suc k) d lt = absurd (omega arith)

one-row : (P : Row → Type 0) (r : Row) → P r → All P (r ∷ [])
one-row P r h = λ k d lt. one-at P r h k d lt

-- the next seq
numbered-append : (k : ℕ) (rows : List Row) (r : Row) → map (λ (x : Row). x.seq) rows ≡ counted k (length rows) → r.seq ≡ k + length rows
    → map (λ (x : Row). x.seq) (rows ++ r ∷ []) ≡ counted k (length (rows ++ r ∷ []))
numbered-append k [] r h is = let e : r.seq ≡ k = omega arith in ap (λ s. s ∷ []) e
numbered-append k (x ∷ rows) r h is =
    let head : x.seq ≡ k = cc in
    let tail : map (λ (y : Row). y.seq) rows ≡ counted (suc k) (length rows) = cc in
    let rest = numbered-append (suc k) rows r tail (omega arith) in
    cc

counted-below : (k n : ℕ) (rows : List Row) → map (λ (x : Row). x.seq) rows ≡ counted k n → All (λ (x : Row). x.seq < k + n) rows
counted-below k n [] h = λ i d lt. absurd (omega arith)
counted-below k zero (x ∷ rows) h = absurd cc
counted-below k (suc n) (x ∷ rows) h =
    let head : x.seq ≡ k = cc in
    let tail : map (λ (y : Row). y.seq) rows ≡ counted (suc k) n = cc in
    let rest = counted-below (suc k) n rows tail in
    λ i d lt. below-at i d lt rest head
  where
    below-at : (i : ℕ) (d : Row) → i < suc (length rows) → All (λ (y : Row). y.seq < suc k + n) rows → x.seq ≡ k → (get_or (x ∷ rows) i d).seq < k + suc n
    below-at zero d lt rest head = omega arith
    below-at (suc i) d lt rest head = let b = rest i d (omega arith) in omega arith

lt-or-eq : (a b : ℕ) (t : Bool) → ltb a b ≡ t → a ≤ b → (a < b) ⊎ (a ≡ b)
lt-or-eq a b true e le = inl (grind (arith, nat_tests))
lt-or-eq a b false e le = inr (grind (arith, nat_tests))

before-by : (r x : Row) → (rank r < rank x) ⊎ (rank r ≡ rank x) → r.caller ≡ x.caller → r.seq ≤ x.seq → IsBefore r x
before-by r x (inl h) c s = inl h
before-by r x (inr h) c s = inr (h, inr (c, s))

pub before-ranked : (r x : Row) → rank r ≤ rank x → r.caller ≡ x.caller → r.seq ≤ x.seq → IsBefore r x
before-ranked r x le c s = before-by r x (lt-or-eq (rank r) (rank x) (ltb (rank r) (rank x)) refl le) c s

after-append : (r : Row) (xs : List Row) (x : Row) → AllAfter r xs → IsBefore r x → AllAfter r (xs ++ x ∷ [])
after-append r [] x h b = (b, tt)
after-append r (y ∷ ys) x h b = (h.0, after-append r ys x h.1 b)

-- a row that each of the others is before goes to the end
pub ordered-append : (rows : List Row) (r : Row) → Ordered rows → All (λ (x : Row). IsBefore x r) rows → Ordered (rows ++ r ∷ [])
ordered-append [] r h b = (tt, tt)
ordered-append (x ∷ rows) r h b =
    (after-append x rows r h.0 (All-head (λ (y : Row). IsBefore y r) x rows b), ordered-append rows r h.1 (All-tail (λ (y : Row). IsBefore y r) x rows b))

code-small : (k : Kind) → code k ≤ 1
code-small W = omega arith
code-small R = omega arith
code-small C = omega arith

-- a W row later than the front, or another at the front or later, comes last
abbrev pub NextPlace : ℕ → Kind → ℕ → Type 0
NextPlace front W place = front < place
NextPlace front R place = front ≤ place
NextPlace front C place = front ≤ place

rank-next : (front : ℕ) (x r : Row) (k : Kind) → r.kind ≡ k → x.place ≤ front → NextPlace front k r.place → rank x ≤ rank r
rank-next front x r W is low next = let c = code-small x.kind in omega arith
rank-next front x r R is low next = let c = code-small x.kind in let d : code r.kind ≡ 1 = ap code is in omega arith
rank-next front x r C is low next = let c = code-small x.kind in let d : code r.kind ≡ 1 = ap code is in omega arith

module _ (good : List ℕ → Type 0) (opening : List ℕ) (regions : List Region) (script : Row → List Op) where
  -- what a row was, it stays
  row-by : (made seen made' seen' : List Entry) (front front' : ℕ) (r : Row) (k : Kind)
      → ((e : Entry) → Contains made e → Contains made' e) → Grew seen front seen' front'
      → by_kind k ((e : Entry) × Contains made e × RowOf good (length opening) regions (script r) r e) ((r.place ≤ front) × RowFits regions (script r) r (memory_at r.place seen opening))
      → by_kind k ((e : Entry) × Contains made' e × RowOf good (length opening) regions (script r) r e) ((r.place ≤ front') × RowFits regions (script r) r (memory_at r.place seen' opening))
  row-by made seen made' seen' front front' r W more grew h = (h.0, more h.0 h.1, h.2)
  row-by made seen made' seen' front front' r R more grew h =
      let up = grew.front_rose in let low = h.0 in
      (omega arith, subst (RowFits regions (script r) r) (sym (seen-same r.place front seen' seen opening (grew-begins seen front seen' front' grew) h.0)) h.1)
  row-by made seen made' seen' front front' r C more grew h =
      let up = grew.front_rose in let low = h.0 in
      (omega arith, subst (RowFits regions (script r) r) (sym (seen-same r.place front seen' seen opening (grew-begins seen front seen' front' grew) h.0)) h.1)

  higher : (front front' : ℕ) (rows : List Row) → front ≤ front' → All (λ (r : Row). r.place ≤ front) rows → All (λ (r : Row). r.place ≤ front') rows
  higher front front' rows up h = λ k d lt. let low = h k d lt in omega arith

  -- a caller that saw more keeps its rows
  pub worked-grows : (caller : ℕ) (made seen : List Entry) (front : ℕ) (seen' : List Entry) (front' : ℕ) (rows : List Row)
      → Grew seen front seen' front' → Worked good opening regions script caller made seen front rows → Worked good opening regions script caller made seen' front' rows
  worked-grows caller made seen front seen' front' rows grew h = record {
    writers = h.writers;
    each = λ k d lt. row-by made seen made seen' front front' (get_or rows k d) (get_or rows k d).kind (λ e c. c) grew (h.each k d lt);
    mine = h.mine;
    numbered = h.numbered;
    ordered = h.ordered;
    places = higher front front' rows grew.front_rose h.places;
  }

  -- the next row of a caller comes after its others
  next-ordered : (caller : ℕ) (made seen : List Entry) (front : ℕ) (rows : List Row) (r : Row)
      → Worked good opening regions script caller made seen front rows → r.caller ≡ caller → r.seq ≡ length rows → NextPlace front r.kind r.place → Ordered (rows ++ r ∷ [])
  next-ordered caller made seen front rows r h who seq next =
      let low = counted-below 0 (length rows) rows h.numbered in
      ordered-append rows r h.ordered
      (λ k d lt. before-ranked (get_or rows k d) r (rank-next front (get_or rows k d) r r.kind refl (h.places k d lt) next) (h.mine k d lt ∙ sym who) (let b = low k d lt in omega arith))

  -- a row more, of an entry more
  pub worked-wrote : (caller : ℕ) (made seen : List Entry) (front : ℕ) (seen' : List Entry) (front' : ℕ) (rows : List Row) (r : Row) (e : Entry)
      → Grew seen front seen' front' → Worked good opening regions script caller made seen front rows
      → r.kind ≡ W → r.caller ≡ caller → r.seq ≡ length rows → front < r.place → r.place ≤ front' → RowOf good (length opening) regions (script r) r e
      → Worked good opening regions script caller (made ++ e ∷ []) seen' front' (rows ++ r ∷ [])
  worked-wrote caller made seen front seen' front' rows r e grew h is who seq next top row =
      let made' = made ++ e ∷ [] in
      let P : Row → Type 0 = RowIn good opening regions script made' seen' front' in
      record {
        writers = writers-append rows (r ∷ []) ∙ (ap (λ k. writers rows ++ writer_to k r.place []) is ∙ (ap (λ w. w ++ r.place ∷ []) h.writers ∙ (ap (λ p. times made ++ p ∷ []) (sym row.time) ∙ sym (times-append made (e ∷ [])))));
        each = All-append P rows (r ∷ [])
            (λ k d lt. row-by made seen made' seen' front front' (get_or rows k d) (get_or rows k d).kind (λ x c. Contains-append_left made (e ∷ []) x c) grew (h.each k d lt))
            (one-row P r (subst (λ k. by_kind k ((x : Entry) × Contains made' x × RowOf good (length opening) regions (script r) r x) ((r.place ≤ front') × RowFits regions (script r) r (memory_at r.place seen' opening))) (sym is)
            (e, Contains-append_right made (e ∷ []) e (0, omega arith, refl), row)));
        mine = All-append (λ (x : Row). x.caller ≡ caller) rows (r ∷ []) h.mine (one-row (λ (x : Row). x.caller ≡ caller) r who);
        numbered = numbered-append 0 rows r h.numbered (omega arith);
        ordered = next-ordered caller made seen front rows r h who seq (subst (λ k. NextPlace front k r.place) (sym is) next);
        places = All-append (λ (x : Row). x.place ≤ front') rows (r ∷ []) (higher front front' rows grew.front_rose h.places) (one-row (λ (x : Row). x.place ≤ front') r top);
      }

  -- a row more that left the memory as it was
  other-row : (caller : ℕ) (made seen : List Entry) (front : ℕ) (seen' : List Entry) (front' : ℕ) (rows : List Row) (r : Row)
      → Grew seen front seen' front' → Worked good opening regions script caller made seen front rows → writer_to r.kind r.place [] ≡ []
      → RowIn good opening regions script made seen' front' r → r.caller ≡ caller → r.seq ≡ length rows → NextPlace front r.kind r.place → r.place ≤ front'
      → Worked good opening regions script caller made seen' front' (rows ++ r ∷ [])
  other-row caller made seen front seen' front' rows r grew h none row who seq next top =
      let P : Row → Type 0 = RowIn good opening regions script made seen' front' in
      let old = worked-grows caller made seen front seen' front' rows grew h in
      record {
        writers = writers-append rows (r ∷ []) ∙ (ap (λ l. writers rows ++ l) none ∙ (append-nil (writers rows) ∙ h.writers));
        each = All-append P rows (r ∷ []) old.each (one-row P r row);
        mine = All-append (λ (x : Row). x.caller ≡ caller) rows (r ∷ []) h.mine (one-row (λ (x : Row). x.caller ≡ caller) r who);
        numbered = numbered-append 0 rows r h.numbered (omega arith);
        ordered = next-ordered caller made seen front rows r h who seq next;
        places = All-append (λ (x : Row). x.place ≤ front') rows (r ∷ []) old.places (one-row (λ (x : Row). x.place ≤ front') r top);
      }

  pub worked-read : (caller : ℕ) (made seen : List Entry) (front : ℕ) (seen' : List Entry) (front' : ℕ) (rows : List Row) (r : Row)
      → Grew seen front seen' front' → Worked good opening regions script caller made seen front rows
      → r.kind ≡ R → r.caller ≡ caller → r.seq ≡ length rows → front ≤ r.place → r.place ≤ front' → RowFits regions (script r) r (memory_at r.place seen' opening)
      → Worked good opening regions script caller made seen' front' (rows ++ r ∷ [])
  worked-read caller made seen front seen' front' rows r grew h is who seq next top fit =
      other-row caller made seen front seen' front' rows r grew h (ap (λ k. writer_to k r.place []) is)
      (subst (λ k. by_kind k ((x : Entry) × Contains made x × RowOf good (length opening) regions (script r) r x) ((r.place ≤ front') × RowFits regions (script r) r (memory_at r.place seen' opening))) (sym is) (top, fit))
      who seq (subst (λ k. NextPlace front k r.place) (sym is) next) top

  pub worked-cancelled : (caller : ℕ) (made seen : List Entry) (front : ℕ) (seen' : List Entry) (front' : ℕ) (rows : List Row) (r : Row)
      → Grew seen front seen' front' → Worked good opening regions script caller made seen front rows
      → r.kind ≡ C → r.caller ≡ caller → r.seq ≡ length rows → front ≤ r.place → r.place ≤ front' → RowFits regions (script r) r (memory_at r.place seen' opening)
      → Worked good opening regions script caller made seen' front' (rows ++ r ∷ [])
  worked-cancelled caller made seen front seen' front' rows r grew h is who seq next top fit =
      other-row caller made seen front seen' front' rows r grew h (ap (λ k. writer_to k r.place []) is)
      (subst (λ k. by_kind k ((x : Entry) × Contains made x × RowOf good (length opening) regions (script r) r x) ((r.place ≤ front') × RowFits regions (script r) r (memory_at r.place seen' opening))) (sym is) (top, fit))
      who seq (subst (λ k. NextPlace front k r.place) (sym is) next) top
