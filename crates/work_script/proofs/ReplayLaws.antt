-- The rows of a history, in order, are the replay of one thread.
use Rattle.std.proofs.Common.{ℕ, ◌≡◌, ◌<◌, ◌≤◌, ◌+◌, ◌-◌, ◌*◌, List, [], ◌∷◌, refl, sym, ap, ◌∙◌, arith, subst, inl, inr}
use Rattle.stm_model.specs.Memories.{overlay}
use Rattle.stm_model.specs.Histories.{Entry, memory_at, memory_after, Ascending}
use Rattle.stm_model.specs.HistoryLaws.{memory_at-early, memory_at-past, memory_at-first}
use Rattle.work_script.specs.declared.op.Op.{Op}
use Rattle.data_regions.specs.declared.region.Region.{Region}
use Rattle.work_script.specs.declared.report.Kind.{Kind}
use Rattle.work_script.specs.declared.report.Kind.TheVariants.{W, R, C}
use Rattle.work_script.specs.declared.report.Row.{Row}
use Rattle.work_script.specs.Scripts.{run_row}
use Rattle.work_script.specs.Reports.{RowFits, Replay, Ordered, AllAfter, IsBefore, rank, code, writers, writer_to}
use Rattle.work_script.specs.Parts.{times}

-- a W row runs on the memory right before its entry, another on that at its place
abbrev pub before_of : Kind → ℕ → ℕ
before_of W place = place - 1
before_of R place = place
before_of C place = place

-- the row is what its script does at its place of the history
pub record FitsAt (regions : List Region) (script : List Op) (es : List Entry) (m : List ℕ) (r : Row) : Type 0 where
  pub fits : RowFits regions script r (memory_at (before_of r.kind r.place) es m)
  pub after : (run_row regions r.kind script (memory_at (before_of r.kind r.place) es m)).memory ≡ memory_at r.place es m

abbrev pub AllFitAt : List Region → (Row → List Op) → List Row → List Entry → List ℕ → Type 0
AllFitAt regions script [] es m = Unit {0}
AllFitAt regions script (r ∷ rs) es m = FitsAt regions (script r) es m r × AllFitAt regions script rs es m

-- each W row of the rest stands past the floor
abbrev PastIfW : ℕ → Kind → ℕ → Type 0
PastIfW floor W place = floor < place
PastIfW floor R place = Unit {0}
PastIfW floor C place = Unit {0}

abbrev WritersPast : ℕ → List Row → Type 0
WritersPast floor [] = Unit {0}
WritersPast floor (r ∷ rs) = PastIfW floor r.kind r.place × WritersPast floor rs

past-weaker : (a b : ℕ) (k : Kind) (p : ℕ) → a ≤ b → PastIfW b k p → PastIfW a k p
past-weaker a b W p le h = omega arith
past-weaker a b R p le h = tt
past-weaker a b C p le h = tt

writers-weaker : (a b : ℕ) (rs : List Row) → a ≤ b → WritersPast b rs → WritersPast a rs
writers-weaker a b [] le h = tt
writers-weaker a b (r ∷ rs) le h = (past-weaker a b r.kind r.place le h.0, writers-weaker a b rs le h.1)

-- the step of the next lemma, by the kind of the row and the entries
past-step : (k : Kind) (p : ℕ) (rs : List Row) (floor : ℕ) (es : List Entry) → writer_to k p (writers rs) ≡ times es → Ascending floor es
    → ((f : ℕ) (fs : List Entry) → writers rs ≡ times fs → Ascending f fs → WritersPast f rs)
    → PastIfW floor k p × WritersPast floor rs
past-step W p rs floor [] e asc rest = absurd cc
past-step W p rs floor (x ∷ es) e asc rest =
    let same : p ≡ x.time = cc in
    let h = asc.0 in
    (omega arith, writers-weaker floor x.time rs (omega arith) (rest x.time es (cc) asc.1))
past-step R p rs floor es e asc rest = (tt, rest floor es e asc)
past-step C p rs floor es e asc rest = (tt, rest floor es e asc)

pub writers-past : (rs : List Row) (floor : ℕ) (es : List Entry) → writers rs ≡ times es → Ascending floor es → WritersPast floor rs
writers-past [] floor es e asc = tt
writers-past (r ∷ rs) floor es e asc = past-step r.kind r.place rs floor es e asc (writers-past rs)

before-rank : (r x : Row) → IsBefore r x → rank r ≤ rank x
before-rank r x (inl h) = omega arith
before-rank r x (inr h) = let e = h.0 in omega arith

-- after a row that doesn't write, the next entry is later
floor-step : (p : ℕ) (k : Kind) (q : ℕ) (rs : List Row) (floor : ℕ) (es : List Entry) → 2 * p + 1 ≤ 2 * q + code k → writer_to k q (writers rs) ≡ times es → Ascending floor es
    → (writers rs ≡ times es → Ascending p es) → Ascending p es
floor-step p W q rs floor [] le e asc rest = tt
floor-step p W q rs floor (x ∷ es) le e asc rest = let same : q ≡ x.time = cc in (omega arith, asc.1)
floor-step p R q rs floor es le e asc rest = rest e
floor-step p C q rs floor es le e asc rest = rest e

pub reader-floor : (r : Row) (rs : List Row) (floor : ℕ) (es : List Entry) → code r.kind ≡ 1 → AllAfter r rs → writers rs ≡ times es → Ascending floor es → Ascending r.place es
reader-floor r [] floor [] one after e asc = tt
reader-floor r [] floor (x ∷ es) one after e asc = absurd cc
reader-floor r (x ∷ rs) floor es one after e asc =
    let le = before-rank r x after.0 in
    floor-step r.place x.kind x.place rs floor es (omega arith) e asc (λ h. reader-floor r rs floor es one after.1 h asc)

-- what fits in the history fits in its rest
before-late : (f : ℕ) (k : Kind) (p q : ℕ) → f ≤ p → PastIfW f k p → f ≤ before_of k p
before-late f W p q le h = omega arith
before-late f R p q le h = le
before-late f C p q le h = le

module _ (regions : List Region) where
  fits-rest : (script : List Op) (e : Entry) (es : List Entry) (m : List ℕ) (r : Row) → e.time ≤ r.place → PastIfW e.time r.kind r.place → FitsAt regions script (e ∷ es) m r → FitsAt regions script es (overlay m e.writes) r
  fits-rest script e es m r le past h =
      let b = memory_at-past (before_of r.kind r.place) e es m (before-late e.time r.kind r.place 0 le past) in
      let a = memory_at-past r.place e es m le in
      record {
        fits = subst (RowFits regions script r) b h.fits;
        after = ap (λ x. (run_row regions r.kind script x).memory) (sym b) ∙ (h.after ∙ a);
      }

  code-small : (k : Kind) → code k ≤ 1
  code-small W = omega arith
  code-small R = omega arith
  code-small C = omega arith

  at-least : (t p q c : ℕ) → t ≤ p → c ≤ 1 → 2 * p ≤ 2 * q + c → t ≤ q
  at-least t p q c le small h = omega arith

  all-rest : (script : Row → List Op) (e : Entry) (es : List Entry) (m : List ℕ) (r : Row) (rs : List Row) → e.time ≤ r.place → code r.kind ≡ 0 → AllAfter r rs → WritersPast e.time rs
      → AllFitAt regions script rs (e ∷ es) m → AllFitAt regions script rs es (overlay m e.writes)
  all-rest script e es m r [] le w after past h = tt
  all-rest script e es m r (x ∷ rs) le w after past h =
      let k = before-rank r x after.0 in
      (fits-rest (script x) e es m x (at-least e.time r.place x.place (code x.kind) le (code-small x.kind) (omega arith)) past.0 h.0, all-rest script e es m r rs le w after.1 past.1 h.1)

  -- a row that doesn't write runs on the memory so far, and leaves it
  reads-on : (script : Row → List Op) (r : Row) (rs : List Row) (floor : ℕ) (es : List Entry) (m : List ℕ) {k : Kind} → r.kind ≡ k → ((p : ℕ) → before_of k p ≡ p) → code r.kind ≡ 1
      → AllAfter r rs → Ascending floor es → writers rs ≡ times es → FitsAt regions (script r) es m r → AllFitAt regions script rs es m
      → ((f : ℕ) (fs : List Entry) (x : List ℕ) → Ascending f fs → writers rs ≡ times fs → AllFitAt regions script rs fs x → Replay regions script x rs (memory_after fs x))
      → Replay regions script m (r ∷ rs) (memory_after es m)
  reads-on script r rs floor es m {k} is at one after asc e fit fits rest =
      let up = reader-floor r rs floor es one after e asc in
      let now : memory_at r.place es m ≡ m = memory_at-early r.place r.place es m (omega arith) up in
      let before : memory_at (before_of r.kind r.place) es m ≡ m = ap (λ b. memory_at b es m) (ap (λ j. before_of j r.place) is ∙ at r.place) ∙ now in
      let next : (run_row regions r.kind (script r) m).memory ≡ m = ap (λ y. (run_row regions r.kind (script r) y).memory) (sym before) ∙ (fit.after ∙ now) in (
        subst (RowFits regions (script r) r) before fit.fits,
        subst (λ y. Replay regions script y rs (memory_after es m)) (sym next) (rest floor es m asc e fits),
      )

  -- THE THEOREM, by the kind of the first row
  replay-step : (script : Row → List Op) (r : Row) (k : Kind) → r.kind ≡ k → (rs : List Row) (floor : ℕ) (es : List Entry) (m : List ℕ)
      → AllAfter r rs → Ordered rs → Ascending floor es → writer_to k r.place (writers rs) ≡ times es → FitsAt regions (script r) es m r → AllFitAt regions script rs es m
      → ((f : ℕ) (fs : List Entry) (x : List ℕ) → Ascending f fs → writers rs ≡ times fs → AllFitAt regions script rs fs x → Replay regions script x rs (memory_after fs x))
      → Replay regions script m (r ∷ rs) (memory_after es m)
  replay-step script r W is rs floor [] m after ord asc e fit fits rest = absurd cc
  replay-step script r W is rs floor (x ∷ es) m after ord asc e fit fits rest =
      let same : r.place ≡ x.time = cc in
      let low = asc.0 in
      let kind : code r.kind ≡ 0 = ap code is in
      let before : memory_at (before_of r.kind r.place) (x ∷ es) m ≡ m =
      ap (λ k. memory_at (before_of k r.place) (x ∷ es) m) is ∙ memory_at-early (r.place - 1) (x.time - 1) (x ∷ es) m (omega arith) (omega arith, asc.1) in
      let now : memory_at r.place (x ∷ es) m ≡ overlay m x.writes = ap (λ k. memory_at k (x ∷ es) m) same ∙ memory_at-first x es m asc.1 in
      let next : (run_row regions r.kind (script r) m).memory ≡ overlay m x.writes = ap (λ y. (run_row regions r.kind (script r) y).memory) (sym before) ∙ (fit.after ∙ now) in
      let past = writers-past rs x.time es (cc) asc.1 in (
        subst (RowFits regions (script r) r) before fit.fits,
        subst (λ y. Replay regions script y rs (memory_after es (overlay m x.writes))) (sym next)
            (rest x.time es (overlay m x.writes) asc.1 (cc) (all-rest script x es m r rs (omega arith) kind after past fits)),
      )
  replay-step script r R is rs floor es m after ord asc e fit fits rest =
      reads-on script r rs floor es m is (λ p. refl) (ap code is) after asc e fit fits rest
  replay-step script r C is rs floor es m after ord asc e fit fits rest =
      reads-on script r rs floor es m is (λ p. refl) (ap code is) after asc e fit fits rest

  pub replays : (script : Row → List Op) (rows : List Row) (floor : ℕ) (es : List Entry) (m : List ℕ)
      → Ordered rows → Ascending floor es → writers rows ≡ times es → AllFitAt regions script rows es m → Replay regions script m rows (memory_after es m)
  replays script [] floor [] m ord asc e fits = refl
  replays script [] floor (x ∷ es) m ord asc e fits = absurd cc
  replays script (r ∷ rs) floor es m ord asc e fits =
      replay-step script r r.kind refl rs floor es m ord.0 ord.1 asc e fits.0 fits.1 (λ f fs x a w h. replays script rs f fs x ord.1 a w h)
