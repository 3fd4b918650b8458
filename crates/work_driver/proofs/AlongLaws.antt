-- The rows that one thread replays are those of a history whose W rows have its times:
-- so the replay's memories are the history's.
use Rattle.std.proofs.Common.{ℕ, ◌≡◌, ◌<◌, ◌≤◌, ◌-◌, ◌+◌, ◌*◌, List, [], ◌∷◌, Bool, true, false, refl, sym, ap, ◌∙◌, arith, subst, inl, inr, get_or, length, map}
use Rattle.std.specs.Prelude.{◌⊎◌, ◌||◌, leb, ltb, if◌then◌else◌, All, Contains}
use Rattle.std.proofs.lemmas.Bool.Decides.{nat_tests}
use Rattle.std.proofs.lemmas.List.Elements.{All-append, All-contains, All-head, All-nil, All-tail}
use Rattle.std.proofs.lemmas.List.Sorted.{All-permutation}
use Rattle.data_regions.specs.declared.region.Region.{Region}
use Rattle.stm_model.specs.Memories.{overlay, Explains}
use Rattle.stm_model.specs.Histories.{Entry, memory_at, Ascending}
use Rattle.stm_model.specs.HistoryLaws.{memory_at-early, memory_at-entry, length-memory_at}
use Rattle.work_script.specs.declared.op.Op.{Op}
use Rattle.work_script.specs.declared.op.Op.TheVariants.{Read, Write, Add, Move, Emit, Irrev, Cancel, Count, Total, ListInsert, ListRemove, ListContains, ListLength, HashInsert, HashRemove, HashContains, TreeInsert, TreeRemove, TreeContains, TreeLeast, QueuePut, QueueGet, MapPut, MapRemove, MapGet, MapSum}
use Rattle.work_script.specs.declared.report.Kind.{Kind}
use Rattle.work_script.specs.declared.report.Kind.TheVariants.{W, R, C}
use Rattle.work_script.specs.declared.report.Report.{Report}
use Rattle.work_script.specs.declared.report.Row.{Row}
use Rattle.work_script.specs.declared.workload.Workload.{Workload}
use Rattle.work_script.specs.Operations.{replies, moved, effect_of}
use Rattle.work_script.proofs.StructureLaws.{chain-insert-quiet, chain-remove-quiet, tree-insert-quiet, tree-remove-quiet, queue-put-quiet, queue-get-quiet, map-put-quiet, map-remove-quiet}
use Rattle.work_script.specs.Scripts.{run, run_row, KindFits}
use Rattle.work_script.specs.Reports.{RowFits, Replay, Replays, Shows, Ordered, AllAfter, IsBefore, Ascends, code, rank, writers, writers_by, writer_to, script_of, regions_of, zeros}
use Rattle.work_script.specs.Parts.{times, IsGathered, Part, PartIn, RowIn, RowOf, all_rows, by_kind}
use Rattle.work_driver.specs.Along.{GoesAlong, IsAt}

-- a script that wrote nothing leaves the memory
module _ (regions : List Region) where
  moves-quiet : (a b k : ℕ) (m : List ℕ) (t : Bool) → (if t then replies 0 m else record { reply = 1; emits = []; memory = moved a b k m; wrote = true }).wrote ≡ false
      → (if t then replies 0 m else record { reply = 1; emits = []; memory = moved a b k m; wrote = true }).memory ≡ m
  moves-quiet a b k m true h = refl
  moves-quiet a b k m false h = absurd cc

  op-quiet : (op : Op) (m : List ℕ) → (effect_of regions op m).wrote ≡ false → (effect_of regions op m).memory ≡ m
  op-quiet (Read a) m h = refl
  op-quiet (Write a v) m h = absurd cc
  op-quiet (Add a k) m h = absurd cc
  op-quiet (Move a b k) m h = moves-quiet a b k m (ltb (get_or m a 0) k) h
  op-quiet (Emit a) m h = refl
  op-quiet Irrev m h = refl
  op-quiet Cancel m h = refl
  op-quiet (Count region stripe k) m h = absurd cc
  op-quiet (Total region) m h = refl
  op-quiet (ListInsert region key) m h = chain-insert-quiet _ key m h
  op-quiet (ListRemove region key) m h = chain-remove-quiet _ key m h
  op-quiet (ListContains region key) m h = refl
  op-quiet (ListLength region) m h = refl
  op-quiet (HashInsert region key) m h = chain-insert-quiet _ key m h
  op-quiet (HashRemove region key) m h = chain-remove-quiet _ key m h
  op-quiet (HashContains region key) m h = refl
  op-quiet (TreeInsert region key) m h = tree-insert-quiet _ key m h
  op-quiet (TreeRemove region key) m h = tree-remove-quiet _ key m h
  op-quiet (TreeContains region key) m h = refl
  op-quiet (TreeLeast region) m h = refl
  op-quiet (QueuePut region v) m h = queue-put-quiet _ m v h
  op-quiet (QueueGet region) m h = queue-get-quiet _ m h
  op-quiet (MapPut region key v) m h = map-put-quiet _ key v m h
  op-quiet (MapRemove region key) m h = map-remove-quiet _ key m h
  op-quiet (MapGet region key) m h = refl
  op-quiet (MapSum region lo hi) m h = refl

  or-left : (a b : Bool) → a || b ≡ false → a ≡ false
  or-left true b h = absurd cc
  or-left false b h = refl

  or-right : (a b : Bool) → a || b ≡ false → b ≡ false
  or-right true b h = absurd cc
  or-right false b h = h

  run-quiet : (ops : List Op) (m : List ℕ) → (run regions ops m).wrote ≡ false → (run regions ops m).memory ≡ m
  run-quiet [] m h = refl
  run-quiet (op ∷ ops) m h =
      let one = op-quiet op m (or-left (effect_of regions op m).wrote (run regions ops (effect_of regions op m).memory).wrote h) in
      run-quiet ops (effect_of regions op m).memory (or-right (effect_of regions op m).wrote (run regions ops (effect_of regions op m).memory).wrote h) ∙ one

  row-quiet : (k : Kind) (script : List Op) (m : List ℕ) → code k ≡ 1 → KindFits k script (run_row regions k script m).wrote → (run_row regions k script m).memory ≡ m
  row-quiet W script m c h = absurd cc
  row-quiet R script m c h = run-quiet script m h
  row-quiet C script m c h = refl

-- two times that no entry stands between have one memory
abbrev Apart : ℕ → ℕ → List ℕ → Type 0
Apart a b [] = Unit {0}
Apart a b (t ∷ ts) = ((t ≤ a) × (t ≤ b) ⊎ (a < t) × (b < t)) × Apart a b ts

apart-test : (a b t : ℕ) → (t ≤ a) × (t ≤ b) ⊎ (a < t) × (b < t) → leb t a ≡ leb t b
apart-test a b t (inl h) = let x = h.0 in let y = h.1 in let p : leb t a ≡ true = grind (arith, nat_tests) in let q : leb t b ≡ true = grind (arith, nat_tests) in p ∙ sym q
apart-test a b t (inr h) = let x = h.0 in let y = h.1 in let p : leb t a ≡ false = grind (arith, nat_tests) in let q : leb t b ≡ false = grind (arith, nat_tests) in p ∙ sym q

same-memory : (a b : ℕ) (es : List Entry) (m : List ℕ) → Apart a b (times es) → memory_at a es m ≡ memory_at b es m
same-memory a b [] m h = refl
same-memory a b (e ∷ es) m h =
    ap (λ t. memory_at a es (if t then overlay m e.writes else m)) (apart-test a b e.time h.0) ∙ same-memory a b es (if leb e.time b then overlay m e.writes else m) h.1

-- t is one of them
abbrev In : ℕ → List ℕ → Type 0
In t [] = ⊥
In t (x ∷ xs) = (t ≡ x) ⊎ In t xs

-- each of these times is past, or is still to come
abbrev Placed : ℕ → List ℕ → List ℕ → Type 0
Placed a ws [] = Unit {0}
Placed a ws (t ∷ ts) = ((t ≤ a) ⊎ In t ws) × Placed a ws ts

placed-more : (a : ℕ) (x : ℕ) (ws ts : List ℕ) → Placed a ws ts → Placed a (x ∷ ws) ts
placed-more a x ws [] h = tt
placed-more a x ws (t ∷ ts) h = (by h.0, placed-more a x ws ts h.1)
  where
    by : (t ≤ a) ⊎ In t ws → (t ≤ a) ⊎ In t (x ∷ ws)
    by (inl le) = inl le
    by (inr i) = inr (inr i)

placed-all : (a : ℕ) (ts : List ℕ) → Placed a ts ts
placed-all a [] = tt
placed-all a (t ∷ ts) = (inr (inl refl), placed-more a t ts ts (placed-all a ts))

placed-past : (a p : ℕ) (ws ts : List ℕ) → a < p → Placed a (p ∷ ws) ts → Placed p ws ts
placed-past a p ws [] lt h = tt
placed-past a p ws (t ∷ ts) lt h = (by h.0, placed-past a p ws ts lt h.1)
  where
    by : (t ≤ a) ⊎ In t (p ∷ ws) → (t ≤ p) ⊎ In t ws
    by (inl le) = inl (omega (arith, le, lt))
    by (inr (inl e)) = inl (omega (arith, e))
    by (inr (inr i)) = inr i

ascends-in : (a t : ℕ) (ws : List ℕ) → Ascends a ws → In t ws → a < t
ascends-in a t [] asc i = absurd i
ascends-in a t (x ∷ xs) asc (inl e) = let lt = asc.0 in omega (arith, lt, e)
ascends-in a t (x ∷ xs) asc (inr i) = let lt = asc.0 in let up = ascends-in x t xs asc.1 i in omega (arith, lt, up)

-- what is past is at most b, and what is to come is later than b
apart-from : (a b : ℕ) (ws ts : List ℕ) → a ≤ b → Ascends a ws → ((t : ℕ) → In t ws → b < t) → Placed a ws ts → Apart a b ts
apart-from a b ws [] le asc later h = tt
apart-from a b ws (t ∷ ts) le asc later h = (by h.0, apart-from a b ws ts le asc later h.1)
  where
    by : (t ≤ a) ⊎ In t ws → (t ≤ a) × (t ≤ b) ⊎ (a < t) × (b < t)
    by (inl low) = inl (low, omega (arith, low, le))
    by (inr i) = inr (ascends-in a t ws asc i, later t i)

before-rank : (r x : Row) → IsBefore r x → rank r ≤ rank x
before-rank r x (inl h) = omega (arith, h)
before-rank r x (inr h) = let e = h.0 in omega (arith, e)

-- a W row after one that isn't is later
later-by : (p : ℕ) (k : Kind) (q : ℕ) (ws : List ℕ) (t : ℕ) → 2 * p + 1 ≤ 2 * q + code k → (In t ws → p < t) → In t (writer_to k q ws) → p < t
later-by p W q ws t le rest (inl e) = omega (arith, le, e)
later-by p W q ws t le rest (inr i) = rest i
later-by p R q ws t le rest i = rest i
later-by p C q ws t le rest i = rest i

later-writers : (r : Row) (rows : List Row) → code r.kind ≡ 1 → AllAfter r rows → (t : ℕ) → In t (writers rows) → r.place < t
later-writers r [] one after t i = absurd i
later-writers r (x ∷ rows) one after t i =
    let le = before-rank r x after.0 in
    let up : 2 * r.place + 1 ≤ 2 * x.place + code x.kind = omega (arith, le, one) in
    later-by r.place x.kind x.place (writers rows) t up (later-writers r rows one after.1 t) i

-- all rows are at a or later
abbrev AllFrom : ℕ → List Row → Type 0
AllFrom a [] = Unit {0}
AllFrom a (r ∷ rows) = (a ≤ r.place) × AllFrom a rows

code-small : (k : Kind) → code k ≤ 1
code-small W = omega arith
code-small R = omega arith
code-small C = omega arith

from-after : (r : Row) (rows : List Row) → AllAfter r rows → AllFrom r.place rows
from-after r [] after = tt
from-after r (x ∷ rows) after =
    let le = before-rank r x after.0 in
    let small = code-small x.kind in
    (omega (arith, le, small), from-after r rows after.1)

from-zero : (rows : List Row) → AllFrom 0 rows
from-zero [] = tt
from-zero (r ∷ rows) = (omega arith, from-zero rows)

module _ (regions : List Region) (script : Row → List Op) (es : List Entry) (opening : List ℕ) where
  -- a W row run on the memory right before its place leaves the one at its place
  abbrev IsWritten : Row → Type 0
  IsWritten r = r.kind ≡ W → (run_row regions W (script r) (memory_at (r.place - 1) es opening)).memory ≡ memory_at r.place es opening

  -- what is to be shown of the rows that are left
  abbrev Rest : List Row → Type 0
  Rest rows =
      (m : List ℕ) (a : ℕ) (last : List ℕ) → m ≡ memory_at a es opening → AllFrom a rows → Ascends a (writers rows)
      → Placed a (writers rows) (times es) → All IsWritten rows → Ordered rows → Replay regions script m rows last
      → GoesAlong regions script es opening m rows

  -- another row is run on the memory at its place, and leaves it
  here : (r : Row) (k : Kind) → r.kind ≡ k → code k ≡ 1 → (rows : List Row) (m : List ℕ) (a : ℕ) → m ≡ memory_at a es opening → a ≤ r.place
      → Ascends a (writers rows) → Placed a (writers rows) (times es) → AllAfter r rows → m ≡ memory_at r.place es opening
  here r k is one rows m a at le asc placed after =
      at ∙ same-memory a r.place es opening (apart-from a r.place (writers rows) (times es) le asc (later-writers r rows (ap code is ∙ one) after) placed)

  quiet : (r : Row) (k : Kind) → r.kind ≡ k → code k ≡ 1 → (m : List ℕ) → RowFits regions (script r) r m → (run_row regions k (script r) m).memory ≡ m
  quiet r k is one m fits = row-quiet regions k (script r) m one (subst (λ j. KindFits j (script r) (run_row regions j (script r) m).wrote) is fits.kind)

  along-by : (r : Row) (k : Kind) → r.kind ≡ k → (rows : List Row) → Rest rows → (m : List ℕ) (a : ℕ) (last : List ℕ)
      → m ≡ memory_at a es opening → AllFrom a (r ∷ rows) → Ascends a (writer_to k r.place (writers rows))
      → Placed a (writer_to k r.place (writers rows)) (times es) → All IsWritten (r ∷ rows) → Ordered (r ∷ rows)
      → RowFits regions (script r) r m → Replay regions script (run_row regions k (script r) m).memory rows last
      → IsAt regions script es opening k r.place m (run_row regions k (script r) m).memory × GoesAlong regions script es opening (run_row regions k (script r) m).memory rows
  along-by r W is rows rest m a last at from asc placed all ord fits replay =
      let lt : a < r.place = asc.0 in
      let low : a ≤ r.place - 1 = omega (arith, lt) in
      let later : (t : ℕ) → In t (r.place ∷ writers rows) → r.place - 1 < t = λ t i. later-w t i in
      let before : m ≡ memory_at (r.place - 1) es opening = at ∙ same-memory a (r.place - 1) es opening (apart-from a (r.place - 1) (r.place ∷ writers rows) (times es) low asc later placed) in
      let now : (run_row regions W (script r) m).memory ≡ memory_at r.place es opening = ap (λ x. (run_row regions W (script r) x).memory) before ∙ All-head IsWritten r rows all is in
      (now, rest (run_row regions W (script r) m).memory r.place last now (from-after r rows ord.0) asc.1 (placed-past a r.place (writers rows) (times es) lt placed) (All-tail IsWritten r rows all) ord.1 replay)
    where
      later-w : (t : ℕ) → In t (r.place ∷ writers rows) → r.place - 1 < t
      later-w t (inl e) = let lt = asc.0 in omega (arith, lt, e)
      later-w t (inr i) = let lt = asc.0 in let up = ascends-in r.place t (writers rows) asc.1 i in omega (arith, lt, up)
  along-by r R is rows rest m a last at from asc placed all ord fits replay =
      (here r R is refl rows m a at from.0 asc placed ord.0, rest (run_row regions R (script r) m).memory a last (quiet r R is refl m fits ∙ at) from.1 asc placed (All-tail IsWritten r rows all) ord.1 replay)
  along-by r C is rows rest m a last at from asc placed all ord fits replay =
      (here r C is refl rows m a at from.0 asc placed ord.0, rest (run_row regions C (script r) m).memory a last (quiet r C is refl m fits ∙ at) from.1 asc placed (All-tail IsWritten r rows all) ord.1 replay)

  along : (rows : List Row) → Rest rows
  along [] m a last at from asc placed all ord replay = tt
  along (r ∷ rows) m a last at from asc placed all ord replay = along-by r r.kind refl rows (along rows) m a last at from asc placed all ord replay.0 replay.1

writers-places : (rows : List Row) → writers rows ≡ map (λ (x : ℕ × ℕ). x.0) (writers_by rows)
writers-places [] = refl
writers-places (r ∷ rows) = by r.kind (writers-places rows)
  where
    by : (k : Kind) → writers rows ≡ map (λ (x : ℕ × ℕ). x.0) (writers_by rows) → writer_to k r.place (writers rows) ≡ map (λ (x : ℕ × ℕ). x.0) (writer_to k (r.place, r.caller) (writers_by rows))
    by W h = ap (λ l. r.place ∷ l) h
    by R h = h
    by C h = h

times-places : (es : List Entry) → times es ≡ map (λ (x : ℕ × ℕ). x.0) (map (λ (e : Entry). (e.time, e.caller)) es)
times-places [] = refl
times-places (e ∷ es) = ap (λ l. e.time ∷ l) (times-places es)

ascends-times : (floor : ℕ) (es : List Entry) → Ascending floor es → Ascends floor (times es)
ascends-times floor [] asc = tt
ascends-times floor (e ∷ es) asc = (asc.0, ascends-times e.time es asc.1)

ascends-zero : (floor : ℕ) (ts : List ℕ) → Ascends floor ts → Ascends 0 ts
ascends-zero floor [] asc = tt
ascends-zero floor (t ∷ ts) asc = (let lt = asc.0 in omega (arith, lt), asc.1)

module _ (good : List ℕ → Type 0) (w : Workload) (es : List Entry) (clock : ℕ) (parts : List Part) (report : Report) (g : IsGathered good w es clock parts report) where
  -- the W row of an entry
  written : (r : Row) (e : Entry) → Contains es e
      → RowOf good (length (zeros w.header.words)) (regions_of w.header) (script_of w.items r) r e
      → IsWritten (regions_of w.header) (script_of w.items) es (zeros w.header.words) r
  written r e at row is =
      let opening = zeros w.header.words in
      let m = memory_at (e.time - 1) es opening in
      let reads : Explains m e.reads = All-contains (λ x. Explains (memory_at (x.time - 1) es opening) x.reads) es e g.legal.reads at in
      let left = row.left m (g.legal.good_always (e.time - 1)) (length-memory_at (e.time - 1) es opening) reads in
      let step : memory_at e.time es opening ≡ overlay m e.writes = subst
      (λ x. memory_at x.time es opening ≡ overlay (memory_at (x.time - 1) es opening) x.writes) at.2
      (memory_at-entry w.header.clock es opening at.0 e g.legal.ascending at.1) in
      ap (λ k. (run_row (regions_of w.header) k (script_of w.items r) (memory_at (r.place - 1) es opening)).memory) (sym is)
      ∙ (ap (λ t. (run_row (regions_of w.header) r.kind (script_of w.items r) (memory_at (t - 1) es opening)).memory) (sym row.time)
      ∙ (left ∙ (sym step ∙ ap (λ t. memory_at t es opening) row.time)))

  written-in : (p : Part) (r : Row) → PartIn good w es p
      → RowIn good (zeros w.header.words) (regions_of w.header) (script_of w.items) p.made p.seen p.front r
      → IsWritten (regions_of w.header) (script_of w.items) es (zeros w.header.words) r
  written-in p r h row is =
      let at = subst (λ k. by_kind k ((e : Entry) × Contains p.made e × RowOf good (length (zeros w.header.words)) (regions_of w.header) (script_of w.items r) r e)
      ((r.place ≤ p.front) × RowFits (regions_of w.header) (script_of w.items r) r (memory_at r.place p.seen (zeros w.header.words)))) is row in
      written r at.0 (h.within at.0 at.1) at.2 is

  all-written : (ps : List Part) → All (PartIn good w es) ps → All (IsWritten (regions_of w.header) (script_of w.items) es (zeros w.header.words)) (all_rows ps)
  all-written [] h = All-nil (IsWritten (regions_of w.header) (script_of w.items) es (zeros w.header.words))
  all-written (p ∷ ps) h =
      let part = All-head (PartIn good w es) p ps h in
      All-append (IsWritten (regions_of w.header) (script_of w.items) es (zeros w.header.words)) p.rows (all_rows ps)
      (λ i d lt. written-in p (get_or p.rows i d) part (part.worked.each i d lt)) (all-written ps (All-tail (PartIn good w es) p ps h))

  pub goes-along : (opening : ℕ) → Replays w report → Shows es opening clock w report → GoesAlong (regions_of w.header) (script_of w.items) es (zeros w.header.words) (zeros w.header.words) report.rows
  goes-along opening replays shows =
      let times_are : writers report.rows ≡ times es = writers-places report.rows ∙ (ap (map (λ (x : ℕ × ℕ). x.0)) shows.writers ∙ sym (times-places es)) in
      let asc : Ascends 0 (times es) = ascends-zero w.header.clock (times es) (ascends-times w.header.clock es g.legal.ascending) in
      let all = All-permutation (IsWritten (regions_of w.header) (script_of w.items) es (zeros w.header.words)) (all_rows parts) report.rows g.moved (all-written parts g.each) in
      let start : zeros w.header.words ≡ memory_at 0 es (zeros w.header.words) = sym (memory_at-early 0 w.header.clock es (zeros w.header.words) (omega arith) g.legal.ascending) in
      along (regions_of w.header) (script_of w.items) es (zeros w.header.words) report.rows (zeros w.header.words) 0 replays.last start
      (from-zero report.rows) (subst (Ascends 0) (sym times_are) asc)
      (subst (λ ws. Placed 0 ws (times es)) (sym times_are) (placed-all 0 (times es))) all replays.ordered replays.replay
