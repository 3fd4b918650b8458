-- The line of an operation that fits is read as that operation.
use Rattle.std.proofs.Common.{ℕ, zero, suc, ◌≡◌, ◌≢◌, ◌<◌, ◌≤◌, ◌+◌, ◌^◌, List, [], ◌∷◌, ◌++◌, Bool, true, false, Some, Result, Ok, Err, inl, inr, refl, sym, ap, subst, ◌∙◌, arith, length, append_assoc}
use Rattle.std.specs.Prelude.{◌&&◌, ◌||◌, if◌then◌else◌, leb, ltb, codes}
use Rattle.std.specs.Fmt.{decimal}
use Rattle.std.proofs.lemmas.Bool.Decides.{nat_tests}
use Rattle.std.proofs.lemmas.List.Elements.{All-head, All-tail}
use Rattle.stm_model.specs.declared.alg.Alg.{Alg}
use Rattle.data_regions.specs.declared.region.Region.{Region}
use Rattle.data_regions.specs.declared.region.Region.TheVariants as kinds
use Rattle.data_regions.specs.declared.region.Structure.{Structure}
use Rattle.data_regions.specs.declared.region.Structure.TheVariants as structures
use Rattle.data_regions.specs.Regions.{start_of, size_of, structure_of, is_structure, is_outside, IsOutside, IsPlain, version_one}
use Rattle.work_script.specs.declared.op.Op.{Op}
use Rattle.work_script.specs.declared.op.Op.TheVariants.{Read, Write, Add as Sum, Move, Emit, Irrev, Cancel, Count, Total, ListInsert, ListRemove, ListContains, ListLength, HashInsert, HashRemove, HashContains, TreeInsert, TreeRemove, TreeContains, TreeLeast, QueuePut, QueueGet, MapPut, MapRemove, MapGet, MapSum}
use Rattle.work_script.specs.declared.op.TheConstants.{COUNTER, KEYED, KEYLESS, PLACED_KEYED, PLACED_KEYLESS}
use Rattle.work_script.specs.Operations.{structure_in, with_key, with_region}
use Rattle.work_script.specs.Structures.{region_at, as_counter, counter_in}
use Rattle.work_script.specs.declared.workload.Header.{Header}
use Rattle.work_script.specs.declared.workload.Version.{Version}
use Rattle.work_script.specs.declared.workload.Version.TheVariants.{One, Two}
use Rattle.work_script.specs.declared.workload.Item.{Item}
use Rattle.work_script.specs.declared.workload.Go.{Go}
use Rattle.work_script.specs.declared.workload.Workload.{Workload}
use Rattle.work_script.specs.declared.workload.TheConstants.{MAX_ITEMS, MAX_OPS, MAX_TURNS, MAX_KEY, MAX_REGIONS, STRUCTS_BEGIN, STRUCTS_END, STRIPES}
use Rattle.work_script.specs.Scripts.{has_irrev}
use Rattle.work_text.specs.declared.code.TheConstants.{ORDER, REGION}
use Rattle.work_text.specs.declared.draft.NextLine.TheVariants.{Items, Ops, Turns}
use Rattle.work_text.specs.declared.draft.Step.{Step}
use Rattle.work_text.specs.declared.draft.Step.TheVariants.{Head, Count as Announce, Begin, Change, Lengthen, Add, End, Schedule, Turn, Done}
use Rattle.work_text.specs.declared.parse.Mode.{Mode}
use Rattle.work_text.specs.Lines.{Line, lines_of, words_of, any_bad, number_of}
use Rattle.work_text.specs.Drafts.{Writing, after}
use Rattle.work_text.specs.Grammar.{◌>>=◌, formed, ranged, below, number, sized, begun, changed, lengthened, added, emitted, has_region, has_structure, structured, planned, is_plain, plain_in, plain, address, operands, move_of, count_of, op_of, keyless, region_number, stripe_in, stripe_of, one_word, pair_op, triple_op, quadruple_op, two_words, three_words, four_words, filled, by_words, step_of, go_on, parsed}
use Rattle.work_text.specs.Parsed.{IsSized, RegionsOne, LayoutFits, HeaderFits, IsFreeIn, IsFree, HasStructure, KeyFits, OpFits, IsAllowed}
use Rattle.work_text.specs.Texts.{joined, line, numbered, op_words}
use Rattle.work_text.proofs.RegionLaws.{laid-by}
use Rattle.work_text.specs.LineLaws.{lines_of-first}
use Rattle.work_text.specs.Decimals.{StartsDigit, digits-decimal}
use Rattle.work_text.specs.WordLaws.{Visible, seen, AllVisible, visible-decimal, joined-good, joined-lacks, words_of-joined}
use Rattle.work_text.proofs.Numbers.{number_of-decimal}

-- a line of words, and then the rest
pub line-read : (m : Mode) (d : Writing) (k : ℕ) (w : List ℕ) (ws : List (List ℕ)) (rest : List ℕ) → AllVisible (w ∷ ws)
    → parsed m d k (lines_of (line (w ∷ ws) ++ rest)) ≡ go_on (by_words m d (w ∷ ws)) d k (lines_of rest) (λ e. parsed m e (k + 1) (lines_of rest))
line-read m d k w ws rest seen =
    let bytes : List ℕ = joined (w ∷ ws) in
    let cut : line (w ∷ ws) ++ rest ≡ bytes ++ 10 ∷ rest = append_assoc bytes (10 ∷ []) rest in
    let first : lines_of (line (w ∷ ws) ++ rest) ≡ record { bytes = bytes; ended = true } ∷ lines_of rest = ap lines_of cut ∙ lines_of-first bytes rest (joined-lacks (w ∷ ws) seen) in
    let good = joined-good (w ∷ ws) seen in
    let words = words_of-joined w ws seen in
    ap (parsed m d k) first ∙ ap (λ r. go_on r d k (lines_of rest) (λ e. parsed m e (k + 1) (lines_of rest))) (step-by m d bytes (w ∷ ws) good words)
  where
    step-by : (m : Mode) (d : Writing) (bytes : List ℕ) (ws : List (List ℕ)) → any_bad bytes ≡ false → words_of bytes ≡ ws → step_of m d (record { bytes = bytes; ended = true }) ≡ by_words m d ws
    step-by m d bytes ws good words = rw (good, words)

-- a line that makes a step
pub step-read : (m : Mode) (d : Writing) (k : ℕ) (w : List ℕ) (ws : List (List ℕ)) (rest : List ℕ) (step : Step) → AllVisible (w ∷ ws) → by_words m d (w ∷ ws) ≡ Ok step → step ≢ Done
    → parsed m d k (lines_of (line (w ∷ ws) ++ rest)) ≡ parsed m (after step d) (k + 1) (lines_of rest)
step-read m d k w ws rest step seen is more =
    line-read m d k w ws rest seen
    ∙ (ap (λ r. go_on r d k (lines_of rest) (λ e. parsed m e (k + 1) (lines_of rest))) is ∙ go-by step d k (lines_of rest) (λ e. parsed m e (k + 1) (lines_of rest)) more)
  where
    go-by : (step : Step) (d : Writing) (k : ℕ) (ls : List Line) (rest : Writing → Result Workload (ℕ × ℕ)) → step ≢ Done → go_on (Ok step) d k ls rest ≡ rest (after step d)
    go-by (Head p h) d k ls rest n = refl
    go-by (Announce p m) d k ls rest n = refl
    go-by (Begin c) d k ls rest n = refl
    go-by (Change c a) d k ls rest n = refl
    go-by (Lengthen c r w) d k ls rest n = refl
    go-by (Add op) d k ls rest n = refl
    go-by Schedule d k ls rest n = refl
    go-by (Turn g t) d k ls rest n = refl
    go-by End d k ls rest n = refl
    go-by Done d k ls rest n = absurd (n refl)

-- a decimal is no empty word
filled-digits : (ds : List ℕ) (rest : Result Step ℕ) → StartsDigit ds → filled ds rest ≡ rest
filled-digits [] rest s = absurd s
filled-digits (d ∷ ds) rest s = refl

pub filled-decimal : (n : ℕ) (rest : Result Step ℕ) → n < 2 ^ 64 → filled (decimal n) rest ≡ rest
filled-decimal n rest lt = filled-digits (decimal n) rest (digits-decimal n lt).1

pub formed-decimal : (n : ℕ) → n < 2 ^ 64 → formed (number_of (decimal n)) ≡ Ok n
formed-decimal n lt = ap formed (number_of-decimal n lt)

pub ranged-within : (low high n : ℕ) → low ≤ n → n ≤ high → ranged low high n ≡ Ok n
ranged-within low high n le ge =
    let p : leb low n ≡ true = grind (arith, nat_tests) in let q : leb n high ≡ true = grind (arith, nat_tests) in rw (p, q)

pub number-decimal : (low high n : ℕ) → low ≤ n → n ≤ high → n < 2 ^ 64 → number low high (decimal n) ≡ Ok n
number-decimal low high n le ge lt = ap (λ r. r >>= ranged low high) (formed-decimal n lt) ∙ ranged-within low high n le ge

pub below-end : (end n : ℕ) → n < end → below end n ≡ Ok n
below-end end n lt = let p : ltb n end ≡ true = grind (arith, nat_tests) in rw p

added-room : (d : Writing) (op : Op) → length d.ops < MAX_OPS → added d op ≡ Ok (Add op)
added-room d op lt = let p : ltb (length d.ops) MAX_OPS ≡ true = grind (arith, nat_tests) in rw p

outside-true : (a : ℕ) (r : Region) → IsOutside a r → is_outside a r ≡ true
outside-true a r (inl lt) =
    let p : ltb a (start_of r) ≡ true = grind (arith, nat_tests) in ap (λ x. x || leb (start_of r + size_of r) a) p
outside-true a r (inr le) =
    let q : leb (start_of r + size_of r) a ≡ true = grind (arith, nat_tests) in ap (λ x. ltb a (start_of r) || x) q ∙ or-true (ltb a (start_of r))
  where
    or-true : (b : Bool) → b || true ≡ true
    or-true true = refl
    or-true false = refl

plain-true : (rs : List Region) (a : ℕ) → IsPlain rs a → is_plain rs a ≡ true
plain-true [] a free = refl
plain-true (r ∷ rs) a free =
    ap (λ x. x && is_plain rs a) (outside-true a r (All-head (IsOutside a) r rs free)) ∙ plain-true rs a (All-tail (IsOutside a) r rs free)

plain_in-free : (v : Version) (rs : List Region) (a : ℕ) → IsFreeIn v rs a → plain_in v rs a ≡ Ok a
plain_in-free One [] a free = refl
plain_in-free One (r ∷ rs) a free = by (leb STRUCTS_BEGIN a) refl (ltb a STRUCTS_END) refl
  where
    outside : (leb STRUCTS_BEGIN a ≡ true) → (ltb a STRUCTS_END ≡ true) → IsFreeIn One (r ∷ rs) a → ⊥
    outside p q (inl none) = cc
    outside p q (inr (inl lt)) = absurd (grind (arith, nat_tests))
    outside p q (inr (inr le)) = absurd (grind (arith, nat_tests))

    by : (x : Bool) → leb STRUCTS_BEGIN a ≡ x → (y : Bool) → ltb a STRUCTS_END ≡ y → (if x && y then Err REGION else Ok a) ≡ Ok a
    by true p true q = absurd (outside p q free)
    by true p false q = refl
    by false p y q = refl
plain_in-free Two rs a free = ap (λ b. if b then Ok a else Err REGION) (plain-true rs a free)

plain-free : (h : Header) (a : ℕ) → IsFree h a → plain h a ≡ Ok a
plain-free h a free = plain_in-free h.version h.regions a free

pub begun-room : (d : Writing) (c : ℕ) → length d.items < MAX_ITEMS → begun d c ≡ Ok (Begin c)
begun-room d c lt = let p : ltb (length d.items) MAX_ITEMS ≡ true = grind (arith, nat_tests) in rw p

pub changed-room : (d : Writing) (c : ℕ) (a : Alg) → length d.items < MAX_ITEMS → changed d c a ≡ Ok (Change c a)
changed-room d c a lt = let p : ltb (length d.items) MAX_ITEMS ≡ true = grind (arith, nat_tests) in rw p

pub lengthened-room : (d : Writing) (c reads writes : ℕ) → length d.items < MAX_ITEMS → lengthened d c reads writes ≡ Ok (Lengthen c reads writes)
lengthened-room d c reads writes lt = let p : ltb (length d.items) MAX_ITEMS ≡ true = grind (arith, nat_tests) in rw p

pub planned-room : (d : Writing) (go : Go) → d.turns + go.turns ≤ MAX_TURNS → planned d go ≡ Ok (Turn go (d.turns + go.turns))
planned-room d go le = let p : leb (d.turns + go.turns) MAX_TURNS ≡ true = grind (arith, nat_tests) in rw p

-- how many regions a header of this version announced
abbrev pub counted : Version → List Region → ℕ
counted One rs = 0
counted Two rs = length rs

-- within a transaction
abbrev pub in_tx : Header → List Item → ℕ → List Op → Writing
in_tx h items caller ops = record { place = Ops; header = h; count = counted h.version h.regions; items = items; caller = caller; ops = ops; schedule = []; turns = 0 }

-- between transactions
abbrev pub between : Header → List Item → ℕ → Writing
between h items caller = record { place = Items; header = h; count = counted h.version h.regions; items = items; caller = caller; ops = []; schedule = []; turns = 0 }

-- within the schedule
abbrev pub planning : Header → List Item → ℕ → List Go → ℕ → Writing
planning h items caller gos all = record { place = Turns; header = h; count = counted h.version h.regions; items = items; caller = caller; ops = []; schedule = gos; turns = all }

address-decimal : (d : Writing) (a : ℕ) → a < d.header.words → IsFree d.header a → a < 2 ^ 64 → address d (decimal a) ≡ Ok a
address-decimal d a within free fits =
    ap (λ r. r >>= below d.header.words >>= plain d.header) (formed-decimal a fits)
    ∙ (ap (λ r. r >>= plain d.header) (below-end d.header.words a within) ∙ plain-free d.header a free)

operands-decimal : (d : Writing) (a v : ℕ) → a < d.header.words → IsFree d.header a → a < 2 ^ 64 → v < 2 ^ 64 → operands d (decimal a) (decimal v) ≡ Ok (a, v)
operands-decimal d a v within free fits value =
    ap (λ r. r >>= λ i. formed (number_of (decimal v)) >>= λ n. below d.header.words i >>= λ j. plain d.header j >>= λ k. Ok (k, n)) (formed-decimal a fits)
    ∙ (ap (λ r. r >>= λ n. below d.header.words a >>= λ j. plain d.header j >>= λ k. Ok (k, n)) (formed-decimal v value)
    ∙ (ap (λ r. r >>= λ j. plain d.header j >>= λ k. Ok (k, v)) (below-end d.header.words a within)
    ∙ ap (λ r. r >>= λ k. Ok (k, v)) (plain-free d.header a free)))

read-words : (m : Mode) (h : Header) (items : List Item) (c : ℕ) (ops : List Op) (a : ℕ) → a < h.words → IsFree h a → a < 2 ^ 64 → length ops < MAX_OPS
    → by_words m (in_tx h items c ops) (codes "read" ∷ decimal a ∷ []) ≡ Ok (Add (Read a))
read-words m h items c ops a within free fits room =
    let d : Writing = in_tx h items c ops in
    let at : address d (decimal a) ≡ Ok a = address-decimal d a within free fits in
    filled-decimal a (two_words Ops m d (codes "read") (decimal a)) fits ∙ (ap (λ r. r >>= λ i. added d (Read i)) at ∙ added-room d (Read a) room)

write-words : (m : Mode) (h : Header) (items : List Item) (c : ℕ) (ops : List Op) (a v : ℕ) → a < h.words → IsFree h a → a < 2 ^ 64 → v < 2 ^ 64 → length ops < MAX_OPS
    → by_words m (in_tx h items c ops) (codes "write" ∷ decimal a ∷ decimal v ∷ []) ≡ Ok (Add (Write a v))
write-words m h items c ops a v within free fits value room =
    let d : Writing = in_tx h items c ops in
    filled-decimal a (filled (decimal v) (three_words Ops d (codes "write") (decimal a) (decimal v))) fits
    ∙ (filled-decimal v (three_words Ops d (codes "write") (decimal a) (decimal v)) value
    ∙ (ap (λ r. r >>= λ p. added d (Write p.0 p.1)) (operands-decimal d a v within free fits value) ∙ added-room d (Write a v) room))

add-words : (m : Mode) (h : Header) (items : List Item) (c : ℕ) (ops : List Op) (a v : ℕ) → a < h.words → IsFree h a → a < 2 ^ 64 → v < 2 ^ 64 → length ops < MAX_OPS
    → by_words m (in_tx h items c ops) (codes "add" ∷ decimal a ∷ decimal v ∷ []) ≡ Ok (Add (Sum a v))
add-words m h items c ops a v within free fits value room =
    let d : Writing = in_tx h items c ops in
    filled-decimal a (filled (decimal v) (three_words Ops d (codes "add") (decimal a) (decimal v))) fits
    ∙ (filled-decimal v (three_words Ops d (codes "add") (decimal a) (decimal v)) value
    ∙ (ap (λ r. r >>= λ p. added d (Sum p.0 p.1)) (operands-decimal d a v within free fits value) ∙ added-room d (Sum a v) room))

move_of-decimal : (d : Writing) (a b v : ℕ) → a < d.header.words → b < d.header.words → IsFree d.header a → IsFree d.header b → a < 2 ^ 64
    → b < 2 ^ 64 → v < 2 ^ 64 → move_of d (decimal a) (decimal b) (decimal v) ≡ Ok (Move a b v)
move_of-decimal d a b v from onto free clear fa fb fv =
    let g = d.header in
    let w = d.header.words in
    ap (λ r. r >>= λ i. formed (number_of (decimal b)) >>= λ j. formed (number_of (decimal v)) >>= λ n. below w i >>= λ x. below w j >>= λ y. plain g x >>= λ s. plain g y >>= λ t. Ok (Move s t n)) (formed-decimal a fa)
    ∙ (ap (λ r. r >>= λ j. formed (number_of (decimal v)) >>= λ n. below w a >>= λ x. below w j >>= λ y. plain g x >>= λ s. plain g y >>= λ t. Ok (Move s t n)) (formed-decimal b fb)
    ∙ (ap (λ r. r >>= λ n. below w a >>= λ x. below w b >>= λ y. plain g x >>= λ s. plain g y >>= λ t. Ok (Move s t n)) (formed-decimal v fv)
    ∙ (ap (λ r. r >>= λ x. below w b >>= λ y. plain g x >>= λ s. plain g y >>= λ t. Ok (Move s t v)) (below-end w a from)
    ∙ (ap (λ r. r >>= λ y. plain g a >>= λ s. plain g y >>= λ t. Ok (Move s t v)) (below-end w b onto)
    ∙ (ap (λ r. r >>= λ s. plain g b >>= λ t. Ok (Move s t v)) (plain-free g a free) ∙ ap (λ r. r >>= λ t. Ok (Move a t v)) (plain-free g b clear))))))

move-words : (m : Mode) (h : Header) (items : List Item) (c : ℕ) (ops : List Op) (a b v : ℕ) → a < h.words → b < h.words → IsFree h a → IsFree h b → a < 2 ^ 64 → b < 2 ^ 64 → v < 2 ^ 64 → length ops < MAX_OPS
    → by_words m (in_tx h items c ops) (codes "move" ∷ decimal a ∷ decimal b ∷ decimal v ∷ []) ≡ Ok (Add (Move a b v))
move-words m h items c ops a b v from onto free clear fa fb fv room =
    let d : Writing = in_tx h items c ops in
    let four : Result Step ℕ = four_words Ops d (codes "move") (decimal a) (decimal b) (decimal v) in
    filled-decimal a (filled (decimal b) (filled (decimal v) four)) fa
    ∙ (filled-decimal b (filled (decimal v) four) fb
    ∙ (filled-decimal v four fv
    ∙ (ap (λ r. r >>= added d) (move_of-decimal d a b v from onto free clear fa fb fv) ∙ added-room d (Move a b v) room)))

emit-words : (m : Mode) (h : Header) (items : List Item) (c : ℕ) (ops : List Op) (a : ℕ) → a < h.words → IsFree h a → a < 2 ^ 64 → length ops < MAX_OPS → has_irrev ops ≡ true
    → by_words m (in_tx h items c ops) (codes "emit" ∷ decimal a ∷ []) ≡ Ok (Add (Emit a))
emit-words m h items c ops a within free fits room asked =
    let d : Writing = in_tx h items c ops in
    let at : address d (decimal a) ≡ Ok a = address-decimal d a within free fits in
    filled-decimal a (two_words Ops m d (codes "emit") (decimal a)) fits
    ∙ (ap (λ r. r >>= emitted d) at ∙ (ap (λ b. if b then added d (Emit a) else Err ORDER) asked ∙ added-room d (Emit a) room))

irrev-words : (m : Mode) (h : Header) (items : List Item) (c : ℕ) (ops : List Op) → length ops < MAX_OPS → by_words m (in_tx h items c ops) (codes "irrev" ∷ []) ≡ Ok (Add Irrev)
irrev-words m h items c ops room = added-room (in_tx h items c ops) Irrev room

cancel-words : (m : Mode) (h : Header) (items : List Item) (c : ℕ) (ops : List Op) → length ops < MAX_OPS → by_words m (in_tx h items c ops) (codes "cancel" ∷ []) ≡ Ok (Add Cancel)
cancel-words m h items c ops room = added-room (in_tx h items c ops) Cancel room

-- OPERATIONS ON STRUCTURES

-- the number of the region of a structure in version 1
abbrev NumberOne : Structure → ℕ → Type 0
NumberOne structures.Counter r = r ≡ 0
NumberOne structures.List r = r ≡ 1
NumberOne structures.Hash r = r ≡ 2
NumberOne structures.Tree r = r ≡ 3
NumberOne structures.Queue r = ⊥
NumberOne structures.SumMap r = ⊥

number-four : (r : ℕ) (s : Structure) → r < 4 → structure_of (region_at version_one r) ≡ s → NumberOne s r
number-four zero s lt e = subst (λ t. NumberOne t 0) e refl
number-four (suc zero) s lt e = subst (λ t. NumberOne t 1) e refl
number-four (suc (suc zero)) s lt e = subst (λ t. NumberOne t 2) e refl
number-four (suc (suc (suc zero))) s lt e = subst (λ t. NumberOne t 3) e refl
number-four (suc (suc (suc (suc r)))) s lt e = absurd (omega arith)

number-by : (h : Header) (s : Structure) (r : ℕ) → HasStructure h s r → RegionsOne h → (h.regions ≡ version_one) × NumberOne s r
number-by h s r b (inl none) = let long : length h.regions ≡ 0 = ap length none in let lt = b.0 in absurd (omega arith)
number-by h s r b (inr four) =
    let long : length h.regions ≡ 4 = ap length four.0 in
    let lt = b.0 in
    (four.0, number-four r s (omega arith) (subst (λ rs. structure_of (region_at rs r) ≡ s) four.0 b.1))

number-one : (h : Header) (s : Structure) (r : ℕ) → HeaderFits h → h.version ≡ One → HasStructure h s r → (h.regions ≡ version_one) × NumberOne s r
number-one h s r f e b = number-by h s r b (subst (λ v. LayoutFits v h) e f.layout).0

few-regions : (h : Header) → HeaderFits h → length h.regions ≤ MAX_REGIONS
few-regions h f = (laid-by h.version h f.layout).count

same-is : (s : Structure) → is_structure s s ≡ true
same-is structures.Counter = refl
same-is structures.List = refl
same-is structures.Hash = refl
same-is structures.Tree = refl
same-is structures.Queue = refl
same-is structures.SumMap = refl

has-is : (h : Header) (s : Structure) (r : ℕ) → HasStructure h s r → has_region h.regions (Some (s, r)) ≡ true
has-is h s r b =
    let lt = b.0 in
    let p : ltb r (length h.regions) ≡ true = grind (arith, nat_tests) in
    ap (λ x. x && is_structure s (structure_of (region_at h.regions r))) p ∙ (ap (is_structure s) b.1 ∙ same-is s)

structured-has : (d : Writing) (op : Op) (s : Structure) (r : ℕ) → structure_in op ≡ Some (s, r) → HasStructure d.header s r → length d.ops < MAX_OPS → structured d op ≡ Ok (Add op)
structured-has d op s r is b lt =
    let has : has_structure d.header.regions op ≡ true = ap (has_region d.header.regions) is ∙ has-is d.header s r b in
    ap (λ x. if x then added d op else Err REGION) has ∙ added-room d op lt

-- where the name of version 1 names its only operation
first-is : (C : ℕ → Op) (n i : ℕ) (r : Result Op ℕ) → r ≡ Ok (C n) → i ≡ n → r ≡ Ok (C i)
first-is C n i r is e = is ∙ ap (λ x. let found : Result Op ℕ = Ok (C x) in found) (sym e)

-- the operations of this name take a region of this structure, and a key
record IsKeyedBy (C : ℕ → ℕ → Op) (name : List ℕ) (s : Structure) : Type 0 where
  pub visible : Visible name
  pub kind : (r key : ℕ) → structure_in (C r key) ≡ Some (s, r)
  pub in_one : (r : ℕ) → NumberOne s r → op_of KEYED name ≡ Ok (C r 0)
  pub in_two : op_of PLACED_KEYED name ≡ Ok (C 0 0)
  pub keys : (r key : ℕ) → with_key key (C r 0) ≡ C r key
  pub places : (r key : ℕ) → with_key key (with_region r (C 0 0)) ≡ C r key
  pub pair : (m : Mode) (d : Writing) (v : List ℕ) → two_words Ops m d name v ≡ pair_op d.header.version d name v
  pub triple : (d : Writing) (a v : List ℕ) → three_words Ops d name a v ≡ triple_op d.header.version d name a v

keyed-one : (m : Mode) (h : Header) (items : List Item) (c : ℕ) (ops : List Op) (C : ℕ → ℕ → Op) (name : List ℕ) (s : Structure) (r key : ℕ)
    → HeaderFits h → h.version ≡ One → length ops < MAX_OPS → IsKeyedBy C name s → KeyFits h s r key
    → by_words m (in_tx h items c ops) (name ∷ decimal key ∷ []) ≡ Ok (Add (C r key))
keyed-one m h items c ops C name s r key f one room is fits =
    let d : Writing = in_tx h items c ops in
    let le = fits.1 in
    filled-decimal key (two_words Ops m d name (decimal key)) (omega arith)
    ∙ (is.pair m d (decimal key)
    ∙ (ap (λ v. pair_op v d name (decimal key)) one
    ∙ (ap (λ x. (x >>= λ op. number 0 MAX_KEY (decimal key) >>= λ j. Ok (with_key j op)) >>= structured d) (is.in_one r (number-one h s r f one fits.0).1)
    ∙ (ap (λ x. (x >>= λ j. Ok (with_key j (C r 0))) >>= structured d) (number-decimal 0 MAX_KEY key (omega arith) le (omega arith))
    ∙ (ap (structured d) (is.keys r key) ∙ structured-has d (C r key) s r (is.kind r key) fits.0 room)))))

keyed-two : (m : Mode) (h : Header) (items : List Item) (c : ℕ) (ops : List Op) (C : ℕ → ℕ → Op) (name : List ℕ) (s : Structure) (r key : ℕ)
    → HeaderFits h → h.version ≡ Two → length ops < MAX_OPS → IsKeyedBy C name s → KeyFits h s r key
    → by_words m (in_tx h items c ops) (name ∷ decimal r ∷ decimal key ∷ []) ≡ Ok (Add (C r key))
keyed-two m h items c ops C name s r key f two room is fits =
    let d : Writing = in_tx h items c ops in
    let le = fits.1 in
    let few = few-regions h f in
    let lt = fits.0.0 in
    let three : Result Step ℕ = three_words Ops d name (decimal r) (decimal key) in
    filled-decimal r (filled (decimal key) three) (omega arith)
    ∙ (filled-decimal key three (omega arith)
    ∙ (is.triple d (decimal r) (decimal key)
    ∙ (ap (λ v. triple_op v d name (decimal r) (decimal key)) two
    ∙ (ap (λ x. x >>= λ op. formed (number_of (decimal r)) >>= λ i. formed (number_of (decimal key)) >>= λ n. region_number d i >>= λ y. ranged 0 MAX_KEY n >>= λ j. structured d (with_key j (with_region y op))) is.in_two
    ∙ (ap (λ x. x >>= λ i. formed (number_of (decimal key)) >>= λ n. region_number d i >>= λ y. ranged 0 MAX_KEY n >>= λ j. structured d (with_key j (with_region y (C 0 0)))) (formed-decimal r (omega arith))
    ∙ (ap (λ x. x >>= λ n. region_number d r >>= λ y. ranged 0 MAX_KEY n >>= λ j. structured d (with_key j (with_region y (C 0 0)))) (formed-decimal key (omega arith))
    ∙ (ap (λ x. x >>= λ y. ranged 0 MAX_KEY key >>= λ j. structured d (with_key j (with_region y (C 0 0)))) (below-end (length h.regions) r lt)
    ∙ (ap (λ x. x >>= λ j. structured d (with_key j (with_region r (C 0 0)))) (ranged-within 0 MAX_KEY key (omega arith) le)
    ∙ (ap (structured d) (is.places r key) ∙ structured-has d (C r key) s r (is.kind r key) fits.0 room)))))))))

-- the operations of this name take a region of this structure alone
record IsKeylessBy (C : ℕ → Op) (name : List ℕ) (s : Structure) : Type 0 where
  pub visible : Visible name
  pub kind : (r : ℕ) → structure_in (C r) ≡ Some (s, r)
  pub in_one : (r : ℕ) → NumberOne s r → op_of KEYLESS name ≡ Ok (C r)
  pub in_two : op_of PLACED_KEYLESS name ≡ Ok (C 0)
  pub places : (r : ℕ) → with_region r (C 0) ≡ C r
  pub sole : (m : Mode) (d : Writing) → one_word Ops m d name ≡ keyless d.header.version d name
  pub pair : (m : Mode) (d : Writing) (v : List ℕ) → two_words Ops m d name v ≡ pair_op d.header.version d name v

keyless-one : (m : Mode) (h : Header) (items : List Item) (c : ℕ) (ops : List Op) (C : ℕ → Op) (name : List ℕ) (s : Structure) (r : ℕ)
    → HeaderFits h → h.version ≡ One → length ops < MAX_OPS → IsKeylessBy C name s → HasStructure h s r
    → by_words m (in_tx h items c ops) (name ∷ []) ≡ Ok (Add (C r))
keyless-one m h items c ops C name s r f one room is has =
    let d : Writing = in_tx h items c ops in
    is.sole m d
    ∙ (ap (λ v. keyless v d name) one
    ∙ (ap (λ x. x >>= structured d) (is.in_one r (number-one h s r f one has).1) ∙ structured-has d (C r) s r (is.kind r) has room))

keyless-two : (m : Mode) (h : Header) (items : List Item) (c : ℕ) (ops : List Op) (C : ℕ → Op) (name : List ℕ) (s : Structure) (r : ℕ)
    → HeaderFits h → h.version ≡ Two → length ops < MAX_OPS → IsKeylessBy C name s → HasStructure h s r
    → by_words m (in_tx h items c ops) (name ∷ decimal r ∷ []) ≡ Ok (Add (C r))
keyless-two m h items c ops C name s r f two room is has =
    let d : Writing = in_tx h items c ops in
    let few = few-regions h f in
    let lt = has.0 in
    filled-decimal r (two_words Ops m d name (decimal r)) (omega arith)
    ∙ (is.pair m d (decimal r)
    ∙ (ap (λ v. pair_op v d name (decimal r)) two
    ∙ (ap (λ x. x >>= λ op. formed (number_of (decimal r)) >>= region_number d >>= λ y. structured d (with_region y op)) is.in_two
    ∙ (ap (λ x. x >>= region_number d >>= λ y. structured d (with_region y (C 0))) (formed-decimal r (omega arith))
    ∙ (ap (λ x. x >>= λ y. structured d (with_region y (C 0))) (below-end (length h.regions) r lt)
    ∙ (ap (structured d) (is.places r) ∙ structured-has d (C r) s r (is.kind r) has room))))))

-- three numbers of the form
pub formed-three : {B : Type 0} (a b v : ℕ) (next : ℕ → ℕ → ℕ → Result B ℕ) → a < 2 ^ 64 → b < 2 ^ 64 → v < 2 ^ 64
    → (formed (number_of (decimal a)) >>= λ i. formed (number_of (decimal b)) >>= λ j. formed (number_of (decimal v)) >>= λ n. next i j n) ≡ next a b v
formed-three a b v next x y z =
    ap (λ r. r >>= λ i. formed (number_of (decimal b)) >>= λ j. formed (number_of (decimal v)) >>= λ n. next i j n) (formed-decimal a x)
    ∙ (ap (λ r. r >>= λ j. formed (number_of (decimal v)) >>= λ n. next a j n) (formed-decimal b y) ∙ ap (λ r. r >>= λ n. next a b n) (formed-decimal v z))

pub filled-three : (a b v : ℕ) (rest : Result Step ℕ) → a < 2 ^ 64 → b < 2 ^ 64 → v < 2 ^ 64 → filled (decimal a) (filled (decimal b) (filled (decimal v) rest)) ≡ rest
filled-three a b v rest x y z =
    filled-decimal a (filled (decimal b) (filled (decimal v) rest)) x ∙ (filled-decimal b (filled (decimal v) rest) y ∙ filled-decimal v rest z)

stripes-one : (h : Header) (r stripe : ℕ) → (h.regions ≡ version_one) × (r ≡ 0) → stripe < (counter_in h.regions r).stripes → stripe < STRIPES
stripes-one h r stripe is lt =
    let four : stripe < (counter_in version_one r).stripes = subst (λ rs. stripe < (counter_in rs r).stripes) is.0 lt in
    subst (λ i. stripe < (counter_in version_one i).stripes) is.1 four

stripe_in-is : (r : Region) (n : ℕ) → structure_of r ≡ structures.Counter → n < (as_counter r).stripes → stripe_in r n ≡ Ok n
stripe_in-is (kinds.Counter c) n e lt = below-end c.stripes n lt
stripe_in-is (kinds.List l) n e lt = cc
stripe_in-is (kinds.Hash h) n e lt = cc
stripe_in-is (kinds.Tree t) n e lt = cc
stripe_in-is (kinds.Queue q) n e lt = cc
stripe_in-is (kinds.SumMap r) n e lt = cc

stripe_of-is : (h : Header) (r n : ℕ) → HasStructure h structures.Counter r → n < (counter_in h.regions r).stripes → stripe_of h.regions r n ≡ Ok n
stripe_of-is h r n has lt =
    let in_range = has.0 in
    let p : ltb r (length h.regions) ≡ true = grind (arith, nat_tests) in
    ap (λ b. if b then stripe_in (region_at h.regions r) n else Err REGION) p ∙ stripe_in-is (region_at h.regions r) n has.1 lt

stripes-most : (r : Region) → structure_of r ≡ structures.Counter → IsSized r → (as_counter r).stripes ≤ 64
stripes-most (kinds.Counter c) e sized = sized.1
stripes-most (kinds.List l) e sized = absurd cc
stripes-most (kinds.Hash h) e sized = absurd cc
stripes-most (kinds.Tree t) e sized = absurd cc
stripes-most (kinds.Queue q) e sized = absurd cc
stripes-most (kinds.SumMap r) e sized = absurd cc

few-stripes : (h : Header) (r : ℕ) → HeaderFits h → HasStructure h structures.Counter r → (counter_in h.regions r).stripes ≤ 64
few-stripes h r f has =
    stripes-most (region_at h.regions r) has.1 ((laid-by h.version h f.layout).sized r (kinds.Counter (record { at = 0; stripes = 0 })) has.0)

count_of-decimal : (a v : ℕ) → a < STRIPES → v < 2 ^ 64 → count_of (decimal a) (decimal v) ≡ Ok (Count COUNTER a v)
count_of-decimal a v within value =
    ap (λ r. r >>= λ i. formed (number_of (decimal v)) >>= λ n. below STRIPES i >>= λ s. Ok (Count COUNTER s n)) (formed-decimal a (omega arith))
    ∙ (ap (λ r. r >>= λ n. below STRIPES a >>= λ s. Ok (Count COUNTER s n)) (formed-decimal v value) ∙ ap (λ r. r >>= λ s. Ok (Count COUNTER s v)) (below-end STRIPES a within))

count-one : (m : Mode) (h : Header) (items : List Item) (c : ℕ) (ops : List Op) (r a v : ℕ) → HeaderFits h → h.version ≡ One
    → length ops < MAX_OPS → HasStructure h structures.Counter r → a < (counter_in h.regions r).stripes → v < 2 ^ 64
    → by_words m (in_tx h items c ops) (codes "count" ∷ decimal a ∷ decimal v ∷ []) ≡ Ok (Add (Count r a v))
count-one m h items c ops r a v f one room has stripe value =
    let d : Writing = in_tx h items c ops in
    let number = number-one h structures.Counter r f one has in
    let within : a < STRIPES = stripes-one h r a number stripe in
    let zero-is : COUNTER ≡ r = sym number.1 in
    let three : Result Step ℕ = three_words Ops d (codes "count") (decimal a) (decimal v) in
    filled-decimal a (filled (decimal v) three) (omega arith)
    ∙ (filled-decimal v three value
    ∙ (ap (λ x. triple_op x d (codes "count") (decimal a) (decimal v)) one
    ∙ (ap (λ x. x >>= structured d) (count_of-decimal a v within value)
    ∙ (ap (λ x. structured d (Count x a v)) zero-is ∙ structured-has d (Count r a v) structures.Counter r refl has room))))

count-two : (m : Mode) (h : Header) (items : List Item) (c : ℕ) (ops : List Op) (r a v : ℕ) → HeaderFits h → h.version ≡ Two
    → length ops < MAX_OPS → HasStructure h structures.Counter r → a < (counter_in h.regions r).stripes → v < 2 ^ 64
    → by_words m (in_tx h items c ops) (codes "count" ∷ decimal r ∷ decimal a ∷ decimal v ∷ []) ≡ Ok (Add (Count r a v))
count-two m h items c ops r a v f two room has stripe value =
    let d : Writing = in_tx h items c ops in
    let rs : List Region = h.regions in
    let few = few-regions h f in
    let lt = has.0 in
    let most = few-stripes h r f has in
    filled-three r a v (four_words Ops d (codes "count") (decimal r) (decimal a) (decimal v)) (omega arith) (omega arith) value
    ∙ (ap (λ x. quadruple_op x d (codes "count") (decimal r) (decimal a) (decimal v)) two
    ∙ (formed-three r a v (λ i j n. region_number d i >>= λ y. stripe_of rs y j >>= λ t. structured d (Count y t n)) (omega arith) (omega arith) value
    ∙ (ap (λ x. x >>= λ y. stripe_of rs y a >>= λ t. structured d (Count y t v)) (below-end (length rs) r lt)
    ∙ (ap (λ x. x >>= λ t. structured d (Count r t v)) (stripe_of-is h r a has stripe) ∙ structured-has d (Count r a v) structures.Counter r refl has room))))

map_put-two : (m : Mode) (h : Header) (items : List Item) (c : ℕ) (ops : List Op) (r key v : ℕ) → HeaderFits h → h.version ≡ Two → length ops < MAX_OPS → KeyFits h structures.SumMap r key → v < 2 ^ 64
    → by_words m (in_tx h items c ops) (codes "mput" ∷ decimal r ∷ decimal key ∷ decimal v ∷ []) ≡ Ok (Add (MapPut r key v))
map_put-two m h items c ops r key v f two room fits value =
    let d : Writing = in_tx h items c ops in
    let few = few-regions h f in
    let lt = fits.0.0 in
    let le = fits.1 in
    filled-three r key v (four_words Ops d (codes "mput") (decimal r) (decimal key) (decimal v)) (omega arith) (omega arith) value
    ∙ (ap (λ x. quadruple_op x d (codes "mput") (decimal r) (decimal key) (decimal v)) two
    ∙ (formed-three r key v (λ i j n. region_number d i >>= λ y. ranged 0 MAX_KEY j >>= λ z. structured d (MapPut y z n)) (omega arith) (omega arith) value
    ∙ (ap (λ x. x >>= λ y. ranged 0 MAX_KEY key >>= λ z. structured d (MapPut y z v)) (below-end (length h.regions) r lt)
    ∙ (ap (λ x. x >>= λ z. structured d (MapPut r z v)) (ranged-within 0 MAX_KEY key (omega arith) le) ∙ structured-has d (MapPut r key v) structures.SumMap r refl fits.0 room))))

map_sum-two : (m : Mode) (h : Header) (items : List Item) (c : ℕ) (ops : List Op) (r low high : ℕ) → HeaderFits h → h.version ≡ Two → length ops < MAX_OPS → KeyFits h structures.SumMap r low → high ≤ MAX_KEY
    → by_words m (in_tx h items c ops) (codes "msum" ∷ decimal r ∷ decimal low ∷ decimal high ∷ []) ≡ Ok (Add (MapSum r low high))
map_sum-two m h items c ops r low high f two room fits top =
    let d : Writing = in_tx h items c ops in
    let few = few-regions h f in
    let lt = fits.0.0 in
    let le = fits.1 in
    filled-three r low high (four_words Ops d (codes "msum") (decimal r) (decimal low) (decimal high)) (omega arith) (omega arith) (omega arith)
    ∙ (ap (λ x. quadruple_op x d (codes "msum") (decimal r) (decimal low) (decimal high)) two
    ∙ (formed-three r low high (λ i j n. region_number d i >>= λ y. ranged 0 MAX_KEY j >>= λ z. ranged 0 MAX_KEY n >>= λ t. structured d (MapSum y z t)) (omega arith) (omega arith) (omega arith)
    ∙ (ap (λ x. x >>= λ y. ranged 0 MAX_KEY low >>= λ z. ranged 0 MAX_KEY high >>= λ t. structured d (MapSum y z t)) (below-end (length h.regions) r lt)
    ∙ (ap (λ x. x >>= λ z. ranged 0 MAX_KEY high >>= λ t. structured d (MapSum r z t)) (ranged-within 0 MAX_KEY low (omega arith) le)
    ∙ (ap (λ x. x >>= λ t. structured d (MapSum r low t)) (ranged-within 0 MAX_KEY high (omega arith) top) ∙ structured-has d (MapSum r low high) structures.SumMap r refl fits.0 room)))))

adds-not : (op : Op) → Add op ≢ Done
adds-not op e = cc

-- the line of an operation on a structure, which has its region's number in version 2 alone
keyed-read : (m : Mode) (h : Header) (items : List Item) (c : ℕ) (ops : List Op) (k : ℕ) (C : ℕ → ℕ → Op) (name : List ℕ) (s : Structure)
    (r key : ℕ) (rest : List ℕ) → HeaderFits h → length ops < MAX_OPS → KeyFits h s r key → IsKeyedBy C name s
    → (v : Version) → h.version ≡ v → parsed m (in_tx h items c ops) k (lines_of (line (name ∷ numbered v r (decimal key ∷ [])) ++ rest)) ≡ parsed m (in_tx h items c (ops ++ C r key ∷ [])) (k + 1) (lines_of rest)
keyed-read m h items c ops k C name s r key rest f room fits is One one =
    let le = fits.1 in
    step-read m (in_tx h items c ops) k name (decimal key ∷ []) rest (Add (C r key)) (is.visible, (visible-decimal key (omega arith), tt))
    (keyed-one m h items c ops C name s r key f one room is fits) (adds-not (C r key))
keyed-read m h items c ops k C name s r key rest f room fits is Two two =
    let le = fits.1 in
    let few = few-regions h f in
    let lt = fits.0.0 in
    step-read m (in_tx h items c ops) k name (decimal r ∷ decimal key ∷ []) rest (Add (C r key)) (is.visible, (visible-decimal r (omega arith), (visible-decimal key (omega arith), tt)))
    (keyed-two m h items c ops C name s r key f two room is fits) (adds-not (C r key))

keyless-read : (m : Mode) (h : Header) (items : List Item) (c : ℕ) (ops : List Op) (k : ℕ) (C : ℕ → Op) (name : List ℕ) (s : Structure)
    (r : ℕ) (rest : List ℕ) → HeaderFits h → length ops < MAX_OPS → HasStructure h s r → IsKeylessBy C name s
    → (v : Version) → h.version ≡ v → parsed m (in_tx h items c ops) k (lines_of (line (name ∷ numbered v r []) ++ rest)) ≡ parsed m (in_tx h items c (ops ++ C r ∷ [])) (k + 1) (lines_of rest)
keyless-read m h items c ops k C name s r rest f room has is One one =
    step-read m (in_tx h items c ops) k name [] rest (Add (C r)) (is.visible, tt) (keyless-one m h items c ops C name s r f one room is has) (adds-not (C r))
keyless-read m h items c ops k C name s r rest f room has is Two two =
    let few = few-regions h f in
    let lt = has.0 in
    step-read m (in_tx h items c ops) k name (decimal r ∷ []) rest (Add (C r)) (is.visible, (visible-decimal r (omega arith), tt))
    (keyless-two m h items c ops C name s r f two room is has) (adds-not (C r))

count-read : (m : Mode) (h : Header) (items : List Item) (c : ℕ) (ops : List Op) (k r a v : ℕ) (rest : List ℕ) → HeaderFits h
    → length ops < MAX_OPS → HasStructure h structures.Counter r → a < (counter_in h.regions r).stripes → v < 2 ^ 64
    → (x : Version) → h.version ≡ x
    → parsed m (in_tx h items c ops) k (lines_of (line (codes "count" ∷ numbered x r (decimal a ∷ decimal v ∷ [])) ++ rest))
    ≡ parsed m (in_tx h items c (ops ++ Count r a v ∷ [])) (k + 1) (lines_of rest)
count-read m h items c ops k r a v rest f room has stripe value One one =
    let most = few-stripes h r f has in
    step-read m (in_tx h items c ops) k (codes "count") (decimal a ∷ decimal v ∷ []) rest (Add (Count r a v)) (seen (codes "count") refl, (visible-decimal a (omega arith), (visible-decimal v value, tt)))
    (count-one m h items c ops r a v f one room has stripe value) (adds-not (Count r a v))
count-read m h items c ops k r a v rest f room has stripe value Two two =
    let few = few-regions h f in
    let lt = has.0 in
    let most = few-stripes h r f has in
    step-read m (in_tx h items c ops) k (codes "count") (decimal r ∷ decimal a ∷ decimal v ∷ []) rest (Add (Count r a v))
    (seen (codes "count") refl, (visible-decimal r (omega arith), (visible-decimal a (omega arith), (visible-decimal v value, tt))))
    (count-two m h items c ops r a v f two room has stripe value) (adds-not (Count r a v))

map_put-read : (m : Mode) (h : Header) (items : List Item) (c : ℕ) (ops : List Op) (k r key v : ℕ) (rest : List ℕ) → HeaderFits h → length ops < MAX_OPS → KeyFits h structures.SumMap r key → v < 2 ^ 64
    → (x : Version) → h.version ≡ x
    → parsed m (in_tx h items c ops) k (lines_of (line (codes "mput" ∷ numbered x r (decimal key ∷ decimal v ∷ [])) ++ rest))
    ≡ parsed m (in_tx h items c (ops ++ MapPut r key v ∷ [])) (k + 1) (lines_of rest)
map_put-read m h items c ops k r key v rest f room fits value One one = absurd (number-one h structures.SumMap r f one fits.0).1
map_put-read m h items c ops k r key v rest f room fits value Two two =
    let few = few-regions h f in
    let lt = fits.0.0 in
    let le = fits.1 in
    step-read m (in_tx h items c ops) k (codes "mput") (decimal r ∷ decimal key ∷ decimal v ∷ []) rest (Add (MapPut r key v))
    (seen (codes "mput") refl, (visible-decimal r (omega arith), (visible-decimal key (omega arith), (visible-decimal v value, tt))))
    (map_put-two m h items c ops r key v f two room fits value) (adds-not (MapPut r key v))

map_sum-read : (m : Mode) (h : Header) (items : List Item) (c : ℕ) (ops : List Op) (k r low high : ℕ) (rest : List ℕ) → HeaderFits h → length ops < MAX_OPS → KeyFits h structures.SumMap r low → high ≤ MAX_KEY
    → (x : Version) → h.version ≡ x
    → parsed m (in_tx h items c ops) k (lines_of (line (codes "msum" ∷ numbered x r (decimal low ∷ decimal high ∷ [])) ++ rest))
    ≡ parsed m (in_tx h items c (ops ++ MapSum r low high ∷ [])) (k + 1) (lines_of rest)
map_sum-read m h items c ops k r low high rest f room fits top One one = absurd (number-one h structures.SumMap r f one fits.0).1
map_sum-read m h items c ops k r low high rest f room fits top Two two =
    let few = few-regions h f in
    let lt = fits.0.0 in
    let le = fits.1 in
    step-read m (in_tx h items c ops) k (codes "msum") (decimal r ∷ decimal low ∷ decimal high ∷ []) rest (Add (MapSum r low high)) (
      seen (codes "msum") refl,
      (visible-decimal r (omega arith), (visible-decimal low (omega arith), (visible-decimal high (omega arith), tt))),
    )
    (map_sum-two m h items c ops r low high f two room fits top) (adds-not (MapSum r low high))

ladd-is : IsKeyedBy (λ r key. ListInsert r key) (codes "ladd") structures.List
ladd-is =
    record {
      visible = seen (codes "ladd") refl;
      kind = λ r key. refl;
      in_one = λ r e. first-is (λ x. ListInsert x 0) 1 r (op_of KEYED (codes "ladd")) refl e;
      in_two = refl;
      keys = λ r key. refl;
      places = λ r key. refl;
      pair = λ m d v. refl;
      triple = λ d a v. refl;
    }

ldel-is : IsKeyedBy (λ r key. ListRemove r key) (codes "ldel") structures.List
ldel-is =
    record {
      visible = seen (codes "ldel") refl;
      kind = λ r key. refl;
      in_one = λ r e. first-is (λ x. ListRemove x 0) 1 r (op_of KEYED (codes "ldel")) refl e;
      in_two = refl;
      keys = λ r key. refl;
      places = λ r key. refl;
      pair = λ m d v. refl;
      triple = λ d a v. refl;
    }

lhas-is : IsKeyedBy (λ r key. ListContains r key) (codes "lhas") structures.List
lhas-is =
    record {
      visible = seen (codes "lhas") refl;
      kind = λ r key. refl;
      in_one = λ r e. first-is (λ x. ListContains x 0) 1 r (op_of KEYED (codes "lhas")) refl e;
      in_two = refl;
      keys = λ r key. refl;
      places = λ r key. refl;
      pair = λ m d v. refl;
      triple = λ d a v. refl;
    }

hadd-is : IsKeyedBy (λ r key. HashInsert r key) (codes "hadd") structures.Hash
hadd-is =
    record {
      visible = seen (codes "hadd") refl;
      kind = λ r key. refl;
      in_one = λ r e. first-is (λ x. HashInsert x 0) 2 r (op_of KEYED (codes "hadd")) refl e;
      in_two = refl;
      keys = λ r key. refl;
      places = λ r key. refl;
      pair = λ m d v. refl;
      triple = λ d a v. refl;
    }

hdel-is : IsKeyedBy (λ r key. HashRemove r key) (codes "hdel") structures.Hash
hdel-is =
    record {
      visible = seen (codes "hdel") refl;
      kind = λ r key. refl;
      in_one = λ r e. first-is (λ x. HashRemove x 0) 2 r (op_of KEYED (codes "hdel")) refl e;
      in_two = refl;
      keys = λ r key. refl;
      places = λ r key. refl;
      pair = λ m d v. refl;
      triple = λ d a v. refl;
    }

hhas-is : IsKeyedBy (λ r key. HashContains r key) (codes "hhas") structures.Hash
hhas-is =
    record {
      visible = seen (codes "hhas") refl;
      kind = λ r key. refl;
      in_one = λ r e. first-is (λ x. HashContains x 0) 2 r (op_of KEYED (codes "hhas")) refl e;
      in_two = refl;
      keys = λ r key. refl;
      places = λ r key. refl;
      pair = λ m d v. refl;
      triple = λ d a v. refl;
    }

tadd-is : IsKeyedBy (λ r key. TreeInsert r key) (codes "tadd") structures.Tree
tadd-is =
    record {
      visible = seen (codes "tadd") refl;
      kind = λ r key. refl;
      in_one = λ r e. first-is (λ x. TreeInsert x 0) 3 r (op_of KEYED (codes "tadd")) refl e;
      in_two = refl;
      keys = λ r key. refl;
      places = λ r key. refl;
      pair = λ m d v. refl;
      triple = λ d a v. refl;
    }

tdel-is : IsKeyedBy (λ r key. TreeRemove r key) (codes "tdel") structures.Tree
tdel-is =
    record {
      visible = seen (codes "tdel") refl;
      kind = λ r key. refl;
      in_one = λ r e. first-is (λ x. TreeRemove x 0) 3 r (op_of KEYED (codes "tdel")) refl e;
      in_two = refl;
      keys = λ r key. refl;
      places = λ r key. refl;
      pair = λ m d v. refl;
      triple = λ d a v. refl;
    }

thas-is : IsKeyedBy (λ r key. TreeContains r key) (codes "thas") structures.Tree
thas-is =
    record {
      visible = seen (codes "thas") refl;
      kind = λ r key. refl;
      in_one = λ r e. first-is (λ x. TreeContains x 0) 3 r (op_of KEYED (codes "thas")) refl e;
      in_two = refl;
      keys = λ r key. refl;
      places = λ r key. refl;
      pair = λ m d v. refl;
      triple = λ d a v. refl;
    }

qput-is : IsKeyedBy (λ r key. QueuePut r key) (codes "qput") structures.Queue
qput-is = record { visible = seen (codes "qput") refl; kind = λ r key. refl; in_one = λ r e. absurd e; in_two = refl; keys = λ r key. refl; places = λ r key. refl; pair = λ m d v. refl; triple = λ d a v. refl }

mdel-is : IsKeyedBy (λ r key. MapRemove r key) (codes "mdel") structures.SumMap
mdel-is = record { visible = seen (codes "mdel") refl; kind = λ r key. refl; in_one = λ r e. absurd e; in_two = refl; keys = λ r key. refl; places = λ r key. refl; pair = λ m d v. refl; triple = λ d a v. refl }

mget-is : IsKeyedBy (λ r key. MapGet r key) (codes "mget") structures.SumMap
mget-is = record { visible = seen (codes "mget") refl; kind = λ r key. refl; in_one = λ r e. absurd e; in_two = refl; keys = λ r key. refl; places = λ r key. refl; pair = λ m d v. refl; triple = λ d a v. refl }

total-is : IsKeylessBy (λ r. Total r) (codes "total") structures.Counter
total-is =
    record {
      visible = seen (codes "total") refl;
      kind = λ r. refl;
      in_one = λ r e. first-is (λ x. Total x) 0 r (op_of KEYLESS (codes "total")) refl e;
      in_two = refl;
      places = λ r. refl;
      sole = λ m d. refl;
      pair = λ m d v. refl;
    }

llen-is : IsKeylessBy (λ r. ListLength r) (codes "llen") structures.List
llen-is =
    record {
      visible = seen (codes "llen") refl;
      kind = λ r. refl;
      in_one = λ r e. first-is (λ x. ListLength x) 1 r (op_of KEYLESS (codes "llen")) refl e;
      in_two = refl;
      places = λ r. refl;
      sole = λ m d. refl;
      pair = λ m d v. refl;
    }

tmin-is : IsKeylessBy (λ r. TreeLeast r) (codes "tmin") structures.Tree
tmin-is =
    record {
      visible = seen (codes "tmin") refl;
      kind = λ r. refl;
      in_one = λ r e. first-is (λ x. TreeLeast x) 3 r (op_of KEYLESS (codes "tmin")) refl e;
      in_two = refl;
      places = λ r. refl;
      sole = λ m d. refl;
      pair = λ m d v. refl;
    }

qget-is : IsKeylessBy (λ r. QueueGet r) (codes "qget") structures.Queue
qget-is = record { visible = seen (codes "qget") refl; kind = λ r. refl; in_one = λ r e. absurd e; in_two = refl; places = λ r. refl; sole = λ m d. refl; pair = λ m d v. refl }

-- the line of an operation
pub op-read : (m : Mode) (h : Header) (items : List Item) (c : ℕ) (ops : List Op) (k : ℕ) (op : Op) (rest : List ℕ) → HeaderFits h → OpFits h op → length ops < MAX_OPS → IsAllowed (has_irrev ops) op
    → parsed m (in_tx h items c ops) k (lines_of (line (op_words h.version op) ++ rest)) ≡ parsed m (in_tx h items c (ops ++ op ∷ [])) (k + 1) (lines_of rest)
op-read m h items c ops k (Read a) rest f fits room allowed =
    let small = f.config.words.1 in
    let within = fits.0 in
    step-read m (in_tx h items c ops) k (codes "read") (decimal a ∷ []) rest (Add (Read a)) (seen (codes "read") refl, (visible-decimal a (omega arith), tt))
    (read-words m h items c ops a within fits.1 (omega arith) room) (adds-not (Read a))
op-read m h items c ops k (Write a v) rest f fits room allowed =
    let small = f.config.words.1 in
    let within = fits.0 in
    step-read m (in_tx h items c ops) k (codes "write") (decimal a ∷ decimal v ∷ []) rest (Add (Write a v)) (seen (codes "write") refl, (visible-decimal a (omega arith), (visible-decimal v fits.1, tt)))
    (write-words m h items c ops a v within fits.2 (omega arith) fits.1 room) (adds-not (Write a v))
op-read m h items c ops k (Sum a v) rest f fits room allowed =
    let small = f.config.words.1 in
    let within = fits.0 in
    step-read m (in_tx h items c ops) k (codes "add") (decimal a ∷ decimal v ∷ []) rest (Add (Sum a v)) (seen (codes "add") refl, (visible-decimal a (omega arith), (visible-decimal v fits.1, tt)))
    (add-words m h items c ops a v within fits.2 (omega arith) fits.1 room) (adds-not (Sum a v))
op-read m h items c ops k (Move a b v) rest f fits room allowed =
    let small = f.config.words.1 in
    let from = fits.0 in
    let onto = fits.1 in
    step-read m (in_tx h items c ops) k (codes "move") (decimal a ∷ decimal b ∷ decimal v ∷ []) rest (Add (Move a b v))
    (seen (codes "move") refl, (visible-decimal a (omega arith), (visible-decimal b (omega arith), (visible-decimal v fits.2, tt))))
    (move-words m h items c ops a b v from onto fits.3 fits.4 (omega arith) (omega arith) fits.2 room) (adds-not (Move a b v))
op-read m h items c ops k (Emit a) rest f fits room allowed =
    let small = f.config.words.1 in
    let within = fits.0 in
    step-read m (in_tx h items c ops) k (codes "emit") (decimal a ∷ []) rest (Add (Emit a)) (seen (codes "emit") refl, (visible-decimal a (omega arith), tt))
    (emit-words m h items c ops a within fits.1 (omega arith) room allowed) (adds-not (Emit a))
op-read m h items c ops k Irrev rest f fits room allowed =
    step-read m (in_tx h items c ops) k (codes "irrev") [] rest (Add Irrev) (seen (codes "irrev") refl, tt) (irrev-words m h items c ops room) (adds-not Irrev)
op-read m h items c ops k Cancel rest f fits room allowed =
    step-read m (in_tx h items c ops) k (codes "cancel") [] rest (Add Cancel) (seen (codes "cancel") refl, tt) (cancel-words m h items c ops room) (adds-not Cancel)
op-read m h items c ops k (Count r a v) rest f fits room allowed = count-read m h items c ops k r a v rest f room fits.0 fits.1 fits.2 h.version refl
op-read m h items c ops k (Total r) rest f fits room allowed = keyless-read m h items c ops k (λ x. Total x) (codes "total") structures.Counter r rest f room fits total-is h.version refl
op-read m h items c ops k (ListLength r) rest f fits room allowed = keyless-read m h items c ops k (λ x. ListLength x) (codes "llen") structures.List r rest f room fits llen-is h.version refl
op-read m h items c ops k (TreeLeast r) rest f fits room allowed = keyless-read m h items c ops k (λ x. TreeLeast x) (codes "tmin") structures.Tree r rest f room fits tmin-is h.version refl
op-read m h items c ops k (QueueGet r) rest f fits room allowed = keyless-read m h items c ops k (λ x. QueueGet x) (codes "qget") structures.Queue r rest f room fits qget-is h.version refl
op-read m h items c ops k (ListInsert r key) rest f fits room allowed = keyed-read m h items c ops k (λ x y. ListInsert x y) (codes "ladd") structures.List r key rest f room fits ladd-is h.version refl
op-read m h items c ops k (ListRemove r key) rest f fits room allowed = keyed-read m h items c ops k (λ x y. ListRemove x y) (codes "ldel") structures.List r key rest f room fits ldel-is h.version refl
op-read m h items c ops k (ListContains r key) rest f fits room allowed = keyed-read m h items c ops k (λ x y. ListContains x y) (codes "lhas") structures.List r key rest f room fits lhas-is h.version refl
op-read m h items c ops k (HashInsert r key) rest f fits room allowed = keyed-read m h items c ops k (λ x y. HashInsert x y) (codes "hadd") structures.Hash r key rest f room fits hadd-is h.version refl
op-read m h items c ops k (HashRemove r key) rest f fits room allowed = keyed-read m h items c ops k (λ x y. HashRemove x y) (codes "hdel") structures.Hash r key rest f room fits hdel-is h.version refl
op-read m h items c ops k (HashContains r key) rest f fits room allowed = keyed-read m h items c ops k (λ x y. HashContains x y) (codes "hhas") structures.Hash r key rest f room fits hhas-is h.version refl
op-read m h items c ops k (TreeInsert r key) rest f fits room allowed = keyed-read m h items c ops k (λ x y. TreeInsert x y) (codes "tadd") structures.Tree r key rest f room fits tadd-is h.version refl
op-read m h items c ops k (TreeRemove r key) rest f fits room allowed = keyed-read m h items c ops k (λ x y. TreeRemove x y) (codes "tdel") structures.Tree r key rest f room fits tdel-is h.version refl
op-read m h items c ops k (TreeContains r key) rest f fits room allowed = keyed-read m h items c ops k (λ x y. TreeContains x y) (codes "thas") structures.Tree r key rest f room fits thas-is h.version refl
op-read m h items c ops k (QueuePut r key) rest f fits room allowed = keyed-read m h items c ops k (λ x y. QueuePut x y) (codes "qput") structures.Queue r key rest f room fits qput-is h.version refl
op-read m h items c ops k (MapRemove r key) rest f fits room allowed = keyed-read m h items c ops k (λ x y. MapRemove x y) (codes "mdel") structures.SumMap r key rest f room fits mdel-is h.version refl
op-read m h items c ops k (MapGet r key) rest f fits room allowed = keyed-read m h items c ops k (λ x y. MapGet x y) (codes "mget") structures.SumMap r key rest f room fits mget-is h.version refl
op-read m h items c ops k (MapPut r key v) rest f fits room allowed = map_put-read m h items c ops k r key v rest f room fits.0 fits.1 h.version refl
op-read m h items c ops k (MapSum r low high) rest f fits room allowed = map_sum-read m h items c ops k r low high rest f room fits.0 fits.1 h.version refl
