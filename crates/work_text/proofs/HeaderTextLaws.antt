-- The lines of a header that fits are read as that header.
use Rattle.std.proofs.Common.{ℕ, ◌≡◌, ◌≢◌, ◌<◌, ◌≤◌, ◌+◌, ◌^◌, List, [], ◌∷◌, ◌++◌, Bool, true, false, Result, Ok, Err, inl, inr, refl, sym, ap, subst, ◌∙◌, arith, length, append_assoc, append-nil, length-append, drop}
use Rattle.std.specs.Prelude.{◌&&◌, not, if◌then◌else◌, leb, codes, map, bytes_eq, All}
use Rattle.std.specs.Fmt.{decimal}
use Rattle.std.proofs.lemmas.Bool.Decides.{nat_tests}
use Rattle.std.proofs.lemmas.List.Elements.{All-head, All-tail}
use Rattle.stm_model.specs.declared.alg.Alg.{Alg}
use Rattle.stm_model.specs.declared.alg.Alg.TheVariants.{Cgl, Tml, OrecLazy, OrecEager, RingSw, Serial}
use Rattle.stm_model.specs.declared.alg.TheConstants.{ALGORITHMS}
use Rattle.stm_model.specs.declared.config.TheConstants.{MAX_WORDS, MAX_RECORDS, MIN_RING, MAX_RING, MAX_CALLERS, MAX_LOG, CLOCK_LIMIT}
use Rattle.stm_model.specs.Algorithms.{alg_name}
use Rattle.work_profile.specs.declared.policy.Policy.{Policy}
use Rattle.work_profile.specs.declared.policy.Policy.TheVariants as policies
use Rattle.work_profile.specs.declared.policy.TheConstants.{MOST_ROUND, MOST_STATE}
use Rattle.work_profile.specs.PolicyWords.{policy_word, HasWord}
use Rattle.data_regions.specs.declared.region.Region.{Region}
use Rattle.data_regions.specs.declared.region.Region.TheVariants as kinds
use Rattle.data_regions.specs.declared.region.Structure.{Structure}
use Rattle.data_regions.specs.declared.region.Structure.TheVariants as structures
use Rattle.data_regions.specs.Regions.{start_of, size_of, structure_of, region_for, EndsWithin}
use Rattle.work_script.specs.declared.workload.Header.{Header}
use Rattle.work_script.specs.declared.workload.Version.{Version}
use Rattle.work_script.specs.declared.workload.Version.TheVariants.{One, Two}
use Rattle.work_script.specs.declared.workload.TheConstants.{MAX_REGIONS, STRUCTS_END}
use Rattle.work_text.specs.declared.code.TheConstants.{REGION}
use Rattle.work_text.specs.declared.table.TheConstants.{KINDS}
use Rattle.work_text.specs.declared.draft.NextLine.{NextLine}
use Rattle.work_text.specs.declared.draft.NextLine.TheVariants.{Version as VersionLine, Words, Callers, Records, Ring, Reads, Writes, Clock, Algorithm, Structures, Regions, Region as RegionLine, Policy as PolicyLine, Items}
use Rattle.work_text.specs.declared.draft.Field.{Field}
use Rattle.work_text.specs.declared.draft.Field.TheVariants as fields
use Rattle.work_text.specs.declared.draft.Step.{Step}
use Rattle.work_text.specs.declared.draft.Step.TheVariants.{Head, Count as Announce, Done}
use Rattle.work_text.specs.declared.parse.Mode.{Mode}
use Rattle.work_text.specs.Lines.{lines_of, number_of}
use Rattle.work_text.specs.Drafts.{Writing, regions_where, with_field, opening}
use Rattle.work_text.specs.Grammar.{◌>>=◌, formed, ranged, algorithm_of, algorithm, sized, most_words, most_size, policy_of, after_algorithm, next_region, kind_name, kind_of, end_of, placed, region_of, no_region, two_words, four_words, filled, parsed}
use Rattle.work_text.specs.Parsed.{cells_of, IsSized, Follow, RegionsOne, LayoutFits, HeaderFits}
use Rattle.work_text.specs.Texts.{line, switch_of, version_word, region_words, layout_lines, header_lines, lines_text}
use Rattle.work_text.proofs.HeaderLaws.{most-words}
use Rattle.work_text.specs.WordLaws.{Visible, seen, visible-decimal}
use Rattle.work_text.proofs.OpTextLaws.{step-read, filled-decimal, formed-decimal, ranged-within, number-decimal, counted, between}

-- a name is a word
pub visible-name : (alg : Alg) → Visible (alg_name alg)
visible-name Cgl = seen (codes "CGL") refl
visible-name Tml = seen (codes "TML") refl
visible-name OrecLazy = seen (codes "OrecLazy") refl
visible-name OrecEager = seen (codes "OrecEager") refl
visible-name RingSw = seen (codes "RingSW") refl
visible-name Serial = seen (codes "Serial") refl

pub filled-name : (alg : Alg) (rest : Result Step ℕ) → filled (alg_name alg) rest ≡ rest
filled-name Cgl rest = refl
filled-name Tml rest = refl
filled-name OrecLazy rest = refl
filled-name OrecEager rest = refl
filled-name RingSw rest = refl
filled-name Serial rest = refl

-- each algorithm is known by its name
pub algorithm-name : (alg : Alg) → algorithm (alg_name alg) ≡ Ok alg
algorithm-name Cgl = refl
algorithm-name Tml = refl
algorithm-name OrecLazy = refl
algorithm-name OrecEager = refl
algorithm-name RingSw = refl
algorithm-name Serial = refl

-- within the header, of which n regions were announced
abbrev in_header : NextLine → ℕ → Header → Writing
in_header p n h = record { place = p; header = h; count = n; items = []; caller = 0; ops = []; schedule = []; turns = 0 }

not-done : (p : NextLine) (field : Field) → Head p field ≢ Done
not-done p field e = cc

sized-decimal : (name : List ℕ) (low high n : ℕ) → bytes_eq name name ≡ true → low ≤ n → n ≤ high → n < 2 ^ 64 → sized name low high name (decimal n) ≡ Ok n
sized-decimal name low high n same le ge lt = rw same (number-decimal low high n le ge lt)

-- a line of the header that gives a number
number-read : (m : Mode) (h : Header) (p q : NextLine) (k : ℕ) (name : List ℕ) (n : ℕ) (rest : List ℕ) (field : Field) → Visible name → n < 2 ^ 64
    → two_words p m (in_header p 0 h) name (decimal n) ≡ Ok (Head q field)
    → parsed m (in_header p 0 h) k (lines_of (line (name ∷ decimal n ∷ []) ++ rest)) ≡ parsed m (in_header q 0 (with_field field h)) (k + 1) (lines_of rest)
number-read m h p q k name n rest field clear fits is =
    step-read m (in_header p 0 h) k name (decimal n ∷ []) rest (Head q field) (clear, (visible-decimal n fits, tt))
    (filled-decimal n (two_words p m (in_header p 0 h) name (decimal n)) fits ∙ is) (not-done q field)

version-read : (m : Mode) (h : Header) (k : ℕ) (v : Version) (rest : List ℕ)
    → parsed m (in_header VersionLine 0 h) k (lines_of (line (codes "stm" ∷ version_word v ∷ []) ++ rest)) ≡ parsed m (in_header Words 0 (record h { version = v })) (k + 1) (lines_of rest)
version-read m h k One rest =
    step-read m (in_header VersionLine 0 h) k (codes "stm") (codes "1" ∷ []) rest (Head Words (fields.Version One)) (seen (codes "stm") refl, (seen (codes "1") refl, tt)) refl (not-done Words (fields.Version One))
version-read m h k Two rest =
    step-read m (in_header VersionLine 0 h) k (codes "stm") (codes "2" ∷ []) rest (Head Words (fields.Version Two)) (seen (codes "stm") refl, (seen (codes "2") refl, tt)) refl (not-done Words (fields.Version Two))

field-set : (r : Result ℕ ℕ) (field : ℕ → Field) (q : NextLine) (n : ℕ) → r ≡ Ok n → (r >>= (λ v. Ok (field v)) >>= λ x. Ok (Head q x)) ≡ Ok (Head q (field n))
field-set r field q n is = ap (λ z. z >>= (λ v. Ok (field v)) >>= λ x. Ok (Head q x)) is

words-read : (m : Mode) (h : Header) (k n : ℕ) (rest : List ℕ) → 1 ≤ n → n ≤ most_words h.version
    → parsed m (in_header Words 0 h) k (lines_of (line (codes "words" ∷ decimal n ∷ []) ++ rest)) ≡ parsed m (in_header Callers 0 (record h { words = n })) (k + 1) (lines_of rest)
words-read m h k n rest le ge =
    let most = most-words h.version in
    number-read m h Words Callers k (codes "words") n rest (fields.Words n) (seen (codes "words") refl) (omega arith)
    (field-set (sized (codes "words") 1 (most_words h.version) (codes "words") (decimal n)) (λ v. fields.Words v) Callers n (sized-decimal (codes "words") 1 (most_words h.version) n refl le ge (omega arith)))

callers-read : (m : Mode) (h : Header) (k n : ℕ) (rest : List ℕ) → 1 ≤ n → n ≤ MAX_CALLERS
    → parsed m (in_header Callers 0 h) k (lines_of (line (codes "callers" ∷ decimal n ∷ []) ++ rest)) ≡ parsed m (in_header Records 0 (record h { callers = n })) (k + 1) (lines_of rest)
callers-read m h k n rest le ge =
    number-read m h Callers Records k (codes "callers") n rest (fields.Callers n) (seen (codes "callers") refl) (omega arith)
    (field-set (sized (codes "callers") 1 MAX_CALLERS (codes "callers") (decimal n)) (λ v. fields.Callers v) Records n (sized-decimal (codes "callers") 1 MAX_CALLERS n refl le ge (omega arith)))

records-read : (m : Mode) (h : Header) (k n : ℕ) (rest : List ℕ) → 1 ≤ n → n ≤ MAX_RECORDS
    → parsed m (in_header Records 0 h) k (lines_of (line (codes "records" ∷ decimal n ∷ []) ++ rest)) ≡ parsed m (in_header Ring 0 (record h { records = n })) (k + 1) (lines_of rest)
records-read m h k n rest le ge =
    number-read m h Records Ring k (codes "records") n rest (fields.Records n) (seen (codes "records") refl) (omega arith)
    (field-set (sized (codes "records") 1 MAX_RECORDS (codes "records") (decimal n)) (λ v. fields.Records v) Ring n (sized-decimal (codes "records") 1 MAX_RECORDS n refl le ge (omega arith)))

ring-read : (m : Mode) (h : Header) (k n : ℕ) (rest : List ℕ) → MIN_RING ≤ n → n ≤ MAX_RING
    → parsed m (in_header Ring 0 h) k (lines_of (line (codes "ring" ∷ decimal n ∷ []) ++ rest)) ≡ parsed m (in_header Reads 0 (record h { ring = n })) (k + 1) (lines_of rest)
ring-read m h k n rest le ge =
    number-read m h Ring Reads k (codes "ring") n rest (fields.Ring n) (seen (codes "ring") refl) (omega arith)
    (field-set (sized (codes "ring") MIN_RING MAX_RING (codes "ring") (decimal n)) (λ v. fields.Ring v) Reads n (sized-decimal (codes "ring") MIN_RING MAX_RING n refl le ge (omega arith)))

reads-read : (m : Mode) (h : Header) (k n : ℕ) (rest : List ℕ) → 1 ≤ n → n ≤ MAX_LOG
    → parsed m (in_header Reads 0 h) k (lines_of (line (codes "reads" ∷ decimal n ∷ []) ++ rest)) ≡ parsed m (in_header Writes 0 (record h { reads = n })) (k + 1) (lines_of rest)
reads-read m h k n rest le ge =
    number-read m h Reads Writes k (codes "reads") n rest (fields.Reads n) (seen (codes "reads") refl) (omega arith)
    (field-set (sized (codes "reads") 1 MAX_LOG (codes "reads") (decimal n)) (λ v. fields.Reads v) Writes n (sized-decimal (codes "reads") 1 MAX_LOG n refl le ge (omega arith)))

writes-read : (m : Mode) (h : Header) (k n : ℕ) (rest : List ℕ) → 1 ≤ n → n ≤ MAX_LOG
    → parsed m (in_header Writes 0 h) k (lines_of (line (codes "writes" ∷ decimal n ∷ []) ++ rest)) ≡ parsed m (in_header Clock 0 (record h { writes = n })) (k + 1) (lines_of rest)
writes-read m h k n rest le ge =
    number-read m h Writes Clock k (codes "writes") n rest (fields.Writes n) (seen (codes "writes") refl) (omega arith)
    (field-set (sized (codes "writes") 1 MAX_LOG (codes "writes") (decimal n)) (λ v. fields.Writes v) Clock n (sized-decimal (codes "writes") 1 MAX_LOG n refl le ge (omega arith)))

clock-read : (m : Mode) (h : Header) (k n : ℕ) (rest : List ℕ) → 0 ≤ n → n ≤ CLOCK_LIMIT
    → parsed m (in_header Clock 0 h) k (lines_of (line (codes "clock" ∷ decimal n ∷ []) ++ rest)) ≡ parsed m (in_header Algorithm 0 (record h { clock = n })) (k + 1) (lines_of rest)
clock-read m h k n rest le ge =
    number-read m h Clock Algorithm k (codes "clock") n rest (fields.Clock n) (seen (codes "clock") refl) (omega arith)
    (field-set (sized (codes "clock") 0 CLOCK_LIMIT (codes "clock") (decimal n)) (λ v. fields.Clock v) Algorithm n (sized-decimal (codes "clock") 0 CLOCK_LIMIT n refl le ge (omega arith)))

alg-read : (m : Mode) (h : Header) (k : ℕ) (alg : Alg) (rest : List ℕ)
    → parsed m (in_header Algorithm 0 h) k (lines_of (line (codes "alg" ∷ alg_name alg ∷ []) ++ rest)) ≡ parsed m (in_header (after_algorithm h.version) 0 (record h { alg = alg })) (k + 1) (lines_of rest)
alg-read m h k alg rest =
    let q : NextLine = after_algorithm h.version in
    step-read m (in_header Algorithm 0 h) k (codes "alg") (alg_name alg ∷ []) rest (Head q (fields.Algorithm alg)) (seen (codes "alg") refl, (visible-name alg, tt))
    (filled-name alg (two_words Algorithm m (in_header Algorithm 0 h) (codes "alg") (alg_name alg))
    ∙ ap (λ r. r >>= (λ a. Ok (fields.Algorithm a)) >>= λ x. Ok (Head q x)) (algorithm-name alg))
    (not-done q (fields.Algorithm alg))

structs-read : (m : Mode) (h : Header) (k : ℕ) (on : Bool) (rest : List ℕ) → (on ≡ true → STRUCTS_END ≤ h.words)
    → parsed m (in_header Structures 0 h) k (lines_of (line (codes "structs" ∷ switch_of on ∷ []) ++ rest)) ≡ parsed m (in_header Items 0 (record h { regions = regions_where on })) (k + 1) (lines_of rest)
structs-read m h k false rest room =
    step-read m (in_header Structures 0 h) k (codes "structs") (codes "off" ∷ []) rest (Head Items (fields.Structures false))
    (seen (codes "structs") refl, (seen (codes "off") refl, tt)) refl (not-done Items (fields.Structures false))
structs-read m h k true rest room =
    let le = room refl in
    let p : leb STRUCTS_END h.words ≡ true = grind (arith, nat_tests) in
    step-read m (in_header Structures 0 h) k (codes "structs") (codes "on" ∷ []) rest (Head Items (fields.Structures true))
    (seen (codes "structs") refl, (seen (codes "on") refl, tt)) (rw p) (not-done Items (fields.Structures true))

-- a header without its layout, but for these regions
abbrev laying : Header → List Region → Header
laying h rs = record h { regions = rs; policy = policies.Fixed }

announce-not : (p : NextLine) (n : ℕ) → Announce p n ≢ Done
announce-not p n e = cc

count-line : (m : Mode) (h : Header) (k n : ℕ) (rest : List ℕ) → n ≤ MAX_REGIONS
    → parsed m (in_header Regions 0 h) k (lines_of (line (codes "regions" ∷ decimal n ∷ []) ++ rest)) ≡ parsed m (in_header (next_region n 0) n h) (k + 1) (lines_of rest)
count-line m h k n rest most =
    let d : Writing = in_header Regions 0 h in
    let q : NextLine = next_region n 0 in
    step-read m d k (codes "regions") (decimal n ∷ []) rest (Announce q n) (seen (codes "regions") refl, (visible-decimal n (omega arith), tt))
    (filled-decimal n (two_words Regions m d (codes "regions") (decimal n)) (omega arith)
    ∙ ap (λ r. r >>= λ x. Ok (Announce (next_region x 0) x)) (sized-decimal (codes "regions") 0 MAX_REGIONS n refl (omega arith) most (omega arith)))
    (announce-not q n)

visible-kind : (s : Structure) → Visible (kind_name s)
visible-kind structures.Counter = seen (codes "counter") refl
visible-kind structures.List = seen (codes "list") refl
visible-kind structures.Hash = seen (codes "hash") refl
visible-kind structures.Tree = seen (codes "tree") refl
visible-kind structures.Queue = seen (codes "queue") refl
visible-kind structures.SumMap = seen (codes "summap") refl

filled-kind : (s : Structure) (rest : Result Step ℕ) → filled (kind_name s) rest ≡ rest
filled-kind structures.Counter rest = refl
filled-kind structures.List rest = refl
filled-kind structures.Hash rest = refl
filled-kind structures.Tree rest = refl
filled-kind structures.Queue rest = refl
filled-kind structures.SumMap rest = refl

kind_of-name : (s : Structure) → kind_of KINDS (kind_name s) ≡ Ok s
kind_of-name structures.Counter = refl
kind_of-name structures.List = refl
kind_of-name structures.Hash = refl
kind_of-name structures.Tree = refl
kind_of-name structures.Queue = refl
kind_of-name structures.SumMap = refl

region-again : (r : Region) → region_for (structure_of r) (start_of r) (cells_of r) ≡ r
region-again (kinds.Counter c) = refl
region-again (kinds.List l) = refl
region-again (kinds.Hash h) = refl
region-again (kinds.Tree t) = refl
region-again (kinds.Queue q) = refl
region-again (kinds.SumMap r) = refl

most-size : (s : Structure) → most_size s ≤ 4096
most-size structures.Counter = omega arith
most-size structures.List = omega arith
most-size structures.Hash = omega arith
most-size structures.Tree = omega arith
most-size structures.Queue = omega arith
most-size structures.SumMap = omega arith

placed-is : (d : Writing) (r : Region) → end_of d.header.regions ≤ start_of r → EndsWithin d.header.words r → placed d r ≡ Ok (Head (next_region d.count (length d.header.regions + 1)) (fields.Region r))
placed-is d r above within =
    let last : Bool = leb (start_of r + size_of r) d.header.words in
    let p : leb (end_of d.header.regions) (start_of r) ≡ true = grind (arith, nat_tests) in
    let q : last ≡ true = grind (arith, nat_tests) in
    ap (λ b. if b then Ok (Head (next_region d.count (length d.header.regions + 1)) (fields.Region r)) else Err REGION) (ap (λ x. x && last) p ∙ q)

region_of-words : (d : Writing) (r : Region) → d.header.words ≤ MAX_WORDS → IsSized r → end_of d.header.regions ≤ start_of r → EndsWithin d.header.words r
    → region_of d (kind_name (structure_of r)) (decimal (start_of r)) (decimal (cells_of r)) ≡ Ok (Head (next_region d.count (length d.header.regions + 1)) (fields.Region r))
region_of-words d r small sized above within =
    let s : Structure = structure_of r in
    let at : ℕ = start_of r in
    let n : ℕ = cells_of r in
    let few = most-size s in
    let size = sized.1 in
    let x : at < 2 ^ 64 = omega arith in
    let y : n < 2 ^ 64 = omega arith in
    ap (λ z. z >>= λ kind. formed (number_of (decimal at)) >>= λ i. formed (number_of (decimal n)) >>= λ j. ranged 1 (most_size kind) j >>= λ t. placed d (region_for kind i t)) (kind_of-name s)
    ∙ (ap (λ z. z >>= λ i. formed (number_of (decimal n)) >>= λ j. ranged 1 (most_size s) j >>= λ t. placed d (region_for s i t)) (formed-decimal at x)
    ∙ (ap (λ z. z >>= λ j. ranged 1 (most_size s) j >>= λ t. placed d (region_for s at t)) (formed-decimal n y)
    ∙ (ap (λ z. z >>= λ t. placed d (region_for s at t)) (ranged-within 1 (most_size s) n sized.0 size)
    ∙ (ap (placed d) (region-again r) ∙ placed-is d r above within))))

region-read : (m : Mode) (h : Header) (n : ℕ) (before : List Region) (k : ℕ) (r : Region) (rest : List ℕ) → h.words ≤ MAX_WORDS → IsSized r → end_of before ≤ start_of r → EndsWithin h.words r
    → parsed m (in_header RegionLine n (laying h before)) k (lines_of (line (region_words r) ++ rest)) ≡ parsed m (in_header (next_region n (length before + 1)) n (laying h (before ++ r ∷ []))) (k + 1) (lines_of rest)
region-read m h n before k r rest small sized above within =
    let d : Writing = in_header RegionLine n (laying h before) in
    let s : Structure = structure_of r in
    let few = most-size s in
    let size = sized.1 in
    let q : NextLine = next_region n (length before + 1) in
    let x : start_of r < 2 ^ 64 = omega arith in
    let y : cells_of r < 2 ^ 64 = omega arith in
    let four : Result Step ℕ = four_words RegionLine d (codes "region") (kind_name s) (decimal (start_of r)) (decimal (cells_of r)) in
    step-read m d k (codes "region") (kind_name s ∷ decimal (start_of r) ∷ decimal (cells_of r) ∷ []) rest (Head q (fields.Region r))
    (seen (codes "region") refl, (visible-kind s, (visible-decimal (start_of r) x, (visible-decimal (cells_of r) y, tt))))
    (filled-kind s (filled (decimal (start_of r)) (filled (decimal (cells_of r)) four))
    ∙ (filled-decimal (start_of r) (filled (decimal (cells_of r)) four) x
    ∙ (filled-decimal (cells_of r) four y ∙ region_of-words d r small sized above within)))
    (not-done q (fields.Region r))

end_of-snoc : (before : List Region) (r : Region) → end_of (before ++ r ∷ []) ≡ start_of r + size_of r
end_of-snoc [] r = refl
end_of-snoc (x ∷ []) r = refl
end_of-snoc (x ∷ y ∷ xs) r = end_of-snoc (y ∷ xs) r

-- the lines of regions
regions-read : (m : Mode) (h : Header) (n : ℕ) (before : List Region) (k : ℕ) (rs : List Region) (more : List (List (List ℕ)))
    → h.words ≤ MAX_WORDS → n ≡ length before + length rs → All IsSized rs → Follow (end_of before) rs → All (EndsWithin h.words) rs
    → (j : ℕ)
    × (parsed m (in_header (next_region n (length before)) n (laying h before)) k (lines_of (lines_text (map region_words rs ++ more)))
    ≡ parsed m (in_header PolicyLine n (laying h (before ++ rs))) j (lines_of (lines_text more)))
regions-read m h n before k [] more small count sized follow within =
    let all : leb n (length before) ≡ true = grind (arith, nat_tests) in (
      k,
      ap (λ b. parsed m (in_header (if b then PolicyLine else RegionLine) n (laying h before)) k (lines_of (lines_text more))) all
          ∙ ap (λ x. parsed m (in_header PolicyLine n (laying h x)) k (lines_of (lines_text more))) (sym (append-nil before)),
    )
regions-read m h n before k (r ∷ rs) more small count sized follow within =
    let some : leb n (length before) ≡ false = grind (arith, nat_tests) in
    let rest : List ℕ = lines_text (map region_words rs ++ more) in
    let long : length (before ++ r ∷ []) ≡ length before + 1 = length-append before (r ∷ []) in
    let next = regions-read m h n (before ++ r ∷ []) (k + 1) rs more small (omega arith) (All-tail IsSized r rs sized)
    (subst (λ e. Follow e rs) (sym (end_of-snoc before r)) follow.1) (All-tail (EndsWithin h.words) r rs within) in (
      next.0,
      ap (λ b. parsed m (in_header (if b then PolicyLine else RegionLine) n (laying h before)) k (lines_of (line (region_words r) ++ rest))) some
          ∙ (region-read m h n before k r rest small (All-head IsSized r rs sized) follow.0 (All-head (EndsWithin h.words) r rs within)
          ∙ (ap (λ i. parsed m (in_header (next_region n i) n (laying h (before ++ r ∷ []))) (k + 1) (lines_of rest)) (sym long)
          ∙ (next.1 ∙ ap (λ x. parsed m (in_header PolicyLine n (laying h x)) next.0 (lines_of (lines_text more))) (append_assoc before (r ∷ []) rs)))),
    )

visible-before : (bs rest : List ℕ) → Visible bs → Visible rest → Visible (bs ++ rest)
visible-before [] rest h g = g
visible-before (b ∷ bs) rest h g = (h.0, h.1, visible-before bs rest h.2 g)

visible-policy : (p : Policy) → HasWord p → Visible (policy_word p)
visible-policy policies.Fixed h = seen (codes "fixed") refl
visible-policy (policies.Round n) h = let most = h.1 in visible-before (codes "round:") (decimal n) (seen (codes "round:") refl) (visible-decimal n (omega arith))
visible-policy policies.Expert h = seen (codes "expert") refl
visible-policy (policies.State n) h = let most = h.1 in visible-before (codes "state:") (decimal n) (seen (codes "state:") refl) (visible-decimal n (omega arith))

filled-policy : (p : Policy) (rest : Result Step ℕ) → filled (policy_word p) rest ≡ rest
filled-policy policies.Fixed rest = refl
filled-policy (policies.Round n) rest = refl
filled-policy policies.Expert rest = refl
filled-policy (policies.State n) rest = refl

policy_of-word : (p : Policy) → HasWord p → policy_of (policy_word p) ≡ Ok p
policy_of-word policies.Fixed h = refl
policy_of-word (policies.Round n) h = let most = h.1 in ap (λ r. r >>= λ k. Ok (policies.Round k)) (number-decimal 1 MOST_ROUND n h.0 h.1 (omega arith))
policy_of-word policies.Expert h = refl
policy_of-word (policies.State n) h = let most = h.1 in ap (λ r. r >>= λ k. Ok (policies.State k)) (number-decimal 1 MOST_STATE n h.0 h.1 (omega arith))

policy-read : (m : Mode) (h : Header) (n k : ℕ) (p : Policy) (rest : List ℕ) → HasWord p
    → parsed m (in_header PolicyLine n h) k (lines_of (line (codes "policy" ∷ policy_word p ∷ []) ++ rest)) ≡ parsed m (in_header Items n (record h { policy = p })) (k + 1) (lines_of rest)
policy-read m h n k p rest word =
    step-read m (in_header PolicyLine n h) k (codes "policy") (policy_word p ∷ []) rest (Head Items (fields.Policy p)) (seen (codes "policy") refl, (visible-policy p word, tt))
    (filled-policy p (two_words PolicyLine m (in_header PolicyLine n h) (codes "policy") (policy_word p))
    ∙ ap (λ r. r >>= (λ x. Ok (fields.Policy x)) >>= λ x. Ok (Head Items x)) (policy_of-word p word))
    (not-done Items (fields.Policy p))

-- the nine lines before the layout
nine-read : (m : Mode) (h : Header) (rest : List (List (List ℕ))) → HeaderFits h
    → parsed m opening 1 (lines_of (lines_text (header_lines h ++ rest))) ≡ parsed m (in_header (after_algorithm h.version) 0 (laying h [])) 10 (lines_of (lines_text (layout_lines h.version h ++ rest)))
nine-read m h rest f =
    let h0 : Header = opening.header in
    let h1 : Header = record h0 { version = h.version } in
    let h2 : Header = record h1 { words = h.words } in
    let h3 : Header = record h2 { callers = h.callers } in
    let h4 : Header = record h3 { records = h.records } in
    let h5 : Header = record h4 { ring = h.ring } in
    let h6 : Header = record h5 { reads = h.reads } in
    let h7 : Header = record h6 { writes = h.writes } in
    let h8 : Header = record h7 { clock = h.clock } in
    let t9 : List ℕ = lines_text (layout_lines h.version h ++ rest) in
    let t8 : List ℕ = line (codes "alg" ∷ alg_name h.alg ∷ []) ++ t9 in
    let t7 : List ℕ = line (codes "clock" ∷ decimal h.clock ∷ []) ++ t8 in
    let t6 : List ℕ = line (codes "writes" ∷ decimal h.writes ∷ []) ++ t7 in
    let t5 : List ℕ = line (codes "reads" ∷ decimal h.reads ∷ []) ++ t6 in
    let t4 : List ℕ = line (codes "ring" ∷ decimal h.ring ∷ []) ++ t5 in
    let t3 : List ℕ = line (codes "records" ∷ decimal h.records ∷ []) ++ t4 in
    let t2 : List ℕ = line (codes "callers" ∷ decimal h.callers ∷ []) ++ t3 in
    let t1 : List ℕ = line (codes "words" ∷ decimal h.words ∷ []) ++ t2 in
    version-read m h0 1 h.version t1
    ∙ (words-read m h1 2 h.words t2 f.config.words.0 f.words
    ∙ (callers-read m h2 3 h.callers t3 f.config.callers.0 f.config.callers.1
    ∙ (records-read m h3 4 h.records t4 f.config.records.0 f.config.records.1
    ∙ (ring-read m h4 5 h.ring t5 f.config.ring.0 f.config.ring.1
    ∙ (reads-read m h5 6 h.reads t6 f.config.reads.0 f.config.reads.1
    ∙ (writes-read m h6 7 h.writes t7 f.config.writes.0 f.config.writes.1
    ∙ (clock-read m h7 8 h.clock t8 (omega arith) f.config.clock
    ∙ alg-read m h8 9 h.alg t9)))))))

where-one : (h : Header) → RegionsOne h → regions_where (not (no_region h.regions)) ≡ h.regions
where-one h (inl none) = subst (λ rs. regions_where (not (no_region rs)) ≡ rs) (sym none) refl
where-one h (inr four) = subst (λ rs. regions_where (not (no_region rs)) ≡ rs) (sym four.0) refl

room-one : (h : Header) → RegionsOne h → not (no_region h.regions) ≡ true → STRUCTS_END ≤ h.words
room-one h (inl none) on = let off : not (no_region h.regions) ≡ false = ap (λ rs. not (no_region rs)) none in absurd cc
room-one h (inr four) on = four.1

-- the layout of each version
layout-read : (m : Mode) (h : Header) (more : List (List (List ℕ))) → HeaderFits h → (v : Version) → h.version ≡ v → LayoutFits v h
    → (j : ℕ) × (parsed m (in_header (after_algorithm v) 0 (laying h [])) 10 (lines_of (lines_text (layout_lines v h ++ more))) ≡ parsed m (between h [] 0) j (lines_of (lines_text more)))
layout-read m h more f One one l =
    let on : Bool = not (no_region h.regions) in
    let rest : List ℕ = lines_text more in (
      11,
      structs-read m (laying h []) 10 on rest (room-one h l.0)
          ∙ (ap (λ rs. parsed m (in_header Items 0 (laying h rs)) 11 (lines_of rest)) (where-one h l.0)
          ∙ (ap (λ p. parsed m (in_header Items 0 (record h { policy = p })) 11 (lines_of rest)) (sym l.1)
          ∙ ap (λ v. parsed m (in_header Items (counted v h.regions) h) 11 (lines_of rest)) (sym one))),
    )
layout-read m h more f Two two l =
    let n : ℕ = length h.regions in
    let last : List (List (List ℕ)) = (codes "policy" ∷ policy_word h.policy ∷ []) ∷ [] in
    let lines : List (List (List ℕ)) = map region_words h.regions in
    let body = regions-read m h n [] 11 h.regions (last ++ more) f.config.words.1 (omega arith) l.0.sized l.0.follow l.0.within in (
      body.0 + 1,
      count-line m (laying h []) 10 n (lines_text ((lines ++ last) ++ more)) l.0.count
          ∙ (ap (λ t. parsed m (in_header (next_region n 0) n (laying h [])) 11 (lines_of (lines_text t))) (append_assoc lines last more)
          ∙ (body.1
          ∙ (policy-read m (laying h h.regions) n body.0 h.policy (lines_text more) l.1
          ∙ ap (λ v. parsed m (in_header Items (counted v h.regions) h) (body.0 + 1) (lines_of (lines_text more))) (sym two)))),
    )

-- the lines of a header
pub head-read : (m : Mode) (h : Header) (more : List (List (List ℕ))) → HeaderFits h
    → (j : ℕ) × (parsed m opening 1 (lines_of (lines_text (header_lines h ++ more))) ≡ parsed m (between h [] 0) j (lines_of (lines_text more)))
head-read m h more f =
    let last = layout-read m h more f h.version refl f.layout in (last.0, nine-read m h more f ∙ last.1)
