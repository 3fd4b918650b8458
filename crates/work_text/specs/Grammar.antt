-- The workload text: what may stand on a line, and the first fault.
use Rattle.std.specs.Prelude.{MatchResult, ℕ, ◌≡◌, ◌+◌, Bool, true, false, ◌&&◌, not, List, [], ◌∷◌, length, leb, ltb, if◌then◌else◌, take, drop, Option, Some, None, Result, Ok, Err, codes, bytes_eq}
use Rattle.stm_model.specs.declared.alg.Alg.{Alg}
use Rattle.stm_model.specs.declared.alg.TheConstants.{ALGORITHMS}
use Rattle.stm_model.specs.declared.config.TheConstants.{MAX_WORDS, MAX_RECORDS, MIN_RING, MAX_RING, MAX_CALLERS, MAX_LOG, CLOCK_LIMIT}
use Rattle.stm_model.specs.Algorithms.{alg_name}
use Rattle.work_script.specs.declared.op.Op.{Op}
use Rattle.work_script.specs.declared.op.Op.TheVariants.{Read, Write, Add as Sum, Move, Emit, Irrev, Cancel, Count as CountOn, MapPut, MapSum}
use Rattle.work_script.specs.declared.op.TheConstants.{COUNTER, KEYED, KEYLESS, PLACED_KEYED, PLACED_KEYLESS}
use Rattle.work_script.specs.Operations.{op_name, structure_in, with_key, with_region}
use Rattle.work_script.specs.Structures.{region_at}
use Rattle.work_script.specs.declared.workload.Header.{Header}
use Rattle.work_script.specs.declared.workload.Go.{Go}
use Rattle.work_script.specs.declared.workload.Workload.{Workload}
use Rattle.work_script.specs.declared.workload.TheConstants.{MAX_ITEMS, MAX_OPS, MAX_TURNS, MAX_KEY, MAX_WORDS_ONE, MAX_REGIONS, MAX_STRIPES, MAX_CELLS, STRUCTS_BEGIN, STRUCTS_END, STRIPES}
use Rattle.work_script.specs.declared.workload.Version.{Version}
use Rattle.work_script.specs.declared.workload.Version.TheVariants.{One, Two}
use Rattle.work_profile.specs.declared.policy.Policy.{Policy}
use Rattle.work_profile.specs.declared.policy.Policy.TheVariants as policies
use Rattle.work_profile.specs.declared.policy.TheConstants.{MOST_ROUND, MOST_STATE}
use Rattle.data_regions.specs.declared.region.Region.{Region}
use Rattle.data_regions.specs.declared.region.Region.TheVariants as kinds
use Rattle.data_regions.specs.declared.region.Structure.{Structure}
use Rattle.data_regions.specs.declared.region.Structure.TheVariants as structures
use Rattle.data_regions.specs.Regions.{start_of, size_of, is_outside, is_structure, structure_of, region_for}
use Rattle.work_text.specs.declared.table.TheConstants.{KINDS}
use Rattle.work_text.specs.declared.draft.Field.{Field}
use Rattle.work_text.specs.declared.draft.Field.TheVariants as fields
use Rattle.work_script.specs.Scripts.{has_irrev}
use Rattle.work_text.specs.declared.code.TheConstants.{LONG, BYTES, UNENDED, WORD, NUMBER, RANGE, ALG, REGION, ORDER, MANY, EXTRA}
use Rattle.work_text.specs.declared.draft.NextLine.{NextLine}
use Rattle.work_text.specs.declared.draft.NextLine.TheVariants.{Version as VersionLine, Words, Callers, Records, Ring, Reads, Writes, Clock, Algorithm, Structures, Regions, Region as RegionLine, Policy as PolicyLine, Items, Ops, Turns}
use Rattle.work_text.specs.declared.draft.Step.{Step}
use Rattle.work_text.specs.declared.draft.Step.TheVariants.{Head, Count, Begin, Change, Lengthen, Add, End, Schedule, Turn, Done}
use Rattle.work_text.specs.declared.parse.Mode.{Mode}
use Rattle.work_text.specs.declared.parse.Mode.TheVariants.{Run, Step as Stepwise}
use Rattle.work_text.specs.declared.parse.TheConstants.{MAX_TEXT}
use Rattle.work_text.specs.declared.parse.ParseError.{ParseError}
use Rattle.work_text.specs.declared.parse.ParseError.TheVariants.{Fault, Memory}
use Rattle.work_text.specs.Lines.{Line, lines_of, words_of, any_bad, number_of}
use Rattle.work_text.specs.Drafts.{Writing, after, opening}

-- A table's answer is Ok, or Err of the lowest code.

-- what an answer leads to, where it is Ok
infixl 10 ◌>>=◌
abbrev pub ◌>>=◌ : {A B : Type 0} → Result A ℕ → (A → Result B ℕ) → Result B ℕ
Ok x >>= next = next x
Err code >>= next = Err code

-- what follows a word where it is the one named
abbrev pub named : {A : Type 0} → List ℕ → List ℕ → Result A ℕ → Result A ℕ
named name word rest = if bytes_eq word name then rest else Err WORD

-- a number of the form
abbrev pub formed : Option ℕ → Result ℕ ℕ
formed None = Err NUMBER
formed (Some n) = Ok n

-- a number from low to high
abbrev pub ranged : ℕ → ℕ → ℕ → Result ℕ ℕ
ranged low high n = if leb low n && leb n high then Ok n else Err RANGE

-- a number below an end
abbrev pub below : ℕ → ℕ → Result ℕ ℕ
below end n = if ltb n end then Ok n else Err RANGE

-- a word that is a number from low to high
abbrev pub number : ℕ → ℕ → List ℕ → Result ℕ ℕ
number low high word = formed (number_of word) >>= ranged low high

-- of these algorithms the first that has this name
abbrev pub algorithm_of : List Alg → List ℕ → Result Alg ℕ
algorithm_of [] word = Err ALG
algorithm_of (alg ∷ algs) word = if bytes_eq word (alg_name alg) then Ok alg else algorithm_of algs word

abbrev pub algorithm : List ℕ → Result Alg ℕ
algorithm word = algorithm_of ALGORITHMS word

-- a line that gives a number its name and its range
abbrev pub sized : List ℕ → ℕ → ℕ → List ℕ → List ℕ → Result ℕ ℕ
sized name low high w v = named name w (number low high v)

-- whether structures are on, with so many words
abbrev pub switched : ℕ → List ℕ → Result Bool ℕ
switched words v = if bytes_eq v (codes "off") then Ok false else named (codes "on") v (if leb STRUCTS_END words then Ok true else Err REGION)

-- the version of a word
abbrev pub version_of : List ℕ → Result Version ℕ
version_of v = if bytes_eq v (codes "1") then Ok One else named (codes "2") v (Ok Two)

-- the greatest number of words of a version
abbrev pub most_words : Version → ℕ
most_words One = MAX_WORDS_ONE
most_words Two = MAX_WORDS

-- the policy of a name with its colon, and of the number after it
abbrev pub numbered_policy : List ℕ → List ℕ → Result Policy ℕ
numbered_policy name n =
    if bytes_eq name (codes "round:") then number 1 MOST_ROUND n >>= (λ k. Ok (policies.Round k))
    else named (codes "state:") name (number 1 MOST_STATE n >>= (λ k. Ok (policies.State k)))

-- the policy of a word: both names that have a number are six bytes long, with their colon
abbrev pub policy_of : List ℕ → Result Policy ℕ
policy_of v =
    if bytes_eq v (codes "fixed") then Ok policies.Fixed
    else (if bytes_eq v (codes "expert") then Ok policies.Expert else numbered_policy (take 6 v) (drop 6 v))

-- THE HEADER, line by line: what a name and a value give
abbrev pub header_line : NextLine → Header → List ℕ → List ℕ → Result Field ℕ
header_line VersionLine h w v = named (codes "stm") w (version_of v) >>= λ k. Ok (fields.Version k)
header_line Words h w v = sized (codes "words") 1 (most_words h.version) w v >>= λ n. Ok (fields.Words n)
header_line Callers h w v = sized (codes "callers") 1 MAX_CALLERS w v >>= λ n. Ok (fields.Callers n)
header_line Records h w v = sized (codes "records") 1 MAX_RECORDS w v >>= λ n. Ok (fields.Records n)
header_line Ring h w v = sized (codes "ring") MIN_RING MAX_RING w v >>= λ n. Ok (fields.Ring n)
header_line Reads h w v = sized (codes "reads") 1 MAX_LOG w v >>= λ n. Ok (fields.Reads n)
header_line Writes h w v = sized (codes "writes") 1 MAX_LOG w v >>= λ n. Ok (fields.Writes n)
header_line Clock h w v = sized (codes "clock") 0 CLOCK_LIMIT w v >>= λ n. Ok (fields.Clock n)
header_line Algorithm h w v = named (codes "alg") w (algorithm v) >>= λ a. Ok (fields.Algorithm a)
header_line Structures h w v = named (codes "structs") w (switched h.words v) >>= λ on. Ok (fields.Structures on)
header_line PolicyLine h w v = named (codes "policy") w (policy_of v) >>= λ p. Ok (fields.Policy p)
header_line p h w v = Err WORD

-- the line that follows that of the algorithm
abbrev pub after_algorithm : Version → NextLine
after_algorithm One = Structures
after_algorithm Two = Regions

-- the line that follows one of the header
abbrev pub next_line : Version → NextLine → NextLine
next_line v VersionLine = Words
next_line v Words = Callers
next_line v Callers = Records
next_line v Records = Ring
next_line v Ring = Reads
next_line v Reads = Writes
next_line v Writes = Clock
next_line v Clock = Algorithm
next_line v Algorithm = after_algorithm v
next_line v p = Items

-- the line that comes where n regions of count are there
abbrev pub next_region : ℕ → ℕ → NextLine
next_region count n = if leb count n then PolicyLine else RegionLine

-- the word of a structure
abbrev pub kind_name : Structure → List ℕ
kind_name structures.Counter = codes "counter"
kind_name structures.List = codes "list"
kind_name structures.Hash = codes "hash"
kind_name structures.Tree = codes "tree"
kind_name structures.Queue = codes "queue"
kind_name structures.SumMap = codes "summap"

-- of these structures the first one of this word
abbrev pub kind_of : List Structure → List ℕ → Result Structure ℕ
kind_of [] word = Err WORD
kind_of (kind ∷ kinds) word = if bytes_eq word (kind_name kind) then Ok kind else kind_of kinds word

-- the greatest number of its stripes or cells
abbrev pub most_size : Structure → ℕ
most_size structures.Counter = MAX_STRIPES
most_size structures.List = MAX_CELLS
most_size structures.Hash = MAX_CELLS
most_size structures.Tree = MAX_CELLS
most_size structures.Queue = MAX_CELLS
most_size structures.SumMap = MAX_CELLS

-- where the last of these regions ends
abbrev pub end_of : List Region → ℕ
end_of [] = 0
end_of (r ∷ []) = start_of r + size_of r
end_of (r ∷ s ∷ rs) = end_of (s ∷ rs)

-- the region begins where the one above it ends, or later, and ends within so many words
abbrev pub is_placed : List Region → ℕ → Region → Bool
is_placed regions words r = leb (end_of regions) (start_of r) && leb (start_of r + size_of r) words

-- a region in its place
abbrev pub placed : Writing → Region → Result Step ℕ
placed d r = if is_placed d.header.regions d.header.words r then Ok (Head (next_region d.count (length d.header.regions + 1)) (fields.Region r)) else Err REGION

-- A REGION: both numbers of the form before the size is in range, and that before it has its place
abbrev pub region_of : Writing → List ℕ → List ℕ → List ℕ → Result Step ℕ
region_of d k a v =
    kind_of KINDS k >>= λ kind. formed (number_of a) >>= λ at. formed (number_of v) >>= λ n.
    ranged 1 (most_size kind) n >>= λ size. placed d (region_for kind at size)

-- one more item
abbrev pub one_item : Writing → Step → Result Step ℕ
one_item d step = if ltb (length d.items) MAX_ITEMS then Ok step else Err MANY

abbrev pub begun : Writing → ℕ → Result Step ℕ
begun d caller = one_item d (Begin caller)

abbrev pub changed : Writing → ℕ → Alg → Result Step ℕ
changed d caller alg = one_item d (Change caller alg)

-- longer logs of a caller
abbrev pub lengthened : Writing → ℕ → ℕ → ℕ → Result Step ℕ
lengthened d caller reads writes = one_item d (Lengthen caller reads writes)

-- one more operation
abbrev pub added : Writing → Op → Result Step ℕ
added d op = if ltb (length d.ops) MAX_OPS then Ok (Add op) else Err MANY

-- one more emit: an irrev of its transaction stands before it
abbrev pub emitted : Writing → ℕ → Result Step ℕ
emitted d a = if has_irrev d.ops then added d (Emit a) else Err ORDER

-- the region of this number is one of this structure
abbrev pub has_region : List Region → Option (Structure × ℕ) → Bool
has_region regions None = true
has_region regions (Some s) = ltb s.1 (length regions) && is_structure s.0 (structure_of (region_at regions s.1))

-- the region that the operation works on is one of its structure
abbrev pub has_structure : List Region → Op → Bool
has_structure regions op = has_region regions (structure_in op)

-- one more operation on a structure, where its region is there
abbrev pub structured : Writing → Op → Result Step ℕ
structured d op = if has_structure d.header.regions op then added d op else Err REGION

-- so many turns more
abbrev pub planned : Writing → Go → Result Step ℕ
planned d go = if leb (d.turns + go.turns) MAX_TURNS then Ok (Turn go (d.turns + go.turns)) else Err MANY

-- a schedule is for step alone
abbrev pub scheduled : Mode → Result Step ℕ
scheduled Run = Err WORD
scheduled Stepwise = Ok Schedule

-- a caller
abbrev pub caller_of : Writing → List ℕ → Result ℕ ℕ
caller_of d v = formed (number_of v) >>= below d.header.callers

-- the address is in none of these regions
abbrev pub is_plain : List Region → ℕ → Bool
is_plain [] a = true
is_plain (r ∷ rs) a = is_outside a r && is_plain rs a

abbrev pub no_region : List Region → Bool
no_region [] = true
no_region (r ∷ rs) = false

-- a plain address: in version 1 with structures on one that isn't theirs, in version 2 one of no region
abbrev pub plain_in : Version → List Region → ℕ → Result ℕ ℕ
plain_in One regions a = if not (no_region regions) && leb STRUCTS_BEGIN a && ltb a STRUCTS_END then Err REGION else Ok a
plain_in Two regions a = if is_plain regions a then Ok a else Err REGION

abbrev pub plain : Header → ℕ → Result ℕ ℕ
plain h a = plain_in h.version h.regions a

-- an address
abbrev pub address : Writing → List ℕ → Result ℕ ℕ
address d a = formed (number_of a) >>= below d.header.words >>= plain d.header

-- an address and a value, both of the form before the address is in range
abbrev pub operands : Writing → List ℕ → List ℕ → Result (ℕ × ℕ) ℕ
operands d a v = formed (number_of a) >>= λ i. formed (number_of v) >>= λ n. below d.header.words i >>= λ j. plain d.header j >>= λ k. Ok (k, n)

-- two addresses and a value: all of the form before an address is in range, and both in range before one is plain
abbrev pub move_of : Writing → List ℕ → List ℕ → List ℕ → Result Op ℕ
move_of d a b v =
    formed (number_of a) >>= λ i. formed (number_of b) >>= λ j. formed (number_of v) >>= λ n.
    below d.header.words i >>= λ x. below d.header.words j >>= λ y. plain d.header x >>= λ s. plain d.header y >>= λ t. Ok (Move s t n)

-- a stripe and an amount, both of the form before the stripe is in range
abbrev pub count_of : List ℕ → List ℕ → Result Op ℕ
count_of a v = formed (number_of a) >>= λ i. formed (number_of v) >>= λ n. below STRIPES i >>= λ s. Ok (CountOn COUNTER s n)

-- of these operations the first one of this name
abbrev pub op_of : List Op → List ℕ → Result Op ℕ
op_of [] word = Err WORD
op_of (op ∷ ops) word = if bytes_eq word (op_name op) then Ok op else op_of ops word

-- an operation on a key
abbrev pub keyed : List ℕ → List ℕ → Result Op ℕ
keyed w v = op_of KEYED w >>= λ op. number 0 MAX_KEY v >>= λ key. Ok (with_key key op)

-- a region's number
abbrev pub region_number : Writing → ℕ → Result ℕ ℕ
region_number d n = below (length d.header.regions) n

-- an operation on a structure that takes nothing, by its word alone: in version 1
abbrev pub keyless : Version → Writing → List ℕ → Result Step ℕ
keyless One d w = op_of KEYLESS w >>= structured d
keyless Two d w = Err WORD

-- an operation that takes a region alone
abbrev pub placed_keyless : Writing → List ℕ → List ℕ → Result Step ℕ
placed_keyless d w v = op_of PLACED_KEYLESS w >>= λ op. formed (number_of v) >>= region_number d >>= λ r. structured d (with_region r op)

-- an operation that takes a region and a key, both of the form before either is in range
abbrev pub placed_keyed : Writing → List ℕ → List ℕ → List ℕ → Result Step ℕ
placed_keyed d w a v =
    op_of PLACED_KEYED w >>= λ op. formed (number_of a) >>= λ i. formed (number_of v) >>= λ n.
    region_number d i >>= λ r. ranged 0 MAX_KEY n >>= λ key. structured d (with_key key (with_region r op))

-- a stripe of a region, which is to be a counter
abbrev pub stripe_in : Region → ℕ → Result ℕ ℕ
stripe_in (kinds.Counter c) n = below c.stripes n
stripe_in (kinds.List l) n = Err REGION
stripe_in (kinds.Hash h) n = Err REGION
stripe_in (kinds.Tree t) n = Err REGION
stripe_in (kinds.Queue q) n = Err REGION
stripe_in (kinds.SumMap r) n = Err REGION

abbrev pub stripe_of : List Region → ℕ → ℕ → Result ℕ ℕ
stripe_of regions r n = if ltb r (length regions) then stripe_in (region_at regions r) n else Err REGION

-- a region, a stripe and an amount; a region, a key and a value; a region and two keys:
-- all of the form before any is in range
abbrev pub placed_count : Writing → List ℕ → List ℕ → List ℕ → Result Step ℕ
placed_count d a b v =
    formed (number_of a) >>= λ i. formed (number_of b) >>= λ j. formed (number_of v) >>= λ n.
    region_number d i >>= λ r. stripe_of d.header.regions r j >>= λ s. structured d (CountOn r s n)

abbrev pub map_put_of : Writing → List ℕ → List ℕ → List ℕ → Result Step ℕ
map_put_of d a b v =
    formed (number_of a) >>= λ i. formed (number_of b) >>= λ j. formed (number_of v) >>= λ n.
    region_number d i >>= λ r. ranged 0 MAX_KEY j >>= λ key. structured d (MapPut r key n)

abbrev pub map_sum_of : Writing → List ℕ → List ℕ → List ℕ → Result Step ℕ
map_sum_of d a b v =
    formed (number_of a) >>= λ i. formed (number_of b) >>= λ j. formed (number_of v) >>= λ n.
    region_number d i >>= λ r. ranged 0 MAX_KEY j >>= λ low. ranged 0 MAX_KEY n >>= λ high. structured d (MapSum r low high)

-- a caller and the lengths of its logs, all of the form before any is in range
abbrev pub reserve_of : Writing → List ℕ → List ℕ → List ℕ → Result Step ℕ
reserve_of d a b v =
    formed (number_of a) >>= λ i. formed (number_of b) >>= λ j. formed (number_of v) >>= λ n.
    below d.header.callers i >>= λ c. ranged 1 MAX_LOG j >>= λ reads. ranged 1 MAX_LOG n >>= λ writes. lengthened d c reads writes

-- a caller and its turns, both of the form before either is in range
abbrev pub go_of : Writing → List ℕ → List ℕ → Result Go ℕ
go_of d a v =
    formed (number_of a) >>= λ i. formed (number_of v) >>= λ n.
    below d.header.callers i >>= λ c. ranged 1 MAX_TURNS n >>= λ t. Ok (record { caller = c; turns = t })

-- LINES OF ONE WORD
abbrev pub one_word : NextLine → Mode → Writing → List ℕ → Result Step ℕ
one_word Items m d w = if bytes_eq w (codes "done") then Ok Done else named (codes "schedule") w (scheduled m)
one_word Ops m d w =
    if bytes_eq w (codes "irrev") then added d Irrev
    else (if bytes_eq w (codes "cancel") then added d Cancel
    else (if bytes_eq w (codes "end") then Ok End else keyless d.header.version d w))
one_word Turns m d w = named (codes "done") w (Ok Done)
one_word p m d w = Err WORD

-- an operation on a structure by two words
abbrev pub pair_op : Version → Writing → List ℕ → List ℕ → Result Step ℕ
pair_op One d w v = keyed w v >>= structured d
pair_op Two d w v = placed_keyless d w v

-- by three words
abbrev pub triple_op : Version → Writing → List ℕ → List ℕ → List ℕ → Result Step ℕ
triple_op One d w a v = named (codes "count") w (count_of a v >>= structured d)
triple_op Two d w a v = placed_keyed d w a v

-- by four words
abbrev pub four_words_two : Writing → List ℕ → List ℕ → List ℕ → List ℕ → Result Step ℕ
four_words_two d w a b v =
    if bytes_eq w (codes "count") then placed_count d a b v
    else (if bytes_eq w (codes "mput") then map_put_of d a b v else named (codes "msum") w (map_sum_of d a b v))

abbrev pub quadruple_op : Version → Writing → List ℕ → List ℕ → List ℕ → List ℕ → Result Step ℕ
quadruple_op One d w a b v = Err WORD
quadruple_op Two d w a b v = four_words_two d w a b v

-- an item of four words
abbrev pub quadruple_item : Version → Writing → List ℕ → List ℕ → List ℕ → List ℕ → Result Step ℕ
quadruple_item One d w a b v = Err WORD
quadruple_item Two d w a b v = named (codes "reserve") w (reserve_of d a b v)

-- LINES OF TWO WORDS
abbrev pub two_words : NextLine → Mode → Writing → List ℕ → List ℕ → Result Step ℕ
two_words Items m d w v = named (codes "tx") w (caller_of d v >>= begun d)
two_words Ops m d w v =
    if bytes_eq w (codes "read") then address d v >>= (λ a. added d (Read a))
    else (if bytes_eq w (codes "emit") then address d v >>= emitted d else pair_op d.header.version d w v)
two_words Turns m d w v = Err WORD
two_words Regions m d w v = sized (codes "regions") 0 MAX_REGIONS w v >>= λ n. Ok (Count (next_region n 0) n)
two_words p m d w v = header_line p d.header w v >>= λ field. Ok (Head (next_line d.header.version p) field)

-- LINES OF THREE WORDS
abbrev pub three_words : NextLine → Writing → List ℕ → List ℕ → List ℕ → Result Step ℕ
three_words Ops d w a v =
    if bytes_eq w (codes "write") then operands d a v >>= (λ p. added d (Write p.0 p.1))
    else (if bytes_eq w (codes "add") then operands d a v >>= (λ p. added d (Sum p.0 p.1))
    else triple_op d.header.version d w a v)
three_words Items d w a v = named (codes "switch") w (caller_of d a >>= λ c. algorithm v >>= λ alg. changed d c alg)
three_words Turns d w a v = named (codes "go") w (go_of d a v >>= planned d)
three_words p d w a v = Err WORD

-- LINES OF FOUR WORDS
abbrev pub four_words : NextLine → Writing → List ℕ → List ℕ → List ℕ → List ℕ → Result Step ℕ
four_words Ops d w a b v = if bytes_eq w (codes "move") then move_of d a b v >>= added d else quadruple_op d.header.version d w a b v
four_words Items d w a b v = quadruple_item d.header.version d w a b v
four_words RegionLine d w a b v = named (codes "region") w (region_of d a b v)
four_words p d w a b v = Err WORD

-- what a line leads to where this word of it isn't empty: a space too many makes an empty word
abbrev pub filled : List ℕ → Result Step ℕ → Result Step ℕ
filled [] rest = Err WORD
filled (b ∷ bs) rest = rest

-- a line by its words
abbrev pub by_words : Mode → Writing → List (List ℕ) → Result Step ℕ
by_words m d (w ∷ []) = one_word d.place m d w
by_words m d (w ∷ v ∷ []) = filled v (two_words d.place m d w v)
by_words m d (w ∷ a ∷ v ∷ []) = filled a (filled v (three_words d.place d w a v))
by_words m d (w ∷ a ∷ b ∷ v ∷ []) = filled a (filled b (filled v (four_words d.place d w a b v)))
by_words m d ws = Err WORD

-- THE TABLE: what a line does after those before it, or its lowest code
abbrev pub step_of : Mode → Writing → Line → Result Step ℕ
step_of m d l = if any_bad l.bytes then Err BYTES else (if l.ended then by_words m d (words_of l.bytes) else Err UNENDED)

-- the workload, where no line follows `done`
abbrev pub ended : Writing → ℕ → List Line → Result Workload (ℕ × ℕ)
ended d k [] = Ok (record { header = d.header; items = d.items; schedule = d.schedule })
ended d k (l ∷ ls) = Err (k, EXTRA)

-- what comes of a line with the number k and the lines that follow it
abbrev pub go_on : Result Step ℕ → Writing → ℕ → List Line → (Writing → Result Workload (ℕ × ℕ)) → Result Workload (ℕ × ℕ)
go_on (Err code) d k ls rest = Err (k, code)
go_on (Ok Done) d k ls rest = ended d (k + 1) ls
go_on (Ok step) d k ls rest = rest (after step d)

-- the workload of the lines from the number k on, or the first line at fault and its lowest code
abbrev pub parsed : Mode → Writing → ℕ → List Line → Result Workload (ℕ × ℕ)
parsed m d k [] = Err (k, UNENDED)
parsed m d k (l ∷ ls) = go_on (step_of m d l) d k ls (λ e. parsed m e (k + 1) ls)

-- the workload of a text, or the line and the code of its first fault
abbrev pub workload_of : Mode → List ℕ → Result Workload (ℕ × ℕ)
workload_of m text = if ltb MAX_TEXT (length text) then Err (0, LONG) else parsed m opening 1 (lines_of text)

-- an error names the first fault; want of memory is free
abbrev pub IsFirstFault : ParseError → Result Workload (ℕ × ℕ) → Type 0
IsFirstFault (Fault line code) w = w ≡ Err (line, code)
IsFirstFault Memory w = Unit {0}

-- what was read is the workload, or names the first fault
abbrev pub Answers : Result Workload ParseError → Result Workload (ℕ × ℕ) → Type 0
Answers r w = MatchResult r (λ read. w ≡ Ok read) (λ e. IsFirstFault e w)
