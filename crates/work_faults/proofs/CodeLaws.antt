-- The codes that the grammar of a workload gives.
use Rattle.std.proofs.Common.{ℕ, ◌≡◌, ◌+◌, ◌&&◌, List, [], ◌∷◌, Bool, true, false, Option, Some, None, Result, Ok, Err, inl, inr, refl, subst, length, take, drop}
use Rattle.std.specs.Prelude.{if◌then◌else◌, leb, ltb, codes, bytes_eq}
use Rattle.stm_model.specs.declared.alg.Alg.{Alg}
use Rattle.stm_model.specs.declared.alg.TheConstants.{ALGORITHMS}
use Rattle.stm_model.specs.declared.config.TheConstants.{MAX_RECORDS, MIN_RING, MAX_RING, MAX_CALLERS, MAX_LOG, CLOCK_LIMIT}
use Rattle.stm_model.specs.Algorithms.{alg_name}
use Rattle.work_profile.specs.declared.policy.TheConstants.{MOST_ROUND, MOST_STATE}
use Rattle.data_regions.specs.declared.region.Region.{Region}
use Rattle.data_regions.specs.declared.region.Region.TheVariants as kinds
use Rattle.data_regions.specs.declared.region.Structure.{Structure}
use Rattle.data_regions.specs.declared.region.Structure.TheVariants as structures
use Rattle.data_regions.specs.Regions.{region_for}
use Rattle.work_script.specs.declared.op.Op.{Op}
use Rattle.work_script.specs.declared.op.Op.TheVariants.{Count as CountOn, MapPut, MapSum}
use Rattle.work_script.specs.declared.op.TheConstants.{KEYED, KEYLESS, PLACED_KEYED, PLACED_KEYLESS}
use Rattle.work_script.specs.Operations.{op_name}
use Rattle.work_script.specs.Structures.{region_at}
use Rattle.work_script.specs.declared.workload.Header.{Header}
use Rattle.work_script.specs.declared.workload.Go.{Go}
use Rattle.work_script.specs.declared.report.Report.{Report}
use Rattle.work_script.specs.declared.workload.Workload.{Workload}
use Rattle.work_script.specs.declared.workload.Version.{Version}
use Rattle.work_script.specs.declared.workload.Version.TheVariants.{One, Two}
use Rattle.work_script.specs.declared.workload.TheConstants.{MAX_KEY, MAX_REGIONS, MAX_TURNS, STRIPES, STRUCTS_END}
use Rattle.work_text.specs.declared.draft.NextLine.{NextLine}
use Rattle.work_text.specs.declared.draft.NextLine.TheVariants.{Version as VersionLine, Words, Callers, Records, Ring, Reads, Writes, Clock, Algorithm, Structures, Regions, Region as RegionLine, Policy as PolicyLine, Items, Ops, Turns}
use Rattle.work_text.specs.declared.draft.Field.TheVariants as fields
use Rattle.work_text.specs.declared.draft.Step.{Step}
use Rattle.work_text.specs.declared.draft.Step.TheVariants.{Head, Count, Begin, Add, Turn, Done}
use Rattle.work_text.specs.declared.parse.Mode.{Mode}
use Rattle.work_text.specs.declared.parse.Mode.TheVariants.{Run, Step as Stepwise}
use Rattle.work_text.specs.Lines.{Line, lines_of, words_of, any_bad, number_of}
use Rattle.work_text.specs.Drafts.{Writing, after, opening}
use Rattle.work_text.specs.Grammar.{◌>>=◌, named, formed, ranged, below, number, algorithm_of, algorithm, sized, switched, version_of, most_words, numbered_policy, policy_of, header_line, next_line, next_region, kind_of, most_size, is_placed, placed, region_of, one_item, begun, added, emitted, structured, planned, scheduled, caller_of, plain_in, plain, address, operands, move_of, count_of, op_of, keyed, region_number, keyless, placed_keyless, placed_keyed, stripe_in, stripe_of, placed_count, map_put_of, map_sum_of, reserve_of, go_of, one_word, pair_op, triple_op, four_words_two, quadruple_op, quadruple_item, two_words, three_words, four_words, filled, by_words, step_of, ended, go_on, parsed, workload_of}
use Rattle.work_check.specs.Checks.{with_report, with_workload, pair_by}
use Rattle.work_check.specs.Grammar.{report_of}
use Rattle.work_check.specs.Limits.{IsReportFault, ReportFaultsAre}
use Rattle.work_faults.specs.Faults.{is_code}

-- an error is the code of a fault
abbrev Coded : {A : Type 0} → Result A ℕ → Type 0
Coded (Ok a) = Unit {0}
Coded (Err code) = is_code code ≡ true

thus : {A B : Type 0} (r : Result A ℕ) (next : A → Result B ℕ) → Coded r → ((a : A) → Coded (next a)) → Coded (r >>= next)
thus (Ok a) next h more = more a
thus (Err code) next h more = h

either : {A : Type 0} (b : Bool) (x y : Result A ℕ) → Coded x → Coded y → Coded (if b then x else y)
either true x y h k = h
either false x y h k = k

named-coded : {A : Type 0} (name w : List ℕ) (rest : Result A ℕ) → Coded rest → Coded (named name w rest)
named-coded name w rest h = either (bytes_eq w name) rest (Err 4) h refl

formed-coded : (o : Option ℕ) → Coded (formed o)
formed-coded None = refl
formed-coded (Some n) = tt

ranged-coded : (low high n : ℕ) → Coded (ranged low high n)
ranged-coded low high n = either (leb low n && leb n high) (Ok n) (Err 6) tt refl

below-coded : (end n : ℕ) → Coded (below end n)
below-coded end n = either (ltb n end) (Ok n) (Err 6) tt refl

-- what follows a number of the form
after-number : {B : Type 0} (word : List ℕ) (next : ℕ → Result B ℕ) → ((n : ℕ) → Coded (next n)) → Coded (formed (number_of word) >>= next)
after-number word next more = thus (formed (number_of word)) next (formed-coded (number_of word)) more

number-coded : (low high : ℕ) (word : List ℕ) → Coded (number low high word)
number-coded low high word = after-number word (ranged low high) (ranged-coded low high)

algorithm_of-coded : (algs : List Alg) (word : List ℕ) → Coded (algorithm_of algs word)
algorithm_of-coded [] word = refl
algorithm_of-coded (alg ∷ algs) word = either (bytes_eq word (alg_name alg)) (Ok alg) (algorithm_of algs word) tt (algorithm_of-coded algs word)

-- what a line of the header with a number gives
sized-coded : {B : Type 0} (name : List ℕ) (low high : ℕ) (w v : List ℕ) (field : ℕ → B) → Coded (sized name low high w v >>= λ n. Ok (field n))
sized-coded name low high w v field = thus (sized name low high w v) (λ n. Ok (field n)) (named-coded name w (number low high v) (number-coded low high v)) (λ n. tt)

version-coded : (v : List ℕ) → Coded (version_of v)
version-coded v = either (bytes_eq v (codes "1")) (Ok One) (named (codes "2") v (Ok Two)) tt (named-coded (codes "2") v (Ok Two) tt)

switched-coded : (words : ℕ) (v : List ℕ) → Coded (switched words v)
switched-coded words v = either (bytes_eq v (codes "off")) (Ok false) _ tt (named-coded (codes "on") v _ (either (leb STRUCTS_END words) (Ok true) (Err 8) tt refl))

numbered-coded : (name n : List ℕ) → Coded (numbered_policy name n)
numbered-coded name n = either (bytes_eq name (codes "round:")) _ _ (thus (number 1 MOST_ROUND n) _ (number-coded 1 MOST_ROUND n) (λ k. tt)) (named-coded (codes "state:") name _ (thus (number 1 MOST_STATE n) _ (number-coded 1 MOST_STATE n) (λ k. tt)))

policy-coded : (v : List ℕ) → Coded (policy_of v)
policy-coded v = either (bytes_eq v (codes "fixed")) _ _ tt (either (bytes_eq v (codes "expert")) _ _ tt (numbered-coded (take 6 v) (drop 6 v)))

header-coded : (p : NextLine) (h : Header) (w v : List ℕ) → Coded (header_line p h w v)
header-coded VersionLine h w v = thus (named (codes "stm") w (version_of v)) _ (named-coded (codes "stm") w (version_of v) (version-coded v)) (λ k. tt)
header-coded Words h w v = sized-coded (codes "words") 1 (most_words h.version) w v fields.Words
header-coded Callers h w v = sized-coded (codes "callers") 1 MAX_CALLERS w v fields.Callers
header-coded Records h w v = sized-coded (codes "records") 1 MAX_RECORDS w v fields.Records
header-coded Ring h w v = sized-coded (codes "ring") MIN_RING MAX_RING w v fields.Ring
header-coded Reads h w v = sized-coded (codes "reads") 1 MAX_LOG w v fields.Reads
header-coded Writes h w v = sized-coded (codes "writes") 1 MAX_LOG w v fields.Writes
header-coded Clock h w v = sized-coded (codes "clock") 0 CLOCK_LIMIT w v fields.Clock
header-coded Algorithm h w v = thus (named (codes "alg") w (algorithm v)) _ (named-coded (codes "alg") w (algorithm v) (algorithm_of-coded ALGORITHMS v)) (λ a. tt)
header-coded Structures h w v = thus (named (codes "structs") w (switched h.words v)) _ (named-coded (codes "structs") w (switched h.words v) (switched-coded h.words v)) (λ on. tt)
header-coded PolicyLine h w v = thus (named (codes "policy") w (policy_of v)) _ (named-coded (codes "policy") w (policy_of v) (policy-coded v)) (λ p. tt)
header-coded p h w v = refl

kind-coded : (ks : List Structure) (word : List ℕ) → Coded (kind_of ks word)
kind-coded [] word = refl
kind-coded (k ∷ ks) word = either (bytes_eq word _) (Ok k) (kind_of ks word) tt (kind-coded ks word)

placed-coded : (d : Writing) (r : Region) → Coded (placed d r)
placed-coded d r = either (is_placed d.header.regions d.header.words r) (Ok (Head (next_region d.count (length d.header.regions + 1)) (fields.Region r))) (Err 8) tt refl

region-coded : (d : Writing) (k a v : List ℕ) → Coded (region_of d k a v)
region-coded d k a v =
    thus _ _ (kind-coded (structures.Counter ∷ structures.List ∷ structures.Hash ∷ structures.Tree ∷ structures.Queue ∷ structures.SumMap ∷ []) k) (λ kind.
    after-number a _ (λ at. after-number v _ (λ n. thus (ranged 1 (most_size kind) n) _ (ranged-coded 1 (most_size kind) n) (λ size. placed-coded d (region_for kind at size)))))

item-coded : (d : Writing) (step : Step) → Coded (one_item d step)
item-coded d step = either _ (Ok step) (Err 10) tt refl

added-coded : (d : Writing) (op : Op) → Coded (added d op)
added-coded d op = either _ (Ok (Add op)) (Err 10) tt refl

emitted-coded : (d : Writing) (a : ℕ) → Coded (emitted d a)
emitted-coded d a = either _ _ (Err 9) (added-coded d _) refl

structured-coded : (d : Writing) (op : Op) → Coded (structured d op)
structured-coded d op = either _ (added d op) (Err 8) (added-coded d op) refl

planned-coded : (d : Writing) (go : Go) → Coded (planned d go)
planned-coded d go = either _ (Ok (Turn go (d.turns + go.turns))) (Err 10) tt refl

scheduled-coded : (m : Mode) → Coded (scheduled m)
scheduled-coded Run = refl
scheduled-coded Stepwise = tt

caller-coded : (d : Writing) (v : List ℕ) → Coded (caller_of d v)
caller-coded d v = after-number v (below d.header.callers) (below-coded d.header.callers)

plain_in-coded : (v : Version) (regions : List Region) (a : ℕ) → Coded (plain_in v regions a)
plain_in-coded One regions a = either _ (Err 8) (Ok a) refl tt
plain_in-coded Two regions a = either _ (Ok a) (Err 8) tt refl

plain-coded : (h : Header) (a : ℕ) → Coded (plain h a)
plain-coded h a = plain_in-coded h.version h.regions a

-- what follows a number below an end
after-below : {B : Type 0} (end n : ℕ) (next : ℕ → Result B ℕ) → ((k : ℕ) → Coded (next k)) → Coded (below end n >>= next)
after-below end n next more = thus (below end n) next (below-coded end n) more

after-plain : {B : Type 0} (h : Header) (a : ℕ) (next : ℕ → Result B ℕ) → ((k : ℕ) → Coded (next k)) → Coded (plain h a >>= next)
after-plain h a next more = thus (plain h a) next (plain-coded h a) more

after-ranged : {B : Type 0} (low high n : ℕ) (next : ℕ → Result B ℕ) → ((k : ℕ) → Coded (next k)) → Coded (ranged low high n >>= next)
after-ranged low high n next more = thus (ranged low high n) next (ranged-coded low high n) more

address-coded : (d : Writing) (a : List ℕ) → Coded (address d a)
address-coded d a = thus (formed (number_of a) >>= below d.header.words) (plain d.header) (after-number a (below d.header.words) (below-coded d.header.words)) (plain-coded d.header)

operands-coded : (d : Writing) (a v : List ℕ) → Coded (operands d a v)
operands-coded d a v = after-number a _ (λ i. after-number v _ (λ n. after-below d.header.words i _ (λ j. after-plain d.header j _ (λ k. tt))))

move-coded : (d : Writing) (a b v : List ℕ) → Coded (move_of d a b v)
move-coded d a b v =
    after-number a _ (λ i. after-number b _ (λ j. after-number v _ (λ n.
    after-below d.header.words i _ (λ x. after-below d.header.words j _ (λ y. after-plain d.header x _ (λ s. after-plain d.header y _ (λ t. tt)))))))

count-coded : (a v : List ℕ) → Coded (count_of a v)
count-coded a v = after-number a _ (λ i. after-number v _ (λ n. after-below STRIPES i _ (λ s. tt)))

op-coded : (ops : List Op) (word : List ℕ) → Coded (op_of ops word)
op-coded [] word = refl
op-coded (op ∷ ops) word = either (bytes_eq word (op_name op)) (Ok op) (op_of ops word) tt (op-coded ops word)

keyed-coded : (w v : List ℕ) → Coded (keyed w v)
keyed-coded w v = thus (op_of KEYED w) _ (op-coded KEYED w) (λ op. thus (number 0 MAX_KEY v) _ (number-coded 0 MAX_KEY v) (λ key. tt))

keyless-coded : (v : Version) (d : Writing) (w : List ℕ) → Coded (keyless v d w)
keyless-coded One d w = thus (op_of KEYLESS w) (structured d) (op-coded KEYLESS w) (structured-coded d)
keyless-coded Two d w = refl

-- what follows a region's number
after-region : {B : Type 0} (d : Writing) (n : ℕ) (next : ℕ → Result B ℕ) → ((k : ℕ) → Coded (next k)) → Coded (region_number d n >>= next)
after-region d n next more = thus (region_number d n) next (below-coded _ n) more

placed_keyless-coded : (d : Writing) (w v : List ℕ) → Coded (placed_keyless d w v)
placed_keyless-coded d w v = thus (op_of PLACED_KEYLESS w) _ (op-coded PLACED_KEYLESS w) (λ op. thus (formed (number_of v) >>= region_number d) _ (after-number v (region_number d) (λ n. below-coded _ n)) (λ r. structured-coded d _))

placed_keyed-coded : (d : Writing) (w a v : List ℕ) → Coded (placed_keyed d w a v)
placed_keyed-coded d w a v =
    thus (op_of PLACED_KEYED w) _ (op-coded PLACED_KEYED w) (λ op. after-number a _ (λ i. after-number v _ (λ n.
    after-region d i _ (λ r. after-ranged 0 MAX_KEY n _ (λ key. structured-coded d _)))))

stripe_in-coded : (r : Region) (n : ℕ) → Coded (stripe_in r n)
stripe_in-coded (kinds.Counter c) n = below-coded c.stripes n
stripe_in-coded (kinds.List l) n = refl
stripe_in-coded (kinds.Hash h) n = refl
stripe_in-coded (kinds.Tree t) n = refl
stripe_in-coded (kinds.Queue q) n = refl
stripe_in-coded (kinds.SumMap r) n = refl

stripe-coded : (regions : List Region) (r n : ℕ) → Coded (stripe_of regions r n)
stripe-coded regions r n = either (ltb r (length regions)) (stripe_in (region_at regions r) n) (Err 8) (stripe_in-coded (region_at regions r) n) refl

placed_count-coded : (d : Writing) (a b v : List ℕ) → Coded (placed_count d a b v)
placed_count-coded d a b v =
    after-number a _ (λ i. after-number b _ (λ j. after-number v _ (λ n.
    after-region d i _ (λ r. thus (stripe_of d.header.regions r j) _ (stripe-coded d.header.regions r j) (λ s. structured-coded d (CountOn r s n))))))

map_put-coded : (d : Writing) (a b v : List ℕ) → Coded (map_put_of d a b v)
map_put-coded d a b v =
    after-number a _ (λ i. after-number b _ (λ j. after-number v _ (λ n. after-region d i _ (λ r. after-ranged 0 MAX_KEY j _ (λ key. structured-coded d (MapPut r key n))))))

map_sum-coded : (d : Writing) (a b v : List ℕ) → Coded (map_sum_of d a b v)
map_sum-coded d a b v =
    after-number a _ (λ i. after-number b _ (λ j. after-number v _ (λ n.
    after-region d i _ (λ r. after-ranged 0 MAX_KEY j _ (λ low. after-ranged 0 MAX_KEY n _ (λ high. structured-coded d (MapSum r low high)))))))

reserve-coded : (d : Writing) (a b v : List ℕ) → Coded (reserve_of d a b v)
reserve-coded d a b v =
    after-number a _ (λ i. after-number b _ (λ j. after-number v _ (λ n.
    after-below d.header.callers i _ (λ c. after-ranged 1 MAX_LOG j _ (λ reads. after-ranged 1 MAX_LOG n _ (λ writes. item-coded d _))))))

go-coded : (d : Writing) (a v : List ℕ) → Coded (go_of d a v)
go-coded d a v = after-number a _ (λ i. after-number v _ (λ n. after-below d.header.callers i _ (λ c. after-ranged 1 MAX_TURNS n _ (λ t. tt))))

one-coded : (p : NextLine) (m : Mode) (d : Writing) (w : List ℕ) → Coded (one_word p m d w)
one-coded Items m d w = either (bytes_eq w (codes "done")) _ _ tt (named-coded (codes "schedule") w (scheduled m) (scheduled-coded m))
one-coded Ops m d w =
    either (bytes_eq w (codes "irrev")) _ _ (added-coded d _) (either (bytes_eq w (codes "cancel")) _ _ (added-coded d _)
    (either (bytes_eq w (codes "end")) _ _ tt (keyless-coded d.header.version d w)))
one-coded Turns m d w = named-coded (codes "done") w (Ok Done) tt
one-coded p m d w = refl

pair-coded : (v : Version) (d : Writing) (w a : List ℕ) → Coded (pair_op v d w a)
pair-coded One d w a = thus (keyed w a) (structured d) (keyed-coded w a) (structured-coded d)
pair-coded Two d w a = placed_keyless-coded d w a

triple-coded : (v : Version) (d : Writing) (w a b : List ℕ) → Coded (triple_op v d w a b)
triple-coded One d w a b = named-coded (codes "count") w _ (thus (count_of a b) (structured d) (count-coded a b) (structured-coded d))
triple-coded Two d w a b = placed_keyed-coded d w a b

four_two-coded : (d : Writing) (w a b v : List ℕ) → Coded (four_words_two d w a b v)
four_two-coded d w a b v =
    either (bytes_eq w (codes "count")) _ _ (placed_count-coded d a b v)
    (either (bytes_eq w (codes "mput")) _ _ (map_put-coded d a b v) (named-coded (codes "msum") w _ (map_sum-coded d a b v)))

quadruple-coded : (v : Version) (d : Writing) (w a b c : List ℕ) → Coded (quadruple_op v d w a b c)
quadruple-coded One d w a b c = refl
quadruple-coded Two d w a b c = four_two-coded d w a b c

quadruple_item-coded : (v : Version) (d : Writing) (w a b c : List ℕ) → Coded (quadruple_item v d w a b c)
quadruple_item-coded One d w a b c = refl
quadruple_item-coded Two d w a b c = named-coded (codes "reserve") w _ (reserve-coded d a b c)

field-coded : (p : NextLine) (d : Writing) (w v : List ℕ) → Coded (header_line p d.header w v >>= λ field. Ok (Head (next_line d.header.version p) field))
field-coded p d w v = thus (header_line p d.header w v) _ (header-coded p d.header w v) (λ field. tt)

two-coded : (p : NextLine) (m : Mode) (d : Writing) (w v : List ℕ) → Coded (two_words p m d w v)
two-coded Items m d w v = named-coded (codes "tx") w _ (thus (caller_of d v) (begun d) (caller-coded d v) (λ c. item-coded d (Begin c)))
two-coded Ops m d w v =
    either (bytes_eq w (codes "read")) _ _ (thus (address d v) _ (address-coded d v) (λ a. added-coded d _))
    (either (bytes_eq w (codes "emit")) _ _ (thus (address d v) (emitted d) (address-coded d v) (emitted-coded d)) (pair-coded d.header.version d w v))
two-coded Turns m d w v = refl
two-coded Regions m d w v = sized-coded (codes "regions") 0 MAX_REGIONS w v (λ n. Count (next_region n 0) n)
two-coded p m d w v = field-coded p d w v

three-coded : (p : NextLine) (d : Writing) (w a v : List ℕ) → Coded (three_words p d w a v)
three-coded Ops d w a v =
    either (bytes_eq w (codes "write")) _ _ (thus (operands d a v) _ (operands-coded d a v) (λ p. added-coded d _))
    (either (bytes_eq w (codes "add")) _ _ (thus (operands d a v) _ (operands-coded d a v) (λ p. added-coded d _)) (triple-coded d.header.version d w a v))
three-coded Items d w a v = named-coded (codes "switch") w _ (thus (caller_of d a) _ (caller-coded d a) (λ c. thus (algorithm v) _ (algorithm_of-coded ALGORITHMS v) (λ alg. item-coded d _)))
three-coded Turns d w a v = named-coded (codes "go") w _ (thus (go_of d a v) (planned d) (go-coded d a v) (planned-coded d))
three-coded p d w a v = refl

four-coded : (p : NextLine) (d : Writing) (w a b v : List ℕ) → Coded (four_words p d w a b v)
four-coded Ops d w a b v = either (bytes_eq w (codes "move")) _ _ (thus (move_of d a b v) (added d) (move-coded d a b v) (added-coded d)) (quadruple-coded d.header.version d w a b v)
four-coded Items d w a b v = quadruple_item-coded d.header.version d w a b v
four-coded RegionLine d w a b v = named-coded (codes "region") w _ (region-coded d a b v)
four-coded p d w a b v = refl

filled-coded : (w : List ℕ) (rest : Result Step ℕ) → Coded rest → Coded (filled w rest)
filled-coded [] rest h = refl
filled-coded (b ∷ bs) rest h = h

words-coded : (m : Mode) (d : Writing) (ws : List (List ℕ)) → Coded (by_words m d ws)
words-coded m d (w ∷ []) = one-coded d.place m d w
words-coded m d (w ∷ v ∷ []) = filled-coded v _ (two-coded d.place m d w v)
words-coded m d (w ∷ a ∷ v ∷ []) = filled-coded a _ (filled-coded v _ (three-coded d.place d w a v))
words-coded m d (w ∷ a ∷ b ∷ v ∷ []) = filled-coded a _ (filled-coded b _ (filled-coded v _ (four-coded d.place d w a b v)))
words-coded m d ws = refl

step-coded : (m : Mode) (d : Writing) (l : Line) → Coded (step_of m d l)
step-coded m d l = either (any_bad l.bytes) (Err 2) _ refl (either l.ended (by_words m d (words_of l.bytes)) (Err 3) (words-coded m d (words_of l.bytes)) refl)

-- the same of the fault of a text
abbrev Blames : {A : Type 0} → Result A (ℕ × ℕ) → Type 0
Blames (Ok a) = Unit {0}
Blames (Err fault) = is_code fault.1 ≡ true

ended-blames : (d : Writing) (k : ℕ) (ls : List Line) → Blames (ended d k ls)
ended-blames d k [] = tt
ended-blames d k (l ∷ ls) = refl

on-blames : (r : Result Step ℕ) (d : Writing) (k : ℕ) (ls : List Line) (rest : Writing → Result Workload (ℕ × ℕ)) → Coded r → ((e : Writing) → Blames (rest e)) → Blames (go_on r d k ls rest)
on-blames (Err code) d k ls rest h more = h
on-blames (Ok Done) d k ls rest h more = ended-blames d (k + 1) ls
on-blames (Ok step) d k ls rest h more = more (after step d)

parsed-blames : (m : Mode) (d : Writing) (k : ℕ) (ls : List Line) → Blames (parsed m d k ls)
parsed-blames m d k [] = refl
parsed-blames m d k (l ∷ ls) = on-blames (step_of m d l) d k ls (λ e. parsed m e (k + 1) ls) (step-coded m d l) (λ e. parsed-blames m e (k + 1) ls)

long-blames : (long : Bool) (r : Result Workload (ℕ × ℕ)) → Blames r → Blames (if long then Err (0, 1) else r)
long-blames true r h = refl
long-blames false r h = h

pub workload-faults : (m : Mode) (text : List ℕ) (line code : ℕ) → workload_of m text ≡ Err (line, code) → is_code code ≡ true
workload-faults m text line code is = subst Blames is (long-blames _ (parsed m opening 1 (lines_of text)) (parsed-blames m opening 1 (lines_of text)))

report-coded : (line code : ℕ) → IsReportFault line code → is_code code ≡ true
report-coded line code (inl h) = rw h.1
report-coded line code (inr (le, inl h)) = rw h
report-coded line code (inr (le, inr h)) = rw h

pub report-faults : ReportFaultsAre → (text : List ℕ) (line code : ℕ) → report_of text ≡ Err (line, code) → is_code code ≡ true
report-faults law text line code is = report-coded line code (law text line code is)

-- the same of both in one text
blames-by : {A : Type 0} (r : Result A (ℕ × ℕ)) → ((line code : ℕ) → r ≡ Err (line, code) → is_code code ≡ true) → Blames r
blames-by (Ok a) h = tt
blames-by (Err fault) h = h fault.0 fault.1 refl

with-blames : (above : ℕ) (w : Workload) (r : Result Report (ℕ × ℕ)) → Blames r → Blames (with_report above w r)
with-blames above w (Ok r) h = tt
with-blames above w (Err fault) h = h

parts-blames : (w : Result Workload (ℕ × ℕ)) (above : ℕ) (rest : List ℕ) → Blames w → Blames (report_of rest) → Blames (with_workload w above rest)
parts-blames (Ok w) above rest h k = with-blames above w (report_of rest) k
parts-blames (Err fault) above rest h k = h

pub pair-faults : ReportFaultsAre → (head : List ℕ) (above : ℕ) (rest : List ℕ) (line code : ℕ) → pair_by head above rest ≡ Err (line, code) → is_code code ≡ true
pair-faults law head above rest line code is =
    let w = blames-by (workload_of Stepwise head) (workload-faults Stepwise head) in
    let r = blames-by (report_of rest) (report-faults law rest) in
    subst Blames is (parts-blames (workload_of Stepwise head) above rest w r)
