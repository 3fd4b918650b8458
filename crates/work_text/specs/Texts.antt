-- The text of a workload, by the grammar's rules.
use Rattle.std.specs.Prelude.{ℕ, ◌≡◌, ◌≤◌, ◌⊎◌, Bool, true, false, not, List, [], ◌∷◌, ◌++◌, length, map, Ok, codes}
use Rattle.stm_model.specs.Algorithms.{alg_name}
use Rattle.std.specs.Fmt.{decimal}
use Rattle.work_script.specs.declared.op.Op.{Op}
use Rattle.work_script.specs.declared.op.Op.TheVariants.{Read, Write, Add, Move, Emit, Irrev, Cancel, Count, Total, ListInsert, ListRemove, ListContains, ListLength, HashInsert, HashRemove, HashContains, TreeInsert, TreeRemove, TreeContains, TreeLeast, QueuePut, QueueGet, MapPut, MapRemove, MapGet, MapSum}
use Rattle.work_script.specs.declared.workload.Header.{Header}
use Rattle.work_script.specs.declared.workload.Item.{Item}
use Rattle.work_script.specs.declared.workload.Item.TheVariants.{Tx, Switch, Reserve}
use Rattle.work_script.specs.declared.workload.Go.{Go}
use Rattle.work_script.specs.declared.workload.Workload.{Workload}
use Rattle.work_text.specs.declared.parse.TheConstants.{MAX_TEXT}
use Rattle.work_text.specs.declared.parse.Mode.{Mode}
use Rattle.work_text.specs.declared.parse.Mode.TheVariants.{Step as Stepwise}
use Rattle.work_script.specs.declared.workload.Version.{Version}
use Rattle.work_script.specs.declared.workload.Version.TheVariants.{One, Two}
use Rattle.work_profile.specs.PolicyWords.{policy_word}
use Rattle.data_regions.specs.declared.region.Region.{Region}
use Rattle.data_regions.specs.Regions.{start_of, structure_of}
use Rattle.work_text.specs.Grammar.{kind_name, no_region, workload_of}
use Rattle.work_text.specs.Parsed.{IsParsed, cells_of}

-- words, parted by one space
abbrev pub joined : List (List ℕ) → List ℕ
joined [] = []
joined (w ∷ []) = w
joined (w ∷ v ∷ ws) = w ++ 32 ∷ joined (v ∷ ws)

-- a line of words
abbrev pub line : List (List ℕ) → List ℕ
line ws = joined ws ++ 10 ∷ []

abbrev pub switch_of : Bool → List ℕ
switch_of true = codes "on"
switch_of false = codes "off"

-- a region's number, which version 1 leaves to the operation's name
abbrev pub numbered : Version → ℕ → List (List ℕ) → List (List ℕ)
numbered One r ws = ws
numbered Two r ws = decimal r ∷ ws

abbrev pub op_words : Version → Op → List (List ℕ)
op_words version (Read a) = codes "read" ∷ decimal a ∷ []
op_words version (Write a v) = codes "write" ∷ decimal a ∷ decimal v ∷ []
op_words version (Add a k) = codes "add" ∷ decimal a ∷ decimal k ∷ []
op_words version (Move a b k) = codes "move" ∷ decimal a ∷ decimal b ∷ decimal k ∷ []
op_words version (Emit a) = codes "emit" ∷ decimal a ∷ []
op_words version Irrev = codes "irrev" ∷ []
op_words version Cancel = codes "cancel" ∷ []
op_words version (Count r stripe k) = codes "count" ∷ numbered version r (decimal stripe ∷ decimal k ∷ [])
op_words version (Total r) = codes "total" ∷ numbered version r []
op_words version (ListInsert r key) = codes "ladd" ∷ numbered version r (decimal key ∷ [])
op_words version (ListRemove r key) = codes "ldel" ∷ numbered version r (decimal key ∷ [])
op_words version (ListContains r key) = codes "lhas" ∷ numbered version r (decimal key ∷ [])
op_words version (ListLength r) = codes "llen" ∷ numbered version r []
op_words version (HashInsert r key) = codes "hadd" ∷ numbered version r (decimal key ∷ [])
op_words version (HashRemove r key) = codes "hdel" ∷ numbered version r (decimal key ∷ [])
op_words version (HashContains r key) = codes "hhas" ∷ numbered version r (decimal key ∷ [])
op_words version (TreeInsert r key) = codes "tadd" ∷ numbered version r (decimal key ∷ [])
op_words version (TreeRemove r key) = codes "tdel" ∷ numbered version r (decimal key ∷ [])
op_words version (TreeContains r key) = codes "thas" ∷ numbered version r (decimal key ∷ [])
op_words version (TreeLeast r) = codes "tmin" ∷ numbered version r []
op_words version (QueuePut r v) = codes "qput" ∷ numbered version r (decimal v ∷ [])
op_words version (QueueGet r) = codes "qget" ∷ numbered version r []
op_words version (MapPut r key v) = codes "mput" ∷ numbered version r (decimal key ∷ decimal v ∷ [])
op_words version (MapRemove r key) = codes "mdel" ∷ numbered version r (decimal key ∷ [])
op_words version (MapGet r key) = codes "mget" ∷ numbered version r (decimal key ∷ [])
op_words version (MapSum r lo hi) = codes "msum" ∷ numbered version r (decimal lo ∷ decimal hi ∷ [])

-- `tx caller`, its operations, `end`
abbrev pub item_lines : Version → Item → List (List (List ℕ))
item_lines version (Tx caller script) = (codes "tx" ∷ decimal caller ∷ []) ∷ (map (op_words version) script ++ (codes "end" ∷ []) ∷ [])
item_lines version (Switch caller alg) = (codes "switch" ∷ decimal caller ∷ alg_name alg ∷ []) ∷ []
item_lines version (Reserve caller reads writes) = (codes "reserve" ∷ decimal caller ∷ decimal reads ∷ decimal writes ∷ []) ∷ []

abbrev pub items_lines : Version → List Item → List (List (List ℕ))
items_lines version [] = []
items_lines version (i ∷ is) = item_lines version i ++ items_lines version is

abbrev pub version_word : Version → List ℕ
version_word One = codes "1"
version_word Two = codes "2"

abbrev pub region_words : Region → List (List ℕ)
region_words r = codes "region" ∷ kind_name (structure_of r) ∷ decimal (start_of r) ∷ decimal (cells_of r) ∷ []

-- the end of the header: whether structures are on, or each region and the policy
abbrev pub layout_lines : Version → Header → List (List (List ℕ))
layout_lines One h = (codes "structs" ∷ switch_of (not (no_region h.regions)) ∷ []) ∷ []
layout_lines Two h = (codes "regions" ∷ decimal (length h.regions) ∷ []) ∷ (map region_words h.regions ++ (codes "policy" ∷ policy_word h.policy ∷ []) ∷ [])

abbrev pub header_lines : Header → List (List (List ℕ))
header_lines h =
    (codes "stm" ∷ version_word h.version ∷ [])
    ∷ (codes "words" ∷ decimal h.words ∷ [])
    ∷ (codes "callers" ∷ decimal h.callers ∷ [])
    ∷ (codes "records" ∷ decimal h.records ∷ [])
    ∷ (codes "ring" ∷ decimal h.ring ∷ [])
    ∷ (codes "reads" ∷ decimal h.reads ∷ [])
    ∷ (codes "writes" ∷ decimal h.writes ∷ [])
    ∷ (codes "clock" ∷ decimal h.clock ∷ [])
    ∷ (codes "alg" ∷ alg_name h.alg ∷ [])
    ∷ layout_lines h.version h

abbrev pub go_words : Go → List (List ℕ)
go_words go = codes "go" ∷ decimal go.caller ∷ decimal go.turns ∷ []

-- `schedule` and its lines
abbrev pub section_lines : List Go → List (List (List ℕ))
section_lines gos = (codes "schedule" ∷ []) ∷ map go_words gos

-- those of a schedule that isn't empty
abbrev pub schedule_lines : List Go → List (List (List ℕ))
schedule_lines [] = []
schedule_lines (go ∷ gos) = section_lines (go ∷ gos)

-- the lines of a workload whose schedule has these
abbrev pub lines_with : List (List (List ℕ)) → Workload → List (List (List ℕ))
lines_with schedule w = header_lines w.header ++ (items_lines w.header.version w.items ++ (schedule ++ (codes "done" ∷ []) ∷ []))

abbrev pub workload_lines : Workload → List (List (List ℕ))
workload_lines w = lines_with (schedule_lines w.schedule) w

abbrev pub lines_text : List (List (List ℕ)) → List ℕ
lines_text [] = []
lines_text (ws ∷ more) = line ws ++ lines_text more

-- its lines; where the schedule is empty the line `schedule` may stand under step
abbrev pub AreLinesOf : Mode → Workload → List (List (List ℕ)) → Type 0
AreLinesOf m w lines = (lines ≡ workload_lines w) ⊎ ((m ≡ Stepwise) × (w.schedule ≡ []) × (lines ≡ lines_with (section_lines []) w))

abbrev pub IsTextOf : Mode → Workload → List ℕ → Type 0
IsTextOf m w text = (lines : List (List (List ℕ))) × AreLinesOf m w lines × (text ≡ lines_text lines)

-- a text of a workload that fits is read as that workload
abbrev pub TextIsRead : Type 0
TextIsRead = (m : Mode) (w : Workload) (text : List ℕ) → IsParsed m w → IsTextOf m w text → length text ≤ MAX_TEXT → workload_of m text ≡ Ok w

-- a text that is read as a workload is a text of that workload
abbrev pub TextIsWritten : Type 0
TextIsWritten = (m : Mode) (text : List ℕ) (w : Workload) → workload_of m text ≡ Ok w → IsTextOf m w text

-- what is read from a text is a workload of the grammar
abbrev pub TextIsParsed : Type 0
TextIsParsed = (m : Mode) (text : List ℕ) (w : Workload) → workload_of m text ≡ Ok w → IsParsed m w
