-- What a workload of the grammar fits.
use Rattle.std.specs.Prelude.{ℕ, ◌≡◌, ◌≤◌, ◌<◌, ◌+◌, ◌^◌, ◌⊎◌, Bool, true, false, ◌||◌, List, [], ◌∷◌, length, All}
use Rattle.stm_model.specs.declared.config.Config.{Config}
use Rattle.work_script.specs.Operations.{is_irrev}
use Rattle.work_script.specs.Reports.{regions_of}
use Rattle.work_script.specs.Workloads.{config_of, ItemsFit}
use Rattle.work_script.specs.declared.op.Op.{Op}
use Rattle.work_script.specs.declared.op.Op.TheVariants.{Read, Write, Add, Move, Emit, Irrev, Cancel, Count, Total, ListInsert, ListRemove, ListContains, ListLength, HashInsert, HashRemove, HashContains, TreeInsert, TreeRemove, TreeContains, TreeLeast, QueuePut, QueueGet, MapPut, MapRemove, MapGet, MapSum}
use Rattle.work_script.specs.declared.workload.Header.{Header}
use Rattle.work_script.specs.declared.workload.Item.{Item}
use Rattle.work_script.specs.declared.workload.Item.TheVariants.{Tx, Switch, Reserve}
use Rattle.work_script.specs.declared.workload.Go.{Go}
use Rattle.work_script.specs.declared.workload.Workload.{Workload}
use Rattle.work_script.specs.declared.workload.TheConstants.{MAX_ITEMS, MAX_OPS, MAX_TURNS, MAX_KEY, MAX_REGIONS, STRUCTS_BEGIN, STRUCTS_END}
use Rattle.stm_model.specs.declared.config.TheConstants.{MAX_LOG}
use Rattle.work_script.specs.declared.workload.Version.{Version}
use Rattle.work_script.specs.declared.workload.Version.TheVariants.{One, Two}
use Rattle.work_script.specs.Structures.{region_at, counter_in}
use Rattle.work_profile.specs.declared.policy.Policy.TheVariants.{Fixed}
use Rattle.work_profile.specs.PolicyWords.{HasWord}
use Rattle.data_regions.specs.declared.region.Region.{Region}
use Rattle.data_regions.specs.declared.region.Region.TheVariants as kinds
use Rattle.data_regions.specs.declared.region.Structure.{Structure}
use Rattle.data_regions.specs.declared.region.Structure.TheVariants as structures
use Rattle.data_regions.specs.Regions.{start_of, size_of, structure_of, version_one, IsPlain, EndsWithin}
use Rattle.work_text.specs.Grammar.{most_words, most_size}
use Rattle.work_text.specs.declared.parse.Mode.{Mode}
use Rattle.work_text.specs.declared.parse.Mode.TheVariants.{Run, Step as Stepwise}

-- a region's stripes or cells
abbrev pub cells_of : Region → ℕ
cells_of (kinds.Counter c) = c.stripes
cells_of (kinds.List l) = l.cells
cells_of (kinds.Hash h) = h.cells
cells_of (kinds.Tree t) = t.cells
cells_of (kinds.Queue q) = q.cells
cells_of (kinds.SumMap r) = r.cells

abbrev pub IsSized : Region → Type 0
IsSized r = (1 ≤ cells_of r) × (cells_of r ≤ most_size (structure_of r))

-- each region begins where the one above it ends, or later; nothing is above the first but what ends at `end`
abbrev pub Follow : ℕ → List Region → Type 0
Follow end [] = Unit {0}
Follow end (r ∷ rs) = (end ≤ start_of r) × Follow (start_of r + size_of r) rs

-- the regions of version 1 are its four, which have room, or none
abbrev pub RegionsOne : Header → Type 0
RegionsOne h = (h.regions ≡ []) ⊎ ((h.regions ≡ version_one) × (STRUCTS_END ≤ h.words))

-- those of version 2 are not too many, each of a size that it may have, and follow each other within the words
pub record RegionsTwo (h : Header) : Type 0 where
  pub count : length h.regions ≤ MAX_REGIONS
  pub sized : All IsSized h.regions
  pub follow : Follow 0 h.regions
  pub within : All (EndsWithin h.words) h.regions

-- the regions and the policy are such as the version has
abbrev pub LayoutFits : Version → Header → Type 0
LayoutFits One h = RegionsOne h × (h.policy ≡ Fixed)
LayoutFits Two h = RegionsTwo h × HasWord h.policy

-- the ranges of a header's sizes, as numerals; they are narrower than those of a memory
pub record IsHeaderConfig (c : Config) : Type 0 where
  pub words : (1 ≤ c.words) × (c.words ≤ 1048576)
  pub records : (1 ≤ c.records) × (c.records ≤ 4096)
  pub ring : (2 ≤ c.ring) × (c.ring ≤ 64)
  pub callers : (1 ≤ c.callers) × (c.callers ≤ 32)
  pub reads : (1 ≤ c.reads) × (c.reads ≤ 4096)
  pub writes : (1 ≤ c.writes) × (c.writes ≤ 4096)
  pub clock : c.clock ≤ 2 ^ 62

-- the sizes are those of a header and of the version
pub record HeaderFits (h : Header) : Type 0 where
  pub config : IsHeaderConfig (config_of h)
  pub words : h.words ≤ most_words h.version
  pub layout : LayoutFits h.version h

-- in version 1 with structures on the address isn't theirs, in version 2 it is in no region
abbrev pub IsFreeIn : Version → List Region → ℕ → Type 0
IsFreeIn One regions a = (regions ≡ []) ⊎ ((a < STRUCTS_BEGIN) ⊎ (STRUCTS_END ≤ a))
IsFreeIn Two regions a = IsPlain regions a

abbrev pub IsFree : Header → ℕ → Type 0
IsFree h a = IsFreeIn h.version h.regions a

-- the region of this number is there, and one of this structure
abbrev pub HasStructure : Header → Structure → ℕ → Type 0
HasStructure h s r = (r < length h.regions) × (structure_of (region_at h.regions r) ≡ s)

-- a key, in a region of this structure
abbrev pub KeyFits : Header → Structure → ℕ → ℕ → Type 0
KeyFits h s r key = HasStructure h s r × (key ≤ MAX_KEY)

-- an operation on addresses below the number of words, or on a structure
abbrev pub OpFits : Header → Op → Type 0
OpFits h (Read a) = (a < h.words) × IsFree h a
OpFits h (Write a v) = (a < h.words) × (v < 2 ^ 64) × IsFree h a
OpFits h (Add a k) = (a < h.words) × (k < 2 ^ 64) × IsFree h a
OpFits h (Move a b k) = (a < h.words) × (b < h.words) × (k < 2 ^ 64) × IsFree h a × IsFree h b
OpFits h (Emit a) = (a < h.words) × IsFree h a
OpFits h Irrev = Unit {0}
OpFits h Cancel = Unit {0}
OpFits h (Count r stripe k) = HasStructure h structures.Counter r × (stripe < (counter_in h.regions r).stripes) × (k < 2 ^ 64)
OpFits h (Total r) = HasStructure h structures.Counter r
OpFits h (ListInsert r key) = KeyFits h structures.List r key
OpFits h (ListRemove r key) = KeyFits h structures.List r key
OpFits h (ListContains r key) = KeyFits h structures.List r key
OpFits h (ListLength r) = HasStructure h structures.List r
OpFits h (HashInsert r key) = KeyFits h structures.Hash r key
OpFits h (HashRemove r key) = KeyFits h structures.Hash r key
OpFits h (HashContains r key) = KeyFits h structures.Hash r key
OpFits h (TreeInsert r key) = KeyFits h structures.Tree r key
OpFits h (TreeRemove r key) = KeyFits h structures.Tree r key
OpFits h (TreeContains r key) = KeyFits h structures.Tree r key
OpFits h (TreeLeast r) = HasStructure h structures.Tree r
OpFits h (QueuePut r v) = KeyFits h structures.Queue r v
OpFits h (QueueGet r) = HasStructure h structures.Queue r
OpFits h (MapPut r key v) = KeyFits h structures.SumMap r key × (v < 2 ^ 64)
OpFits h (MapRemove r key) = KeyFits h structures.SumMap r key
OpFits h (MapGet r key) = KeyFits h structures.SumMap r key
OpFits h (MapSum r lo hi) = KeyFits h structures.SumMap r lo × (hi ≤ MAX_KEY)

-- an emit is allowed once the transaction has asked to be irrevocable
abbrev pub IsAllowed : Bool → Op → Type 0
IsAllowed asked (Emit a) = asked ≡ true
IsAllowed asked op = Unit {0}

-- each operation is allowed after those before it
abbrev pub AreInOrder : Bool → List Op → Type 0
AreInOrder asked [] = Unit {0}
AreInOrder asked (op ∷ ops) = IsAllowed asked op × AreInOrder (asked || is_irrev op) ops

-- operations that fit, not too many, and each emit after an irrev
pub record ScriptFits (h : Header) (ops : List Op) : Type 0 where
  pub count : length ops ≤ MAX_OPS
  pub each : All (OpFits h) ops
  pub order : AreInOrder false ops

-- the length of a log
abbrev pub IsLength : ℕ → Type 0
IsLength n = (1 ≤ n) × (n ≤ MAX_LOG)

-- a transaction, a switch, or in version 2 longer logs, of a caller of the header
abbrev pub ItemFits : Header → Item → Type 0
ItemFits h (Tx caller script) = (caller < h.callers) × ScriptFits h script
ItemFits h (Switch caller alg) = caller < h.callers
ItemFits h (Reserve caller reads writes) = (caller < h.callers) × IsLength reads × IsLength writes × (h.version ≡ Two)

-- turns of a caller of the header
abbrev pub GoFits : Header → Go → Type 0
GoFits h go = (go.caller < h.callers) × (1 ≤ go.turns) × (go.turns ≤ MAX_TURNS)

-- the turns of a schedule in all
abbrev pub all_turns : List Go → ℕ
all_turns [] = 0
all_turns (go ∷ gos) = go.turns + all_turns gos

-- not too many turns in all; run takes no schedule
abbrev pub ScheduleFits : Mode → Header → List Go → Type 0
ScheduleFits Run h gos = gos ≡ []
ScheduleFits Stepwise h gos = All (GoFits h) gos × (all_turns gos ≤ MAX_TURNS)

-- items that fit the header, not too many, and a schedule that fits it
pub record IsParsed (m : Mode) (w : Workload) : Type 0 where
  pub header : HeaderFits w.header
  pub count : length w.items ≤ MAX_ITEMS
  pub items : All (ItemFits w.header) w.items
  pub schedule : ScheduleFits m w.header w.schedule

-- what is parsed fits the memory of its header
abbrev pub ParsedWorkloadsFit : Type 0
ParsedWorkloadsFit = (m : Mode) (w : Workload) → IsParsed m w → ItemsFit (regions_of w.header) w.header w.items
