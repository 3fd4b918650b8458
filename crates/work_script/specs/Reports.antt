-- What a report says of its workload.
use Rattle.std.specs.Prelude.{ℕ, zero, suc, ◌≡◌, ◌<◌, ◌+◌, ◌*◌, ◌≤◌, ◌⊎◌, ◌==◌, List, [], ◌∷◌, map, length, replicate, slice_index_or, if◌then◌else◌}
use Rattle.stm_model.specs.Histories.{Entry, memory_at}
use Rattle.work_script.specs.declared.op.Op.{Op}
use Rattle.data_regions.specs.declared.region.Region.{Region}
use Rattle.work_script.specs.declared.report.Kind.{Kind}
use Rattle.work_script.specs.declared.report.Kind.TheVariants.{W, R, C}
use Rattle.work_script.specs.declared.report.Row.{Row}
use Rattle.work_script.specs.declared.report.Report.{Report}
use Rattle.work_script.specs.declared.workload.Header.{Header}
use Rattle.work_script.specs.declared.workload.Item.{Item}
use Rattle.work_script.specs.declared.workload.Item.TheVariants.{Tx, Switch, Reserve}
use Rattle.work_script.specs.declared.workload.Workload.{Workload}
use Rattle.work_script.specs.Scripts.{run_row, KindFits}

-- the scripts of one caller, in the order of the text
abbrev pub scripts_of : ℕ → List Item → List (List Op)
scripts_of n [] = []
scripts_of n (Tx caller script ∷ items) = if caller == n then script ∷ scripts_of n items else scripts_of n items
scripts_of n (Switch caller alg ∷ items) = scripts_of n items
scripts_of n (Reserve caller reads writes ∷ items) = scripts_of n items

-- the script of a row, by its caller and its number among that caller's
abbrev pub script_of : List Item → Row → List Op
script_of items row = slice_index_or (scripts_of row.caller items) row.seq []

-- the opening memory
abbrev pub zeros : ℕ → List ℕ
zeros words = replicate words 0

-- THE REGIONS of a workload
abbrev pub regions_of : Header → List Region
regions_of header = header.regions

-- the row is what its script does on this memory
pub record RowFits (regions : List Region) (script : List Op) (row : Row) (m : List ℕ) : Type 0 where
  pub replies : row.replies ≡ (run_row regions row.kind script m).replies
  pub emits : row.emits ≡ (run_row regions row.kind script m).emits
  pub kind : KindFits row.kind script (run_row regions row.kind script m).wrote

-- one thread that begins with the memory m runs the script of each row in turn, gets what the row says,
-- and ends with the memory last
abbrev pub Replay : List Region → (Row → List Op) → List ℕ → List Row → List ℕ → Type 0
Replay regions script m [] last = m ≡ last
Replay regions script m (r ∷ rs) last = RowFits regions (script r) r m × Replay regions script (run_row regions r.kind (script r) m).memory rs last

-- W before R and C at one place
abbrev pub code : Kind → ℕ
code W = 0
code R = 1
code C = 1

abbrev pub rank : Row → ℕ
rank r = 2 * r.place + code r.kind

-- by place, W before R and C, then caller, then seq
abbrev pub IsBefore : Row → Row → Type 0
IsBefore r x = (rank r < rank x) ⊎ ((rank r ≡ rank x) × ((r.caller < x.caller) ⊎ ((r.caller ≡ x.caller) × (r.seq ≤ x.seq))))

abbrev pub AllAfter : Row → List Row → Type 0
AllAfter r [] = Unit {0}
AllAfter r (x ∷ xs) = IsBefore r x × AllAfter r xs

abbrev pub Ordered : List Row → Type 0
Ordered [] = Unit {0}
Ordered (r ∷ rs) = AllAfter r rs × Ordered rs

abbrev pub writer_to : {A : Type 0} → Kind → A → List A → List A
writer_to W x rest = x ∷ rest
writer_to R x rest = rest
writer_to C x rest = rest

-- the places of the W rows, and their callers with them
abbrev pub writers : List Row → List ℕ
writers [] = []
writers (r ∷ rs) = writer_to r.kind r.place (writers rs)

abbrev pub writers_by : List Row → List (ℕ × ℕ)
writers_by [] = []
writers_by (r ∷ rs) = writer_to r.kind (r.place, r.caller) (writers_by rs)

-- each is above the one before it, and all are above the floor
abbrev pub Ascends : ℕ → List ℕ → Type 0
Ascends floor [] = Unit {0}
Ascends floor (x ∷ xs) = (floor < x) × Ascends x xs

-- they ascend from the first on, so that no two are one
abbrev pub Apart : List ℕ → Type 0
Apart [] = Unit {0}
Apart (x ∷ xs) = Ascends x xs

-- the rows of one caller
abbrev pub rows_of : ℕ → List Row → List Row
rows_of n [] = []
rows_of n (r ∷ rs) = if r.caller == n then r ∷ rows_of n rs else rows_of n rs

-- k, k + 1 and so on, n numbers
abbrev pub counted : ℕ → ℕ → List ℕ
counted k zero = []
counted k (suc n) = k ∷ counted (suc k) n

-- address and value of the words that aren't 0; the first word has the address a
abbrev pub nonzero : ℕ → List ℕ → List (ℕ × ℕ)
nonzero a [] = []
nonzero a (v ∷ vs) = if v == 0 then nonzero (suc a) vs else (a, v) ∷ nonzero (suc a) vs

pub record Replays (w : Workload) (r : Report) : Type 0 where
  pub ordered : Ordered r.rows
  -- no two W rows share a place
  pub apart : Apart (writers r.rows)
  -- each transaction has one row, and a caller's rows come in the order of the text
  pub complete : (n : ℕ) → map (λ (row : Row). row.seq) (rows_of n r.rows) ≡ counted 0 (length (scripts_of n w.items))
  -- the memory that the rows leave
  pub last : List ℕ
  pub replay : Replay (regions_of w.header) (script_of w.items) (zeros w.header.words) r.rows last
  pub memory : r.memory ≡ nonzero 0 last

-- the report is that of a run whose commits are this history, from the clock opening to clock
pub record Shows (history : List Entry) (opening clock : ℕ) (w : Workload) (r : Report) : Type 0 where
  pub writers : writers_by r.rows ≡ map (λ (e : Entry). (e.time, e.caller)) history
  pub opened : opening ≡ w.header.clock
  pub memory : r.memory ≡ nonzero 0 (memory_at clock history (zeros w.header.words))
