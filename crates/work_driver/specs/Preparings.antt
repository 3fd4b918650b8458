-- What stands before the first turn.
use Rattle.std.specs.Prelude.{ℕ, ◌≡◌, ◌≤◌, List, [], length, All, slice_index_or, vec_len, vec_capacity}
use Rattle.work_profile.specs.declared.policy.Policy.{Policy}
use Rattle.stm_rule.specs.declared.stm.Stm.{Stm}
use Rattle.work_script.specs.declared.workload.Header.{Header}
use Rattle.work_script.specs.declared.workload.Item.{Item}
use Rattle.work_script.specs.declared.workload.Item.TheVariants.{Tx, Switch, Reserve}
use Rattle.work_script.specs.declared.workload.Workload.{Workload}
use Rattle.work_script.specs.Keeping.{ScriptKeeps}
use Rattle.stm_rule.specs.Callers.{Handle}
use Rattle.stm_tx.specs.Descs.{known}
use Rattle.work_worker.specs.declared.worker.Worker.{Worker}
use Rattle.work_text.specs.declared.parse.Mode.{Mode}
use Rattle.work_text.specs.Parsed.{IsParsed}
use Rattle.work_text.specs.Parsed as is_parsed
use Rattle.data_regions.specs.Regions.{AllWellFormed}
use Rattle.work_driver.specs.declared.preparing.Prepared.{Prepared}
use Rattle.work_driver.specs.declared.preparing.Room.{Room}
use Rattle.work_driver.specs.AllWorkers.{AreMade, workers_in}
use Rattle.work_driver.specs.Partings.{parted}
use Rattle.work_script.specs.Workloads.{config_of, ItemFits}
use Rattle.work_script.specs.Reports.{regions_of, zeros}
use Rattle.work_driver.specs.Openings.{AllNew}

-- an item of the grammar, which the header's memory takes
abbrev pub ParsedItem : Header → Item → Type 0
ParsedItem h i = is_parsed.ItemFits h i × ItemFits (regions_of h) h i

-- what the item's script does keeps the rule on memories of this header
abbrev pub ItemKeeps : (List ℕ → Type 0) → Header → Item → Type 0
ItemKeeps good h (Tx caller script) = ScriptKeeps good h.words (regions_of h) script
ItemKeeps good h (Switch caller alg) = Unit {0}
ItemKeeps good h (Reserve caller reads writes) = Unit {0}

abbrev pub WorkloadKeeps : (List ℕ → Type 0) → Workload → Type 0
WorkloadKeeps good w = All (ItemKeeps good w.header) w.items

-- in a good memory the workload's regions are well formed
abbrev pub Forms : (List ℕ → Type 0) → Workload → Type 0
Forms good w = (m : List ℕ) → good m → AllWellFormed (regions_of w.header) m

-- the memory is open for the header, and each caller has a worker that has done nothing, with its part to do; caller 0
-- has the policy
pub record IsPrepared {K : Type 0} (h : Header) (policy : Policy) (parts : List (List Item)) (stm : Stm K) (ws : List (Worker K)) : Type 0 where
  pub sized : stm.config ≡ config_of h
  pub descs : List (Handle K)
  pub count : length descs ≡ h.callers
  pub new : AllNew stm h.alg 0 descs
  pub knows : All (λ (d : Handle K). stm.config.callers ≡ 1 → (known d).alg ≡ h.alg) descs
  pub made : AreMade (λ n. slice_index_or parts n []) (regions_of h) h.alg policy 0 descs ws

-- all are empty, with room for the descriptors and rows of so many callers, for so many rows in all, and words
pub record HasRoom {K : Type 0} (callers items heap : ℕ) (room : Room K) : Type 0 where
  pub empty : (room.descs.items ≡ []) × (room.lists.items ≡ []) × (room.rows.items ≡ []) × (room.words.items ≡ [])
  pub none : (vec_len room.descs ≡ 0) × (vec_len room.lists ≡ 0) × (vec_len room.rows ≡ 0) × (vec_len room.words ≡ 0)
  pub descs : callers ≤ vec_capacity room.descs
  pub lists : callers ≤ vec_capacity room.lists
  pub rows : items ≤ vec_capacity room.rows
  pub words : heap ≤ vec_capacity room.words

-- this is a workload that is prepared, its scripts keep the rule, and a good memory has its regions well formed
pub record IsReadyFor {K : Type 0} (good : List ℕ → Type 0) (m : Mode) (policy : Policy) (w : Workload) (p : Prepared K) : Type 0 where
  pub is_parsed : IsParsed m w
  pub keeps : WorkloadKeeps good w
  pub regions : Forms good w
  pub prepared : IsPrepared w.header policy (parted w.header.callers w.items) p.stm (workers_in p.runners.items)
  pub room : HasRoom w.header.callers (length w.items) w.header.words p.room

-- the rule of the header's regions: it holds of a memory of zeros,
-- and each script of a workload that was parsed keeps it
abbrev pub RuleHolds : Type 0
RuleHolds = (w : Workload) → AllWellFormed (regions_of w.header) (zeros w.header.words)

abbrev pub RuleIsKept : Type 0
RuleIsKept = (m : Mode) (w : Workload) → IsParsed m w → WorkloadKeeps (AllWellFormed (regions_of w.header)) w
