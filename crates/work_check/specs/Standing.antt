-- Where a check stands after some rows.
use Rattle.std.specs.Prelude.{ℕ, ◌≡◌, ◌<◌, ◌≤◌, ◌+◌, List, [], length, drop, Option, None, Some, slice_index_or}
use Rattle.std.specs.List.{last_or}
use Rattle.stm_model.specs.Plains.{openings, own_writes}
use Rattle.data_regions.specs.Regions.{AllWellFormed}
use Rattle.work_script.specs.Operations.{ScriptFits}
use Rattle.work_script.specs.declared.op.Op.{Op}
use Rattle.work_script.specs.declared.report.Kind.{Kind}
use Rattle.work_script.specs.declared.report.Kind.TheVariants.{W, R, C}
use Rattle.work_script.specs.declared.report.Row.{Row}
use Rattle.work_script.specs.declared.workload.Item.{Item}
use Rattle.work_script.specs.declared.workload.Workload.{Workload}
use Rattle.work_script.specs.Reports.{scripts_of, script_of, rows_of, regions_of, writers}
use Rattle.work_check.specs.declared.replay.Cursor.{Cursor}
use Rattle.work_check.specs.declared.replay.Standing.{Standing}

-- the caller has had as many transactions as it has rows, and the next is at this item or after it
pub record IsAt (items : List Item) (above : List Row) (caller : ℕ) (c : Cursor) : Type 0 where
  pub within : c.item ≤ length items
  pub rows : c.seq ≡ length (rows_of caller above)
  pub past : c.seq ≤ length (scripts_of caller items)
  pub left : scripts_of caller (drop c.item items) ≡ drop c.seq (scripts_of caller items)

-- after the rows above, with the memory that they leave
pub record StandsAfter (w : Workload) (above : List Row) (s : Standing) : Type 0 where
  pub settled : own_writes s.ledger ≡ []
  pub words : length s.ledger ≡ w.header.words
  pub well : AllWellFormed (regions_of w.header) (openings s.ledger)
  pub callers : length s.cursors.items ≡ w.header.callers
  pub each : (n : ℕ) (d : Cursor) → n < w.header.callers → IsAt w.items above n (slice_index_or s.cursors.items n d)
  pub others : (n : ℕ) → w.header.callers ≤ n → rows_of n above ≡ []
  pub wrote : s.wrote ≡ last_or None (writers above)

-- the row is its caller's next: its script, and the item after it
pub record IsNext (w : Workload) (above : List Row) (r : Row) (item : ℕ) (script : List Op) : Type 0 where
  pub next : r.seq ≡ length (rows_of r.caller above)
  pub exists : r.seq < length (scripts_of r.caller w.items)
  pub is : script_of w.items r ≡ script
  pub fits : ScriptFits (regions_of w.header) w.header.words script
  pub caller : r.caller < w.header.callers
  pub within : item ≤ length w.items
  pub left : scripts_of r.caller (drop item w.items) ≡ drop (r.seq + 1) (scripts_of r.caller w.items)

abbrev pub wrote_after : Kind → ℕ → Option ℕ → Option ℕ
wrote_after W place wrote = Some place
wrote_after R place wrote = wrote
wrote_after C place wrote = wrote
