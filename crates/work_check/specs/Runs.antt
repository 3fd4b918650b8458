-- A row that was run.
use Rattle.std.specs.Prelude.{ℕ, ◌≡◌, Bool, true, false, List, [], length, if◌then◌else◌}
use Rattle.stm_model.specs.declared.plain.PlainWord.{PlainWord}
use Rattle.stm_model.specs.Memories.{overlay}
use Rattle.stm_model.specs.Plains.{openings, own_writes}
use Rattle.data_regions.specs.declared.region.Region.{Region}
use Rattle.data_regions.specs.Regions.{AllWellFormed}
use Rattle.work_script.specs.declared.op.Op.{Op}
use Rattle.work_script.specs.declared.report.Kind.{Kind}
use Rattle.work_script.specs.declared.report.Kind.TheVariants.{W, R, C}
use Rattle.work_script.specs.declared.report.Row.{Row}
use Rattle.work_script.specs.Scripts.{run_row, has_cancel, has_irrev, before_cancel}
use Rattle.work_check.specs.declared.running.Ran.{Ran}

-- KindFits has two parts: what the script says alone, and what was written
abbrev pub CanEnd : Kind → List Op → Type 0
CanEnd W script = Unit {0}
CanEnd R script = Unit {0}
CanEnd C script = (has_cancel script ≡ true) × (has_irrev (before_cancel script) ≡ false)

abbrev pub WroteAs : Kind → Bool → Type 0
WroteAs W wrote = wrote ≡ true
WroteAs R wrote = wrote ≡ false
WroteAs C wrote = Unit {0}

-- what a transaction leaves of the memory m
abbrev pub left_by : Kind → List ℕ → List (ℕ × ℕ) → List ℕ
left_by W m writes = overlay m writes
left_by R m writes = overlay m writes
left_by C m writes = m

-- the memory is that after a row, and nothing is left to be committed
pub record IsAfter (regions : List Region) (script : List Op) (kind : Kind) (before after : List PlainWord) : Type 0 where
  pub memory : openings after ≡ (run_row regions kind script (openings before)).memory
  pub settled : own_writes after ≡ []
  pub words : length after ≡ length before
  pub well : AllWellFormed regions (openings after)

-- the kind of a row whose transaction wrote, or didn't, where it is cancelled only as this kind is
abbrev pub ended_as : Kind → Bool → Kind
ended_as W wrote = if wrote then W else R
ended_as R wrote = if wrote then W else R
ended_as C wrote = C

-- the row of a transaction of this kind that ran so, in the place of another
abbrev pub told_by : Ran → Kind → Row → Row
told_by ran kind r = record { kind = ended_as kind ran.wrote; place = r.place; caller = r.caller; seq = r.seq; replies = ran.replies; emits = ran.emits }
