-- THE REPLAY STANDS IN THE ONE HISTORY: the memories of one thread that runs a report's rows are those of the history.
use Rattle.std.specs.Prelude.{ℕ, ◌≡◌, List, [], ◌∷◌}
use Rattle.data_regions.specs.declared.region.Region.{Region}
use Rattle.stm_model.specs.Histories.{Entry, memory_at}
use Rattle.work_script.specs.declared.op.Op.{Op}
use Rattle.work_script.specs.declared.report.Kind.{Kind}
use Rattle.work_script.specs.declared.report.Kind.TheVariants.{W, R, C}
use Rattle.work_script.specs.declared.report.Row.{Row}
use Rattle.work_script.specs.Scripts.{run_row}

module _ (regions : List Region) (script : Row → List Op) (history : List Entry) (opening : List ℕ) where
  -- after a W row the memory is that of the history at its place; another row is run on that memory
  abbrev pub IsAt : Kind → ℕ → List ℕ → List ℕ → Type 0
  IsAt W place before after = after ≡ memory_at place history opening
  IsAt R place before after = before ≡ memory_at place history opening
  IsAt C place before after = before ≡ memory_at place history opening

  -- so of each row, where the first one is run on the memory m
  abbrev pub GoesAlong : List ℕ → List Row → Type 0
  GoesAlong m [] = Unit {0}
  GoesAlong m (r ∷ rows) = IsAt r.kind r.place m (run_row regions r.kind (script r) m).memory × GoesAlong (run_row regions r.kind (script r) m).memory rows
