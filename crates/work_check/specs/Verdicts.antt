-- What a check of a report answers.
use Rattle.std.specs.Prelude.{ℕ, zero, suc, ◌≡◌, ◌≢◌, ◌<◌, ◌+◌, ◌⊎◌, ◌&&◌, ◌==◌, if◌then◌else◌, List, [], ◌∷◌, ◌++◌, length, IfSome, None}
use Rattle.std.specs.List.{last_or}
use Rattle.work_script.specs.declared.report.Report.{Report}
use Rattle.work_script.specs.declared.report.Row.{Row}
use Rattle.work_script.specs.declared.workload.Workload.{Workload}
use Rattle.work_script.specs.Parts.{by_kind}
use Rattle.work_script.specs.Reports.{RowFits, Replays, IsBefore, writers, rows_of, scripts_of, script_of, regions_of, zeros, nonzero}
use Rattle.work_script.specs.Scripts.{run_row}
use Rattle.work_check.specs.declared.verdict.Verdict.{Verdict}
use Rattle.work_check.specs.declared.verdict.Verdict.TheVariants.{Yes, No}

-- the row has no fault after the rows above it, which leave the memory m
pub record IsRight (w : Workload) (above : List Row) (m : List ℕ) (r : Row) : Type 0 where
  -- it comes after the row above it
  pub ordered : IfSome (last_or None above) (λ x. IsBefore x r)
  -- a W row has another place than the W row above
  pub apart : by_kind r.kind (IfSome (last_or None (writers above)) (λ place. place ≢ r.place)) (Unit {0})
  -- its transaction is its caller's next, and exists
  pub next : r.seq ≡ length (rows_of r.caller above)
  pub exists : r.seq < length (scripts_of r.caller w.items)
  -- its kind, replies and emits are those of the script
  pub fits : RowFits (regions_of w.header) (script_of w.items r) r m

-- the memory after the row
abbrev pub memory_after : Workload → List ℕ → Row → List ℕ
memory_after w m r = (run_row (regions_of w.header) r.kind (script_of w.items r) m).memory

-- of the rows after those above, which leave the memory m, none has a fault, and they leave the memory last
abbrev pub AreRight : Workload → List Row → List ℕ → List Row → List ℕ → Type 0
AreRight w above m [] last = m ≡ last
AreRight w above m (r ∷ rs) last = IsRight w above m r × AreRight w (above ++ r ∷ []) (memory_after w m r) rs last

-- the first of them that has a fault is the one with the number n, from 0
abbrev pub IsWrongAt : Workload → List Row → List ℕ → List Row → ℕ → Type 0
IsWrongAt w above m [] n = ⊥
IsWrongAt w above m (r ∷ rs) zero = IsRight w above m r → ⊥
IsWrongAt w above m (r ∷ rs) (suc n) = IsRight w above m r × IsWrongAt w (above ++ r ∷ []) (memory_after w m r) rs n

-- each transaction has its row
abbrev pub AllHaveRows : Workload → List Row → Type 0
AllHaveRows w rows = (n : ℕ) → length (rows_of n rows) ≡ length (scripts_of n w.items)

-- how many words two tellings of a memory have alike from the first on
abbrev pub alike : List (ℕ × ℕ) → List (ℕ × ℕ) → ℕ
alike [] qs = 0
alike (p ∷ ps) [] = 0
alike (p ∷ ps) (q ∷ qs) = if (p.0 == q.0) && (p.1 == q.1) then suc (alike ps qs) else 0

-- what stands on the lines after the rows, from the line k on: they are at fault at the line
abbrev pub EndsWrong : Workload → Report → ℕ → List ℕ → ℕ → Type 0
EndsWrong w r k last line =
    ((AllHaveRows w r.rows → ⊥) × (line ≡ k))
    ⊎ (AllHaveRows w r.rows × (r.memory ≢ nonzero 0 last) × (line ≡ k + alike r.memory (nonzero 0 last)))

-- THE FIRST LINE AT FAULT: the rows begin on line 2
abbrev pub IsFirstFault : Workload → Report → ℕ → Type 0
IsFirstFault w r line =
    ((n : ℕ) × IsWrongAt w [] (zeros w.header.words) r.rows n × (line ≡ 2 + n))
    ⊎ ((last : List ℕ) × AreRight w [] (zeros w.header.words) r.rows last × EndsWrong w r (2 + length r.rows) last line)

-- Yes exactly where the report replays the workload; No names the first line at fault
abbrev pub Judges : Workload → Report → Verdict → Type 0
Judges w r Yes = Replays w r
Judges w r (No line) = (Replays w r → ⊥) × IsFirstFault w r line
