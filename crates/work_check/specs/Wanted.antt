-- What the replay wants on a report's first line at fault.
use Rattle.std.specs.Prelude.{ℕ, zero, suc, ◌≡◌, ◌≢◌, ◌<◌, ◌≤◌, ◌+◌, ◌⊎◌, List, [], ◌∷◌, ◌++◌, length, get_or, Option, None, IfSome, MatchOption}
use Rattle.std.specs.List.{last_or}
use Rattle.data_regions.specs.declared.region.Region.{Region}
use Rattle.work_script.specs.declared.op.Op.{Op}
use Rattle.work_script.specs.declared.report.Kind.TheVariants.{C}
use Rattle.work_script.specs.declared.report.Report.{Report}
use Rattle.work_script.specs.declared.report.Row.{Row}
use Rattle.work_script.specs.declared.workload.Workload.{Workload}
use Rattle.work_script.specs.Parts.{by_kind}
use Rattle.work_script.specs.Reports.{RowFits, IsBefore, writers, rows_of, scripts_of, script_of, regions_of, zeros, nonzero}
use Rattle.work_check.specs.Verdicts.{IsRight, AreRight, AllHaveRows, memory_after, alike}
use Rattle.work_check.specs.declared.verdict.Verdict.{Verdict}
use Rattle.work_check.specs.declared.verdict.Verdict.TheVariants.{Yes, No}
use Rattle.work_check.specs.declared.wanted.Wanted.{Wanted}
use Rattle.work_check.specs.declared.wanted.Wanted.TheVariants as wants

-- THE ROW WANTED in the place of r, of this script on the memory m: it is what the script does there, for the same
-- transaction at the same place, and cancelled only where r is
pub record IsWantedRow (regions : List Region) (script : List Op) (m : List ℕ) (r want : Row) : Type 0 where
  pub fits : RowFits regions script want m
  pub place : want.place ≡ r.place
  pub caller : want.caller ≡ r.caller
  pub seq : want.seq ≡ r.seq
  pub cancelled : want.kind ≡ C → r.kind ≡ C

-- in the place of a row that isn't so
abbrev pub IsWantedFor : List Region → List Op → List ℕ → Row → Row → Type 0
IsWantedFor regions script m r want = (RowFits regions script r m → ⊥) × IsWantedRow regions script m r want

-- what is wanted of a row that has a fault after the rows above it, which leave the memory m
abbrev pub WantsOf : Workload → List Row → List ℕ → Row → Wanted → Type 0
-- to come after the row above it
WantsOf w above m r wants.Later = IfSome (last_or None above) (λ x. IsBefore x r) → ⊥
-- another place than that of the W row above
WantsOf w above m r wants.Apart = by_kind r.kind (IfSome (last_or None (writers above)) (λ place. place ≢ r.place)) (Unit {0}) → ⊥
-- its caller's next transaction, which has this number
WantsOf w above m r (wants.Next seq) = (seq ≡ length (rows_of r.caller above)) × (seq < length (scripts_of r.caller w.items)) × (r.seq ≢ seq)
-- no row of its caller, each of whose transactions has one
WantsOf w above m r (wants.Over count) = (count ≡ length (rows_of r.caller above)) × (length (scripts_of r.caller w.items) ≤ count)
WantsOf w above m r (wants.Row want) = IsWantedFor (regions_of w.header) (script_of w.items r) m r want
WantsOf w above m r (wants.Missing caller seq) = ⊥
WantsOf w above m r (wants.Word address value) = ⊥
WantsOf w above m r wants.End = ⊥

-- it is wanted of the row with the number n, from 0, and no row before that one has a fault
abbrev pub WantsAt : Workload → List Row → List ℕ → List Row → ℕ → Wanted → Type 0
WantsAt w above m [] n wanted = ⊥
WantsAt w above m (r ∷ rs) zero wanted = WantsOf w above m r wanted
WantsAt w above m (r ∷ rs) (suc n) wanted = IsRight w above m r × WantsAt w (above ++ r ∷ []) (memory_after w m r) rs n wanted

-- this word of the memory
abbrev pub word_of : ℕ × ℕ → Wanted
word_of p = wants.Word p.0 p.1

-- a list has this item at this place
abbrev pub IsItem : List (ℕ × ℕ) → ℕ → ℕ × ℕ → Type 0
IsItem ps n p = (n < length ps) × (get_or ps n (0, 0) ≡ p)

-- what is wanted after the rows, which have no fault and leave the memory last
abbrev pub WantsAfter : Workload → Report → List ℕ → Wanted → Type 0
-- the next transaction of a caller, which has no row
WantsAfter w r last (wants.Missing caller seq) = (seq ≡ length (rows_of caller r.rows)) × (seq < length (scripts_of caller w.items))
-- the first word of the memory that isn't told, or nothing more
WantsAfter w r last (wants.Word address value) = AllHaveRows w r.rows × IsItem (nonzero 0 last) (alike r.memory (nonzero 0 last)) (address, value)
WantsAfter w r last wants.End = AllHaveRows w r.rows × (alike r.memory (nonzero 0 last) ≡ length (nonzero 0 last)) × (length (nonzero 0 last) < length r.memory)
WantsAfter w r last wants.Later = ⊥
WantsAfter w r last wants.Apart = ⊥
WantsAfter w r last (wants.Next seq) = ⊥
WantsAfter w r last (wants.Over count) = ⊥
WantsAfter w r last (wants.Row want) = ⊥

-- WHAT IS WANTED on the first line at fault
abbrev pub IsWanted : Workload → Report → Wanted → Type 0
IsWanted w r wanted =
    ((n : ℕ) × WantsAt w [] (zeros w.header.words) r.rows n wanted)
    ⊎ ((last : List ℕ) × AreRight w [] (zeros w.header.words) r.rows last × WantsAfter w r last wanted)

-- something is wanted exactly where the report doesn't replay the workload
abbrev pub Wants : Workload → Report → Verdict → Option Wanted → Type 0
Wants w r Yes wanted = wanted ≡ None
Wants w r (No line) wanted = MatchOption wanted ⊥ (IsWanted w r)
