-- What is wanted is of a row that has a fault.
use Rattle.std.proofs.Common.{ℕ, zero, suc, ◌≡◌, List, [], ◌∷◌, ◌++◌, arith, length, Bool, true, false, refl, sym, ◌∙◌}
use Rattle.data_regions.specs.declared.region.Region.{Region}
use Rattle.work_script.specs.declared.op.Op.{Op}
use Rattle.work_script.specs.declared.report.Kind.{Kind}
use Rattle.work_script.specs.declared.report.Kind.TheVariants.{W, R, C}
use Rattle.work_script.specs.declared.report.Row.{Row}
use Rattle.work_script.specs.declared.workload.Workload.{Workload}
use Rattle.work_script.specs.Reports.{RowFits}
use Rattle.work_script.specs.Scripts.{run_row}
use Rattle.work_check.specs.Runs.{CanEnd, ended_as, told_by}
use Rattle.work_check.specs.Verdicts.{IsRight, IsWrongAt, memory_after}
use Rattle.work_check.specs.Wanted.{IsWantedRow, WantsOf, WantsAt}
use Rattle.work_check.specs.declared.running.Ran.{Ran}
use Rattle.work_check.specs.declared.wanted.Wanted.{Wanted}
use Rattle.work_check.specs.declared.wanted.Wanted.TheVariants as wants

-- a row of what was run is the one wanted
pub wanted-row : (regions : List Region) (script : List Op) (m : List ℕ) (r : Row) (kind : Kind) (ran : Ran) → CanEnd kind script → (kind ≡ C → r.kind ≡ C)
    → ran.replies ≡ (run_row regions kind script m).replies → ran.emits ≡ (run_row regions kind script m).emits → ran.wrote ≡ (run_row regions kind script m).wrote
    → IsWantedRow regions script m r (told_by ran kind r)
wanted-row regions script m r W ran can own replies emits wrote = record { fits = by ran.wrote wrote; place = refl; caller = refl; seq = refl; cancelled = not ran.wrote }
  where
    by : (b : Bool) → b ≡ (run_row regions W script m).wrote → RowFits regions script (record { kind = ended_as W b; place = r.place; caller = r.caller; seq = r.seq; replies = ran.replies; emits = ran.emits }) m
    by true is = record { replies = replies; emits = emits; kind = sym is }
    by false is = record { replies = replies; emits = emits; kind = sym is }

    not : (b : Bool) → ended_as W b ≡ C → r.kind ≡ C
    not true e = absurd cc
    not false e = absurd cc
wanted-row regions script m r R ran can own replies emits wrote = record { fits = by ran.wrote wrote; place = refl; caller = refl; seq = refl; cancelled = not ran.wrote }
  where
    by : (b : Bool) → b ≡ (run_row regions R script m).wrote → RowFits regions script (record { kind = ended_as R b; place = r.place; caller = r.caller; seq = r.seq; replies = ran.replies; emits = ran.emits }) m
    by true is = record { replies = replies; emits = emits; kind = sym is }
    by false is = record { replies = replies; emits = emits; kind = sym is }

    not : (b : Bool) → ended_as R b ≡ C → r.kind ≡ C
    not true e = absurd cc
    not false e = absurd cc
wanted-row regions script m r C ran can own replies emits wrote = record { fits = record { replies = replies; emits = emits; kind = can }; place = refl; caller = refl; seq = refl; cancelled = own }

-- a row of which something is wanted isn't right
wants-wrong : (w : Workload) (above : List Row) (m : List ℕ) (r : Row) (wanted : Wanted) → WantsOf w above m r wanted → IsRight w above m r → ⊥
wants-wrong w above m r wants.Later h right = h right.ordered
wants-wrong w above m r wants.Apart h right = h right.apart
wants-wrong w above m r (wants.Next seq) h right = h.2 (right.next ∙ sym h.0)
wants-wrong w above m r (wants.Over count) h right =
    let next = right.next in let exists = right.exists in let had = h.0 in let most = h.1 in omega arith
wants-wrong w above m r (wants.Row want) h right = h.0 right.fits
wants-wrong w above m r (wants.Missing caller seq) h right = h
wants-wrong w above m r (wants.Word address value) h right = h
wants-wrong w above m r wants.End h right = h

pub wants-at : (w : Workload) (above : List Row) (m : List ℕ) (rs : List Row) (n : ℕ) (wanted : Wanted) → WantsAt w above m rs n wanted → IsWrongAt w above m rs n
wants-at w above m [] n wanted h = h
wants-at w above m (r ∷ rs) zero wanted h = wants-wrong w above m r wanted h
wants-at w above m (r ∷ rs) (suc n) wanted h = (h.0, wants-at w (above ++ r ∷ []) (memory_after w m r) rs n wanted h.1)
