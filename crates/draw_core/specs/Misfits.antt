-- Where a caller stands whose line may not come.
use Rattle.std.specs.Prelude.{ℕ, List, length, ltb, Option, Some, None, is_some, if◌then◌else◌}
use Rattle.work_script.specs.declared.op.Op.{Op}
use Rattle.work_script.specs.declared.workload.Version.{Version}
use Rattle.draw_core.specs.declared.misfit.Misfit.{Misfit}
use Rattle.draw_core.specs.declared.misfit.Misfit.TheVariants.{NoCaller, Before, Over, Next, Done, At}
use Rattle.work_trace.specs.declared.said.Phase.{Phase}
use Rattle.work_trace.specs.declared.said.Phase.TheVariants.{Between, Inside}
use Rattle.draw_core.specs.Phases.{phase_at}
use Rattle.draw_core.specs.Turns.{Stand, is_over, next_of}
use Rattle.work_script.specs.declared.workload.Workload.{Workload}
use Rattle.draw_core.specs.declared.cursor.Cursor.{Cursor}
use Rattle.draw_core.specs.Walks.{stand_at, stands_of}

abbrev pub by_next : Version → Option Op → Stand → Misfit
by_next version (Some op) at = Next (record { op = op; version = version })
by_next version None at = if is_some at.attempt then Done else (if is_over at.scripts then Over else Before)

abbrev pub misfit_at : Version → Stand → Misfit
misfit_at version at = by_next version (next_of at.attempt) at

abbrev pub misfit_in : Version → List Stand → ℕ → Misfit
misfit_in version stands n = if ltb n (length stands) then misfit_at version (stand_at stands n) else NoCaller (length stands)

-- a caller that has closed the gate stands nowhere in a script
abbrev pub misfit_by : Phase → Misfit → Misfit
misfit_by Between m = m
misfit_by Inside m = m
misfit_by phase m = At phase

-- by the cursors of a workload's callers, and by their phases alone where there is no workload
abbrev pub misfit_of : Option Workload → List Cursor → List Phase → ℕ → Misfit
misfit_of None cursors phases n = At (phase_at phases n)
misfit_of (Some w) cursors phases n = misfit_by (phase_at phases n) (misfit_in w.header.version (stands_of w.items 0 cursors) n)
