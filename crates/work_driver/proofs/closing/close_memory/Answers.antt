use Rattle.std.proofs.Common.{List, ap, sym, ◌∙◌, length, subst, ◌≡◌, ◌≤◌, refl}
use Rattle.std.specs.Prelude.{vec_capacity, OnOk, All, Err, IsPermutation}
use Rattle.stm_rule.specs.Callers.{Handle, AllIdle}
use Rattle.stm_rule.specs.Closings.{Closes}
use Rattle.work_script.specs.declared.report.Report.{Report}
use Rattle.work_script.specs.declared.report.Row.{Row}
use Rattle.work_trace.specs.declared.said.Phase.TheVariants.{Between}
use Rattle.work_worker.specs.declared.worker.Worker.{Worker}
use Rattle.work_driver.specs.AllWorkers.{workers_in, descs_of, rows_of}
use Rattle.work_driver.specs.declared.outcome.RunOutcome.TheVariants.{ToEnd, ToLimit, OutOfMemory}
use Rattle.work_driver.specs.declared.schedule.Halt.{Halt}
use Rattle.work_driver.specs.ClosedRuns.{Came, CutShort, IsReport, Reported}
use Rattle.work_driver.specs.Schedules.{AreSound}
use Rattle.work_driver.proofs.IdleLaws.{came-back, descs-count, idle-still}
use Rattle.work_driver.proofs.GatherLaws.{report-moved}
use Rattle.work_driver.proofs.closing.close_memory.Goals as goal

pub take_apart-requires-clause-rows : goal.take_apart-requires-clause-rows
take_apart-requires-clause-rows g c =
    let back = came-back (g.K.MemRule.good c.args.stm.rule) c.args.stm c.args.runners.items c.as_mut_slice.result.now
    c.make_all_idle.new.runners c.args.runners.len c.as_mut_slice.ensures.value c.as_mut_slice.ensures.len c.requires.callers
    c.make_all_idle.ensures in
    subst (λ l. length l ≤ vec_capacity c.args.room.rows) (sym (ap rows_of back.is ∙ back.rows)) c.requires.room.rows

pub close_into-closed-requires-clause-descs : goal.close_into-closed-requires-clause-descs
close_into-closed-requires-clause-descs g c =
    let back = came-back (g.K.MemRule.good c.args.stm.rule) c.args.stm c.args.runners.items c.as_mut_slice.result.now
    c.make_all_idle.new.runners c.args.runners.len c.as_mut_slice.ensures.value c.as_mut_slice.ensures.len c.requires.callers
    c.make_all_idle.ensures in
    subst (AllIdle c.args.stm 0) (sym (c.take_apart.ensures.descs ∙ ap descs_of back.is)) back.descs

pub close_into-closed-requires-clause-all : goal.close_into-closed-requires-clause-all
close_into-closed-requires-clause-all g c =
    let back = came-back (g.K.MemRule.good c.args.stm.rule) c.args.stm c.args.runners.items c.as_mut_slice.result.now
    c.make_all_idle.new.runners c.args.runners.len c.as_mut_slice.ensures.value c.as_mut_slice.ensures.len c.requires.callers
    c.make_all_idle.ensures in
    ap length (c.take_apart.ensures.descs ∙ ap descs_of back.is) ∙ (descs-count (workers_in c.make_all_idle.new.runners) ∙ (back.count ∙ c.requires.all))

pub make_all_idle-requires : goal.make_all_idle-requires
make_all_idle-requires g c = subst (λ rs. AreSound (g.K.MemRule.good c.args.stm.rule) c.args.stm (workers_in rs)) (sym c.as_mut_slice.ensures.value) c.requires.sound

pub returns-in-Ok-report_of : goal.returns-in-Ok-report_of
returns-in-Ok-report_of g c =
    let back = came-back (g.K.MemRule.good c.args.stm.rule) c.args.stm c.args.runners.items c.as_mut_slice.result.now
    c.make_all_idle.new.runners c.args.runners.len c.as_mut_slice.ensures.value c.as_mut_slice.ensures.len c.requires.callers
    c.make_all_idle.ensures in
    let ws = workers_in c.args.runners.items in
    let how = c.in-Ok.is in
    let between = subst (λ h. OnOk h (All (λ (w : Worker g.row.K.Denot). w.phase ≡ Between) ws)) how c.requires.through in
    let after : workers_in c.make_all_idle.new.runners ≡ ws = idle-still (g.K.MemRule.good c.args.stm.rule) c.args.stm ws (workers_in c.make_all_idle.new.runners) between back.idle in
    let descs = c.take_apart.ensures.descs ∙ (ap descs_of back.is ∙ ap descs_of after) in
    let rows = subst (λ (rs : List Row). IsPermutation rs c.take_apart.new.rows.items) (ap rows_of back.is ∙ ap rows_of after) c.take_apart.ensures.rows in
    let told : (report : Report) → IsReport c.take_apart.new.rows.items c.as_slice.result.now report → Reported (g.K.MemRule.good c.args.stm.rule) c.args.stm ws report c.close_into-closed.result = λ report is. record {
      words = c.close_into-closed.new.words.items;
      closes =
          subst (λ (ds : List (Handle g.row.K.Denot)).
          Closes (g.K.MemRule.good c.args.stm.rule) c.args.stm.config ds c.close_into-closed.new.words.items c.close_into-closed.result)
          descs c.close_into-closed.ensures.closes;
      is = subst (λ ns. IsReport (rows_of ws) ns report) c.as_slice.ensures.value (report-moved (rows_of ws) c.take_apart.new.rows.items c.as_slice.result.now report rows is);
    } in
    subst (λ h. Came (g.K.MemRule.good c.args.stm.rule) c.args.stm ws h (ToEnd c.in-Ok-report_of.report c.close_into-closed.result)) (sym how) (told c.in-Ok-report_of.report c.in-Ok-report_of.ensures.is)

pub returns-in-Ok : goal.returns-in-Ok
returns-in-Ok g c =
    let back = came-back (g.K.MemRule.good c.args.stm.rule) c.args.stm c.args.runners.items c.as_mut_slice.result.now
    c.make_all_idle.new.runners c.args.runners.len c.as_mut_slice.ensures.value c.as_mut_slice.ensures.len c.requires.callers
    c.make_all_idle.ensures in
    let ws = workers_in c.args.runners.items in
    let how = c.in-Ok.is in
    let between = subst (λ h. OnOk h (All (λ (w : Worker g.row.K.Denot). w.phase ≡ Between) ws)) how c.requires.through in
    let after : workers_in c.make_all_idle.new.runners ≡ ws = idle-still (g.K.MemRule.good c.args.stm.rule) c.args.stm ws (workers_in c.make_all_idle.new.runners) between back.idle in
    let descs = c.take_apart.ensures.descs ∙ (ap descs_of back.is ∙ ap descs_of after) in
    let rows = subst (λ (rs : List Row). IsPermutation rs c.take_apart.new.rows.items) (ap rows_of back.is ∙ ap rows_of after) c.take_apart.ensures.rows in
    let told : (report : Report) → IsReport c.take_apart.new.rows.items c.as_slice.result.now report → Reported (g.K.MemRule.good c.args.stm.rule) c.args.stm ws report c.close_into-closed.result = λ report is. record {
      words = c.close_into-closed.new.words.items;
      closes =
          subst (λ (ds : List (Handle g.row.K.Denot)).
          Closes (g.K.MemRule.good c.args.stm.rule) c.args.stm.config ds c.close_into-closed.new.words.items c.close_into-closed.result)
          descs c.close_into-closed.ensures.closes;
      is = subst (λ ns. IsReport (rows_of ws) ns report) c.as_slice.ensures.value (report-moved (rows_of ws) c.take_apart.new.rows.items c.as_slice.result.now report rows is);
    } in
    let some = c.in-Err-report_of.ensures.refused in
    subst (λ h. Came (g.K.MemRule.good c.args.stm.rule) c.args.stm ws h (OutOfMemory c.close_into-closed.result)) (sym how) (some.0, told some.0 some.1)

pub returns-in-ClockFull : goal.returns-in-ClockFull
returns-in-ClockFull g c =
    let back = came-back (g.K.MemRule.good c.args.stm.rule) c.args.stm c.args.runners.items c.as_mut_slice.result.now
    c.make_all_idle.new.runners c.args.runners.len c.as_mut_slice.ensures.value c.as_mut_slice.ensures.len c.requires.callers
    c.make_all_idle.ensures in
    let ws = workers_in c.args.runners.items in
    let short : CutShort (g.K.MemRule.good c.args.stm.rule) c.args.stm ws c.close_into-closed.result = record {
      words = c.close_into-closed.new.words.items;
      after = workers_in c.make_all_idle.new.runners;
      idle = back.idle;
      closes =
          subst (λ (ds : List (Handle g.row.K.Denot)).
          Closes (g.K.MemRule.good c.args.stm.rule) c.args.stm.config ds c.close_into-closed.new.words.items c.close_into-closed.result)
          (c.take_apart.ensures.descs ∙ ap descs_of back.is) c.close_into-closed.ensures.closes;
    } in
    subst (λ h. Came (g.K.MemRule.good c.args.stm.rule) c.args.stm ws h (ToLimit c.in-ClockFull.clock c.close_into-closed.result))
    (sym c.in-Err.is) (subst (λ (halt : Halt).
    Came (g.K.MemRule.good c.args.stm.rule) c.args.stm ws (Err halt) (ToLimit c.in-ClockFull.clock c.close_into-closed.result))
    (sym c.in-ClockFull.is) (refl, short))

pub returns : goal.returns
returns g c =
    let back = came-back (g.K.MemRule.good c.args.stm.rule) c.args.stm c.args.runners.items c.as_mut_slice.result.now
    c.make_all_idle.new.runners c.args.runners.len c.as_mut_slice.ensures.value c.as_mut_slice.ensures.len c.requires.callers
    c.make_all_idle.ensures in
    let ws = workers_in c.args.runners.items in
    let short : CutShort (g.K.MemRule.good c.args.stm.rule) c.args.stm ws c.close_into-closed.result = record {
      words = c.close_into-closed.new.words.items;
      after = workers_in c.make_all_idle.new.runners;
      idle = back.idle;
      closes =
          subst (λ (ds : List (Handle g.row.K.Denot)).
          Closes (g.K.MemRule.good c.args.stm.rule) c.args.stm.config ds c.close_into-closed.new.words.items c.close_into-closed.result)
          (c.take_apart.ensures.descs ∙ ap descs_of back.is) c.close_into-closed.ensures.closes;
    } in
    subst (λ h. Came (g.K.MemRule.good c.args.stm.rule) c.args.stm ws h (OutOfMemory c.close_into-closed.result)) (sym c.in-Err.is)
    (subst (λ (halt : Halt). Came (g.K.MemRule.good c.args.stm.rule) c.args.stm ws (Err halt) (OutOfMemory c.close_into-closed.result))
    (sym c.in-Memory.is) short)
