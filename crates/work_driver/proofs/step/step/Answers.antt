use Rattle.std.proofs.Common.{◌<◌, true, List, length, take, drop, ◌++◌, refl, sym, ap, subst, arith}
use Rattle.std.specs.Prelude.{All}
use Rattle.stm_model.specs.declared.config.Config.{Config}
use Rattle.work_driver.specs.AllWorkers.{workers_in}
use Rattle.work_driver.specs.ClosedRuns.{Came}
use Rattle.work_driver.specs.Partings.{parted}
use Rattle.work_script.specs.declared.workload.Go.{Go}
use Rattle.work_driver.specs.Schedules.{AreSound, Drives}
use Rattle.work_text.specs.declared.parse.Mode.TheVariants.{Step}
use Rattle.work_driver.proofs.OutcomeLaws.{Turned, done, driven-between, has-stepped}
use Rattle.work_driver.proofs.PreparedLaws.{Begun, is_parsed-items, begun, turns-below}
use Rattle.work_driver.proofs.step.step.Goals as goal

pub drive-how-requires-clause-sound : goal.drive-how-requires-clause-sound
drive-how-requires-clause-sound g c =
    let w = c.requires.ready.0 in
    let r = c.requires.ready.1 in
    let s = c.args.prepared.stm in
    let begun = begun (g.K.MemRule.good s.rule) true w.header.policy w s (is_parsed-items Step w c.parsed_workloads_fit.ensures r.is_parsed)
    r.prepared.sized r.keeps (parted w.header.callers w.items) (workers_in c.args.prepared.runners.items) refl r.prepared in
    subst (λ l. AreSound (g.K.MemRule.good s.rule) s (workers_in l)) (sym c.as_mut_slice.ensures.value) begun.sound

pub drive-how-requires-clause-below : goal.drive-how-requires-clause-below
drive-how-requires-clause-below g c =
    let w = c.requires.ready.0 in
    let r = c.requires.ready.1 in
    let s = c.args.prepared.stm in
    let begun = begun (g.K.MemRule.good s.rule) true w.header.policy w s (is_parsed-items Step w c.parsed_workloads_fit.ensures r.is_parsed)
    r.prepared.sized r.keeps (parted w.header.callers w.items) (workers_in c.args.prepared.runners.items) refl r.prepared in
    subst (λ l. All (λ (go : Go). go.caller < length (workers_in l)) c.args.schedule.now) (sym c.as_mut_slice.ensures.value)
    (subst (λ (gos : List Go). All (λ (go : Go). go.caller < length (workers_in c.args.prepared.runners.items)) gos) (sym c.requires.ready.2)
    (turns-below (g.K.MemRule.good s.rule) true w.header.policy w s (is_parsed-items Step w c.parsed_workloads_fit.ensures r.is_parsed)
    r.prepared.sized w.schedule (workers_in c.args.prepared.runners.items) (λ i d lt. (r.is_parsed.schedule.0 i d lt).0) begun))

pub close_memory-outcome-requires-clause-sound : goal.close_memory-outcome-requires-clause-sound
close_memory-outcome-requires-clause-sound g c =
    let w = c.requires.ready.0 in
    let r = c.requires.ready.1 in
    let s = c.args.prepared.stm in
    let done = done (g.K.MemRule.good s.rule) true w.header.policy w s (is_parsed-items Step w c.parsed_workloads_fit.ensures r.is_parsed)
    r.prepared.sized r.keeps (parted w.header.callers w.items) refl c.args.prepared.runners.items c.as_mut_slice.result.now
    c.drive-how.new.runners c.args.prepared.runners.len r.prepared c.as_mut_slice.ensures.value c.as_mut_slice.ensures.len
    c.drive-how.ensures.same c.drive-how.ensures.sound in
    done.turned.sound

pub close_memory-outcome-requires-clause-callers : goal.close_memory-outcome-requires-clause-callers
close_memory-outcome-requires-clause-callers g c =
    let w = c.requires.ready.0 in
    let r = c.requires.ready.1 in
    let s = c.args.prepared.stm in
    let done = done (g.K.MemRule.good s.rule) true w.header.policy w s (is_parsed-items Step w c.parsed_workloads_fit.ensures r.is_parsed)
    r.prepared.sized r.keeps (parted w.header.callers w.items) refl c.args.prepared.runners.items c.as_mut_slice.result.now
    c.drive-how.new.runners c.args.prepared.runners.len r.prepared c.as_mut_slice.ensures.value c.as_mut_slice.ensures.len
    c.drive-how.ensures.same c.drive-how.ensures.sound in
    done.turned.callers

pub close_memory-outcome-requires-clause-all : goal.close_memory-outcome-requires-clause-all
close_memory-outcome-requires-clause-all g c =
    let w = c.requires.ready.0 in
    let r = c.requires.ready.1 in
    let s = c.args.prepared.stm in
    let done = done (g.K.MemRule.good s.rule) true w.header.policy w s (is_parsed-items Step w c.parsed_workloads_fit.ensures r.is_parsed)
    r.prepared.sized r.keeps (parted w.header.callers w.items) refl c.args.prepared.runners.items c.as_mut_slice.result.now
    c.drive-how.new.runners c.args.prepared.runners.len r.prepared c.as_mut_slice.ensures.value c.as_mut_slice.ensures.len
    c.drive-how.ensures.same c.drive-how.ensures.sound in
    done.turned.count

pub close_memory-outcome-requires-clause-room : goal.close_memory-outcome-requires-clause-room
close_memory-outcome-requires-clause-room g c =
    let w = c.requires.ready.0 in
    let r = c.requires.ready.1 in
    let s = c.args.prepared.stm in
    let done = done (g.K.MemRule.good s.rule) true w.header.policy w s (is_parsed-items Step w c.parsed_workloads_fit.ensures r.is_parsed)
    r.prepared.sized r.keeps (parted w.header.callers w.items) refl c.args.prepared.runners.items c.as_mut_slice.result.now
    c.drive-how.new.runners c.args.prepared.runners.len r.prepared c.as_mut_slice.ensures.value c.as_mut_slice.ensures.len
    c.drive-how.ensures.same c.drive-how.ensures.sound in
    let count = done.turned.count in
    let few = done.turned.rows in
    let callers = ap (λ (x : Config). x.callers) r.prepared.sized in
    let words = ap (λ (x : Config). x.words) r.prepared.sized in
    let descs = r.room.descs in
    let lists = r.room.lists in
    let rows = r.room.rows in
    let heap = r.room.words in
    record {
      empty = r.room.empty;
      none = r.room.none;
      descs = omega (arith, count, callers, descs);
      lists = omega (arith, count, callers, lists);
      rows = omega (arith, few, rows);
      words = omega (arith, words, heap);
    }

pub close_memory-outcome-requires-clause-through : goal.close_memory-outcome-requires-clause-through
close_memory-outcome-requires-clause-through g c =
    let w = c.requires.ready.0 in
    let r = c.requires.ready.1 in
    let s = c.args.prepared.stm in
    let done = done (g.K.MemRule.good s.rule) true w.header.policy w s (is_parsed-items Step w c.parsed_workloads_fit.ensures r.is_parsed)
    r.prepared.sized r.keeps (parted w.header.callers w.items) refl c.args.prepared.runners.items c.as_mut_slice.result.now
    c.drive-how.new.runners c.args.prepared.runners.len r.prepared c.as_mut_slice.ensures.value c.as_mut_slice.ensures.len
    c.drive-how.ensures.same c.drive-how.ensures.sound in
    driven-between s.config c.args.schedule.now (workers_in c.as_mut_slice.result.now)
    (workers_in
    (take c.args.prepared.runners.len (c.drive-how.new.runners ++ drop (length c.drive-how.new.runners) c.args.prepared.runners.items)))
    c.drive-how.new.trace.items c.drive-how.result
    (subst (λ l. Drives s.config c.args.schedule.now (workers_in c.as_mut_slice.result.now) (workers_in l) c.drive-how.new.trace.items c.drive-how.result) (sym done.is) c.drive-how.ensures.drives)

pub returns : goal.returns
returns g c w r is =
    let s = c.args.prepared.stm in
    let done = done (g.K.MemRule.good s.rule) true w.header.policy w s (is_parsed-items Step w c.parsed_workloads_fit.ensures r.is_parsed)
    r.prepared.sized r.keeps (parted w.header.callers w.items) refl c.args.prepared.runners.items c.as_mut_slice.result.now
    c.drive-how.new.runners c.args.prepared.runners.len r.prepared c.as_mut_slice.ensures.value c.as_mut_slice.ensures.len
    c.drive-how.ensures.same c.drive-how.ensures.sound in
    has-stepped (g.K.MemRule.good s.rule) true w.header.policy w s (is_parsed-items Step w c.parsed_workloads_fit.ensures r.is_parsed)
    r.prepared.sized c.report_replays.ensures r.regions refl refl (workers_in c.as_mut_slice.result.now)
    (workers_in c.drive-how.new.runners) c.args.schedule.now c.drive-how.new.trace.items c.drive-how.result c.close_memory-outcome.result is
    (subst (λ l.
    Begun (g.K.MemRule.good s.rule) true w.header.policy w s (is_parsed-items Step w c.parsed_workloads_fit.ensures r.is_parsed)
    r.prepared.sized (workers_in l)) (sym c.as_mut_slice.ensures.value) done.begun)
    (subst (λ l.
    Turned (g.K.MemRule.good s.rule) true w.header.policy w s (is_parsed-items Step w c.parsed_workloads_fit.ensures r.is_parsed)
    r.prepared.sized (workers_in l)) done.is done.turned) c.drive-how.ensures.drives
    (subst (λ l. Came (g.K.MemRule.good s.rule) s (workers_in l) c.drive-how.result c.close_memory-outcome.result) done.is c.close_memory-outcome.ensures)
