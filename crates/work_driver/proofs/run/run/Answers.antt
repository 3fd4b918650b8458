use Rattle.std.proofs.Common.{◌≡◌, false, length, take, drop, ◌++◌, refl, sym, ap, ◌∙◌, subst, arith}
use Rattle.std.specs.Prelude.{All}
use Rattle.stm_model.specs.declared.config.Config.{Config}
use Rattle.work_trace.specs.declared.said.Phase.TheVariants.{Between}
use Rattle.work_worker.specs.declared.worker.Worker.{Worker}
use Rattle.work_driver.specs.AllWorkers.{IsReady, workers_in, how_all}
use Rattle.work_driver.specs.ClosedRuns.{Came}
use Rattle.work_driver.specs.Partings.{parted}
use Rattle.work_text.specs.declared.parse.Mode.TheVariants.{Run}
use Rattle.work_driver.proofs.OutcomeLaws.{Turned, done, ran-all, all-ready, how-between, has-run}
use Rattle.work_driver.proofs.PreparedLaws.{Begun, is_parsed-items, begun}
use Rattle.work_driver.proofs.WorkersLaws.{workers-length}
use Rattle.work_driver.proofs.run.run.Goals as goal

pub run_all-requires-clause-some : goal.run_all-requires-clause-some
run_all-requires-clause-some g c κs within =
    let policy = c.requires.ready.0 in
    let w = c.requires.ready.1 in
    let r = c.requires.ready.2 in
    let s = c.args.prepared.stm in
    let begun = begun (g.K.MemRule.good s.rule) false policy w s (is_parsed-items Run w c.parsed_workloads_fit.ensures r.is_parsed)
    r.prepared.sized r.keeps (parted w.header.callers w.items) (workers_in c.args.prepared.runners.items) refl r.prepared in
    let some = r.is_parsed.header.config.callers.0 in
    let many = begun.count in
    let same = ap length c.as_mut_slice.ensures.value in
    let count = workers-length c.args.prepared.runners.items in
    omega (arith, some, many, same, count)

pub run_all-requires-clause-ready : goal.run_all-requires-clause-ready
run_all-requires-clause-ready g c κs within =
    let policy = c.requires.ready.0 in
    let w = c.requires.ready.1 in
    let r = c.requires.ready.2 in
    let s = c.args.prepared.stm in
    let begun = begun (g.K.MemRule.good s.rule) false policy w s (is_parsed-items Run w c.parsed_workloads_fit.ensures r.is_parsed)
    r.prepared.sized r.keeps (parted w.header.callers w.items) (workers_in c.args.prepared.runners.items) refl r.prepared in
    subst (All (IsReady (g.K.MemRule.good s.rule) s)) (sym c.as_mut_slice.ensures.value)
    (all-ready (g.K.MemRule.good s.rule) false policy w s (is_parsed-items Run w c.parsed_workloads_fit.ensures r.is_parsed)
    r.prepared.sized c.args.prepared.runners.items begun.sound)

pub close_memory-requires-clause-sound : goal.close_memory-requires-clause-sound
close_memory-requires-clause-sound g c =
    let policy = c.requires.ready.0 in
    let w = c.requires.ready.1 in
    let r = c.requires.ready.2 in
    let s = c.args.prepared.stm in
    let ran = ran-all (g.K.MemRule.good s.rule) false policy w s (is_parsed-items Run w c.parsed_workloads_fit.ensures r.is_parsed)
    r.prepared.sized c.as_mut_slice.result.now c.run_all.new.runners c.run_all.ensures.count c.run_all.ensures.done in
    let done = done (g.K.MemRule.good s.rule) false policy w s (is_parsed-items Run w c.parsed_workloads_fit.ensures r.is_parsed)
    r.prepared.sized r.keeps (parted w.header.callers w.items) refl c.args.prepared.runners.items c.as_mut_slice.result.now
    c.run_all.new.runners c.args.prepared.runners.len r.prepared c.as_mut_slice.ensures.value c.as_mut_slice.ensures.len ran.same ran.sound
    in
    done.turned.sound

pub close_memory-requires-clause-callers : goal.close_memory-requires-clause-callers
close_memory-requires-clause-callers g c =
    let policy = c.requires.ready.0 in
    let w = c.requires.ready.1 in
    let r = c.requires.ready.2 in
    let s = c.args.prepared.stm in
    let ran = ran-all (g.K.MemRule.good s.rule) false policy w s (is_parsed-items Run w c.parsed_workloads_fit.ensures r.is_parsed)
    r.prepared.sized c.as_mut_slice.result.now c.run_all.new.runners c.run_all.ensures.count c.run_all.ensures.done in
    let done = done (g.K.MemRule.good s.rule) false policy w s (is_parsed-items Run w c.parsed_workloads_fit.ensures r.is_parsed)
    r.prepared.sized r.keeps (parted w.header.callers w.items) refl c.args.prepared.runners.items c.as_mut_slice.result.now
    c.run_all.new.runners c.args.prepared.runners.len r.prepared c.as_mut_slice.ensures.value c.as_mut_slice.ensures.len ran.same ran.sound
    in
    done.turned.callers

pub close_memory-requires-clause-all : goal.close_memory-requires-clause-all
close_memory-requires-clause-all g c =
    let policy = c.requires.ready.0 in
    let w = c.requires.ready.1 in
    let r = c.requires.ready.2 in
    let s = c.args.prepared.stm in
    let ran = ran-all (g.K.MemRule.good s.rule) false policy w s (is_parsed-items Run w c.parsed_workloads_fit.ensures r.is_parsed)
    r.prepared.sized c.as_mut_slice.result.now c.run_all.new.runners c.run_all.ensures.count c.run_all.ensures.done in
    let done = done (g.K.MemRule.good s.rule) false policy w s (is_parsed-items Run w c.parsed_workloads_fit.ensures r.is_parsed)
    r.prepared.sized r.keeps (parted w.header.callers w.items) refl c.args.prepared.runners.items c.as_mut_slice.result.now
    c.run_all.new.runners c.args.prepared.runners.len r.prepared c.as_mut_slice.ensures.value c.as_mut_slice.ensures.len ran.same ran.sound
    in
    done.turned.count

pub close_memory-requires-clause-room : goal.close_memory-requires-clause-room
close_memory-requires-clause-room g c =
    let policy = c.requires.ready.0 in
    let w = c.requires.ready.1 in
    let r = c.requires.ready.2 in
    let s = c.args.prepared.stm in
    let ran = ran-all (g.K.MemRule.good s.rule) false policy w s (is_parsed-items Run w c.parsed_workloads_fit.ensures r.is_parsed)
    r.prepared.sized c.as_mut_slice.result.now c.run_all.new.runners c.run_all.ensures.count c.run_all.ensures.done in
    let done = done (g.K.MemRule.good s.rule) false policy w s (is_parsed-items Run w c.parsed_workloads_fit.ensures r.is_parsed)
    r.prepared.sized r.keeps (parted w.header.callers w.items) refl c.args.prepared.runners.items c.as_mut_slice.result.now
    c.run_all.new.runners c.args.prepared.runners.len r.prepared c.as_mut_slice.ensures.value c.as_mut_slice.ensures.len ran.same ran.sound
    in
    let count = done.turned.count in
    let few = done.turned.rows in
    let callers = ap (λ (x : Config). x.callers) r.prepared.sized in
    let words = ap (λ (x : Config). x.words) r.prepared.sized in
    let descs = r.room.descs in
    let lists = r.room.lists in
    let rows = r.room.rows in
    let heap = r.room.words in
    record {
      empty = r.room.empty;
      none = r.room.none;
      descs = omega (arith, count, callers, descs);
      lists = omega (arith, count, callers, lists);
      rows = omega (arith, few, rows);
      words = omega (arith, words, heap);
    }

pub close_memory-requires-clause-through : goal.close_memory-requires-clause-through
close_memory-requires-clause-through g c =
    let policy = c.requires.ready.0 in
    let w = c.requires.ready.1 in
    let r = c.requires.ready.2 in
    let s = c.args.prepared.stm in
    let ran = ran-all (g.K.MemRule.good s.rule) false policy w s (is_parsed-items Run w c.parsed_workloads_fit.ensures r.is_parsed)
    r.prepared.sized c.as_mut_slice.result.now c.run_all.new.runners c.run_all.ensures.count c.run_all.ensures.done in
    let done = done (g.K.MemRule.good s.rule) false policy w s (is_parsed-items Run w c.parsed_workloads_fit.ensures r.is_parsed)
    r.prepared.sized r.keeps (parted w.header.callers w.items) refl c.args.prepared.runners.items c.as_mut_slice.result.now
    c.run_all.new.runners c.args.prepared.runners.len r.prepared c.as_mut_slice.ensures.value c.as_mut_slice.ensures.len ran.same ran.sound
    in
    how-between (workers_in (take c.args.prepared.runners.len (c.run_all.new.runners ++ drop (length c.run_all.new.runners) c.args.prepared.runners.items))) c.how_ended-how.result
    (subst (λ l. All (λ (w : Worker g.row.K.Denot). w.phase ≡ Between) (workers_in l)) (sym done.is) ran.between)

pub returns : goal.returns
returns g c policy w r =
    let s = c.args.prepared.stm in
    let ran = ran-all (g.K.MemRule.good s.rule) false policy w s (is_parsed-items Run w c.parsed_workloads_fit.ensures r.is_parsed)
    r.prepared.sized c.as_mut_slice.result.now c.run_all.new.runners c.run_all.ensures.count c.run_all.ensures.done in
    let done = done (g.K.MemRule.good s.rule) false policy w s (is_parsed-items Run w c.parsed_workloads_fit.ensures r.is_parsed)
    r.prepared.sized r.keeps (parted w.header.callers w.items) refl c.args.prepared.runners.items c.as_mut_slice.result.now
    c.run_all.new.runners c.args.prepared.runners.len r.prepared c.as_mut_slice.ensures.value c.as_mut_slice.ensures.len ran.same ran.sound
    in
    let ended = c.how_ended-how.ensures ∙ ap how_all (c.as_slice.ensures.value ∙ done.is) in
    has-run (g.K.MemRule.good s.rule) false policy w s (is_parsed-items Run w c.parsed_workloads_fit.ensures r.is_parsed) r.prepared.sized
    c.report_replays.ensures r.regions refl c.as_mut_slice.result.now c.run_all.new.runners c.how_ended-how.result c.close_memory.result
    (subst (λ l.
    Begun (g.K.MemRule.good s.rule) false policy w s (is_parsed-items Run w c.parsed_workloads_fit.ensures r.is_parsed) r.prepared.sized
    (workers_in l)) (sym c.as_mut_slice.ensures.value) done.begun) ran (subst
    (λ l.
    Turned (g.K.MemRule.good s.rule) false policy w s (is_parsed-items Run w c.parsed_workloads_fit.ensures r.is_parsed) r.prepared.sized
    (workers_in l)) done.is done.turned) ended
    (subst (λ l. Came (g.K.MemRule.good s.rule) s (workers_in l) c.how_ended-how.result c.close_memory.result) done.is c.close_memory.ensures)
