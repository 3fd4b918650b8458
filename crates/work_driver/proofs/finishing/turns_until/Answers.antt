use Rattle.std.proofs.Common.{sym, ap, ◌∙◌, ◌+◌, subst}
use Rattle.work_worker.specs.declared.worker.Worker.{Worker}
use Rattle.work_worker.specs.Workers.{place_of}
use Rattle.work_driver.specs.AllWorkers.{worker_in, workers_in}
use Rattle.work_driver.specs.Untils.{may_until, stands_until}
use Rattle.work_driver.proofs.ScheduleLaws.{same-refl, same-trans, still-below, place-is, plays-none}
use Rattle.work_driver.proofs.RoundLaws.{again-plays, again-halts, until-turn, until-halt}
use Rattle.work_driver.proofs.WorkersLaws.{worker-at}
use Rattle.work_driver.proofs.finishing.turns_until.Goals as goal

pub loop-init : goal.loop-init
loop-init g c = record {
  next = tt;
  ends = tt;
  sound = c.requires.sound;
  same = same-refl (workers_in c.args.runners.now);
  ready = c.requires.ready;
  plays = (0, plays-none c.args.stm.now.config (may_until c.args.until) (workers_in c.args.runners.now) c.args.trace.now.items);
}

pub returns-then-stands : goal.returns-then-stands
returns-then-stands g c =
    let lt = still-below (workers_in c.args.runners.now) (workers_in c.loop.runners) c.args.caller c.loop.invariant.same c.requires.below in
    record {
      sound = c.loop.invariant.sound;
      same = c.loop.invariant.same;
      goes = (
        c.loop.invariant.plays.0,
        c.loop.invariant.plays.1,
        subst (stands_until c.args.until) (sym (place-is (workers_in c.loop.runners) c.args.caller
            (worker_in c.index-runners-caller.result) lt
            ∙ ap place_of (worker-at c.loop.runners c.args.caller c.index-runners-caller.result lt))) c.if-stands.ensures,
      );
    }

pub loop-preserved : goal.loop-preserved
loop-preserved g c =
    let lt = still-below (workers_in c.args.runners.now) (workers_in c.loop.runners) c.args.caller c.loop.invariant.same c.requires.below in
    let next = until-turn (g.K.MemRule.good c.args.stm.now.rule) c.args.stm.now c.args.caller (workers_in c.loop.runners)
    (workers_in c.turn.new.runners) c.loop.trace.items c.turn.new.trace.items lt c.args.until (worker_in c.index-runners-caller.result)
    c.loop.invariant.ready
    (λ h. c.if-stands.ensures (subst (λ (x : Worker g.row.K.Denot). stands_until c.args.until (place_of x)) (worker-at c.loop.runners c.args.caller c.index-runners-caller.result lt) h)) c.in-Ok.ensures.turns in
    record {
      next = tt;
      ends = tt;
      sound = c.turn.ensures.sound;
      same = same-trans (workers_in c.args.runners.now) (workers_in c.loop.runners) (workers_in c.turn.new.runners) c.loop.invariant.same c.turn.ensures.same;
      ready = next.1;
      plays = (
        c.loop.invariant.plays.0 + 1,
        again-plays c.args.stm.now.config (may_until c.args.until) (stands_until c.args.until) (workers_in c.args.runners.now)
            (workers_in c.loop.runners) (workers_in c.turn.new.runners) c.args.trace.now.items c.loop.trace.items c.turn.new.trace.items
            c.args.caller c.loop.invariant.plays.0 c.loop.invariant.plays.1 next.0,
      );
    }

pub returns-in-Err : goal.returns-in-Err
returns-in-Err g c =
    let lt = still-below (workers_in c.args.runners.now) (workers_in c.loop.runners) c.args.caller c.loop.invariant.same c.requires.below in
    record {
      sound = c.turn.ensures.sound;
      same = same-trans (workers_in c.args.runners.now) (workers_in c.loop.runners) (workers_in c.turn.new.runners) c.loop.invariant.same c.turn.ensures.same;
      goes =
          again-halts c.args.stm.now.config (may_until c.args.until) (stands_until c.args.until) (workers_in c.args.runners.now)
          (workers_in c.loop.runners) (workers_in c.turn.new.runners) c.args.trace.now.items c.loop.trace.items c.turn.new.trace.items
          c.args.caller c.loop.invariant.plays.0 c.loop.invariant.plays.1 c.in-Err.halt
          (until-halt (g.K.MemRule.good c.args.stm.now.rule) c.args.stm.now c.args.caller (workers_in c.loop.runners)
          (workers_in c.turn.new.runners) c.loop.trace.items c.turn.new.trace.items lt c.args.until
          (worker_in c.index-runners-caller.result) c.in-Err.halt c.loop.invariant.ready
          (λ h.
          c.if-stands.ensures (subst (λ (x : Worker g.row.K.Denot). stands_until c.args.until (place_of x))
          (worker-at c.loop.runners c.args.caller c.index-runners-caller.result lt) h)) c.in-Err.ensures.turns);
    }
