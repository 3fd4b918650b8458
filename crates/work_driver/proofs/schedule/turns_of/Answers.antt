use Rattle.std.proofs.Common.{ℕ, ◌≡◌, ap, arith, ◌-◌, ◌+◌, suc, [], ◌∷◌, ◌++◌}
use Rattle.std.specs.Prelude.{replicate}
use Rattle.work_trace.specs.Turns.{MaySay}
use Rattle.work_trace.specs.TurnLaws.{replicate-next, replicate-part}
use Rattle.work_driver.specs.AllWorkers.{workers_in}
use Rattle.work_driver.proofs.ScheduleLaws.{same-refl, same-trans, still-below, plays-none, plays-next, plays-halt, plays-as, plays-early, turns-play, turns-halt}
use Rattle.work_driver.proofs.schedule.turns_of.Goals as goal

pub loop-i-init : goal.loop-i-init
loop-i-init g c = record {
  sound = c.requires.sound;
  same = same-refl (workers_in c.args.runners.now);
  plays = plays-none c.args.stm.now.config MaySay (workers_in c.args.runners.now) c.args.trace.now.items;
}

pub returns-in-Err : goal.returns-in-Err
returns-in-Err g c =
    let n = c.args.go.caller in let i = c.loop-i._i in
    let lt = still-below (workers_in c.args.runners.now) (workers_in c.loop-i.runners) n c.loop-i.invariant.same c.requires.below in
    record {
      sound = c.turn.ensures.sound;
      same = same-trans (workers_in c.args.runners.now) (workers_in c.loop-i.runners) (workers_in c.turn.new.runners) c.loop-i.invariant.same c.turn.ensures.same;
      plays =
          plays-early c.args.stm.now.config MaySay (workers_in c.args.runners.now) (workers_in c.turn.new.runners) c.args.trace.now.items
          c.turn.new.trace.items (replicate i n ++ n ∷ []) (replicate (c.args.go.turns - suc i) n) (replicate c.args.go.turns n)
          c.in-Err.halt (replicate-part i c.args.go.turns n c.loop-i-test.true)
          (plays-halt c.args.stm.now.config MaySay (workers_in c.args.runners.now) (workers_in c.loop-i.runners)
          (workers_in c.turn.new.runners) c.args.trace.now.items c.loop-i.trace.items c.turn.new.trace.items (replicate i n) (n ∷ [])
          c.loop-i.invariant.plays c.in-Err.halt
          (turns-halt (g.K.MemRule.good c.args.stm.now.rule) c.args.stm.now (workers_in c.loop-i.runners) (workers_in c.turn.new.runners)
          c.loop-i.trace.items c.turn.new.trace.items n c.in-Err.halt lt c.in-Err.ensures.turns));
    }

pub loop-i-preserved : goal.loop-i-preserved
loop-i-preserved g c =
    let n = c.args.go.caller in let i = c.loop-i._i in
    let lt = still-below (workers_in c.args.runners.now) (workers_in c.loop-i.runners) n c.loop-i.invariant.same c.requires.below in
    record {
      sound = c.turn.ensures.sound;
      same = same-trans (workers_in c.args.runners.now) (workers_in c.loop-i.runners) (workers_in c.turn.new.runners) c.loop-i.invariant.same c.turn.ensures.same;
      plays =
          plays-as c.args.stm.now.config MaySay (workers_in c.args.runners.now) (workers_in c.turn.new.runners) c.args.trace.now.items
          c.turn.new.trace.items (replicate i n ++ n ∷ []) (replicate (i + 1) n) (replicate-next i n)
          (plays-next c.args.stm.now.config MaySay (workers_in c.args.runners.now) (workers_in c.loop-i.runners)
          (workers_in c.turn.new.runners) c.args.trace.now.items c.loop-i.trace.items c.turn.new.trace.items (replicate i n) (n ∷ [])
          c.loop-i.invariant.plays
          (turns-play (g.K.MemRule.good c.args.stm.now.rule) c.args.stm.now (workers_in c.loop-i.runners) (workers_in c.turn.new.runners) c.loop-i.trace.items c.turn.new.trace.items n lt c.in-Ok.ensures.turns));
    }

pub returns-clause-plays : goal.returns-clause-plays
returns-clause-plays g c =
    let n = c.args.go.caller in
    let most = c.loop-i.auto._i-end in let none = c.loop-i-test.false in
    let all : c.loop-i._i ≡ c.args.go.turns = omega (arith, most, none) in
    plays-as c.args.stm.now.config MaySay (workers_in c.args.runners.now) (workers_in c.loop-i.runners) c.args.trace.now.items
    c.loop-i.trace.items (replicate c.loop-i._i n) (replicate c.args.go.turns n) (ap (λ (k : ℕ). replicate k n) all)
    c.loop-i.invariant.plays
