use Rattle.std.proofs.Common.{refl, subst}
use Rattle.std.specs.Prelude.{Ok}
use Rattle.stm_answers.specs.declared.answers.Irrev.{Irrev}
use Rattle.tx_checked.specs.CheckedCallers.{known_to}
use Rattle.tx_checked.specs.Misuses.{running}
use Rattle.tx_checked.specs.Tells.{IsIrrevocable, Tells}
use Rattle.tx_loops.proofs.BindLaws.{granted, like-before}
use Rattle.tx_loops.proofs.looping_caller.LoopingCaller.bind.Goals as goal

pub returns-in-Ok-Granted : goal.returns-in-Ok-Granted
returns-in-Ok-Granted c =
    let m = c.args.self.now in
    let k = c.try_irrevocable.new.self in
    let n = c.lay_down.new.caller in
    let tells = subst (λ (r : Irrev). Tells (running m.caller) (IsIrrevocable m.caller k) m.caller k (Ok r)) c.in-Ok-Granted.field-0-is c.in-Ok-Granted.ensures in
    let g = granted m.caller k tells in
    (k, tells, (c.lay_down.ensures.nothing, refl, like-before m.stage (known_to m.caller).log (known_to k).log (known_to n).log m.buffer.items g.log c.lay_down.ensures.log))

pub returns-in-Ok-Busy : goal.returns-in-Ok-Busy
returns-in-Ok-Busy c =
    let m = c.args.self.now.caller in
    let k = c.try_irrevocable.new.self in
    (k, subst (λ (r : Irrev). Tells (running m) (IsIrrevocable m k) m k (Ok r)) c.in-Ok-Busy.field-0-is c.in-Ok-Busy.ensures, (refl, record { buffer = refl; stage = refl; plan = refl }))

pub returns-in-Ok-Taken : goal.returns-in-Ok-Taken
returns-in-Ok-Taken c =
    let m = c.args.self.now.caller in
    let k = c.try_irrevocable.new.self in
    (k, subst (λ (r : Irrev). Tells (running m) (IsIrrevocable m k) m k (Ok r)) c.in-Ok-Taken.field-0-is c.in-Ok-Taken.ensures, (refl, record { buffer = refl; stage = refl; plan = refl }))

pub returns-in-Ok-Conflict : goal.returns-in-Ok-Conflict
returns-in-Ok-Conflict c =
    let m = c.args.self.now.caller in
    let k = c.try_irrevocable.new.self in
    (k, subst (λ (r : Irrev). Tells (running m) (IsIrrevocable m k) m k (Ok r)) c.in-Ok-Conflict.field-0-is c.in-Ok-Conflict.ensures, (refl, refl))

pub returns-in-Ok-ClockFull : goal.returns-in-Ok-ClockFull
returns-in-Ok-ClockFull c =
    let m = c.args.self.now.caller in
    let k = c.try_irrevocable.new.self in
    (k, subst (λ (r : Irrev). Tells (running m) (IsIrrevocable m k) m k (Ok r)) c.in-Ok-ClockFull.field-0-is c.in-Ok-ClockFull.ensures, (refl, refl))
