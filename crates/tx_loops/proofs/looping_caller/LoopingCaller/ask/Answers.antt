use Rattle.std.proofs.Common.{subst}
use Rattle.std.specs.Prelude.{Result, Ok}
use Rattle.stm_answers.specs.declared.answers.Irrev.{Irrev}
use Rattle.tx_checked.specs.declared.misuse.Misuse.{Misuse}
use Rattle.tx_checked.specs.Misuses.{running}
use Rattle.tx_checked.specs.Tells.{IsIrrevocable, Tells}
use Rattle.tx_loops.proofs.EnterLaws.{asked-busy, asked-conflict, asked-full, asked-taken}
use Rattle.tx_loops.proofs.looping_caller.LoopingCaller.ask.Goals as goal

pub returns-in-Taken-clause-says : goal.returns-in-Taken-clause-says
returns-in-Taken-clause-says c =
    let m = c.args.self.now in
    let k = c.try_irrevocable.new.self in
    let b = c.turn_back-in-Taken.ensures in
    let Told = λ (r : Result Irrev Misuse). Tells (running m.caller) (IsIrrevocable m.caller k) m.caller k r in
    let told = subst (λ (i : Irrev). Told (Ok i)) c.in-Taken.is (subst Told c.in-Ok.is c.try_irrevocable.ensures) in
    asked-taken m.caller k c.turn_back-in-Taken.new.self c.in-Taken.gate c.turn_back-in-Taken.result b.stage b.idle b.turn b.nothing b.refusal told

pub returns-in-Busy-clause-says : goal.returns-in-Busy-clause-says
returns-in-Busy-clause-says c =
    let m = c.args.self.now in
    let k = c.try_irrevocable.new.self in
    let Told = λ (r : Result Irrev Misuse). Tells (running m.caller) (IsIrrevocable m.caller k) m.caller k r in
    let told = subst (λ (i : Irrev). Told (Ok i)) c.in-Busy.is (subst Told c.in-Ok.is c.try_irrevocable.ensures) in
    asked-busy m.caller _ c.in-Busy.caller c.in-Busy.status _ c.requires.asking tt told

pub returns-in-Conflict-clause-says : goal.returns-in-Conflict-clause-says
returns-in-Conflict-clause-says c =
    let m = c.args.self.now in
    let k = c.try_irrevocable.new.self in
    let Told = λ (r : Result Irrev Misuse). Tells (running m.caller) (IsIrrevocable m.caller k) m.caller k r in
    let told = subst (λ (i : Irrev). Told (Ok i)) c.in-Conflict.is (subst Told c.in-Ok.is c.try_irrevocable.ensures) in
    let b = c.turned_down.ensures in
    asked-conflict m.caller k c.turned_down.new.self _ c.turned_down.result b.stage b.caller b.turn told

pub returns-in-ClockFull-clause-says : goal.returns-in-ClockFull-clause-says
returns-in-ClockFull-clause-says c =
    let m = c.args.self.now in
    let k = c.try_irrevocable.new.self in
    let Told = λ (r : Result Irrev Misuse). Tells (running m.caller) (IsIrrevocable m.caller k) m.caller k r in
    let told = subst (λ (i : Irrev). Told (Ok i)) c.in-ClockFull.is (subst Told c.in-Ok.is c.try_irrevocable.ensures) in
    let b = c.turned_down-in-ClockFull.ensures in
    asked-full m.caller k c.turned_down-in-ClockFull.new.self _ c.turned_down-in-ClockFull.result b.stage b.caller b.turn told
