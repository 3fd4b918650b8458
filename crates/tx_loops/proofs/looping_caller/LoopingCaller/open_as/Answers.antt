use Rattle.std.proofs.Common.{◌∙◌, subst}
use Rattle.std.specs.Prelude.{Result, Ok}
use Rattle.stm_answers.specs.declared.answers.Begin.{Begin}
use Rattle.tx_checked.specs.declared.misuse.Misuse.{Misuse}
use Rattle.tx_checked.specs.Misuses.{outside}
use Rattle.tx_checked.specs.Tells.{HasBegun, Tells}
use Rattle.tx_loops.proofs.EnterLaws.{asked-at-once, clock-out, closed-out, held-out}
use Rattle.tx_loops.proofs.looping_caller.LoopingCaller.open_as.Goals as goal

pub returns-then-is_urgent-clause-says : goal.returns-then-is_urgent-clause-says
returns-then-is_urgent-clause-says g c =
    let m = c.args.self.now in
    let k = c.begin_as.new.self in
    let Told = λ (r : Result Begin Misuse). Tells (outside m.caller) (HasBegun m.caller k) m.caller k r in
    let told = subst (λ (i : Begin). Told (Ok i)) c.in-Begun.is (subst Told c.in_ok-alg.was c.begin_as.ensures) in
    asked-at-once m.caller k c.ask.new.self c.in-Begun.alg c.ask.result told c.ask.ensures.says

pub returns-in-Closed-clause-says : goal.returns-in-Closed-clause-says
returns-in-Closed-clause-says g c =
    let m = c.args.self.now in
    let k = c.begin_as.new.self in
    let Told = λ (r : Result Begin Misuse). Tells (outside m.caller) (HasBegun m.caller k) m.caller k r in
    let told = subst (λ (i : Begin). Told (Ok i)) c.in-Closed.is (subst Told c.in_ok-alg.was c.begin_as.ensures) in
    closed-out m.caller _ c.in-Closed.gate _ c.requires.free tt told

pub returns-in-Held-clause-says : goal.returns-in-Held-clause-says
returns-in-Held-clause-says g c =
    let m = c.args.self.now in
    let k = c.begin_as.new.self in
    let Told = λ (r : Result Begin Misuse). Tells (outside m.caller) (HasBegun m.caller k) m.caller k r in
    let told = subst (λ (i : Begin). Told (Ok i)) c.in-Held.is (subst Told c.in_ok-alg.was c.begin_as.ensures) in
    held-out m.caller _ c.in-Held.word _ c.requires.free tt told

pub returns-in-ClockFull-clause-says : goal.returns-in-ClockFull-clause-says
returns-in-ClockFull-clause-says g c =
    let m = c.args.self.now in
    let k = c.begin_as.new.self in
    let Told = λ (r : Result Begin Misuse). Tells (outside m.caller) (HasBegun m.caller k) m.caller k r in
    let told = subst (λ (i : Begin). Told (Ok i)) c.in-ClockFull.is (subst Told c.in_ok-alg.was c.begin_as.ensures) in
    clock-out m.caller k c.plan_anew.new.self c.in-ClockFull.clock (c.plan_anew.ensures.stage ∙ c.requires.free) c.plan_anew.ensures.caller told
