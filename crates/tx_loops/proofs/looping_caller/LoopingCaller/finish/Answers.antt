use Rattle.std.proofs.Common.{inl, inr, refl}
use Rattle.tx_checked.specs.declared.refusal.Refusal.TheVariants as refusals
use Rattle.tx_loops.proofs.LeaveLaws.{commit-done, commit-refused}
use Rattle.tx_loops.proofs.looping_caller.LoopingCaller.finish.Goals as goal

pub returns-in-Done-clause-says : goal.returns-in-Done-clause-says
returns-in-Done-clause-says g c =
    commit-done c.args.self.now.caller c.commit_body.new.caller c.plan_anew.new.self c.plan_anew.ensures.stage c.plan_anew.ensures.caller (c.commit_body.ensures.done c.in-Done.is)

pub returns-in-Again-clause-says : goal.returns-in-Again-clause-says
returns-in-Again-clause-says g c =
    let a = c.commit_body.ensures.again c.in-Again.is in
    inr ((a.nothing, inl (refl, a.log)), (refusals.Again a.word a.had a.now, a.hinders, tt, refl, a.refusal))

pub returns-in-Refused-clause-says : goal.returns-in-Refused-clause-says
returns-in-Refused-clause-says g c =
    let b = c.turned_down.ensures in
    commit-refused c.args.self.now.caller c.commit_body.new.caller c.turned_down.new.self c.turned_down.result b.stage b.caller b.turn (c.commit_body.ensures.refused c.in-Refused.is)
    (c.commit_body.ensures.hindered c.in-Refused.is)
