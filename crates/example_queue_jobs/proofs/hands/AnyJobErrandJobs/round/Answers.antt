use Rattle.std.proofs.Common.{ℕ, [], ◌∷◌, ◌∙◌, Option, subst}
use Rattle.data_effects.specs.FreshLaws.{nothing}
use Rattle.data_queue.specs.Queues.{IsQueue, got_in}
use Rattle.tx_jobs.specs.Jobs.{HasDone, DoesOver, took-at}
use Rattle.example_queue_jobs.specs.Days.{Did, Taken}
use Rattle.example_queue_jobs.proofs.DeedLaws.{took, no-job}
use Rattle.example_queue_jobs.proofs.hands.AnyJobErrandJobs.round.Goals as goal

pub loop-preserved : goal.loop-preserved
loop-preserved g c =
    let s = g.C.Calls.seat c.loop.caller in
    let q = s.rule.waiting in
    let came = took-at (IsQueue q) s.words (λ (r : Option ℕ) log. DoesOver (IsQueue q) s.words (got_in q) nothing r log) (g.C.Calls.known c.loop.caller) (g.C.Calls.known c.run.new.self) c.in-Some-None.field-0-is c.in-Some-None.ensures.took in
    record {
      keeps = g.met.C.Calls.keeps_trans c.args.caller.now c.loop.caller c.run.new.self c.loop.invariant.keeps c.run.ensures.keeps;
      same = c.run.ensures.same ∙ c.loop.invariant.same;
      made = no-job q s.words came ∙ c.loop.invariant.made;
    }

pub returns-in-Some-Some-clause-postcondition : goal.returns-in-Some-Some-clause-postcondition
returns-in-Some-Some-clause-postcondition g c =
    let s = g.C.Calls.seat c.args.caller.now in
    let q = s.rule.waiting in
    let told = rw c.loop.invariant.same at c.in-Some-Some.ensures.took in
    let came = took-at (IsQueue q) s.words (λ (r : Option ℕ) log. DoesOver (IsQueue q) s.words (got_in q) nothing r log) (g.C.Calls.known c.loop.caller) (g.C.Calls.known c.run.new.self) c.in-Some-Some.field-0-is told in
    subst (λ b. HasDone (Did q s.words) (Taken c.in-Some-Some.job ∷ []) b (g.C.Calls.known c.run.new.self).made) c.loop.invariant.made
    (took q s.words c.requires.precondition c.in-Some-Some.job came)
