use Rattle.std.proofs.Common.{rules, [], ◌∷◌, ◌∙◌, subst}
use Rattle.data_queue.specs.declared.queue.Put.{Put}
use Rattle.data_queue.specs.Queues.{IsQueue, put_in}
use Rattle.data_effects.specs.FreshLaws.{nothing}
use Rattle.tx_jobs.specs.Jobs.{HasDone, DoesOver, took-at}
use Rattle.example_queue_jobs.specs.Days.{Did, Given}
use Rattle.example_queue_jobs.proofs.DeedLaws.{gave, no-room}
use Rattle.example_queue_jobs.proofs.hands.give.Goals as goal

pub loop-init : goal.loop-init
loop-init g c = let keeps = g.met.C.Calls.keeps_refl c.args.caller.now in search (rules, keeps)

pub loop-preserved : goal.loop-preserved
loop-preserved g c =
    let s = g.C.Calls.seat c.loop.caller in
    let q = s.rule.waiting in
    let came = took-at (IsQueue q) s.words (λ (r : Put) log. DoesOver (IsQueue q) s.words (put_in q c.args.job) nothing r log) (g.C.Calls.known c.loop.caller) (g.C.Calls.known c.run.new.self) c.in-Some-NoRoom.field-0-is c.in-Some-NoRoom.ensures.took in
    record {
      keeps = g.met.C.Calls.keeps_trans c.args.caller.now c.loop.caller c.run.new.self c.loop.invariant.keeps c.run.ensures.keeps;
      same = c.run.ensures.same ∙ c.loop.invariant.same;
      made = no-room q s.words c.args.job came ∙ c.loop.invariant.made;
    }

pub returns-in-Some-Added-clause-gave : goal.returns-in-Some-Added-clause-gave
returns-in-Some-Added-clause-gave g c =
    let s = g.C.Calls.seat c.args.caller.now in
    let q = s.rule.waiting in
    let told = rw c.loop.invariant.same at c.in-Some-Added.ensures.took in
    let came = took-at (IsQueue q) s.words (λ (r : Put) log. DoesOver (IsQueue q) s.words (put_in q c.args.job) nothing r log) (g.C.Calls.known c.loop.caller) (g.C.Calls.known c.run.new.self) c.in-Some-Added.field-0-is told in
    subst (λ b. HasDone (Did q s.words) (Given c.args.job ∷ []) b (g.C.Calls.known c.run.new.self).made) c.loop.invariant.made
    (gave q s.words c.requires.precondition c.args.job c.ranges.job.fits came)
