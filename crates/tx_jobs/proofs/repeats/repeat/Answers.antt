use Rattle.std.proofs.Common.{◌≡◌, ◌∙◌, arith, refl, subst}
use Rattle.tx_jobs.specs.Known.{Seat}
use Rattle.tx_jobs.specs.Repeats.{none}
use Rattle.tx_jobs.proofs.RepeatLaws.{made-at, made-next, made-same, raised-next}
use Rattle.tx_jobs.proofs.repeats.repeat.Goals as goal

pub loop-round-init : goal.loop-round-init
loop-round-init g c = record { keeps = g.met.C.Calls.keeps_refl c.args.caller.now; same = refl; installs = refl; took = none; counted = refl }

pub loop-round-preserved : goal.loop-round-preserved
loop-round-preserved g c =
    let inv = c.loop-round.invariant in
    let t = c.in-Some.ensures.took in
    let told = subst (λ (s : Seat g.row.K.Denot). g.T.Transaction.postcondition c.f-transaction.result s.rule s.words c.in-Some.field-0 t.log) inv.same t.told in
    record {
      keeps = g.met.C.Calls.keeps_trans c.args.caller.now c.loop-round.caller c.run.new.self inv.keeps c.run.ensures.keeps;
      same = c.run.ensures.same ∙ inv.same;
      installs = c.run.ensures.installs ∙ inv.installs;
      took = made-next t.log inv.took (c.f-transaction.result, c.f-transaction.ensures, c.in-Some.field-0, told) t.made;
      counted = raised-next (g.C.Calls.known c.args.caller.now).commits c.loop-round.round _ _ inv.counted c.in-Some.ensures.counted;
    }

pub returns-in-None-clause-took : goal.returns-in-None-clause-took
returns-in-None-clause-took g c = made-same _ _ _ _ _ c.in-None.ensures.none c.loop-round.invariant.took

pub returns-in-None-clause-counted : goal.returns-in-None-clause-counted
returns-in-None-clause-counted g c = c.in-None.ensures.uncounted ∙ c.loop-round.invariant.counted

pub returns-clause-took : goal.returns-clause-took
returns-clause-took g c = let same : c.loop-round.round ≡ c.args.rounds = omega arith in made-at c.loop-round.invariant.took same
