use Rattle.std.proofs.Common.{◌+◌, ◌∙◌, map, append-nil, refl, subst, sym}
use Rattle.std.specs.List.{range_with_len}
use Rattle.std.proofs.lemmas.List.FromFn.{map-range_with_len_more}
use Rattle.tx_jobs.specs.Jobs.{HasDone, done-none, done-then}
use Rattle.example_queue_jobs.specs.Days.{Deed, Did, Given}
use Rattle.example_queue_jobs.proofs.hands.give_all.Goals as goal

pub loop-i-init : goal.loop-i-init
loop-i-init g c = record { keeps = g.met.C.Calls.keeps_refl c.args.caller.now; same = refl; gave = done-none refl }

pub loop-i-preserved : goal.loop-i-preserved
loop-i-preserved g c =
    let s = g.C.Calls.seat c.args.caller.now in
    let i = c.loop-i.i in
    let did = rw (c.loop-i.invariant.same, c.if-not-give.false) at c.give.ensures.gave in
    record {
      keeps = g.met.C.Calls.keeps_trans c.args.caller.now c.loop-i.caller c.give.new.caller c.loop-i.invariant.keeps c.give.ensures.keeps;
      same = c.give.ensures.same ∙ c.loop-i.invariant.same;
      gave = subst (λ ds. HasDone (Did s.rule.waiting s.words) ds (g.C.Calls.known c.args.caller.now).made (g.C.Calls.known c.give.new.caller).made)
          (sym (map-range_with_len_more {X = Deed} Given c.args.first i (c.args.first + i) refl)) (done-then {does = Did s.rule.waiting s.words} c.loop-i.invariant.gave did);
    }

pub returns-then-not-give-clause-gave : goal.returns-then-not-give-clause-gave
returns-then-not-give-clause-gave g c =
    let s = g.C.Calls.seat c.args.caller.now in
    let did = rw (c.loop-i.invariant.same, c.if-not-give.true) at c.give.ensures.gave in
    subst (λ ds. HasDone (Did s.rule.waiting s.words) ds (g.C.Calls.known c.args.caller.now).made (g.C.Calls.known c.give.new.caller).made)
    (append-nil (map Given (range_with_len c.args.first c.loop-i.i))) (done-then {does = Did s.rule.waiting s.words} c.loop-i.invariant.gave did)
