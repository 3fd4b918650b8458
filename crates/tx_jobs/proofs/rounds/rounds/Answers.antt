use Rattle.std.proofs.Common.{ℕ, ◌≡◌, ◌∙◌, ◌+◌, add-one, arith, refl, subst}
use Rattle.tx_jobs.specs.Known.{Seat, Known}
use Rattle.tx_jobs.specs.Rounds.{Chain, nothing_yet, one_more}
use Rattle.tx_jobs.proofs.rounds.rounds.Goals as goal

-- one more was done
chain-next : {tells : ℕ → Known → Known → Type 0} {u : Known} {k : ℕ} {v w : Known} → Chain tells u k v → tells k v w → Chain tells u (k + 1) w
chain-next each told = rw add-one (one_more each told)

pub loop-round-init : goal.loop-round-init
loop-round-init g c = record { keeps = g.met.C.Calls.keeps_refl c.args.caller.now; same = refl; each = nothing_yet }

pub loop-round-preserved : goal.loop-round-preserved
loop-round-preserved g c =
    let was = c.loop-round.invariant in
    let told = subst (λ (s : Seat g.row.K.Denot). g.T.Round.postcondition c.args.each.now s.rule s.words s.number c.loop-round.round (g.C.Calls.known c.loop-round.caller) (g.C.Calls.known c.round.new.caller))
    was.same c.in-Some.ensures.postcondition in
    record {
      keeps = g.met.C.Calls.keeps_trans c.args.caller.now c.loop-round.caller c.round.new.caller was.keeps c.round.ensures.keeps;
      same = c.round.ensures.same ∙ was.same;
      each = chain-next was.each told;
    }

pub returns-in-None-clause-went : goal.returns-in-None-clause-went
returns-in-None-clause-went g c = record {
  last = g.C.Calls.known c.loop-round.caller;
  each = c.loop-round.invariant.each;
  since = g.met.C.Calls.grows c.loop-round.caller c.round.new.caller c.round.ensures.keeps;
  whole = λ all. absurd (let low = c.loop-round-test.true in omega arith);
}

pub returns-clause-went : goal.returns-clause-went
returns-clause-went g c =
    let all : c.loop-round.round ≡ c.args.count = omega arith in
    record {
      last = g.C.Calls.known c.loop-round.caller;
      each = subst (λ (k : ℕ). Chain (g.T.Round.postcondition c.args.each.now (g.C.Calls.seat c.args.caller.now).rule (g.C.Calls.seat c.args.caller.now).words (g.C.Calls.seat c.args.caller.now).number) (g.C.Calls.known c.args.caller.now) k (g.C.Calls.known c.loop-round.caller)) all c.loop-round.invariant.each;
      since = g.met.C.Calls.grows c.loop-round.caller c.loop-round.caller (g.met.C.Calls.keeps_refl c.loop-round.caller);
      whole = λ done. refl;
    }
