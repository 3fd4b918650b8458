use Rattle.std.proofs.Common.{ℕ, ◌∙◌, List, [], ◌∷◌, Some, length-append, arith, refl, subst, sym}
use Rattle.tx_jobs.specs.Known.{Seat}
use Rattle.tx_jobs.specs.Gathered.{Listed, none_yet, one_more}
use Rattle.tx_jobs.proofs.gather.gather.Goals as goal

pub loop-round-init : goal.loop-round-init
loop-round-init g c =
    let s = g.C.Calls.seat c.args.caller.now in
    let u = g.C.Calls.known c.args.caller.now in
    record {
      keeps = g.met.C.Calls.keeps_refl c.args.caller.now;
      same = refl;
      count = let len = c.in_ok-list.ensures.items in simp len refl;
      capacity = let exact = c.in_ok-list.ensures.exact in omega (arith, exact);
      each = subst (λ xs. Listed (g.T.Errand.postcondition c.args.each.now s.rule s.words s.number) u xs u) (sym c.in_ok-list.ensures.items) none_yet;
    }

pub loop-round-preserved : goal.loop-round-preserved
loop-round-preserved g c =
    let was = c.loop-round.invariant in
    let s = g.C.Calls.seat c.args.caller.now in
    let u = g.C.Calls.known c.args.caller.now in
    let v = g.C.Calls.known c.loop-round.caller in
    let w = g.C.Calls.known c.round.new.caller in
    let xs = c.loop-round.list.items in
    let x = c.in-Some.item in
    let tells = g.T.Errand.postcondition c.args.each.now in
    let here = subst (λ (s : Seat g.row.K.Denot). tells s.rule s.words s.number c.loop-round.round (Some x) v w) was.same c.in-Some.ensures.postcondition in
    let told = subst (λ (k : ℕ). tells s.rule s.words s.number k (Some x) v w) (sym was.count) here in
    record {
      keeps = g.met.C.Calls.keeps_trans c.args.caller.now c.loop-round.caller c.round.new.caller was.keeps c.round.ensures.keeps;
      same = c.round.ensures.same ∙ was.same;
      count = let more = c.push_reserved.ensures.items in let len = length-append xs (x ∷ []) in let count = was.count in simp more (omega (arith, len, count));
      capacity = let before = was.capacity in let same = c.push_reserved.ensures.capacity in omega (arith, before, same);
      each = subst (λ ys. Listed (tells s.rule s.words s.number) u ys w) (sym {A = List g.row.T-Item.Denot} c.push_reserved.ensures.items) (one_more x was.each told);
    }
