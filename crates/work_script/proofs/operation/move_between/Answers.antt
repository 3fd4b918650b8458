use Rattle.std.proofs.Common.{◌<◌, length, subst, sym}
use Rattle.work_script.proofs.OperationLaws.{little-does, move-does}
use Rattle.work_script.proofs.operation.move_between.Goals as goal

pub returns-then-found-k-clause-reply : goal.returns-then-found-k-clause-reply
returns-then-found-k-clause-reply g c = λ m good len h.
    let lt : c.args.a < length m = subst (λ n. c.args.a < n) (sym len) c.requires.from in
    little-does m _ c.args.a c.args.b c.args.k c.in_ok-found.found _ lt c.if-found-k.true c.in_ok-found.ensures.value h

pub returns-clause-reply : goal.returns-clause-reply
returns-clause-reply g c = λ m good len h.
    let from : c.args.a < length m = subst (λ n. c.args.a < n) (sym len) c.requires.from in
    let onto : c.args.b < length m = subst (λ n. c.args.b < n) (sym len) c.requires.onto in
    move-does m _ c.args.a c.args.b c.args.k c.in_ok-found.found c.in_ok-other.other _ _ _ _ from onto c.if-found-k.false
    c.in_ok-found.ensures.value c.in_ok-write.ensures.value c.in_ok-other.ensures.value c.in_ok-write-2.ensures.value h
