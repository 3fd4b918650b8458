use Rattle.std.proofs.Common.{◌<◌, ◌+◌, ◌%◌, ◌^◌, length, subst, sym}
use Rattle.work_script.proofs.OperationLaws.{read-write-does}
use Rattle.work_script.proofs.operation.add.Goals as goal

pub returns-clause-reply : goal.returns-clause-reply
returns-clause-reply g c = λ m good len h.
    let lt : c.args.a < length m = subst (λ n. c.args.a < n) (sym len) c.requires.within in
    read-write-does m _ c.args.a c.in_ok-found.found _ (λ x. (x + c.args.k) % 2 ^ 64) _ lt c.in_ok-found.ensures.value c.in_ok-write.ensures.value h
