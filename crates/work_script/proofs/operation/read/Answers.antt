use Rattle.std.proofs.Common.{◌<◌, length, subst, sym}
use Rattle.work_script.proofs.OperationLaws.{read-does}
use Rattle.work_script.proofs.operation.read.Goals as goal

pub returns-clause-reply : goal.returns-clause-reply
returns-clause-reply g c = λ m good len h.
    let lt : c.args.a < length m = subst (λ n. c.args.a < n) (sym len) c.requires.within in
    read-does m _ c.args.a c.in_ok-found.found _ lt c.in_ok-found.ensures.value h
