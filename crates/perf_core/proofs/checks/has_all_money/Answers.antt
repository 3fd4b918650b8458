use Rattle.std.proofs.Common.{◌≡◌, ◌*◌, ap, ◌∙◌, arith, take, length, min, nat_eq}
use Rattle.std.specs.List.{sum}
use Rattle.std.proofs.lemmas.List.{take_min}
use Rattle.perf_core.specs.declared.plan.TheConstants.{ACCOUNTS}
use Rattle.perf_core.proofs.checks.has_all_money.Goals as goal

pub returns : goal.returns
returns c =
    let words = c.args.words.now in
    let from = c.from.ensures in
    let all : c.sum_of.result ≡ sum (take ACCOUNTS words) = c.sum_of.ensures ∙ (ap (λ k. sum (take k words)) c.min.ensures ∙ ap sum (take_min ACCOUNTS words)) in
    let money : 1024 * c.from.result ≡ 1024000 = omega (arith, from) in
    (λ i. nat_eq (all i) (money i))
