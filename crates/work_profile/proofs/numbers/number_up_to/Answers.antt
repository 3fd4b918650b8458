use Rattle.std.proofs.Common.{◌<◌, ◌^◌, ◌⊎◌, inl, inr, arith}
use Rattle.work_profile.proofs.WordLaws.{out-of-range}
use Rattle.work_profile.proofs.numbers.number_up_to.Goals as goal
use Rattle.work_profile.proofs.numbers.number_up_to.Goals.{then-n-lt1-via-then-n-lt1, then-n-lt1-via-else-n-lt1+then-from-n}

pub returns-then-n-lt1 : goal.returns-then-n-lt1
returns-then-n-lt1 c =
    let out : (c.in_ok-n.n < 1) ⊎ (c.args.most < c.in_ok-n.n) = elim c.then-n-lt1.branch [ then-n-lt1-via-then-n-lt1 w ↦ inl w.if-n-lt1.true | then-n-lt1-via-else-n-lt1+then-from-n w ↦ inr (omega arith) ] in
    let fits : c.in_ok-n.n < 2 ^ 64 = omega arith in
    λ n range. out-of-range c.args.word.now c.args.most c.in_ok-n.n n fits (omega arith) out c.in_ok-n.ensures range.0 range.1
