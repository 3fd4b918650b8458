use Rattle.std.proofs.Common.{subst}
use Rattle.std.specs.Prelude.{Result, Ok}
use Rattle.stm_answers.specs.declared.answers.Read.{Read}
use Rattle.tx_checked.specs.declared.misuse.Misuse.{Misuse}
use Rattle.tx_checked.specs.Misuses.{access}
use Rattle.tx_checked.specs.Tells.{HasReadWord, Tells}
use Rattle.tx_checked.proofs.peeking.read_once.Goals as goal

pub returns-in-Ok-Value-clause-once : goal.returns-in-Ok-Value-clause-once
returns-in-Ok-Value-clause-once g c =
    let m = c.args.caller.now in
    let l = c.read_by.new.self in
    let Told = λ (r : Result Read Misuse). Tells (access c.args.a m) (HasReadWord c.args.a m l) m l r in
    let told = subst (λ (w : Read). Told (Ok w)) c.in-Ok-Value.field-0-is (subst Told c.in-Ok-Value.is c.read_by.ensures) in
    (l, told.1, told.2, c.end_unread.ensures.ended)
