use Rattle.std.proofs.Common.{subst}
use Rattle.std.specs.Prelude.{Result, Ok}
use Rattle.stm_answers.specs.declared.answers.Write.{Write}
use Rattle.tx_checked.specs.declared.misuse.Misuse.{Misuse}
use Rattle.tx_checked.specs.Misuses.{access}
use Rattle.tx_checked.specs.Tells.{HasWrittenWord, Tells}
use Rattle.tx_loops.proofs.WriteLaws.{wrote-at}
use Rattle.tx_loops.proofs.looping_caller.LoopingCaller.write_plain_by.Goals as goal

pub invariant_of-self : goal.invariant_of-self
invariant_of-self g c =
    let m = c.args.self.now in
    let n = c.write_by.new.self in
    let Told = λ (r : Result Write Misuse). Tells (access c.args.a m.caller) (HasWrittenWord c.args.a c.args.x m.caller n) m.caller n r in
    let told = subst (λ (w : Write). Told (Ok w)) c.in-Ok-Done.field-0-is (subst Told c.in-Ok-Done.is c.write_by.ensures) in
    record { at_stage = wrote-at m.stage c.args.a c.args.x m.buffer.items m.caller n c.requires.plain m.at_stage told }
