use Rattle.nekchhaul_c.proofs.Looking.{not_free}
use Rattle.nekchhaul_c.proofs.peeking.peek_outside.Goals as goal

pub returns-in-Err : goal.returns-in-Err
returns-in-Err c = not_free c.args.address c.args.value.now c.of_misuse.result c.args.looping_caller.now c.in-Err.misuse c.in-Err.ensures.wrong c.of_misuse.ensures
