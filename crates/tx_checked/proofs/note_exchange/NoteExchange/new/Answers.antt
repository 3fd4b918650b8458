use Rattle.std.proofs.Common.{arith}
use Rattle.tx_checked.proofs.NoteExchanges.{fresh}
use Rattle.tx_checked.proofs.note_exchange.NoteExchange.new.Goals as goal

pub vacant-requires : goal.vacant-requires
vacant-requires c = fresh c.args.of.now c.as_slice.result.now c.args.callers (let long = c.as_slice.ensures.len in let made = c.in_ok-words.ensures.len in omega arith)
