use Rattle.std.proofs.Common.{arith}
use Rattle.tx_checked.proofs.NoteExchanges.{entered, opened}
use Rattle.tx_checked.proofs.note_exchange.NoteExchange.open.Goals as goal

pub load_new_seat-seat-requires : goal.load_new_seat-seat-requires
load_new_seat-seat-requires c =
    let shared = c.args.self.now.table.shared in
    (c.requires.place, entered shared.key shared.table_id.slots c.args.place)

pub compare_exchange-found-requires : goal.compare_exchange-found-requires
compare_exchange-found-requires c =
    let shared = c.args.self.now.table.shared in
    let seat = c.load_new_seat-seat.result.1 in
    let even = c.args.self.now.sized in
    let low = c.requires.place in
    (c.load_new_seat-seat.ensures.0, c.requires.place, opened shared.key shared.table_id.slots seat.id c.args.place c.args.wanted seat.me c.requires.wanted (omega arith))
