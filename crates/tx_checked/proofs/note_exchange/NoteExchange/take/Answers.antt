use Rattle.std.proofs.Common.{arith, ◌≡◌, ◌∷◌, [], ◌∙◌, ap}
use Rattle.std.specs.Prelude.{None}
use Rattle.atomic_table.specs.Table.{rest}
use Rattle.tx_checked.specs.NoteExchanges.{Hand}
use Rattle.tx_checked.proofs.NoteExchanges.{shut}
use Rattle.tx_checked.proofs.note_exchange.NoteExchange.take.Goals as goal

pub store-requires : goal.store-requires
store-requires c =
    let shared = c.args.self.now.table.shared in
    let seat = c.exchange-letter.new.seat in
    let told = c.exchange-letter.ensures in
    let was = c.in_ok-seat.ensures in
    let out : seat.me.1 ≡ (c.args.place, None) ∷ [] = ap (λ (m : Hand). m.1) told.3 ∙ ap (λ l. (c.args.place, None) ∷ rest l) was.out.1 in
    let known : seat.me.0 ≡ shared.key = ap (λ (m : Hand). m.0) told.3 ∙ was.key in
    let even = c.args.self.now.sized in
    let low = c.if-place-word_count.false in
    let count = c.word_count.ensures in
    (told.0 ∙ was.table, omega arith, shut shared.key shared.table_id.slots seat.id c.args.place 0 seat.me (None) out (tt) (omega arith))
