use Rattle.std.proofs.Common.{arith, ◌≡◌, ◌∷◌, [], ◌∙◌, sym, ap, subst}
use Rattle.std.specs.Prelude.{Some}
use Rattle.atomic_table.specs.Table.{rest}
use Rattle.stm_model.specs.declared.rule.AnyMem.{AnyMem}
use Rattle.stm_rule.specs.Callers.{Handle}
use Rattle.tx_checked.specs.NoteExchanges.{IsLetter, Hand}
use Rattle.tx_checked.proofs.NoteExchanges.{entered, shut}
use Rattle.tx_checked.proofs.note_exchange.NoteExchange.lay.Goals as goal

pub load_new_seat-left-requires : goal.load_new_seat-left-requires
load_new_seat-left-requires c =
    let shared = c.args.self.now.table.shared in
    let low = c.if-place-word_count.false in
    let count = c.word_count.ensures in
    (omega arith, entered shared.key shared.table_id.slots c.args.place)

pub store-requires : goal.store-requires
store-requires c =
    let shared = c.args.self.now.table.shared in
    let seat = c.exchange.new.seat in
    let told = c.exchange.ensures in
    let was = c.in-Some.ensures in
    let out : seat.me.1 ≡ (c.args.place, Some c.args.letter) ∷ [] = ap (λ (m : Hand). m.1) told.3 ∙ ap (λ l. (c.args.place, Some c.args.letter) ∷ rest l) was.out.1 in
    let known : seat.me.0 ≡ shared.key = ap (λ (m : Hand). m.0) told.3 ∙ was.key in
    let even = c.args.self.now.sized in
    let low = c.if-place-word_count.false in
    let count = c.word_count.ensures in (
      told.0 ∙ was.table,
      omega arith,
      shut shared.key shared.table_id.slots seat.id c.args.place c.letter_to.result seat.me (Some c.args.letter) out
          (subst (λ (k : Handle AnyMem). IsLetter k c.args.letter) (sym known) c.requires) (omega arith),
    )
