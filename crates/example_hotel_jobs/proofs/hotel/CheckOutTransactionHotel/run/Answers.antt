use Rattle.std.proofs.Common.{◌+◌, ◌∙◌, sym, arith}
use Rattle.tx_transaction.specs.RangeLaws.{part-of-range}
use Rattle.tx_transaction.specs.WordLaws.{known, keeps-written}
use Rattle.example_hotel_jobs.proofs.HotelLaws.{some-taken, checked-out}
use Rattle.example_hotel_jobs.proofs.hotel.CheckOutTransactionHotel.run.Goals as goal

pub overflow_sub-taken : goal.overflow_sub-taken
overflow_sub-taken g c =
    let fits = c.requires.precondition in
    known c.requires.good c.requires.fresh c.in_ok-guest.ensures.found
    (λ m s small ex. let some = some-taken m c.args.self.now.room (s.1 ∙ fits.0) fits.1 (λ none. c.if-guest-eq0.false (sym ex.0 ∙ none)) s.0 in omega (arith, ex.1.1.0))

pub overflow_sub-out : goal.overflow_sub-out
overflow_sub-out g c =
    let fits = c.requires.precondition in
    known c.requires.good c.requires.fresh c.in_ok-guest.ensures.found
    (λ m s small ex. let part = part-of-range m 8 16 (8 + c.args.self.now.room) (omega arith) (omega arith) (let long = s.1 in omega arith) in omega (arith, part, s.0.out, ex.1.0, ex.1.1.1.0))

pub returns-clause-kept : goal.returns-clause-kept
returns-clause-kept g c =
    let fits = c.requires.precondition in
    keeps-written c.requires.good c.requires.fresh c.in_ok-guest.ensures.found c.in_ok-write_words.ensures.wrote
    (λ m s small ex. checked-out m _ _ _ _ (s.1 ∙ fits.0) fits.1 (λ none. c.if-guest-eq0.false (sym ex.0 ∙ none)) ex.1.0 ex.1.1.0 ex.1.1.1.0 s.0)
