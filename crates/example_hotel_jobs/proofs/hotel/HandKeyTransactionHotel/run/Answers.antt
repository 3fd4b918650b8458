use Rattle.std.proofs.Common.{rules, ◌∙◌, sym, arith}
use Rattle.tx_transaction.specs.WordLaws.{known, keeps-written}
use Rattle.example_hotel_jobs.proofs.HotelLaws.{few-keys, handed-key}
use Rattle.example_hotel_jobs.proofs.hotel.HandKeyTransactionHotel.run.Goals as goal

pub overflow_add-out : goal.overflow_add-out
overflow_add-out g c =
    known c.requires.good c.requires.fresh c.in_ok-guest.ensures.found
    (λ m s small ex. let few = few-keys m (s.1 ∙ c.requires.precondition.0) s.0 in omega (arith, ex.1.1.0))

pub returns-clause-kept : goal.returns-clause-kept
returns-clause-kept g c =
    let fits = c.requires.precondition in
    keeps-written c.requires.good c.requires.fresh c.in_ok-guest.ensures.found c.in_ok-write_words.ensures.wrote
    (λ m s small ex.
    let most = s.0.two c.args.self.now.room fits.1 in
    handed-key m _ _ _ (s.1 ∙ fits.0) fits.1 (λ none. c.if-guest-eq0.false (sym ex.0 ∙ none)) ex.1.0 ex.1.1.0 (let other = c.if-keys-eq2.false in omega (arith, ex.1.0)) s.0)
