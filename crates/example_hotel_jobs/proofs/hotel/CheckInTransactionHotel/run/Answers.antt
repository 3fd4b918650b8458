use Rattle.std.proofs.Common.{rules, ◌∙◌, sym, arith}
use Rattle.std.specs.Prelude.{◌==◌}
use Rattle.tx_transaction.specs.WordLaws.{known, keeps-read, keeps-written, read-then}
use Rattle.example_hotel_jobs.proofs.HotelLaws.{few-keys, checked-in}
use Rattle.example_hotel_jobs.proofs.hotel.CheckInTransactionHotel.run.Goals as goal

pub returns-then-rooms-ne0-clause-kept : goal.returns-then-rooms-ne0-clause-kept
returns-then-rooms-ne0-clause-kept g c =
    keeps-read c.requires.good c.requires.fresh (read-then c.in_ok-guest.ensures.found c.in_ok-guest.ensures.frame (c.in_ok-rooms.ensures.found (λ x. x == c.args.self.now.guest) (λ x b small is. search rules)))

pub overflow_add-out : goal.overflow_add-out
overflow_add-out g c =
    known c.requires.good c.requires.fresh c.in_ok-guest.ensures.found
    (λ m s small ex. let few = few-keys m (s.1 ∙ c.requires.precondition.0) s.0 in omega (arith, ex.1.1.0))

pub returns-clause-kept : goal.returns-clause-kept
returns-clause-kept g c =
    let fits = c.requires.precondition in
    keeps-written c.requires.good c.requires.fresh (read-then c.in_ok-guest.ensures.found c.in_ok-guest.ensures.frame (c.in_ok-rooms.ensures.found (λ x. x == c.args.self.now.guest) (λ x b small is. search rules)))
    c.in_ok-write_words.ensures.wrote
    (λ m s small ex. checked-in m _ _ _ _ (s.1 ∙ fits.0) fits.1 fits.2 (let free = c.if-guest-ne0.false in omega (arith, ex.0.0)) ex.0.1.0 ex.0.1.1.0 (let none = c.if-rooms-ne0.false in sym ex.1 ∙ none) s.0)
