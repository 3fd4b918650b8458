use Rattle.std.proofs.Common.{rules, ◌∙◌}
use Rattle.tx_transaction.specs.WordLaws.{keeps-written}
use Rattle.example_hotel_jobs.proofs.HotelLaws.{moved}
use Rattle.example_hotel_jobs.proofs.hotel.MoveTransactionHotel.run.Goals as goal

pub returns-clause-kept : goal.returns-clause-kept
returns-clause-kept g c =
    let fits = c.requires.precondition in
    keeps-written c.requires.good c.requires.fresh c.in_ok-guest.ensures.found c.in_ok-write_words.ensures.wrote
    (λ m s small ex. moved m _ _ _ _ (s.1 ∙ fits.0) fits.1 fits.2 c.if-guest-eq0.false ex.0 (let free = c.if-other-ne0.false in ex.1.0 ∙ free) ex.1.1.0 s.0)
