use Rattle.std.proofs.Common.{ℕ, List, length, refl}
use Rattle.tx_jobs.specs.Deeds.{IsDeed, HasDone}
use Rattle.tx_jobs.specs.DeedLaws.{in-order, in-one-order, conserved}
use Rattle.tx_jobs.proofs.laws.deeds_stand_in_one_order.Goals as goal

pub returns-clause-order : goal.returns-clause-order
returns-clause-order g c = λ rule opening floor history own legal are.
    in-order (g.K.MemRule.good rule) (length opening) (λ m. m) (λ d. g.D.Deed.moves d rule) opening floor history own refl legal are

pub returns-clause-closed : goal.returns-clause-closed
returns-clause-closed g c = λ rule own config alg words answers past came.
    let good = g.K.MemRule.good rule in
    let moves : g.row.D.Denot → List ℕ → List ℕ → Type 0 = λ d. g.D.Deed.moves d rule in
    in-one-order good (λ m. m) moves own (λ count n v before after. HasDone (IsDeed good count (λ m. m) moves) (own n v) before.made after.made)
    config.words config.callers refl refl (λ n v before after told. told) came

pub returns-clause-kept : goal.returns-clause-kept
returns-clause-kept g c = λ rule. conserved (λ d. g.D.Deed.moves d rule)
