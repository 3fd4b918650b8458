use Rattle.std.proofs.Common.{subst, sym}
use Rattle.std.specs.Prelude.{◌≡◌}
use Rattle.tx_loops.specs.declared.ends.CommitOutcome.{CommitOutcome}
use Rattle.tx_loops.specs.declared.ends.CommitOutcome.TheVariants.{Done, Again, Refused}
use Rattle.tx_loops.specs.Hindrances.{HindersCommit}
use Rattle.tx_loops.specs.Loops.{AsksAgain, EndsBy, IsRefused, IsThrough}
use Rattle.tx_loops.proofs.CommitLaws.{commit-comes}
use Rattle.tx_loops.proofs.ends.commit_body.Goals as goal

pub returns : goal.returns
returns g c =
    let m = c.args.caller.now in
    let n = c.commit_by.new.self in
    let P : CommitOutcome → Type 0 = λ o. (o ≡ Done → IsThrough m n) × (o ≡ Again → AsksAgain m n) × (o ≡ Refused → IsRefused m n × EndsBy (HindersCommit m n) n) in
    let b = subst P (sym c.outcome_of.ensures) (commit-comes m n c.commit_by.result c.requires.running c.commit_by.ensures) in
    record { done = b.0; again = b.1; refused = λ e. (b.2 e).0; hindered = λ e. (b.2 e).1 }
