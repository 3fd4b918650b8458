use Rattle.std.proofs.Common.{◌≡◌, sym, ap, ◌∙◌, refl, subst}
use Rattle.stm_model.specs.Memories.{AreWords}
use Rattle.stm_model.specs.Plains.{openings, own_writes}
use Rattle.data_regions.specs.Regions.{AllWellFormed}
use Rattle.work_script.specs.Outputs.{Output}
use Rattle.work_check.specs.Runs.{left_by}
use Rattle.work_check.proofs.RunLaws.{GaveRow, gave-row, well-left}
use Rattle.work_check.proofs.running.run.Goals as goal

small : (c : goal.After-into_words-replies) → AreWords (openings c.interpret.new.acc)
small c = subst AreWords ((c.in-Ok.ensures.good (openings c.args.ledger.now)).0 refl) c.has_words.ensures

gave : (c : goal.After-into_words-replies) → GaveRow c.args.regions.now c.args.kind c.args.script.now (openings c.args.ledger.now) c.interpret.new.acc c.interpret.new.out
gave c =
    gave-row c.args.regions.now c.args.kind c.args.script.now c.args.ledger.now c.interpret.new.acc c.in_ok-out.out c.interpret.new.out c.requires.ends c.requires.settled
    (ap (λ (o : Output). o.replies) c.in_ok-out.ensures) (ap (λ (o : Output). o.emits) c.in_ok-out.ensures) c.in-Ok.ensures.good (small c) c.in-Ok.ensures.gave

same : (c : goal.After-into_words-replies) → openings c.args.ledger.now ≡ openings c.interpret.new.acc
same c = (c.in-Ok.ensures.good (openings c.args.ledger.now)).0 refl

pub returns-clause-replies : goal.returns-clause-replies
returns-clause-replies c = c.into_words-replies.ensures.0 ∙ (gave c).replies

pub returns-clause-emits : goal.returns-clause-emits
returns-clause-emits c = c.into_words-replies.ensures.1 ∙ (gave c).emits

pub returns-clause-wrote : goal.returns-clause-wrote
returns-clause-wrote c = c.has_written-wrote.ensures ∙ (gave c).wrote

pub returns-clause-after : goal.returns-clause-after
returns-clause-after c =
    let k = c.end.ensures in
    record {
      memory = k.left ∙ (ap (λ m. left_by c.args.kind m (own_writes c.interpret.new.acc)) (sym (same c)) ∙ (gave c).left);
      settled = k.settled;
      words = k.length ∙ c.in-Ok.ensures.words;
      well = subst (AllWellFormed c.args.regions.now) (sym k.left) (well-left c.args.regions.now c.args.kind c.args.ledger.now c.interpret.new.acc (same c) (small c) c.requires.well c.in-Ok.ensures.well);
    }
