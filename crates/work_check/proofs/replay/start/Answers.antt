use Rattle.std.proofs.Common.{◌≡◌, [], List, length, replicate, refl, sym, ap, ◌∙◌, subst}
use Rattle.std.specs.Prelude.{slice_index_or}
use Rattle.std.proofs.lemmas.List.{length-replicate}
use Rattle.stm_model.specs.declared.plain.PlainWord.{PlainWord}
use Rattle.stm_model.specs.Plains.{openings, own_writes}
use Rattle.data_regions.specs.Regions.{AllWellFormed}
use Rattle.work_script.specs.Reports.{regions_of}
use Rattle.work_check.specs.declared.replay.Cursor.{Cursor}
use Rattle.work_check.specs.Ledgers.{zero_word}
use Rattle.work_check.specs.Standing.{IsAt}
use Rattle.work_check.proofs.LedgerLaws.{zeros-openings, zeros-writes}
use Rattle.work_check.proofs.StandingLaws.{first-cursors}
use Rattle.work_check.proofs.replay.start.Goals as goal

pub returns-clause-zeros : goal.returns-clause-zeros
returns-clause-zeros c = ap (λ (l : List PlainWord). openings l) c.in_ok-ledger.ensures ∙ zeros-openings c.args.workload.now.header.words

pub returns-clause-stands : goal.returns-clause-stands
returns-clause-stands c =
    let w = c.args.workload.now in
    let first : Cursor = record { item = 0; seq = 0 } in
    let is : c.in_ok-cursors.cursors.items ≡ replicate w.header.callers first = c.in_ok-cursors.ensures.items_if_clones_equal (λ y e. e) in
    record {
      settled = ap (λ (l : List PlainWord). own_writes l) c.in_ok-ledger.ensures ∙ zeros-writes 0 w.header.words;
      words = ap (λ (l : List PlainWord). length l) c.in_ok-ledger.ensures ∙ length-replicate w.header.words zero_word;
      well = subst (AllWellFormed (regions_of w.header)) (sym (returns-clause-zeros c)) (c.memories_stay_good.ensures.opening (regions_of w.header) w.header.words);
      callers = ap (λ (l : List Cursor). length l) is ∙ length-replicate w.header.callers first;
      each = λ n d lt. subst (λ (l : List Cursor). IsAt w.items [] n (slice_index_or l n d)) (sym is) (first-cursors w.items n w.header.callers d lt);
      others = λ n le. refl;
      wrote = refl;
    }
