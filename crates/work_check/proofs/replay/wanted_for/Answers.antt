use Rattle.std.proofs.Common.{List, ◌+◌, ◌++◌, ◌∷◌, [], length, sym, ap, ◌∙◌, arith, subst}
use Rattle.stm_model.specs.declared.plain.PlainWord.{PlainWord}
use Rattle.stm_model.specs.Plains.{openings, own_writes}
use Rattle.data_regions.specs.Regions.{AllWellFormed}
use Rattle.work_script.specs.Reports.{regions_of}
use Rattle.work_check.specs.declared.replay.Cursor.{Cursor}
use Rattle.work_check.specs.Standing.{IsAt}
use Rattle.std.specs.Prelude.{slice_index_or}
use Rattle.std.proofs.lemmas.List.{length-set}
use Rattle.work_check.proofs.StandingLaws.{each-at, wrote-one, rows-beyond, rows-length}
use Rattle.work_check.proofs.replay.wanted_for.Goals as goal

pub pass-requires-clause-seq : goal.pass-requires-clause-seq
pass-requires-clause-seq c =
    let next = c.in-Some.ensures.some.next in
    let l = rows-length c.args.row.now.caller c.args.above.now in
    let k = c.requires.count in
    omega arith

pub returns-clause-stands : goal.returns-clause-stands
returns-clause-stands c = λ yes.
    let w = c.args.workload.now in
    let r = c.args.row.now in
    let s = c.requires.stands in
    let behind = c.in_ok-wanted.ensures.after c.in_default-2.is in
    let p = c.pass.ensures in
    let cursors = c.args.standing.now.cursors.items in
    let new : Cursor = record { item = c.in-Some.item; seq = r.seq + 1 } in
    record {
      settled = ap own_writes p.ledger ∙ behind.settled;
      words = ap (λ (l : List PlainWord). length l) p.ledger ∙ (behind.words ∙ s.words);
      well = subst (λ (l : List PlainWord). AllWellFormed (regions_of w.header) (openings l)) (sym p.ledger) (subst (λ rs. AllWellFormed rs (openings c.wanted_row.new.ledger)) c.requires.regions behind.well);
      callers = ap (λ (l : List Cursor). length l) p.cursors ∙ (length-set cursors r.caller new ∙ s.callers);
      each = λ n d lt. subst (λ (l : List Cursor). IsAt w.items (c.args.above.now ++ r ∷ []) n (slice_index_or l n d)) (sym p.cursors)
          (each-at w c.args.above.now r c.in-Some.item c.in-Some.script.now cursors c.in-Some.ensures.some (λ m e k. s.each m e (let q = s.callers in omega arith)) n d (let q = s.callers in omega arith));
      others = λ n le. rows-beyond n w.header.callers c.args.above.now r le c.in-Some.ensures.some.caller (s.others n le);
      wrote = p.wrote ∙ wrote-one c.args.above.now r c.args.standing.now.wrote s.wrote;
    }

pub wanted_next-requires-clause-wrong : goal.wanted_next-requires-clause-wrong
wanted_next-requires-clause-wrong c = c.in_default.ensures.none

pub returns-in_default-clause-wanted : goal.returns-in_default-clause-wanted
returns-in_default-clause-wanted c = c.wanted_next.ensures (openings c.args.standing.now.ledger)
