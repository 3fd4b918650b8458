use Rattle.std.proofs.Common.{subst, sym, ap, ◌∙◌}
use mathlib.Core.Option.{none}
use Rattle.atomic_table.specs.declared.shared.Seat.{Seat}
use Rattle.atomic_table.specs.Table.{step}
use Rattle.rule_base.specs.declared.seats.SeatView.{SeatView}
use Rattle.rule_base.specs.StepKinds.{word_after, answer_of, LawAt}
use Rattle.stm_rule.specs.Runs.CoreRuns.{core_kind}
use Rattle.stm_rule.proofs.KindLaws.Allowing.{allows_at, inside}
use Rattle.stm_rule.specs.Kept.{Rule}
use Rattle.stm_rule.proofs.stm.Stm.load_at.Goals as goal

pub load-requires : goal.load-requires
load-requires g c =
    let t = c.args.self.now in
    let z = t.table.shared.table_id in
    let r = c.requires in
    let kind = core_kind g.D.Stepping.caller g.D.Stepping.step in
    let s = c.seat.inside.seat in
    let law = subst (λ (q : Seat (Unit {0}) (SeatView g.row.K.Denot)). LawAt (Rule g.K.MemRule.good t.config t.rule) kind g.D.Stepping.shows g.D.Stepping.caller q.me.0.view) (sym c.seat.view_is) r.law in (
      ap (λ (q : Seat (Unit {0}) (SeatView g.row.K.Denot)). q.table_id) c.seat.view_is ∙ r.seat.0,
      inside t.config kind c.args.index z.words r.place.0 r.place.1 t.sized.0,
      allows_at g.K.MemRule.good t.config t.rule kind g.D.Stepping.shows g.D.Stepping.caller s.id s.me (step z.slots c.args.index 0 0 none)
          t.table.shared.key t.keyed z.slots c.args.index (λ x. x) (λ x. x) r.place.0 r.place.1
          (λ x. ap (λ a. word_after a x) r.act) (λ x. ap (λ a. answer_of a x) r.act) (ap (λ (q : Seat (Unit {0}) (SeatView g.row.K.Denot)). q.me.0.who.role) c.seat.view_is ∙ r.seat.1) law,
    )
