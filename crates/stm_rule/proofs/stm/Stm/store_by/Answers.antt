use Rattle.std.proofs.Common.{ap}
use mathlib.Core.Option.{none}
use Rattle.atomic_table.specs.Table.{step}
use Rattle.rule_base.specs.StepKinds.{word_after, answer_of}
use Rattle.stm_rule.specs.Runs.CoreRuns.{core_kind}
use Rattle.stm_rule.proofs.KindLaws.Allowing.{allows_at, inside}
use Rattle.stm_rule.proofs.stm.Stm.store_by.Goals as goal

pub store-requires : goal.store-requires
store-requires g c =
    let t = c.args.self.now in
    let z = t.table.shared.table_id in
    let r = c.requires in
    let kind = core_kind g.D.Stepping.caller g.D.Stepping.step in
    let index = c.args.index in (
      r.seat.0,
      inside t.config kind index z.words r.place.0 r.place.1 t.sized.0,
      allows_at g.K.MemRule.good t.config t.rule kind g.D.Stepping.shows g.D.Stepping.caller c.args.seat.now.id c.args.seat.now.me
          (step z.slots index c.args.new 0 none) t.table.shared.key t.keyed z.slots index (λ _. c.args.new) (λ _. c.args.new) r.place.0
          r.place.1
          (λ x. ap (λ a. word_after a x) r.act) (λ x. ap (λ a. answer_of a x) r.act) r.seat.1 r.law,
    )
