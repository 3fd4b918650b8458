use Rattle.rule_base.specs.StepKinds.{Nothing}
use Rattle.rule_orec.specs.OrecSteps.{orec_save, orec_place}
use Rattle.stm_rule.proofs.StandLemmas.{tells-of}
use Rattle.alg_orec.proofs.Eager.EagerTakingLaws as laws
use Rattle.alg_orec.proofs.eager_taking.store_first.Goals as goal

pub save-old-requires-clause-view : goal.save-old-requires-clause-view
save-old-requires-clause-view g c = laws.may-save c.args.stm.now.config c.args.a c.args.x c.args.local.now c.args.seat.now.me.0.view c.requires.view

pub push_new-requires : goal.push_new-requires
push_new-requires g c = record { new = c.requires.view.fresh }

pub place-requires-clause-view : goal.place-requires-clause-view
place-requires-clause-view g c =
    let old = c.save-old.result in
    let s = c.save-old.new.seat.me.0 in
    laws.may-place c.args.stm.now.config c.args.a c.args.x c.args.local.now c.args.seat.now.me.0.view c.requires.view old s.view (tells-of (orec_save c.args.a) Nothing c.args.seat.now.me.0 old s c.save-old.ensures.step)

pub push_new-requires-2 : goal.push_new-requires-2
push_new-requires-2 g c = record { new = c.requires.view.unlogged }

pub returns-clause-stores : goal.returns-clause-stores
returns-clause-stores g c =
    let old = c.save-old.result in
    let s = c.save-old.new.seat.me.0 in
    let w = c.place.new.seat.me.0 in
    laws.stores-first c.args.stm.now.config c.args.a c.args.x c.args.local.now c.args.seat.now.me.0.view c.requires.view old s.view
    (tells-of (orec_save c.args.a) Nothing c.args.seat.now.me.0 old s c.save-old.ensures.step)
    w.view c.push_new.new.self c.push_new-2.new.self c.push_new.result c.push_new-2.result (tells-of (orec_place c.args.a c.args.x) Nothing s c.args.x w c.place.ensures.step) c.push_new.ensures c.push_new-2.ensures
