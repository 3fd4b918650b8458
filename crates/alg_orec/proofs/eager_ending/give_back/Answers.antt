use Rattle.std.proofs.Common.{◌≡◌, ◌<◌, ◌+◌, length, refl, arith, rules}
use Rattle.rule_orec.specs.OrecSteps.{orec_raise_clock}
use Rattle.stm_rule.proofs.StandLemmas.{tells-of}
use Rattle.alg_orec.specs.RecordFindings.{FindsClock}
use Rattle.alg_orec.proofs.Eager.EagerBackLaws as laws
use Rattle.alg_orec.proofs.eager_ending.give_back.Goals as goal

pub returns-then-count-eq0-clause-gives_back : goal.returns-then-count-eq0-clause-gives_back
returns-then-count-eq0-clause-gives_back g c =
    let none : length c.args.local.now.locks.items ≡ 0 = search rules in
    laws.gives-none c.args.stm.now.config c.args.local.now c.args.seat.now.me.0.view c.requires.view none

pub restore_all-requires-clause-view : goal.restore_all-requires-clause-view
restore_all-requires-clause-view g c = laws.may-restore c.args.stm.now.config c.args.local.now c.args.seat.now.me.0.view c.requires.view

pub overflow_add-least : goal.overflow_add-least
overflow_add-least g c =
    let some : 0 < length c.args.local.now.locks.items = search rules in
    let low = laws.low c.args.stm.now.config c.args.local.now c.args.seat.now.me.0.view c.requires.view some c.newest-least.result c.newest-least.ensures c.restore_all.new.seat.me.0.view c.restore_all.ensures.restores in
    omega arith

pub raise_clock-requires-clause-view : goal.raise_clock-requires-clause-view
raise_clock-requires-clause-view g c =
    let some : 0 < length c.args.local.now.locks.items = search rules in
    laws.may-raise_clock c.args.stm.now.config c.args.local.now c.args.seat.now.me.0.view c.requires.view some c.newest-least.result
    c.newest-least.ensures c.restore_all.new.seat.me.0.view c.restore_all.ensures.restores (c.newest-least.result + 1) refl

pub release_all_above-requires-clause-view : goal.release_all_above-requires-clause-view
release_all_above-requires-clause-view g c =
    let f = c.args.stm.now.config in
    let some : 0 < length c.args.local.now.locks.items = search rules in
    let u = c.restore_all.new.seat.me.0 in
    let least = c.newest-least.result + 1 in
    let w = c.raise_clock.new.seat.me.0 in
    laws.may-release f c.args.local.now c.args.seat.now.me.0.view c.requires.view some c.newest-least.result c.newest-least.ensures u.view c.restore_all.ensures.restores least c.raise_clock.result w.view
    (tells-of (orec_raise_clock least) (FindsClock f) u c.raise_clock.result w c.raise_clock.ensures.step)

pub returns-clause-gives_back : goal.returns-clause-gives_back
returns-clause-gives_back g c =
    let f = c.args.stm.now.config in
    let some : 0 < length c.args.local.now.locks.items = search rules in
    let u = c.restore_all.new.seat.me.0 in
    let least = c.newest-least.result + 1 in
    let w = c.raise_clock.new.seat.me.0 in
    laws.gives-all f c.args.local.now c.args.seat.now.me.0.view c.requires.view some c.newest-least.result c.newest-least.ensures u.view c.restore_all.ensures.restores least c.raise_clock.result w.view
    (tells-of (orec_raise_clock least) (FindsClock f) u c.raise_clock.result w c.raise_clock.ensures.step) c.release_all_above.new.seat.me.0.view c.release_all_above.ensures.releases
