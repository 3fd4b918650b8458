use Rattle.std.proofs.Common.{ℕ, List, sym, ap, refl, subst, rules, ◌∙◌}
use Rattle.stm_model.specs.declared.rule.AnyMem.{AnyMem}
use Rattle.rule_base.specs.declared.seats.SeatView.{SeatView}
use Rattle.stm_rule.specs.declared.local.Local.{Local}
use Rattle.stm_answers.specs.CallerState.{is_irrevocable, wrote}
use Rattle.alg_ring.specs.Calls.{CanFinish, TookTurn}
use Rattle.alg_ring.proofs.Opening.{opened, has-attempt, stands-after}
use Rattle.test_interface.proofs.ring_tests.commits_in_turns.Goals as goal

abbrev any : AnyMem → List ℕ → Type 0
any rule memory = Unit {0}

pub turn-requires-clause-wrote : goal.turn-requires-clause-wrote
turn-requires-clause-wrote c =
    let stm = c.args.stm.now in
    let d = c.first.inside in
    let a = opened any stm d.number d.local c.first.view_is refl c.first.invariant.0.named c.first.invariant.0.low c.first.invariant.1 c.requires.first in
    record {
      attempt = has-attempt any stm a c.requires.running c.requires.algorithm;
      revocable = ap is_irrevocable (sym a.knows) ∙ c.requires.revocable;
      wrote = ap wrote (sym a.knows) ∙ c.requires.wrote;
      keeps = λ some m fine long ex small. tt;
    }

pub invariant_of-first : goal.invariant_of-first
invariant_of-first c =
    let stm = c.args.stm.now in
    let d = c.first.inside in
    let a = opened any stm d.number d.local c.first.view_is refl c.first.invariant.0.named c.first.invariant.0.low c.first.invariant.1 c.requires.first in
    (search rules, stands-after any stm a c.turn.new.seat.me.0 c.turn.new.local (ap (λ (y : SeatView AnyMem). y.who) c.turn.ensures.same.1) c.in-Some.ensures.turns.stands)

pub finish-ends-requires-clause-turn : goal.finish-ends-requires-clause-turn
finish-ends-requires-clause-turn c =
    let stm = c.args.stm.now in
    let d = c.first.inside in
    let t = c.in-None.ensures.turns in
    subst (λ (l : Local). CanFinish (any stm.rule) stm.config d.number l c.turn.new.seat.me.0.view) (sym t.0) (d.seat.me.0.view, t.1)

pub commit_for_answer-requires-clause-running : goal.commit_for_answer-requires-clause-running
commit_for_answer-requires-clause-running c = c.in-Again.ensures.commits.0.continues.running

pub invariant_of-first-in-None : goal.invariant_of-first-in-None
invariant_of-first-in-None c =
    let stm = c.args.stm.now in
    let d = c.first.inside in
    let v = d.seat.me.0.view in
    let a = opened any stm d.number d.local c.first.view_is refl c.first.invariant.0.named c.first.invariant.0.low c.first.invariant.1 c.requires.first in
    let t = c.in-None.ensures.turns in
    let r = c.finish-ends.ensures in
    let over = r.finishes v (subst (λ (l : Local). TookTurn (any stm.rule) stm.config d.number v l c.turn.new.seat.me.0.view) (sym t.0) t.1) in
    let who = ap (λ (y : SeatView AnyMem). y.who) r.same.1 ∙ ap (λ (y : SeatView AnyMem). y.who) c.turn.ensures.same.1 in
    (search rules, stands-after any stm a c.finish-ends.new.seat.me.0 c.finish-ends.new.local who over.stands)
