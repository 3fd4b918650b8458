use Rattle.std.proofs.Common.{ℕ, ◌≡◌, ◌≤◌, ◌-◌, [], length, get_or, refl, sym, ap, subst, rules, ◌∙◌, arith}
use Rattle.std.specs.Prelude.{nat_lt}
use Rattle.rule_base.specs.declared.seats.SeatView.{SeatView}
use Rattle.stm_rule.specs.declared.local.Local.{Local}
use Rattle.stm_rule.specs.Attempts.{own_of}
use Rattle.stm_answers.specs.declared.answers.Roll.TheVariants.{Rolled}
use Rattle.stm_answers.specs.Answers.{Rolls}
use Rattle.stm_answers.specs.CallerState.{CallerState, known_of}
use Rattle.stm_logs.specs.LogStates.{LogState, rolled}
use Rattle.stm_gate.proofs.MarkLaws.{some-by}
use Rattle.stm_gate.proofs.Opening.{opened, stands-after, tells-of}
use Rattle.alg_orec.specs.EagerNesting.{RestoresAfter}
use Rattle.alg_orec.proofs.Eager.EagerRollingLaws as laws
use Rattle.alg_orec.proofs.NestingOpening.{goes-on-of}
use Rattle.alg_orec.proofs.eager_nesting.roll_in_place.Goals as goal

-- so many words were written at the mark
kept-count : (depth : ℕ) (old new : LogState) (left : ℕ) → left ≡ length (get_or old.marks (depth - 1) []) → new ≡ rolled depth old → left ≡ length new.items
kept-count depth old new left count is = count ∙ sym (ap (λ (q : LogState). length q.items) is)

pub restore_after-requires-clause-behind : goal.restore_after-requires-clause-behind
restore_after-requires-clause-behind g c =
    let a = opened g.K.MemRule.good c.args.stm.now c.desc.inside.number c.desc.inside.local c.desc.view_is refl c.desc.invariant.0.named c.desc.invariant.0.low c.desc.invariant.1 c.requires.stm in
    let k = goes-on-of g.K.MemRule.good c.args.stm.now a c.requires.running in
    laws.may-restore k c.requires.algorithm c.requires.revocable

pub count_at-left-requires-clause-high : goal.count_at-left-requires-clause-high
count_at-left-requires-clause-high g c =
    let a = opened g.K.MemRule.good c.args.stm.now c.desc.inside.number c.desc.inside.local c.desc.view_is refl c.desc.invariant.0.named c.desc.invariant.0.low c.desc.invariant.1 c.requires.stm in
    let k = goes-on-of g.K.MemRule.good c.args.stm.now a c.requires.running in
    let high : c.args.depth ≤ c.desc.inside.local.depth = subst (λ (q : CallerState). c.args.depth ≤ q.depth) k.knows c.requires.high in
    let marked = laws.marked k c.requires.algorithm c.requires.revocable in
    omega arith

pub roll_to-requires-clause-high : goal.roll_to-requires-clause-high
roll_to-requires-clause-high g c =
    let a = opened g.K.MemRule.good c.args.stm.now c.desc.inside.number c.desc.inside.local c.desc.view_is refl c.desc.invariant.0.named c.desc.invariant.0.low c.desc.invariant.1 c.requires.stm in
    let k = goes-on-of g.K.MemRule.good c.args.stm.now a c.requires.running in
    let high : c.args.depth ≤ c.desc.inside.local.depth = subst (λ (q : CallerState). c.args.depth ≤ q.depth) k.knows c.requires.high in
    let marked = laws.marked k c.requires.algorithm c.requires.revocable in
    omega arith

pub place_again-requires-clause-again : goal.place_again-requires-clause-again
place_again-requires-clause-again g c =
    let a = opened g.K.MemRule.good c.args.stm.now c.desc.inside.number c.desc.inside.local c.desc.view_is refl c.desc.invariant.0.named c.desc.invariant.0.low c.desc.invariant.1 c.requires.stm in
    let k = goes-on-of g.K.MemRule.good c.args.stm.now a c.requires.running in
    let high : c.args.depth ≤ c.desc.inside.local.depth = subst (λ (q : CallerState). c.args.depth ≤ q.depth) k.knows c.requires.high in
    let count = kept-count c.args.depth c.desc.inside.local.writes c.roll_to.new.self c.count_at-left.result c.count_at-left.ensures c.roll_to.ensures.rolled in
    let back = subst (λ (k : ℕ). RestoresAfter k c.desc.inside.local.writes.items c.desc.inside.seat.me.0.view c.restore_after.new.seat.me.0.view) count c.restore_after.ensures.behind in
    laws.may-place-again k c.requires.algorithm c.requires.revocable c.roll_to.new.self c.args.depth c.requires.low high c.roll_to.ensures.rolled c.roll_to.ensures.prefix _ back

pub invariant_of-desc : goal.invariant_of-desc
invariant_of-desc g c =
    let a = opened g.K.MemRule.good c.args.stm.now c.desc.inside.number c.desc.inside.local c.desc.view_is refl c.desc.invariant.0.named c.desc.invariant.0.low c.desc.invariant.1 c.requires.stm in
    let k = goes-on-of g.K.MemRule.good c.args.stm.now a c.requires.running in
    let high : c.args.depth ≤ c.desc.inside.local.depth = subst (λ (q : CallerState). c.args.depth ≤ q.depth) k.knows c.requires.high in
    let count = kept-count c.args.depth c.desc.inside.local.writes c.roll_to.new.self c.count_at-left.result c.count_at-left.ensures c.roll_to.ensures.rolled in
    let back = subst (λ (k : ℕ). RestoresAfter k c.desc.inside.local.writes.items c.desc.inside.seat.me.0.view c.restore_after.new.seat.me.0.view) count c.restore_after.ensures.behind in
    let some = some-by c.roll_to.new.self.items c.count_at-left.result count in
    let m : Local = record c.desc.inside.local { writes = c.roll_to.new.self; wrote = nat_lt 0 c.count_at-left.result; depth = c.args.depth } in
    let who = ap (λ (y : SeatView g.row.K.Denot). y.who) c.place_again.ensures.same.1 ∙ ap (λ (y : SeatView g.row.K.Denot). y.who) c.restore_after.ensures.same.1 in (
      search rules,
      stands-after _ _ a c.place_again.new.seat.me.0 m who
          (laws.stands-rolled k c.requires.algorithm c.requires.revocable c.roll_to.new.self c.args.depth c.requires.low high
          c.roll_to.ensures.rolled c.roll_to.ensures.prefix _ back _ c.place_again.ensures.again m.wrote some),
    )

pub returns-clause-rolls : goal.returns-clause-rolls
returns-clause-rolls g c =
    let a = opened g.K.MemRule.good c.args.stm.now c.desc.inside.number c.desc.inside.local c.desc.view_is refl c.desc.invariant.0.named c.desc.invariant.0.low c.desc.invariant.1 c.requires.stm in
    let k = goes-on-of g.K.MemRule.good c.args.stm.now a c.requires.running in
    let high : c.args.depth ≤ c.desc.inside.local.depth = subst (λ (q : CallerState). c.args.depth ≤ q.depth) k.knows c.requires.high in
    let count = kept-count c.args.depth c.desc.inside.local.writes c.roll_to.new.self c.count_at-left.result c.count_at-left.ensures c.roll_to.ensures.rolled in
    let back = subst (λ (k : ℕ). RestoresAfter k c.desc.inside.local.writes.items c.desc.inside.seat.me.0.view c.restore_after.new.seat.me.0.view) count c.restore_after.ensures.behind in
    let some = some-by c.roll_to.new.self.items c.count_at-left.result count in
    let m : Local = record c.desc.inside.local { writes = c.roll_to.new.self; wrote = nat_lt 0 c.count_at-left.result; depth = c.args.depth } in
    tells-of _ _ a (λ (n : ℕ) (v w : CallerState). Rolls (g.K.MemRule.good c.args.stm.now.rule) c.args.stm.now.config n c.args.depth Rolled v w) (known_of c.place_again.new.seat.me.0.view (own_of m))
    (laws.rolls-back k c.requires.algorithm c.requires.revocable c.roll_to.new.self c.args.depth c.requires.low high c.roll_to.ensures.rolled c.roll_to.ensures.prefix _ back _ c.place_again.ensures.again m.wrote some)

pub returns-clause-steps : goal.returns-clause-steps
returns-clause-steps g c =
    let a = opened g.K.MemRule.good c.args.stm.now c.desc.inside.number c.desc.inside.local c.desc.view_is refl c.desc.invariant.0.named c.desc.invariant.0.low c.desc.invariant.1 c.requires.stm in
    let k = goes-on-of g.K.MemRule.good c.args.stm.now a c.requires.running in
    let high : c.args.depth ≤ c.desc.inside.local.depth = subst (λ (q : CallerState). c.args.depth ≤ q.depth) k.knows c.requires.high in
    let count = kept-count c.args.depth c.desc.inside.local.writes c.roll_to.new.self c.count_at-left.result c.count_at-left.ensures c.roll_to.ensures.rolled in
    let fewer = laws.fewer k c.requires.algorithm c.requires.revocable c.roll_to.new.self c.args.depth c.requires.low high c.roll_to.ensures.rolled c.roll_to.ensures.prefix in
    let most = laws.within k c.requires.algorithm c.requires.revocable in
    let first = ap (λ (q : CallerState). length q.step_trace) k.knows in
    let words = ap (λ (q : CallerState). q.writes_limit) k.knows in
    let behind = c.restore_after.ensures.steps in
    let again = c.place_again.ensures.steps in
    omega arith
