use Rattle.std.proofs.Common.{ℕ, ◌≡◌, ◌<◌, ◌≤◌, length, false, sym, ap, subst, ◌∙◌, arith}
use Rattle.std.specs.Prelude.{not, nat_lt}
use Rattle.stm_model.specs.Algorithms.{irrevocable_under}
use Rattle.stm_model.specs.declared.alg.Alg.TheVariants.{Serial}
use Rattle.stm_model.specs.Memories.{is_empty}
use Rattle.rule_base.specs.declared.seats.SeatView.{SeatView}
use Rattle.rule_base.specs.declared.seats.Who.{Who}
use Rattle.rule_base.specs.declared.views.View.{View}
use Rattle.stm_rule.specs.Attempts.{HasRoom, good_by, own_of}
use Rattle.stm_rule.specs.Callers.{Handle}
use Rattle.stm_answers.specs.declared.answers.Roll.TheVariants as rolls
use Rattle.stm_answers.specs.Answers.{Rolls}
use Rattle.stm_answers.specs.CallerState.{is_irrevocable}
use Rattle.stm_logs.specs.LogStates.{LogState}
use Rattle.stm_gate.specs.Knowing.{known}
use Rattle.stm_gate.proofs.Standing.{runs-of}
use Rattle.stm_gate.proofs.Told.{told, stands-in, running-by}
use Rattle.stm_gate.proofs.MarkLaws.{some-by}
use Rattle.stm_gate.proofs.Irrevocable.{irrevocable-of}
use Rattle.alg_seq.specs.Nesting.{IsStoredBack}
use Rattle.alg_seq.proofs.RollingLaws as rolling
use Rattle.alg_seq.proofs.nesting.roll_in_place.Goals as goal

pub count_at-left-requires-clause-high : goal.count_at-left-requires-clause-high
count_at-left-requires-clause-high g c =
    let i = runs-of g.K.MemRule.good _ _ _ _ _ _ c.desc.view_is c.requires.stm.config c.requires.stm.rule c.requires.running.0 c.desc.invariant.1 in
    let serial : c.desc.inside.seat.me.0.view.gate.algorithm ≡ Serial = subst (λ (p : Handle g.row.K.Denot). (known p).alg ≡ Serial) (sym c.desc.view_is) c.requires.algorithm in
    let plain : c.desc.inside.local.granted ≡ false =
    (λ j. irrevocable_under (sym (sym i.named ∙ serial) j) c.desc.inside.local.granted c.desc.inside.local.wrote) ∙
    (sym (irrevocable-of _ _ _ _ _ (own_of c.desc.inside.local) i)
    ∙ subst (λ (p : Handle g.row.K.Denot). is_irrevocable (known p) ≡ false) (sym c.desc.view_is) c.requires.revocable) in
    let count = rolling.mark-count _ _ _ _ _ i serial plain in
    let high : c.args.depth ≤ c.desc.inside.local.depth = subst (λ (p : Handle g.row.K.Denot). c.args.depth ≤ p.own.depth) (sym c.desc.view_is) c.requires.high in
    omega arith

pub store_back-requires-clause-olds : goal.store_back-requires-clause-olds
store_back-requires-clause-olds g c =
    let i = runs-of g.K.MemRule.good _ _ _ _ _ _ c.desc.view_is c.requires.stm.config c.requires.stm.rule c.requires.running.0 c.desc.invariant.1 in
    let serial : c.desc.inside.seat.me.0.view.gate.algorithm ≡ Serial = subst (λ (p : Handle g.row.K.Denot). (known p).alg ≡ Serial) (sym c.desc.view_is) c.requires.algorithm in
    let plain : c.desc.inside.local.granted ≡ false =
    (λ j. irrevocable_under (sym (sym i.named ∙ serial) j) c.desc.inside.local.granted c.desc.inside.local.wrote) ∙
    (sym (irrevocable-of _ _ _ _ _ (own_of c.desc.inside.local) i)
    ∙ subst (λ (p : Handle g.row.K.Denot). is_irrevocable (known p) ≡ false) (sym c.desc.view_is) c.requires.revocable) in
    rolling.has-olds _ _ _ _ _ i serial plain

pub store_again-requires-clause-again : goal.store_again-requires-clause-again
store_again-requires-clause-again g c =
    let i = runs-of g.K.MemRule.good _ _ _ _ _ _ c.desc.view_is c.requires.stm.config c.requires.stm.rule c.requires.running.0 c.desc.invariant.1 in
    let serial : c.desc.inside.seat.me.0.view.gate.algorithm ≡ Serial = subst (λ (p : Handle g.row.K.Denot). (known p).alg ≡ Serial) (sym c.desc.view_is) c.requires.algorithm in
    let plain : c.desc.inside.local.granted ≡ false =
    (λ j. irrevocable_under (sym (sym i.named ∙ serial) j) c.desc.inside.local.granted c.desc.inside.local.wrote) ∙
    (sym (irrevocable-of _ _ _ _ _ (own_of c.desc.inside.local) i)
    ∙ subst (λ (p : Handle g.row.K.Denot). is_irrevocable (known p) ≡ false) (sym c.desc.view_is) c.requires.revocable) in
    rolling.may-store-again _ _ _ _ _ i serial plain
    (ap (λ (p : Handle g.row.K.Denot). (known p).committing) c.desc.view_is ∙ c.requires.running.1) c.roll_to.new.self c.args.depth
    c.requires.low (subst (λ (p : Handle g.row.K.Denot). c.args.depth ≤ p.own.depth) (sym c.desc.view_is) c.requires.high)
    c.roll_to.ensures.rolled c.roll_to.ensures.prefix c.store_back.new.seat.me.0.view
    (subst (λ (k : ℕ). IsStoredBack k c.desc.inside.seat.me.0.view c.store_back.new.seat.me.0.view)
    (c.count_at-left.ensures ∙ ap (λ (y : LogState). length y.items) (sym c.roll_to.ensures.rolled)) c.store_back.ensures.back)

pub invariant_of-desc : goal.invariant_of-desc
invariant_of-desc g c =
    let i = runs-of g.K.MemRule.good _ _ _ _ _ _ c.desc.view_is c.requires.stm.config c.requires.stm.rule c.requires.running.0 c.desc.invariant.1 in
    let serial : c.desc.inside.seat.me.0.view.gate.algorithm ≡ Serial = subst (λ (p : Handle g.row.K.Denot). (known p).alg ≡ Serial) (sym c.desc.view_is) c.requires.algorithm in
    let named : c.desc.inside.local.algorithm ≡ Serial = sym i.named ∙ serial in
    let plain : c.desc.inside.local.granted ≡ false =
    (λ j. irrevocable_under (sym named j) c.desc.inside.local.granted c.desc.inside.local.wrote) ∙
    (sym (irrevocable-of _ _ _ _ _ (own_of c.desc.inside.local) i)
    ∙ subst (λ (p : Handle g.row.K.Denot). is_irrevocable (known p) ≡ false) (sym c.desc.view_is) c.requires.revocable) in
    let quiet : c.desc.inside.local.committing ≡ false = ap (λ (p : Handle g.row.K.Denot). (known p).committing) c.desc.view_is ∙ c.requires.running.1 in
    let high : c.args.depth ≤ c.desc.inside.local.depth = subst (λ (p : Handle g.row.K.Denot). c.args.depth ≤ p.own.depth) (sym c.desc.view_is) c.requires.high in
    let back = subst (λ (k : ℕ). IsStoredBack k c.desc.inside.seat.me.0.view c.store_back.new.seat.me.0.view)
    (c.count_at-left.ensures ∙ ap (λ (y : LogState). length y.items) (sym c.roll_to.ensures.rolled)) c.store_back.ensures.back in
    let wrote = nat_lt 0 c.count_at-left.result in
    let some : wrote ≡ not (is_empty c.roll_to.new.self.items) = some-by c.roll_to.new.self.items c.count_at-left.result (c.count_at-left.ensures ∙ ap (λ (y : LogState). length y.items) (sym c.roll_to.ensures.rolled)) in
    let m = record c.desc.inside.local { writes = c.roll_to.new.self; wrote = wrote; depth = c.args.depth } in
    let who = ap (λ (y : SeatView g.row.K.Denot). y.who) c.store_again.ensures.same.1 ∙ ap (λ (y : SeatView g.row.K.Denot). y.who) c.store_back.ensures.same.1 in
    let lengths : HasRoom m = (ap (λ (y : LogState). y.len) c.roll_to.ensures.rolled ∙ c.desc.invariant.1.lengths.0, c.desc.invariant.1.lengths.1) in
    let path = rolling.path _ _ _ _ _ i serial plain quiet c.roll_to.new.self c.args.depth c.requires.low high c.roll_to.ensures.rolled
    c.roll_to.ensures.prefix c.store_back.new.seat.me.0.view back c.store_again.new.seat.me.0.view c.store_again.ensures.again wrote
    some in (
      record {
        named = ap (λ (q : Who g.row.K.Denot). q.role) who ∙ c.desc.invariant.0.named;
        low = subst (λ (q : Who g.row.K.Denot). c.desc.inside.number < q.config.callers) (sym who) c.desc.invariant.0.low;
        bare = ap (λ (y : SeatView g.row.K.Denot). y.gathered) c.store_again.ensures.same.1 ∙ (ap (λ (y : SeatView g.row.K.Denot). y.gathered) c.store_back.ensures.same.1 ∙ c.desc.invariant.0.bare);
        empty = c.store_again.ensures.same.0.2 ∙ (c.store_back.ensures.same.0.2 ∙ c.desc.invariant.0.empty);
      },
      stands-in g.K.MemRule.good c.args.stm.now.config c.args.stm.now.rule c.store_again.new.seat.me.0.who c.desc.inside.number m
          c.store_again.new.seat.me.0.view
          (ap (λ (q : Who g.row.K.Denot). q.config) who
          ∙ (ap (λ (p : Handle g.row.K.Denot). p.who.config) c.desc.view_is ∙ c.requires.stm.config))
          (ap (λ (q : Who g.row.K.Denot). q.rule) who ∙ (ap (λ (p : Handle g.row.K.Denot). p.who.rule) c.desc.view_is ∙ c.requires.stm.rule))
          (running-by (good_by g.K.MemRule.good c.desc.inside.seat.me.0.who.rule) c.desc.inside.seat.me.0.who.config c.desc.inside.number
          c.desc.inside.local c.desc.inside.seat.me.0.view i.phase c.desc.invariant.1)
          (c.desc.invariant.1.holds ∙ sym (ap (λ (y : View). y.gate.holds) path)) lengths
          (rolling.stays-rolled _ _ _ _ _ i serial plain quiet c.roll_to.new.self c.args.depth c.requires.low high c.roll_to.ensures.rolled
          c.roll_to.ensures.prefix c.store_back.new.seat.me.0.view back c.store_again.new.seat.me.0.view c.store_again.ensures.again wrote
          some),
    )

pub returns-clause-rolls : goal.returns-clause-rolls
returns-clause-rolls g c =
    let i = runs-of g.K.MemRule.good _ _ _ _ _ _ c.desc.view_is c.requires.stm.config c.requires.stm.rule c.requires.running.0 c.desc.invariant.1 in
    let serial : c.desc.inside.seat.me.0.view.gate.algorithm ≡ Serial = subst (λ (p : Handle g.row.K.Denot). (known p).alg ≡ Serial) (sym c.desc.view_is) c.requires.algorithm in
    let plain : c.desc.inside.local.granted ≡ false =
    (λ j. irrevocable_under (sym (sym i.named ∙ serial) j) c.desc.inside.local.granted c.desc.inside.local.wrote) ∙
    (sym (irrevocable-of _ _ _ _ _ (own_of c.desc.inside.local) i)
    ∙ subst (λ (p : Handle g.row.K.Denot). is_irrevocable (known p) ≡ false) (sym c.desc.view_is) c.requires.revocable) in
    let wrote = nat_lt 0 c.count_at-left.result in
    told (λ n v w. Rolls (g.K.MemRule.good c.args.stm.now.rule) c.args.stm.now.config n c.args.depth rolls.Rolled v w) _ _ _
    c.store_again.new.seat.me.0 (record c.desc.inside.local { writes = c.roll_to.new.self; wrote = wrote; depth = c.args.depth })
    c.desc.view_is
    (ap (λ (y : SeatView g.row.K.Denot). y.who) c.store_again.ensures.same.1
    ∙ ap (λ (y : SeatView g.row.K.Denot). y.who) c.store_back.ensures.same.1) c.desc.invariant.0.named (
      rolling.rolls-back _ _ _ _ _ i serial plain
          (ap (λ (p : Handle g.row.K.Denot). (known p).committing) c.desc.view_is ∙ c.requires.running.1) c.roll_to.new.self c.args.depth
          c.requires.low (subst (λ (p : Handle g.row.K.Denot). c.args.depth ≤ p.own.depth) (sym c.desc.view_is) c.requires.high)
          c.roll_to.ensures.rolled c.roll_to.ensures.prefix c.store_back.new.seat.me.0.view
          (subst (λ (k : ℕ). IsStoredBack k c.desc.inside.seat.me.0.view c.store_back.new.seat.me.0.view)
          (c.count_at-left.ensures ∙ ap (λ (y : LogState). length y.items) (sym c.roll_to.ensures.rolled)) c.store_back.ensures.back)
          c.store_again.new.seat.me.0.view c.store_again.ensures.again wrote
          (some-by c.roll_to.new.self.items c.count_at-left.result
          (c.count_at-left.ensures ∙ ap (λ (y : LogState). length y.items) (sym c.roll_to.ensures.rolled))),
      subst (λ (p : Handle g.row.K.Denot). is_irrevocable (known p) ≡ false) (sym c.desc.view_is) c.requires.revocable,
    )

pub returns-clause-steps : goal.returns-clause-steps
returns-clause-steps g c =
    let i = runs-of g.K.MemRule.good _ _ _ _ _ _ c.desc.view_is c.requires.stm.config c.requires.stm.rule c.requires.running.0 c.desc.invariant.1 in
    let serial : c.desc.inside.seat.me.0.view.gate.algorithm ≡ Serial = subst (λ (p : Handle g.row.K.Denot). (known p).alg ≡ Serial) (sym c.desc.view_is) c.requires.algorithm in
    let plain : c.desc.inside.local.granted ≡ false =
    (λ j. irrevocable_under (sym (sym i.named ∙ serial) j) c.desc.inside.local.granted c.desc.inside.local.wrote) ∙
    (sym (irrevocable-of _ _ _ _ _ (own_of c.desc.inside.local) i)
    ∙ subst (λ (p : Handle g.row.K.Denot). is_irrevocable (known p) ≡ false) (sym c.desc.view_is) c.requires.revocable) in
    let few = rolling.writes-few _ _ _ _ _ i serial plain in
    let fewer = rolling.fewer _ _ _ _ _ i serial plain
    (ap (λ (p : Handle g.row.K.Denot). (known p).committing) c.desc.view_is ∙ c.requires.running.1) c.roll_to.new.self c.args.depth
    c.requires.low (subst (λ (p : Handle g.row.K.Denot). c.args.depth ≤ p.own.depth) (sym c.desc.view_is) c.requires.high)
    c.roll_to.ensures.rolled c.roll_to.ensures.prefix in
    let size : c.count_at-left.result ≡ length c.roll_to.new.self.items = c.count_at-left.ensures ∙ ap (λ (y : LogState). length y.items) (sym c.roll_to.ensures.rolled) in
    let limit : c.args.desc.now.own.writes_limit ≡ c.desc.inside.local.undo.len = sym (ap (λ (p : Handle g.row.K.Denot). p.own.writes_limit) c.desc.view_is) in
    let before : length (known c.args.desc.now).step_trace ≡ length c.desc.inside.seat.me.0.view.steps.step_trace = sym (ap (λ (p : Handle g.row.K.Denot). length (known p).step_trace) c.desc.view_is) in
    let back = c.store_back.ensures.steps in
    let again = c.store_again.ensures.steps in
    omega arith
