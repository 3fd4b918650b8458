use Rattle.std.proofs.Common.{◌≡◌, ◌≤◌, true, false, refl, sym, ap, subst, ◌∙◌, rules, arith}
use Rattle.std.specs.Prelude.{not, nat_lt}
use Rattle.stm_model.specs.declared.alg.Alg.TheVariants.{RingSw}
use Rattle.stm_model.specs.Memories.{is_empty}
use Rattle.stm_rule.specs.Attempts.{HasRoom, good_by}
use Rattle.stm_rule.specs.Callers.{Handle}
use Rattle.stm_answers.specs.declared.answers.Roll.TheVariants as rolls
use Rattle.stm_answers.specs.Answers.{Rolls}
use Rattle.stm_answers.specs.CallerState.{is_irrevocable}
use Rattle.stm_logs.specs.LogStates.{LogState}
use Rattle.stm_gate.specs.Knowing.{known}
use Rattle.stm_gate.proofs.MarkLaws.{some-by}
use Rattle.stm_gate.proofs.Standing.{runs-of}
use Rattle.stm_gate.proofs.Told.{told, stands-in, running-by}
use Rattle.alg_ring.proofs.Ending as ending
use Rattle.alg_ring.proofs.NestingLaws as nesting
use Rattle.alg_ring.proofs.ring.RingSwAlgorithm.roll_to.Goals as goal

pub returns-then-desc-clause-rolls : goal.returns-then-desc-clause-rolls
returns-then-desc-clause-rolls g c =
    let quiet : c.desc.inside.local.committing ≡ false = ap (λ (p : Handle g.row.K.Denot). (known p).committing) c.desc.view_is ∙ c.requires.running.1 in (
      refl,
      subst (λ (p : Handle g.row.K.Denot). is_irrevocable (known p) ≡ true) c.desc.view_is
          (nesting.irrevocable-known _ _ _ _ _
          (runs-of g.K.MemRule.good _ _ _ _ _ _ c.desc.view_is c.requires.stm.config c.requires.stm.rule c.requires.running.0 c.desc.invariant.1)
          (subst (λ (p : Handle g.row.K.Denot). (known p).alg ≡ RingSw) (sym c.desc.view_is) c.requires.algorithm) (search rules) 0),
    )

pub roll_to-requires-clause-high : goal.roll_to-requires-clause-high
roll_to-requires-clause-high g c =
    let quiet : c.desc.inside.local.committing ≡ false = ap (λ (p : Handle g.row.K.Denot). (known p).committing) c.desc.view_is ∙ c.requires.running.1 in
    let high : c.args.depth ≤ c.desc.inside.local.depth = subst (λ (p : Handle g.row.K.Denot). c.args.depth ≤ p.own.depth) (sym c.desc.view_is) c.requires.high in
    let n =
    (ending.ring-of _ _ _ _ _
    (runs-of g.K.MemRule.good _ _ _ _ _ _ c.desc.view_is c.requires.stm.config c.requires.stm.rule c.requires.running.0 c.desc.invariant.1)
    (subst (λ (p : Handle g.row.K.Denot). (known p).alg ≡ RingSw) (sym c.desc.view_is) c.requires.algorithm) (search rules)).marked.count in
    omega arith

pub invariant_of-desc : goal.invariant_of-desc
invariant_of-desc g c =
    let i = runs-of g.K.MemRule.good _ _ _ _ _ _ c.desc.view_is c.requires.stm.config c.requires.stm.rule c.requires.running.0 c.desc.invariant.1 in
    let ring = subst (λ (p : Handle g.row.K.Denot). (known p).alg ≡ RingSw) (sym c.desc.view_is) c.requires.algorithm in
    let quiet : c.desc.inside.local.committing ≡ false = ap (λ (p : Handle g.row.K.Denot). (known p).committing) c.desc.view_is ∙ c.requires.running.1 in
    let plain : c.desc.inside.local.granted ≡ false = search rules in
    let high : c.args.depth ≤ c.desc.inside.local.depth = subst (λ (p : Handle g.row.K.Denot). c.args.depth ≤ p.own.depth) (sym c.desc.view_is) c.requires.high in
    let wrote = nat_lt 0 c.count.result in
    let some : wrote ≡ not (is_empty c.roll_to.new.self.items) = some-by c.roll_to.new.self.items c.count.result c.count.ensures.count in
    let m = record c.desc.inside.local { writes = c.roll_to.new.self; stored = c.filter_of-desc-inside.result; wrote = wrote; depth = c.args.depth } in
    let lengths : HasRoom m = (ap (λ (y : LogState). y.len) c.roll_to.ensures.rolled ∙ c.desc.invariant.1.lengths.0, c.desc.invariant.1.lengths.1) in (
      c.desc.invariant.0,
      stands-in g.K.MemRule.good c.args.stm.now.config c.args.stm.now.rule c.desc.inside.seat.me.0.who c.desc.inside.number m
          c.desc.inside.seat.me.0.view (ap (λ (p : Handle g.row.K.Denot). p.who.config) c.desc.view_is ∙ c.requires.stm.config)
          (ap (λ (p : Handle g.row.K.Denot). p.who.rule) c.desc.view_is ∙ c.requires.stm.rule)
          (running-by (good_by g.K.MemRule.good c.desc.inside.seat.me.0.who.rule) c.desc.inside.seat.me.0.who.config c.desc.inside.number
          c.desc.inside.local c.desc.inside.seat.me.0.view i.phase c.desc.invariant.1) c.desc.invariant.1.holds lengths
          (nesting.stays-rolled _ _ _ _ _ i ring plain quiet (ending.ring-of _ _ _ _ _ i ring plain) c.roll_to.new.self
          c.filter_of-desc-inside.result wrote c.args.depth c.requires.low high c.roll_to.ensures.rolled c.filter_of-desc-inside.ensures
          some),
    )

pub returns-clause-rolls : goal.returns-clause-rolls
returns-clause-rolls g c =
    let good = g.K.MemRule.good c.args.stm.now.rule in
    let i = runs-of g.K.MemRule.good _ _ _ _ _ _ c.desc.view_is c.requires.stm.config c.requires.stm.rule c.requires.running.0 c.desc.invariant.1 in
    let ring = subst (λ (p : Handle g.row.K.Denot). (known p).alg ≡ RingSw) (sym c.desc.view_is) c.requires.algorithm in
    let quiet : c.desc.inside.local.committing ≡ false = ap (λ (p : Handle g.row.K.Denot). (known p).committing) c.desc.view_is ∙ c.requires.running.1 in
    let plain : c.desc.inside.local.granted ≡ false = search rules in
    let k = ending.ring-of good c.args.stm.now.config c.desc.inside.number c.desc.inside.local c.desc.inside.seat.me.0.view i ring plain in
    let high : c.args.depth ≤ c.desc.inside.local.depth = subst (λ (p : Handle g.row.K.Denot). c.args.depth ≤ p.own.depth) (sym c.desc.view_is) c.requires.high in
    let wrote = nat_lt 0 c.count.result in
    let some : wrote ≡ not (is_empty c.roll_to.new.self.items) = some-by c.roll_to.new.self.items c.count.result c.count.ensures.count in
    told (λ n v w. Rolls good c.args.stm.now.config n c.args.depth rolls.Rolled v w) _ _ _ c.desc.inside.seat.me.0
    (record c.desc.inside.local
    { writes = c.roll_to.new.self; stored = c.filter_of-desc-inside.result; wrote = wrote; depth = c.args.depth }) c.desc.view_is refl
    c.desc.invariant.0.named (
      nesting.rolls-back good c.args.stm.now.config c.desc.inside.number c.desc.inside.local c.desc.inside.seat.me.0.view i ring plain quiet
          k c.roll_to.new.self c.filter_of-desc-inside.result wrote c.args.depth c.requires.low high c.roll_to.ensures.rolled
          c.filter_of-desc-inside.ensures some,
      nesting.revocable good c.args.stm.now.config c.desc.inside.number c.desc.inside.local c.desc.inside.seat.me.0.view i ring plain quiet k,
    )
