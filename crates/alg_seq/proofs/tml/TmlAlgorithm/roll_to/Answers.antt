use Rattle.std.proofs.Common.{◌≡◌, ◌≤◌, true, false, refl, sym, ap, subst, ◌∙◌, rules, arith}
use Rattle.stm_model.specs.Algorithms.{irrevocable_under}
use Rattle.stm_model.specs.declared.alg.Alg.TheVariants.{Tml}
use Rattle.stm_rule.specs.Attempts.{HasRoom, good_by, own_of}
use Rattle.stm_rule.specs.Callers.{Handle}
use Rattle.stm_answers.specs.declared.answers.Roll.TheVariants as rolls
use Rattle.stm_answers.specs.Answers.{Rolls}
use Rattle.stm_answers.specs.CallerState.{known_of, is_irrevocable}
use Rattle.stm_logs.specs.LogStates.{LogState}
use Rattle.stm_answers.specs.Counting.{AddsAtMost}
use Rattle.stm_gate.specs.Knowing.{known}
use Rattle.stm_gate.proofs.Standing.{runs-of}
use Rattle.stm_gate.proofs.Told.{told, stands-in, running-by}
use Rattle.alg_seq.specs.Nesting.{is_sequential}
use Rattle.alg_seq.proofs.NestingLaws as nesting
use Rattle.alg_seq.proofs.tml.TmlAlgorithm.roll_to.Goals as goal

pub returns-then-irrevocable-clause-rolls : goal.returns-then-irrevocable-clause-rolls
returns-then-irrevocable-clause-rolls g c =
    let i = runs-of g.K.MemRule.good _ _ _ _ _ _ c.desc.view_is c.requires.stm.config c.requires.stm.rule c.requires.running.0 c.desc.invariant.1 in (
      refl,
      subst (λ (p : Handle g.row.K.Denot). is_irrevocable (known p) ≡ true) c.desc.view_is
          (nesting.deeper-marked _ _ _ _ _ i
          (subst (λ (p : Handle g.row.K.Denot). is_sequential (known p).alg ≡ true) (sym c.desc.view_is) (ap is_sequential c.requires.algorithm))
          (sym c.irrevocable_under-irrevocable.ensures ∙ c.if-irrevocable.true) 0),
    )

pub invariant_of-desc : goal.invariant_of-desc
invariant_of-desc g c =
    let i = runs-of g.K.MemRule.good _ _ _ _ _ _ c.desc.view_is c.requires.stm.config c.requires.stm.rule c.requires.running.0 c.desc.invariant.1 in
    let sequential : is_sequential c.desc.inside.seat.me.0.view.gate.algorithm ≡ true = subst
    (λ (p : Handle g.row.K.Denot). is_sequential (known p).alg ≡ true) (sym c.desc.view_is) (ap is_sequential c.requires.algorithm) in
    let plain : irrevocable_under c.desc.inside.local.algorithm c.desc.inside.local.granted c.desc.inside.local.wrote ≡ false = sym c.irrevocable_under-irrevocable.ensures ∙ c.if-irrevocable.false in
    let m = record c.desc.inside.local { writes = c.roll_to.new.self; depth = c.args.depth } in
    let lengths : HasRoom m = (ap (λ (y : LogState). y.len) c.roll_to.ensures.rolled ∙ c.desc.invariant.1.lengths.0, c.desc.invariant.1.lengths.1) in (
      c.desc.invariant.0,
      stands-in g.K.MemRule.good c.args.stm.now.config c.args.stm.now.rule c.desc.inside.seat.me.0.who c.desc.inside.number m
          c.desc.inside.seat.me.0.view (ap (λ (p : Handle g.row.K.Denot). p.who.config) c.desc.view_is ∙ c.requires.stm.config)
          (ap (λ (p : Handle g.row.K.Denot). p.who.rule) c.desc.view_is ∙ c.requires.stm.rule)
          (running-by (good_by g.K.MemRule.good c.desc.inside.seat.me.0.who.rule) c.desc.inside.seat.me.0.who.config c.desc.inside.number
          c.desc.inside.local c.desc.inside.seat.me.0.view i.phase c.desc.invariant.1) c.desc.invariant.1.holds lengths
          (nesting.stays-rolled _ _ _ _ _ i sequential plain
          (sym i.named ∙ subst (λ (p : Handle g.row.K.Denot). (known p).alg ≡ Tml) (sym c.desc.view_is) c.requires.algorithm)
          (ap (λ (p : Handle g.row.K.Denot). (known p).committing) c.desc.view_is ∙ c.requires.running.1) c.roll_to.new.self c.args.depth
          c.requires.low (subst (λ (p : Handle g.row.K.Denot). c.args.depth ≤ p.own.depth) (sym c.desc.view_is) c.requires.high)
          c.roll_to.ensures.rolled),
    )

pub returns : goal.returns
returns g c =
    let good = g.K.MemRule.good c.args.stm.now.rule in
    let i = runs-of g.K.MemRule.good _ _ _ _ _ _ c.desc.view_is c.requires.stm.config c.requires.stm.rule c.requires.running.0 c.desc.invariant.1 in
    let sequential : is_sequential c.desc.inside.seat.me.0.view.gate.algorithm ≡ true = subst
    (λ (p : Handle g.row.K.Denot). is_sequential (known p).alg ≡ true) (sym c.desc.view_is) (ap is_sequential c.requires.algorithm) in
    let plain : irrevocable_under c.desc.inside.local.algorithm c.desc.inside.local.granted c.desc.inside.local.wrote ≡ false = sym c.irrevocable_under-irrevocable.ensures ∙ c.if-irrevocable.false in
    let m = record c.desc.inside.local { writes = c.roll_to.new.self; depth = c.args.depth } in
    record {
      same = search rules;
      rolls = told (λ n v w. Rolls good c.args.stm.now.config n c.args.depth rolls.Rolled v w) _ _ _ c.desc.inside.seat.me.0 m c.desc.view_is refl c.desc.invariant.0.named (
        nesting.rolls-back good c.args.stm.now.config c.desc.inside.number c.desc.inside.local c.desc.inside.seat.me.0.view i sequential
            plain (sym i.named ∙ subst (λ (p : Handle g.row.K.Denot). (known p).alg ≡ Tml) (sym c.desc.view_is) c.requires.algorithm)
            (ap (λ (p : Handle g.row.K.Denot). (known p).committing) c.desc.view_is ∙ c.requires.running.1) c.roll_to.new.self c.args.depth
            c.requires.low
            (subst (λ (p : Handle g.row.K.Denot). c.args.depth ≤ p.own.depth) (sym c.desc.view_is) c.requires.high) c.roll_to.ensures.rolled,
        nesting.revocable good c.args.stm.now.config c.desc.inside.number c.desc.inside.local c.desc.inside.seat.me.0.view i sequential plain,
      );
      steps = subst (λ (p : Handle g.row.K.Denot). AddsAtMost (known p).writes_limit (known p) (known_of c.desc.inside.seat.me.0.view (own_of m))) c.desc.view_is (omega arith);
    }
