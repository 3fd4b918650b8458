use Rattle.std.proofs.Common.{◌≡◌, ◌<◌, ◌+◌, refl, sym, ap, subst, ◌∙◌, arith}
use Rattle.stm_rule.specs.Attempts.{HasRoom, IsInside, good_by, own_of}
use Rattle.stm_rule.specs.Callers.{Handle}
use Rattle.stm_rule.proofs.StandLemmas.{inside-of}
use Rattle.stm_answers.specs.Answers.{IsMarked}
use Rattle.stm_answers.specs.CallerState.{known_of, is_in}
use Rattle.stm_logs.specs.LogStates.{LogState}
use Rattle.stm_gate.proofs.Standing.{in-of}
use Rattle.stm_gate.proofs.Told.{stands-on}
use Rattle.stm_tx.specs.Descs.{known}
use Rattle.stm_tx.proofs.MarkLaws as laws
use Rattle.stm_tx.proofs.nesting.checkpoint.Goals as goal

pub invariant_of-desc : goal.invariant_of-desc
invariant_of-desc g c = (
  c.desc.invariant.0,
  stands-on (good_by g.K.MemRule.good c.desc.inside.seat.me.0.who.rule) c.desc.inside.seat.me.0.who.config c.desc.inside.number
      c.desc.inside.local (record c.desc.inside.local { depth = c.desc.inside.local.depth + 1 }) c.desc.inside.seat.me.0.view
      c.desc.inside.seat.me.0.view (in-of c.desc.inside.seat.me.0.view.gate.phase
      (ap (λ (p : Handle g.row.K.Denot). is_in p.view.gate.phase) c.desc.view_is ∙ c.requires.running.0)) c.desc.invariant.1 refl refl
      c.desc.invariant.1.lengths refl (laws.stays-number (good_by g.K.MemRule.good c.desc.inside.seat.me.0.who.rule)
      c.desc.inside.seat.me.0.who.config c.desc.inside.number c.desc.inside.local c.desc.inside.seat.me.0.view
      (inside-of (good_by g.K.MemRule.good c.desc.inside.seat.me.0.who.rule) c.desc.inside.seat.me.0.who.config c.desc.inside.number
      c.desc.inside.local c.desc.inside.seat.me.0.view (in-of c.desc.inside.seat.me.0.view.gate.phase
      (ap (λ (p : Handle g.row.K.Denot). is_in p.view.gate.phase) c.desc.view_is ∙ c.requires.running.0)) c.desc.invariant.1)
      (sym c.irrevocable_under-irrevocable.ensures ∙ c.if-irrevocable.true) (c.desc.inside.local.depth + 1)),
)

pub returns-then-irrevocable-clause-checks : goal.returns-then-irrevocable-clause-checks
returns-then-irrevocable-clause-checks g c =
    subst (λ (p : Handle g.row.K.Denot).
    (p.own.depth < p.own.marks_limit) × (c.desc.inside.local.depth + 1 ≡ p.own.depth + 1)
    × IsMarked (known p)
    (known_of c.desc.inside.seat.me.0.view (own_of (record c.desc.inside.local { depth = c.desc.inside.local.depth + 1 })))) c.desc.view_is (
      (let l = c.if-depth-limit.false in let e = c.marks_limit-limit.ensures in omega arith),
      refl,
      laws.marks-number (good_by g.K.MemRule.good c.desc.inside.seat.me.0.who.rule) c.desc.inside.seat.me.0.who.config c.desc.inside.number
          c.desc.inside.local c.desc.inside.seat.me.0.view (inside-of (good_by g.K.MemRule.good c.desc.inside.seat.me.0.who.rule)
          c.desc.inside.seat.me.0.who.config c.desc.inside.number c.desc.inside.local c.desc.inside.seat.me.0.view
          (in-of c.desc.inside.seat.me.0.view.gate.phase
          (ap (λ (p : Handle g.row.K.Denot). is_in p.view.gate.phase) c.desc.view_is ∙ c.requires.running.0)) c.desc.invariant.1)
          (sym c.irrevocable_under-irrevocable.ensures ∙ c.if-irrevocable.true),
    )

pub mark-requires : goal.mark-requires
mark-requires g c =
    let n = laws.count (good_by g.K.MemRule.good c.desc.inside.seat.me.0.who.rule) c.desc.inside.seat.me.0.who.config c.desc.inside.number
    c.desc.inside.local c.desc.inside.seat.me.0.view (inside-of (good_by g.K.MemRule.good c.desc.inside.seat.me.0.who.rule)
    c.desc.inside.seat.me.0.who.config c.desc.inside.number c.desc.inside.local c.desc.inside.seat.me.0.view
    (in-of c.desc.inside.seat.me.0.view.gate.phase
    (ap (λ (p : Handle g.row.K.Denot). is_in p.view.gate.phase) c.desc.view_is ∙ c.requires.running.0)) c.desc.invariant.1)
    (sym c.irrevocable_under-irrevocable.ensures ∙ c.if-irrevocable.false) in
    let low : c.desc.inside.local.depth < c.desc.inside.local.writes.marks_limit = (let l = c.if-depth-limit.false in let e = c.marks_limit-limit.ensures in omega arith) in
    omega arith

pub invariant_of-desc-2 : goal.invariant_of-desc-2
invariant_of-desc-2 g c =
    let inside : IsInside (good_by g.K.MemRule.good c.desc.inside.seat.me.0.who.rule) c.desc.inside.seat.me.0.who.config
    c.desc.inside.number (record c.desc.inside.local { writes = c.mark.new.self; depth = c.desc.inside.local.depth + 1 })
    c.desc.inside.seat.me.0.view = subst (λ (log : LogState).
    IsInside (good_by g.K.MemRule.good c.desc.inside.seat.me.0.who.rule) c.desc.inside.seat.me.0.who.config c.desc.inside.number
    (record c.desc.inside.local { writes = log; depth = c.desc.inside.local.depth + 1 }) c.desc.inside.seat.me.0.view) (sym c.mark.ensures)
    (laws.stays-marked (good_by g.K.MemRule.good c.desc.inside.seat.me.0.who.rule) c.desc.inside.seat.me.0.who.config c.desc.inside.number
    c.desc.inside.local c.desc.inside.seat.me.0.view (inside-of (good_by g.K.MemRule.good c.desc.inside.seat.me.0.who.rule)
    c.desc.inside.seat.me.0.who.config c.desc.inside.number c.desc.inside.local c.desc.inside.seat.me.0.view
    (in-of c.desc.inside.seat.me.0.view.gate.phase
    (ap (λ (p : Handle g.row.K.Denot). is_in p.view.gate.phase) c.desc.view_is ∙ c.requires.running.0)) c.desc.invariant.1)
    (sym c.irrevocable_under-irrevocable.ensures ∙ c.if-irrevocable.false)) in
    let lengths : HasRoom (record c.desc.inside.local { writes = c.mark.new.self; depth = c.desc.inside.local.depth + 1 }) =
    (ap (λ (y : LogState). y.len) c.mark.ensures ∙ c.desc.invariant.1.lengths.0, c.desc.invariant.1.lengths.1) in (
      c.desc.invariant.0,
      stands-on (good_by g.K.MemRule.good c.desc.inside.seat.me.0.who.rule) c.desc.inside.seat.me.0.who.config c.desc.inside.number
          c.desc.inside.local (record c.desc.inside.local { writes = c.mark.new.self; depth = c.desc.inside.local.depth + 1 })
          c.desc.inside.seat.me.0.view c.desc.inside.seat.me.0.view (in-of c.desc.inside.seat.me.0.view.gate.phase
          (ap (λ (p : Handle g.row.K.Denot). is_in p.view.gate.phase) c.desc.view_is ∙ c.requires.running.0)) c.desc.invariant.1 refl refl lengths
          refl (inside),
    )

pub returns-clause-checks : goal.returns-clause-checks
returns-clause-checks g c =
    subst (λ (p : Handle g.row.K.Denot).
    (p.own.depth < p.own.marks_limit) × (c.desc.inside.local.depth + 1 ≡ p.own.depth + 1)
    × IsMarked (known p) (known_of c.desc.inside.seat.me.0.view
    (own_of (record c.desc.inside.local { writes = c.mark.new.self; depth = c.desc.inside.local.depth + 1 })))) c.desc.view_is (
      (let l = c.if-depth-limit.false in let e = c.marks_limit-limit.ensures in omega arith),
      refl,
      subst (λ (log : LogState).
          IsMarked (known_of c.desc.inside.seat.me.0.view (own_of c.desc.inside.local))
          (known_of c.desc.inside.seat.me.0.view (own_of (record c.desc.inside.local { writes = log; depth = c.desc.inside.local.depth + 1 }))))
          (sym c.mark.ensures) (laws.marks-log (good_by g.K.MemRule.good c.desc.inside.seat.me.0.who.rule) c.desc.inside.seat.me.0.who.config
          c.desc.inside.number c.desc.inside.local c.desc.inside.seat.me.0.view
          (inside-of (good_by g.K.MemRule.good c.desc.inside.seat.me.0.who.rule) c.desc.inside.seat.me.0.who.config c.desc.inside.number
          c.desc.inside.local c.desc.inside.seat.me.0.view (in-of c.desc.inside.seat.me.0.view.gate.phase
          (ap (λ (p : Handle g.row.K.Denot). is_in p.view.gate.phase) c.desc.view_is ∙ c.requires.running.0)) c.desc.invariant.1)
          (sym c.irrevocable_under-irrevocable.ensures ∙ c.if-irrevocable.false)),
    )
