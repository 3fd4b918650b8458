use Rattle.std.proofs.Common.{ℕ, ◌≡◌, subst, sym, ap, refl, false, rules, ◌∙◌}
use Rattle.rule_base.specs.declared.seats.SeatView.{SeatView}
use Rattle.stm_rule.specs.declared.local.Local.{Local}
use Rattle.stm_rule.specs.Attempts.{own_of}
use Rattle.stm_rule.specs.Callers.{Handle}
use Rattle.stm_rule.specs.RecordsKept.{cells_of}
use Rattle.alg_calls.specs.Buffers.{keeps-buffered}
use Rattle.stm_logs.specs.LogStates.{LogState}
use Rattle.stm_answers.specs.declared.answers.Commit.TheVariants as commits
use Rattle.stm_answers.specs.Answers as answers
use Rattle.stm_answers.specs.CallerState.{CallerState, known_of}
use Rattle.alg_ring.proofs.Opening.{opened, of-view, has-attempt, tells-of, stands-after}
use Rattle.alg_ring.proofs.Committing as laws
use Rattle.alg_ring.proofs.Ending as ending
use Rattle.alg_ring.proofs.Running as attempt
use Rattle.alg_ring.proofs.ring.RingSwAlgorithm.commit.Goals as goal

pub direct_commit-requires-clause-running : goal.direct_commit-requires-clause-running
direct_commit-requires-clause-running g c =
    let a = opened g.K.MemRule.good c.args.stm.now c.desc.inside.number c.desc.inside.local c.desc.view_is refl c.desc.invariant.0.named c.desc.invariant.0.low c.desc.invariant.1 c.requires.stm in
    (c.requires.running, ap (λ (k : CallerState). k.committing) a.knows ∙ attempt.steady _ _ _ _ _ (has-attempt g.K.MemRule.good c.args.stm.now a c.requires.running c.requires.algorithm) (search rules))

pub direct_commit-requires-clause-granted : goal.direct_commit-requires-clause-granted
direct_commit-requires-clause-granted g c =
    let a = opened g.K.MemRule.good c.args.stm.now c.desc.inside.number c.desc.inside.local c.desc.view_is refl c.desc.invariant.0.named c.desc.invariant.0.low c.desc.invariant.1 c.requires.stm in
    ap (λ (k : CallerState). k.granted) a.knows ∙ (attempt.granted-is _ _ _ _ _ (has-attempt g.K.MemRule.good c.args.stm.now a c.requires.running c.requires.algorithm) ∙ (search rules))

pub leave-requires-clause-view : goal.leave-requires-clause-view
leave-requires-clause-view g c =
    let at = has-attempt g.K.MemRule.good c.args.stm.now
    (opened g.K.MemRule.good c.args.stm.now c.desc.inside.number c.desc.inside.local c.desc.view_is refl c.desc.invariant.0.named
    c.desc.invariant.0.low c.desc.invariant.1 c.requires.stm) c.requires.running c.requires.algorithm in
    ending.may-leave _ _ _ _ _ (attempt.inside _ _ _ _ _ at) at.named (attempt.kept _ _ _ _ _ at (search rules))

pub returns-then-not-desc-clause-commits : goal.returns-then-not-desc-clause-commits
returns-then-not-desc-clause-commits g c =
    let a = opened g.K.MemRule.good c.args.stm.now c.desc.inside.number c.desc.inside.local c.desc.view_is refl c.desc.invariant.0.named c.desc.invariant.0.low c.desc.invariant.1 c.requires.stm in
    let P = λ (n : ℕ) (v w : CallerState). answers.Commits (g.K.MemRule.good c.args.stm.now.rule) c.args.stm.now.config n (commits.ReadOnly c.desc.inside.local.start) v w in
    tells-of g.K.MemRule.good c.args.stm.now a P (known_of c.leave.new.seat.me.0.view (own_of c.leave.new.local)) (subst (λ (m : Local).
    P c.desc.inside.number (known_of c.desc.inside.seat.me.0.view (own_of c.desc.inside.local))
    (known_of c.leave.new.seat.me.0.view (own_of m))) (sym c.leave.ensures.idle)
    (laws.tells-read_only _ _ _ _ _ (has-attempt g.K.MemRule.good c.args.stm.now a c.requires.running c.requires.algorithm) (search rules)
    c.leave.new.seat.me.0.view (search rules) (ap (λ q. q.view) c.leave.ensures.left)))

pub commit_writes-requires-clause-wrote : goal.commit_writes-requires-clause-wrote
commit_writes-requires-clause-wrote g c =
    let a = opened g.K.MemRule.good c.args.stm.now c.desc.inside.number c.desc.inside.local c.desc.view_is refl c.desc.invariant.0.named c.desc.invariant.0.low c.desc.invariant.1 c.requires.stm in
    let at = has-attempt g.K.MemRule.good c.args.stm.now a c.requires.running c.requires.algorithm in
    let plain : c.desc.inside.local.granted ≡ false = search rules in
    record {
      attempt = at;
      revocable = attempt.irrevocable-is _ _ _ _ _ at ∙ plain;
      wrote = attempt.wrote-is _ _ _ _ _ at plain ∙ (search rules);
      keeps = of-view g.K.MemRule.good c.args.stm.now a (λ (n : ℕ) (k : CallerState). answers.KeepsRule (g.K.MemRule.good c.args.stm.now.rule) c.args.stm.now.config n k) c.requires.keeps;
    }

pub invariant_of-desc-2 : goal.invariant_of-desc-2
invariant_of-desc-2 g c = (
  search rules,
  stands-after g.K.MemRule.good c.args.stm.now
      (opened g.K.MemRule.good c.args.stm.now c.desc.inside.number c.desc.inside.local c.desc.view_is refl c.desc.invariant.0.named
      c.desc.invariant.0.low c.desc.invariant.1 c.requires.stm) c.commit_writes.new.seat.me.0 c.commit_writes.new.local
      (ap (λ (y : SeatView g.row.K.Denot). y.who) c.commit_writes.ensures.same.1) c.commit_writes.ensures.commits.stands,
)

pub returns-clause-commits : goal.returns-clause-commits
returns-clause-commits g c =
    tells-of g.K.MemRule.good c.args.stm.now
    (opened g.K.MemRule.good c.args.stm.now c.desc.inside.number c.desc.inside.local c.desc.view_is refl c.desc.invariant.0.named
    c.desc.invariant.0.low c.desc.invariant.1 c.requires.stm)
    (λ (n : ℕ) (v w : CallerState).
    answers.Commits (g.K.MemRule.good c.args.stm.now.rule) c.args.stm.now.config n c.commit_writes.result v w)
    (known_of c.commit_writes.new.seat.me.0.view (own_of c.commit_writes.new.local)) c.commit_writes.ensures.commits.told

pub returns-clause-buffered : goal.returns-clause-buffered
returns-clause-buffered g c =
    keeps-buffered c.commit_writes.result _ _
    (ap (λ (w : LogState). cells_of w.items) c.commit_writes.ensures.buffered ∙ ap (λ (h : Handle g.row.K.Denot). h.own.buffered) c.desc.view_is)
