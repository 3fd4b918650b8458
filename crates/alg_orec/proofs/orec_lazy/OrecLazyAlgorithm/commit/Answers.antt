use Rattle.std.proofs.Common.{ℕ, ◌≡◌, ◌∙◌, subst, sym, ap, refl, rules}
use Rattle.stm_model.specs.Algorithms.{closes_gate}
use Rattle.stm_model.specs.declared.alg.Alg.TheVariants.{OrecLazy}
use Rattle.rule_base.specs.declared.seats.SeatView.{SeatView}
use Rattle.stm_rule.specs.declared.local.Local.{Local}
use Rattle.stm_rule.specs.Callers.{Handle}
use Rattle.stm_rule.specs.RecordsKept.{cells_of}
use Rattle.stm_logs.specs.LogStates.{LogState}
use Rattle.stm_rule.specs.Attempts.{IsInside, own_of}
use Rattle.stm_answers.specs.declared.answers.Commit.TheVariants.{ReadOnly}
use Rattle.stm_answers.specs.Answers.{Commits, KeepsRule}
use Rattle.stm_answers.specs.CallerState.{CallerState, known_of}
use Rattle.stm_gate.proofs.Opening.{Opened, opened, of-view, tells-of}
use Rattle.alg_orec.proofs.CallLaws as calls
use Rattle.alg_orec.proofs.CommitOpening as opening
use Rattle.alg_orec.proofs.Lazy.LazyEndingLaws as laws
use Rattle.alg_calls.specs.Buffers.{keeps-buffered}
use Rattle.alg_orec.proofs.orec_lazy.OrecLazyAlgorithm.commit.Goals.{After-desc}
use Rattle.alg_orec.proofs.orec_lazy.OrecLazyAlgorithm.commit.Goals as goal

opens : (g : _) (c : After-desc g) → Opened g.K.MemRule.good c.args.stm.now c.args.desc.now c.desc.inside.seat.me.0.who
    c.desc.inside.seat.me.0.view c.desc.inside.number c.desc.inside.local
opens g c = opened g.K.MemRule.good c.args.stm.now c.desc.inside.number c.desc.inside.local c.desc.view_is refl
    c.desc.invariant.0.named c.desc.invariant.0.low c.desc.invariant.1 c.requires.stm

inside : (g : _) (c : After-desc g) → IsInside (g.K.MemRule.good c.args.stm.now.rule) c.args.stm.now.config
    c.desc.inside.number c.desc.inside.local c.desc.inside.seat.me.0.view
inside g c = opening.inside g.K.MemRule.good c.args.stm.now (opens g c) c.requires.running

lazy : (g : _) (c : After-desc g) → c.desc.inside.seat.me.0.view.gate.algorithm ≡ OrecLazy
lazy g c = opening.named g.K.MemRule.good c.args.stm.now (opens g c) OrecLazy c.requires.algorithm

pub direct_commit-requires-clause-running : goal.direct_commit-requires-clause-running
direct_commit-requires-clause-running g c =
    let a = (goal.at.direct_commit-requires-clause-running g c).After-desc in (
      c.requires.running,
      ap (λ (k : CallerState). k.committing) (opens g a).knows ∙ calls.direct-whole _ _ _ _ _ (inside g a)
          (lazy g a) (search rules),
    )

pub direct_commit-requires-clause-closes : goal.direct_commit-requires-clause-closes
direct_commit-requires-clause-closes g c = ap closes_gate c.requires.algorithm

pub direct_commit-requires-clause-granted : goal.direct_commit-requires-clause-granted
direct_commit-requires-clause-granted g c =
    let a = (goal.at.direct_commit-requires-clause-granted g c).After-desc in
    ap (λ (k : CallerState). k.granted) (opens g a).knows ∙ calls.direct-granted _ _ _ _ _ (inside g a) (lazy g a)
    (own_of c.desc.inside.local) (search rules)

pub leave-requires-clause-view : goal.leave-requires-clause-view
leave-requires-clause-view g c =
    let a = (goal.at.leave-requires-clause-view g c).After-desc in
    laws.may-leave _ _ _ _ _ (inside g a) (lazy g a) (search rules) (search rules)

pub leave-requires-clause-named : goal.leave-requires-clause-named
leave-requires-clause-named g c = sym (inside g (goal.at.leave-requires-clause-named g c).After-desc).named

pub returns-then-not-desc-clause-commits : goal.returns-then-not-desc-clause-commits
returns-then-not-desc-clause-commits g c =
    let a = (goal.at.returns-then-not-desc-clause-commits g c).After-desc in
    let d = c.desc.inside in
    let w = c.leave.new.seat.me.0.view in
    let P = λ (n : ℕ) (v w : CallerState). Commits (g.K.MemRule.good c.args.stm.now.rule) c.args.stm.now.config n
    (ReadOnly d.local.start) v w in
    tells-of g.K.MemRule.good c.args.stm.now (opens g a) P (known_of w (own_of c.leave.new.local))
    (subst (λ (m : Local). P d.number (known_of d.seat.me.0.view (own_of d.local)) (known_of w (own_of m)))
    (sym c.leave.ensures.idle)
    (laws.tells-read_only _ _ _ _ _ (inside g a) (lazy g a) (search rules) (search rules) w (own_of d.local) refl
    (ap (λ (y : SeatView g.row.K.Denot). y.view) c.leave.ensures.left)))

pub commit_writes-requires-clause-attempt : goal.commit_writes-requires-clause-attempt
commit_writes-requires-clause-attempt g c =
    let a = (goal.at.commit_writes-requires-clause-attempt g c).After-desc in
    calls.may-commit _ _ _ _ _ (inside g a) (lazy g a) (search rules) (search rules) (opens g a).stands

pub commit_writes-requires-clause-keeps : goal.commit_writes-requires-clause-keeps
commit_writes-requires-clause-keeps g c =
    of-view g.K.MemRule.good c.args.stm.now (opens g (goal.at.commit_writes-requires-clause-keeps g c).After-desc)
    (KeepsRule (g.K.MemRule.good c.args.stm.now.rule) c.args.stm.now.config) c.requires.keeps

pub returns-clause-commits : goal.returns-clause-commits
returns-clause-commits g c =
    tells-of g.K.MemRule.good c.args.stm.now (opens g (goal.at.returns-clause-commits g c).After-desc)
    (λ (n : ℕ) (v w : CallerState). Commits (g.K.MemRule.good c.args.stm.now.rule) c.args.stm.now.config n
    c.commit_writes.result v w) _ c.commit_writes.ensures.commits

pub returns-then-desc-clause-buffered : goal.returns-then-desc-clause-buffered
returns-then-desc-clause-buffered g c = keeps-buffered c.direct_commit.result _ _ c.direct_commit.ensures.buffered

pub returns-clause-buffered : goal.returns-clause-buffered
returns-clause-buffered g c = keeps-buffered c.commit_writes.result _ _
    (ap (λ (log : LogState). cells_of log.items) c.commit_writes.ensures.written
    ∙ ap (λ (d : Handle g.row.K.Denot). d.own.buffered) c.desc.view_is)
