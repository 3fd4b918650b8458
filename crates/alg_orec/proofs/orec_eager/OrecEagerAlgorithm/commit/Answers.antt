use Rattle.std.proofs.Common.{ℕ, ◌≡◌, ◌∙◌, length, arith, subst, sym, ap, false, rules, ◌≤◌, refl, []}
use Rattle.rule_base.specs.declared.seats.SeatView.{SeatView}
use Rattle.stm_rule.specs.declared.local.Local.{Local}
use Rattle.stm_rule.specs.Callers.{Handle}
use Rattle.stm_rule.specs.RecordsKept.{cells_of}
use Rattle.stm_logs.specs.LogStates.{LogState}
use Rattle.stm_rule.specs.Attempts.{own_of}
use Rattle.stm_answers.specs.declared.answers.Commit.TheVariants.{ReadOnly}
use Rattle.stm_answers.specs.Answers.{Commits, KeepsRule}
use Rattle.stm_answers.specs.CallerState.{CallerState, known_of}
use Rattle.stm_gate.proofs.Opening.{Opened, opened, of-view, shows, tells-of}
use Rattle.stm_gate.proofs.Peeling.{no-items}
use Rattle.alg_orec.proofs.CommitOpening.{Unpromoted, unpromoted, granted-known}
use Rattle.alg_orec.proofs.Eager.EagerCommitLaws as laws
use Rattle.alg_orec.proofs.Eager.EagerProving.{length-none, held-within}
use Rattle.alg_calls.specs.Buffers.{keeps-buffered}
use Rattle.alg_orec.proofs.orec_eager.OrecEagerAlgorithm.commit.Goals.{After-desc}
use Rattle.alg_orec.proofs.orec_eager.OrecEagerAlgorithm.commit.Goals as goal

opens : (g : _) (c : After-desc g) → Opened g.K.MemRule.good c.args.stm.now c.args.desc.now c.desc.inside.seat.me.0.who
    c.desc.inside.seat.me.0.view c.desc.inside.number c.desc.inside.local
opens g c = opened g.K.MemRule.good c.args.stm.now c.desc.inside.number c.desc.inside.local c.desc.view_is refl
    c.desc.invariant.0.named c.desc.invariant.0.low c.desc.invariant.1 c.requires.stm

here : (g : _) (c : After-desc g) → c.desc.inside.local.granted ≡ false → Unpromoted
    (g.K.MemRule.good c.args.stm.now.rule) c.args.stm.now.config c.desc.inside.number c.desc.inside.local
    c.desc.inside.seat.me.0.view
here g c plain = unpromoted g.K.MemRule.good c.args.stm.now (opens g c) c.requires.running c.requires.algorithm plain

-- who logged no record holds none
none-held : (g : _) (c : After-desc g) → c.desc.inside.local.granted ≡ false → length
    c.desc.inside.local.locks.items ≡ 0 → c.desc.inside.seat.me.0.view.owned.held ≡ []
none-held g c plain none = no-items _ (sym (laws.k (here g c plain)).locks ∙ length-none _ (omega arith))

pub commit_direct-requires-clause-granted : goal.commit_direct-requires-clause-granted
commit_direct-requires-clause-granted g c =
    granted-known g.K.MemRule.good c.args.stm.now
    (opens g (goal.at.commit_direct-requires-clause-granted g c).After-desc) c.requires.running c.requires.algorithm
    (search rules)

pub leave-requires-clause-view : goal.leave-requires-clause-view
leave-requires-clause-view g c =
    let a = (goal.at.leave-requires-clause-view g c).After-desc in
    laws.may-leave (here g a (search rules)) (search rules) (none-held g a (search rules) (search rules))

pub leave-requires-clause-named : goal.leave-requires-clause-named
leave-requires-clause-named g c = sym (here g (goal.at.leave-requires-clause-named g c).After-desc
    (search rules)).inside.named

pub returns-then-count-eq0-clause-commits : goal.returns-then-count-eq0-clause-commits
returns-then-count-eq0-clause-commits g c =
    let a = (goal.at.returns-then-count-eq0-clause-commits g c).After-desc in
    let d = c.desc.inside in
    let P = λ (n : ℕ) (v w : CallerState). Commits (g.K.MemRule.good c.args.stm.now.rule) c.args.stm.now.config n
    (ReadOnly d.local.start) v w in
    shows g.K.MemRule.good c.args.stm.now (opens g a) P c.leave.new.seat.me.0.view c.leave.new.local
    (ap own_of c.leave.ensures.idle)
    (laws.tells-read_only (here g a (search rules)) (search rules) (none-held g a (search rules) (search rules)) _
    (own_of d.local) (ap (λ (y : SeatView g.row.K.Denot). y.view) c.leave.ensures.left))

pub returns-else-count-eq0-clause-commits : goal.returns-else-count-eq0-clause-commits
returns-else-count-eq0-clause-commits g c =
    let a = (goal.at.returns-else-count-eq0-clause-commits g c).After-desc in
    let d = c.desc.inside in
    let w = c.abort.new.seat.me.0.view in
    let P = λ (n : ℕ) (v w : CallerState). Commits (g.K.MemRule.good c.args.stm.now.rule) c.args.stm.now.config n
    (ReadOnly d.local.start) v w in
    tells-of g.K.MemRule.good c.args.stm.now (opens g a) P (known_of w (own_of c.abort.new.local))
    (subst (λ (m : Local). P d.number (known_of d.seat.me.0.view (own_of d.local)) (known_of w (own_of m)))
    (sym c.abort.ensures.idle)
    (laws.tells-unwritten (here g a (search rules)) (search rules) w (own_of d.local)
    c.abort.ensures.aborts))

pub commit_placed-requires-clause-attempt : goal.commit_placed-requires-clause-attempt
commit_placed-requires-clause-attempt g c =
    let a = (goal.at.commit_placed-requires-clause-attempt g c).After-desc in
    laws.may-commit (here g a (search rules)) (search rules) (opens g a).stands

pub commit_placed-requires-clause-keeps : goal.commit_placed-requires-clause-keeps
commit_placed-requires-clause-keeps g c =
    of-view g.K.MemRule.good c.args.stm.now (opens g (goal.at.commit_placed-requires-clause-keeps g c).After-desc)
    (KeepsRule (g.K.MemRule.good c.args.stm.now.rule) c.args.stm.now.config) c.requires.keeps

pub returns-clause-commits : goal.returns-clause-commits
returns-clause-commits g c =
    tells-of g.K.MemRule.good c.args.stm.now (opens g (goal.at.returns-clause-commits g c).After-desc)
    (λ (n : ℕ) (v w : CallerState). Commits (g.K.MemRule.good c.args.stm.now.rule) c.args.stm.now.config n
    c.commit_placed.result v w) _ c.commit_placed.ensures.commits

pub abort-requires-clause-view : goal.abort-requires-clause-view
abort-requires-clause-view g c = laws.may-take-here (here g (goal.at.abort-requires-clause-view g c).After-desc
    (search rules))

pub abort-requires-clause-named : goal.abort-requires-clause-named
abort-requires-clause-named g c = sym (here g (goal.at.abort-requires-clause-named g c).After-desc
    (search rules)).inside.named

within : (g : _) (c : After-desc g) → c.desc.inside.local.granted ≡ false → length
    c.desc.inside.local.locks.items ≤ c.desc.inside.local.undo.len
within g c plain = held-within _ _ _ (laws.k (here g c plain))

pub returns-else-count-eq0-clause-steps : goal.returns-else-count-eq0-clause-steps
returns-else-count-eq0-clause-steps g c =
    let a = (goal.at.returns-else-count-eq0-clause-steps g c).After-desc in
    let few = within g a (search rules) in
    let first = ap (λ (k : CallerState). length k.step_trace) (opens g a).knows in
    let words = ap (λ (k : CallerState). k.writes_limit) (opens g a).knows in
    let back = c.abort.ensures.steps in
    omega arith

pub returns-clause-steps : goal.returns-clause-steps
returns-clause-steps g c =
    let a = (goal.at.returns-clause-steps g c).After-desc in
    let few = within g a (search rules) in
    let first = ap (λ (k : CallerState). length k.step_trace) (opens g a).knows in
    let words = ap (λ (k : CallerState). k.writes_limit) (opens g a).knows in
    let reads = ap (λ (k : CallerState). k.reads_limit) (opens g a).knows in
    let placed = c.commit_placed.ensures.steps in
    omega arith

pub returns-then-desc-clause-buffered : goal.returns-then-desc-clause-buffered
returns-then-desc-clause-buffered g c = keeps-buffered c.commit_direct.result _ _ c.commit_direct.ensures.buffered

pub returns-clause-buffered : goal.returns-clause-buffered
returns-clause-buffered g c = keeps-buffered c.commit_placed.result _ _
    (ap (λ (log : LogState). cells_of log.items) c.commit_placed.ensures.written
    ∙ ap (λ (d : Handle g.row.K.Denot). d.own.buffered) c.desc.view_is)
