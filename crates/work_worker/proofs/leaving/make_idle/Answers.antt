use Rattle.std.proofs.Common.{ℕ, ◌≡◌, ◌+◌, List, [], refl, sym, ap, ◌∙◌, inl, inr, arith, subst}
use Rattle.std.specs.Prelude.{if◌then◌else◌}
use Rattle.stm_rule.specs.Callers.{Handle, IsSameCaller}
use Rattle.stm_rule.specs.declared.stm.Stm.{Stm}
use Rattle.stm_answers.specs.Answers.{HoldsClosed, Stays}
use Rattle.stm_answers.specs.CallerState.{IsIdle, caller_of, owed}
use Rattle.stm_answers.specs.CallerStateLaws.{grows-same}
use Rattle.stm_tx.specs.Descs.{known}
use Rattle.work_trace.specs.declared.said.Phase.TheVariants.{Between}
use Rattle.work_worker.specs.declared.worker.Worker.{Worker}
use Rattle.work_worker.specs.Leavings.{MadeIdle}
use Rattle.work_worker.specs.Workers.{IsAt, Sound}
use Rattle.work_worker.proofs.LeaveLaws.{made-idle}
use Rattle.work_worker.proofs.TurnLaws.{closed-now}
use Rattle.work_worker.proofs.leaving.make_idle.Goals as goal

pub returns-in-Between : goal.returns-in-Between
returns-in-Between g c =
    let v = known c.args.w.now.desc in
    let idle : IsIdle v = subst (λ p. IsAt (g.K.MemRule.good c.args.stm.now.rule) c.args.stm.now.config (caller_of c.args.w.now.desc.who.role) p v) c.in-Between.is c.requires.at in
    made-idle (g.K.MemRule.good c.args.stm.now.rule) c.args.stm.now c.args.w.now c.requires c.args.w.now.desc (record { table = refl; who = refl }) idle (grind (arith, idle.1))
    (record { grows = grows-same v v refl refl [] refl refl refl refl refl; made = inl refl; installs = refl }) (λ e. refl)

pub returns-in-Inside : goal.returns-in-Inside
returns-in-Inside g c =
    let e = c.end_attempt.ensures in
    made-idle (g.K.MemRule.good c.args.stm.now.rule) c.args.stm.now c.args.w.now c.requires c.end_attempt.new.desc e.same e.idle e.owes e.keeps (λ b. absurd (let x = sym c.in-Inside.is ∙ b in cc))

-- what was closed is given up
opened : {K : Type 0} (good : List ℕ → Type 0) (stm : Stm K) (v : Worker K) → Sound good stm v → (d : Handle K) → IsSameCaller v.desc d
    → HoldsClosed (known v.desc) → Stays stm.config (known v.desc) (known d) → (v.phase ≡ Between → ⊥)
    → MadeIdle good stm v (record v { desc = d })
opened good stm v s d same closed h other =
    let owes : owed (known v.desc) ≡ (known v.desc).rises = ap (λ b. if b then (known v.desc).base + 2 else (known v.desc).rises) closed.running in
    let rises = h.rises in
    made-idle good stm v s d same h.idle (omega (arith, owes, rises)) (record { grows = h.grows; made = inl h.made; installs = h.installs }) (λ e. absurd (other e))

pub returns-in-Closing : goal.returns-in-Closing
returns-in-Closing g c =
    let good = g.K.MemRule.good c.args.stm.now.rule in
    opened good c.args.stm.now c.args.w.now c.requires c.reopen.new.desc c.reopen.ensures.same
    (closed-now good c.args.stm.now c.args.w.now c.requires (inl c.in-Closing.is)) c.reopen.ensures.reopens (λ e.
    let x = sym c.in-Closing.is ∙ e in cc)

pub returns-in-Quiet : goal.returns-in-Quiet
returns-in-Quiet g c =
    let good = g.K.MemRule.good c.args.stm.now.rule in
    opened good c.args.stm.now c.args.w.now c.requires c.reopen-in-Quiet.new.desc c.reopen-in-Quiet.ensures.same
    (closed-now good c.args.stm.now c.args.w.now c.requires (inr c.in-Quiet.is)) c.reopen-in-Quiet.ensures.reopens (λ e.
    let x = sym c.in-Quiet.is ∙ e in cc)
