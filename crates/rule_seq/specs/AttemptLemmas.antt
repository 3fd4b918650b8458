-- The clauses of who is inside an attempt after a step.
use Rattle.std.proofs.Common.{◌≡◌, ℕ, true, false, arith, sym, subst, ap, ◌∙◌}
use Rattle.rule_base.specs.declared.views.Phase.TheVariants.{In}
use Rattle.rule_base.specs.declared.views.View.{View}
use Rattle.rule_base.specs.GateRule.{may_hold}
use Rattle.rule_base.specs.World.{World, put, parts}
use Rattle.rule_base.specs.Lemmas.PutLemmas.{put-all}
use Rattle.rule_seq.specs.AttemptRule.{is_busy, attempt_projection, AttemptRule}

-- each flag makes its caller busy
pub busy-tml : (v : View) → v.tml.inside ≡ true → is_busy v ≡ true
busy-tml v e = grind (arith, e)

pub busy-writer : (v : View) → v.tml.writer ≡ true → is_busy v ≡ true
busy-writer v e = grind (arith, e)

pub busy-owned : (v : View) → v.owned.inside ≡ true → is_busy v ≡ true
busy-owned v e = grind (arith, e)

pub busy-ring : (v : View) → v.ring_read.inside ≡ true → is_busy v ≡ true
busy-ring v e = grind (arith, e)

pub busy-turn : (v : View) → v.ring_commit.committed ≡ true → is_busy v ≡ true
busy-turn v e = grind (arith, e)

pub idle-busy : (v : View) → v.tml.inside ≡ false → v.tml.writer ≡ false → v.owned.inside ≡ false → v.ring_read.inside ≡ false → v.ring_commit.committed ≡ false → is_busy v ≡ false
idle-busy v a b o c d = grind (arith, a, b, o, c, d)

-- who is inside afterwards is in its attempt
pub attempts-after : (w x : World) (n : ℕ) (v : View) → x.views ≡ put w.views n v → (is_busy v ≡ true → v.gate.phase ≡ In)
    → (v.attempt.entered ≡ true → may_hold v.gate.phase ≡ true) → AttemptRule (attempt_projection w) → AttemptRule (attempt_projection x)
attempts-after w x n v is inside entered r = subst AttemptRule (sym path) (record {
  busy = put-all w.views n v (λ k u. is_busy u ≡ true → u.gate.phase ≡ In) inside (λ k d. r.busy k);
  entered = put-all w.views n v (λ k u. u.attempt.entered ≡ true → may_hold u.gate.phase ≡ true) entered (λ k d. r.entered k);
})
  where
    path : attempt_projection x ≡ record { busy = parts is_busy (put w.views n v); entered = parts (λ (u : View). u.attempt.entered) (put w.views n v); phases = parts (λ (u : View). u.gate.phase) (put w.views n v) }
    path = λ i. record { busy = ap (parts is_busy) is i; entered = ap (parts (λ (u : View). u.attempt.entered)) is i; phases = ap (parts (λ (u : View). u.gate.phase)) is i }

-- a step that leaves these flags and the phase alone
pub attempts-stay : (w x : World) (n : ℕ) (v : View) → x.views ≡ put w.views n v → is_busy v ≡ is_busy (w.views n)
    → v.attempt.entered ≡ (w.views n).attempt.entered → v.gate.phase ≡ (w.views n).gate.phase → AttemptRule (attempt_projection w)
    → AttemptRule (attempt_projection x)
attempts-stay w x n v is own same phase r = attempts-after w x n v is (λ e. phase ∙ r.busy n (sym own ∙ e)) (λ e. ap may_hold phase ∙ r.entered n (sym same ∙ e)) r

-- a step of a caller in its attempt
pub attempts-in : (w x : World) (n : ℕ) (v : View) → x.views ≡ put w.views n v → v.gate.phase ≡ In → AttemptRule (attempt_projection w) → AttemptRule (attempt_projection x)
attempts-in w x n v is phase r = attempts-after w x n v is (λ e. phase) (λ e. ap may_hold phase) r
