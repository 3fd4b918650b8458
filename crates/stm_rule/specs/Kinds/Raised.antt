-- Under RingSW a caller that raised the clock as the gate's holder is quiescent: all others are idle, and the clock is
-- its own. Without this clause DONE needn't be the clock at rest: some other caller could have raised the clock and not
-- have stored DONE yet.
use Rattle.std.proofs.Common.{◌≡◌, ℕ, true, sym, subst}
use Rattle.stm_model.specs.declared.alg.Alg.TheVariants.{RingSw}
use Rattle.rule_base.specs.declared.views.View.{View}
use Rattle.rule_base.specs.Encodings.{alg_of}
use Rattle.rule_base.specs.Lemmas.PutLemmas.{put-all}
use Rattle.rule_base.specs.World.{World, put}

abbrev pub Raised : World → Type 0
Raised w = alg_of w.gate ≡ RingSw → (n : ℕ) → (w.views n).attempt.entered ≡ true → (w.views n).gate.quiescent ≡ true

-- one caller changes its view
pub raised-put : (w x : World) (n : ℕ) (v : View) → x.views ≡ put w.views n v → (alg_of x.gate ≡ RingSw → alg_of w.gate ≡ RingSw)
    → (alg_of x.gate ≡ RingSw → v.attempt.entered ≡ true → v.gate.quiescent ≡ true) → Raised w → Raised x
raised-put w x n v is back own r e =
    subst (λ (f : ℕ → View). (m : ℕ) → (f m).attempt.entered ≡ true → (f m).gate.quiescent ≡ true) (sym is)
    (put-all w.views n v (λ m u. u.attempt.entered ≡ true → u.gate.quiescent ≡ true) (own e) (λ m d. r (back e) m))
