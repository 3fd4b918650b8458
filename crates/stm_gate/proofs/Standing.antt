-- What a descriptor's tie says, in the terms of its memory.
use Rattle.std.proofs.Common.{ℕ, ◌≡◌, ◌≢◌, ◌≤◌, ◌+◌, List, [], Bool, true, false, refl, sym, ap, ◌∙◌, subst}
use Rattle.std.specs.Prelude.{Option, Some, ◌&&◌}
use Rattle.stm_model.specs.Algorithms.{closes_gate, entry_rise}
use Rattle.stm_model.specs.declared.alg.Alg.{Alg}
use Rattle.stm_model.specs.declared.alg.Alg.TheVariants.{Cgl, Tml, OrecLazy, OrecEager, RingSw, Serial}
use Rattle.stm_model.specs.declared.config.Config.{Config}
use Rattle.stm_model.specs.declared.config.TheConstants.{CLOCK_LIMIT}
use Rattle.rule_base.specs.declared.seats.SeatView.{SeatView}
use Rattle.rule_base.specs.declared.seats.Who.{Who}
use Rattle.rule_base.specs.declared.views.GateView.{GateView}
use Rattle.rule_base.specs.declared.views.LockView.{LockView}
use Rattle.rule_base.specs.declared.views.Phase.{Phase}
use Rattle.rule_base.specs.declared.views.Phase.TheVariants.{Idle, Announced, Turned, Aiming, In, Closing}
use Rattle.rule_base.specs.declared.views.View.{View}
use Rattle.rule_base.specs.Own.{Own}
use Rattle.rule_base.specs.StepKinds.{StepKind}
use Rattle.rule_base.specs.World.{World}
use Rattle.stm_rule.specs.Kept.{SeatTells}
use Rattle.stm_rule.specs.declared.local.Local.{Local}
use Rattle.stm_rule.specs.Attempts.{good_by, own_of, Keeps, IsInside, IsTml, IsPromoted, Stands}
use Rattle.stm_rule.specs.Callers.{Handle}
use Rattle.stm_rule.proofs.StandLemmas.{inside-of}
use Rattle.stm_answers.specs.CallerState.{CallerState, known_of, granted_under, is_in}
use Rattle.stm_gate.specs.Knowing.{known, number}

pub in-of : (p : Phase) → is_in p ≡ true → p ≡ In
in-of Idle e = absurd cc
in-of Announced e = absurd cc
in-of Turned e = absurd cc
in-of Aiming e = absurd cc
in-of In e = refl
in-of Closing e = absurd cc

module _ {K : Type 0} (good : K → List ℕ → Type 0) where
  -- for the memory's configuration and rule
  pub stands-of : (c : Config) (rule : K) (who : Who K) (n : ℕ) (l : Local) (v : View) → who.config ≡ c → who.rule ≡ Some rule → Stands (good_by good who.rule) who.config n l v → Stands (good rule) c n l v
  stands-of c rule who n l v config value s =
      subst (λ (f : Config). Stands (good rule) f n l v) config (subst (λ (r : Option K). Stands (good_by good r) who.config n l v) value s)

  -- a running descriptor runs an attempt
  pub runs-of : (c : Config) (rule : K) (d e : Handle K) (n : ℕ) (l : Local) → d ≡ e → e.who.config ≡ c → e.who.rule ≡ Some rule
      → (known e).running ≡ true → Stands (good_by good d.who.rule) d.who.config n l d.view → IsInside (good rule) c n l d.view
  runs-of c rule d e n l same configured ruled runs stands =
      let config = subst (λ (h : Handle K). h.who.config ≡ c) (sym same) configured in
      let value = subst (λ (h : Handle K). h.who.rule ≡ Some rule) (sym same) ruled in
      let phase = in-of d.view.gate.phase (subst (λ (h : Handle K). is_in h.view.gate.phase ≡ true) (sym same) runs) in
      inside-of (good rule) c n l d.view phase (stands-of c rule d.who n l d.view config value stands)

module _ {K : Type 0} where
  -- a step leaves its seat to the same caller
  pub who-of : (kind : StepKind) (shows : World → View → ℕ → Type 0) (s : SeatView K) (x : ℕ) (t : SeatView K) → SeatTells kind shows s x t → t.who ≡ s.who
  who-of kind shows s x t h = ap (λ (y : SeatView K). y.who) h.3

  -- what was shown of the views of caller n is so of its descriptor d, which was e at the call; its own part stands
  pub shown-of : (R : ℕ → CallerState → CallerState → Type 0) (d e : Handle K) (n : ℕ) (w : View) (l m : Local) → d ≡ e → own_of m ≡ own_of l → number d ≡ n
      → R n (known d) (known_of w (own_of l)) → R (number e) (known e) (known_of w (own_of m))
  shown-of R d e n w l m same own name h = subst (λ (p : Handle K). R (number p) (known p) (known_of w (own_of m))) same
      (subst (λ (o : Own). R (number d) (known d) (known_of w o)) (sym own)
      (subst (λ (k : ℕ). R k (known d) (known_of w (own_of l))) (sym name) h))

-- what stands of a promoted attempt under each algorithm
pub record IsDirect (l : Local) (v : View) : Type 0 where
  pub granted : v.gate.granted ≡ true
  pub quiescent : v.gate.quiescent ≡ true
  pub unlocked : v.lock.taken ≡ false
  pub unwritten : v.tml.writer ≡ false
  pub clean : l.wrote ≡ false → v.attempt.stores ≡ []
  pub dirty : l.wrote ≡ true → v.attempt.stores ≢ []
  pub rises : v.steps.rises ≡ v.steps.rises_at_begin
  pub limit : l.start + entry_rise l.algorithm ≤ CLOCK_LIMIT

direct-of : (l : Local) (v : View) → IsPromoted l v → IsDirect l v
direct-of l v p = record { granted = p.granted; quiescent = p.quiescent; unlocked = p.clear.unlocked; unwritten = p.clear.unwritten; clean = p.clean; dirty = p.dirty; rises = p.rises; limit = p.limit }

module _ (good : List ℕ → Type 0) (c : Config) (n : ℕ) (l : Local) (v : View) where
  closed_alg : (a : Alg) → closes_gate a ≡ true → (gate : GateView) (lock : LockView) → granted_under a gate lock ≡ true → gate.granted ≡ true
  closed_alg Cgl e gate lock g = absurd cc
  closed_alg Tml e gate lock g = g
  closed_alg OrecLazy e gate lock g = g
  closed_alg OrecEager e gate lock g = g
  closed_alg RingSw e gate lock g = g
  closed_alg Serial e gate lock g = absurd cc

  both : (a b : Bool) → true ≡ (a && b) → (a ≡ true) × (b ≡ true)
  both true true e = (refl, refl)
  both true false e = absurd cc
  both false b e = absurd cc

  by-alg : (a : Alg) (granted : Bool) → closes_gate a ≡ true → granted ≡ true → Keeps c a granted l v → IsDirect l v
  by-alg Cgl granted e g k = absurd cc
  by-alg Tml true e g k = direct-of l v k
  by-alg Tml false e g k = absurd cc
  by-alg OrecLazy true e g k = direct-of l v k
  by-alg OrecLazy false e g k = absurd cc
  by-alg OrecEager true e g k = record { granted = k.granted; quiescent = k.quiescent; unlocked = k.unlocked; unwritten = k.unwritten; clean = k.clean; dirty = k.dirty; rises = k.rises; limit = k.limit }
  by-alg OrecEager false e g k = absurd cc
  by-alg RingSw true e g k = direct-of l v k
  by-alg RingSw false e g k = absurd cc
  by-alg Serial granted e g k = absurd cc

  -- an attempt that closes the gate and was granted was promoted
  pub promoted-of : IsInside good c n l v → closes_gate v.gate.algorithm ≡ true → granted_under v.gate.algorithm v.gate v.lock ≡ true → (v.gate.granted ≡ true) × (l.granted ≡ true) × IsDirect l v
  promoted-of i closes granted =
      let here = closed_alg v.gate.algorithm closes v.gate v.lock granted in
      let named : closes_gate l.algorithm ≡ true = ap closes_gate (sym i.named) ∙ closes in
      let own = both (closes_gate l.algorithm) l.granted (sym here ∙ i.granted) in
      (here, own.1, by-alg l.algorithm l.granted named own.1 i.keeps)

  tml-by : (a : Alg) (granted : Bool) → a ≡ Tml → granted ≡ false → Keeps c a granted l v → IsTml c l v
  tml-by Cgl granted e g k = absurd cc
  tml-by Tml true e g k = absurd cc
  tml-by Tml false e g k = k
  tml-by OrecLazy granted e g k = absurd cc
  tml-by OrecEager granted e g k = absurd cc
  tml-by RingSw granted e g k = absurd cc
  tml-by Serial granted e g k = absurd cc

  -- an attempt of TML that was not promoted
  pub tml-of : IsInside good c n l v → v.gate.algorithm ≡ Tml → l.granted ≡ false → IsTml c l v
  tml-of i tml plain = tml-by l.algorithm l.granted (sym i.named ∙ tml) plain i.keeps
