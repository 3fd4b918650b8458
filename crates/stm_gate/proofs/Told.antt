-- What a call tells of the views of its caller, it tells of the descriptor.
use Rattle.std.proofs.Common.{ℕ, ◌≡◌, ◌∙◌, List, Bool, true, false, refl, ap, sym, subst}
use Rattle.std.specs.Prelude.{Option, Some}
use Rattle.stm_model.specs.declared.config.Config.{Config}
use Rattle.rule_base.specs.declared.views.Phase.TheVariants.{Idle, In, Closing}
use Rattle.rule_base.specs.declared.views.View.{View}
use Rattle.rule_base.specs.declared.seats.Role.{Role}
use Rattle.rule_base.specs.declared.seats.Role.TheVariants.{Caller}
use Rattle.rule_base.specs.declared.seats.SeatView.{SeatView}
use Rattle.rule_base.specs.declared.seats.Who.{Who}
use Rattle.stm_rule.specs.declared.local.Local.{Local}
use Rattle.stm_rule.specs.Attempts.{own_of, good_by, IsInside, HasRoom, Stands, StandsBy}
use Rattle.stm_rule.specs.Callers.{Handle}
use Rattle.stm_gate.specs.Knowing.{known, number}
use Rattle.stm_answers.specs.CallerState.{CallerState, known_of, caller_of}

-- an undo log of the same length leaves the descriptor's own part
pub own-by : (l m : Local) → m ≡ record l { undo = m.undo } → m.undo.len ≡ l.undo.len → own_of m ≡ own_of l
own-by l m is len = ap own_of is ∙ ap (λ (k : ℕ). record (own_of l) { writes_limit = k }) len

-- who is in an attempt has a descriptor that runs it
pub running-by : (good : List ℕ → Type 0) (c : Config) (n : ℕ) (l : Local) (v : View) → v.gate.phase ≡ In → Stands good c n l v → l.running ≡ true
running-by good c n l v inside s = go l.running l.holds s.by
  where
    go : (running holds : Bool) → StandsBy good c n l running holds v → running ≡ true
    go true holds s = refl
    go false true s = absurd (let e : Closing ≡ In = sym s.phase ∙ inside in cc)
    go false false s = absurd (let e : Idle ≡ In = sym s.phase ∙ inside in cc)

-- an attempt of a descriptor goes on
pub stands-in : {K : Type 0} → (good : K → List ℕ → Type 0) (c : Config) (rule : K) (who : Who K) (n : ℕ) (l : Local) (v : View)
    → who.config ≡ c → who.rule ≡ Some rule → l.running ≡ true → l.holds ≡ v.gate.holds → HasRoom l → IsInside (good rule) c n l v
    → Stands (good_by good who.rule) who.config n l v
stands-in {K} good c rule who n l v config value running holds lengths i =
    subst (λ (r : Option K). Stands (good_by good r) who.config n l v) (sym value) (subst (λ (f : Config). Stands (good rule) f n l v) (sym config)
    (record { holds = holds; lengths = lengths; by = subst (λ (r : Bool). StandsBy (good rule) c n l r l.holds v) (sym running) i }))

-- d was the descriptor e at the call, t is its seat after it, and m its fields
pub told : {K : Type 0} → (P : ℕ → CallerState → CallerState → Type 0) (d e : Handle K) (n : ℕ) (t : SeatView K) (m : Local) → d ≡ e → t.who ≡ d.who → d.who.role ≡ Caller n
    → P n (known d) (known_of t.view (own_of m)) → P (number e) (known e) (known_of t.view (own_of m))
told {K} P d e n t m same who role p = subst (λ (h : Handle K). P (number h) (known h) (known_of t.view (own_of m))) same
    (subst (λ (q : Who K). P (number d) (known d) (known_of t.view (own_of m))) (sym who)
    (subst (λ (r : Role). P (caller_of r) (known d) (known_of t.view (own_of m))) (sym role) p))

-- a running attempt that goes on stands
pub stands-on : (good : List ℕ → Type 0) (c : Config) (n : ℕ) (l m : Local) (v w : View) → v.gate.phase ≡ In → Stands good c n l v
    → m.running ≡ l.running → m.holds ≡ l.holds → HasRoom m → w.gate.holds ≡ v.gate.holds → IsInside good c n m w → Stands good c n m w
stands-on good c n l m v w inside s running held lengths gate i = record {
  holds = held ∙ (s.holds ∙ sym gate);
  lengths = lengths;
  by = subst (λ (r : Bool). StandsBy good c n m r m.holds w) (sym (running ∙ running-by good c n l v inside s)) i;
}

-- the tie of a descriptor in its own terms
pub stands-back : {K : Type 0} (good : K → List ℕ → Type 0) (c : Config) (rule : K) (who : Who K) (n : ℕ) (l : Local) (v : View)
    → who.config ≡ c → who.rule ≡ Some rule → Stands (good rule) c n l v → Stands (good_by good who.rule) who.config n l v
stands-back {K} good c rule who n l v config value s =
    subst (λ (f : Config). Stands (good_by good who.rule) f n l v) (sym config) (subst (λ (r : Option K). Stands (good_by good r) c n l v) (sym value) s)
