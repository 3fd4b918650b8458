-- What a call knows of the descriptor that it is given, and what it tells of it.
use Rattle.std.proofs.Common.{ℕ, ◌≡◌, ◌<◌, List, sym, ap, ◌∙◌, subst}
use Rattle.std.specs.Prelude.{Some}
use Rattle.stm_model.specs.declared.config.Config.{Config}
use Rattle.rule_base.specs.declared.seats.Role.TheVariants.{Caller}
use Rattle.rule_base.specs.declared.seats.SeatView.{SeatView}
use Rattle.rule_base.specs.declared.seats.Who.{Who}
use Rattle.rule_base.specs.declared.views.View.{View}
use Rattle.rule_base.specs.Own.{Own}
use Rattle.stm_rule.specs.declared.local.Local.{Local}
use Rattle.stm_rule.specs.declared.stm.Stm.{Stm}
use Rattle.stm_rule.specs.Attempts.{Stands, good_by, own_of}
use Rattle.stm_rule.specs.Callers.{Handle, IsOf}
use Rattle.stm_answers.specs.CallerState.{CallerState, known_of, caller_of}
use Rattle.stm_gate.specs.Knowing.{known, number}
use Rattle.stm_gate.proofs.Standing.{stands-of}
use Rattle.stm_gate.proofs.Told.{stands-back}

module _ {K : Type 0} (good : K → List ℕ → Type 0) (stm : Stm K) where
  -- e is the descriptor of caller n, with this view and these fields
  pub record Opened (e : Handle K) (who : Who K) (v : View) (n : ℕ) (l : Local) : Type 0 where
    pub view : e.view ≡ v
    pub knows : known e ≡ known_of v (own_of l)
    pub name : number e ≡ n
    pub low : n < stm.config.callers
    pub config : who.config ≡ stm.config
    pub rule : who.rule ≡ Some stm.rule
    pub stands : Stands (good stm.rule) stm.config n l v

  pub opened : {d e : Handle K} (n : ℕ) (l : Local) → d ≡ e → d.own ≡ own_of l → d.who.role ≡ Caller n → n < d.who.config.callers
      → Stands (good_by good d.who.rule) d.who.config n l d.view → IsOf e stm → Opened e d.who d.view n l
  opened {d} {e} n l same own role low stands belongs = record {
    view = ap (λ (p : Handle K). p.view) (sym same);
    knows = ap known (sym same) ∙ ap (λ (o : Own). known_of d.view o) own;
    name = ap number (sym same) ∙ ap caller_of role;
    low = subst (λ (c : Config). n < c.callers) config low;
    config = config;
    rule = rule;
    stands = stands-of good stm.config stm.rule d.who n l d.view config rule stands;
  }
    where
      config : d.who.config ≡ stm.config
      config = ap (λ (p : Handle K). p.who.config) same ∙ belongs.config

      rule : d.who.rule ≡ Some stm.rule
      rule = ap (λ (p : Handle K). p.who.rule) same ∙ belongs.rule

  module _ {e : Handle K} {who : Who K} {v : View} {n : ℕ} {l : Local} (a : Opened e who v n l) where
    -- what is known of the descriptor is known of its view
    pub of-view : (P : ℕ → CallerState → Type 0) → P (number e) (known e) → P n (known_of v (own_of l))
    of-view P p = subst (λ (k : CallerState). P n k) a.knows (subst (λ (k : ℕ). P k (known e)) a.name p)

    pub of-seen : (P : ℕ → View → Type 0) → P (number e) e.view → P n v
    of-seen P p = subst (λ (w : View). P n w) a.view (subst (λ (k : ℕ). P k e.view) a.name p)

    pub is-known : (P : ℕ → CallerState → Type 0) → P n (known_of v (own_of l)) → P (number e) (known e)
    is-known P p = subst (λ (k : ℕ). P k (known e)) (sym a.name) (subst (λ (k : CallerState). P n k) (sym a.knows) p)

    -- and what is told of the view is told of the descriptor
    pub tells-of : (P : ℕ → CallerState → CallerState → Type 0) (w : CallerState) → P n (known_of v (own_of l)) w → P (number e) (known e) w
    tells-of P w p = subst (λ (k : ℕ). P k (known e) w) (sym a.name) (subst (λ (k : CallerState). P n k w) (sym a.knows) p)

    -- the caller's own part stays
    pub shows : (P : ℕ → CallerState → CallerState → Type 0) (w : View) (m : Local) → own_of m ≡ own_of l → P n (known_of v (own_of l)) (known_of w (own_of l)) → P (number e) (known e) (known_of w (own_of m))
    shows P w m own p = tells-of P (known_of w (own_of m)) (subst (λ (o : Own). P n (known_of v (own_of l)) (known_of w o)) (sym own) p)

    -- which stands, with the fields and the view that it has then
    pub stands-after : (t : SeatView K) (m : Local) → t.who ≡ who → Stands (good stm.rule) stm.config n m t.view → Stands (good_by good t.who.rule) t.who.config n m t.view
    stands-after t m same stands = stands-back good stm.config stm.rule t.who n m t.view (ap (λ (p : Who K). p.config) same ∙ a.config) (ap (λ (p : Who K). p.rule) same ∙ a.rule) stands
