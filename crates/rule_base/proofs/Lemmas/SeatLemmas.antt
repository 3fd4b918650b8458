-- The seats after a step of one caller.
use Rattle.std.proofs.Common.{◌≡◌, ◌≢◌, ℕ, ◌<◌, List, set, sym, refl, ap, ◌∙◌, inl, inr, ⊎_elim, arith, subst, le_trans}
use Rattle.std.specs.Prelude.{Contains}
use mathlib.Core.Option.{some}
use lib.ListN.{get_elem?}
use Rattle.stm_model.specs.declared.config.Config.{Config}
use Rattle.rule_base.specs.declared.seats.Gathered.{Gathered}
use Rattle.rule_base.specs.declared.seats.Role.TheVariants.{Dealer, Caller, Note}
use Rattle.rule_base.specs.declared.seats.SeatView.{SeatView}
use Rattle.rule_base.specs.declared.seats.Who.{Who}
use Rattle.rule_base.specs.declared.views.SeenHistory.{SeenHistory}
use Rattle.rule_base.specs.declared.views.View.{View}
use Rattle.rule_base.specs.World.{World, put}
use Rattle.rule_base.specs.StepKinds.{Advances}
use Rattle.rule_base.specs.Seating.{IsSeen, Claims, Seats}
use Rattle.rule_base.proofs.Lemmas.ListLemmas.{at-set}
use Rattle.rule_base.specs.Lemmas.PutLemmas.{put-here, put-else}

same_caller : (m n : ℕ) → Caller m ≡ Caller n → m ≡ n
same_caller m n e = cc

no_note : (n : ℕ) → Caller n ≡ Note → ⊥
no_note n e = cc

no_dealer : (n k : ℕ) → Caller n ≡ Dealer k → ⊥
no_dealer n k e = cc

-- what a note tells stays so
pub seen-later : (w x : World) (v : SeenHistory) → Advances w x → IsSeen w v → IsSeen x v
seen-later w x v a s = record { front = le_trans s.front a.horizon; within = le_trans s.within a.clock; seen = s.seen ∙ sym (a.seen v.front s.within) }

module _ {K : Type 0} where
  claims-same : (s t : SeatView K) (n : ℕ) → s.who ≡ t.who → s.gathered ≡ t.gathered → Claims t n → Claims s n
  claims-same s t n who gathered = ⊎_elim
      (λ (e : t.who.role ≡ Caller n). inl (ap (λ (p : Who K). p.role) who ∙ e))
      (λ (g : (g : Gathered) × Contains t.gathered g × (g.caller ≡ n)). inr (g.0, subst (λ l. Contains l g.0) (sym gathered) g.1, g.2))

  -- caller n, at seat id, took a step
  module _ (rule : K) (c : Config) (w x : World) (seats : List (SeatView K)) (id n : ℕ) (s : SeatView K) (v : View)
      (r : Seats rule c w seats) (at : get_elem? seats id ≡ some s) (mine : s.who.role ≡ Caller n) (a : Advances w x)
      (is : x.views ≡ put w.views n v) where
    abbrev after : SeatView K
    after = record s { view = v }

    old : (i : ℕ) (u : SeatView K) → get_elem? (set seats id after) i ≡ some u → (y : SeatView K) × (get_elem? seats i ≡ some y) × (y.who ≡ u.who) × (y.gathered ≡ u.gathered)
    old i u e = ⊎_elim
        (λ (t : (i ≡ id) × (after ≡ u)). (s, subst (λ (k : ℕ). get_elem? seats k ≡ some s) (sym t.0) at, ap (λ (y : SeatView K). y.who) t.1, ap (λ (y : SeatView K). y.gathered) t.1))
        (λ (t : (i ≢ id) × (get_elem? seats i ≡ some u)). (u, t.1, refl, refl))
        (at-set seats id i after u e)

    other_view : (m : ℕ) → m ≢ n → x.views m ≡ w.views m
    other_view m d = ap (λ f. f m) is ∙ put-else w.views n m v d

    pub seats-step : Seats rule c x (set seats id (record s { view = v }))
    seats-step = record {
      here = λ j m u e k. ⊎_elim
          (λ (t : (j ≡ id) × (after ≡ u)).
          let same : m ≡ n = same_caller m n (sym k ∙ ap (λ (y : SeatView K). y.who.role) (sym t.1) ∙ mine) in
          ap (λ f. f m) is ∙ ap (put w.views n v) same ∙ put-here w.views n v ∙ ap (λ (y : SeatView K). y.view) t.1)
          (λ (t : (j ≢ id) × (get_elem? seats j ≡ some u)).
          other_view m (λ q. t.0 (r.one j id m u s t.1 at (inl k) (inl (mine ∙ ap (λ (i : ℕ). Caller i) (sym q))))) ∙ r.here j m u t.1 k)
          (at-set seats id j after u e);
      joined = λ j u g e k. ⊎_elim
          (λ (t : (j ≡ id) × (after ≡ u)).
          let there : Contains s.gathered g = subst (λ (y : SeatView K). Contains y.gathered g) (sym t.1) k in
          other_view g.caller (r.apart id n s g at mine there) ∙ r.joined id s g at there)
          (λ (t : (j ≢ id) × (get_elem? seats j ≡ some u)).
          other_view g.caller (λ q. t.0 (r.one j id g.caller u s t.1 at (inr (g, k, refl)) (inl (mine ∙ ap (λ (i : ℕ). Caller i) (sym q))))) ∙ r.joined j u g t.1 k)
          (at-set seats id j after u e);
      one = λ i j m u t ei ej p q. let o = old i u ei in let l = old j t ej in r.one i j m o.0 l.0 o.1 l.1 (claims-same o.0 u m o.2 o.3 p) (claims-same l.0 t m l.2 l.3 q);
      apart = λ j m u g e k h. let o = old j u e in r.apart j m o.0 g o.1 (ap (λ (p : Who K). p.role) o.2 ∙ k) (subst (λ l. Contains l g) (sym o.3) h);
      within = λ j m u e p. let o = old j u e in r.within j m o.0 o.1 (claims-same o.0 u m o.2 o.3 p);
      note = λ j u e k. ⊎_elim
          (λ (t : (j ≡ id) × (after ≡ u)). absurd (no_note n (sym mine ∙ ap (λ (y : SeatView K). y.who.role) t.1 ∙ k)))
          (λ (t : (j ≢ id) × (get_elem? seats j ≡ some u)). seen-later w x u.view.history a (r.note j u t.1 k))
          (at-set seats id j after u e);
      undealt = λ j k m u e q l. ⊎_elim
          (λ (t : (j ≡ id) × (after ≡ u)). absurd (no_dealer n k (sym mine ∙ ap (λ (y : SeatView K). y.who.role) t.1 ∙ q)))
          (λ (t : (j ≢ id) × (get_elem? seats j ≡ some u)).
          let low : n < k = r.dealt j id k n u s t.1 at q (inl mine) in
          other_view m (λ f. omega arith) ∙ r.undealt j k m u t.1 q l)
          (at-set seats id j after u e);
      dealt = λ i j k m u t ei ej q p. let o = old i u ei in let l = old j t ej in r.dealt i j k m o.0 l.0 o.1 l.1 (ap (λ (y : Who K). y.role) o.2 ∙ q) (claims-same l.0 t m l.2 l.3 p);
      dealer = λ i j k l u t ei ej p q. let o = old i u ei in let y = old j t ej in r.dealer i j k l o.0 y.0 o.1 y.1 (ap (λ (z : Who K). z.role) o.2 ∙ p) (ap (λ (z : Who K). z.role) y.2 ∙ q);
      config = λ j u e d. let o = old j u e in ap (λ (z : Who K). z.config) (sym o.2) ∙ r.config j o.0 o.1 (λ q. d (ap (λ (z : Who K). z.role) (sym o.2) ∙ q));
      memory_rule = λ j u e d. let o = old j u e in ap (λ (z : Who K). z.rule) (sym o.2) ∙ r.memory_rule j o.0 o.1 (λ q. d (ap (λ (z : Who K). z.role) (sym o.2) ∙ q));
    }
