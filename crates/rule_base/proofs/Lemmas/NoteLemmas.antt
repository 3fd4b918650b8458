-- The seats after one was dealt, after a note was told or learnt, and after two were joined at the closing.
use Rattle.std.proofs.Common.{◌≡◌, ◌≢◌, ◌⊎◌, ℕ, ◌+◌, ◌<◌, ◌≤◌, List, [], ◌∷◌, ◌++◌, length, set, sym, refl, ap, ◌∙◌, inl, inr, ⊎_elim, arith, subst}
use Rattle.std.proofs.lemmas.List.Elements.{Contains-append_cases}
use Rattle.std.specs.Prelude.{Some, Contains}
use mathlib.Core.Option.{some}
use lib.ListN.{get_elem?}
use Rattle.stm_model.specs.declared.config.Config.{Config}
use Rattle.rule_base.specs.declared.seats.Gathered.{Gathered}
use Rattle.rule_base.specs.declared.seats.Role.{Role}
use Rattle.rule_base.specs.declared.seats.Role.TheVariants.{Dealer, Caller, Note, Spent}
use Rattle.rule_base.specs.declared.seats.SeatView.{SeatView}
use Rattle.rule_base.specs.Opening.{first_view}
use Rattle.rule_base.specs.World.{World}
use Rattle.rule_base.specs.Seating.{IsSeen, Claims, Seats}
use Rattle.rule_base.specs.Notes.{next_role, dealt_role, claimed, deals_on, dealt, spent, takes_in}
use Rattle.rule_base.proofs.Lemmas.ListLemmas.{at-set, at-append, at-grown, contains-none, contains-cons}

module _ {K : Type 0} (rule : K) (c : Config) (w : World) (seats : List (SeatView K)) (r : Seats rule c w seats) where
  -- a seat that claims nobody and deals nobody may be spent
  module _ (id : ℕ) (s : SeatView K) (at : get_elem? seats id ≡ some s) where
    none_claimed : (n : ℕ) → Claims (spent {K = K}) n → ⊥
    none_claimed n (inl e) = cc
    none_claimed n (inr g) = contains-none g.0 g.1

    old : (j : ℕ) (u : SeatView K) → get_elem? (set seats id spent) j ≡ some u → (u.who.role ≢ Spent) ⊎ ((n : ℕ) × Claims u n) → get_elem? seats j ≡ some u
    old j u e live = ⊎_elim
        (λ (t : (j ≡ id) × (spent ≡ u)).
        absurd (⊎_elim (λ (d : u.who.role ≢ Spent). d (ap (λ (y : SeatView K). y.who.role) (sym t.1)))
        (λ (k : (n : ℕ) × Claims u n). none_claimed k.0 (subst (λ (y : SeatView K). Claims y k.0) (sym t.1) k.1)) live))
        (λ (t : (j ≢ id) × (get_elem? seats j ≡ some u)). t.1)
        (at-set seats id j spent u e)

    pub seats-spend : Seats rule c w (set seats id spent)
    seats-spend = record {
      here = λ j n u e k. r.here j n u (old j u e (inr (n, inl k))) k;
      joined = λ j u g e k. r.joined j u g (old j u e (inr (g.caller, inr (g, k, refl)))) k;
      one = λ i j n u t ei ej p q. r.one i j n u t (old i u ei (inr (n, p))) (old j t ej (inr (n, q))) p q;
      apart = λ j n u g e k h. r.apart j n u g (old j u e (inr (n, inl k))) k h;
      within = λ j n u e p. r.within j n u (old j u e (inr (n, p))) p;
      note = λ j u e k. r.note j u (old j u e (inl (λ d. let x : Note ≡ Spent = sym k ∙ d in cc))) k;
      undealt = λ j k n u e q l. r.undealt j k n u (old j u e (inl (λ d. let x : Dealer k ≡ Spent = sym q ∙ d in cc))) q l;
      dealt = λ i j k n u t ei ej q p. r.dealt i j k n u t (old i u ei (inl (λ d. let x : Dealer k ≡ Spent = sym q ∙ d in cc))) (old j t ej (inr (n, p))) q p;
      dealer = λ i j k l u t ei ej p q. r.dealer i j k l u t (old i u ei (inl (λ d. let x : Dealer k ≡ Spent = sym p ∙ d in cc))) (old j t ej (inl (λ d. let x : Dealer l ≡ Spent = sym q ∙ d in cc))) p q;
      config = λ j u e d. r.config j u (old j u e (inl d)) d;
      memory_rule = λ j u e d. r.memory_rule j u (old j u e (inl d)) d;
    }

  -- a note is told: its seat claims nobody
  module _ (t : SeatView K) (is_note : t.who.role ≡ Note) (bare : t.gathered ≡ []) (config : t.who.config ≡ c) (known : t.who.rule ≡ Some rule) (seen : IsSeen w t.view.history) where
    free : (n : ℕ) → Claims t n → ⊥
    free n (inl e) = let x : Note ≡ Caller n = sym is_note ∙ e in cc
    free n (inr g) = contains-none g.0 (subst (λ (l : List Gathered). Contains l g.0) bare g.1)

    was : (j : ℕ) (u : SeatView K) → get_elem? (seats ++ t ∷ []) j ≡ some u → (t ≡ u → ⊥) → get_elem? seats j ≡ some u
    was j u e d = ⊎_elim (λ (p : (j ≡ length seats) × (t ≡ u)). absurd (d p.1)) (λ (p : get_elem? seats j ≡ some u). p) (at-append seats t u j e)

    by_claim : (j n : ℕ) (u : SeatView K) → get_elem? (seats ++ t ∷ []) j ≡ some u → Claims u n → get_elem? seats j ≡ some u
    by_claim j n u e p = was j u e (λ q. free n (subst (λ (y : SeatView K). Claims y n) (sym q) p))

    by_dealer : (j k : ℕ) (u : SeatView K) → get_elem? (seats ++ t ∷ []) j ≡ some u → u.who.role ≡ Dealer k → get_elem? seats j ≡ some u
    by_dealer j k u e p = was j u e (λ q. let x : Note ≡ Dealer k = sym is_note ∙ ap (λ (y : SeatView K). y.who.role) q ∙ p in cc)

    pub seats-tell : Seats rule c w (seats ++ t ∷ [])
    seats-tell = record {
      here = λ j n u e k. r.here j n u (by_claim j n u e (inl k)) k;
      joined = λ j u g e k. r.joined j u g (by_claim j g.caller u e (inr (g, k, refl))) k;
      one = λ i j n u v ei ej p q. r.one i j n u v (by_claim i n u ei p) (by_claim j n v ej q) p q;
      apart = λ j n u g e k h. r.apart j n u g (by_claim j n u e (inl k)) k h;
      within = λ j n u e p. r.within j n u (by_claim j n u e p) p;
      note = λ j u e k. ⊎_elim (λ (p : (j ≡ length seats) × (t ≡ u)). subst (λ (y : SeatView K). IsSeen w y.view.history) p.1 seen) (λ (p : get_elem? seats j ≡ some u). r.note j u p k) (at-append seats t u j e);
      undealt = λ j k n u e q l. r.undealt j k n u (by_dealer j k u e q) q l;
      dealt = λ i j k n u v ei ej q p. r.dealt i j k n u v (by_dealer i k u ei q) (by_claim j n v ej p) q p;
      dealer = λ i j k l u v ei ej p q. r.dealer i j k l u v (by_dealer i k u ei p) (by_dealer j l v ej q) p q;
      config = λ j u e d. ⊎_elim (λ (p : (j ≡ length seats) × (t ≡ u)). ap (λ (y : SeatView K). y.who.config) (sym p.1) ∙ config) (λ (p : get_elem? seats j ≡ some u). r.config j u p d) (at-append seats t u j e);
      memory_rule = λ j u e d. ⊎_elim (λ (p : (j ≡ length seats) × (t ≡ u)). ap (λ (y : SeatView K). y.who.rule) (sym p.1) ∙ known) (λ (p : get_elem? seats j ≡ some u). r.memory_rule j u p d) (at-append seats t u j e);
    }

  -- the next caller is dealt
  module _ (id k : ℕ) (s : SeatView K) (at : get_elem? seats id ≡ some s) (role : s.who.role ≡ Dealer k) (bare : s.gathered ≡ []) (low : k < c.callers) where
    caller_dealt : (dealt s).who.role ≡ Caller k
    caller_dealt = ap dealt_role role

    dealer_on : (deals_on s).who.role ≡ Dealer (k + 1)
    dealer_on = ap next_role role

    none_joined : (g : Gathered) → Contains s.gathered g → ⊥
    none_joined g h = contains-none g (subst (λ (l : List Gathered). Contains l g) bare h)

    place_of : (j m : ℕ) (u : SeatView K) → get_elem? (set seats id (deals_on s) ++ dealt s ∷ []) j ≡ some u → Claims u m → ((j ≡ length seats) × (m ≡ k)) ⊎ ((m < k) × (get_elem? seats j ≡ some u))
    place_of j m u e p = ⊎_elim
        (λ (t : (j ≡ length seats) × (dealt s ≡ u)). inl (
          t.0,
          ⊎_elim
              (λ (q : u.who.role ≡ Caller m). let x : Caller k ≡ Caller m = sym caller_dealt ∙ ap (λ (y : SeatView K). y.who.role) t.1 ∙ q in cc)
              (λ (g : (g : Gathered) × Contains u.gathered g × (g.caller ≡ m)). absurd (none_joined g.0 (subst (λ (y : SeatView K). Contains y.gathered g.0) (sym t.1) g.1))) p,
        ))
        (λ (o : ((j ≡ id) × (deals_on s ≡ u)) ⊎ ((j ≢ id) × (get_elem? seats j ≡ some u))). ⊎_elim
        (λ (t : (j ≡ id) × (deals_on s ≡ u)). absurd (⊎_elim
        (λ (q : u.who.role ≡ Caller m). let x : Dealer (k + 1) ≡ Caller m = sym dealer_on ∙ ap (λ (y : SeatView K). y.who.role) t.1 ∙ q in cc)
        (λ (g : (g : Gathered) × Contains u.gathered g × (g.caller ≡ m)). none_joined g.0 (subst (λ (y : SeatView K). Contains y.gathered g.0) (sym t.1) g.1)) p))
        (λ (t : (j ≢ id) × (get_elem? seats j ≡ some u)). inr (r.dealt id j k m s u at t.1 role p, t.1)) o)
        (at-grown seats id j (deals_on s) (dealt s) u e)

    dealer_of : (j l : ℕ) (u : SeatView K) → get_elem? (set seats id (deals_on s) ++ dealt s ∷ []) j ≡ some u → u.who.role ≡ Dealer l → (j ≡ id) × (l ≡ k + 1)
    dealer_of j l u e q = ⊎_elim
        (λ (t : (j ≡ length seats) × (dealt s ≡ u)). absurd (let x : Caller k ≡ Dealer l = sym caller_dealt ∙ ap (λ (y : SeatView K). y.who.role) t.1 ∙ q in cc))
        (λ (o : ((j ≡ id) × (deals_on s ≡ u)) ⊎ ((j ≢ id) × (get_elem? seats j ≡ some u))). ⊎_elim
        (λ (t : (j ≡ id) × (deals_on s ≡ u)). (t.0, (let x : Dealer (k + 1) ≡ Dealer l = sym dealer_on ∙ ap (λ (y : SeatView K). y.who.role) t.1 ∙ q in cc)))
        (λ (t : (j ≢ id) × (get_elem? seats j ≡ some u)). absurd (t.0 (r.dealer j id l k u s t.1 at q role))) o)
        (at-grown seats id j (deals_on s) (dealt s) u e)

    -- a fact of each seat that was there, of the dealer and of the new one
    each : (P : SeatView K → Type 0) (j : ℕ) (u : SeatView K) → get_elem? (set seats id (deals_on s) ++ dealt s ∷ []) j ≡ some u → P (dealt s) → P (deals_on s) → (get_elem? seats j ≡ some u → P u) → P u
    each P j u e new dealer there = ⊎_elim
        (λ (t : (j ≡ length seats) × (dealt s ≡ u)). subst P t.1 new)
        (λ (o : ((j ≡ id) × (deals_on s ≡ u)) ⊎ ((j ≢ id) × (get_elem? seats j ≡ some u))). ⊎_elim
        (λ (t : (j ≡ id) × (deals_on s ≡ u)). subst P t.1 dealer)
        (λ (t : (j ≢ id) × (get_elem? seats j ≡ some u)). there t.1) o)
        (at-grown seats id j (deals_on s) (dealt s) u e)

    live : s.who.role ≢ Spent
    live e = let x : Dealer k ≡ Spent = sym role ∙ e in cc

    pub seats-deal : Seats rule c w (set seats id (deals_on s) ++ dealt s ∷ [])
    seats-deal = record {
      here = λ j n u e. each (λ (y : SeatView K). y.who.role ≡ Caller n → w.views n ≡ y.view) j u e
          (λ q. let x : Caller k ≡ Caller n = sym caller_dealt ∙ q in let same : k ≡ n = cc in r.undealt id k n s at role (omega arith) ∙ ap first_view (sym (r.config id s at live)))
          (λ q. absurd (let x : Dealer (k + 1) ≡ Caller n = sym dealer_on ∙ q in cc))
          (λ o. r.here j n u o);
      joined = λ j u g e. each (λ (y : SeatView K). Contains y.gathered g → w.views g.caller ≡ g.view) j u e (λ h. absurd (none_joined g h)) (λ h. absurd (none_joined g h)) (λ o. r.joined j u g o);
      one = λ i j n u v ei ej p q. ⊎_elim
          (λ (a : (i ≡ length seats) × (n ≡ k)). ⊎_elim
          (λ (b : (j ≡ length seats) × (n ≡ k)). a.0 ∙ sym b.0)
          (λ (b : (n < k) × (get_elem? seats j ≡ some v)). absurd (let x = a.1 in let y = b.0 in omega arith)) (place_of j n v ej q))
          (λ (a : (n < k) × (get_elem? seats i ≡ some u)). ⊎_elim
          (λ (b : (j ≡ length seats) × (n ≡ k)). absurd (let x = b.1 in let y = a.0 in omega arith))
          (λ (b : (n < k) × (get_elem? seats j ≡ some v)). r.one i j n u v a.1 b.1 p q) (place_of j n v ej q))
          (place_of i n u ei p);
      apart = λ j n u g e. each (λ (y : SeatView K). y.who.role ≡ Caller n → Contains y.gathered g → g.caller ≢ n) j u e (λ q h. absurd (none_joined g h)) (λ q h. absurd (none_joined g h)) (λ o. r.apart j n u g o);
      within = λ j n u e p. ⊎_elim
          (λ (a : (j ≡ length seats) × (n ≡ k)). let x = a.1 in omega arith)
          (λ (a : (n < k) × (get_elem? seats j ≡ some u)). r.within j n u a.1 p) (place_of j n u e p);
      note = λ j u e. each (λ (y : SeatView K). y.who.role ≡ Note → IsSeen w y.view.history) j u e
          (λ q. absurd (let x : Caller k ≡ Note = sym caller_dealt ∙ q in cc))
          (λ q. absurd (let x : Dealer (k + 1) ≡ Note = sym dealer_on ∙ q in cc))
          (λ o. r.note j u o);
      undealt = λ j l n u e q le. let d = dealer_of j l u e q in let x = d.1 in r.undealt id k n s at role (omega arith);
      dealt = λ i j l n u v ei ej q p. let d = dealer_of i l u ei q in let x = d.1 in ⊎_elim
          (λ (a : (j ≡ length seats) × (n ≡ k)). let y = a.1 in omega arith)
          (λ (a : (n < k) × (get_elem? seats j ≡ some v)). let y = a.0 in omega arith) (place_of j n v ej p);
      dealer = λ i j l m u v ei ej p q. (dealer_of i l u ei p).0 ∙ sym (dealer_of j m v ej q).0;
      config = λ j u e. each (λ (y : SeatView K). y.who.role ≢ Spent → y.who.config ≡ c) j u e (λ d. r.config id s at live) (λ d. r.config id s at live) (λ o. r.config j u o);
      memory_rule = λ j u e. each (λ (y : SeatView K). y.who.role ≢ Spent → y.who.rule ≡ Some rule) j u e (λ d. r.memory_rule id s at live) (λ d. r.memory_rule id s at live) (λ o. r.memory_rule j u o);
    }

  -- one caller's seat is joined to another's
  module _ (id other n m : ℕ) (s t : SeatView K) (at : get_elem? seats id ≡ some s) (there : get_elem? seats other ≡ some t) (apart : other ≢ id) (mine : s.who.role ≡ Caller n) (theirs : t.who.role ≡ Caller m) where
    -- what the seat gathers is of the other's claims, or it had gathered it before
    parts_of : (g : Gathered) → Contains (takes_in s t).gathered g → ((m ≡ g.caller) × (t.view ≡ g.view)) ⊎ (Contains t.gathered g ⊎ Contains s.gathered g)
    parts_of g h = ⊎_elim
        (λ (a : Contains (claimed t.who.role t.view t.gathered) g). ⊎_elim
        (λ (e : record { caller = m; view = t.view } ≡ g). inl (ap (λ (y : Gathered). y.caller) e, ap (λ (y : Gathered). y.view) e))
        (λ (b : Contains t.gathered g). inr (inl b))
        (contains-cons (record { caller = m; view = t.view }) t.gathered g (subst (λ (q : Role). Contains (claimed q t.view t.gathered) g) theirs a)))
        (λ (b : Contains s.gathered g). inr (inr b))
        (Contains-append_cases (claimed t.who.role t.view t.gathered) s.gathered g h)

    their_claim : (g : Gathered) → ((m ≡ g.caller) × (t.view ≡ g.view)) ⊎ Contains t.gathered g → Claims t g.caller
    their_claim g (inl e) = inl (theirs ∙ ap (λ (i : ℕ). Caller i) e.0)
    their_claim g (inr h) = inr (g, h, refl)

    -- a fact of each seat: of the spent, of the one that gathers, and of the others
    every : (P : SeatView K → Type 0) (j : ℕ) (u : SeatView K) → get_elem? (set (set seats id (takes_in s t)) other spent) j ≡ some u
        → P spent → (j ≡ id → P (takes_in s t)) → (j ≢ other → get_elem? seats j ≡ some u → P u) → P u
    every P j u e gone here else = ⊎_elim
        (λ (a : (j ≡ other) × (spent ≡ u)). subst P a.1 gone)
        (λ (a : (j ≢ other) × (get_elem? (set seats id (takes_in s t)) j ≡ some u)). ⊎_elim
        (λ (b : (j ≡ id) × (takes_in s t ≡ u)). subst P b.1 (here b.0))
        (λ (b : (j ≢ id) × (get_elem? seats j ≡ some u)). else a.0 b.1) (at-set seats id j (takes_in s t) u a.1))
        (at-set (set seats id (takes_in s t)) other j spent u e)

    -- where a claim was before
    Reached : ℕ → ℕ → Type 0
    Reached j q = (o : ℕ) × (y : SeatView K) × (get_elem? seats o ≡ some y) × Claims y q × (((o ≡ j) × (o ≢ other)) ⊎ ((o ≡ other) × (j ≡ id)))

    no_claim : (q : ℕ) → Claims (spent {K = K}) q → ⊥
    no_claim q (inl e) = cc
    no_claim q (inr g) = contains-none g.0 g.1

    reach : (j q : ℕ) (u : SeatView K) → get_elem? (set (set seats id (takes_in s t)) other spent) j ≡ some u → Claims u q → Reached j q
    unfolding Reached
    reach j q u e = every (λ (y : SeatView K). Claims y q → Reached j q) j u e
        (λ p. absurd (no_claim q p))
        (λ here p. ⊎_elim
        (λ (k : s.who.role ≡ Caller q). (id, s, at, inl k, inl (sym here, λ x. apart (sym x))))
        (λ (g : (g : Gathered) × Contains (takes_in s t).gathered g × (g.caller ≡ q)). ⊎_elim
        (λ (a : (m ≡ g.0.caller) × (t.view ≡ g.0.view)). (other, t, there, subst (Claims t) g.2 (their_claim g.0 (inl a)), inr (refl, here)))
        (λ (b : Contains t.gathered g.0 ⊎ Contains s.gathered g.0). ⊎_elim
        (λ (h : Contains t.gathered g.0). (other, t, there, subst (Claims t) g.2 (their_claim g.0 (inr h)), inr (refl, here)))
        (λ (h : Contains s.gathered g.0). (id, s, at, inr (g.0, h, g.2), inl (sym here, λ x. apart (sym x)))) b)
        (parts_of g.0 g.1)) p)
        (λ d o p. (j, u, o, p, inl (refl, d)))

    live_here : s.who.role ≢ Spent
    live_here e = let x : Caller n ≡ Spent = sym mine ∙ e in cc

    pub seats-take_in : Seats rule c w (set (set seats id (takes_in s t)) other spent)
    unfolding Reached
    seats-take_in = record {
      here = λ j q u e. every (λ (y : SeatView K). y.who.role ≡ Caller q → w.views q ≡ y.view) j u e (λ k. absurd cc) (λ x k. r.here id q s at k) (λ d o. r.here j q u o);
      joined = λ j u g e. every (λ (y : SeatView K). Contains y.gathered g → w.views g.caller ≡ g.view) j u e
          (λ h. absurd (contains-none g h))
          (λ x h. ⊎_elim
          (λ (a : (m ≡ g.caller) × (t.view ≡ g.view)). ap w.views (sym a.0) ∙ r.here other m t there theirs ∙ a.1)
          (λ (b : Contains t.gathered g ⊎ Contains s.gathered g). ⊎_elim (λ (k : Contains t.gathered g). r.joined other t g there k) (λ (k : Contains s.gathered g). r.joined id s g at k) b)
          (parts_of g h))
          (λ d o. r.joined j u g o);
      one = λ i j q u v ei ej p k.
          let a = reach i q u ei p in let b = reach j q v ej k in let same : a.0 ≡ b.0 = r.one a.0 b.0 q a.1 b.1 a.2 b.2 a.3 b.3 in ⊎_elim
          (λ (x : (a.0 ≡ i) × (a.0 ≢ other)). ⊎_elim
          (λ (y : (b.0 ≡ j) × (b.0 ≢ other)). sym x.0 ∙ same ∙ y.0)
          (λ (y : (b.0 ≡ other) × (j ≡ id)). absurd (x.1 (same ∙ y.0))) b.4)
          (λ (x : (a.0 ≡ other) × (i ≡ id)). ⊎_elim
          (λ (y : (b.0 ≡ j) × (b.0 ≢ other)). absurd (y.1 (sym same ∙ x.0)))
          (λ (y : (b.0 ≡ other) × (j ≡ id)). x.1 ∙ sym y.1) b.4) a.4;
      apart = λ j q u g e. every (λ (y : SeatView K). y.who.role ≡ Caller q → Contains y.gathered g → g.caller ≢ q) j u e
          (λ k. absurd cc)
          (λ x k h f. ⊎_elim
          (λ (a : (m ≡ g.caller) × (t.view ≡ g.view)). apart (r.one other id q t s there at (subst (Claims t) f (their_claim g (inl a))) (inl k)))
          (λ (b : Contains t.gathered g ⊎ Contains s.gathered g). ⊎_elim
          (λ (y : Contains t.gathered g). apart (r.one other id q t s there at (subst (Claims t) f (their_claim g (inr y))) (inl k)))
          (λ (y : Contains s.gathered g). r.apart id q s g at k y f) b)
          (parts_of g h))
          (λ d o. r.apart j q u g o);
      within = λ j q u e p. let a = reach j q u e p in r.within a.0 q a.1 a.2 a.3;
      note = λ j u e. every (λ (y : SeatView K). y.who.role ≡ Note → IsSeen w y.view.history) j u e (λ k. absurd cc) (λ x k. absurd (let z : Caller n ≡ Note = sym mine ∙ k in cc)) (λ d o. r.note j u o);
      undealt =
          λ j k q u e.
          every (λ (y : SeatView K). y.who.role ≡ Dealer k → k ≤ q → w.views q ≡ first_view c) j u e (λ x. absurd cc)
          (λ x y. absurd (let z : Caller n ≡ Dealer k = sym mine ∙ y in cc)) (λ d o. r.undealt j k q u o);
      dealt =
          λ i j k q u v ei ej x p.
          let a = reach j q v ej p in
          every (λ (y : SeatView K). y.who.role ≡ Dealer k → q < k) i u ei (λ y. absurd cc)
          (λ z y. absurd (let f : Caller n ≡ Dealer k = sym mine ∙ y in cc)) (λ d o y. r.dealt i a.0 k q u a.1 o a.2 y a.3) x;
      dealer = λ i j k l u v ei ej p q. every (λ (y : SeatView K). y.who.role ≡ Dealer k → i ≡ j) i u ei (λ y. absurd cc) (λ z y. absurd (let f : Caller n ≡ Dealer k = sym mine ∙ y in cc))
          (λ d o y. every (λ (x : SeatView K). x.who.role ≡ Dealer l → i ≡ j) j v ej (λ x. absurd cc) (λ z x. absurd (let f : Caller n ≡ Dealer l = sym mine ∙ x in cc)) (λ f a x. r.dealer i j k l u v o a y x) q) p;
      config = λ j u e. every (λ (y : SeatView K). y.who.role ≢ Spent → y.who.config ≡ c) j u e (λ d. absurd (d refl)) (λ x d. r.config id s at live_here) (λ d o. r.config j u o);
      memory_rule = λ j u e. every (λ (y : SeatView K). y.who.role ≢ Spent → y.who.rule ≡ Some rule) j u e (λ d. absurd (d refl)) (λ x d. r.memory_rule id s at live_here) (λ d o. r.memory_rule j u o);
    }
