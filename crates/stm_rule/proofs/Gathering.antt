-- What is known of all descriptors at the closing.
use Rattle.std.proofs.Common.{◌≡◌, ◌≢◌, ℕ, zero, suc, ◌+◌, ◌<◌, ◌≤◌, List, [], ◌∷◌, ◌++◌, Bool, true, false, length, map, sym, refl, ap, ◌∙◌, subst, ⊎_elim, arith, leb, eqb, append_assoc}
use Rattle.std.proofs.lemmas.Bool.Decides.{leb_tells, eqb_tells}
use Rattle.std.proofs.lemmas.List.Elements.{Contains-append_right}
use Rattle.std.proofs.lemmas.List.Sums.{sum_by-cons}
use Rattle.std.specs.Prelude.{Contains, sum_by, if◌then◌else◌}
use Rattle.atomic_table.specs.Seated.{TableId}
use Rattle.rule_seq.specs.AttemptLemmas.{busy-writer, busy-turn}
use Rattle.stm_model.specs.declared.alg.Alg.{Alg}
use Rattle.stm_model.specs.declared.config.Config.{Config}
use Rattle.rule_base.specs.declared.seats.Gathered.{Gathered}
use Rattle.rule_base.specs.declared.seats.Role.{Role}
use Rattle.rule_base.specs.declared.seats.Role.TheVariants.{Dealer, Caller, Note, Spent}
use Rattle.rule_base.specs.declared.seats.SeatView.{SeatView}
use Rattle.rule_base.specs.declared.views.Phase.TheVariants.{Idle, In, Closing}
use Rattle.rule_base.specs.declared.views.Steps.{Steps}
use Rattle.rule_base.specs.declared.views.View.{View}
use Rattle.rule_base.specs.Encodings.{fence_of, fence_owner}
use Rattle.rule_base.specs.Fence.{heap_without_fence, without_fence}
use Rattle.rule_base.specs.FenceLaws.{heap_without_fence-none}
use Rattle.rule_base.specs.Encodings.{alg_of, holder_of}
use Rattle.rule_base.specs.History.{word_now}
use Rattle.rule_base.specs.Lemmas.HistoryLemmas.{merged, made_by-none}
use Rattle.rule_base.proofs.Lemmas.ListLemmas.{contains-cons, contains-none}
use Rattle.rule_base.specs.Notes.{claimed, gathers}
use Rattle.rule_base.specs.StepsRule.{all_rises}
use Rattle.rule_base.specs.World.{World}
use Rattle.stm_rule.specs.Callers.{Handle, BelongsTo, IsFree, IdleAt}
use Rattle.stm_rule.specs.Closings.{shown, installs_of, installs_by, installs_from}
use Rattle.rule_base.specs.Regime.{mode_of, Regime}
use Rattle.rule_base.specs.Regime.Mode.{Plain}
use Rattle.rule_base.specs.Lemmas.RegimeLemmas.{plain-mode, regime-running}
use Rattle.rule_base.specs.RunProjection.{run_projection}
use Rattle.stm_rule.specs.Kinds.Frames.{ungranted-out, ungiven-out, owner-holds}
use Rattle.stm_rule.specs.Product.{Runs, Core, Invariant}
use Rattle.stm_rule.specs.Kinds.Running.{at-rest}

module _ {K : Type 0} where
  -- a fact of each descriptor's view, by the caller's number
  abbrev pub Every : (ℕ → View → Type 0) → ℕ → List (Handle K) → Type 0
  Every P n [] = Unit {0}
  Every P n (d ∷ ds) = P n d.view × Every P (suc n) ds

  -- a fact of each caller shown is one of each descriptor
  pub every_shown : (P : ℕ → View → Type 0) (t : TableId) (c : Config) (rule : K) (n : ℕ) (ds : List (Handle K)) → IdleAt t c rule n ds → ((g : Gathered) → Contains (shown ds) g → P g.caller g.view) → Every P n ds
  every_shown P t c rule n [] a h = tt
  every_shown P t c rule n (d ∷ ds) a h =
      let is : claimed d.who.role d.view (shown ds) ≡ record { caller = n; view = d.view } ∷ shown ds = ap (λ r. claimed r d.view (shown ds)) a.1 in
      let k : (g : Gathered) → Contains (record { caller = n; view = d.view } ∷ shown ds) g → P g.caller g.view = λ g x. h g (subst (λ (l : List Gathered). Contains l g) (sym is) x) in (
        k (record { caller = n; view = d.view }) (0, omega arith, refl),
        every_shown P t c rule (suc n) ds a.3 (λ g x. k g (Contains-append_right (record { caller = n; view = d.view } ∷ []) (shown ds) g x)),
      )

  pub every_and : (P Q : ℕ → View → Type 0) (n : ℕ) (ds : List (Handle K)) → Every P n ds → Every Q n ds → Every (λ k v. P k v × Q k v) n ds
  every_and P Q n [] p q = tt
  every_and P Q n (d ∷ ds) p q = ((p.0, q.0), every_and P Q (suc n) ds p.1 q.1)

  pub every_idle : (t : TableId) (c : Config) (rule : K) (n : ℕ) (ds : List (Handle K)) → IdleAt t c rule n ds → Every (λ k v. IsFree c v) n ds
  every_idle t c rule n [] a = tt
  every_idle t c rule n (d ∷ ds) a = (a.2, every_idle t c rule (suc n) ds a.3)

  -- a fact of each descriptor's view gives one of each caller's number
  pub every_number : (P : ℕ → View → Type 0) (Q : ℕ → Type 0) → ((k : ℕ) (v : View) → P k v → Q k) → (n : ℕ) (ds : List (Handle K)) → Every P n ds → (k : ℕ) → n ≤ k → k < n + length ds → Q k
  every_number P Q f n [] e k low high = absurd (omega arith)
  every_number P Q f n (d ∷ ds) e k low high = ⊎_elim
      (λ (t : (eqb k n ≡ true) × (k ≡ n)). subst Q (sym t.1) (f n d.view e.0))
      (λ (t : (eqb k n ≡ false) × (k ≢ n)). let q = t.1 in every_number P Q f (suc n) ds e.1 k (omega arith) (omega arith))
      (eqb_tells k n)

  -- the rises of the callers are those of the descriptors
  pub rises_sum : (vs : ℕ → Steps) (n : ℕ) (ds : List (Handle K)) → Every (λ k v. (vs k).rises ≡ v.steps.rises) n ds → all_rises (n + length ds) vs ≡ all_rises n vs + sum_by (λ (d : Handle K). d.view.steps.rises) ds
  rises_sum vs n [] e = ap (λ k. all_rises k vs) (let z : n + 0 ≡ n = omega arith in z) ∙ (let z : all_rises n vs ≡ all_rises n vs + 0 = omega arith in z)
  rises_sum vs n (d ∷ ds) e =
      let l : length {A = Handle K} (d ∷ ds) ≡ suc (length ds) = refl in
      let s : n + length {A = Handle K} (d ∷ ds) ≡ suc n + length ds = omega arith in
      let r = rises_sum vs (suc n) ds e.1 in
      let here = e.0 in
      let total : sum_by (λ (x : Handle K). x.view.steps.rises) (d ∷ ds) ≡ d.view.steps.rises + sum_by (λ (x : Handle K). x.view.steps.rises) ds = sum_by-cons (λ (x : Handle K). x.view.steps.rises) d ds in
      ap (λ k. all_rises k vs) s ∙ r ∙ (let z : (all_rises n vs + (vs n).rises) + sum_by (λ (x : Handle K). x.view.steps.rises) ds ≡ all_rises n vs + sum_by (λ (x : Handle K). x.view.steps.rises) (d ∷ ds) = omega arith in z)

  -- the installs of the callers, each found by its number
  pub installs_map : (gs : List Gathered) (n : ℕ) (ds : List (Handle K)) → Every (λ k v. installs_by gs k ≡ installs_of v) n ds → installs_from n (length ds) gs ≡ map (λ (d : Handle K). installs_of d.view) ds
  installs_map gs n [] e = refl
  installs_map gs n (d ∷ ds) e = λ i. e.0 i ∷ installs_map gs (suc n) ds e.1 i

claimed_append : (r : Role) (v : View) (gs hs : List Gathered) → claimed r v (gs ++ hs) ≡ claimed r v gs ++ hs
claimed_append (Dealer k) v gs hs = refl
claimed_append (Caller n) v gs hs = refl
claimed_append Note v gs hs = refl
claimed_append Spent v gs hs = refl

module _ {K : Type 0} where
  pub shown_append : (ds es : List (Handle K)) → shown (ds ++ es) ≡ shown ds ++ shown es
  shown_append [] es = refl
  shown_append (d ∷ ds) es = ap (claimed d.who.role d.view) (shown_append ds es) ∙ claimed_append d.who.role d.view (shown ds) (shown es)

  -- the callers from n on, each idle, of one table
  abbrev pub AllHere : TableId → ℕ → List (Handle K) → Type 0
  AllHere t n [] = Unit {0}
  AllHere t n (d ∷ ds) = (d.table ≡ t) × (d.who.role ≡ Caller n) × (d.view.gate.phase ≡ Idle) × AllHere t (suc n) ds

  pub all_here : (t : TableId) (c : Config) (rule : K) (n : ℕ) (ds : List (Handle K)) → IdleAt t c rule n ds → AllHere t n ds
  all_here t c rule n [] a = tt
  all_here t c rule n (d ∷ ds) a = (a.0.table, a.1, a.2.0, all_here t c rule (suc n) ds a.3)

  pub here_split : (t : TableId) (n : ℕ) (ds : List (Handle K)) (d : Handle K) → AllHere t n (ds ++ d ∷ []) → AllHere t n ds × (d.table ≡ t) × (d.view.gate.phase ≡ Idle)
  here_split t n [] d a = (tt, a.0, a.2)
  here_split t n (x ∷ ds) d a = let r = here_split t (suc n) ds d a.3 in ((a.0, a.1, a.2, r.0), r.1, r.2)

  pub idle_last : (t : TableId) (c : Config) (rule : K) (n : ℕ) (ds : List (Handle K)) (d : Handle K) → IdleAt t c rule n (ds ++ d ∷ []) → BelongsTo d t c rule × (d.view.gate.phase ≡ Idle)
  idle_last t c rule n [] d a = (a.0, a.2.0)
  idle_last t c rule n (x ∷ ds) d a = idle_last t c rule (suc n) ds d a.3

  -- the first seat shows the last descriptor
  pub shown_first : (all ds : List (Handle K)) (d : Handle K) (s : SeatView K) (m : ℕ) → all ≡ ds ++ d ∷ [] → d.who.role ≡ Caller m
      → s.view ≡ d.view → s.gathered ≡ [] → shown all ≡ shown ds ++ (s.gathered ++ record { caller = m; view = s.view } ∷ [])
  shown_first all ds d s m is role view bare =
      ap shown is ∙ shown_append ds (d ∷ []) ∙ ap (λ (r : Role). shown ds ++ claimed r d.view []) role
      ∙ ap (λ (v : View). shown ds ++ record { caller = m; view = v } ∷ []) (sym view)
      ∙ ap (λ (l : List Gathered). shown ds ++ (l ++ record { caller = m; view = s.view } ∷ [])) (sym bare)

  -- and after another was gathered, one more
  pub shown_next : (all old ds : List (Handle K)) (d : Handle K) (s t s' : SeatView K) (m k : ℕ) (own : View)
      → shown all ≡ shown old ++ (s.gathered ++ record { caller = m; view = own } ∷ []) → old ≡ ds ++ d ∷ [] → d.who.role ≡ Caller k
      → t.who.role ≡ Caller k → t.view ≡ d.view → t.gathered ≡ [] → s' ≡ gathers s t
      → shown all ≡ shown ds ++ (s'.gathered ++ record { caller = m; view = own } ∷ [])
  shown_next all old ds d s t s' m k own before is role their view bare next =
      let last : List Gathered = record { caller = m; view = own } ∷ [] in
      let one : List Gathered = record { caller = k; view = d.view } ∷ [] in
      let olds : shown old ≡ shown ds ++ one = ap shown is ∙ shown_append ds (d ∷ []) ∙ ap (λ (r : Role). shown ds ++ claimed r d.view []) role in
      let joined : s'.gathered ≡ one ++ s.gathered = ap (λ (q : SeatView K). q.gathered) next ∙ ap
      (λ (r : Role). claimed r t.view t.gathered ++ s.gathered) their ∙ ap
      (λ (v : View). record { caller = k; view = v } ∷ (t.gathered ++ s.gathered)) view ∙ ap
      (λ (l : List Gathered). record { caller = k; view = d.view } ∷ (l ++ s.gathered)) bare in
      before ∙ ap (λ (l : List Gathered). l ++ (s.gathered ++ last)) olds ∙ regroup (shown ds) one s.gathered last
      ∙ ap (λ (l : List Gathered). shown ds ++ (l ++ last)) (sym joined)
    where
      regroup : (a b x y : List Gathered) → (a ++ b) ++ (x ++ y) ≡ a ++ ((b ++ x) ++ y)
      regroup a b x y = simp append_assoc

-- where each of the callers in the list has these installs, so has one that is in it
pub installs_found : (f : ℕ → List Alg) (gs : List Gathered) (k : ℕ) (v : View) → ((g : Gathered) → Contains gs g → installs_of g.view ≡ f g.caller) → Contains gs (record { caller = k; view = v }) → installs_by gs k ≡ f k
installs_found f [] k v all h = absurd (contains-none (record { caller = k; view = v }) h)
installs_found f (g ∷ gs) k v all h = ⊎_elim
    (λ (t : (eqb g.caller k ≡ true) × (g.caller ≡ k)). ap (λ (b : Bool). if b then installs_of g.view else installs_by gs k) t.0 ∙ all g (0, omega arith, refl) ∙ ap f t.1)
    (λ (t : (eqb g.caller k ≡ false) × (g.caller ≢ k)). ap (λ (b : Bool). if b then installs_of g.view else installs_by gs k) t.0
    ∙ installs_found f gs k v (λ x c. all x (Contains-append_right (g ∷ []) gs x c))
    (⊎_elim (λ (e : g ≡ record { caller = k; view = v }). absurd (t.1 (ap (λ (y : Gathered). y.caller) e))) (λ c. c) (contains-cons g gs (record { caller = k; view = v }) h)))
    (eqb_tells g.caller k)

-- while all callers are idle, and where there is no fence, the memory lies in the heap
bare_rests : (good : (ℕ → ℕ) → Type 0) (c : Config) (w : World) → Core good c w → ((k : ℕ) → k < c.callers → (w.views k).gate.phase ≡ Idle) → (a : ℕ) → w.heap a ≡ word_now w.history a
bare_rests good c w g idle =
    (at-rest c (alg_of w.gate) (run_projection w)
    (subst (λ (r : Regime). Runs c r (run_projection w)) (regime-running w ungranted) g.running) (free w.lock refl)
    (λ m t. let o : (w.views m).gate.phase ≡ In = g.attempts.busy m (busy-writer (w.views m) t) in let i = out m in cc)
    (λ m t. let o : (w.views m).gate.phase ≡ In = g.attempts.busy m (busy-turn (w.views m) t) in let i = out m in cc) (λ has r m e.
    let o : (w.views m).gate.phase ≡ In = g.records.inside m r (owner-holds good c w g r m e) in let i = out m in cc)).0
  where
    out : (k : ℕ) → (w.views k).gate.phase ≡ Idle
    out k = ⊎_elim (λ (t : (leb c.callers k ≡ true) × (c.callers ≤ k)). g.gate.far k t.1) (λ (t : (leb c.callers k ≡ false) × (k < c.callers)). idle k t.1) (leb_tells c.callers k)

    free : (k : ℕ) → w.lock ≡ k → k ≡ 0
    free zero e = refl
    free (suc n) e = absurd (let o : (w.views n).gate.phase ≡ In = g.lock.inside n (g.lock.owner n (omega arith)) in let i = out n in cc)

    ungranted : (n : ℕ) → holder_of w.gate ≡ 1 + n → mode_of (w.views n).gate ≡ Plain
    ungranted n h = plain-mode (w.views n).gate (ungranted-out good c w n g (λ e. let i = out n in let k : Idle ≡ In = sym i ∙ e in cc)) (ungiven-out good c w n g (λ e. let i = out n in let k : Idle ≡ Closing = sym i ∙ e in cc))

-- and where nobody has a fence
pub rests : (good : (ℕ → ℕ) → Type 0) (c : Config) (w : World) → Invariant good c w
    → ((k : ℕ) → k < c.callers → (w.views k).gate.phase ≡ Idle)
    → ((k : ℕ) → k < c.callers → c.fence ≡ true → (w.views k).fence.holds ≡ false) → (a : ℕ) → w.heap a ≡ word_now w.history a
rests good c w g idle free a = sym (ap (λ (f : ℕ → ℕ). f a) (ap (λ k. heap_without_fence k w.heap w.history) none ∙ heap_without_fence-none w.heap w.history)) ∙ bare_rests good c (without_fence w) g.core idle a
  where
    by : c.fence ≡ true → (k : ℕ) → fence_owner (fence_of w.gate) ≡ k → fence_of w.gate ≡ 0
    by on zero e = g.fence.none e
    by on (suc n) e = absurd (let h : (w.views n).fence.holds ≡ true = g.fence.owner n (let o : fence_owner (fence_of w.gate) ≡ 1 + n = omega arith in o) in let f : true ≡ false = sym h ∙ free n (g.fence.few n h) on in cc)

    none : fence_of w.gate ≡ 0
    none = off (c.fence) refl
      where
        off : (on : Bool) → c.fence ≡ on → fence_of w.gate ≡ 0
        off true e = by e (fence_owner (fence_of w.gate)) refl
        off false e = g.fence.off e

-- two worlds whose callers made the same have one history
pub same_history : (good : (ℕ → ℕ) → Type 0) (c : Config) (w x : World) → Invariant good c w → Invariant good c x → ((k : ℕ) → k < c.callers → (x.views k).history.made ≡ (w.views k).history.made) → x.history ≡ w.history
same_history good c w x g h same = merged x.history w.history (x.clock + 1) (w.clock + 1) h.core.history.below g.core.history.below (λ n. ⊎_elim
    (λ (t : (leb c.callers n ≡ true) × (c.callers ≤ n)). made_by-none good c x.history n t.1 h.core.history.legal ∙ sym (made_by-none good c w.history n t.1 g.core.history.legal))
    (λ (t : (leb c.callers n ≡ false) × (n < c.callers)). sym (h.core.history.known n).made ∙ same n t.1 ∙ (g.core.history.known n).made)
    (leb_tells c.callers n))
