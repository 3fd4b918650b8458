-- Each kind of step at the gate keeps the gate's clauses.
use Rattle.std.proofs.Common.{◌≡◌, ◌≢◌, ℕ, ◌+◌, ◌<◌, ◌≤◌, List, ◌∷◌, Bool, true, false, eqb, arith, refl, sym, subst, ap, ◌∙◌}
use Rattle.std.specs.Prelude.{if◌then◌else◌, ◌==◌, ltb}
use Rattle.std.proofs.lemmas.Bool.{eqb-true}
use Rattle.std.proofs.lemmas.Bool.Decides.{nat_tests}
use Rattle.stm_model.specs.declared.alg.Alg.{Alg}
use Rattle.rule_base.specs.declared.views.GateView.{GateView}
use Rattle.rule_base.specs.declared.views.Phase.{Phase}
use Rattle.rule_base.specs.declared.views.Phase.TheVariants.{Idle, Announced, Turned, Aiming, In, Closing}
use Rattle.rule_base.specs.declared.views.View.{View}
use Rattle.rule_base.specs.Encodings.{alg_of, holder_of, fence_of, gate_word, announced}
use Rattle.rule_base.specs.Lemmas.EncodingLemmas.{alg_of-gate, holder_of-gate, holder_of-open, fence_of-gate, fence_of-open, formed-gate}
use Rattle.rule_base.specs.GateRule.{rests, is_silent, may_hold, GateProjection, gate_projection, GateRule}
use Rattle.rule_base.specs.GateSteps.{announce, CanAnnounce, load_gate, CanLoadGate, departs, departed, depart, CanDepart, aim, CanAim, closed_at, take_gate, CanTakeGate, check, CanCheck, opened, reopen, CanReopen, seized, seize, CanSeize, returned, return_gate, CanReturn}
use Rattle.rule_base.specs.InstallSteps.{HasChecked, install}
use Rattle.rule_base.specs.History.{member}
use Rattle.rule_base.specs.Lemmas.PutLemmas.{put-all, parts-put, parts-kept}
use Rattle.rule_base.specs.StepKinds.{view_after, world_after}
use Rattle.rule_base.specs.World.{World, put, parts}

-- the gate's projection after a step
pub gate_projection-put : (w x : World) (n : ℕ) (v : View) → x.views ≡ put w.views n v → gate_projection x ≡ record { status = x.status; gate = x.gate; views = put (gate_projection w).views n v.gate }
gate_projection-put w x n v is = λ i. record { status = x.status; gate = x.gate; views = (ap (parts (λ (u : View). u.gate)) is ∙ parts-put (λ (u : View). u.gate) w.views n v) i }

-- and after a step that leaves the gate alone
pub gate_projection-kept : (w x : World) (n : ℕ) (v : View) → x.views ≡ put w.views n v → x.status ≡ w.status → x.gate ≡ w.gate → v.gate ≡ (w.views n).gate → gate_projection x ≡ gate_projection w
gate_projection-kept w x n v is status gate own = λ i. record { status = status i; gate = gate i; views = (ap (parts (λ (u : View). u.gate)) is ∙ parts-kept (λ (u : View). u.gate) w.views n v own) i }

-- who has seen all others idle since it closed the gate is alone: they are in no transaction, and neither aim nor close
pub others-rest-at : (callers n : ℕ) (s : GateProjection) → ((k : ℕ) → k < callers → k ≢ n → member (s.views n).checked k ≡ true) → GateRule callers s → (k : ℕ) → k ≢ n → rests (s.views k).phase ≡ true
others-rest-at callers n s quiet r k other = go (ltb k callers) refl
  where
    go : (b : Bool) → ltb k callers ≡ b → rests (s.views k).phase ≡ true
    go true q = r.seen n k (quiet k (grind (arith, nat_tests)) other)
    go false q = ap rests (r.far k (grind (arith, nat_tests)))

-- a caller's number fits into the gate word
pub holder-closed : (callers : ℕ) (s : GateProjection) → GateRule callers s → (n : ℕ) → n < callers → (fence : ℕ) (alg : Alg) → holder_of (gate_word fence (1 + n) alg) ≡ 1 + n
holder-closed callers s r n low fence alg = let f = r.few in holder_of-gate fence (1 + n) alg (omega arith)

-- and so does its word
pub closed-fits : (callers : ℕ) (s : GateProjection) → GateRule callers s → (n : ℕ) → n < callers → 1 + n < 256
closed-fits callers s r n low = let f = r.few in omega arith

-- who isn't idle is a caller
pub is-caller-at : (callers : ℕ) (s : GateProjection) → GateRule callers s → (n : ℕ) → ((s.views n).phase ≡ Idle → ⊥) → n < callers
is-caller-at callers s r n busy = go (ltb n callers) refl
  where
    go : (b : Bool) → ltb n callers ≡ b → n < callers
    go true q = grind (arith, nat_tests)
    go false q = absurd (busy (r.far n (grind (arith, nat_tests))))

-- who was seen idle rests still, where the caller that stepped rests or was seen by nobody
seen-put : (views : ℕ → GateView) (n : ℕ) (v : GateView) → v.checked ≡ (views n).checked
    → ((m : ℕ) → member (views m).checked n ≡ true → rests v.phase ≡ true)
    → ((m k : ℕ) → member (views m).checked k ≡ true → rests (views k).phase ≡ true)
    → (m k : ℕ) → member (put views n v m).checked k ≡ true → rests (put views n v k).phase ≡ true
seen-put views n v same own seen m k e = put-all views n v (λ j u. member (views m).checked j ≡ true → rests u.phase ≡ true) (own m) (λ j d. seen m j) k
    (subst (λ l. member l k ≡ true) (put-all views n v (λ j u. u.checked ≡ (views j).checked) same (λ j d. refl) m) e)

-- a caller alone, while it isn't idle, knows the algorithm that the gate names
pub sole-knows : (callers n : ℕ) (s : GateProjection) → GateRule callers s → ((s.views n).phase ≡ Idle → ⊥) → callers ≡ 1 → alg_of s.gate ≡ (s.views n).algorithm
sole-knows callers n s r busy one = let low = is-caller-at callers s r n busy in subst (λ k. alg_of s.gate ≡ (s.views k).algorithm) (omega arith) (r.sole one)

module _ (callers : ℕ) where
  pub others-rest : (w : World) (n : ℕ) → HasChecked callers n (w.views n) → GateRule callers (gate_projection w) → (k : ℕ) → k ≢ n → rests (w.views k).gate.phase ≡ true
  others-rest w n quiet g = others-rest-at callers n (gate_projection w) quiet g

  pub announce-gate : (w : World) (n : ℕ) → n < callers → CanAnnounce (w.views n) → GateRule callers (gate_projection w) → GateRule callers (gate_projection (world_after (announce n) n w))
  announce-gate w n low idle g = subst (GateRule callers) (sym (gate_projection-put w (world_after (announce n) n w) n (view_after (announce n) w (w.views n) 1) refl)) (law (gate_projection w) g idle)
    where
      law : (s : GateProjection) → GateRule callers s → (s.views n).phase ≡ Idle
          → GateRule callers
          (record s { status = put s.status n 1; views = put s.views n (record (s.views n) { phase = Announced; present = true }) })
      law s r idle = record {
        quiet = λ m e. grind (arith, r.quiet m, e);
        status = λ m. grind (arith, r.status m);
        absent = λ m e. grind (arith, r.absent m, e);
        mine = λ m e. grind (arith, r.mine m, e);
        owner = λ m e. grind (arith, r.owner m, e);
        holding = λ m e. grind (arith, r.holding m, e, idle);
        closing = λ m e. grind (arith, r.closing m, e);
        checked = λ m k e. grind (arith, r.checked m k, e);
        seen = λ m k e. grind (arith, r.seen m k, e);
        named = λ m e. grind (arith, r.named m, e);
        spared = λ m e. grind (arith, r.spared m, e);
        held = λ m e. grind (arith, r.held m, e);
        guarded = λ m e. grind (arith, r.guarded m, e);
        formed = r.formed;
        sole = λ e. grind (arith, r.sole e);
        aimed = λ m e. grind (arith, r.aimed m, e);
        few = r.few;
        far = λ m e. grind (arith, r.far m, e, low);
      }

  pub load_gate-gate : (w : World) (n : ℕ) → CanLoadGate (w.views n) → GateRule callers (gate_projection w) → GateRule callers (gate_projection (world_after load_gate n w))
  load_gate-gate w n announced g = subst (GateRule callers) (sym (gate_projection-put w (world_after load_gate n w) n (view_after load_gate w (w.views n) w.gate) refl)) (law (gate_projection w) g announced)
    where
      law : (s : GateProjection) → GateRule callers s → (s.views n).phase ≡ Announced
          → GateRule callers (record s {
            views = put s.views n (record (s.views n)
                { phase = if holder_of s.gate == 0 then In else Turned; algorithm = alg_of s.gate; fence = fence_of s.gate });
          })
      law s r announced = record {
        quiet = λ m e. grind (arith, r.quiet m, e, announced);
        status = λ m. grind (arith, r.status m);
        absent = λ m e. grind (arith, r.absent m, e, announced);
        mine = λ m e. grind (arith, r.mine m, e);
        owner = λ m e. grind (arith, r.owner m, e);
        holding = λ m e. grind (arith, r.holding m, e, announced);
        closing = λ m e. grind (arith, r.closing m, e);
        checked = λ m k e. grind (arith, r.checked m k, e);
        seen = λ m k e. grind (arith, r.seen m k, r.checked m k, r.mine m, e);
        named = λ m e. grind (arith, r.named m, e);
        spared = λ m e. grind (arith, r.spared m, e);
        held = λ m e. grind (arith, r.held m, r.holding m, e, announced);
        guarded = λ m e. grind (arith, r.guarded m, r.holding m, e, announced);
        formed = r.formed;
        sole = λ e. grind (arith, r.sole e);
        aimed = λ m e. grind (arith, r.aimed m, e);
        few = r.few;
        far = λ m e. grind (arith, r.far m, r.far n, e, announced);
      }

  pub depart-gate : (w : World) (n : ℕ) → CanDepart (w.views n) → GateRule callers (gate_projection w) → GateRule callers (gate_projection (world_after (depart n) n w))
  depart-gate w n may g =
      subst (GateRule callers) (sym (gate_projection-put w (world_after (depart n) n w) n (view_after (depart n) w (w.views n) 0) refl))
      (by (gate_projection w) (w.views n).gate.phase refl may.phase may.reopened g)
    where
      -- the phase after is p
      law : (s : GateProjection) (p : Phase) → is_silent p ≡ true → ((s.views n).holds ≡ true → may_hold p ≡ true)
          → (p ≡ Closing → (s.views n).holds ≡ true) → ((k : ℕ) → member (s.views k).checked n ≡ true → rests p ≡ true) → (p ≡ In → ⊥)
          → (p ≡ Aiming → ⊥) → (callers ≤ n → p ≡ Idle) → GateRule callers s
          → GateRule callers (record s { status = put s.status n 0; views = put s.views n (record (s.views n) { phase = p; present = false }) })
      law s p silent hold closing seen out unaimed far r = record {
        quiet = λ m e. grind (arith, r.quiet m, e, silent);
        status = λ m. grind (arith, r.status m);
        absent = λ m e. grind (arith, r.absent m, e);
        mine = put-all s.views n (record (s.views n) { phase = p; present = false }) (λ m u. u.holds ≡ true → holder_of s.gate ≡ 1 + m) (r.mine n) (λ m d. r.mine m);
        owner = λ m e. grind (arith, r.owner m, e);
        holding = λ m e. grind (arith, r.holding m, e, hold);
        closing = λ m e. grind (arith, r.closing m, e, closing);
        checked = λ m k e. grind (arith, r.checked m k, e);
        seen = seen-put s.views n (record (s.views n) { phase = p; present = false }) refl seen r.seen;
        named = λ m e. grind (arith, r.named m, e, out);
        spared = λ m e. grind (arith, r.spared m, e, out);
        held = λ m e. grind (arith, r.held m, e);
        guarded = λ m e. grind (arith, r.guarded m, e);
        formed = r.formed;
        sole = λ e. r.sole e ∙ sym (put-all s.views n (record (s.views n) { phase = p; present = false }) (λ m u. u.algorithm ≡ (s.views m).algorithm) refl (λ m d. refl) 0);
        aimed = λ m e. grind (arith, r.aimed m, e, unaimed);
        few = r.few;
        far = put-all s.views n (record (s.views n) { phase = p; present = false }) (λ m u. callers ≤ m → u.phase ≡ Idle) far (λ m d. r.far m);
      }

      by : (s : GateProjection) (p : Phase) → (s.views n).phase ≡ p → departs p ≡ true → ((s.views n).phase ≡ In → (s.views n).holds ≡ false) → GateRule callers s
          → GateRule callers (record s { status = put s.status n 0; views = put s.views n (record (s.views n) { phase = departed (s.views n).phase; present = false }) })
      by s Idle is d reopened r = absurd cc
      by s Announced is d reopened r = absurd cc
      by s Turned is d reopened r = subst (λ (q : Phase). GateRule callers (record s { status = put s.status n 0; views = put s.views n (record (s.views n) { phase = departed q; present = false }) })) (sym is)
          (law s Idle refl (λ h. grind (arith, r.holding n h, is)) (λ e. absurd cc) (λ k e. refl) (λ e. cc) (λ e. cc) (λ l. refl) r)
      by s Aiming is d reopened r = absurd cc
      by s In is d reopened r = subst (λ (q : Phase). GateRule callers (record s { status = put s.status n 0; views = put s.views n (record (s.views n) { phase = departed q; present = false }) })) (sym is)
          (law s Idle refl (λ h. absurd (let o = reopened is in cc)) (λ e. absurd cc) (λ k e. refl) (λ e. cc) (λ e. cc) (λ l. refl) r)
      by s Closing is d reopened r = subst (λ (q : Phase). GateRule callers (record s { status = put s.status n 0; views = put s.views n (record (s.views n) { phase = departed q; present = false }) })) (sym is)
          (law s Closing refl (λ h. refl) (λ e. r.closing n is) (λ k e. grind (arith, r.seen k n e, is)) (λ e. cc) (λ e. cc) (λ l. grind (arith, r.far n l, is)) r)

  pub aim-gate : (w : World) (n : ℕ) → CanAim (w.views n) → GateRule callers (gate_projection w) → GateRule callers (gate_projection (world_after aim n w))
  aim-gate w n announced g = subst (GateRule callers) (sym (gate_projection-put w (world_after aim n w) n (view_after aim w (w.views n) w.gate) refl)) (law (gate_projection w) g announced)
    where
      -- an open gate's word is that of holder 0
      open_word : (s : GateProjection) → GateRule callers s → holder_of s.gate ≡ 0 → s.gate ≡ gate_word (fence_of s.gate) 0 (alg_of s.gate)
      open_word s r e = r.formed ∙ ap (λ h. gate_word (fence_of s.gate) h (alg_of s.gate)) e

      law : (s : GateProjection) → GateRule callers s → (s.views n).phase ≡ Announced
          → GateRule callers (record s {
            views = put s.views n (record (s.views n)
                { phase = if holder_of s.gate == 0 then Aiming else Turned; algorithm = alg_of s.gate; fence = fence_of s.gate; aim = s.gate });
          })
      law s r announced = record {
        quiet = λ m e. grind (arith, r.quiet m, e, announced);
        status = λ m. grind (arith, r.status m);
        absent = λ m e. grind (arith, r.absent m, e, announced);
        mine = λ m e. grind (arith, r.mine m, e);
        owner = λ m e. grind (arith, r.owner m, e);
        holding = λ m e. grind (arith, r.holding m, e, announced);
        closing = λ m e. grind (arith, r.closing m, e);
        checked = λ m k e. grind (arith, r.checked m k, e);
        seen = λ m k e. grind (arith, r.seen m k, r.checked m k, r.mine m, e);
        named = λ m e. grind (arith, r.named m, e);
        spared = λ m e. grind (arith, r.spared m, e);
        held = λ m e. grind (arith, r.held m, r.holding m, e, announced);
        guarded = λ m e. grind (arith, r.guarded m, r.holding m, e, announced);
        formed = r.formed;
        sole = λ e. grind (arith, r.sole e);
        aimed = λ m e. grind (arith, r.aimed m, e, open_word s r);
        few = r.few;
        far = λ m e. grind (arith, r.far m, r.far n, e, announced);
      }

  pub take_gate-gate : (word : ℕ) (w : World) (n : ℕ) → n < callers → CanTakeGate word (w.views n) → GateRule callers (gate_projection w) → GateRule callers (gate_projection (world_after (take_gate n word) n w))
  take_gate-gate word w n low may g = go (eqb w.gate word) (λ e. eqb-true w.gate word e)
    where
      next : Bool → View
      next b = record (view_after (take_gate n word) w (w.views n) w.gate) { gate = if b then closed_at word (w.views n).gate else record (w.views n).gate { phase = Turned } }

      at : Bool → World
      at b = record w { gate = if b then gate_word (fence_of word) (1 + n) (alg_of word) else w.gate; views = put w.views n (next b) }

      -- nobody holds the open gate, and nobody is seen
      law : (s : GateProjection) → GateRule callers s → (s.views n).phase ≡ Aiming → s.gate ≡ word → holder_of s.gate ≡ 0
          → GateRule callers (record s { gate = gate_word (fence_of word) (1 + n) (alg_of word); views = put s.views n (closed_at word (s.views n)) })
      law s r aiming is free =
          let h : holder_of (gate_word (fence_of word) (1 + n) (alg_of word)) ≡ 1 + n = holder-closed callers s r n low (fence_of word) (alg_of word) in
          let a : alg_of (gate_word (fence_of word) (1 + n) (alg_of word)) ≡ alg_of word = alg_of-gate (fence_of word) (1 + n) (alg_of word) in
          let f : fence_of (gate_word (fence_of word) (1 + n) (alg_of word)) ≡ fence_of word = fence_of-gate (fence_of word) (1 + n) (alg_of word) (closed-fits callers s r n low) in
          let fence : fence_of s.gate ≡ fence_of word = ap fence_of is in
          let same : alg_of s.gate ≡ alg_of word = ap alg_of is in
          record {
            quiet = λ m e. grind (arith, r.quiet m, e);
            status = λ m. grind (arith, r.status m);
            absent = λ m e. grind (arith, r.absent m, e);
            mine = λ m e. grind (arith, r.mine m, e, h, free);
            owner = λ m e. grind (arith, e, h);
            holding = λ m e. grind (arith, r.holding m, e);
            closing = λ m e. grind (arith, r.closing m, e);
            checked = λ m k e. grind (arith, r.checked m k, e);
            seen = λ m k e. grind (arith, r.seen m k, r.checked m k, r.mine m, e, free);
            named = λ m e. grind (arith, r.named m, e, a, same);
            spared = λ m e. grind (arith, r.spared m, e, f, fence);
            held = λ m e. grind (arith, r.mine m, e, a, free);
            guarded = λ m e. grind (arith, r.mine m, e, f, free);
            formed = formed-gate (fence_of word) (1 + n) (alg_of word) (closed-fits callers s r n low);
            sole = λ e. grind (arith, r.sole e, a, same);
            aimed = λ m e. grind (arith, r.aimed m, e, a, same, f, fence);
            few = r.few;
            far = λ m e. grind (arith, r.far m, e, low);
          }

      refused : (s : GateProjection) → GateRule callers s → (s.views n).phase ≡ Aiming → GateRule callers (record s { views = put s.views n (record (s.views n) { phase = Turned }) })
      refused s r aiming = record {
        quiet = λ m e. grind (arith, r.quiet m, e, aiming);
        status = λ m. grind (arith, r.status m);
        absent = λ m e. grind (arith, r.absent m, e);
        mine = λ m e. grind (arith, r.mine m, e);
        owner = λ m e. grind (arith, r.owner m, e);
        holding = λ m e. grind (arith, r.holding m, e, aiming);
        closing = λ m e. grind (arith, r.closing m, e);
        checked = λ m k e. grind (arith, r.checked m k, e);
        seen = λ m k e. grind (arith, r.seen m k, e);
        named = λ m e. grind (arith, r.named m, e);
        spared = λ m e. grind (arith, r.spared m, e);
        held = λ m e. grind (arith, r.held m, e);
        guarded = λ m e. grind (arith, r.guarded m, e);
        formed = r.formed;
        sole = λ e. grind (arith, r.sole e);
        aimed = λ m e. grind (arith, r.aimed m, e);
        few = r.few;
        far = λ m e. grind (arith, r.far m, e, low);
      }

      go : (b : Bool) → (b ≡ true → w.gate ≡ word) → GateRule callers (gate_projection (at b))
      go true e =
          let aimed : word ≡ gate_word (fence_of w.gate) 0 (alg_of w.gate) = sym may.aimed ∙ g.aimed n may.phase in
          let free : holder_of w.gate ≡ 0 = ap holder_of (e refl ∙ aimed) ∙ holder_of-open (fence_of w.gate) (alg_of w.gate) in
          subst (GateRule callers) (sym (gate_projection-put w (at true) n (next true) refl)) (law (gate_projection w) g may.phase (e refl) free)
      go false e = subst (GateRule callers) (sym (gate_projection-put w (at false) n (next false) refl)) (refused (gate_projection w) g may.phase)

  pub check-gate : (k : ℕ) (w : World) (n : ℕ) → CanCheck n k (w.views n) → GateRule callers (gate_projection w) → GateRule callers (gate_projection (world_after (check k) n w))
  check-gate k w n may g =
      subst (GateRule callers)
      (sym (gate_projection-put w (world_after (check k) n w) n (view_after (check k) w (w.views n) (w.status k)) refl))
      (go (gate_projection w) (eqb (w.status k) 0) (λ e. eqb-true (w.status k) 0 e) g may.holds)
    where
      -- another caller whose status is 0 isn't closing, since it would hold the gate
      idle : (s : GateProjection) → GateRule callers s → (s.views n).holds ≡ true → s.status k ≡ 0 → rests (s.views k).phase ≡ true
      idle s r holds zero = by (s.views k).phase refl (r.quiet k zero)
        where
          by : (p : Phase) → (s.views k).phase ≡ p → is_silent (s.views k).phase ≡ true → rests (s.views k).phase ≡ true
          by Idle is q = ap rests is
          by Announced is q = ap rests is
          by Turned is q = ap rests is
          by Aiming is q = absurd (let e : false ≡ true = sym (ap is_silent is) ∙ q in cc)
          by In is q = absurd (let e : false ≡ true = sym (ap is_silent is) ∙ q in cc)
          by Closing is q = absurd (may.other (let a = r.mine k (r.closing k is) in let b = r.mine n holds in omega arith))

      law : (s : GateProjection) (seen : List ℕ) → GateRule callers s → (s.views n).holds ≡ true
          → ((j : ℕ) → member seen j ≡ true → rests (s.views j).phase ≡ true)
          → GateRule callers (record s { views = put s.views n (record (s.views n) { checked = seen }) })
      law s seen r holds rest = record {
        quiet = λ m e. grind (arith, r.quiet m, e);
        status = λ m. grind (arith, r.status m);
        absent = λ m e. grind (arith, r.absent m, e);
        mine = put-all s.views n (record (s.views n) { checked = seen }) (λ m u. u.holds ≡ true → holder_of s.gate ≡ 1 + m) (r.mine n) (λ m d. r.mine m);
        owner = λ m e. grind (arith, r.owner m, e);
        holding = λ m e. grind (arith, r.holding m, e);
        closing = λ m e. grind (arith, r.closing m, e);
        checked = λ m j e. grind (arith, r.checked m j, e, holds);
        seen =
            λ m j e.
            put-all s.views n (record (s.views n) { checked = seen }) (λ i u. rests (s.views i).phase ≡ true → rests u.phase ≡ true)
            (λ h. h) (λ i d h. h) j (put-all s.views n (record (s.views n) { checked = seen })
            (λ i u. member u.checked j ≡ true → rests (s.views j).phase ≡ true) (rest j) (λ i d. r.seen i j) m e);
        named = λ m e. grind (arith, r.named m, e);
        spared = λ m e. grind (arith, r.spared m, e);
        held = λ m e. grind (arith, r.held m, e);
        guarded = λ m e. grind (arith, r.guarded m, e);
        formed = r.formed;
        sole = λ e. grind (arith, r.sole e);
        aimed = λ m e. grind (arith, r.aimed m, e);
        few = r.few;
        far = λ m e. grind (arith, r.far m, e);
      }

      one_more : (s : GateProjection) (j : ℕ) → GateRule callers s → rests (s.views k).phase ≡ true → member (k ∷ (s.views n).checked) j ≡ true → rests (s.views j).phase ≡ true
      one_more s j r rest e = by (eqb j k) refl
        where
          by : (b : Bool) → eqb j k ≡ b → rests (s.views j).phase ≡ true
          by true q = subst (λ i. rests (s.views i).phase ≡ true) (sym (eqb-true j k q)) rest
          by false q = r.seen n j (grind (arith, e, q))

      go : (s : GateProjection) (b : Bool) → (b ≡ true → s.status k ≡ 0) → GateRule callers s → (s.views n).holds ≡ true
          → GateRule callers (record s { views = put s.views n (record (s.views n) { checked = if b then k ∷ (s.views n).checked else (s.views n).checked }) })
      go s true zero r holds = law s (k ∷ (s.views n).checked) r holds (λ j e. one_more s j r (idle s r holds (zero refl)) e)
      go s false zero r holds = law s (s.views n).checked r holds (r.seen n)

  pub reopen-gate : (fence : ℕ) (alg : Alg) (w : World) (n : ℕ) → CanReopen fence alg (w.views n) → GateRule callers (gate_projection w) → GateRule callers (gate_projection (world_after (reopen fence alg) n w))
  reopen-gate fence alg w n may g = subst (GateRule callers) (sym (gate_projection-put w (world_after (reopen fence alg) n w) n (view_after (reopen fence alg) w (w.views n) (gate_word fence 0 alg)) refl))
      (law (gate_projection w) g (g.closing n may.phase) (g.held n (g.closing n may.phase) ∙ may.named) (g.guarded n (g.closing n may.phase) ∙ may.guarded) may.absent)
    where
      law : (s : GateProjection) → GateRule callers s → (s.views n).holds ≡ true → alg_of s.gate ≡ alg → fence_of s.gate ≡ fence
          → (s.views n).present ≡ false
          → GateRule callers (record s { gate = gate_word fence 0 alg; views = put s.views n (opened (s.views n)) })
      law s r holds same kept gone =
          let h : holder_of (gate_word fence 0 alg) ≡ 0 = holder_of-open fence alg in
          let a : alg_of (gate_word fence 0 alg) ≡ alg = alg_of-gate fence 0 alg in
          let f : fence_of (gate_word fence 0 alg) ≡ fence = fence_of-open fence alg in
          record {
            quiet = λ m e. grind (arith, r.quiet m, e);
            status = λ m. grind (arith, r.status m);
            absent = λ m e. grind (arith, r.absent m, e, gone);
            mine = λ m e. grind (arith, r.mine m, r.mine n holds, e);
            owner = λ m e. absurd (grind (arith, e, h));
            holding = λ m e. grind (arith, r.holding m, e);
            closing = λ m e. grind (arith, r.closing m, e);
            checked = λ m k e. grind (arith, r.checked m k, e);
            seen = λ m k e. grind (arith, r.seen m k, e);
            named = λ m e. grind (arith, r.named m, e, a, same);
            spared = λ m e. grind (arith, r.spared m, e, f, kept);
            held = λ m e. grind (arith, r.held m, e, a, same);
            guarded = λ m e. grind (arith, r.guarded m, e, f, kept);
            formed = formed-gate fence 0 alg (omega arith);
            sole = λ e. grind (arith, r.sole e, a, same);
            aimed = λ m e. grind (arith, r.aimed m, e, a, same, f, kept);
            few = r.few;
            far = λ m e. grind (arith, r.far m, e);
          }

  pub install-gate : (fence : ℕ) (alg : Alg) (w : World) (n : ℕ) → (w.views n).gate.fence ≡ fence → (w.views n).gate.phase ≡ Closing
      → HasChecked callers n (w.views n) → GateRule callers (gate_projection w)
      → GateRule callers (gate_projection (world_after (install n fence alg) n w))
  install-gate fence alg w n guards closing quiet g =
      subst (GateRule callers) (sym (gate_projection-put w (world_after (install n fence alg) n w) n
      (view_after (install n fence alg) w (w.views n) (gate_word fence (1 + n) alg)) refl))
      (law (gate_projection w) g closing (g.guarded n (g.closing n closing) ∙ guards) (g.closing n closing) (others-rest w n quiet g))
    where
      law : (s : GateProjection) → GateRule callers s → (s.views n).phase ≡ Closing → fence_of s.gate ≡ fence → (s.views n).holds ≡ true → ((k : ℕ) → k ≢ n → rests (s.views k).phase ≡ true)
          → GateRule callers (record s { gate = gate_word fence (1 + n) alg; views = put s.views n (record (s.views n) { algorithm = alg }) })
      law s r closing kept holds out =
          let low : n < callers = is-caller-at callers s r n (λ idle. let e : Closing ≡ Idle = sym closing ∙ idle in cc) in
          let h : holder_of (gate_word fence (1 + n) alg) ≡ 1 + n = holder-closed callers s r n low fence alg in
          let a : alg_of (gate_word fence (1 + n) alg) ≡ alg = alg_of-gate fence (1 + n) alg in
          let f : fence_of (gate_word fence (1 + n) alg) ≡ fence = fence_of-gate fence (1 + n) alg (closed-fits callers s r n low) in
          record {
            quiet = λ m e. grind (arith, r.quiet m, e);
            status = λ m. grind (arith, r.status m);
            absent = λ m e. grind (arith, r.absent m, e);
            mine = λ m e. grind (arith, r.mine m, r.mine n holds, e, h);
            owner = λ m e. grind (arith, e, h, holds);
            holding = λ m e. grind (arith, r.holding m, e);
            closing = λ m e. grind (arith, r.closing m, e);
            checked = λ m k e. grind (arith, r.checked m k, e);
            seen = seen-put s.views n (record (s.views n) { algorithm = alg }) refl (λ m. r.seen m n) r.seen;
            named = λ m e. grind (arith, out m, e, a, closing);
            spared = λ m e. grind (arith, out m, e, closing);
            held = λ m e. grind (arith, r.mine m, r.mine n holds, e, a);
            guarded = λ m e. grind (arith, r.mine m, r.mine n holds, e, f);
            formed = formed-gate fence (1 + n) alg (closed-fits callers s r n low);
            sole = λ e. grind (arith, a, low, e);
            aimed = λ m e. grind (arith, out m, e, closing);
            few = r.few;
            far = λ m e. grind (arith, r.far m, e);
          }

  -- who is alone changes the fence
  pub fence-gate : (number : ℕ) (giving : Bool) (alg : Alg) (w x : World) (n : ℕ) (v : View) → x.views ≡ put w.views n v
      → x.status ≡ w.status → x.gate ≡ gate_word number (1 + n) alg → v.gate ≡ record (w.views n).gate { fence = number; giving = giving }
      → (w.views n).gate.algorithm ≡ alg → (w.views n).gate.phase ≡ Closing → HasChecked callers n (w.views n)
      → GateRule callers (gate_projection w) → GateRule callers (gate_projection x)
  fence-gate number giving alg w x n v is status gate own named closing quiet g =
      subst (GateRule callers) (sym path)
      (law (gate_projection w) g closing (g.held n (g.closing n closing) ∙ named) named (g.closing n closing) (others-rest w n quiet g))
    where
      path : gate_projection x ≡ record { status = w.status; gate = gate_word number (1 + n) alg; views = put (gate_projection w).views n (record (w.views n).gate { fence = number; giving = giving }) }
      path = λ i. record { status = status i; gate = gate i; views = (ap (parts (λ (u : View). u.gate)) is ∙ (parts-put (λ (u : View). u.gate) w.views n v ∙ ap (put (gate_projection w).views n) own)) i }

      law : (s : GateProjection) → GateRule callers s → (s.views n).phase ≡ Closing → alg_of s.gate ≡ alg → (s.views n).algorithm ≡ alg → (s.views n).holds ≡ true → ((k : ℕ) → k ≢ n → rests (s.views k).phase ≡ true)
          → GateRule callers (record s { gate = gate_word number (1 + n) alg; views = put s.views n (record (s.views n) { fence = number; giving = giving }) })
      law s r closing same named holds out =
          let low : n < callers = is-caller-at callers s r n (λ idle. let e : Closing ≡ Idle = sym closing ∙ idle in cc) in
          let h : holder_of (gate_word number (1 + n) alg) ≡ 1 + n = holder-closed callers s r n low number alg in
          let a : alg_of (gate_word number (1 + n) alg) ≡ alg = alg_of-gate number (1 + n) alg in
          let f : fence_of (gate_word number (1 + n) alg) ≡ number = fence_of-gate number (1 + n) alg (closed-fits callers s r n low) in
          record {
            quiet = λ m e. grind (arith, r.quiet m, e);
            status = λ m. grind (arith, r.status m);
            absent = λ m e. grind (arith, r.absent m, e);
            mine = λ m e. grind (arith, r.mine m, r.mine n holds, e, h);
            owner = λ m e. grind (arith, e, h, holds);
            holding = λ m e. grind (arith, r.holding m, e);
            closing = λ m e. grind (arith, r.closing m, e);
            checked = λ m k e. grind (arith, r.checked m k, e);
            seen = λ m k e. grind (arith, r.seen m k, e);
            named = λ m e. grind (arith, out m, e, closing);
            spared = λ m e. grind (arith, out m, e, closing);
            held = λ m e. grind (arith, r.mine m, r.mine n holds, e, a, named);
            guarded = λ m e. grind (arith, r.mine m, r.mine n holds, e, f);
            formed = formed-gate number (1 + n) alg (closed-fits callers s r n low);
            sole = λ e. grind (arith, r.sole e, a, same);
            aimed = λ m e. grind (arith, out m, e, closing);
            few = r.few;
            far = λ m e. grind (arith, r.far m, e);
          }

  pub seize-gate : (fence : ℕ) (alg : Alg) (w : World) (n : ℕ) → CanSeize fence alg (w.views n) → GateRule callers (gate_projection w) → GateRule callers (gate_projection (world_after (seize n fence alg) n w))
  seize-gate fence alg w n may g = go (eqb w.gate (gate_word fence 0 alg)) (λ e. eqb-true w.gate (gate_word fence 0 alg) e)
    where
      next : Bool → View
      next b = record (view_after (seize n fence alg) w (w.views n) w.gate) { gate = if b then seized (w.views n).gate else (w.views n).gate }

      at : Bool → World
      at b = record w { gate = if b then gate_word fence (1 + n) alg else w.gate; views = put w.views n (next b) }

      -- nobody holds the open gate, and nobody is seen
      law : (s : GateProjection) → GateRule callers s → (s.views n).phase ≡ In → (s.views n).algorithm ≡ alg → holder_of s.gate ≡ 0 → alg_of s.gate ≡ alg → fence_of s.gate ≡ fence → (s.views n).fence ≡ fence
          → GateRule callers (record s { gate = gate_word fence (1 + n) alg; views = put s.views n (seized (s.views n)) })
      law s r inside named free same kept own =
          let low : n < callers = is-caller-at callers s r n (λ idle. let e : In ≡ Idle = sym inside ∙ idle in cc) in
          let h : holder_of (gate_word fence (1 + n) alg) ≡ 1 + n = holder-closed callers s r n low fence alg in
          let a : alg_of (gate_word fence (1 + n) alg) ≡ alg = alg_of-gate fence (1 + n) alg in
          let f : fence_of (gate_word fence (1 + n) alg) ≡ fence = fence_of-gate fence (1 + n) alg (closed-fits callers s r n low) in
          record {
            quiet = λ m e. grind (arith, r.quiet m, e);
            status = λ m. grind (arith, r.status m);
            absent = λ m e. grind (arith, r.absent m, e);
            mine = λ m e. grind (arith, r.mine m, e, h, free);
            owner = λ m e. grind (arith, e, h);
            holding = λ m e. grind (arith, r.holding m, e, inside);
            closing = λ m e. grind (arith, r.closing m, e, inside);
            checked = λ m k e. grind (arith, r.checked m k, e);
            seen = λ m k e. grind (arith, r.seen m k, r.checked m k, r.mine m, e, free);
            named = λ m e. grind (arith, r.named m, e, a, same);
            spared = λ m e. grind (arith, r.spared m, e, f, kept);
            held = λ m e. grind (arith, r.mine m, e, a, free, named);
            guarded = λ m e. grind (arith, r.mine m, e, f, free, own);
            formed = formed-gate fence (1 + n) alg (closed-fits callers s r n low);
            sole = λ e. grind (arith, r.sole e, a, same);
            aimed = λ m e. grind (arith, r.aimed m, e, a, same, f, kept);
            few = r.few;
            far = λ m e. grind (arith, r.far m, e, inside);
          }

      go : (b : Bool) → (b ≡ true → w.gate ≡ gate_word fence 0 alg) → GateRule callers (gate_projection (at b))
      go true e =
          let free : holder_of w.gate ≡ 0 = ap holder_of (e refl) ∙ holder_of-open fence alg in
          let same : alg_of w.gate ≡ alg = ap alg_of (e refl) ∙ alg_of-gate fence 0 alg in
          let kept : fence_of w.gate ≡ fence = ap fence_of (e refl) ∙ fence_of-open fence alg in
          subst (GateRule callers) (sym (gate_projection-put w (at true) n (next true) refl)) (law (gate_projection w) g may.phase may.named free same kept may.spared)
      go false e = subst (GateRule callers) (sym (gate_projection-kept w (at false) n (next false) refl refl refl refl)) g

  pub return_gate-gate : (fence : ℕ) (alg : Alg) (w : World) (n : ℕ) → CanReturn fence alg (w.views n) → GateRule callers (gate_projection w) → GateRule callers (gate_projection (world_after (return_gate fence alg) n w))
  return_gate-gate fence alg w n may g = subst (GateRule callers) (sym (gate_projection-put w (world_after (return_gate fence alg) n w) n (view_after (return_gate fence alg) w (w.views n) (gate_word fence 0 alg)) refl))
      (law (gate_projection w) g may.holds (g.held n may.holds ∙ may.named) (g.guarded n may.holds ∙ may.spared) may.phase)
    where
      law : (s : GateProjection) → GateRule callers s → (s.views n).holds ≡ true → alg_of s.gate ≡ alg → fence_of s.gate ≡ fence
          → (s.views n).phase ≡ In
          → GateRule callers (record s { gate = gate_word fence 0 alg; views = put s.views n (returned (s.views n)) })
      law s r holds same kept inside =
          let h : holder_of (gate_word fence 0 alg) ≡ 0 = holder_of-open fence alg in
          let a : alg_of (gate_word fence 0 alg) ≡ alg = alg_of-gate fence 0 alg in
          let f : fence_of (gate_word fence 0 alg) ≡ fence = fence_of-open fence alg in
          record {
            quiet = λ m e. grind (arith, r.quiet m, e);
            status = λ m. grind (arith, r.status m);
            absent = λ m e. grind (arith, r.absent m, e);
            mine = λ m e. grind (arith, r.mine m, r.mine n holds, e);
            owner = λ m e. absurd (grind (arith, e, h));
            holding = λ m e. grind (arith, r.holding m, e);
            closing = λ m e. grind (arith, r.closing m, e, inside);
            checked = λ m k e. grind (arith, r.checked m k, e);
            seen = λ m k e. grind (arith, r.seen m k, e);
            named = λ m e. grind (arith, r.named m, e, a, same);
            spared = λ m e. grind (arith, r.spared m, e, f, kept);
            held = λ m e. grind (arith, r.held m, e, a, same);
            guarded = λ m e. grind (arith, r.guarded m, e, f, kept);
            formed = formed-gate fence 0 alg (omega arith);
            sole = λ e. grind (arith, r.sole e, a, same);
            aimed = λ m e. grind (arith, r.aimed m, e, a, same, f, kept);
            few = r.few;
            far = λ m e. grind (arith, r.far m, e, inside);
          }

  -- a step that changes what its caller knows as the gate's holder, and nothing else at the gate
  pub gate-marked : (w x : World) (n : ℕ) (v : View) → x.views ≡ put w.views n v → x.status ≡ w.status → x.gate ≡ w.gate
      → v.gate.phase ≡ (w.views n).gate.phase → v.gate.present ≡ (w.views n).gate.present → v.gate.algorithm ≡ (w.views n).gate.algorithm
      → v.gate.fence ≡ (w.views n).gate.fence → v.gate.aim ≡ (w.views n).gate.aim → v.gate.holds ≡ (w.views n).gate.holds
      → v.gate.checked ≡ (w.views n).gate.checked
      → GateRule callers (gate_projection w) → GateRule callers (gate_projection x)
  gate-marked w x n v is status gate phase present algorithm fence aim holds checked r = subst (GateRule callers) (sym path) (law (gate_projection w) v.gate r phase present algorithm fence aim holds checked)
    where
      path : gate_projection x ≡ record (gate_projection w) { views = put (gate_projection w).views n v.gate }
      path = λ i. record { status = status i; gate = gate i; views = (ap (parts (λ (u : View). u.gate)) is ∙ parts-put (λ (u : View). u.gate) w.views n v) i }

      law : (s : GateProjection) (k : GateView) → GateRule callers s → k.phase ≡ (s.views n).phase → k.present ≡ (s.views n).present
          → k.algorithm ≡ (s.views n).algorithm → k.fence ≡ (s.views n).fence → k.aim ≡ (s.views n).aim → k.holds ≡ (s.views n).holds
          → k.checked ≡ (s.views n).checked → GateRule callers (record s { views = put s.views n k })
      law s k r phase present algorithm fence aim holds checked = record {
        quiet = λ m e. grind (arith, r.quiet m, e, phase);
        status = put-all s.views n k (λ m u. s.status m ≡ (if u.present then announced else 0)) (r.status n ∙ ap (λ (b : Bool). if b then announced else 0) (sym present)) (λ m d. r.status m);
        absent = put-all s.views n k (λ m u. u.phase ≡ Idle → u.present ≡ false) (λ e. present ∙ r.absent n (sym phase ∙ e)) (λ m d. r.absent m);
        mine = put-all s.views n k (λ m u. u.holds ≡ true → holder_of s.gate ≡ 1 + m) (λ e. r.mine n (sym holds ∙ e)) (λ m d. r.mine m);
        owner = λ m e. grind (arith, r.owner m, e, holds);
        holding = put-all s.views n k (λ m u. u.holds ≡ true → may_hold u.phase ≡ true) (λ e. ap may_hold phase ∙ r.holding n (sym holds ∙ e)) (λ m d. r.holding m);
        closing = λ m e. grind (arith, r.closing m, e, phase, holds);
        checked = λ m j e. grind (arith, r.checked m j, e, checked, holds);
        seen = seen-put s.views n k checked (λ m e. ap rests phase ∙ r.seen m n e) r.seen;
        named = λ m e. grind (arith, r.named m, e, phase, algorithm);
        spared = λ m e. grind (arith, r.spared m, e, phase, fence);
        held = λ m e. grind (arith, r.held m, e, holds, algorithm);
        guarded = λ m e. grind (arith, r.guarded m, e, holds, fence);
        formed = r.formed;
        sole = λ e. grind (arith, r.sole e, algorithm);
        aimed = λ m e. grind (arith, r.aimed m, e, phase, aim);
        few = r.few;
        far = λ m e. grind (arith, r.far m, e, phase);
      }
