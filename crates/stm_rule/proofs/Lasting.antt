-- While a caller holds the quiet gate, no step of another changes the history or the clock.
use Rattle.std.proofs.Common.{◌≡◌, ◌≢◌, ℕ, ◌<◌, [], ◌∷◌, true, false, refl, sym, ap, ◌∙◌, subst}
use Rattle.stm_model.specs.declared.config.Config.{Config}
use Rattle.rule_base.specs.declared.views.Phase.TheVariants.{In, Closing}
use Rattle.rule_base.specs.declared.views.View.{View}
use Rattle.rule_base.specs.GateLaws.{others-rest}
use Rattle.rule_base.specs.GateRule.{rests}
use Rattle.rule_base.specs.History.{member}
use Rattle.rule_base.specs.Lemmas.PutLemmas.{put-else}
use Rattle.rule_base.specs.Rest.{IsQuiet}
use Rattle.rule_base.specs.StepKinds.{answer, view_after, world_after}
use Rattle.rule_base.specs.World.{World}
use Rattle.rule_seq.specs.CglRuns.CglStep.{acquires_lock, loads_start, loads_heap, stores_heap, stores_clock, frees_lock, loads_undo, loads_limit, stores_back}
use Rattle.rule_seq.specs.TmlRuns.TmlStep.{tml_begins, tml_loads, tml_agains, tml_writes, tml_stores, tml_commits}
use Rattle.rule_ring.specs.RingRuns.RingStep.{ring_begins, ring_loads, ring_looks, ring_words, ring_agains, ring_moves, ring_locks, ring_ticks, ring_slots, ring_enters, ring_writes, ring_dones, ring_frees}
use Rattle.stm_rule.specs.Runs.CoreRuns.{CoreStep, core_kind, CoreMay}
use Rattle.stm_rule.specs.Runs.CoreRuns.CoreStep.{announces, loads_gate, departs, aims, takes_gate, checks, reopens, settles, evens_clock, stores_base, stores_done, installs, of_cgl, of_tml, of_ring, looks_gate, seizes, grants, look_grants, move_grants, direct_loads, direct_stores, direct_commits, direct_raises_clock, direct_ups, returns, fences, fence_loads, fence_stores, fence_commits, unfences, hears, loads_end, of_orec, orec_grants, orec_grants_all, direct_releases}
use Rattle.stm_rule.specs.Product.{Invariant}
use Rattle.stm_rule.specs.Quiescence.{RestLasts, GrantedLasts}
use Rattle.stm_rule.proofs.KindLaws.RestLaws.{quiet-rests, granted-rests}
use Rattle.rule_orec.specs.OrecRuns.OrecStep.{orec_begins, orec_samples, orec_loads, orec_confirms, orec_clocks, orec_clocks_all, orec_passes, orec_lasts, orec_looks, orec_limits, orec_locks, orec_commits, orec_writes_back, orec_times, orec_olds, orec_ups, orec_own_loads, orec_saves, orec_places, orec_restores, orec_raises_clock}
use Rattle.rule_base.specs.Fence.{without_fence}
use Rattle.stm_rule.proofs.KindLaws.FencedRest.{rest-of, at-rest-of}
use Rattle.stm_rule.proofs.CoreLaws.{one_step}

module _ (good : (ℕ → ℕ) → Type 0) (c : Config) where
  abbrev Stands : World → World → Type 0
  Stands w x = (x.history ≡ w.history) × (x.clock ≡ w.clock)

  -- a caller at rest takes no step that adds an entry or stores the clock
  stands : (m : ℕ) (s : CoreStep) (w : World) → Invariant good c w → ((w.views m).gate.phase ≡ In → ⊥)
      → ((w.views m).gate.phase ≡ Closing → ⊥) → CoreMay good c m s (w.views m) → Stands w (world_after (core_kind m s) m w)
  stands m announces w g out apart may = (refl, refl)
  stands m loads_gate w g out apart may = (refl, refl)
  stands m departs w g out apart may = (refl, refl)
  stands m aims w g out apart may = (refl, refl)
  stands m (takes_gate word) w g out apart may = (refl, refl)
  stands m (checks other) w g out apart may = (refl, refl)
  stands m (reopens fence alg) w g out apart may = (refl, refl)
  stands m settles w g out apart may = (refl, refl)
  stands m (evens_clock time) w g out apart may = absurd (apart may.1.phase)
  stands m (stores_base time) w g out apart may = (refl, refl)
  stands m (stores_done time) w g out apart may = (refl, refl)
  stands m (installs fence alg) w g out apart may = (refl, refl)
  stands m (of_cgl acquires_lock) w g out apart may = (refl, refl)
  stands m (of_cgl loads_start) w g out apart may = (refl, refl)
  stands m (of_cgl (loads_heap a)) w g out apart may = (refl, refl)
  stands m (of_cgl (stores_heap a x)) w g out apart may = (refl, refl)
  stands m (of_cgl (stores_clock t)) w g out apart may = absurd (out may.1.has.phase)
  stands m (of_cgl frees_lock) w g out apart may = (refl, refl)
  stands m (of_cgl (loads_undo a)) w g out apart may = (refl, refl)
  stands m (of_cgl (loads_limit fix)) w g out apart may = (refl, refl)
  stands m (of_cgl (stores_back a x)) w g out apart may = (refl, refl)
  stands m (of_tml tml_begins) w g out apart may = (refl, refl)
  stands m (of_tml (tml_loads a)) w g out apart may = (refl, refl)
  stands m (of_tml tml_agains) w g out apart may = (refl, refl)
  stands m (of_tml (tml_writes start)) w g out apart may = absurd (out may.1.has.runs.phase)
  stands m (of_tml (tml_stores a x)) w g out apart may = (refl, refl)
  stands m (of_tml (tml_commits t)) w g out apart may = absurd (out may.1.has.runs.phase)
  stands m (of_ring ring_begins) w g out apart may = (refl, refl)
  stands m (of_ring (ring_loads a)) w g out apart may = (refl, refl)
  stands m (of_ring ring_looks) w g out apart may = (refl, refl)
  stands m (of_ring (ring_words k e i)) w g out apart may = (refl, refl)
  stands m (of_ring (ring_agains k)) w g out apart may = (refl, refl)
  stands m (of_ring ring_moves) w g out apart may = (refl, refl)
  stands m (of_ring ring_locks) w g out apart may = (refl, refl)
  stands m (of_ring ring_ticks) w g out apart may = (refl, refl)
  stands m (of_ring (ring_slots k e i ws)) w g out apart may = (refl, refl)
  stands m (of_ring (ring_enters t)) w g out apart may = absurd (out may.1.0.turn.has.runs.phase)
  stands m (of_ring (ring_writes a x)) w g out apart may = (refl, refl)
  stands m (of_ring (ring_dones t)) w g out apart may = (refl, refl)
  stands m (of_ring ring_frees) w g out apart may = (refl, refl)
  stands m (of_orec orec_begins) w g out apart may = (refl, refl)
  stands m (of_orec (orec_samples r a)) w g out apart may = (refl, refl)
  stands m (of_orec (orec_loads a)) w g out apart may = (refl, refl)
  stands m (of_orec (orec_confirms r)) w g out apart may = (refl, refl)
  stands m (of_orec (orec_clocks todo)) w g out apart may = (refl, refl)
  stands m (of_orec orec_clocks_all) w g out apart may = (refl, refl)
  stands m (of_orec (orec_passes r b)) w g out apart may = (refl, refl)
  stands m (of_orec (orec_lasts r b)) w g out apart may = (refl, refl)
  stands m (of_orec (orec_looks r)) w g out apart may = (refl, refl)
  stands m (of_orec orec_limits) w g out apart may = (refl, refl)
  stands m (of_orec (orec_locks r version)) w g out apart may = (refl, refl)
  stands m (of_orec (orec_commits start writes back)) w g out apart may = absurd (out may.1.0.has.runs.phase)
  stands m (of_orec (orec_writes_back a x)) w g out apart may = (refl, refl)
  stands m (of_orec (orec_times r version)) w g out apart may = (refl, refl)
  stands m (of_orec (orec_olds r version)) w g out apart may = (refl, refl)
  stands m (of_orec (orec_ups r version)) w g out apart may = (refl, refl)
  stands m (of_orec (orec_own_loads a)) w g out apart may = (refl, refl)
  stands m (of_orec (orec_saves a)) w g out apart may = (refl, refl)
  stands m (of_orec (orec_places a x)) w g out apart may = (refl, refl)
  stands m (of_orec (orec_restores a x)) w g out apart may = (refl, refl)
  stands m (of_orec (orec_raises_clock least)) w g out apart may = absurd (out may.1.has.runs.phase)
  stands m looks_gate w g out apart may = (refl, refl)
  stands m (seizes fence alg) w g out apart may = (refl, refl)
  stands m grants w g out apart may = (refl, refl)
  stands m look_grants w g out apart may = (refl, refl)
  stands m move_grants w g out apart may = (refl, refl)
  stands m (orec_grants r b) w g out apart may = (refl, refl)
  stands m orec_grants_all w g out apart may = (refl, refl)
  stands m (direct_releases r t) w g out apart may = (refl, refl)
  stands m (direct_loads a) w g out apart may = (refl, refl)
  stands m (direct_stores a x) w g out apart may = (refl, refl)
  stands m (direct_commits alg t) w g out apart may = absurd (out (g.core.install.promoted m may.1.granted).1)
  stands m (direct_raises_clock least) w g out apart may = absurd (out (g.core.install.promoted m may.1.granted).1)
  stands m (direct_ups r version) w g out apart may = (refl, refl)
  stands m (returns fence alg) w g out apart may = (refl, refl)
  stands m (fences from count alg) w g out apart may = (refl, refl)
  stands m (fence_loads a) w g out apart may = (refl, refl)
  stands m (fence_stores a x) w g out apart may = (refl, refl)
  stands m (fence_commits alg t) w g out apart may = absurd (apart may.1.phase)
  stands m (unfences alg) w g out apart may = (refl, refl)
  stands m hears w g out apart may = (refl, refl)
  stands m loads_end w g out apart may = (refl, refl)

  -- the holder's view stays
  quiet_after : (n m : ℕ) (s : CoreStep) (w : World) → m ≢ n → IsQuiet c n w → IsQuiet c n (world_after (core_kind m s) m w)
  quiet_after n m s w other q =
      let same : (world_after (core_kind m s) m w).views n ≡ w.views n = put-else w.views m n (view_after (core_kind m s) w (w.views m) (answer (core_kind m s) w)) (λ e. other (sym e)) in record {
        closing = ap (λ (v : View). v.gate.phase) same ∙ q.closing;
        checked = subst (λ (v : View). (k : ℕ) → k < c.callers → k ≢ n → member v.gate.checked k ≡ true) (sym same) q.checked;
      }

  pub rest-lasts : RestLasts good c
  rest-lasts n w [] g q others allowed = (at-rest-of good c n w g (quiet-rests good c n (without_fence w) g.core (record { closing = q.closing; checked = q.checked })), refl, refl)
  rest-lasts n w (s ∷ ss) g q others allowed =
      let rest = others-rest c.callers w n q.checked g.core.gate s.0 others.0 in
      let out : (w.views s.0).gate.phase ≡ In → ⊥ = λ e. (let p : false ≡ true = sym (ap rests e) ∙ rest in cc) in
      let apart : (w.views s.0).gate.phase ≡ Closing → ⊥ = λ e. (let p : false ≡ true = sym (ap rests e) ∙ rest in cc) in
      let here = stands s.0 s.1 w g out apart allowed.0 in
      let on = rest-lasts n (world_after (core_kind s.0 s.1) s.0 w) ss (one_step good c s.0 s.1 w g allowed.0).0 (quiet_after n s.0 s.1 w others.0 q) others.1 allowed.1 in
      (on.0, on.1 ∙ here.0, on.2 ∙ here.1)

  pub granted-lasts : GrantedLasts good c
  granted-lasts n w [] g granted others allowed = (rest-of good c n w g (granted-rests good c n (without_fence w) g.core granted), refl, refl)
  granted-lasts n w (s ∷ ss) g granted others allowed =
      let apart = others-rest c.callers w n (λ k low other. g.core.install.alone n k (g.core.install.promoted n granted).0 low other) g.core.gate s.0 others.0 in
      let out : (w.views s.0).gate.phase ≡ In → ⊥ = λ e. (let p : false ≡ true = sym (ap rests e) ∙ apart in cc) in
      let away : (w.views s.0).gate.phase ≡ Closing → ⊥ = λ e. (let p : false ≡ true = sym (ap rests e) ∙ apart in cc) in
      let here = stands s.0 s.1 w g out away allowed.0 in
      let same : (world_after (core_kind s.0 s.1) s.0 w).views n ≡ w.views n = put-else w.views s.0 n (view_after (core_kind s.0 s.1) w (w.views s.0) (answer (core_kind s.0 s.1) w)) (λ e. others.0 (sym e)) in
      let on = granted-lasts n (world_after (core_kind s.0 s.1) s.0 w) ss (one_step good c s.0 s.1 w g allowed.0).0 (ap (λ (v : View). v.gate.granted) same ∙ granted) others.1 allowed.1 in
      (on.0, on.1 ∙ here.0, on.2 ∙ here.1)
