-- No step lets the stamp of a record fall.
use Rattle.std.proofs.Common.{◌≡◌, ◌≢◌, ℕ, ◌≤◌, Bool, true, false, refl, sym, subst, ap, ◌∙◌, arith}
use Rattle.std.specs.Prelude.{if◌then◌else◌, ltb}
use Rattle.stm_model.specs.declared.config.Config.{Config}
use Rattle.stm_model.specs.declared.config.TheConstants.{CLOCK_LIMIT}
use Rattle.rule_base.specs.declared.views.Ownership.{Ownership}
use Rattle.rule_base.specs.declared.views.View.{View}
use Rattle.rule_base.specs.History.{touches}
use Rattle.rule_base.specs.Ranks.{Rec, rec_of, home_of}
use Rattle.rule_base.specs.Ranks.Rec.{Free, Taken}
use Rattle.rule_base.specs.StepKinds.{StepKind, answer, view_after, world_after}
use Rattle.rule_base.specs.World.{World, put}
use Rattle.rule_seq.specs.CglRuns.CglStep.{acquires_lock, loads_start, loads_heap, stores_heap, stores_clock, frees_lock, loads_undo, loads_limit, stores_back}
use Rattle.rule_seq.specs.TmlRuns.TmlStep.{tml_begins, tml_loads, tml_agains, tml_writes, tml_stores, tml_commits}
use Rattle.rule_orec.specs.OrecLaws.{orec_projection-put}
use Rattle.rule_orec.specs.OrecLaws as orec
use Rattle.rule_orec.specs.OrecRely.{stamp-grows}
use Rattle.rule_orec.specs.OrecRule.{OrecView, orec_view, OrecProjection, orec_projection, rank, rank_of}
use Rattle.rule_orec.specs.OrecRuns.OrecStep.{orec_begins, orec_samples, orec_loads, orec_confirms, orec_clocks, orec_clocks_all, orec_passes, orec_lasts, orec_looks, orec_limits, orec_locks, orec_commits, orec_writes_back, orec_times, orec_olds, orec_ups, orec_own_loads, orec_saves, orec_places, orec_restores, orec_raises_clock}
use Rattle.rule_orec.specs.OrecSteps.{passes, direct_owned}
use Rattle.stm_rule.specs.Runs.CoreRuns.{CoreStep, core_kind, CoreMay}
use Rattle.stm_rule.specs.Runs.CoreRuns.CoreStep.{announces, loads_gate, departs, aims, takes_gate, checks, reopens, settles, evens_clock, stores_base, stores_done, installs, looks_gate, seizes, grants, orec_grants, orec_grants_all, direct_loads, direct_stores, direct_commits, direct_raises_clock, direct_ups, returns, fences, fence_loads, fence_stores, fence_commits, unfences, hears, loads_end, of_cgl, of_tml, of_orec, direct_releases, of_ring, look_grants, move_grants}
use Rattle.rule_ring.specs.RingRuns.RingStep.{ring_begins, ring_loads, ring_looks, ring_words, ring_agains, ring_moves, ring_locks, ring_ticks, ring_slots, ring_enters, ring_writes, ring_dones, ring_frees}
use Rattle.stm_rule.specs.Kinds.Frames.{orec-world}
use Rattle.rule_base.specs.Fence.{without_fence}
use Rattle.stm_rule.specs.Kinds.Lifting.{Spares}
use Rattle.stm_rule.proofs.KindLaws.SparingMore as sparing
use Rattle.stm_rule.specs.Product.{Runs, Core, Invariant}
use Rattle.stm_rule.proofs.KindLaws.RestLaws.{nobody-else}
use Rattle.stm_model.specs.declared.alg.Alg.{Alg}
use Rattle.stm_model.specs.declared.alg.Alg.TheVariants.{Cgl, Tml, OrecLazy, OrecEager, RingSw, Serial}
use Rattle.stm_model.specs.Algorithms.{has_records}
use Rattle.rule_base.specs.Regime.{Regime}
use Rattle.rule_base.specs.Lemmas.RegimeLemmas.{regime-granted}
use Rattle.rule_base.specs.RunProjection.{run_projection}
use Rattle.rule_promoted.specs.PromotedRule.{Suits, OrecSuits, DirectRuns, suit_projection}
use Rattle.rule_promoted.specs.PromotedSteps.{direct_release, CanDirectRelease}
use Rattle.rule_promoted.specs.RaisingSteps.{direct_up, CanDirectUp}
use Rattle.rule_promoted.proofs.ReleaseRanks.{release-ranks, entry-covers, next-covers}
use Rattle.stm_rule.specs.Kinds.Stamping.{CoreStamps}

rank-view : (vs : ℕ → OrecView) (n q : ℕ) (v : OrecView) (k : Rec) → v.owned.held ≡ (vs n).owned.held → v.owned.eager ≡ (vs n).owned.eager
    → v.owned.committed ≡ (vs n).owned.committed → v.owned.time ≡ (vs n).owned.time → rank_of vs q k ≤ rank_of (put vs n v) q k
rank-view vs n q v (Free x) a b c d = grind arith
rank-view vs n q v (Taken m) a b c d = grind (arith, a, b, c, d)

-- a step that leaves the records and what its caller holds alone
level : (w x : World) (n : ℕ) (v : View) → x.views ≡ put w.views n v → x.records ≡ w.records → v.owned.held ≡ (w.views n).owned.held
    → v.owned.eager ≡ (w.views n).owned.eager → v.owned.committed ≡ (w.views n).owned.committed → v.owned.time ≡ (w.views n).owned.time
    → (r : ℕ) → rank (orec_projection w) r ≤ rank (orec_projection x) r
level w x n v is records a b c d r = subst (λ (s : OrecProjection). rank (orec_projection w) r ≤ rank s r) (sym (orec_projection-put w x n v is))
    (subst (λ (f : ℕ → ℕ).
    rank_of (orec_projection w).views r (rec_of (w.records r)) ≤ rank_of (put (orec_projection w).views n (orec_view v)) r (rec_of (f r)))
    (sym records) (rank-view (orec_projection w).views n r (orec_view v) (rec_of (w.records r)) a b c d))

held_by : (b : Bool) (o : Ownership)
    → ((if b then direct_owned o else o).held ≡ o.held) × ((if b then direct_owned o else o).eager ≡ o.eager)
    × ((if b then direct_owned o else o).committed ≡ o.committed) × ((if b then direct_owned o else o).time ≡ o.time)
held_by true o = (refl, refl, refl, refl)
held_by false o = (refl, refl, refl, refl)

-- the ranks are the same without the fence
by-without_fence : (kind : StepKind) (n : ℕ) (w : World) → Spares kind n w
    → ((r : ℕ) → rank (orec_projection (without_fence w)) r ≤ rank (orec_projection (world_after kind n (without_fence w))) r) → (r : ℕ)
    → rank (orec_projection w) r ≤ rank (orec_projection (world_after kind n w)) r
by-without_fence kind n w s k r = subst (λ (y : World). rank (orec_projection w) r ≤ rank (orec_projection y) r) s.world (k r)

-- a promoted attempt of the records gives back what it alone holds, as high as it owes
module _ (good : (ℕ → ℕ) → Type 0) (c : Config) (n : ℕ) (w : World) (g : Core good c w) (granted : (w.views n).gate.granted ≡ true) (recorded : has_records (w.views n).gate.algorithm ≡ true) where
  runs : DirectRuns c (w.views n).gate.algorithm n (run_projection w)
  runs = subst (λ (r : Regime). Runs c r (run_projection w)) (regime-granted c w n g.gate g.install granted) g.running

  suits : OrecSuits (home_of c) (suit_projection n w)
  suits = by (w.views n).gate.algorithm recorded runs.suits
    where
      by : (a : Alg) → has_records a ≡ true → Suits (home_of c) a (suit_projection n w) → OrecSuits (home_of c) (suit_projection n w)
      by Cgl e k = absurd cc
      by Tml e k = absurd cc
      by OrecLazy e k = k
      by OrecEager e k = k
      by RingSw e k = absurd cc
      by Serial e k = absurd cc

  alone : (q m : ℕ) → m ≢ n → touches (w.views m).owned.held q ≡ true → ⊥
  alone q m other t = nobody-else good c n w g (λ k low apart. g.install.alone n k (g.install.promoted n granted).0 low apart) m other (g.records.inside m q t)

-- with the number of its entry
given_back : (good : (ℕ → ℕ) → Type 0) (c : Config) (n q time : ℕ) (w : World) → Core good c w → CanDirectRelease q time (w.views n)
    → (r : ℕ) → rank (orec_projection w) r ≤ rank (orec_projection (world_after (direct_release q time) n w)) r
given_back good c n q time w g may =
    release-ranks n q time w (world_after (direct_release q time) n w)
    (view_after (direct_release q time) w (w.views n) (answer (direct_release q time) w)) refl refl refl g.records
    (alone good c n w g may.granted may.algorithm q)
    (entry-covers (home_of c) n q time w (suits good c n w g may.granted may.algorithm) may.held g.records may.entered (may.time ∙ (runs good c n w g may.granted may.algorithm).direct.start))

-- or one later than it was
given_up : (good : (ℕ → ℕ) → Type 0) (c : Config) (n q version : ℕ) (w : World) → Core good c w → CanDirectUp q version (w.views n)
    → (r : ℕ) → rank (orec_projection w) r ≤ rank (orec_projection (world_after (direct_up q version) n w)) r
given_up good c n q version w g may =
    release-ranks n q version w (world_after (direct_up q version) n w)
    (view_after (direct_up q version) w (w.views n) (answer (direct_up q version) w)) refl refl refl g.records
    (alone good c n w g may.granted (ap has_records may.named) q)
    (next-covers (home_of c) n q version w (suits good c n w g may.granted (ap has_records may.named)) may.held may.next)

core_ranks : (good : (ℕ → ℕ) → Type 0) (c : Config) (n : ℕ) (s : CoreStep) (w : World) → Invariant good c w → CoreMay good c n s (w.views n)
    → (r : ℕ) → rank (orec_projection w) r ≤ rank (orec_projection (world_after (core_kind n s) n w)) r
core_ranks good c n announces w g m = level w (world_after (core_kind n announces) n w) n (view_after (core_kind n announces) w (w.views n) (answer (core_kind n announces) w)) refl refl refl refl refl refl
core_ranks good c n loads_gate w g m = level w (world_after (core_kind n loads_gate) n w) n (view_after (core_kind n loads_gate) w (w.views n) (answer (core_kind n loads_gate) w)) refl refl refl refl refl refl
core_ranks good c n departs w g m = level w (world_after (core_kind n departs) n w) n (view_after (core_kind n departs) w (w.views n) (answer (core_kind n departs) w)) refl refl refl refl refl refl
core_ranks good c n aims w g m = level w (world_after (core_kind n aims) n w) n (view_after (core_kind n aims) w (w.views n) (answer (core_kind n aims) w)) refl refl refl refl refl refl
core_ranks good c n (takes_gate word) w g m =
    level w (world_after (core_kind n (takes_gate word)) n w) n
    (view_after (core_kind n (takes_gate word)) w (w.views n) (answer (core_kind n (takes_gate word)) w)) refl refl refl refl refl refl
core_ranks good c n (checks other) w g m =
    level w (world_after (core_kind n (checks other)) n w) n
    (view_after (core_kind n (checks other)) w (w.views n) (answer (core_kind n (checks other)) w)) refl refl refl refl refl refl
core_ranks good c n (reopens fence alg) w g m =
    level w (world_after (core_kind n (reopens fence alg)) n w) n
    (view_after (core_kind n (reopens fence alg)) w (w.views n) (answer (core_kind n (reopens fence alg)) w)) refl refl refl refl refl refl
core_ranks good c n settles w g m = level w (world_after (core_kind n settles) n w) n (view_after (core_kind n settles) w (w.views n) (answer (core_kind n settles) w)) refl refl refl refl refl refl
core_ranks good c n (evens_clock time) w g m =
    level w (world_after (core_kind n (evens_clock time)) n w) n
    (view_after (core_kind n (evens_clock time)) w (w.views n) (answer (core_kind n (evens_clock time)) w)) refl refl refl refl refl refl
core_ranks good c n (stores_base time) w g m =
    level w (world_after (core_kind n (stores_base time)) n w) n
    (view_after (core_kind n (stores_base time)) w (w.views n) (answer (core_kind n (stores_base time)) w)) refl refl refl refl refl refl
core_ranks good c n (stores_done time) w g m =
    level w (world_after (core_kind n (stores_done time)) n w) n
    (view_after (core_kind n (stores_done time)) w (w.views n) (answer (core_kind n (stores_done time)) w)) refl refl refl refl refl refl
core_ranks good c n (installs fence alg) w g m =
    level w (world_after (core_kind n (installs fence alg)) n w) n
    (view_after (core_kind n (installs fence alg)) w (w.views n) (answer (core_kind n (installs fence alg)) w)) refl refl refl refl refl
    refl
core_ranks good c n looks_gate w g m = level w (world_after (core_kind n looks_gate) n w) n (view_after (core_kind n looks_gate) w (w.views n) (answer (core_kind n looks_gate) w)) refl refl refl refl refl refl
core_ranks good c n (seizes fence alg) w g m =
    level w (world_after (core_kind n (seizes fence alg)) n w) n
    (view_after (core_kind n (seizes fence alg)) w (w.views n) (answer (core_kind n (seizes fence alg)) w)) refl refl refl refl refl refl
core_ranks good c n grants w g m = level w (world_after (core_kind n grants) n w) n (view_after (core_kind n grants) w (w.views n) (answer (core_kind n grants) w)) refl refl refl refl refl refl
core_ranks good c n (orec_grants q b) w g m =
    let k = held_by (passes (w.records q) (w.views n)) (w.views n).owned in
    level w (world_after (core_kind n (orec_grants q b)) n w) n
    (view_after (core_kind n (orec_grants q b)) w (w.views n) (answer (core_kind n (orec_grants q b)) w)) refl refl k.0 k.1 k.2 k.3
core_ranks good c n orec_grants_all w g m =
    let k = held_by (ltb w.clock CLOCK_LIMIT) (w.views n).owned in
    level w (world_after (core_kind n orec_grants_all) n w) n
    (view_after (core_kind n orec_grants_all) w (w.views n) (answer (core_kind n orec_grants_all) w)) refl refl k.0 k.1 k.2 k.3
core_ranks good c n (direct_loads a) w g m =
    level w (world_after (core_kind n (direct_loads a)) n w) n
    (view_after (core_kind n (direct_loads a)) w (w.views n) (answer (core_kind n (direct_loads a)) w)) refl refl refl refl refl refl
core_ranks good c n (direct_stores a x) w g m =
    level w (world_after (core_kind n (direct_stores a x)) n w) n
    (view_after (core_kind n (direct_stores a x)) w (w.views n) (answer (core_kind n (direct_stores a x)) w)) refl refl refl refl refl refl
core_ranks good c n (direct_commits alg time) w g m =
    level w (world_after (core_kind n (direct_commits alg time)) n w) n
    (view_after (core_kind n (direct_commits alg time)) w (w.views n) (answer (core_kind n (direct_commits alg time)) w)) refl refl refl
    refl refl refl
core_ranks good c n (direct_raises_clock least) w g m =
    level w (world_after (core_kind n (direct_raises_clock least)) n w) n
    (view_after (core_kind n (direct_raises_clock least)) w (w.views n) (answer (core_kind n (direct_raises_clock least)) w)) refl refl refl
    refl refl refl
core_ranks good c n (returns fence alg) w g m =
    level w (world_after (core_kind n (returns fence alg)) n w) n
    (view_after (core_kind n (returns fence alg)) w (w.views n) (answer (core_kind n (returns fence alg)) w)) refl refl refl refl refl refl
core_ranks good c n (fences from count alg) w g m =
    level w (world_after (core_kind n (fences from count alg)) n w) n
    (view_after (core_kind n (fences from count alg)) w (w.views n) (answer (core_kind n (fences from count alg)) w)) refl refl refl refl
    refl refl
core_ranks good c n (fence_loads a) w g m =
    level w (world_after (core_kind n (fence_loads a)) n w) n
    (view_after (core_kind n (fence_loads a)) w (w.views n) (answer (core_kind n (fence_loads a)) w)) refl refl refl refl refl refl
core_ranks good c n (fence_stores a x) w g m =
    level w (world_after (core_kind n (fence_stores a x)) n w) n
    (view_after (core_kind n (fence_stores a x)) w (w.views n) (answer (core_kind n (fence_stores a x)) w)) refl refl refl refl refl refl
core_ranks good c n (fence_commits alg t) w g m =
    level w (world_after (core_kind n (fence_commits alg t)) n w) n
    (view_after (core_kind n (fence_commits alg t)) w (w.views n) (answer (core_kind n (fence_commits alg t)) w)) refl refl refl refl refl
    refl
core_ranks good c n (unfences alg) w g m =
    level w (world_after (core_kind n (unfences alg)) n w) n
    (view_after (core_kind n (unfences alg)) w (w.views n) (answer (core_kind n (unfences alg)) w)) refl refl refl refl refl refl
core_ranks good c n hears w g m = level w (world_after (core_kind n hears) n w) n (view_after (core_kind n hears) w (w.views n) (answer (core_kind n hears) w)) refl refl refl refl refl refl
core_ranks good c n loads_end w g m = level w (world_after (core_kind n loads_end) n w) n (view_after (core_kind n loads_end) w (w.views n) (answer (core_kind n loads_end) w)) refl refl refl refl refl refl
core_ranks good c n (of_cgl acquires_lock) w g m =
    level w (world_after (core_kind n (of_cgl acquires_lock)) n w) n
    (view_after (core_kind n (of_cgl acquires_lock)) w (w.views n) (answer (core_kind n (of_cgl acquires_lock)) w)) refl refl refl refl refl
    refl
core_ranks good c n (of_cgl loads_start) w g m =
    level w (world_after (core_kind n (of_cgl loads_start)) n w) n
    (view_after (core_kind n (of_cgl loads_start)) w (w.views n) (answer (core_kind n (of_cgl loads_start)) w)) refl refl refl refl refl
    refl
core_ranks good c n (of_cgl (loads_heap a)) w g m =
    level w (world_after (core_kind n (of_cgl (loads_heap a))) n w) n
    (view_after (core_kind n (of_cgl (loads_heap a))) w (w.views n) (answer (core_kind n (of_cgl (loads_heap a))) w)) refl refl refl refl
    refl refl
core_ranks good c n (of_cgl (stores_heap a x)) w g m =
    level w (world_after (core_kind n (of_cgl (stores_heap a x))) n w) n
    (view_after (core_kind n (of_cgl (stores_heap a x))) w (w.views n) (answer (core_kind n (of_cgl (stores_heap a x))) w)) refl refl refl
    refl refl refl
core_ranks good c n (of_cgl (stores_clock t)) w g m =
    level w (world_after (core_kind n (of_cgl (stores_clock t))) n w) n
    (view_after (core_kind n (of_cgl (stores_clock t))) w (w.views n) (answer (core_kind n (of_cgl (stores_clock t))) w)) refl refl refl
    refl refl refl
core_ranks good c n (of_cgl frees_lock) w g m =
    level w (world_after (core_kind n (of_cgl frees_lock)) n w) n
    (view_after (core_kind n (of_cgl frees_lock)) w (w.views n) (answer (core_kind n (of_cgl frees_lock)) w)) refl refl refl refl refl refl
core_ranks good c n (of_cgl (loads_undo a)) w g m =
    level w (world_after (core_kind n (of_cgl (loads_undo a))) n w) n
    (view_after (core_kind n (of_cgl (loads_undo a))) w (w.views n) (answer (core_kind n (of_cgl (loads_undo a))) w)) refl refl refl refl
    refl refl
core_ranks good c n (of_cgl (loads_limit fix)) w g m =
    level w (world_after (core_kind n (of_cgl (loads_limit fix))) n w) n
    (view_after (core_kind n (of_cgl (loads_limit fix))) w (w.views n) (answer (core_kind n (of_cgl (loads_limit fix))) w)) refl refl refl
    refl refl refl
core_ranks good c n (of_cgl (stores_back a x)) w g m =
    level w (world_after (core_kind n (of_cgl (stores_back a x))) n w) n
    (view_after (core_kind n (of_cgl (stores_back a x))) w (w.views n) (answer (core_kind n (of_cgl (stores_back a x))) w)) refl refl refl
    refl refl refl
core_ranks good c n (of_tml tml_begins) w g m =
    level w (world_after (core_kind n (of_tml tml_begins)) n w) n
    (view_after (core_kind n (of_tml tml_begins)) w (w.views n) (answer (core_kind n (of_tml tml_begins)) w)) refl refl refl refl refl refl
core_ranks good c n (of_tml (tml_loads a)) w g m =
    level w (world_after (core_kind n (of_tml (tml_loads a))) n w) n
    (view_after (core_kind n (of_tml (tml_loads a))) w (w.views n) (answer (core_kind n (of_tml (tml_loads a))) w)) refl refl refl refl refl
    refl
core_ranks good c n (of_tml tml_agains) w g m =
    level w (world_after (core_kind n (of_tml tml_agains)) n w) n
    (view_after (core_kind n (of_tml tml_agains)) w (w.views n) (answer (core_kind n (of_tml tml_agains)) w)) refl refl refl refl refl refl
core_ranks good c n (of_tml (tml_writes start)) w g m =
    level w (world_after (core_kind n (of_tml (tml_writes start))) n w) n
    (view_after (core_kind n (of_tml (tml_writes start))) w (w.views n) (answer (core_kind n (of_tml (tml_writes start))) w)) refl refl refl
    refl refl refl
core_ranks good c n (of_tml (tml_stores a x)) w g m =
    level w (world_after (core_kind n (of_tml (tml_stores a x))) n w) n
    (view_after (core_kind n (of_tml (tml_stores a x))) w (w.views n) (answer (core_kind n (of_tml (tml_stores a x))) w)) refl refl refl
    refl refl refl
core_ranks good c n (of_tml (tml_commits t)) w g m =
    level w (world_after (core_kind n (of_tml (tml_commits t))) n w) n
    (view_after (core_kind n (of_tml (tml_commits t))) w (w.views n) (answer (core_kind n (of_tml (tml_commits t))) w)) refl refl refl refl
    refl refl
core_ranks good c n (of_orec orec_begins) w g m =
    by-without_fence (core_kind n (of_orec orec_begins)) n w (sparing.orec_begins good c n w g m.1)
    (orec.orec_begins-ranks good c n (without_fence w) (orec-world good c (without_fence w) n g.core m.1.runs) m.1)
core_ranks good c n (of_orec (orec_samples r a)) w g m =
    by-without_fence (core_kind n (of_orec (orec_samples r a))) n w (sparing.orec_samples good c n r a w g m.1)
    (orec.orec_samples-ranks good c n r a (without_fence w) (orec-world good c (without_fence w) n g.core m.1.has.runs) m.1)
core_ranks good c n (of_orec (orec_loads a)) w g m =
    by-without_fence (core_kind n (of_orec (orec_loads a))) n w (sparing.orec_loads good c n a w g m.1)
    (orec.orec_loads-ranks good c n a (without_fence w) (orec-world good c (without_fence w) n g.core m.1.0.has.runs) m.1.0)
core_ranks good c n (of_orec (orec_confirms r)) w g m =
    by-without_fence (core_kind n (of_orec (orec_confirms r))) n w (sparing.orec_confirms good c n r w g m.1)
    (orec.orec_confirms-ranks good c n r (without_fence w) (orec-world good c (without_fence w) n g.core m.1.opens.has.runs) m.1)
core_ranks good c n (of_orec (orec_clocks todo)) w g m =
    by-without_fence (core_kind n (of_orec (orec_clocks todo))) n w (sparing.orec_clocks good c n todo w g m.1)
    (orec.orec_clocks-ranks good c n todo (without_fence w) (orec-world good c (without_fence w) n g.core m.1.opens.has.runs) m.1)
core_ranks good c n (of_orec orec_clocks_all) w g m =
    by-without_fence (core_kind n (of_orec orec_clocks_all)) n w (sparing.orec_clocks_all good c n w g m.1)
    (orec.orec_clocks_all-ranks good c n (without_fence w) (orec-world good c (without_fence w) n g.core m.1.opens.has.runs) m.1)
core_ranks good c n (of_orec (orec_passes r b)) w g m =
    by-without_fence (core_kind n (of_orec (orec_passes r b))) n w (sparing.orec_passes good c n r b w g m.1)
    (orec.orec_passes-ranks good c n r b (without_fence w) (orec-world good c (without_fence w) n g.core m.1.has.runs) m.1)
core_ranks good c n (of_orec (orec_lasts r b)) w g m =
    by-without_fence (core_kind n (of_orec (orec_lasts r b))) n w (sparing.orec_lasts good c n r b w g m.1)
    (orec.orec_lasts-ranks good c n r b (without_fence w) (orec-world good c (without_fence w) n g.core m.1.opens.has.runs) m.1)
core_ranks good c n (of_orec (orec_looks r)) w g m =
    by-without_fence (core_kind n (of_orec (orec_looks r))) n w (sparing.orec_looks good c n r w g m.1)
    (orec.orec_looks-ranks good c n r (without_fence w) (orec-world good c (without_fence w) n g.core m.1.runs) m.1)
core_ranks good c n (of_orec orec_limits) w g m =
    by-without_fence (core_kind n (of_orec orec_limits)) n w (sparing.orec_limits good c n w g m.1)
    (orec.orec_limits-ranks good c n (without_fence w) (orec-world good c (without_fence w) n g.core m.1.runs) m.1)
core_ranks good c n (of_orec (orec_locks r version)) w g m =
    by-without_fence (core_kind n (of_orec (orec_locks r version))) n w (sparing.orec_locks good c n r version w g m.1)
    (orec.orec_locks-ranks good c n r version (without_fence w) (orec-world good c (without_fence w) n g.core m.1.opens.has.runs) m.1)
core_ranks good c n (of_orec (orec_commits start writes back)) w g m =
    by-without_fence (core_kind n (of_orec (orec_commits start writes back))) n w (sparing.orec_commits good c n start writes back w g m.1)
    (orec.orec_commits-ranks good c n start writes back m.0 (without_fence w) (orec-world good c (without_fence w) n g.core m.1.0.has.runs)
    m.1.0)
core_ranks good c n (of_orec (orec_writes_back a x)) w g m =
    by-without_fence (core_kind n (of_orec (orec_writes_back a x))) n w (sparing.orec_writes_back good c n a x w g m.1)
    (orec.orec_writes_back-ranks good c n a x (without_fence w) (orec-world good c (without_fence w) n g.core m.1.has.runs) m.1)
core_ranks good c n (of_orec (orec_times r version)) w g m =
    by-without_fence (core_kind n (of_orec (orec_times r version))) n w (sparing.orec_times good c n r version w g m.1)
    (orec.orec_times-ranks good c n r version (without_fence w) (orec-world good c (without_fence w) n g.core m.1.gives.has.runs) m.1)
core_ranks good c n (of_orec (orec_olds r version)) w g m =
    by-without_fence (core_kind n (of_orec (orec_olds r version))) n w (sparing.orec_olds good c n r version w g m.1)
    (orec.orec_olds-ranks good c n r version (without_fence w) (orec-world good c (without_fence w) n g.core m.1.gives.has.runs) m.1)
core_ranks good c n (of_orec (orec_ups r version)) w g m =
    by-without_fence (core_kind n (of_orec (orec_ups r version))) n w (sparing.orec_ups good c n r version w g m.1)
    (orec.orec_ups-ranks good c n r version (without_fence w) (orec-world good c (without_fence w) n g.core m.1.gives.has.runs) m.1)
core_ranks good c n (of_orec (orec_own_loads a)) w g m =
    by-without_fence (core_kind n (of_orec (orec_own_loads a))) n w (sparing.orec_own_loads good c n a w g m.1)
    (orec.orec_own_loads-ranks good c n a (without_fence w) (orec-world good c (without_fence w) n g.core m.1.0.opens.has.runs) m.1.0)
core_ranks good c n (of_orec (orec_saves a)) w g m =
    by-without_fence (core_kind n (of_orec (orec_saves a))) n w (sparing.orec_saves good c n a w g m.1)
    (orec.orec_saves-ranks good c n a (without_fence w) (orec-world good c (without_fence w) n g.core m.1.0.opens.has.runs) m.1.0)
core_ranks good c n (of_orec (orec_places a x)) w g m =
    by-without_fence (core_kind n (of_orec (orec_places a x))) n w (sparing.orec_places good c n a x w g m.1)
    (orec.orec_places-ranks good c n a x (without_fence w) (orec-world good c (without_fence w) n g.core m.1.opens.has.runs) m.1)
core_ranks good c n (of_orec (orec_restores a x)) w g m =
    by-without_fence (core_kind n (of_orec (orec_restores a x))) n w (sparing.orec_restores good c n a x w g m.1)
    (orec.orec_restores-ranks good c n a x (without_fence w) (orec-world good c (without_fence w) n g.core m.1.has.runs) m.1)
core_ranks good c n (of_orec (orec_raises_clock least)) w g m =
    by-without_fence (core_kind n (of_orec (orec_raises_clock least))) n w (sparing.orec_raises_clock good c n least w g m.1)
    (orec.orec_raises_clock-ranks good c n least (without_fence w) (orec-world good c (without_fence w) n g.core m.1.has.runs) m.1)
core_ranks good c n (of_ring ring_begins) w g m =
    level w (world_after (core_kind n (of_ring ring_begins)) n w) n
    (view_after (core_kind n (of_ring ring_begins)) w (w.views n) (answer (core_kind n (of_ring ring_begins)) w)) refl refl refl refl refl
    refl
core_ranks good c n (of_ring (ring_loads a)) w g m =
    level w (world_after (core_kind n (of_ring (ring_loads a))) n w) n
    (view_after (core_kind n (of_ring (ring_loads a))) w (w.views n) (answer (core_kind n (of_ring (ring_loads a))) w)) refl refl refl refl
    refl refl
core_ranks good c n (of_ring ring_looks) w g m =
    level w (world_after (core_kind n (of_ring ring_looks)) n w) n
    (view_after (core_kind n (of_ring ring_looks)) w (w.views n) (answer (core_kind n (of_ring ring_looks)) w)) refl refl refl refl refl
    refl
core_ranks good c n (of_ring (ring_words k i j)) w g m =
    level w (world_after (core_kind n (of_ring (ring_words k i j))) n w) n
    (view_after (core_kind n (of_ring (ring_words k i j))) w (w.views n) (answer (core_kind n (of_ring (ring_words k i j))) w)) refl refl
    refl refl refl refl
core_ranks good c n (of_ring (ring_agains k)) w g m =
    level w (world_after (core_kind n (of_ring (ring_agains k))) n w) n
    (view_after (core_kind n (of_ring (ring_agains k))) w (w.views n) (answer (core_kind n (of_ring (ring_agains k))) w)) refl refl refl
    refl refl refl
core_ranks good c n (of_ring ring_moves) w g m =
    level w (world_after (core_kind n (of_ring ring_moves)) n w) n
    (view_after (core_kind n (of_ring ring_moves)) w (w.views n) (answer (core_kind n (of_ring ring_moves)) w)) refl refl refl refl refl
    refl
core_ranks good c n (of_ring ring_locks) w g m =
    level w (world_after (core_kind n (of_ring ring_locks)) n w) n
    (view_after (core_kind n (of_ring ring_locks)) w (w.views n) (answer (core_kind n (of_ring ring_locks)) w)) refl refl refl refl refl
    refl
core_ranks good c n (of_ring ring_ticks) w g m =
    level w (world_after (core_kind n (of_ring ring_ticks)) n w) n
    (view_after (core_kind n (of_ring ring_ticks)) w (w.views n) (answer (core_kind n (of_ring ring_ticks)) w)) refl refl refl refl refl
    refl
core_ranks good c n (of_ring (ring_slots k i j ws)) w g m =
    level w (world_after (core_kind n (of_ring (ring_slots k i j ws))) n w) n
    (view_after (core_kind n (of_ring (ring_slots k i j ws))) w (w.views n) (answer (core_kind n (of_ring (ring_slots k i j ws))) w)) refl
    refl refl refl refl refl
core_ranks good c n (of_ring (ring_enters t)) w g m =
    level w (world_after (core_kind n (of_ring (ring_enters t))) n w) n
    (view_after (core_kind n (of_ring (ring_enters t))) w (w.views n) (answer (core_kind n (of_ring (ring_enters t))) w)) refl refl refl
    refl refl refl
core_ranks good c n (of_ring (ring_writes a x)) w g m =
    level w (world_after (core_kind n (of_ring (ring_writes a x))) n w) n
    (view_after (core_kind n (of_ring (ring_writes a x))) w (w.views n) (answer (core_kind n (of_ring (ring_writes a x))) w)) refl refl refl
    refl refl refl
core_ranks good c n (of_ring (ring_dones t)) w g m =
    level w (world_after (core_kind n (of_ring (ring_dones t))) n w) n
    (view_after (core_kind n (of_ring (ring_dones t))) w (w.views n) (answer (core_kind n (of_ring (ring_dones t))) w)) refl refl refl refl
    refl refl
core_ranks good c n (of_ring ring_frees) w g m =
    level w (world_after (core_kind n (of_ring ring_frees)) n w) n
    (view_after (core_kind n (of_ring ring_frees)) w (w.views n) (answer (core_kind n (of_ring ring_frees)) w)) refl refl refl refl refl
    refl
core_ranks good c n look_grants w g m = level w (world_after (core_kind n look_grants) n w) n (view_after (core_kind n look_grants) w (w.views n) (answer (core_kind n look_grants) w)) refl refl refl refl refl refl
core_ranks good c n move_grants w g m = level w (world_after (core_kind n move_grants) n w) n (view_after (core_kind n move_grants) w (w.views n) (answer (core_kind n move_grants) w)) refl refl refl refl refl refl
core_ranks good c n (direct_releases q time) w g m = by-without_fence (core_kind n (direct_releases q time)) n w (sparing.direct_releases good c n q time w g m.1) (given_back good c n q time (without_fence w) g.core m.1)
core_ranks good c n (direct_ups q version) w g m = by-without_fence (core_kind n (direct_ups q version)) n w (sparing.direct_ups good c n q version w g m.1) (given_up good c n q version (without_fence w) g.core m.1)

pub core_stamps_lem : (good : (ℕ → ℕ) → Type 0) (c : Config) → CoreStamps good c
core_stamps_lem good c n s w g m r = stamp-grows (orec_projection w) (orec_projection (world_after (core_kind n s) n w)) r (core_ranks good c n s w g m r)
