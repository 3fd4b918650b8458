-- While a caller has a range out of the transactions, no other deed is in it.
use Rattle.std.proofs.Common.{◌≡◌, ℕ, ◌+◌, [], ◌∷◌, true, false, refl, sym, subst, ap, ◌∙◌, arith}
use Rattle.stm_model.specs.declared.config.Config.{Config}
use Rattle.rule_base.specs.declared.views.FenceView.{FenceView}
use Rattle.rule_base.specs.declared.views.View.{View}
use Rattle.rule_base.specs.Encodings.{fence_of, fence_owner}
use Rattle.rule_base.specs.Notes.{after_seat_load, learned_view}
use Rattle.rule_base.specs.Lemmas.PutLemmas.{put-all}
use Rattle.rule_base.specs.StepKinds.{answer, view_after}
use Rattle.rule_base.specs.World.{World, put}
use Rattle.rule_seq.specs.CglRuns.CglStep.{acquires_lock, loads_start, loads_heap, stores_heap, stores_clock, frees_lock, loads_undo, loads_limit, stores_back}
use Rattle.rule_seq.specs.TmlRuns.TmlStep.{tml_begins, tml_loads, tml_agains, tml_writes, tml_stores, tml_commits}
use Rattle.rule_ring.specs.RingRuns.RingStep.{ring_begins, ring_loads, ring_looks, ring_words, ring_agains, ring_moves, ring_locks, ring_ticks, ring_slots, ring_enters, ring_writes, ring_dones, ring_frees}
use Rattle.rule_orec.specs.OrecRuns.OrecStep.{orec_begins, orec_samples, orec_loads, orec_confirms, orec_clocks, orec_clocks_all, orec_passes, orec_lasts, orec_looks, orec_limits, orec_locks, orec_commits, orec_writes_back, orec_times, orec_olds, orec_ups, orec_own_loads, orec_saves, orec_places, orec_restores, orec_raises_clock}
use Rattle.stm_rule.specs.Runs.CoreRuns.{CoreStep, core_kind, CoreMay}
use Rattle.stm_rule.specs.Runs.CoreRuns.CoreStep.{announces, loads_gate, departs, aims, takes_gate, checks, reopens, settles, evens_clock, stores_base, stores_done, installs, of_cgl, of_tml, looks_gate, seizes, grants, direct_loads, direct_stores, direct_commits, direct_raises_clock, direct_ups, returns, fences, fence_loads, fence_stores, fence_commits, unfences, hears, loads_end, of_ring, look_grants, move_grants, of_orec, orec_grants, orec_grants_all, direct_releases}
use Rattle.stm_rule.specs.Runs.NoteRuns.{Shared, Deed, note_at, after_deed, SharedRule, MayDo}
use Rattle.stm_rule.specs.Runs.NoteRuns.Deed.{steps, tells, learns, gathers}
use Rattle.stm_rule.specs.Privatization.{IsBeside, LeavesAlone, is_direct, gives_back, AllLeaveAlone, RangeIsPrivate}
use Rattle.stm_rule.specs.Product.{Invariant}
use Rattle.stm_rule.proofs.KindLaws.Sparing.{spared}
use Rattle.stm_rule.proofs.NoteLaws.{one_deed}

no : {P : Type 0} → true ≡ false → P
no e = absurd (let f : true ≡ false = e in cc)

module _ (good : (ℕ → ℕ) → Type 0) (c : Config) where
  -- but for the holder's direct loads and stores no step is in the range
  beside : (m : ℕ) (s : CoreStep) (w : World) → Invariant good c w → CoreMay good c m s (w.views m) → ((w.views m).fence.holds ≡ true → is_direct (steps s) ≡ false) → IsBeside (fence_of w.gate) (core_kind m s).place
  beside m announces w g may plain = tt
  beside m loads_gate w g may plain = tt
  beside m departs w g may plain = tt
  beside m aims w g may plain = tt
  beside m (takes_gate word) w g may plain = tt
  beside m (checks other) w g may plain = tt
  beside m (reopens fence alg) w g may plain = tt
  beside m settles w g may plain = tt
  beside m (evens_clock time) w g may plain = tt
  beside m (stores_base time) w g may plain = tt
  beside m (stores_done time) w g may plain = tt
  beside m (installs fence alg) w g may plain = tt
  beside m (of_cgl acquires_lock) w g may plain = tt
  beside m (of_cgl loads_start) w g may plain = tt
  beside m (of_cgl (loads_heap a)) w g may plain = spared good c m w a g may.1.0.has.phase may.1.1
  beside m (of_cgl (stores_heap a x)) w g may plain = spared good c m w a g may.1.0.has.phase may.1.1
  beside m (of_cgl (stores_clock t)) w g may plain = tt
  beside m (of_cgl frees_lock) w g may plain = tt
  beside m (of_cgl (loads_undo a)) w g may plain = spared good c m w a g may.1.0.has.phase may.1.1
  beside m (of_cgl (loads_limit k)) w g may plain = tt
  beside m (of_cgl (stores_back a x)) w g may plain = g.fence.apart m a may.1.has.phase (grind (arith, may.1.logged, may.1.has.taken))
  beside m (of_tml tml_begins) w g may plain = tt
  beside m (of_tml (tml_loads a)) w g may plain = spared good c m w a g may.1.0.has.runs.phase may.1.1
  beside m (of_tml tml_agains) w g may plain = tt
  beside m (of_tml (tml_writes start)) w g may plain = tt
  beside m (of_tml (tml_stores a x)) w g may plain = spared good c m w a g may.1.0.has.runs.phase may.1.1
  beside m (of_tml (tml_commits t)) w g may plain = tt
  beside m (of_ring ring_begins) w g may plain = tt
  beside m (of_ring (ring_loads a)) w g may plain = spared good c m w a g may.1.0.has.runs.phase may.1.1
  beside m (of_ring ring_looks) w g may plain = tt
  beside m (of_ring (ring_words ring e i)) w g may plain = tt
  beside m (of_ring (ring_agains ring)) w g may plain = tt
  beside m (of_ring ring_moves) w g may plain = tt
  beside m (of_ring ring_locks) w g may plain = tt
  beside m (of_ring ring_ticks) w g may plain = tt
  beside m (of_ring (ring_slots ring e i ws)) w g may plain = tt
  beside m (of_ring (ring_enters t)) w g may plain = tt
  beside m (of_ring (ring_writes a x)) w g may plain = g.fence.apart m a may.1.entered.runs.phase (grind (arith, may.1.owed, may.1.entered.committed))
  beside m (of_ring (ring_dones t)) w g may plain = tt
  beside m (of_ring ring_frees) w g may plain = tt
  beside m looks_gate w g may plain = tt
  beside m (seizes fence alg) w g may plain = tt
  beside m grants w g may plain = tt
  beside m look_grants w g may plain = tt
  beside m move_grants w g may plain = tt
  beside m (of_orec orec_begins) w g may plain = tt
  beside m (of_orec (orec_samples r a)) w g may plain = tt
  beside m (of_orec (orec_loads a)) w g may plain = spared good c m w a g may.1.0.has.runs.phase may.1.1
  beside m (of_orec (orec_confirms r)) w g may plain = tt
  beside m (of_orec (orec_clocks todo)) w g may plain = tt
  beside m (of_orec orec_clocks_all) w g may plain = tt
  beside m (of_orec (orec_passes r b)) w g may plain = tt
  beside m (of_orec (orec_lasts r b)) w g may plain = tt
  beside m (of_orec (orec_looks r)) w g may plain = tt
  beside m (of_orec orec_limits) w g may plain = tt
  beside m (of_orec (orec_locks r version)) w g may plain = tt
  beside m (of_orec (orec_commits start writes back)) w g may plain = tt
  beside m (of_orec (orec_writes_back a x)) w g may plain = g.fence.apart m a may.1.has.runs.phase (grind (arith, may.1.owed, may.1.has.inside))
  beside m (of_orec (orec_times r version)) w g may plain = tt
  beside m (of_orec (orec_olds r version)) w g may plain = tt
  beside m (of_orec (orec_ups r version)) w g may plain = tt
  beside m (of_orec (orec_own_loads a)) w g may plain = spared good c m w a g may.1.0.opens.has.runs.phase may.1.1
  beside m (of_orec (orec_saves a)) w g may plain = spared good c m w a g may.1.0.opens.has.runs.phase may.1.1
  beside m (of_orec (orec_places a x)) w g may plain = g.fence.apart m a may.1.opens.has.runs.phase (grind (arith, may.1.undoable, may.1.opens.has.inside))
  beside m (of_orec (orec_restores a x)) w g may plain = g.fence.apart m a may.1.has.runs.phase (grind (arith, may.1.logged, may.1.has.inside))
  beside m (of_orec (orec_raises_clock least)) w g may plain = tt
  beside m (orec_grants r b) w g may plain = tt
  beside m orec_grants_all w g may plain = tt
  beside m (direct_releases r time) w g may plain = tt
  beside m (direct_loads a) w g may plain = spared good c m w a g (g.core.install.promoted m may.1.0.granted).1 may.1.1
  beside m (direct_stores a x) w g may plain = spared good c m w a g (g.core.install.promoted m may.1.0.granted).1 may.1.1
  beside m (direct_commits alg time) w g may plain = tt
  beside m (direct_raises_clock least) w g may plain = tt
  beside m (direct_ups r version) w g may plain = tt
  beside m (returns fence alg) w g may plain = tt
  beside m (fences from count alg) w g may plain = tt
  beside m (fence_loads a) w g may plain = absurd (no (plain may.1.holds))
  beside m (fence_stores a x) w g may plain = absurd (no (plain may.1.holds))
  beside m (fence_commits alg time) w g may plain = tt
  beside m (unfences alg) w g may plain = tt
  beside m hears w g may plain = tt
  beside m loads_end w g may plain = tt

  -- and all but the last step of a give-back leave the holder its range
  still : (m : ℕ) (s : CoreStep) (w : World) → Invariant good c w → CoreMay good c m s (w.views m) → (w.views m).fence.holds ≡ true → gives_back (steps s) ≡ false
      → ((view_after (core_kind m s) w (w.views m) (answer (core_kind m s) w)).fence.holds ≡ true) × ((view_after (core_kind m s) w (w.views m) (answer (core_kind m s) w)).fence.number ≡ (w.views m).fence.number)
  still m announces w g may has kept = (has, refl)
  still m loads_gate w g may has kept = (has, refl)
  still m departs w g may has kept = (has, refl)
  still m aims w g may has kept = (has, refl)
  still m (takes_gate word) w g may has kept = (has, refl)
  still m (checks other) w g may has kept = (has, refl)
  still m (reopens fence alg) w g may has kept = (has, refl)
  still m settles w g may has kept = (has, refl)
  still m (evens_clock time) w g may has kept = (has, refl)
  still m (stores_base time) w g may has kept = (has, refl)
  still m (stores_done time) w g may has kept = (has, refl)
  still m (installs fence alg) w g may has kept = (has, refl)
  still m (of_cgl acquires_lock) w g may has kept = (has, refl)
  still m (of_cgl loads_start) w g may has kept = (has, refl)
  still m (of_cgl (loads_heap a)) w g may has kept = (has, refl)
  still m (of_cgl (stores_heap a x)) w g may has kept = (has, refl)
  still m (of_cgl (stores_clock t)) w g may has kept = (has, refl)
  still m (of_cgl frees_lock) w g may has kept = (has, refl)
  still m (of_cgl (loads_undo a)) w g may has kept = (has, refl)
  still m (of_cgl (loads_limit k)) w g may has kept = (has, refl)
  still m (of_cgl (stores_back a x)) w g may has kept = (has, refl)
  still m (of_tml tml_begins) w g may has kept = (has, refl)
  still m (of_tml (tml_loads a)) w g may has kept = (has, refl)
  still m (of_tml tml_agains) w g may has kept = (has, refl)
  still m (of_tml (tml_writes start)) w g may has kept = (has, refl)
  still m (of_tml (tml_stores a x)) w g may has kept = (has, refl)
  still m (of_tml (tml_commits t)) w g may has kept = (has, refl)
  still m (of_ring ring_begins) w g may has kept = (has, refl)
  still m (of_ring (ring_loads a)) w g may has kept = (has, refl)
  still m (of_ring ring_looks) w g may has kept = (has, refl)
  still m (of_ring (ring_words ring e i)) w g may has kept = (has, refl)
  still m (of_ring (ring_agains ring)) w g may has kept = (has, refl)
  still m (of_ring ring_moves) w g may has kept = (has, refl)
  still m (of_ring ring_locks) w g may has kept = (has, refl)
  still m (of_ring ring_ticks) w g may has kept = (has, refl)
  still m (of_ring (ring_slots ring e i ws)) w g may has kept = (has, refl)
  still m (of_ring (ring_enters t)) w g may has kept = (has, refl)
  still m (of_ring (ring_writes a x)) w g may has kept = (has, refl)
  still m (of_ring (ring_dones t)) w g may has kept = (has, refl)
  still m (of_ring ring_frees) w g may has kept = (has, refl)
  still m looks_gate w g may has kept = (has, refl)
  still m (seizes fence alg) w g may has kept = (has, refl)
  still m grants w g may has kept = (has, refl)
  still m look_grants w g may has kept = (has, refl)
  still m move_grants w g may has kept = (has, refl)
  still m (of_orec orec_begins) w g may has kept = (has, refl)
  still m (of_orec (orec_samples r a)) w g may has kept = (has, refl)
  still m (of_orec (orec_loads a)) w g may has kept = (has, refl)
  still m (of_orec (orec_confirms r)) w g may has kept = (has, refl)
  still m (of_orec (orec_clocks todo)) w g may has kept = (has, refl)
  still m (of_orec orec_clocks_all) w g may has kept = (has, refl)
  still m (of_orec (orec_passes r b)) w g may has kept = (has, refl)
  still m (of_orec (orec_lasts r b)) w g may has kept = (has, refl)
  still m (of_orec (orec_looks r)) w g may has kept = (has, refl)
  still m (of_orec orec_limits) w g may has kept = (has, refl)
  still m (of_orec (orec_locks r version)) w g may has kept = (has, refl)
  still m (of_orec (orec_commits start writes back)) w g may has kept = (has, refl)
  still m (of_orec (orec_writes_back a x)) w g may has kept = (has, refl)
  still m (of_orec (orec_times r version)) w g may has kept = (has, refl)
  still m (of_orec (orec_olds r version)) w g may has kept = (has, refl)
  still m (of_orec (orec_ups r version)) w g may has kept = (has, refl)
  still m (of_orec (orec_own_loads a)) w g may has kept = (has, refl)
  still m (of_orec (orec_saves a)) w g may has kept = (has, refl)
  still m (of_orec (orec_places a x)) w g may has kept = (has, refl)
  still m (of_orec (orec_restores a x)) w g may has kept = (has, refl)
  still m (of_orec (orec_raises_clock least)) w g may has kept = (has, refl)
  still m (orec_grants r b) w g may has kept = (has, refl)
  still m orec_grants_all w g may has kept = (has, refl)
  still m (direct_releases r time) w g may has kept = (has, refl)
  still m (direct_loads a) w g may has kept = (has, refl)
  still m (direct_stores a x) w g may has kept = (has, refl)
  still m (direct_commits alg time) w g may has kept = (has, refl)
  still m (direct_raises_clock least) w g may has kept = (has, refl)
  still m (direct_ups r version) w g may has kept = (has, refl)
  still m (returns fence alg) w g may has kept = (has, refl)
  still m (fences from count alg) w g may has kept =
      let none : fence_of w.gate ≡ 0 = g.core.gate.guarded m (g.core.gate.closing m may.1.phase) ∙ may.1.free in
      let own : fence_owner 0 ≡ 1 + m = ap fence_owner (sym none) ∙ (g.fence.mine m has).0 in
      absurd (omega arith)
  still m (fence_loads a) w g may has kept = (has, refl)
  still m (fence_stores a x) w g may has kept = (has, refl)
  still m (fence_commits alg time) w g may has kept = (has, refl)
  still m (unfences alg) w g may has kept = no kept
  still m hears w g may has kept = (has, refl)
  still m loads_end w g may has kept = (has, refl)

  -- who has the range is one caller
  one-holder : (m n : ℕ) (w : World) → Invariant good c w → (w.views m).fence.holds ≡ true → (w.views n).fence.holds ≡ true → m ≡ n
  one-holder m n w g a b = let p = (g.fence.mine m a).0 in let q = (g.fence.mine n b).0 in omega arith

  alone : (n m : ℕ) (d : Deed) (x : Shared) → SharedRule good c x → MayDo good c m d x → (x.world.views n).fence.holds ≡ true → (m ≡ n → is_direct d ≡ false) → LeavesAlone (x.world.views n).fence.number m d
  alone n m (steps s) x r may has plain = subst (λ k. IsBeside k (core_kind m s).place) (r.rule.fence.mine n has).1 (beside m s x.world r.rule may (λ held. plain (one-holder m n x.world r.rule held has)))
  alone n m tells x r may has plain = tt
  alone n m (learns i) x r may has plain = tt
  alone n m gathers x r may has plain = tt

  -- a caller's view changes, but not what it knows of its range
  same-fence : (n m : ℕ) (w : World) (v : View) → v.fence ≡ (w.views m).fence → (w.views n).fence.holds ≡ true → ((put w.views m v n).fence.holds ≡ true) × ((put w.views m v n).fence.number ≡ (w.views n).fence.number)
  same-fence n m w v own has =
      let same : (put w.views m v n).fence ≡ (w.views n).fence = put-all w.views m v (λ k u. u.fence ≡ (w.views k).fence) own (λ k d. refl) n in
      (ap (λ (f : FenceView). f.holds) same ∙ has, ap (λ (f : FenceView). f.number) same)

  -- the holder's range stands until it gives it back
  after : (n m : ℕ) (d : Deed) (x : Shared) → SharedRule good c x → MayDo good c m d x → (x.world.views n).fence.holds ≡ true → (m ≡ n → gives_back d ≡ false)
      → (((after_deed m d x).world.views n).fence.holds ≡ true) × (((after_deed m d x).world.views n).fence.number ≡ (x.world.views n).fence.number)
  after n m (steps s) x r may has kept = put-all vs m (view_after (core_kind m s) x.world (vs m) (answer (core_kind m s) x.world)) (λ k v. k ≡ n → (v.fence.holds ≡ true) × (v.fence.number ≡ (vs n).fence.number))
      (λ e. let t = still m s x.world r.rule may (subst (λ k. (vs k).fence.holds ≡ true) (sym e) has) (kept e) in (t.0, t.1 ∙ ap (λ k. (vs k).fence.number) e))
      (λ k d e. (subst (λ j. (vs j).fence.holds ≡ true) (sym e) has, ap (λ j. (vs j).fence.number) e)) n refl
    where
      vs : ℕ → View
      vs = x.world.views
  after n m tells x r may has kept = same-fence n m x.world (after_seat_load (x.world.views m)) refl has
  after n m (learns i) x r may has kept = same-fence n m x.world (learned_view (x.world.views m) (note_at x.notes i)) refl has
  after n m gathers x r may has kept = same-fence n m x.world (after_seat_load (x.world.views m)) refl has

  pub range_is_private_lem : RangeIsPrivate good c
  range_is_private_lem n [] x r a has keeps = tt
  range_is_private_lem n (d ∷ ds) x r a has keeps =
      let next = after n d.0 d.1 x r a.0 has keeps.0 in
      (alone n d.0 d.1 x r a.0 has, subst (λ k. AllLeaveAlone k n ds) next.1 (range_is_private_lem n ds (after_deed d.0 d.1 x) (one_deed good c d.0 d.1 x r a.0) a.1 next.0 keeps.1))
