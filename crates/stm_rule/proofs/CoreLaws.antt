-- Every list of steps of the core keeps the rule.
use Rattle.std.proofs.Common.{◌≡◌, ◌≢◌, ◌<◌, ℕ, zero, suc, List, [], ◌∷◌, true, replicate, drop, refl, sym, subst, arith}
use Rattle.stm_model.specs.declared.alg.Alg.TheVariants.{Tml, RingSw}
use Rattle.stm_model.specs.declared.config.Config.{Config}
use Rattle.rule_base.specs.Lemmas.EncodingLemmas.{fenced-none}
use Rattle.rule_base.specs.Bridge.{of_words}
use Rattle.rule_base.specs.Lemmas.BridgeLemmas.{words_of-zeros}
use Rattle.rule_base.specs.Lemmas.HistoryLemmas.{inside-more, small-more}
use Rattle.stm_model.specs.Configs.{IsConfig}
use Rattle.rule_base.specs.History.{member}
use Rattle.rule_base.specs.StepKinds.{StepKind, StepOutcome, Advances, world_after}
use Rattle.rule_base.specs.declared.views.View.{View}
use Rattle.rule_base.specs.World.{World}
use Rattle.rule_seq.specs.CglRuns.CglStep.{acquires_lock, loads_start, loads_heap, stores_heap, stores_clock, frees_lock, loads_undo, loads_limit, stores_back}
use Rattle.rule_seq.specs.TmlRuns.TmlStep.{tml_begins, tml_loads, tml_agains, tml_writes, tml_stores, tml_commits}
use Rattle.stm_rule.specs.Runs.CoreRuns.{CoreStep, core_kind, CoreMay, CoreOpens, CoreCommits, CoreInstalls, CorePromotes, CoreRings, one_of_each, two_by_ring}
use Rattle.stm_rule.specs.Runs.CoreRuns.CoreStep.{announces, loads_gate, departs, aims, takes_gate, checks, reopens, settles, evens_clock, stores_base, stores_done, installs, of_cgl, of_tml, looks_gate, seizes, grants, direct_loads, direct_stores, direct_commits, direct_raises_clock, direct_ups, returns, fences, fence_loads, fence_stores, fence_commits, unfences, hears, loads_end, of_ring, look_grants, move_grants, of_orec, orec_grants, orec_grants_all, direct_releases}
use Rattle.rule_orec.specs.OrecRuns.OrecStep.{orec_begins, orec_samples, orec_loads, orec_confirms, orec_clocks, orec_clocks_all, orec_passes, orec_lasts, orec_looks, orec_limits, orec_locks, orec_commits, orec_writes_back, orec_times, orec_olds, orec_ups, orec_own_loads, orec_saves, orec_places, orec_restores, orec_raises_clock}
use Rattle.stm_rule.proofs.KindLaws.FencingLaws as fencing
use Rattle.stm_rule.proofs.KindLaws.GivingLaws as giving
use Rattle.stm_rule.proofs.KindLaws.Lifted as lifted
use Rattle.rule_ring.specs.SlotFilter.{slot_filter}
use Rattle.rule_ring.specs.RingSteps.{ring_word, ring_again, ring_slot}
use Rattle.rule_ring.specs.RingRuns.RingStep.{ring_begins, ring_loads, ring_looks, ring_words, ring_agains, ring_moves, ring_locks, ring_ticks, ring_slots, ring_enters, ring_writes, ring_dones, ring_frees}
use Rattle.stm_rule.specs.Product.{Invariant}
use Rattle.stm_rule.proofs.Taken.{◌▸◌, may-install}
use Rattle.stm_rule.proofs.Opens.{invariant_opens, opening_lies}

-- what every law of a kind gives
kept_by : {Rule : World → Type 0} {kind : StepKind} {shows : World → View → ℕ → Type 0} {n : ℕ} {w : World} → StepOutcome Rule kind shows n w → Rule (world_after kind n w) × Advances w (world_after kind n w)
kept_by o = (o.rule, o.advances)

pub one_step : (good : (ℕ → ℕ) → Type 0) (c : Config) (n : ℕ) (s : CoreStep) (w : World) → Invariant good c w
    → CoreMay good c n s (w.views n) → Invariant good c (world_after (core_kind n s) n w) × Advances w (world_after (core_kind n s) n w)
one_step good c n announces w r m = kept_by (lifted.announces good c n m.0 w r m.1)
one_step good c n loads_gate w r m = kept_by (lifted.loads_gate good c n w r m.1)
one_step good c n departs w r m = kept_by (lifted.departs good c n w r m.1)
one_step good c n aims w r m = kept_by (lifted.aims good c n w r m.1)
one_step good c n (takes_gate word) w r m = kept_by (lifted.takes_gate good c n word m.0 w r m.1)
one_step good c n (checks other) w r m = kept_by (lifted.checks good c n other w r m.1)
one_step good c n (reopens fence alg) w r m = kept_by (lifted.reopens good c n fence alg w r m.1)
one_step good c n settles w r m = kept_by (lifted.settles good c n w r m.1)
one_step good c n (evens_clock time) w r m = kept_by (lifted.evens_clock good c n time m.0 w r m.1)
one_step good c n (stores_base time) w r m = kept_by (lifted.stores_base good c n time w r m.1)
one_step good c n (stores_done time) w r m = kept_by (lifted.stores_done good c n time w r m.1)
one_step good c n (installs fence alg) w r m = kept_by (lifted.installs good c n fence alg w r m.1)
one_step good c n (of_cgl acquires_lock) w r m = kept_by (lifted.acquires_lock good c n w r m.1)
one_step good c n (of_cgl loads_start) w r m = kept_by (lifted.loads_start good c n w r m.1)
one_step good c n (of_cgl (loads_heap a)) w r m = kept_by (lifted.loads_heap good c n a w r m.1)
one_step good c n (of_cgl (stores_heap a x)) w r m = kept_by (lifted.stores_heap good c n a x w r m.1)
one_step good c n (of_cgl (stores_clock t)) w r m = kept_by (lifted.stores_clock good c n t m.0 w r m.1)
one_step good c n (of_cgl frees_lock) w r m = kept_by (lifted.frees_lock good c n w r m.1)
one_step good c n (of_cgl (loads_undo a)) w r m = kept_by (lifted.loads_undo good c n a w r m.1)
one_step good c n (of_cgl (loads_limit fix)) w r m = kept_by (lifted.loads_limit good c n fix w r m.1)
one_step good c n (of_cgl (stores_back a x)) w r m = kept_by (lifted.stores_back good c n a x w r m.1)
one_step good c n (of_tml tml_begins) w r m = kept_by (lifted.tml_begins good c n w r m.1)
one_step good c n (of_tml (tml_loads a)) w r m = kept_by (lifted.tml_loads good c n a w r m.1)
one_step good c n (of_tml tml_agains) w r m = kept_by (lifted.tml_agains good c n w r m.1)
one_step good c n (of_tml (tml_writes start)) w r m = kept_by (lifted.tml_writes good c n start m.0 w r m.1)
one_step good c n (of_tml (tml_stores a x)) w r m = kept_by (lifted.tml_stores good c n a x w r m.1)
one_step good c n (of_tml (tml_commits t)) w r m = kept_by (lifted.tml_commits good c n t m.0 w r m.1)
one_step good c n (of_ring ring_begins) w r m = kept_by (lifted.ring_begins good c n w r m.1)
one_step good c n (of_ring (ring_loads a)) w r m = kept_by (lifted.ring_loads good c n a w r m.1)
one_step good c n (of_ring ring_looks) w r m = kept_by (lifted.ring_looks good c n w r m.1)
one_step good c n (of_ring (ring_words k e i)) w r m =
    subst (λ (q : ℕ). Invariant good c (world_after (ring_word q e i) n w) × Advances w (world_after (ring_word q e i) n w)) (sym m.1.0)
    (kept_by (lifted.ring_words good c n e i w r m.1.1))
one_step good c n (of_ring (ring_agains k)) w r m =
    subst (λ (q : ℕ). Invariant good c (world_after (ring_again q) n w) × Advances w (world_after (ring_again q) n w)) (sym m.1.0)
    (kept_by (lifted.ring_agains good c n w r m.1.1))
one_step good c n (of_ring ring_moves) w r m = kept_by (lifted.ring_moves good c n w r m.1)
one_step good c n (of_ring ring_locks) w r m = kept_by (lifted.ring_locks good c n w r m.1)
one_step good c n (of_ring ring_ticks) w r m = kept_by (lifted.ring_ticks good c n w r m.1)
one_step good c n (of_ring (ring_slots k e i ws)) w r m =
    subst (λ (q : ℕ).
    Invariant good c (world_after (ring_slot slot_filter q e i ws) n w) × Advances w (world_after (ring_slot slot_filter q e i ws) n w))
    (sym m.1.0) (kept_by (lifted.ring_slots good c n e i ws w r m.1.1))
one_step good c n (of_ring (ring_enters t)) w r m = kept_by (lifted.ring_enters good c n t m.0 w r m.1)
one_step good c n (of_ring (ring_writes a x)) w r m = kept_by (lifted.ring_writes good c n a x w r m.1)
one_step good c n (of_ring (ring_dones t)) w r m = kept_by (lifted.ring_dones good c n t w r m.1)
one_step good c n (of_ring ring_frees) w r m = kept_by (lifted.ring_frees good c n w r m.1)
one_step good c n (of_orec orec_begins) w g m = kept_by (lifted.orec_begins good c n w g m.1)
one_step good c n (of_orec (orec_samples r a)) w g m = kept_by (lifted.orec_samples good c n r a w g m.1)
one_step good c n (of_orec (orec_loads a)) w g m = kept_by (lifted.orec_loads good c n a w g m.1)
one_step good c n (of_orec (orec_confirms r)) w g m = kept_by (lifted.orec_confirms good c n r w g m.1)
one_step good c n (of_orec (orec_clocks todo)) w g m = kept_by (lifted.orec_clocks good c n todo w g m.1)
one_step good c n (of_orec orec_clocks_all) w g m = kept_by (lifted.orec_clocks_all good c n w g m.1)
one_step good c n (of_orec (orec_passes r b)) w g m = kept_by (lifted.orec_passes good c n r b w g m.1)
one_step good c n (of_orec (orec_lasts r b)) w g m = kept_by (lifted.orec_lasts good c n r b w g m.1)
one_step good c n (of_orec (orec_looks r)) w g m = kept_by (lifted.orec_looks good c n r w g m.1)
one_step good c n (of_orec orec_limits) w g m = kept_by (lifted.orec_limits good c n w g m.1)
one_step good c n (of_orec (orec_locks r version)) w g m = kept_by (lifted.orec_locks good c n r version w g m.1)
one_step good c n (of_orec (orec_commits start writes back)) w g m = kept_by (lifted.orec_commits good c n start writes back m.0 w g m.1)
one_step good c n (of_orec (orec_writes_back a x)) w g m = kept_by (lifted.orec_writes_back good c n a x w g m.1)
one_step good c n (of_orec (orec_times r version)) w g m = kept_by (lifted.orec_times good c n r version w g m.1)
one_step good c n (of_orec (orec_olds r version)) w g m = kept_by (lifted.orec_olds good c n r version w g m.1)
one_step good c n (of_orec (orec_ups r version)) w g m = kept_by (lifted.orec_ups good c n r version w g m.1)
one_step good c n (of_orec (orec_own_loads a)) w g m = kept_by (lifted.orec_own_loads good c n a w g m.1)
one_step good c n (of_orec (orec_saves a)) w g m = kept_by (lifted.orec_saves good c n a w g m.1)
one_step good c n (of_orec (orec_places a x)) w g m = kept_by (lifted.orec_places good c n a x w g m.1)
one_step good c n (of_orec (orec_restores a x)) w g m = kept_by (lifted.orec_restores good c n a x w g m.1)
one_step good c n (of_orec (orec_raises_clock least)) w g m = kept_by (lifted.orec_raises_clock good c n least m.0 w g m.1)
one_step good c n looks_gate w r m = kept_by (lifted.looks_gate good c n w r m.1)
one_step good c n (seizes fence alg) w r m = kept_by (lifted.seizes good c n fence alg w r m.1)
one_step good c n grants w r m = kept_by (lifted.grants good c n w r m.1)
one_step good c n look_grants w r m = kept_by (lifted.look_grants good c n w r m.1)
one_step good c n move_grants w r m = kept_by (lifted.move_grants good c n w r m.1)
one_step good c n (orec_grants q b) w r m = kept_by (lifted.orec_grants good c n q b w r m.1)
one_step good c n orec_grants_all w r m = kept_by (lifted.orec_grants_all good c n w r m.1)
one_step good c n (direct_releases q t) w r m = kept_by (lifted.direct_releases good c n q t w r m.1)
one_step good c n (direct_loads a) w r m = kept_by (lifted.direct_loads good c n a w r m.1)
one_step good c n (direct_stores a x) w r m = kept_by (lifted.direct_stores good c n a x w r m.1)
one_step good c n (direct_commits alg t) w r m = kept_by (lifted.direct_commits good c n alg t m.0 w r m.1)
one_step good c n (direct_raises_clock least) w r m = kept_by (lifted.direct_raises_clock good c n least m.0 w r m.1)
one_step good c n (direct_ups q version) w r m = kept_by (lifted.direct_ups good c n q version w r m.1)
one_step good c n (returns fence alg) w r m = kept_by (lifted.returns good c n fence alg w r m.1)
one_step good c n (fences from count alg) w r m = kept_by (fencing.fences good c n from count alg w r m.1)
one_step good c n (fence_loads a) w r m = kept_by (fencing.fence_loads good c n a w r m.1)
one_step good c n (fence_stores a x) w r m = kept_by (fencing.fence_stores good c n a x w r m.1)
one_step good c n (fence_commits alg t) w r m = kept_by (giving.fence_commits good c n alg t w r m.1)
one_step good c n (unfences alg) w r m = kept_by (giving.unfences good c n alg w r m.1)
one_step good c n hears w r m = kept_by (lifted.hears good c n w r m.1)
one_step good c n loads_end w r m = kept_by (lifted.loads_end good c n w r m.1)

pub core_opens_lem : (good : List ℕ → Type 0) (c : Config) → IsConfig c → good (replicate c.words 0) → CoreOpens (of_words good c.words) c
core_opens_lem good c config start = (invariant_opens (of_words good c.words) c config (subst good (sym (words_of-zeros c.words)) start), opening_lies c)

pub core_commits_lem : (good : (ℕ → ℕ) → Type 0) (c : Config) → CoreCommits good c
core_commits_lem good c a x callers clock inside small keeps = (
  (callers, refl)
      ▸ (callers, refl)
      ▸ (callers, record { phase = refl; algorithm = refl; free = refl })
      ▸ (callers, record { has = record { phase = refl; algorithm = refl; taken = refl }; unstarted = refl })
      ▸ (callers, (record { has = record { phase = refl; algorithm = refl; taken = refl }; started = refl; inside = inside }, fenced-none a))
      ▸ (callers, (record { has = record { phase = refl; algorithm = refl; taken = refl }; started = refl; inside = inside; small = small; undoable = λ e. absurd cc }, fenced-none a))
      ▸ (callers, record { has = record { phase = refl; algorithm = refl; taken = refl }; started = refl; free = refl; time = refl; limit = omega arith; wrote = λ e. cc; keeps = keeps })
      ▸ (callers, record { has = record { phase = refl; algorithm = refl; taken = refl }; unstored = refl })
      ▸ (callers, record { phase = refl; reopened = λ e. refl; unlocked = refl; disowned = refl; unwritten = refl; uncommitted = refl; unentered = λ e. refl })
      ▸ tt,
  refl,
)

pub core_promotes_lem : (good : (ℕ → ℕ) → Type 0) (c : Config) → CorePromotes good c
core_promotes_lem good c x inside small keeps = (
  may-install good c c.records Tml (drop 11 (one_of_each good (record c { callers = 1; clock = 0 }) x)) (
      (omega arith, record { runs = record { phase = refl; algorithm = refl; plain = refl }; outside = refl; unwritten = refl })
      ▸ (omega arith, (record { has = record { runs = record { phase = refl; algorithm = refl; plain = refl }; inside = refl }; inside = inside }, fenced-none 0))
      ▸ (omega arith, record { has = record { runs = record { phase = refl; algorithm = refl; plain = refl }; inside = refl }; reads = refl })
      ▸ (omega arith, record { has = record { runs = record { phase = refl; algorithm = refl; plain = refl }; inside = refl }; reads = refl; start = refl; limit = omega arith; settled = refl; not_quiescent = refl })
      ▸ (omega arith, (record { has = record { runs = record { phase = refl; algorithm = refl; plain = refl }; inside = refl }; writes = refl; inside = inside; small = small }, fenced-none 0))
      ▸ (
        omega arith,
        record {
          has = record { runs = record { phase = refl; algorithm = refl; plain = refl }; inside = refl };
          writes = refl;
          not_quiescent = refl;
          time = refl;
          limit = omega arith;
          wrote = λ e. cc;
          keeps = keeps 0;
        },
      )
      ▸ (omega arith, record { phase = refl; reopened = λ e. refl; unlocked = refl; disowned = refl; unwritten = refl; uncommitted = refl; unentered = λ e. refl })
      ▸ (omega arith, refl)
      ▸ (omega arith, refl)
      ▸ (omega arith, record { runs = record { phase = refl; algorithm = refl; plain = refl }; outside = refl; unwritten = refl })
      ▸ (omega arith, refl)
      ▸ (omega arith, record { phase = refl; named = refl; spared = refl; free = refl })
      ▸ (omega arith, record { has = record { runs = record { phase = refl; algorithm = refl; plain = refl }; inside = refl }; reads = refl; unlocked = refl; holds = refl; quiet = λ k l o. absurd (o (omega arith)) })
      ▸ (omega arith, (record { granted = refl; inside = inside }, fenced-none 0))
      ▸ (omega arith, (record { granted = refl; inside = inside; small = small }, fenced-none 0))
      ▸ (omega arith, record { phase = refl; granted = refl; named = refl; time = refl; limit = omega arith; wrote = λ e. cc; keeps = keeps x })
      ▸ (omega arith, record { closing = λ e. absurd cc; quiescent = refl; time = refl })
      ▸ (omega arith, record { closing = λ e. absurd cc; quiescent = refl; time = refl })
      ▸ (
        omega arith,
        record {
          phase = refl;
          holds = refl;
          named = refl;
          spared = refl;
          marked = λ e. (refl, refl);
          unstored = refl;
          unlocked = refl;
          disowned = refl;
          unwritten = refl;
          uncommitted = refl;
          plain = λ e. absurd cc;
        },
      )
      ▸ (omega arith, record { phase = refl; reopened = λ e. refl; unlocked = refl; disowned = refl; unwritten = refl; uncommitted = refl; unentered = λ e. refl })
      ▸ (omega arith, refl)
      ▸ (omega arith, refl)
      ▸ (omega arith, record { phase = refl; aimed = refl })
      ▸ (omega arith, record { phase = refl; reopened = λ e. absurd cc; unlocked = refl; disowned = refl; unwritten = refl; uncommitted = refl; unentered = λ e. refl })
      ▸ (omega arith, record { holds = refl; quiet = λ k l o. absurd (o (omega arith)) })
      ▸ (omega arith, record { closing = λ e. refl; quiescent = refl; time = refl })
      ▸ (omega arith, record { closing = λ e. refl; quiescent = refl; time = refl })
      ▸ (omega arith, record { phase = refl; guarded = refl; ungiven = refl; quiescent = refl; rebased = refl; completed = refl; even = λ e. absurd cc })
      ▸ (omega arith, record { phase = refl; absent = refl; named = refl; guarded = refl; ungiven = refl; unentered = refl })
      ▸ (omega arith, refl)
      ▸ (omega arith, refl)
      ▸ (omega arith, record { phase = refl; algorithm = refl; free = refl })
      ▸ (omega arith, record { has = record { phase = refl; algorithm = refl; taken = refl }; unstarted = refl })
      ▸ (omega arith, (record { has = record { phase = refl; algorithm = refl; taken = refl }; started = refl; inside = inside }, fenced-none 0))
      ▸ (omega arith, (record { has = record { phase = refl; algorithm = refl; taken = refl }; started = refl; revocable = refl; fresh = refl }, fenced-none 0))
      ▸ (omega arith, record { has = record { phase = refl; algorithm = refl; taken = refl }; started = refl })
      ▸ (omega arith, (record { has = record { phase = refl; algorithm = refl; taken = refl }; started = refl; inside = inside; small = omega arith; undoable = λ e. refl }, fenced-none 0))
      ▸ (omega arith, record { has = record { phase = refl; algorithm = refl; taken = refl }; started = refl; logged = refl; value = refl })
      ▸ (omega arith, record { has = record { phase = refl; algorithm = refl; taken = refl }; started = refl })
      ▸ (omega arith, (record { has = record { phase = refl; algorithm = refl; taken = refl }; started = refl; inside = inside; small = small; undoable = λ e. absurd cc }, fenced-none 0))
      ▸ (omega arith, record { has = record { phase = refl; algorithm = refl; taken = refl }; started = refl; free = refl; time = refl; limit = omega arith; wrote = λ e. cc; keeps = keeps x })
      ▸ (omega arith, record { has = record { phase = refl; algorithm = refl; taken = refl }; unstored = refl })
      ▸ (omega arith, record { phase = refl; reopened = λ e. refl; unlocked = refl; disowned = refl; unwritten = refl; uncommitted = refl; unentered = λ e. refl })
      ▸ tt
      ),
  refl,
  refl,
)

pub core_installs_lem : (good : (ℕ → ℕ) → Type 0) (c : Config) → CoreInstalls good c
core_installs_lem good c = (
  (omega arith, refl)
      ▸ (omega arith, refl)
      ▸ (omega arith, record { phase = refl; aimed = refl })
      ▸ (omega arith, record { phase = refl; reopened = λ e. absurd cc; unlocked = refl; disowned = refl; unwritten = refl; uncommitted = refl; unentered = λ e. refl })
      ▸ (omega arith, record { holds = refl; other = λ e. cc })
      ▸ (omega arith, record { holds = refl; quiet = seen })
      ▸ (omega arith, record { closing = λ e. refl; quiescent = refl; time = refl })
      ▸ (omega arith, record { closing = λ e. refl; quiescent = refl; time = refl })
      ▸ (omega arith, record { phase = refl; guarded = refl; ungiven = refl; quiescent = refl; rebased = refl; completed = refl; even = λ e. absurd cc })
      ▸ tt,
  record { closing = refl; checked = seen },
  record { quiescent = refl; rebased = refl; completed = refl },
)
  where
    -- the other of two callers is caller 1
    seen : (k : ℕ) → k < 2 → k ≢ 0 → member (1 ∷ []) k ≡ true
    seen zero low other = absurd (other refl)
    seen (suc zero) low other = refl
    seen (suc (suc k)) low other = absurd (omega arith)

pub core_rings_lem : (good : (ℕ → ℕ) → Type 0) (c : Config) → CoreRings good c
core_rings_lem good c x inside small keeps = (
  may-install good c c.records RingSw (drop 11 (two_by_ring c x)) (
      (omega arith, record { runs = record { phase = refl; algorithm = refl; plain = refl }; unlocked = refl })
      ▸ (omega arith, (record { has = record { runs = record { phase = refl; algorithm = refl; plain = refl }; inside = refl }; inside = inside; settled = refl }, fenced-none 0))
      ▸ (omega arith, record { has = record { runs = record { phase = refl; algorithm = refl; plain = refl }; inside = refl } })
      ▸ (omega arith, record { has = record { runs = record { phase = refl; algorithm = refl; plain = refl }; inside = refl }; free = refl })
      ▸ (omega arith, record { has = record { runs = record { phase = refl; algorithm = refl; plain = refl }; inside = refl }; taken = refl; unentered = refl })
      ▸ (omega arith, record { has = record { runs = record { phase = refl; algorithm = refl; plain = refl }; inside = refl } })
      ▸ (
        omega arith,
        (
          refl,
          record {
            turn = record
                { has = record { runs = record { phase = refl; algorithm = refl; plain = refl }; inside = refl }; taken = refl; unentered = refl };
            ticked = refl;
            checked = refl;
            next = refl;
            index = refl;
            low = omega arith;
            same = λ l. absurd (omega arith);
          },
        ),
      )
      ▸ (
        omega arith,
        (
          refl,
          record {
            turn = record
                { has = record { runs = record { phase = refl; algorithm = refl; plain = refl }; inside = refl }; taken = refl; unentered = refl };
            ticked = refl;
            checked = refl;
            next = refl;
            index = refl;
            low = omega arith;
            same = λ l. refl;
          },
        ),
      )
      ▸ (
        omega arith,
        (
          refl,
          record {
            turn = record
                { has = record { runs = record { phase = refl; algorithm = refl; plain = refl }; inside = refl }; taken = refl; unentered = refl };
            ticked = refl;
            checked = refl;
            next = refl;
            index = refl;
            low = omega arith;
            same = λ l. refl;
          },
        ),
      )
      ▸ (
        omega arith,
        (
          refl,
          record {
            turn = record
                { has = record { runs = record { phase = refl; algorithm = refl; plain = refl }; inside = refl }; taken = refl; unentered = refl };
            ticked = refl;
            checked = refl;
            next = refl;
            index = refl;
            low = omega arith;
            same = λ l. refl;
          },
        ),
      )
      ▸ (
        omega arith,
        (
          refl,
          record {
            turn = record
                { has = record { runs = record { phase = refl; algorithm = refl; plain = refl }; inside = refl }; taken = refl; unentered = refl };
            ticked = refl;
            checked = refl;
            next = refl;
            index = refl;
            low = omega arith;
            same = λ l. refl;
          },
        ),
      )
      ▸ (
        omega arith,
        (
          refl,
          record {
            turn = record
                { has = record { runs = record { phase = refl; algorithm = refl; plain = refl }; inside = refl }; taken = refl; unentered = refl };
            ticked = refl;
            checked = refl;
            next = refl;
            index = refl;
            low = omega arith;
            same = λ l. refl;
          },
        ),
      )
      ▸ (
        omega arith,
        (
          refl,
          record {
            turn = record
                { has = record { runs = record { phase = refl; algorithm = refl; plain = refl }; inside = refl }; taken = refl; unentered = refl };
            ticked = refl;
            checked = refl;
            next = refl;
            index = refl;
            low = omega arith;
            same = λ l. refl;
          },
        ),
      )
      ▸ (
        omega arith,
        (
          refl,
          record {
            turn = record
                { has = record { runs = record { phase = refl; algorithm = refl; plain = refl }; inside = refl }; taken = refl; unentered = refl };
            ticked = refl;
            checked = refl;
            next = refl;
            index = refl;
            low = omega arith;
            same = λ l. refl;
          },
        ),
      )
      ▸ (
        omega arith,
        (
          refl,
          record {
            turn = record
                { has = record { runs = record { phase = refl; algorithm = refl; plain = refl }; inside = refl }; taken = refl; unentered = refl };
            ticked = refl;
            checked = refl;
            next = refl;
            index = refl;
            low = omega arith;
            same = λ l. refl;
          },
        ),
      )
      ▸ (
        omega arith,
        (
          refl,
          record {
            turn = record
                { has = record { runs = record { phase = refl; algorithm = refl; plain = refl }; inside = refl }; taken = refl; unentered = refl };
            ticked = refl;
            checked = refl;
            next = refl;
            index = refl;
            low = omega arith;
            same = λ l. refl;
          },
        ),
      )
      ▸ (
        omega arith,
        (
          refl,
          record {
            turn = record
                { has = record { runs = record { phase = refl; algorithm = refl; plain = refl }; inside = refl }; taken = refl; unentered = refl };
            ticked = refl;
            checked = refl;
            next = refl;
            index = refl;
            low = omega arith;
            same = λ l. refl;
          },
        ),
      )
      ▸ (
        omega arith,
        (
          refl,
          record {
            turn = record
                { has = record { runs = record { phase = refl; algorithm = refl; plain = refl }; inside = refl }; taken = refl; unentered = refl };
            ticked = refl;
            checked = refl;
            next = refl;
            index = refl;
            low = omega arith;
            same = λ l. refl;
          },
        ),
      )
      ▸ (
        omega arith,
        (
          refl,
          record {
            turn = record
                { has = record { runs = record { phase = refl; algorithm = refl; plain = refl }; inside = refl }; taken = refl; unentered = refl };
            ticked = refl;
            checked = refl;
            next = refl;
            index = refl;
            low = omega arith;
            same = λ l. refl;
          },
        ),
      )
      ▸ (
        omega arith,
        (
          refl,
          record {
            turn = record
                { has = record { runs = record { phase = refl; algorithm = refl; plain = refl }; inside = refl }; taken = refl; unentered = refl };
            ticked = refl;
            checked = refl;
            next = refl;
            index = refl;
            low = omega arith;
            same = λ l. refl;
          },
        ),
      )
      ▸ (
        omega arith,
        (
          refl,
          record {
            turn = record
                { has = record { runs = record { phase = refl; algorithm = refl; plain = refl }; inside = refl }; taken = refl; unentered = refl };
            ticked = refl;
            checked = refl;
            next = refl;
            index = refl;
            low = omega arith;
            same = λ l. refl;
          },
        ),
      )
      ▸ (
        omega arith,
        (
          refl,
          record {
            turn = record
                { has = record { runs = record { phase = refl; algorithm = refl; plain = refl }; inside = refl }; taken = refl; unentered = refl };
            ticked = refl;
            checked = refl;
            next = refl;
            index = refl;
            low = omega arith;
            same = λ l. refl;
          },
        ),
      )
      ▸ (
        omega arith,
        (
          record {
            turn = record
                { has = record { runs = record { phase = refl; algorithm = refl; plain = refl }; inside = refl }; taken = refl; unentered = refl };
            ticked = refl;
            checked = refl;
            full = refl;
            time = refl;
            limit = omega arith;
            settled = refl;
            free = refl;
            wrote = λ e. cc;
            writes_inside = inside-more c.words (record { at = 0; value = x }) [] inside (λ a e. absurd cc);
            writes_small = small-more (record { at = 0; value = x }) [] small (λ a d l. l);
            keeps = keeps 0;
          },
          λ b e. fenced-none b,
        ),
      )
      ▸ (omega arith, record { entered = record { runs = record { phase = refl; algorithm = refl; plain = refl }; committed = refl; unfinished = refl }; owed = refl; value = refl })
      ▸ (omega arith, record { entered = record { runs = record { phase = refl; algorithm = refl; plain = refl }; committed = refl; unfinished = refl }; time = refl; written = λ a. refl; free = refl })
      ▸ (omega arith, record { runs = record { phase = refl; algorithm = refl; plain = refl }; taken = refl; finished = λ e. refl })
      ▸ (omega arith, record { phase = refl; reopened = λ e. refl; unlocked = refl; disowned = refl; unwritten = refl; uncommitted = refl; unentered = λ e. refl })
      ▸ (omega arith, refl)
      ▸ (omega arith, refl)
      ▸ (omega arith, record { runs = record { phase = refl; algorithm = refl; plain = refl }; unlocked = refl })
      ▸ (omega arith, (record { has = record { runs = record { phase = refl; algorithm = refl; plain = refl }; inside = refl }; inside = inside; settled = refl }, fenced-none 0))
      ▸ (omega arith, refl)
      ▸ (omega arith, record { phase = refl; named = refl; spared = refl; free = refl })
      ▸ (omega arith, record { holds = refl; quiet = λ k l o. absurd (o (omega arith)) })
      ▸ (
        omega arith,
        record {
          has = record { runs = record { phase = refl; algorithm = refl; plain = refl }; inside = refl };
          quiescent = refl;
          limit = omega arith;
          unlocked = refl;
          uncommitted = refl;
          unwritten = refl;
        },
      )
      ▸ (omega arith, (record { granted = refl; inside = inside; small = small }, fenced-none 0))
      ▸ (omega arith, record { phase = refl; granted = refl; named = refl; time = refl; limit = omega arith; wrote = λ e. cc; keeps = keeps x })
      ▸ (omega arith, record { closing = λ e. absurd cc; quiescent = refl; time = refl })
      ▸ (omega arith, record { closing = λ e. absurd cc; quiescent = refl; time = refl })
      ▸ (
        omega arith,
        record {
          phase = refl;
          holds = refl;
          named = refl;
          spared = refl;
          marked = λ e. (refl, refl);
          unstored = refl;
          unlocked = refl;
          disowned = refl;
          unwritten = refl;
          uncommitted = refl;
          plain = λ e. absurd cc;
        },
      )
      ▸ (omega arith, record { phase = refl; reopened = λ e. refl; unlocked = refl; disowned = refl; unwritten = refl; uncommitted = refl; unentered = λ e. refl })
      ▸ tt
      ),
  refl,
)
