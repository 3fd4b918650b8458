-- Each kind of step at the gate, of CGL and Serial and of TML leaves the fenced range alone.
use Rattle.std.proofs.Common.{◌≡◌, ℕ, ◌+◌, ◌<◌, List, [], Bool, true, false, refl, sym, subst, ap, ◌∙◌, arith}
use Rattle.std.specs.Prelude.{if◌then◌else◌, ◌==◌, ltb, ◌%◌}
use Rattle.std.proofs.lemmas.Bool.{eqb-true}
use Rattle.stm_model.specs.declared.alg.Alg.{Alg}
use Rattle.stm_model.specs.declared.config.Config.{Config}
use Rattle.stm_model.specs.declared.config.TheConstants.{CLOCK_LIMIT}
use Rattle.rule_base.specs.declared.entries.Cell.{Cell}
use Rattle.rule_base.specs.declared.views.Phase.{Phase}
use Rattle.rule_base.specs.declared.views.Phase.TheVariants.{Idle, Announced, Turned, Aiming, In, Closing}
use Rattle.rule_base.specs.declared.views.View.{View}
use Rattle.rule_base.specs.Encodings.{fence_of, fenced, gate_word, alg_of}
use Rattle.rule_base.specs.Lemmas.EncodingLemmas.{fence_of-gate, fence_of-open}
use Rattle.rule_base.specs.Fence.{without_fence, owes}
use Rattle.rule_base.specs.FenceLaws.{entry-apart}
use Rattle.rule_base.specs.GateLaws.{closed-fits, is-caller-at}
use Rattle.rule_base.specs.GateRule.{gate_projection}
use Rattle.rule_base.specs.GateSteps.{announce, CanAnnounce, load_gate, CanLoadGate, departed, depart, CanDepart, aim, CanAim, closed_at, take_gate, CanTakeGate, check, CanCheck, reopen, CanReopen, look_gate, CanLookGate, seized, seize, CanSeize, return_gate, CanReturn}
use Rattle.rule_base.specs.History.{touches}
use Rattle.rule_base.specs.Lemmas.HistoryLemmas.{touches-without}
use Rattle.rule_base.specs.InstallSteps.{settle, CanSettle, even_clock, CanEvenClock, store_base, store_done, CanMark, install, CanInstall}
use Rattle.rule_base.specs.Regime.{Regime}
use Rattle.rule_base.specs.Regime.Regime.{Running}
use Rattle.rule_base.specs.Lemmas.RegimeLemmas.{regime-inside}
use Rattle.rule_base.specs.RunProjection.{run_projection}
use Rattle.rule_base.specs.StepKinds.{view_after}
use Rattle.rule_base.specs.World.{World}
use Rattle.rule_seq.specs.AttemptLemmas.{busy-owned, busy-writer, busy-turn}
use Rattle.rule_seq.specs.CglSteps.{no_attempt, logged, fresh_lock, take_lock, CanTakeLock, load_start, CanLoadStart, load_heap, CanLoadHeap, store_heap, CanStoreHeap, cgl_entry, store_clock, CanStoreClock, free_lock, CanFreeLock, load_undo, CanLoadUndo, fixed_lock, load_limit, CanLoadLimit, store_back, CanStoreBack}
use Rattle.rule_seq.specs.TmlRule.{tml_part, TmlRule}
use Rattle.rule_seq.specs.TmlSteps.{fresh_tml, tml_begin, CanTmlBegin, tml_load, CanTmlLoad, tml_again, CanTmlAgain, tml_write, CanTmlWrite, tml_store, CanTmlStore, tml_commit, CanTmlCommit}
use Rattle.stm_rule.specs.Kinds.Lifting.{IsSpared, Spares, spared-load, spared-store, spared-heap, spared-gate, spared-entry}
use Rattle.stm_rule.specs.NoteSteps.{hear, load_end, CanLoadEnd}
use Rattle.stm_rule.specs.Product.{Runs, Invariant}

-- who departs is in no attempt
departed-out : (p : Phase) → departed p ≡ In → ⊥
departed-out Idle e = cc
departed-out Announced e = cc
departed-out Turned e = cc
departed-out Aiming e = cc
departed-out In e = cc
departed-out Closing e = cc

module _ (good : (ℕ → ℕ) → Type 0) (c : Config) (n : ℕ) where
  -- an address spared by the attempt's gate is outside the range
  pub spared : (w : World) (a : ℕ) → Invariant good c w → (w.views n).gate.phase ≡ In → IsSpared a (w.views n) → fenced (fence_of w.gate) a ≡ false
  spared w a g inside out = ap (λ k. fenced k a) (g.core.gate.spared n inside) ∙ out

  -- who is in no attempt owes nothing
  pub owes-out : (w : World) (a : ℕ) → Invariant good c w → ((w.views n).gate.phase ≡ In → ⊥) → owes (w.views n) a ≡ true → ⊥
  owes-out w a g out o = grind (arith, o, taken, writer, granted, inside, committed)
    where
      no : (b : Bool) → (b ≡ true → (w.views n).gate.phase ≡ In) → b ≡ false
      no true f = absurd (out (f refl))
      no false f = refl

      taken : (w.views n).lock.taken ≡ false
      taken = no (w.views n).lock.taken (λ e. g.core.lock.inside n e)

      writer : (w.views n).tml.writer ≡ false
      writer = no (w.views n).tml.writer (λ e. g.core.attempts.busy n (busy-writer (w.views n) e))

      granted : (w.views n).gate.granted ≡ false
      granted = no (w.views n).gate.granted (λ e. (g.core.install.promoted n e).1)

      inside : (w.views n).owned.inside ≡ false
      inside = no (w.views n).owned.inside (λ e. g.core.attempts.busy n (busy-owned (w.views n) e))

      committed : (w.views n).ring_commit.committed ≡ false
      committed = no (w.views n).ring_commit.committed (λ e. g.core.attempts.busy n (busy-turn (w.views n) e))

  -- who is in an attempt, or closes, is one of the callers
  fits : (w : World) → Invariant good c w → ((w.views n).gate.phase ≡ Idle → ⊥) → 1 + n < 256
  fits w g busy = closed-fits c.callers (gate_projection (without_fence w)) g.core.gate n (is-caller-at c.callers (gate_projection (without_fence w)) g.core.gate n busy)

  pub announces : (w : World) → Invariant good c w → CanAnnounce (w.views n) → Spares (announce n) n w
  announces w g may = record { world = refl; fence = refl; heap = λ b e. refl; word = λ b e. refl; own = refl; apart = λ a p o. absurd cc }

  pub loads_gate : (w : World) → Invariant good c w → CanLoadGate (w.views n) → Spares load_gate n w
  loads_gate w g may = record { world = refl; fence = refl; heap = λ b e. refl; word = λ b e. refl; own = refl; apart = λ a p o. absurd (owes-out w a g (λ e. let k : Announced ≡ In = sym may ∙ e in cc) o) }

  pub departs : (w : World) → Invariant good c w → CanDepart (w.views n) → Spares (depart n) n w
  departs w g may = record { world = refl; fence = refl; heap = λ b e. refl; word = λ b e. refl; own = refl; apart = λ a p o. absurd (departed-out (w.views n).gate.phase p) }

  pub aims : (w : World) → Invariant good c w → CanAim (w.views n) → Spares aim n w
  aims w g may = record { world = refl; fence = refl; heap = λ b e. refl; word = λ b e. refl; own = refl; apart = λ a p o. absurd (owes-out w a g (λ e. let k : Announced ≡ In = sym may ∙ e in cc) o) }

  pub takes_gate : (word : ℕ) → n < c.callers → (w : World) → Invariant good c w → CanTakeGate word (w.views n) → Spares (take_gate n word) n w
  takes_gate word low w g may =
      let same = kept (w.gate == word) (λ e. eqb-true w.gate word e) in
      record {
        world = spared-gate w n (to (w.gate == word)) (next (w.gate == word)) same;
        fence = same;
        heap = λ b e. refl;
        word = λ b e. refl;
        own = refl;
        apart = λ a p o. absurd (out (w.gate == word) p);
      }
    where
      next : Bool → View
      next b = record (view_after (take_gate n word) w (w.views n) w.gate) { gate = if b then closed_at word (w.views n).gate else record (w.views n).gate { phase = Turned } }

      to : Bool → ℕ
      to b = if b then gate_word (fence_of word) (1 + n) (alg_of word) else w.gate

      kept : (b : Bool) → (b ≡ true → w.gate ≡ word) → fence_of (to b) ≡ fence_of w.gate
      kept true e = fence_of-gate (fence_of word) (1 + n) (alg_of word) (closed-fits c.callers (gate_projection (without_fence w)) g.core.gate n low) ∙ ap fence_of (sym (e refl))
      kept false e = refl

      out : (b : Bool) → (next b).gate.phase ≡ In → ⊥
      out true p = cc
      out false p = cc

  pub checks : (k : ℕ) → (w : World) → Invariant good c w → CanCheck n k (w.views n) → Spares (check k) n w
  checks k w g may = record { world = refl; fence = refl; heap = λ b e. refl; word = λ b e. refl; own = refl; apart = λ a p o. g.fence.apart n a p o }

  pub reopens : (fence : ℕ) (alg : Alg) → (w : World) → Invariant good c w → CanReopen fence alg (w.views n) → Spares (reopen fence alg) n w
  reopens fence alg w g may =
      let same = fence_of-open fence alg ∙ sym (g.core.gate.guarded n (g.core.gate.closing n may.phase) ∙ may.guarded) in
      record {
        world = spared-gate w n (gate_word fence 0 alg) (view_after (reopen fence alg) w (w.views n) (gate_word fence 0 alg)) same;
        fence = same;
        heap = λ b e. refl;
        word = λ b e. refl;
        own = refl;
        apart = λ a p o. absurd cc;
      }

  pub looks_gate : (w : World) → Invariant good c w → CanLookGate (w.views n) → Spares look_gate n w
  looks_gate w g may = record { world = refl; fence = refl; heap = λ b e. refl; word = λ b e. refl; own = refl; apart = λ a p o. g.fence.apart n a p o }

  pub seizes : (fence : ℕ) (alg : Alg) → (w : World) → Invariant good c w → CanSeize fence alg (w.views n) → Spares (seize n fence alg) n w
  seizes fence alg w g may =
      let same = kept (w.gate == gate_word fence 0 alg) (λ e. eqb-true w.gate (gate_word fence 0 alg) e) in
      record {
        world = spared-gate w n (to (w.gate == gate_word fence 0 alg)) (next (w.gate == gate_word fence 0 alg)) same;
        fence = same;
        heap = λ b e. refl;
        word = λ b e. refl;
        own = refl;
        apart = λ a p o. still (w.gate == gate_word fence 0 alg) a p o;
      }
    where
      next : Bool → View
      next b = record (view_after (seize n fence alg) w (w.views n) w.gate) { gate = if b then seized (w.views n).gate else (w.views n).gate }

      to : Bool → ℕ
      to b = if b then gate_word fence (1 + n) alg else w.gate

      kept : (b : Bool) → (b ≡ true → w.gate ≡ gate_word fence 0 alg) → fence_of (to b) ≡ fence_of w.gate
      kept true e = fence_of-gate fence (1 + n) alg (fits w g (λ idle. let q : In ≡ Idle = sym may.phase ∙ idle in cc)) ∙ sym (g.core.gate.spared n may.phase ∙ may.spared)
      kept false e = refl

      still : (b : Bool) (a : ℕ) → (next b).gate.phase ≡ In → owes (next b) a ≡ true → fenced (fence_of w.gate) a ≡ false
      still true a p o = g.fence.apart n a p o
      still false a p o = g.fence.apart n a p o

  pub returns : (fence : ℕ) (alg : Alg) → (w : World) → Invariant good c w → CanReturn fence alg (w.views n) → Spares (return_gate fence alg) n w
  returns fence alg w g may =
      let same = fence_of-open fence alg ∙ sym (g.core.gate.guarded n may.holds ∙ may.spared) in
      record {
        world =
            spared-gate w n (gate_word fence 0 alg) (view_after (return_gate fence alg) w (w.views n) (gate_word fence 0 alg)) same;
        fence = same;
        heap = λ b e. refl;
        word = λ b e. refl;
        own = refl;
        apart = λ a p o. grind (arith, g.fence.apart n a p, o);
      }

  pub settles : (w : World) → Invariant good c w → CanSettle c.callers n (w.views n) → Spares settle n w
  settles w g may = record { world = refl; fence = refl; heap = λ b e. refl; word = λ b e. refl; own = refl; apart = λ a p o. g.fence.apart n a p o }

  pub evens_clock : (t : ℕ) → (w : World) → Invariant good c w → CanEvenClock t (w.views n) → Spares (even_clock t) n w
  evens_clock t w g may = record { world = refl; fence = refl; heap = λ b e. refl; word = λ b e. refl; own = refl; apart = λ a p o. g.fence.apart n a p o }

  pub stores_base : (t : ℕ) → (w : World) → Invariant good c w → CanMark t (w.views n) → Spares (store_base t) n w
  stores_base t w g may = record { world = refl; fence = refl; heap = λ b e. refl; word = λ b e. refl; own = refl; apart = λ a p o. g.fence.apart n a p o }

  pub stores_done : (t : ℕ) → (w : World) → Invariant good c w → CanMark t (w.views n) → Spares (store_done t) n w
  stores_done t w g may = record { world = refl; fence = refl; heap = λ b e. refl; word = λ b e. refl; own = refl; apart = λ a p o. g.fence.apart n a p o }

  pub installs : (fence : ℕ) (alg : Alg) → (w : World) → Invariant good c w → CanInstall fence alg (w.views n) → Spares (install n fence alg) n w
  installs fence alg w g may =
      let same = fence_of-gate fence (1 + n) alg (fits w g (λ idle. let q : Closing ≡ Idle = sym may.phase ∙ idle in cc))
      ∙ sym (g.core.gate.guarded n (g.core.gate.closing n may.phase) ∙ may.guarded) in
      record {
        world =
            spared-gate w n (gate_word fence (1 + n) alg) (view_after (install n fence alg) w (w.views n) (gate_word fence (1 + n) alg)) same;
        fence = same;
        heap = λ b e. refl;
        word = λ b e. refl;
        own = refl;
        apart = λ a p o. g.fence.apart n a p o;
      }

  pub hears : (w : World) → Invariant good c w → Unit {0} → Spares hear n w
  hears w g may = record { world = refl; fence = refl; heap = λ b e. refl; word = λ b e. refl; own = refl; apart = λ a p o. g.fence.apart n a p o }

  pub loads_end : (w : World) → Invariant good c w → CanLoadEnd (w.views n) → Spares load_end n w
  loads_end w g may = record { world = refl; fence = refl; heap = λ b e. refl; word = λ b e. refl; own = refl; apart = λ a p o. g.fence.apart n a p o }

  pub acquires_lock : (w : World) → Invariant good c w → CanTakeLock (w.views n) → Spares (take_lock n) n w
  acquires_lock w g may = record { world = refl; fence = refl; heap = λ b e. refl; word = λ b e. refl; own = refl; apart = λ a p o. go w g (w.lock == 0) a p o }
    where
      go : (w : World) → Invariant good c w → (b : Bool) (a : ℕ) → (w.views n).gate.phase ≡ In
          → owes (record (w.views n) {
            lock = if b then fresh_lock (w.views n).gate.algorithm else (w.views n).lock;
            attempt = if b then no_attempt else (w.views n).attempt;
          }) a ≡ true → fenced (fence_of w.gate) a ≡ false
      go w g true a p o = grind (arith, g.fence.apart n a p, o)
      go w g false a p o = g.fence.apart n a p o

  pub loads_start : (w : World) → Invariant good c w → CanLoadStart (w.views n) → Spares load_start n w
  loads_start w g may = record { world = refl; fence = refl; heap = λ b e. refl; word = λ b e. refl; own = refl; apart = λ a p o. g.fence.apart n a p o }

  pub loads_heap : (a : ℕ) → (w : World) → Invariant good c w → CanLoadHeap c.words a (w.views n) × IsSpared a (w.views n) → Spares (load_heap a) n w
  loads_heap a w g may =
      let out = spared w a g may.0.has.phase may.1 in
      record {
        world = spared-load w n a (view_after (load_heap a) w (w.views n)) out;
        fence = refl;
        heap = λ b e. refl;
        word = λ b e. refl;
        own = refl;
        apart = λ b p o. g.fence.apart n b p o;
      }

  pub stores_heap : (a x : ℕ) → (w : World) → Invariant good c w → CanStoreHeap c.words a x (w.views n) × IsSpared a (w.views n) → Spares (store_heap a x) n w
  stores_heap a x w g may =
      let out = spared w a g may.0.has.phase may.1 in
      record {
        world = spared-store w n a x (view_after (store_heap a x) w (w.views n) x) out;
        fence = refl;
        heap = λ b e. spared-heap (fence_of w.gate) a x w.heap out b e;
        word = λ b e. refl;
        own = refl;
        apart = λ b p o. grind (arith, g.fence.apart n b p, o, out);
      }

  pub stores_clock : (t : ℕ) → (w : World) → Invariant good c w → CanStoreClock good t (w.views n) → Spares (store_clock n t) n w
  stores_clock t w g may =
      record {
        world = spared-entry w n t (cgl_entry n t (w.views n)) (view_after (store_clock n t) w (w.views n) t) wrote;
        fence = refl;
        heap = λ b e. refl;
        word = λ b e. entry-apart (fence_of w.gate) w.history (cgl_entry n t (w.views n)) wrote b e;
        own = refl;
        apart = λ a p o. grind (arith, g.fence.apart n a p, o);
      }
    where
      wrote : (a : ℕ) → touches (w.views n).attempt.stores a ≡ true → fenced (fence_of w.gate) a ≡ false
      wrote a e = g.fence.apart n a may.has.phase (grind (arith, e, may.has.taken))

  pub frees_lock : (w : World) → Invariant good c w → CanFreeLock (w.views n) → Spares free_lock n w
  frees_lock w g may = record { world = refl; fence = refl; heap = λ b e. refl; word = λ b e. refl; own = refl; apart = λ a p o. grind (arith, g.fence.apart n a p, o) }

  pub loads_undo : (a : ℕ) → (w : World) → Invariant good c w → CanLoadUndo a (w.views n) × IsSpared a (w.views n) → Spares (load_undo a) n w
  loads_undo a w g may =
      let out = spared w a g may.0.has.phase may.1 in
      record {
        world = spared-load w n a (view_after (load_undo a) w (w.views n)) out;
        fence = refl;
        heap = λ b e. refl;
        word = λ b e. refl;
        own = refl;
        apart = λ b p o. grind (arith, g.fence.apart n b p, o, out);
      }

  pub loads_limit : (grants : Bool) → (w : World) → Invariant good c w → CanLoadLimit (w.views n) → Spares (load_limit grants) n w
  loads_limit grants w g may = record { world = refl; fence = refl; heap = λ b e. refl; word = λ b e. refl; own = refl; apart = λ a p o. go w g (if grants then ltb w.clock CLOCK_LIMIT else false) a p o }
    where
      go : (w : World) → Invariant good c w → (b : Bool) (a : ℕ) → (w.views n).gate.phase ≡ In
          → owes (record (w.views n) { lock = if b then fixed_lock (w.views n).lock else record (w.views n).lock { clocked = true } }) a
          ≡ true → fenced (fence_of w.gate) a ≡ false
      go w g true a p o = grind (arith, g.fence.apart n a p, o)
      go w g false a p o = g.fence.apart n a p o

  pub stores_back : (a x : ℕ) → (w : World) → Invariant good c w → CanStoreBack a x (w.views n) → Spares (store_back a x) n w
  stores_back a x w g may =
      let out = g.fence.apart n a may.has.phase (grind (arith, may.logged, may.has.taken)) in
      record {
        world = spared-store w n a x (view_after (store_back a x) w (w.views n) x) out;
        fence = refl;
        heap = λ b e. spared-heap (fence_of w.gate) a x w.heap out b e;
        word = λ b e. refl;
        own = refl;
        apart = λ b p o.
            grind (arith, g.fence.apart n b p, o, touches-without (w.views n).attempt.stores a b, touches-without (w.views n).lock.undo a b);
      }

  pub tml_begins : (w : World) → Invariant good c w → CanTmlBegin (w.views n) → Spares tml_begin n w
  tml_begins w g may = record { world = refl; fence = refl; heap = λ b e. refl; word = λ b e. refl; own = refl; apart = λ a p o. go w g (w.clock % 2 == 0) a p o }
    where
      go : (w : World) → Invariant good c w → (b : Bool) (a : ℕ) → (w.views n).gate.phase ≡ In
          → owes (record (w.views n) {
            attempt =
                if b then record { start = w.clock; reads = []; stores = []; entered = false } else (w.views n).attempt;
            tml = if b then fresh_tml else (w.views n).tml;
          }) a ≡ true → fenced (fence_of w.gate) a ≡ false
      go w g true a p o = grind (arith, g.fence.apart n a p, o)
      go w g false a p o = g.fence.apart n a p o

  pub tml_loads : (a : ℕ) → (w : World) → Invariant good c w → CanTmlLoad c.words a (w.views n) × IsSpared a (w.views n) → Spares (tml_load a) n w
  tml_loads a w g may =
      let out = spared w a g may.0.has.runs.phase may.1 in
      record {
        world = spared-load w n a (view_after (tml_load a) w (w.views n)) out;
        fence = refl;
        heap = λ b e. refl;
        word = λ b e. refl;
        own = refl;
        apart = λ b p o. go (w.views n).tml.writer refl b p o;
      }
    where
      go : (k : Bool) → (w.views n).tml.writer ≡ k → (b : ℕ) → (w.views n).gate.phase ≡ In
          → owes (record (w.views n) {
            attempt =
                if k then record (w.views n).attempt { reads = logged (w.views n).attempt a (w.heap a) } else (w.views n).attempt;
            tml = if k then (w.views n).tml else record (w.views n).tml { loaded = true; from = a; value = w.heap a };
          }) b ≡ true
          → fenced (fence_of w.gate) b ≡ false
      go true e b p o = g.fence.apart n b p o
      go false e b p o = g.fence.apart n b p o

  pub tml_agains : (w : World) → Invariant good c w → CanTmlAgain (w.views n) → Spares tml_again n w
  tml_agains w g may = record { world = refl; fence = refl; heap = λ b e. refl; word = λ b e. refl; own = refl; apart = λ a p o. g.fence.apart n a p o }

  pub tml_writes : (start : ℕ) → (w : World) → Invariant good c w → CanTmlWrite start (w.views n) → Spares (tml_write start) n w
  tml_writes start w g may = record { world = refl; fence = refl; heap = λ b e. refl; word = λ b e. refl; own = refl; apart = λ a p o. go (w.clock == start) a p o }
    where
      rule : TmlRule c.words (tml_part (run_projection (without_fence w)))
      rule =
          subst (λ (q : Regime). Runs c q (run_projection (without_fence w)))
          (regime-inside c (without_fence w) n g.core.gate g.core.install may.has.runs.phase may.has.runs.plain
          ∙ ap Running may.has.runs.algorithm) g.core.running

      none : (w.views n).attempt.stores ≡ []
      none = (rule.reader n may.has.inside).unstored may.reads

      go : (b : Bool) (a : ℕ) → (w.views n).gate.phase ≡ In
          → owes (record (w.views n) {
            tml = if b then record (w.views n).tml { writer = true } else (w.views n).tml;
            steps = if b then record (w.views n).steps { rises = (w.views n).steps.rises + 1 } else (w.views n).steps;
          }) a ≡ true
          → fenced (fence_of w.gate) a ≡ false
      go true a p o = grind (arith, g.fence.apart n a p, o, ap (λ (l : List Cell). touches l a) none)
      go false a p o = g.fence.apart n a p o

  pub tml_stores : (a x : ℕ) → (w : World) → Invariant good c w → CanTmlStore c.words a x (w.views n) × IsSpared a (w.views n) → Spares (tml_store a x) n w
  tml_stores a x w g may =
      let out = spared w a g may.0.has.runs.phase may.1 in
      record {
        world = spared-store w n a x (view_after (tml_store a x) w (w.views n) x) out;
        fence = refl;
        heap = λ b e. spared-heap (fence_of w.gate) a x w.heap out b e;
        word = λ b e. refl;
        own = refl;
        apart = λ b p o. grind (arith, g.fence.apart n b p, o, out);
      }

  pub tml_commits : (t : ℕ) → (w : World) → Invariant good c w → CanTmlCommit good t (w.views n) → Spares (tml_commit n t) n w
  tml_commits t w g may =
      record {
        world = spared-entry w n t (cgl_entry n t (w.views n)) (view_after (tml_commit n t) w (w.views n) t) wrote;
        fence = refl;
        heap = λ b e. refl;
        word = λ b e. entry-apart (fence_of w.gate) w.history (cgl_entry n t (w.views n)) wrote b e;
        own = refl;
        apart = λ a p o. grind (arith, g.fence.apart n a p, o);
      }
    where
      wrote : (a : ℕ) → touches (w.views n).attempt.stores a ≡ true → fenced (fence_of w.gate) a ≡ false
      wrote a e = g.fence.apart n a may.has.runs.phase (grind (arith, e, may.writes))
