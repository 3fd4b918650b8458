-- Each kind of step keeps the one rule.
use Rattle.std.proofs.Common.{◌≤◌, ◌≡◌, ◌≢◌, ℕ, zero, suc, ◌+◌, ◌<◌, List, ◌++◌, Bool, true, false, arith, inl, inr, refl, sym, subst, ap, ◌∙◌, le_refl}
use Rattle.std.specs.Prelude.{◌==◌, nat_le, if◌then◌else◌, ◌⊎◌}
use Rattle.stm_model.specs.declared.config.Config.{Config}
use Rattle.rule_base.specs.declared.views.Phase.{Phase}
use Rattle.rule_base.specs.declared.views.Phase.TheVariants.{Idle, Announced, Turned, Aiming, In, Closing}
use Rattle.rule_base.specs.declared.views.SeenHistory.{SeenHistory}
use Rattle.rule_base.specs.declared.views.View.{View}
use Rattle.rule_base.specs.GateSteps.{announce, CanAnnounce, load_gate, CanLoadGate, departed, depart, CanDepart}
use Rattle.rule_base.specs.Encodings.{holder_of}
use Rattle.stm_model.specs.Algorithms.{has_ring}
use Rattle.rule_base.specs.GateRule.{GateRule, may_hold}
use Rattle.rule_base.specs.GateLaws.{gate_projection-kept, announce-gate, load_gate-gate, depart-gate}
use Rattle.rule_base.specs.History.{touches, upto}
use Rattle.rule_base.specs.InstallLaws.{install_projection-kept, install-apart, depart-install}
use Rattle.rule_base.specs.Regime.{regime, named_in}
use Rattle.rule_base.specs.Regime.Regime.{Promoted}
use Rattle.rule_base.specs.Lemmas.RegimeLemmas.{named-regime, regime-kept, granted-regime}
use Rattle.rule_base.specs.RunProjection.{run_view, run_projection}
use Rattle.stm_model.specs.declared.alg.Alg.{Alg}
use Rattle.stm_model.specs.declared.alg.Alg.TheVariants.{Tml, RingSw}
use Rattle.rule_base.specs.InstallRule.{InstallRule}
use Rattle.rule_base.specs.Lemmas.RecordLemmas.{records-after, records-stay}
use Rattle.rule_base.specs.declared.entries.Entry.{Entry}
use Rattle.rule_base.specs.HistoryRule.{KnowsHistory}
use Rattle.rule_base.specs.Lemmas.HistoryLemmas.{upto-begins}
use Rattle.rule_base.specs.Lemmas.HistoryRuleLemmas.{advances-same, history-kept, history-ended, history-learned}
use Rattle.rule_base.specs.Notes.{after_seat_load, learned_history, learned_view}
use Rattle.rule_base.specs.Seating.{IsSeen}
use Rattle.rule_base.specs.StepKinds.{view_after, world_after, Nothing, StepLaw}
use Rattle.rule_base.specs.Lemmas.StepsLemmas.{steps-kept, steps-seated}
use Rattle.rule_base.specs.World.{World, put, horizon}
use Rattle.rule_seq.specs.AttemptLemmas.{attempts-after, attempts-stay, idle-busy}
use Rattle.rule_seq.specs.CglSteps.{take_lock, CanTakeLock, load_start, CanLoadStart, Begins, load_heap, CanLoadHeap, Loads, store_heap, CanStoreHeap, store_clock, CanStoreClock, Commits, free_lock, CanFreeLock, load_undo, CanLoadUndo, load_limit, CanLoadLimit, store_back, CanStoreBack, LoadsLimit}
use Rattle.rule_seq.specs.CglLaws as cgl
use Rattle.rule_seq.specs.TmlLaws as tml
use Rattle.rule_seq.specs.TmlSteps.{tml_begin, CanTmlBegin, TmlBegins, tml_load, CanTmlLoad, TmlLoads, tml_again, CanTmlAgain, TmlAgain, tml_write, CanTmlWrite, tml_store, CanTmlStore, tml_commit, CanTmlCommit}
use Rattle.rule_seq.specs.LockRule.{LockRule}
use Rattle.rule_seq.specs.LockLemmas.{lock_projection-kept, lock-phase}
use Rattle.stm_rule.specs.NoteSteps.{hear, Hears, load_end, CanLoadEnd, EndsAt}
use Rattle.stm_rule.specs.Alone.{alone-kept, alone-seated}
use Rattle.stm_rule.specs.Kinds.Raised.{raised-put}
use Rattle.stm_rule.specs.Findings.{NamesOther, FindsLock, FindsHolder}
use Rattle.stm_rule.specs.Kinds.Frames.{risen-step_trace, front-within, is-caller, unlocked, unwritten, outside, unheld, by-cgl, by-gate, by-running-of, unread, uncommitted, unentered, outside-records, bare, none-apart}
use Rattle.stm_rule.specs.Kinds.Running.{runs-stays, runs-leave, run_projection-put, Outside, run_projection-kept}
use Rattle.stm_rule.specs.Product.{Core}

module _ (good : (ℕ → ℕ) → Type 0) (c : Config) (n : ℕ) where
  pub taker : (w : World) → Core good c w → (x : ℕ) → w.lock ≡ x → x ≢ 0 → (w.views n).lock.taken ≡ false → NamesOther c n x
  taker w g zero e other free = absurd (other refl)
  taker w g (suc k) e other free = let word : w.lock ≡ 1 + k = omega arith in let taken : (w.views k).lock.taken ≡ true = g.lock.owner k word in (
    k,
    is-caller good c w g k (λ idle. let i : In ≡ Idle = sym (g.lock.inside k taken) ∙ idle in cc),
    (λ same. let t : true ≡ false = sym (subst (λ (m : ℕ). (w.views m).lock.taken ≡ true) same taken) ∙ free in cc),
    omega arith,
  )

  pub closer : (w : World) → Core good c w → (x : ℕ) → w.gate ≡ x → holder_of x ≢ 0 → (w.views n).gate.holds ≡ false → NamesOther c n (holder_of x)
  closer w g x e other free = go (holder_of x) (ap holder_of e) other
    where
      go : (h : ℕ) → holder_of w.gate ≡ h → h ≢ 0 → NamesOther c n h
      go zero q closed = absurd (closed refl)
      go (suc k) q closed = let word : holder_of w.gate ≡ 1 + k = omega arith in let holds : (w.views k).gate.holds ≡ true = g.gate.owner k word in (
        k,
        is-caller good c w g k (λ idle. let f : true ≡ false = sym (g.gate.holding k holds) ∙ ap may_hold idle in cc),
        (λ same. let t : true ≡ false = sym (subst (λ (m : ℕ). (w.views m).gate.holds ≡ true) same holds) ∙ free in cc),
        omega arith,
      )

  -- what an exchange of the lock shows: another word than 0 is another caller's
  acquires_lock_alone : StepLaw (Core good c) (take_lock n) Nothing n CanTakeLock
  acquires_lock_alone =
      by-cgl good c (take_lock n) Nothing n CanTakeLock
      (record { gate = λ w. refl; status = λ w. refl; view = λ w. refl; marks = λ w. (refl, refl); step_trace = λ w. refl })
      (λ w g m. inr refl) (λ v m. (m.phase, m.algorithm)) (cgl.acquires_lock good c n)

  pub acquires_lock : StepLaw (Core good c) (take_lock n) (FindsLock c n) n CanTakeLock
  acquires_lock w g may = let o = acquires_lock_alone w g may in record { rule = o.rule; advances = o.advances; shown = λ other. taker w g w.lock refl other may.free }

  pub loads_start : StepLaw (Core good c) load_start (Begins good c) n CanLoadStart
  loads_start =
      by-cgl good c load_start (Begins good c) n CanLoadStart
      (record { gate = λ w. refl; status = λ w. refl; view = λ w. refl; marks = λ w. (refl, refl); step_trace = λ w. refl })
      (λ w g m. inr refl) (λ v m. (m.has.phase, m.has.algorithm)) (cgl.loads_start good c n)

  pub loads_heap : (a : ℕ) → StepLaw (Core good c) (load_heap a) (Loads good c a) n (CanLoadHeap c.words a)
  loads_heap a =
      by-cgl good c (load_heap a) (Loads good c a) n (CanLoadHeap c.words a)
      (record { gate = λ w. refl; status = λ w. refl; view = λ w. refl; marks = λ w. (refl, refl); step_trace = λ w. refl })
      (λ w g m. inr refl) (λ v m. (m.has.phase, m.has.algorithm)) (cgl.loads_heap good c n a)

  pub stores_heap : (a x : ℕ) → StepLaw (Core good c) (store_heap a x) Nothing n (CanStoreHeap c.words a x)
  stores_heap a x =
      by-cgl good c (store_heap a x) Nothing n (CanStoreHeap c.words a x)
      (record { gate = λ w. refl; status = λ w. refl; view = λ w. refl; marks = λ w. (refl, refl); step_trace = λ w. refl })
      (λ w g m. inr refl) (λ v m. (m.has.phase, m.has.algorithm)) (cgl.stores_heap good c n a x)

  pub stores_clock : (t : ℕ) → n < c.callers → StepLaw (Core good c) (store_clock n t) (Commits good c n t) n (CanStoreClock good t)
  stores_clock t low =
      by-cgl good c (store_clock n t) (Commits good c n t) n (CanStoreClock good t)
      (record { gate = λ w. refl; status = λ w. refl; view = λ w. refl; marks = λ w. (refl, refl); step_trace = λ w. refl })
      (λ w g m. inl (inl m.free)) (λ v m. (m.has.phase, m.has.algorithm)) (cgl.stores_clock good c n t low)

  pub frees_lock : StepLaw (Core good c) free_lock Nothing n CanFreeLock
  frees_lock =
      by-cgl good c free_lock Nothing n CanFreeLock
      (record { gate = λ w. refl; status = λ w. refl; view = λ w. refl; marks = λ w. (refl, refl); step_trace = λ w. refl })
      (λ w g m. inr refl) (λ v m. (m.has.phase, m.has.algorithm)) (cgl.frees_lock good c n)

  pub loads_undo : (a : ℕ) → StepLaw (Core good c) (load_undo a) Nothing n (CanLoadUndo a)
  loads_undo a =
      by-cgl good c (load_undo a) Nothing n (CanLoadUndo a)
      (record { gate = λ w. refl; status = λ w. refl; view = λ w. refl; marks = λ w. (refl, refl); step_trace = λ w. refl })
      (λ w g m. inr refl) (λ v m. (m.has.phase, m.has.algorithm)) (cgl.loads_undo good c n a)

  pub loads_limit : (grants : Bool) → StepLaw (Core good c) (load_limit grants) LoadsLimit n CanLoadLimit
  loads_limit grants =
      by-cgl good c (load_limit grants) LoadsLimit n CanLoadLimit
      (record { gate = λ w. refl; status = λ w. refl; view = λ w. refl; marks = λ w. (refl, refl); step_trace = λ w. refl })
      (λ w g m. inr refl) (λ v m. (m.has.phase, m.has.algorithm)) (cgl.loads_limit good c n grants)

  pub stores_back : (a x : ℕ) → StepLaw (Core good c) (store_back a x) Nothing n (CanStoreBack a x)
  stores_back a x =
      by-cgl good c (store_back a x) Nothing n (CanStoreBack a x)
      (record { gate = λ w. refl; status = λ w. refl; view = λ w. refl; marks = λ w. (refl, refl); step_trace = λ w. refl })
      (λ w g m. inr refl) (λ v m. (m.has.phase, m.has.algorithm)) (cgl.stores_back good c n a x)

  -- the steps of TML
  pub tml_begins : StepLaw (Core good c) tml_begin (TmlBegins good c) n CanTmlBegin
  tml_begins =
      by-running-of good c tml_begin (TmlBegins good c) n CanTmlBegin Tml
      (record { gate = λ w. refl; status = λ w. refl; view = λ w. refl; marks = λ w. (refl, refl); step_trace = λ w. refl })
      (λ w g m. inr refl) (λ v m. (m.runs.phase, m.runs.algorithm, m.runs.plain)) (λ e. absurd cc) (tml.tml_begins good c n)

  pub tml_loads : (a : ℕ) → StepLaw (Core good c) (tml_load a) (TmlLoads good c a) n (CanTmlLoad c.words a)
  tml_loads a =
      by-running-of good c (tml_load a) (TmlLoads good c a) n (CanTmlLoad c.words a) Tml
      (record { gate = λ w. refl; status = λ w. refl; view = λ w. refl; marks = λ w. (refl, refl); step_trace = λ w. refl })
      (λ w g m. inr refl) (λ v m. (m.has.runs.phase, m.has.runs.algorithm, m.has.runs.plain)) (λ e. absurd cc) (tml.tml_loads good c n a)

  pub tml_agains : StepLaw (Core good c) tml_again (TmlAgain good c) n CanTmlAgain
  tml_agains =
      by-running-of good c tml_again (TmlAgain good c) n CanTmlAgain Tml
      (record { gate = λ w. refl; status = λ w. refl; view = λ w. refl; marks = λ w. (refl, refl); step_trace = λ w. refl })
      (λ w g m. inr refl) (λ v m. (m.has.runs.phase, m.has.runs.algorithm, m.has.runs.plain)) (λ e. absurd cc) (tml.tml_agains good c n)

  pub tml_writes : (start : ℕ) → n < c.callers → StepLaw (Core good c) (tml_write start) Nothing n (CanTmlWrite start)
  tml_writes start low =
      by-running-of good c (tml_write start) Nothing n (CanTmlWrite start) Tml
      (record {
        gate = λ w. refl;
        status = λ w. refl;
        view = λ w. refl;
        marks = λ w. (refl, refl);
        step_trace = λ w. risen-step_trace (w.clock == start) (w.views n) ((w.views n).steps.rises + 1);
      })
      (λ w g m. inl (inr m.not_quiescent)) (λ v m. (m.has.runs.phase, m.has.runs.algorithm, m.has.runs.plain)) (λ e. absurd cc)
      (tml.tml_writes good c n start low)

  pub tml_stores : (a x : ℕ) → StepLaw (Core good c) (tml_store a x) Nothing n (CanTmlStore c.words a x)
  tml_stores a x =
      by-running-of good c (tml_store a x) Nothing n (CanTmlStore c.words a x) Tml
      (record { gate = λ w. refl; status = λ w. refl; view = λ w. refl; marks = λ w. (refl, refl); step_trace = λ w. refl })
      (λ w g m. inr refl) (λ v m. (m.has.runs.phase, m.has.runs.algorithm, m.has.runs.plain)) (λ e. absurd cc) (tml.tml_stores good c n a x)

  pub tml_commits : (t : ℕ) → n < c.callers → StepLaw (Core good c) (tml_commit n t) (Commits good c n t) n (CanTmlCommit good t)
  tml_commits t low =
      by-running-of good c (tml_commit n t) (Commits good c n t) n (CanTmlCommit good t) Tml
      (record { gate = λ w. refl; status = λ w. refl; view = λ w. refl; marks = λ w. (refl, refl); step_trace = λ w. refl })
      (λ w g m. inl (inr m.not_quiescent)) (λ v m. (m.has.runs.phase, m.has.runs.algorithm, m.has.runs.plain)) (λ e. absurd cc)
      (tml.tml_commits good c n t low)

  pub announces : n < c.callers → StepLaw (Core good c) (announce n) Nothing n CanAnnounce
  announces low w g may =
      let o = by-gate good c (announce n) n w (record {
        common = record {
          words = λ w. (refl, refl, refl);
          history = λ w. (refl, refl);
          steps = λ w. (refl, refl);
          held = λ w. (refl, refl);
          busy = λ w. refl;
        };
        marks = λ w. (refl, refl);
        memory = λ w. (refl, refl);
        view = λ w. refl;
      }) g (λ e. absurd (out e)) (λ e. absurd (unentered good c w n g (ap may_hold may) e)) (λ k e. k)
      (announce-gate c.callers w n low may g.gate)
      (install-apart c w x n v refl refl refl refl (unheld good c w n g (ap may_hold may)) refl refl refl refl refl g.install) (regime-kept w x n v refl refl refl) in
      record { rule = o.0; advances = o.1; shown = tt }
    where
      x : World
      x = world_after (announce n) n w

      v : View
      v = view_after (announce n) w (w.views n) 1

      out : (w.views n).gate.phase ≡ In → ⊥
      out e = let k : Idle ≡ In = sym may ∙ e in cc

  pub loads_gate : StepLaw (Core good c) load_gate (FindsHolder c n) n CanLoadGate
  loads_gate w g may =
      let o = by-gate good c load_gate n w (record {
        common = record {
          words = λ w. (refl, refl, refl);
          history = λ w. (refl, refl);
          steps = λ w. (refl, refl);
          held = λ w. (refl, refl);
          busy = λ w. refl;
        };
        marks = λ w. (refl, refl);
        memory = λ w. (refl, refl);
        view = λ w. refl;
      }) g (λ e. absurd (out e)) (λ e. absurd (unentered good c w n g (ap may_hold may) e)) (λ k e. k)
      (load_gate-gate c.callers w n may g.gate)
      (install-apart c w x n v refl refl refl refl (unheld good c w n g (ap may_hold may)) refl refl refl refl refl g.install) (regime-kept w x n v refl refl refl) in
      record { rule = o.0; advances = o.1; shown = λ free other. closer w g w.gate refl other free }
    where
      x : World
      x = world_after load_gate n w

      v : View
      v = view_after load_gate w (w.views n) w.gate

      out : (w.views n).gate.phase ≡ In → ⊥
      out e = let k : Announced ≡ In = sym may ∙ e in cc

  pub departs : StepLaw (Core good c) (depart n) Nothing n CanDepart
  departs w g may = record {
    rule = record {
      history = history-kept good c w x n v refl refl refl refl g.history;
      steps = steps-kept c (depart n) n w refl refl refl g.steps;
      gate = depart-gate c.callers w n may g.gate;
      install = depart-install c w n may g.install;
      records = records-after w x n v refl (le_refl w.clock) refl refl (λ k t. absurd (let e : false ≡ true = sym (ap (λ q. touches q k) may.disowned) ∙ t in cc)) g.records;
      lock = lock-phase w x n v refl refl refl (λ t. absurd (let o = may.unlocked in cc)) g.lock;
      attempts =
          attempts-after w x n v refl
          (λ t. absurd (let f : true ≡ false = sym t ∙ idle-busy v refl may.unwritten refl refl may.uncommitted in cc))
          (λ e. still (w.views n).gate.phase may.unentered e (g.attempts.entered n e)) g.attempts;
      running =
          runs-stays c (regime w) (regime x) (record (run_projection w) { views = put (run_projection w).views n (run_view v) })
          (run_projection x) (regime-kept w x n v refl refl refl) (run_projection-put w x n v refl refl refl refl refl refl refl refl refl)
          (runs-leave c (regime w) (run_projection w) n (run_view v) (record {
            was =
                record { unlocked = may.unlocked; unwritten = may.unwritten; uncommitted = may.uncommitted };
            out = record { unlocked = may.unlocked; unwritten = may.unwritten; uncommitted = may.uncommitted };
            tml = refl;
            owned = refl;
            bare = bare_now;
            apart = none-apart good c w n g bare_now;
            unread = refl;
            entered = refl;
          }) (inl refl) free g.running);
      alone = alone-kept c (depart n) n w refl (λ sole. inr refl) g.alone;
      raised = raised-put w x n v refl (λ e. e) (λ e k. g.raised e n k) g.raised;
    };
    advances = advances-same w x refl (le_refl w.clock) (le_refl w.done) refl;
    shown = tt;
  }
    where
      x : World
      x = world_after (depart n) n w

      v : View
      v = view_after (depart n) w (w.views n) 0

      still : (p : Phase) → (p ≡ In → (w.views n).attempt.entered ≡ false) → (w.views n).attempt.entered ≡ true → may_hold p ≡ true → may_hold (departed p) ≡ true
      still Idle u e h = h
      still Announced u e h = absurd cc
      still Turned u e h = absurd cc
      still Aiming u e h = absurd cc
      still In u e h = absurd (let f : true ≡ false = sym e ∙ u refl in cc)
      still Closing u e h = refl

      bare_now : (r : ℕ) → touches (w.views n).owned.held r ≡ false
      bare_now r = ap (λ q. touches q r) may.disowned

      -- a promoted attempt has to reopen the gate before
      free : (a : Alg) → regime w ≡ Promoted a n → ⊥
      free a e = let q = granted-regime c w n g.gate g.install a e in let p = g.install.promoted n q in let f : true ≡ false = sym (g.install.holding n p.0) ∙ may.reopened p.1 in cc

  pub hears : StepLaw (Core good c) hear Hears n (λ v. Unit {0})
  hears w g may =
      let o = by-gate good c hear n w (record {
        common = record {
          words = λ w. (refl, refl, refl);
          history = λ w. (refl, refl);
          steps = λ w. (refl, refl);
          held = λ w. (refl, refl);
          busy = λ w. refl;
        };
        marks = λ w. (refl, refl);
        memory = λ w. (refl, refl);
        view = λ w. refl;
      }) g (λ e. e) (λ e. g.attempts.entered n e) (λ k e. k)
      (subst (GateRule c.callers) (sym (gate_projection-kept w x n v refl refl refl refl)) g.gate)
      (subst (InstallRule c) (sym (install_projection-kept w x n v refl refl refl refl refl)) g.install) (regime-kept w x n v refl refl refl) in
      record { rule = o.0; advances = o.1; shown = (m.0, k.seen ∙ m.1 ∙ ap (λ l. m.0 ++ l) (sym k.told)) }
    where
      x : World
      x = world_after hear n w

      v : View
      v = view_after hear w (w.views n) w.clock

      k : KnowsHistory c w.clock w.history n (w.views n).history
      k = g.history.known n

      m : (more : List Entry) × (upto w.history (w.views n).history.front ≡ more ++ upto w.history (w.views n).history.told.front)
      m = upto-begins w.history (w.clock + 1) (w.views n).history.told.front (w.views n).history.front g.history.below (g.history.known n).told_front

  pub loads_end : StepLaw (Core good c) load_end EndsAt n CanLoadEnd
  loads_end w g may = record {
    rule = record {
      history = history-ended good c w x n v (record { seen = w.history; front = w.clock }) refl refl refl refl g.history;
      steps = steps-kept c load_end n w refl refl refl g.steps;
      gate = subst (GateRule c.callers) (sym (gate_projection-kept w x n v refl refl refl refl)) g.gate;
      install = subst (InstallRule c) (sym (install_projection-kept w x n v refl refl refl refl refl)) g.install;
      records = records-stay w x n v refl (le_refl w.clock) refl refl refl g.records;
      lock = subst LockRule (sym (lock_projection-kept w x n v refl refl refl refl)) g.lock;
      attempts = attempts-stay w x n v refl refl refl refl g.attempts;
      running = runs-stays c (regime w) (regime x) (run_projection w) (run_projection x) (regime-kept w x n v refl refl refl) (run_projection-kept w x n v refl refl refl refl refl refl refl refl refl refl) g.running;
      alone = alone-kept c load_end n w refl (λ sole. inr refl) g.alone;
      raised = raised-put w x n v refl (λ e. e) (λ e k. g.raised e n k) g.raised;
    };
    advances = advances-same w x refl (le_refl w.clock) (le_refl w.done) refl;
    shown = refl;
  }
    where
      x : World
      x = world_after load_end n w

      v : View
      v = view_after load_end w (w.views n) w.clock

  -- who is idle may tell what it has seen
  pub tells : (w : World) → Core good c w → (w.views n).gate.phase ≡ Idle → IsSeen w (w.views n).history
  tells w g idle = record {
    front = front-within good c w n g (uncommitted good c w n g (λ e. let i : Idle ≡ In = sym idle ∙ e in cc)) (settled (w.views n).attempt.entered refl);
    within = (g.history.known n).front;
    seen = (g.history.known n).seen;
  }
    where
      settled : (b : Bool) → (w.views n).attempt.entered ≡ b → (w.views n).attempt.entered ≡ false
      settled true e = absurd (unentered good c w n g (ap may_hold idle) e)
      settled false e = e

  -- the load of a split or a join leaves all but the caller's step trace
  pub loads_seat : (w : World) → Core good c w → Core good c (record w { views = put w.views n (after_seat_load (w.views n)) })
  loads_seat w g = record {
    history = history-kept good c w x n v refl refl refl refl g.history;
    steps = steps-seated c w n v refl g.steps;
    gate = subst (GateRule c.callers) (sym (gate_projection-kept w x n v refl refl refl refl)) g.gate;
    install = subst (InstallRule c) (sym (install_projection-kept w x n v refl refl refl refl refl)) g.install;
    records = records-stay w x n v refl (le_refl w.clock) refl refl refl g.records;
    lock = subst LockRule (sym (lock_projection-kept w x n v refl refl refl refl)) g.lock;
    attempts = attempts-stay w x n v refl refl refl refl g.attempts;
    running = runs-stays c (regime w) (regime x) (run_projection w) (run_projection x) (regime-kept w x n v refl refl refl) (run_projection-kept w x n v refl refl refl refl refl refl refl refl refl refl) g.running;
    alone = alone-seated c w n v refl g.alone;
    raised = raised-put w x n v refl (λ e. e) (λ e k. g.raised e n k) g.raised;
  }
    where
      v : View
      v = after_seat_load (w.views n)

      x : World
      x = record w { views = put w.views n (after_seat_load (w.views n)) }

  -- learning a note changes what the caller knows, and the load of the join is in its step trace
  pub learns : (w : World) (k : SeenHistory) → Core good c w → IsSeen w k → (w.views n).gate.phase ≡ Idle → Core good c (record w { views = put w.views n (learned_view (w.views n) k) })
  learns w k g seen may = record {
    history = history-learned good c w x n v k refl refl refl refl seen.seen seen.within g.history;
    steps = steps-seated c w n v refl g.steps;
    gate = subst (GateRule c.callers) (sym (gate_projection-kept w x n v refl refl refl refl)) g.gate;
    install = subst (InstallRule c) (sym (install_projection-kept w x n v refl refl refl refl refl)) g.install;
    records = records-stay w x n v refl (le_refl w.clock) refl refl refl g.records;
    lock = subst LockRule (sym (lock_projection-kept w x n v refl refl refl refl)) g.lock;
    attempts = attempts-stay w x n v refl refl refl refl g.attempts;
    running = runs-stays c (regime w) (regime x) (record (run_projection w) { views = put (run_projection w).views n (run_view v) })
        (run_projection x) (regime-kept w x n v refl refl refl) (run_projection-put w x n v refl refl refl refl refl refl refl refl refl)
        (runs-leave c (regime w) (run_projection w) n (run_view v)
        (record {
          was = idle;
          out = record { unlocked = idle.unlocked; unwritten = idle.unwritten; uncommitted = idle.uncommitted };
          tml = outside good c w n g out;
          owned = outside-records good c w n g out;
          bare = bare good c w n g out;
          apart = none-apart good c w n g (bare good c w n g out);
          unread = unread good c w n g out;
          entered = refl;
        }) (low (nat_le k.front (w.views n).history.front) refl)
        (λ a e. out (g.install.promoted n (granted-regime c w n g.gate g.install a e)).1) g.running);
    alone = alone-seated c w n v refl g.alone;
    raised = raised-put w x n v refl (λ e. e) (λ e k. g.raised e n k) g.raised;
  }
    where
      v : View
      v = learned_view (w.views n) k

      x : World
      x = record w { views = put w.views n (learned_view (w.views n) k) }

      out : (w.views n).gate.phase ≡ In → ⊥
      out e = let i : Idle ≡ In = sym may ∙ e in cc

      idle : Outside (run_view (w.views n))
      idle = record { unlocked = unlocked good c w n g out; unwritten = unwritten good c w n g out; uncommitted = uncommitted good c w n g out }

      choice : Bool → SeenHistory
      choice b = if b
          then record { made = (w.views n).history.made; seen = (w.views n).history.seen; front = (w.views n).history.front; told = record { seen = k.seen; front = k.front }; whole = (w.views n).history.whole }
          else record { made = (w.views n).history.made; seen = k.seen; front = k.front; told = record { seen = (w.views n).history.seen; front = (w.views n).history.front }; whole = (w.views n).history.whole }

      -- a note is no further than the number from which starts are loaded
      low : (b : Bool) → nat_le k.front (w.views n).history.front ≡ b
          → ((learned_history (w.views n).history k).front ≡ (w.views n).history.front)
          ⊎ (named_in (regime w) ≡ RingSw → (learned_history (w.views n).history k).front ≤ w.done)
      low false q = inr (λ e.
          let s : horizon w ≡ w.done = ap (λ (a : Alg). if has_ring a then w.done else w.clock) (sym (named-regime w) ∙ e) in
          subst (λ (t : ℕ). t ≤ w.done) (sym (ap (λ (b : Bool). (choice b).front) q)) (subst (λ (t : ℕ). k.front ≤ t) s seen.front))
      low true q = inl (ap (λ (b : Bool). (choice b).front) q)
