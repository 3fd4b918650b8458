-- THE LAWS OF ALL KINDS, with a fence: each is the core's law, lifted.
use Rattle.std.proofs.Common.{◌≡◌, ℕ, ◌∙◌, ◌<◌, List, [], Bool, subst, sym}
use Rattle.rule_base.specs.Encodings.{alg_of, fence_of, gate_word}
use Rattle.rule_base.specs.GateLaws.{sole-knows}
use Rattle.rule_base.specs.GateRule.{gate_projection}
use Rattle.rule_base.specs.GateSteps.{CanAim, CanAnnounce, CanCheck, CanDepart, CanLoadGate, CanLookGate, CanReopen, CanReturn, CanSeize, CanTakeGate, aim, announce, check, depart, load_gate, look_gate, reopen, return_gate, seize, take_gate}
use Rattle.rule_base.specs.InstallSteps.{CanEvenClock, CanInstall, CanMark, CanSettle, Settles, even_clock, install, settle, store_base, store_done}
use Rattle.rule_base.specs.Ranks.{home_of}
use Rattle.rule_base.specs.StepKinds.{Nothing, StepLaw}
use Rattle.rule_base.specs.declared.entries.Cell.{Cell}
use Rattle.rule_orec.specs.OrecSteps.{CanOrecBegin, CanOrecClock, CanOrecCommit, CanOrecConfirm, CanOrecGrant, CanOrecGrantAll, CanOrecLast, CanOrecRaiseClock, CanOrecLoad, CanOrecLock, CanOrecOld, CanOrecOwnLoad, CanOrecPass, CanOrecPlace, CanOrecRestore, CanOrecSample, CanOrecSave, CanOrecTime, CanOrecUp, CanOrecWriteBack, HasOrec, OrecClocks, OrecConfirms, OrecOwnLoads, orec_begin, orec_clock, orec_clock_all, orec_commit, orec_confirm, orec_grant, orec_grant_all, orec_last, orec_raise_clock, orec_limit, orec_load, orec_lock, orec_look, orec_own_load, orec_pass, orec_place, orec_release, orec_restore, orec_sample, orec_save, orec_write_back}
use Rattle.rule_promoted.specs.PromotedSteps.{CanDirectCommit, CanDirectLoad, CanDirectRelease, CanDirectStore, CanRingGrant, CanRingMoveGrant, CanTmlGrant, direct_commit, direct_load, direct_release, direct_store, ring_look_grant, ring_move_grant, tml_grant}
use Rattle.rule_promoted.specs.RaisingSteps.{direct_raise_clock, CanDirectRaiseClock, direct_up, CanDirectUp}
use Rattle.rule_ring.specs.RingSteps.{CanRingAgain, CanRingBegin, CanRingDone, CanRingEnter, CanRingFree, CanRingLoad, CanRingLock, CanRingLook, CanRingMove, CanRingSlot, CanRingWord, CanRingWrite, HasTurn, RingBegins, RingEnters, RingLooks, RingMoves, ring_again, ring_begin, ring_done, ring_enter, ring_free, ring_load, ring_lock, ring_look, ring_move, ring_slot, ring_tick, ring_word, ring_write}
use Rattle.rule_ring.specs.SlotFilter.{slot_filter}
use Rattle.rule_seq.specs.CglSteps.{Begins, CanFreeLock, CanLoadHeap, CanLoadLimit, CanLoadStart, CanLoadUndo, CanStoreClock, CanStoreHeap, CanStoreBack, CanTakeLock, Commits, Loads, LoadsLimit, free_lock, load_heap, load_limit, load_start, load_undo, store_clock, store_heap, store_back, take_lock}
use Rattle.rule_seq.specs.TmlSteps.{CanTmlAgain, CanTmlBegin, CanTmlCommit, CanTmlLoad, CanTmlStore, CanTmlWrite, TmlAgain, TmlBegins, TmlLoads, tml_again, tml_begin, tml_commit, tml_load, tml_store, tml_write}
use Rattle.stm_model.specs.declared.alg.Alg.{Alg}
use Rattle.stm_rule.specs.Findings.{FindsAgain, FindsBegin, FindsGate, FindsHolder, FindsLock, FindsSole, FindsTaken, FindsWithin, OrecFails, OrecSettled}
use Rattle.stm_rule.specs.NoteSteps.{CanLoadEnd, Ends, EndsAt, Hears, hear, load_end}
use Rattle.rule_base.specs.declared.views.Phase.TheVariants.{Idle, Announced, In}
use Rattle.rule_base.specs.declared.views.View.{View}
use Rattle.stm_model.specs.declared.config.Config.{Config}
use Rattle.rule_base.specs.Fence.{heap_without_fence, without_fence}
use Rattle.rule_base.specs.FenceLaws.{heap_without_fence-out}
use Rattle.rule_base.specs.World.{World}
use Rattle.stm_rule.specs.Kinds.Laws as core
use Rattle.stm_rule.proofs.KindLaws.ClosingLaws as closing
use Rattle.stm_rule.proofs.KindLaws.InstallingLaws as installing
use Rattle.stm_rule.proofs.KindLaws.PromotionLaws as promotion
use Rattle.stm_rule.proofs.KindLaws.RecordLaws as records
use Rattle.stm_rule.proofs.KindLaws.RingLaws as rings
use Rattle.stm_rule.proofs.KindLaws.RingPromotionLaws as ring_promotion
use Rattle.stm_rule.proofs.KindLaws.BesideLaws as beside
use Rattle.stm_rule.specs.Kinds.Lifting.{IsSpared, AreSpared, lift}
use Rattle.stm_rule.specs.Product.{Invariant}
use Rattle.stm_rule.proofs.KindLaws.Sparing.{spared}
use Rattle.stm_rule.proofs.KindLaws.Sparing as sparing
use Rattle.stm_rule.proofs.KindLaws.SparingMore.{granted-in}
use Rattle.stm_rule.proofs.KindLaws.SparingMore as sparing_more

module _ (good : (ℕ → ℕ) → Type 0) (c : Config) (n : ℕ) where
  -- what a load of a word outside the range shows without the fence, it shows
  spared_loads : (a : ℕ) (w : World) (v : View) → heap_without_fence (fence_of w.gate) w.heap w.history a ≡ w.heap a
      → Loads good c a (without_fence w) v (heap_without_fence (fence_of w.gate) w.heap w.history a) → Loads good c a w v (w.heap a)
  spared_loads a w v e s = subst (Loads good c a w v) e (record { value = s.value; small = s.small; sees = s.sees; legal = s.legal; below = s.below })

  spared_tml : (a : ℕ) (w : World) (v : View) → heap_without_fence (fence_of w.gate) w.heap w.history a ≡ w.heap a
      → TmlLoads good c a (without_fence w) v (heap_without_fence (fence_of w.gate) w.heap w.history a) → TmlLoads good c a w v (w.heap a)
  spared_tml a w v e s = subst (TmlLoads good c a w v) e (record { value = s.value; sees = s.sees })

  spared_own : (a : ℕ) (w : World) (v : View) → heap_without_fence (fence_of w.gate) w.heap w.history a ≡ w.heap a
      → OrecOwnLoads good c a (without_fence w) v (heap_without_fence (fence_of w.gate) w.heap w.history a)
      → OrecOwnLoads good c a w v (w.heap a)
  spared_own a w v e s = subst (OrecOwnLoads good c a w v) e (record { value = s.value; sees = s.sees })

  pub acquires_lock : StepLaw (Invariant good c) (take_lock n) (FindsLock c n) n CanTakeLock
  acquires_lock = lift good c (take_lock n) (FindsLock c n) (FindsLock c n) n CanTakeLock (sparing.acquires_lock good c n) (λ w g may s. s) (core.acquires_lock good c n)

  pub loads_start : StepLaw (Invariant good c) load_start (Begins good c) n CanLoadStart
  loads_start =
      lift good c load_start (Begins good c) (Begins good c) n CanLoadStart (sparing.loads_start good c n)
      (λ w g may s. record { legal = s.legal; below = s.below; seen = s.seen; front = s.front; limit = s.limit })
      (core.loads_start good c n)

  pub loads_heap : (a : ℕ) → StepLaw (Invariant good c) (load_heap a) (Loads good c a) n (λ v. CanLoadHeap c.words a v × IsSpared a v)
  loads_heap a =
      lift good c (load_heap a) (Loads good c a) (Loads good c a) n (λ v. CanLoadHeap c.words a v × IsSpared a v)
      (sparing.loads_heap good c n a) (λ w g may s.
      spared_loads a w (w.views n)
      (heap_without_fence-out (fence_of w.gate) w.heap w.history a (spared good c n w a g may.0.has.phase may.1)) s) (λ w g may.
      core.loads_heap good c n a w g may.0)

  pub stores_heap : (a x : ℕ) → StepLaw (Invariant good c) (store_heap a x) Nothing n (λ v. CanStoreHeap c.words a x v × IsSpared a v)
  stores_heap a x = lift good c (store_heap a x) Nothing Nothing n (λ v. CanStoreHeap c.words a x v × IsSpared a v) (sparing.stores_heap good c n a x) (λ w g may s. s) (λ w g may. core.stores_heap good c n a x w g may.0)

  pub stores_clock : (t : ℕ) → n < c.callers → StepLaw (Invariant good c) (store_clock n t) (Commits good c n t) n (CanStoreClock good t)
  stores_clock t low =
      lift good c (store_clock n t) (Commits good c n t) (Commits good c n t) n (CanStoreClock good t) (sparing.stores_clock good c n t)
      (λ w g may s. record { legal = s.legal; below = s.below; seen = s.seen }) (core.stores_clock good c n t low)

  pub frees_lock : StepLaw (Invariant good c) free_lock Nothing n CanFreeLock
  frees_lock = lift good c free_lock Nothing Nothing n CanFreeLock (sparing.frees_lock good c n) (λ w g may s. s) (core.frees_lock good c n)

  pub loads_undo : (a : ℕ) → StepLaw (Invariant good c) (load_undo a) Nothing n (λ v. CanLoadUndo a v × IsSpared a v)
  loads_undo a = lift good c (load_undo a) Nothing Nothing n (λ v. CanLoadUndo a v × IsSpared a v) (sparing.loads_undo good c n a) (λ w g may s. s) (λ w g may. core.loads_undo good c n a w g may.0)

  pub loads_limit : (grants : Bool) → StepLaw (Invariant good c) (load_limit grants) LoadsLimit n CanLoadLimit
  loads_limit grants = lift good c (load_limit grants) LoadsLimit LoadsLimit n CanLoadLimit (sparing.loads_limit good c n grants) (λ w g may s. s) (core.loads_limit good c n grants)

  pub stores_back : (a x : ℕ) → StepLaw (Invariant good c) (store_back a x) Nothing n (CanStoreBack a x)
  stores_back a x = lift good c (store_back a x) Nothing Nothing n (CanStoreBack a x) (sparing.stores_back good c n a x) (λ w g may s. s) (core.stores_back good c n a x)

  pub tml_begins : StepLaw (Invariant good c) tml_begin (TmlBegins good c) n CanTmlBegin
  tml_begins =
      lift good c tml_begin (TmlBegins good c) (TmlBegins good c) n CanTmlBegin (sparing.tml_begins good c n)
      (λ w g may s. record { legal = s.legal; below = s.below; seen = s.seen; front = s.front; limit = s.limit }) (core.tml_begins good c n)

  pub tml_loads : (a : ℕ) → StepLaw (Invariant good c) (tml_load a) (TmlLoads good c a) n (λ v. CanTmlLoad c.words a v × IsSpared a v)
  tml_loads a =
      lift good c (tml_load a) (TmlLoads good c a) (TmlLoads good c a) n (λ v. CanTmlLoad c.words a v × IsSpared a v)
      (sparing.tml_loads good c n a) (λ w g may s.
      spared_tml a w (w.views n)
      (heap_without_fence-out (fence_of w.gate) w.heap w.history a (spared good c n w a g may.0.has.runs.phase may.1)) s) (λ w g may.
      core.tml_loads good c n a w g may.0)

  pub tml_agains : StepLaw (Invariant good c) tml_again (TmlAgain good c) n CanTmlAgain
  tml_agains = lift good c tml_again (TmlAgain good c) (TmlAgain good c) n CanTmlAgain (sparing.tml_agains good c n) (λ w g may s. record { value = s.value; sees = s.sees }) (core.tml_agains good c n)

  pub tml_writes : (start : ℕ) → n < c.callers → StepLaw (Invariant good c) (tml_write start) Nothing n (CanTmlWrite start)
  tml_writes start low = lift good c (tml_write start) Nothing Nothing n (CanTmlWrite start) (sparing.tml_writes good c n start) (λ w g may s. s) (core.tml_writes good c n start low)

  pub tml_stores : (a x : ℕ) → StepLaw (Invariant good c) (tml_store a x) Nothing n (λ v. CanTmlStore c.words a x v × IsSpared a v)
  tml_stores a x = lift good c (tml_store a x) Nothing Nothing n (λ v. CanTmlStore c.words a x v × IsSpared a v) (sparing.tml_stores good c n a x) (λ w g may s. s) (λ w g may. core.tml_stores good c n a x w g may.0)

  pub tml_commits : (t : ℕ) → n < c.callers → StepLaw (Invariant good c) (tml_commit n t) (Commits good c n t) n (CanTmlCommit good t)
  tml_commits t low =
      lift good c (tml_commit n t) (Commits good c n t) (Commits good c n t) n (CanTmlCommit good t) (sparing.tml_commits good c n t)
      (λ w g may s. record { legal = s.legal; below = s.below; seen = s.seen }) (core.tml_commits good c n t low)

  pub announces : n < c.callers → StepLaw (Invariant good c) (announce n) Nothing n CanAnnounce
  announces low = lift good c (announce n) Nothing Nothing n CanAnnounce (sparing.announces good c n) (λ w g may s. s) (core.announces good c n low)

  -- alone, it knows the algorithm that the gate names
  alone : (w : World) → Invariant good c w → ((w.views n).gate.phase ≡ Idle → ⊥) → c.callers ≡ 1 → alg_of w.gate ≡ (w.views n).gate.algorithm
  alone w g busy = sole-knows c.callers n (gate_projection (without_fence w)) g.core.gate busy

  pub loads_gate : StepLaw (Invariant good c) load_gate (FindsGate c n) n CanLoadGate
  loads_gate =
      lift good c load_gate (FindsHolder c n) (FindsGate c n) n CanLoadGate (sparing.loads_gate good c n)
      (λ w g may s. record { closer = s; unfenced = g.fence.off; sole = alone w g (λ e. let k : Announced ≡ Idle = sym may ∙ e in cc) })
      (core.loads_gate good c n)

  pub departs : StepLaw (Invariant good c) (depart n) Nothing n CanDepart
  departs = lift good c (depart n) Nothing Nothing n CanDepart (sparing.departs good c n) (λ w g may s. s) (core.departs good c n)

  pub hears : StepLaw (Invariant good c) hear Hears n (λ v. Unit {0})
  hears = lift good c hear Hears Hears n (λ v. Unit {0}) (sparing.hears good c n) (λ w g may s. s) (core.hears good c n)

  pub loads_end : StepLaw (Invariant good c) load_end (Ends good c) n CanLoadEnd
  loads_end = lift good c load_end EndsAt (Ends good c) n CanLoadEnd (sparing.loads_end good c n) (λ w g may s. record { rule = g; clock = s }) (core.loads_end good c n)

  pub aims : StepLaw (Invariant good c) aim (FindsGate c n) n CanAim
  aims =
      lift good c aim (FindsHolder c n) (FindsGate c n) n CanAim (sparing.aims good c n)
      (λ w g may s. record { closer = s; unfenced = g.fence.off; sole = alone w g (λ e. let k : Announced ≡ Idle = sym may ∙ e in cc) })
      (closing.aims good c n)

  pub takes_gate : (word : ℕ) → n < c.callers → StepLaw (Invariant good c) (take_gate n word) (FindsTaken c n word) n (CanTakeGate word)
  takes_gate word low = lift good c (take_gate n word) (FindsTaken c n word) (FindsTaken c n word) n (CanTakeGate word) (sparing.takes_gate good c n word low) (λ w g may s. s) (closing.takes_gate good c n word low)

  pub checks : (k : ℕ) → StepLaw (Invariant good c) (check k) Nothing n (CanCheck n k)
  checks k = lift good c (check k) Nothing Nothing n (CanCheck n k) (sparing.checks good c n k) (λ w g may s. s) (closing.checks good c n k)

  pub reopens : (fence : ℕ) (alg : Alg) → StepLaw (Invariant good c) (reopen fence alg) Nothing n (CanReopen fence alg)
  reopens fence alg = lift good c (reopen fence alg) Nothing Nothing n (CanReopen fence alg) (sparing.reopens good c n fence alg) (λ w g may s. s) (closing.reopens good c n fence alg)

  pub settles : StepLaw (Invariant good c) settle Settles n (CanSettle c.callers n)
  settles = lift good c settle Settles Settles n (CanSettle c.callers n) (sparing.settles good c n) (λ w g may s. s) (installing.settles good c n)

  pub stores_base : (t : ℕ) → StepLaw (Invariant good c) (store_base t) Nothing n (CanMark t)
  stores_base t = lift good c (store_base t) Nothing Nothing n (CanMark t) (sparing.stores_base good c n t) (λ w g may s. s) (installing.stores_base good c n t)

  pub stores_done : (t : ℕ) → StepLaw (Invariant good c) (store_done t) Nothing n (CanMark t)
  stores_done t = lift good c (store_done t) Nothing Nothing n (CanMark t) (sparing.stores_done good c n t) (λ w g may s. s) (installing.stores_done good c n t)

  pub evens_clock : (t : ℕ) → n < c.callers → StepLaw (Invariant good c) (even_clock t) Nothing n (CanEvenClock t)
  evens_clock t low = lift good c (even_clock t) Nothing Nothing n (CanEvenClock t) (sparing.evens_clock good c n t) (λ w g may s. s) (installing.evens_clock good c n t low)

  pub installs : (fence : ℕ) (alg : Alg) → StepLaw (Invariant good c) (install n fence alg) Nothing n (CanInstall fence alg)
  installs fence alg = lift good c (install n fence alg) Nothing Nothing n (CanInstall fence alg) (sparing.installs good c n fence alg) (λ w g may s. s) (installing.installs good c n fence alg)

  pub looks_gate : StepLaw (Invariant good c) look_gate (FindsGate c n) n CanLookGate
  looks_gate =
      lift good c look_gate (FindsHolder c n) (FindsGate c n) n CanLookGate (sparing.looks_gate good c n)
      (λ w g may s. record { closer = s; unfenced = g.fence.off; sole = alone w g (λ e. let k : In ≡ Idle = sym may ∙ e in cc) })
      (promotion.looks_gate good c n)

  pub seizes : (fence : ℕ) (alg : Alg) → StepLaw (Invariant good c) (seize n fence alg) (FindsTaken c n (gate_word fence 0 alg)) n (CanSeize fence alg)
  seizes fence alg =
      lift good c (seize n fence alg) (FindsTaken c n (gate_word fence 0 alg)) (FindsTaken c n (gate_word fence 0 alg)) n
      (CanSeize fence alg) (sparing.seizes good c n fence alg) (λ w g may s. s) (promotion.seizes good c n fence alg)

  pub grants : StepLaw (Invariant good c) tml_grant Nothing n (CanTmlGrant c.callers n)
  grants = lift good c tml_grant Nothing Nothing n (CanTmlGrant c.callers n) (sparing_more.grants good c n) (λ w g may s. s) (promotion.grants good c n)

  pub direct_loads : (a : ℕ) → StepLaw (Invariant good c) (direct_load a) (Loads good c a) n (λ v. CanDirectLoad c.words a v × IsSpared a v)
  direct_loads a =
      lift good c (direct_load a) (Loads good c a) (Loads good c a) n (λ v. CanDirectLoad c.words a v × IsSpared a v)
      (sparing_more.direct_loads good c n a) (λ w g may s.
      spared_loads a w (w.views n)
      (heap_without_fence-out (fence_of w.gate) w.heap w.history a (spared good c n w a g (granted-in good c n w g may.0.granted) may.1)) s)
      (λ w g may. promotion.direct_loads good c n a w g may.0)

  pub direct_stores : (a x : ℕ) → StepLaw (Invariant good c) (direct_store a x) Nothing n (λ v. CanDirectStore c.words a x v × IsSpared a v)
  direct_stores a x =
      lift good c (direct_store a x) Nothing Nothing n (λ v. CanDirectStore c.words a x v × IsSpared a v)
      (sparing_more.direct_stores good c n a x) (λ w g may s. s) (λ w g may. promotion.direct_stores good c n a x w g may.0)

  pub direct_commits : (alg : Alg) (t : ℕ) → n < c.callers → StepLaw (Invariant good c) (direct_commit n alg t) (Commits good c n t) n (CanDirectCommit good alg t)
  direct_commits alg t low =
      lift good c (direct_commit n alg t) (Commits good c n t) (Commits good c n t) n (CanDirectCommit good alg t)
      (sparing_more.direct_commits good c n alg t) (λ w g may s. record { legal = s.legal; below = s.below; seen = s.seen })
      (promotion.direct_commits good c n alg t low)

  pub direct_raises_clock : (least : ℕ) → n < c.callers → StepLaw (Invariant good c) (direct_raise_clock least) Nothing n (CanDirectRaiseClock least)
  direct_raises_clock least low =
      lift good c (direct_raise_clock least) Nothing Nothing n (CanDirectRaiseClock least) (sparing_more.direct_raises_clock good c n least)
      (λ w g may s. s) (promotion.direct_raises_clock good c n least low)

  pub direct_ups : (r version : ℕ) → StepLaw (Invariant good c) (direct_up r version) Nothing n (CanDirectUp r version)
  direct_ups r version = lift good c (direct_up r version) Nothing Nothing n (CanDirectUp r version) (sparing_more.direct_ups good c n r version) (λ w g may s. s) (promotion.direct_ups good c n r version)

  pub orec_grants : (q b : ℕ) → StepLaw (Invariant good c) (orec_grant q b) (OrecFails n) n (CanOrecGrant (home_of c) c.words q b)
  orec_grants q b =
      lift good c (orec_grant q b) (OrecFails n) (OrecFails n) n (CanOrecGrant (home_of c) c.words q b)
      (sparing_more.orec_grants good c n q b) (λ w g may s. record { own = s.own; later = s.later }) (promotion.orec_grants good c n q b)

  pub orec_grants_all : StepLaw (Invariant good c) orec_grant_all Nothing n (CanOrecGrantAll (home_of c) c.words c.callers n)
  orec_grants_all = lift good c orec_grant_all Nothing Nothing n (CanOrecGrantAll (home_of c) c.words c.callers n) (sparing_more.orec_grants_all good c n) (λ w g may s. s) (promotion.orec_grants_all good c n)

  pub direct_releases : (q t : ℕ) → StepLaw (Invariant good c) (direct_release q t) Nothing n (CanDirectRelease q t)
  direct_releases q t = lift good c (direct_release q t) Nothing Nothing n (CanDirectRelease q t) (sparing_more.direct_releases good c n q t) (λ w g may s. s) (promotion.direct_releases good c n q t)

  pub returns : (fence : ℕ) (alg : Alg) → StepLaw (Invariant good c) (return_gate fence alg) Nothing n (CanReturn fence alg)
  returns fence alg = lift good c (return_gate fence alg) Nothing Nothing n (CanReturn fence alg) (sparing.returns good c n fence alg) (λ w g may s. s) (promotion.returns good c n fence alg)

  pub orec_begins : StepLaw (Invariant good c) orec_begin (Begins good c) n CanOrecBegin
  orec_begins =
      lift good c orec_begin (Begins good c) (Begins good c) n CanOrecBegin (sparing_more.orec_begins good c n)
      (λ w g may s. record { legal = s.legal; below = s.below; seen = s.seen; front = s.front; limit = s.limit })
      (records.orec_begins good c n)

  pub orec_samples : (r : ℕ) (a : ℕ) → StepLaw (Invariant good c) (orec_sample r a) Nothing n (CanOrecSample (home_of c) r a)
  orec_samples r a = lift good c (orec_sample r a) Nothing Nothing n (CanOrecSample (home_of c) r a) (sparing_more.orec_samples good c n r a) (λ w g may s. s) (records.orec_samples good c n r a)

  pub orec_loads : (a : ℕ) → StepLaw (Invariant good c) (orec_load a) Nothing n (λ v. CanOrecLoad a v × IsSpared a v)
  orec_loads a = lift good c (orec_load a) Nothing Nothing n (λ v. CanOrecLoad a v × IsSpared a v) (sparing_more.orec_loads good c n a) (λ w g may s. s) (λ w g may. records.orec_loads good c n a w g may.0)

  pub orec_confirms : (r : ℕ) → StepLaw (Invariant good c) (orec_confirm r) (OrecConfirms good c) n (CanOrecConfirm (home_of c) c.words r)
  orec_confirms r =
      lift good c (orec_confirm r) (OrecConfirms good c) (OrecConfirms good c) n (CanOrecConfirm (home_of c) c.words r)
      (sparing_more.orec_confirms good c n r) (λ w g may s. record { value = s.value; sees = s.sees }) (records.orec_confirms good c n r)

  pub orec_clocks_all : StepLaw (Invariant good c) orec_clock_all OrecClocks n (CanOrecClock (home_of c) [])
  orec_clocks_all =
      lift good c orec_clock_all OrecClocks OrecClocks n (CanOrecClock (home_of c) []) (sparing_more.orec_clocks_all good c n)
      (λ w g may s. record { sampled = s.sampled }) (records.orec_clocks_all good c n)

  pub orec_passes : (q b : ℕ) → StepLaw (Invariant good c) (orec_pass q b) (OrecFails n) n (CanOrecPass (home_of c) q b)
  orec_passes q b =
      lift good c (orec_pass q b) (OrecFails n) (OrecFails n) n (CanOrecPass (home_of c) q b) (sparing_more.orec_passes good c n q b)
      (λ w g may s. record { own = s.own; later = s.later }) (records.orec_passes good c n q b)

  pub orec_clocks : (todo : List Cell) → StepLaw (Invariant good c) (orec_clock todo) OrecSettled n (CanOrecClock (home_of c) todo)
  orec_clocks todo =
      lift good c (orec_clock todo) OrecSettled OrecSettled n (CanOrecClock (home_of c) todo) (sparing_more.orec_clocks good c n todo)
      (λ w g may s. record { clocks = record { sampled = s.clocks.sampled }; settled = s.settled }) (records.orec_clocks good c n todo)

  pub orec_lasts : (r : ℕ) (b : ℕ) → StepLaw (Invariant good c) (orec_last r b) Nothing n (CanOrecLast (home_of c) r b)
  orec_lasts r b = lift good c (orec_last r b) Nothing Nothing n (CanOrecLast (home_of c) r b) (sparing_more.orec_lasts good c n r b) (λ w g may s. s) (records.orec_lasts good c n r b)

  pub orec_looks : (r : ℕ) → StepLaw (Invariant good c) (orec_look r) Nothing n HasOrec
  orec_looks r = lift good c (orec_look r) Nothing Nothing n HasOrec (sparing_more.orec_looks good c n r) (λ w g may s. s) (records.orec_looks good c n r)

  pub orec_limits : StepLaw (Invariant good c) orec_limit OrecClocks n HasOrec
  orec_limits = lift good c orec_limit OrecClocks OrecClocks n HasOrec (sparing_more.orec_limits good c n) (λ w g may s. record { sampled = s.sampled }) (records.orec_limits good c n)

  pub orec_locks : (r : ℕ) (version : ℕ) → StepLaw (Invariant good c) (orec_lock n r version) Nothing n (CanOrecLock version)
  orec_locks r version = lift good c (orec_lock n r version) Nothing Nothing n (CanOrecLock version) (sparing_more.orec_locks good c n r version) (λ w g may s. s) (records.orec_locks good c n r version)

  pub orec_commits : (start : ℕ) (writes : List Cell) (back : List Cell) → n < c.callers
      → StepLaw (Invariant good c) (orec_commit n start writes back) Nothing n (λ v.
      CanOrecCommit (home_of c) good c.words start writes back v × AreSpared writes v)
  orec_commits start writes back low =
      lift good c (orec_commit n start writes back) Nothing Nothing n
      (λ v. CanOrecCommit (home_of c) good c.words start writes back v × AreSpared writes v)
      (sparing_more.orec_commits good c n start writes back) (λ w g may s. s) (λ w g may.
      records.orec_commits good c n start writes back low w g may.0)

  pub orec_writes_back : (a : ℕ) (x : ℕ) → StepLaw (Invariant good c) (orec_write_back a x) Nothing n (CanOrecWriteBack a x)
  orec_writes_back a x = lift good c (orec_write_back a x) Nothing Nothing n (CanOrecWriteBack a x) (sparing_more.orec_writes_back good c n a x) (λ w g may s. s) (records.orec_writes_back good c n a x)

  pub orec_times : (r : ℕ) (version : ℕ) → StepLaw (Invariant good c) (orec_release r version) Nothing n (CanOrecTime (home_of c) r version)
  orec_times r version = lift good c (orec_release r version) Nothing Nothing n (CanOrecTime (home_of c) r version) (sparing_more.orec_times good c n r version) (λ w g may s. s) (records.orec_times good c n r version)

  pub orec_olds : (r : ℕ) (version : ℕ) → StepLaw (Invariant good c) (orec_release r version) Nothing n (CanOrecOld (home_of c) r version)
  orec_olds r version = lift good c (orec_release r version) Nothing Nothing n (CanOrecOld (home_of c) r version) (sparing_more.orec_olds good c n r version) (λ w g may s. s) (records.orec_olds good c n r version)

  pub orec_ups : (r : ℕ) (version : ℕ) → StepLaw (Invariant good c) (orec_release r version) Nothing n (CanOrecUp (home_of c) r version)
  orec_ups r version = lift good c (orec_release r version) Nothing Nothing n (CanOrecUp (home_of c) r version) (sparing_more.orec_ups good c n r version) (λ w g may s. s) (records.orec_ups good c n r version)

  pub orec_own_loads : (a : ℕ) → StepLaw (Invariant good c) (orec_own_load a) (OrecOwnLoads good c a) n (λ v. CanOrecOwnLoad (home_of c) c.words a v × IsSpared a v)
  orec_own_loads a =
      lift good c (orec_own_load a) (OrecOwnLoads good c a) (OrecOwnLoads good c a) n
      (λ v. CanOrecOwnLoad (home_of c) c.words a v × IsSpared a v) (sparing_more.orec_own_loads good c n a)
      (λ w g may s.
      spared_own a w (w.views n)
      (heap_without_fence-out (fence_of w.gate) w.heap w.history a (spared good c n w a g may.0.opens.has.runs.phase may.1)) s) (λ w g may.
      records.orec_own_loads good c n a w g may.0)

  pub orec_saves : (a : ℕ) → StepLaw (Invariant good c) (orec_save a) Nothing n (λ v. CanOrecSave (home_of c) a v × IsSpared a v)
  orec_saves a = lift good c (orec_save a) Nothing Nothing n (λ v. CanOrecSave (home_of c) a v × IsSpared a v) (sparing_more.orec_saves good c n a) (λ w g may s. s) (λ w g may. records.orec_saves good c n a w g may.0)

  pub orec_places : (a : ℕ) (x : ℕ) → StepLaw (Invariant good c) (orec_place a x) Nothing n (CanOrecPlace a)
  orec_places a x = lift good c (orec_place a x) Nothing Nothing n (CanOrecPlace a) (sparing_more.orec_places good c n a x) (λ w g may s. s) (records.orec_places good c n a x)

  pub orec_restores : (a : ℕ) (x : ℕ) → StepLaw (Invariant good c) (orec_restore a x) Nothing n (CanOrecRestore a x)
  orec_restores a x = lift good c (orec_restore a x) Nothing Nothing n (CanOrecRestore a x) (sparing_more.orec_restores good c n a x) (λ w g may s. s) (records.orec_restores good c n a x)

  pub orec_raises_clock : (least : ℕ) → n < c.callers → StepLaw (Invariant good c) (orec_raise_clock least) Nothing n (CanOrecRaiseClock least)
  orec_raises_clock least low =
      lift good c (orec_raise_clock least) Nothing Nothing n (CanOrecRaiseClock least) (sparing_more.orec_raises_clock good c n least)
      (λ w g may s. s) (records.orec_raises_clock good c n least low)

  pub ring_begins : StepLaw (Invariant good c) ring_begin (RingBegins good c) n CanRingBegin
  ring_begins =
      lift good c ring_begin (RingBegins good c) (RingBegins good c) n CanRingBegin (sparing_more.ring_begins good c n)
      (λ w g may s. record { legal = s.legal; below = s.below; seen = s.seen; front = s.front; limit = s.limit })
      (rings.ring_begins good c n)

  pub ring_loads : (a : ℕ) → StepLaw (Invariant good c) (ring_load a) Nothing n (λ v. CanRingLoad c.words a v × IsSpared a v)
  ring_loads a = lift good c (ring_load a) Nothing Nothing n (λ v. CanRingLoad c.words a v × IsSpared a v) (sparing_more.ring_loads good c n a) (λ w g may s. s) (λ w g may. rings.ring_loads good c n a w g may.0)

  pub ring_looks : StepLaw (Invariant good c) ring_look (RingLooks good c) n CanRingLook
  ring_looks =
      lift good c ring_look (RingLooks good c) (RingLooks good c) n CanRingLook (sparing_more.ring_looks good c n)
      (λ w g may s.
      record {
        passes = λ e.
            let k = s.passes e in
            record {
              value = k.value;
              sees = k.sees;
              begins =
                  record { legal = k.begins.legal; below = k.begins.below; seen = k.begins.seen; front = k.begins.front; limit = k.begins.limit };
            };
        later = s.later;
      }) (rings.ring_looks good c n)

  pub ring_words : (e i : ℕ) → StepLaw (Invariant good c) (ring_word c.ring e i) Nothing n (CanRingWord c.ring e i)
  ring_words e i = lift good c (ring_word c.ring e i) Nothing Nothing n (CanRingWord c.ring e i) (sparing_more.ring_words good c n e i) (λ w g may s. s) (rings.ring_words good c n e i)

  pub ring_agains : StepLaw (Invariant good c) (ring_again c.ring) Nothing n CanRingAgain
  ring_agains = lift good c (ring_again c.ring) Nothing Nothing n CanRingAgain (sparing_more.ring_agains good c n) (λ w g may s. s) (rings.ring_agains good c n)

  pub ring_moves : StepLaw (Invariant good c) ring_move (RingMoves good c) n (CanRingMove slot_filter)
  ring_moves =
      lift good c ring_move (RingMoves good c) (RingMoves good c) n (CanRingMove slot_filter) (sparing_more.ring_moves good c n)
      (λ w g may s.
      record {
        sees = record {
          value = s.sees.value;
          sees = s.sees.sees;
          begins = record {
            legal = s.sees.begins.legal;
            below = s.sees.begins.below;
            seen = s.sees.begins.seen;
            front = s.sees.begins.front;
            limit = s.sees.begins.limit;
          };
        };
        level = s.level;
      }) (rings.ring_moves good c n)

  pub ring_locks : StepLaw (Invariant good c) (ring_lock n) (FindsLock c n) n CanRingLock
  ring_locks = lift good c (ring_lock n) (FindsLock c n) (FindsLock c n) n CanRingLock (sparing_more.ring_locks good c n) (λ w g may s. s) (rings.ring_locks good c n)

  pub ring_ticks : StepLaw (Invariant good c) ring_tick Nothing n HasTurn
  ring_ticks = lift good c ring_tick Nothing Nothing n HasTurn (sparing_more.ring_ticks good c n) (λ w g may s. s) (rings.ring_ticks good c n)

  pub ring_slots : (e i : ℕ) (ws : List Cell) → StepLaw (Invariant good c) (ring_slot slot_filter c.ring e i ws) Nothing n (CanRingSlot e i ws)
  ring_slots e i ws = lift good c (ring_slot slot_filter c.ring e i ws) Nothing Nothing n (CanRingSlot e i ws) (sparing_more.ring_slots good c n e i ws) (λ w g may s. s) (rings.ring_slots good c n e i ws)

  pub ring_enters : (t : ℕ) → n < c.callers → StepLaw (Invariant good c) (ring_enter n t) (RingEnters good c n t) n (λ v. CanRingEnter good c.words t v × AreSpared v.ring_commit.writes v)
  ring_enters t low =
      lift good c (ring_enter n t) (RingEnters good c n t) (RingEnters good c n t) n
      (λ v. CanRingEnter good c.words t v × AreSpared v.ring_commit.writes v) (sparing_more.ring_enters good c n t)
      (λ w g may s. record { legal = s.legal; below = s.below; seen = s.seen }) (λ w g may. rings.ring_enters good c n t low w g may.0)

  pub ring_writes : (a x : ℕ) → StepLaw (Invariant good c) (ring_write a x) Nothing n (CanRingWrite a x)
  ring_writes a x = lift good c (ring_write a x) Nothing Nothing n (CanRingWrite a x) (sparing_more.ring_writes good c n a x) (λ w g may s. s) (rings.ring_writes good c n a x)

  pub ring_dones : (t : ℕ) → StepLaw (Invariant good c) (ring_done t) Nothing n (CanRingDone t)
  ring_dones t = lift good c (ring_done t) Nothing Nothing n (CanRingDone t) (sparing_more.ring_dones good c n t) (λ w g may s. s) (rings.ring_dones good c n t)

  pub ring_frees : StepLaw (Invariant good c) ring_free Nothing n CanRingFree
  ring_frees = lift good c ring_free Nothing Nothing n CanRingFree (sparing_more.ring_frees good c n) (λ w g may s. s) (rings.ring_frees good c n)

  pub look_grants : StepLaw (Invariant good c) ring_look_grant (RingLooks good c) n CanRingGrant
  look_grants =
      lift good c ring_look_grant (RingLooks good c) (RingLooks good c) n CanRingGrant (sparing_more.look_grants good c n)
      (λ w g may s.
      record {
        passes = λ e.
            let k = s.passes e in
            record {
              value = k.value;
              sees = k.sees;
              begins =
                  record { legal = k.begins.legal; below = k.begins.below; seen = k.begins.seen; front = k.begins.front; limit = k.begins.limit };
            };
        later = s.later;
      }) (ring_promotion.look_grants good c n)

  pub move_grants : StepLaw (Invariant good c) ring_move_grant (RingMoves good c) n (CanRingMoveGrant slot_filter)
  move_grants =
      lift good c ring_move_grant (RingMoves good c) (RingMoves good c) n (CanRingMoveGrant slot_filter) (sparing_more.move_grants good c n)
      (λ w g may s.
      record {
        sees = record {
          value = s.sees.value;
          sees = s.sees.sees;
          begins = record {
            legal = s.sees.begins.legal;
            below = s.sees.begins.below;
            seen = s.sees.begins.seen;
            front = s.sees.begins.front;
            limit = s.sees.begins.limit;
          };
        };
        level = s.level;
      }) (ring_promotion.move_grants good c n)

  pub begins_beside : StepLaw (Invariant good c) tml_begin (FindsBegin good c) n CanTmlBegin
  begins_beside =
      lift good c tml_begin (FindsBegin good c) (FindsBegin good c) n CanTmlBegin (sparing.tml_begins good c n)
      (λ w g may s.
      record {
        begins =
            record { legal = s.begins.legal; below = s.begins.below; seen = s.begins.seen; front = s.begins.front; limit = s.begins.limit };
        sole = s.sole;
        writer = s.writer;
        not_quiescent = s.not_quiescent;
      }) (beside.begins_beside good c n)

  pub agains_beside : StepLaw (Invariant good c) tml_again (FindsAgain good c) n CanTmlAgain
  agains_beside =
      lift good c tml_again (FindsAgain good c) (FindsAgain good c) n CanTmlAgain (sparing.tml_agains good c n)
      (λ w g may s. record { again = record { value = s.again.value; sees = s.again.sees }; sole = s.sole }) (beside.agains_beside good c n)

  pub writes_beside : (start : ℕ) → n < c.callers → StepLaw (Invariant good c) (tml_write start) (FindsSole c) n (CanTmlWrite start)
  writes_beside start low = lift good c (tml_write start) (FindsSole c) (FindsSole c) n (CanTmlWrite start) (sparing.tml_writes good c n start) (λ w g may s. s) (beside.writes_beside good c n start low)

  pub grants_beside : StepLaw (Invariant good c) tml_grant (FindsSole c) n (CanTmlGrant c.callers n)
  grants_beside = lift good c tml_grant (FindsSole c) (FindsSole c) n (CanTmlGrant c.callers n) (sparing_more.grants good c n) (λ w g may s. s) (beside.grants_beside good c n)

  pub settles_within : StepLaw (Invariant good c) settle FindsWithin n (CanSettle c.callers n)
  settles_within = lift good c settle FindsWithin FindsWithin n (CanSettle c.callers n) (sparing.settles good c n) (λ w g may s. s) (beside.settles_within good c n)
