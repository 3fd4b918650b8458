-- The turns after a schedule, caller by caller.
use Rattle.std.proofs.Common.{ℕ, zero, suc, ◌≡◌, ◌<◌, ◌≤◌, ◌+◌, Bool, true, false, List, [], ◌∷◌, ◌++◌, length, get_or, set, refl, sym, ap, ◌∙◌, arith, subst, inl, inr, length-append, add-one}
use Rattle.std.specs.Prelude.{Result, Ok, Err, replicate, ◌||◌}
use Rattle.std.proofs.lemmas.List.{length-map}
use Rattle.std.proofs.lemmas.List.Sums.{sum_by-set}
use Rattle.stm_rule.specs.declared.stm.Stm.{Stm}
use Rattle.stm_model.specs.declared.config.Config.{Config}
use Rattle.stm_model.specs.declared.alg.Alg.TheVariants.{Cgl}
use Rattle.work_script.specs.declared.workload.Go.{Go}
use Rattle.work_profile.specs.declared.policy.Policy.TheVariants.{Fixed}
use Rattle.work_script.specs.declared.workload.Version.TheVariants.{One}
use Rattle.work_script.specs.declared.workload.Header.{Header}
use Rattle.stm_answers.specs.declared.answers.Cancel.TheVariants as cancels
use Rattle.stm_answers.specs.declared.answers.Commit.TheVariants as commits
use Rattle.stm_answers.specs.declared.answers.Irrev.TheVariants as irrevs
use Rattle.stm_model.specs.declared.stop.Stop.TheVariants as stops
use Rattle.work_script.specs.declared.op.Op.TheVariants.{Irrev}
use Rattle.stm_answers.specs.CallerState.{owed}
use Rattle.stm_model.specs.AlgorithmLaws.{granted-irrevocable, irrevocable-wrote}
use Rattle.stm_tx.specs.Descs.{known}
use Rattle.work_trace.specs.declared.line.Line.{Line}
use Rattle.work_trace.specs.declared.line.Line.TheVariants.{Of, Finish}
use Rattle.work_trace.specs.declared.said.Phase.TheVariants.{Between, Inside, Closing, Quiet}
use Rattle.work_trace.specs.declared.said.Said.{Said}
use Rattle.work_trace.specs.declared.said.Said.TheVariants.{TryBegin, Reply, Stopped, TryCancel, TryIrrevocable, TryCommit, TryClose, Looked, Installed, Reserved, Idle, Dropped, Reopened}
use Rattle.work_trace.specs.Fits.{turns}
use Rattle.work_trace.specs.Places.{CallerProgress, after, granted_at, is_forced, irrevocable, writes}
use Rattle.work_trace.specs.Played.{Played}
use Rattle.work_trace.specs.PlayLaws.{append-nil, may-finish, may-wind, never-full, played-none}
use Rattle.work_trace.specs.RoundLaws.{WentRound, round-none, round-next, round-halted, round-all, rounds-cut, rounds-fit}
use Rattle.work_trace.specs.TurnLaws.{replicate-next}
use Rattle.work_trace.specs.Turns.{MaySay, MayWind, MayFinish, IsOver}
use Rattle.work_trace.specs.WholeLaws.{cut-in-schedule}
use Rattle.crossbeam_utils.specs.declared.cache_padded.CachePadded.{CachePadded}
use Rattle.work_driver.specs.declared.workers.Runner.{Runner}
use Rattle.work_driver.specs.AllWorkers.{worker_in, workers_in}
use Rattle.work_driver.proofs.WorkersLaws.{workers-set, worker-at}
use Rattle.work_driver.specs.declared.schedule.Halt.{Halt}
use Rattle.work_driver.specs.declared.schedule.Halt.TheVariants.{ClockFull, Memory}
use Rattle.work_worker.specs.declared.worker.Worker.{Worker}
use Rattle.work_driver.specs.declared.finishing.Until.{Until}
use Rattle.work_driver.specs.declared.finishing.Until.TheVariants.{NothingOpen, NothingLeft}
use Rattle.work_driver.specs.Untils.{may_until, stands_until, ready_until}
use Rattle.work_driver.specs.Schedules.{places, place_at, AreSame, debts, Plays, Goes, Rounded, Rounds, Turns, Drives}
use Rattle.work_worker.specs.Leavings.{HasNothingOpen, HasOnlyIrrevocableOpen, NothingToGiveUp, GaveUp}
use Rattle.work_worker.specs.Workers.{place_of}
use Rattle.work_driver.proofs.ScheduleLaws.{plays-none, plays-as, plays-next, plays-halt, plays-early, took-plays, took-halts, place-is, same-length}

module _ {K : Type 0} (config : Config) (may : CallerProgress → Said → Type 0) (holds : CallerProgress → Type 0) where
  pub rounded-none : (ws : List (Worker K)) (lines : List Line) → Rounded config may holds 0 ws ws lines lines
  rounded-none ws lines = record { round = λ h sizes. round-none h may holds (places ws) lines; covered = omega arith }

  module _ (n : ℕ) (us vs ws : List (Worker K)) (a b c : List Line) (round : Rounded config may holds n us vs a b) where
    -- the next caller's turns
    pub rounded-next : Goes config may holds vs ws b c n (Ok tt) → Rounded config may holds (n + 1) us ws a c
    rounded-next g = record {
      round =
          λ h sizes.
          subst (λ (j : ℕ). WentRound h may holds j (places us) (places ws) a c) (sym (add-one n))
          (round-next h may holds n g.0 (places us) (places vs) (places ws) a b c (round.round h sizes) (g.1.0 h sizes) g.2);
      covered = (let x = round.covered in let y = g.1.1 in omega (arith, x, y));
    }

    pub rounded-all : (k : ℕ) → k ≤ n → n ≤ k → Rounded config may holds k us vs a b
    rounded-all k low high = let e : n ≡ k = omega (arith, low, high) in subst (λ (j : ℕ). Rounded config may holds j us vs a b) e round

    pub rounds-halt : (halt : Halt) → Goes config may holds vs ws b c n (Err halt) → Rounds config may holds us ws a c (Err halt)
    rounds-halt (ClockFull clock) g = (
      (λ h sizes. round-halted h may holds n g.0 (places us) (places vs) (places ws) a b c (round.round h sizes) clock (g.1.0 h sizes)),
      (let x = round.covered in let y = g.1.1 in omega (arith, x, y)),
      g.1.2,
    )
    rounds-halt Memory g = tt

  -- turns of one caller, and one more of it
  module _ (us vs ws : List (Worker K)) (a b c : List Line) (n k : ℕ) (p : Plays config may us vs a b (replicate k n) (Ok tt)) where
    pub again-plays : Plays config may vs ws b c (n ∷ []) (Ok tt) → Plays config may us ws a c (replicate (k + 1) n) (Ok tt)
    again-plays q = plays-as config may us ws a c (replicate k n ++ n ∷ []) (replicate (k + 1) n) (replicate-next k n) (plays-next config may us vs ws a b c (replicate k n) (n ∷ []) p q)

    pub again-halts : (halt : Halt) → Plays config may vs ws b c (n ∷ []) (Err halt) → Goes config may holds us ws a c n (Err halt)
    again-halts halt q = (
      k + 1,
      plays-early config may us ws a c (replicate k n ++ n ∷ []) [] (replicate (k + 1) n) halt
          (append-nil (replicate k n ++ n ∷ []) ∙ replicate-next k n)
          (plays-halt config may us vs ws a b c (replicate k n) (n ∷ []) p halt q),
    )

granted-stays : (forced : Bool) (at : CallerProgress) → at.phase ≡ Inside → HasOnlyIrrevocableOpen (granted_at forced at)
granted-stays true at here = inr (here, granted-irrevocable at.alg at.wrote)
granted-stays false at here = inr (here, granted-irrevocable at.alg (at.wrote || writes Irrev 1))

-- who can't cancel its open attempt still can't, until it ends
irrevocable-stays : (at : CallerProgress) (said : Said) → at.phase ≡ Inside → irrevocable at ≡ true → MaySay at said → HasOnlyIrrevocableOpen (after at said)
irrevocable-stays at (TryBegin b) here is m = absurd (let e : Between ≡ Inside = sym m.0 ∙ here in cc)
irrevocable-stays at (Reply op reply) here is m = inr (here, irrevocable-wrote at.alg at.granted at.wrote (writes op reply) is)
irrevocable-stays at (Stopped op (stops.Conflict cause)) here is m = inl refl
irrevocable-stays at (Stopped op (stops.Full limit)) here is m = inl refl
irrevocable-stays at (Stopped op (stops.ClockFull clock)) here is m = inl refl
irrevocable-stays at (TryCancel (cancels.Cancelled time)) here is m = inl refl
irrevocable-stays at (TryCancel cancels.Irrevocable) here is m = inr (here, irrevocable-wrote at.alg at.granted at.wrote false is)
irrevocable-stays at (TryIrrevocable irrevs.Granted) here is m = granted-stays (is_forced at) at here
irrevocable-stays at (TryIrrevocable (irrevs.Busy caller status)) here is m = inr (here, is)
irrevocable-stays at (TryIrrevocable (irrevs.Taken gate)) here is m = inl refl
irrevocable-stays at (TryIrrevocable (irrevs.Conflict cause)) here is m = inl refl
irrevocable-stays at (TryIrrevocable (irrevs.ClockFull clock)) here is m = inl refl
irrevocable-stays at (TryCommit (commits.Committed time)) here is m = inl refl
irrevocable-stays at (TryCommit (commits.ReadOnly time)) here is m = inl refl
irrevocable-stays at (TryCommit (commits.Conflict cause)) here is m = inl refl
irrevocable-stays at (TryCommit (commits.Again word had now)) here is m = inr (here, is)
irrevocable-stays at (TryCommit (commits.ClockFull clock)) here is m = inl refl
irrevocable-stays at (TryClose c) here is m = absurd (let e : Between ≡ Inside = sym m.0 ∙ here in cc)
irrevocable-stays at (Looked l) here is m = absurd (let e : Closing ≡ Inside = sym m ∙ here in cc)
irrevocable-stays at (Installed alg) here is m = absurd (let e : Quiet ≡ Inside = sym m.0 ∙ here in cc)
irrevocable-stays at (Reserved reads writes) here is m = absurd (let e : Between ≡ Inside = sym m.0 ∙ here in cc)
irrevocable-stays at Idle here is m = absurd (let e : Between ≡ Inside = sym m.0 ∙ here in cc)
irrevocable-stays at Dropped here is m = absurd m
irrevocable-stays at Reopened here is m = absurd m

still-inside : (at : CallerProgress) → HasOnlyIrrevocableOpen at → (HasNothingOpen at → ⊥) → (at.phase ≡ Inside) × (irrevocable at ≡ true)
still-inside at (inl e) unclosed = absurd (unclosed e)
still-inside at (inr e) unclosed = e

module _ {K : Type 0} where
  place-set : (ws : List (Worker K)) (n : ℕ) (w : Worker K) → n < length ws → place_at (set ws n w) n ≡ place_of w
  place-set [] n w lt = absurd (omega (arith, lt))
  place-set (x ∷ ws) zero w lt = refl
  place-set (x ∷ ws) (suc n) w lt = place-set ws n w (omega (arith, lt))

  places-same : (ws : List (Worker K)) (n : ℕ) (d w : Worker K) → place_of w ≡ place_of (get_or ws n d) → places (set ws n w) ≡ places ws
  places-same [] n d w e = refl
  places-same (x ∷ ws) zero d w e = ap (λ p. p ∷ places ws) e
  places-same (x ∷ ws) (suc n) d w e = ap (λ ps. place_of x ∷ ps) (places-same ws n d w e)

  debts-same : (ws : List (Worker K)) (n : ℕ) (d w : Worker K) → n < length ws → known w.desc ≡ known (get_or ws n d).desc → debts (set ws n w) ≤ debts ws
  debts-same ws n d w lt e =
      let f : Worker K → ℕ = λ x. owed (known x.desc) in
      let s = sum_by-set f ws n w d lt in
      let o : f w ≡ f (get_or ws n d) = ap owed e in
      equal (debts (set ws n w)) (debts ws) (f (get_or ws n d)) (f w) s o
    where
      equal : (a b old new : ℕ) → a + old ≡ b + new → new ≡ old → a ≤ b
      equal a b old new e h = omega (arith, e, h)

  module _ (good : List ℕ → Type 0) (stm : Stm K) (n : ℕ) where
    -- caller n has nothing to give up
    pub left-goes : (ws : List (Worker K)) (d w : Worker K) (lines : List Line) → n < length ws → NothingToGiveUp good stm (get_or ws n d) w
        → Goes stm.config MayWind HasOnlyIrrevocableOpen ws (set ws n w) lines lines n (Ok tt)
    left-goes ws d w lines lt l = (
      0,
      (
        (λ h sizes. subst (λ ps. Played h MayWind (places ws) ps lines lines []) (sym (places-same ws n d w l.now)) (played-none h MayWind (places ws) lines)),
        let x = debts-same ws n d w lt l.knows in omega (arith, x),
      ),
      subst HasOnlyIrrevocableOpen (sym (place-set ws n w lt)) l.irrevocable_open,
    )

    -- what caller n had open is given up
    pub gave-goes : (ws : List (Worker K)) (d w : Worker K) (said : Said) (old new : List Line) → n < length ws → GaveUp good stm (get_or ws n d) said w → new ≡ old ++ Of n said ∷ []
        → Goes stm.config MayWind HasOnlyIrrevocableOpen ws (set ws n w) old new n (Ok tt)
    gave-goes ws d w said old new lt t lines = (
      1,
      took-plays good stm MayWind MayWind ws (set ws n w) old new n said lt (record { was = d; now = w; turned = t.turned; is = refl; lines = lines }) t.turned.here t.calm,
      inl (ap (λ (p : CallerProgress). p.phase) (place-set ws n w lt) ∙ t.nothing_open),
    )

    module _ (ws vs : List (Worker K)) (old new : List Line) (lt : n < length ws) where
      at-of : (d : Worker K) → place_at ws n ≡ place_of (get_or ws n d)
      at-of d = place-is ws n d lt

      -- caller n goes on to the end of its attempt
      pub wind-turn : (d : Worker K) → HasOnlyIrrevocableOpen (place_at ws n) → (HasNothingOpen (place_of (get_or ws n d)) → ⊥) → Turns good stm ws vs old new n (Ok tt)
          → Plays stm.config MayWind ws vs old new (n ∷ []) (Ok tt) × HasOnlyIrrevocableOpen (place_at vs n)
      wind-turn d closing unclosed h =
          let t = h.1 in
          let still = still-inside (place_at ws n) closing (λ e. unclosed (subst HasNothingOpen (at-of d) e)) in
          let at = place_of (get_or ws n t.was) in
          let here : at.phase ≡ Inside = ap (λ (p : CallerProgress). p.phase) (sym (at-of t.was)) ∙ still.0 in
          let is : irrevocable at ≡ true = ap irrevocable (sym (at-of t.was)) ∙ still.1 in (
            took-plays good stm MaySay MayWind ws vs old new n h.0 lt t (may-wind at h.0 here is t.turned.here) h.2,
            subst (λ x. HasOnlyIrrevocableOpen (place_at x n)) (sym t.is) (subst HasOnlyIrrevocableOpen (sym (place-set ws n t.now lt ∙ t.turned.now)) (irrevocable-stays at h.0 here is t.turned.here)),
          )

      pub wind-halt : (d : Worker K) (halt : Halt) → HasOnlyIrrevocableOpen (place_at ws n) → (HasNothingOpen (place_of (get_or ws n d)) → ⊥) → Turns good stm ws vs old new n (Err halt)
          → Plays stm.config MayWind ws vs old new (n ∷ []) (Err halt)
      wind-halt d (ClockFull clock) closing unclosed h =
          let t = h.1 in
          let still = still-inside (place_at ws n) closing (λ e. unclosed (subst HasNothingOpen (at-of d) e)) in
          let at = place_of (get_or ws n t.was) in
          took-halts good stm MaySay MayWind ws vs old new n h.0 lt t
          (may-wind at h.0 (ap (λ (p : CallerProgress). p.phase) (sym (at-of t.was)) ∙ still.0) (ap irrevocable (sym (at-of t.was)) ∙ still.1) t.turned.here) clock h.2 t.turned.here
      wind-halt d Memory closing unclosed h = tt

      still-busy : (d e : Worker K) → (IsOver (place_of (get_or ws n d)) → ⊥) → IsOver (place_of (get_or ws n e)) → ⊥
      still-busy d e still over = still (subst IsOver (sym (at-of e) ∙ at-of d) over)

      -- caller n goes on
      pub finish-turn : (d : Worker K) → (IsOver (place_of (get_or ws n d)) → ⊥) → Turns good stm ws vs old new n (Ok tt) → Plays stm.config MayFinish ws vs old new (n ∷ []) (Ok tt)
      finish-turn d still h =
          let t = h.1 in
          took-plays good stm MaySay MayFinish ws vs old new n h.0 lt t (may-finish (place_of (get_or ws n t.was)) h.0 (still-busy d t.was still) t.turned.here) h.2

      pub finish-halt : (d : Worker K) (halt : Halt) → (IsOver (place_of (get_or ws n d)) → ⊥) → Turns good stm ws vs old new n (Err halt) → Plays stm.config MayFinish ws vs old new (n ∷ []) (Err halt)
      finish-halt d (ClockFull clock) still h =
          let t = h.1 in
          took-halts good stm MaySay MayFinish ws vs old new n h.0 lt t (may-finish (place_of (get_or ws n t.was)) h.0 (still-busy d t.was still) t.turned.here) clock h.2 t.turned.here
      finish-halt d Memory still h = tt

-- one turn more of caller n, who did not yet stand so
module _ {K : Type 0} (good : List ℕ → Type 0) (stm : Stm K) (n : ℕ) (ws vs : List (Worker K)) (old new : List Line) (lt : n < length ws) where
  pub until-turn : (u : Until) (d : Worker K) → ready_until u (place_at ws n) → (stands_until u (place_of (get_or ws n d)) → ⊥) → Turns good stm ws vs old new n (Ok tt)
      → Plays stm.config (may_until u) ws vs old new (n ∷ []) (Ok tt) × ready_until u (place_at vs n)
  until-turn NothingOpen d ready still h = wind-turn good stm n ws vs old new lt d ready still h
  until-turn NothingLeft d ready still h = (finish-turn good stm n ws vs old new lt d still h, tt)

  pub until-halt : (u : Until) (d : Worker K) (halt : Halt) → ready_until u (place_at ws n) → (stands_until u (place_of (get_or ws n d)) → ⊥) → Turns good stm ws vs old new n (Err halt)
      → Plays stm.config (may_until u) ws vs old new (n ∷ []) (Err halt)
  until-halt NothingOpen d halt ready still h = wind-halt good stm n ws vs old new lt d halt ready still h
  until-halt NothingLeft d halt ready still h = finish-halt good stm n ws vs old new lt d halt still h

-- one runner of many gave up what it had open, where it could
module _ {K : Type 0} (good : List ℕ → Type 0) (stm : Stm K) (rs : List (CachePadded (Runner K))) (n : ℕ) (d r : CachePadded (Runner K)) (lt : n < length (workers_in rs)) where
  pub none-given-up : (lines : List Line) → NothingToGiveUp good stm (worker_in (get_or rs n d)) (worker_in r)
      → Goes stm.config MayWind HasOnlyIrrevocableOpen (workers_in rs) (workers_in (set rs n r)) lines lines n (Ok tt)
  none-given-up lines h =
      subst (λ ws. Goes stm.config MayWind HasOnlyIrrevocableOpen (workers_in rs) ws lines lines n (Ok tt)) (sym (workers-set rs n r))
      (left-goes good stm n (workers_in rs) (worker_in d) (worker_in r) lines lt (subst (λ (x : Worker K). NothingToGiveUp good stm x (worker_in r)) (sym (worker-at rs n d lt)) h))

  pub given-up : (said : Said) (old new : List Line) → GaveUp good stm (worker_in (get_or rs n d)) said (worker_in r)
      → new ≡ old ++ Of n said ∷ []
      → Goes stm.config MayWind HasOnlyIrrevocableOpen (workers_in rs) (workers_in (set rs n r)) old new n (Ok tt)
  given-up said old new h lines =
      subst (λ ws. Goes stm.config MayWind HasOnlyIrrevocableOpen (workers_in rs) ws old new n (Ok tt)) (sym (workers-set rs n r))
      (gave-goes good stm n (workers_in rs) (worker_in d) (worker_in r) said old new lt (subst (λ (x : Worker K). GaveUp good stm x said (worker_in r)) (sym (worker-at rs n d lt)) h) lines)

-- nothing has to be made ready for the turns to the end
pub ready-none : {K : Type 0} (config : Config) (ws : List (Worker K)) (lines : List Line) (n : ℕ) → Goes config (may_until NothingLeft) (ready_until NothingLeft) ws ws lines lines n (Ok tt)
ready-none config ws lines n = (0, plays-none config MayFinish ws lines, tt)

-- a header of these sizes
abbrev sized : Config → Header
sized c = record { version = One; words = c.words; callers = c.callers; records = c.records; ring = c.ring; reads = c.reads; writes = c.writes; clock = c.clock; alg = Cgl; regions = []; policy = Fixed }

module _ {K : Type 0} (config : Config) (schedule : List Go) (ws us : List (Worker K)) (a : List Line) where
  -- the clock was full in the schedule
  pub cut-first : (halt : Halt) → Plays config MaySay ws us [] a (turns schedule) (Err halt) → Drives config schedule ws us a (Err halt)
  cut-first (ClockFull clock) p =
      ((λ h sizes. cut-in-schedule h (places ws) (places us) [] [] schedule a clock (p.0 h sizes)), (let x = p.1 in omega (arith, x)), p.2)
  cut-first Memory p = tt

  module _ (vs : List (Worker K)) (b : List Line) (p : Plays config MaySay ws us [] a (turns schedule) (Ok tt)) where
    -- while attempts and closings end none is found full
    pub cut-second : (halt : Halt) → Rounds config MayWind HasNothingOpen us vs (a ++ Finish ∷ []) b (Err halt) → Drives config schedule ws vs b (Err halt)
    cut-second (ClockFull clock) r = (
      (λ h sizes. let q = (r.0 h sizes).halted in absurd (never-full h (places us) q.more (places vs) clock q.path q.full)),
      (let x = p.1 in let y = r.1 in let l = length-append a (Finish ∷ []) in omega (arith, x, y, l)),
      r.2,
    )
    cut-second Memory r = tt

    module _ (xs : List (Worker K)) (c : List Line) (w : Rounds config MayWind HasNothingOpen us vs (a ++ Finish ∷ []) b (Ok tt)) (same : AreSame true us vs) where
      most : length (places vs) ≤ length us
      most = let e = length-map vs place_of in let l = same-length true us vs same in omega (arith, e, l)

      -- in the turns to the end
      pub cut-third : (halt : Halt) → Rounds config MayFinish IsOver vs xs b c (Err halt) → Drives config schedule ws xs c (Err halt)
      cut-third (ClockFull clock) r = (
        (λ h sizes. rounds-cut h (places ws) (places us) (places vs) (places xs) schedule a b c (length us) (p.0 h sizes) (w.round h sizes) most clock (r.0 h sizes)),
        (let x = p.1 in let y = w.covered in let z = r.1 in let l = length-append a (Finish ∷ []) in omega (arith, x, y, z, l)),
        r.2,
      )
      cut-third Memory r = tt

      -- all phases
      pub all-phases : Rounds config MayFinish IsOver vs xs b c (Ok tt) → AreSame true vs xs → Drives config schedule ws xs c (Ok tt)
      all-phases r also =
          let n = same-length true us vs same in
          let many = length-map xs place_of in
          let k = same-length true vs xs also in
          let over : length (places xs) ≤ length us = omega (arith, many, k, n) in
          let h = sized config in (
            (λ h sizes rows told.
                rounds-fit h (places ws) (places us) (places vs) (places xs) schedule a b c (length us) (p.0 h sizes) (w.round h sizes) most
                rows (subst (λ (j : ℕ). WentRound h MayFinish IsOver j (places vs) (places xs) b c) (sym n) (r.round h sizes)) over told),
            round-all h MayFinish IsOver (length vs) (places vs) (places xs) b c (r.round h (refl, refl, refl, refl, refl, refl)) (omega (arith, many, k)),
          )

replicate-both : (j k n : ℕ) → replicate j n ++ replicate k n ≡ replicate (j + k) n
replicate-both zero k n = ap (λ (i : ℕ). replicate i n) (let e : k ≡ zero + k = omega arith in e)
replicate-both (suc j) k n = ap (λ ns. n ∷ ns) (replicate-both j k n) ∙ ap (λ (i : ℕ). replicate i n) (let e : suc (j + k) ≡ suc j + k = omega arith in e)

-- turns of one caller, and then others of the same
pub goes-on : {K : Type 0} (config : Config) (may : CallerProgress → Said → Type 0) (first last : CallerProgress → Type 0) (us vs ws : List (Worker K)) (a b c : List Line) (n : ℕ) (r : Result (Unit {0}) Halt)
    → Goes config may first us vs a b n (Ok tt) → Goes config may last vs ws b c n r → Goes config may last us ws a c n r
goes-on config may first last us vs ws a b c n (Ok x) p q = (
  p.0 + q.0,
  plays-as config may us ws a c (replicate p.0 n ++ replicate q.0 n) (replicate (p.0 + q.0) n) (replicate-both p.0 q.0 n)
      (plays-next config may us vs ws a b c (replicate p.0 n) (replicate q.0 n) p.1 q.1),
  q.2,
)
goes-on config may first last us vs ws a b c n (Err halt) p q = (
  p.0 + q.0,
  plays-early config may us ws a c (replicate p.0 n ++ replicate q.0 n) [] (replicate (p.0 + q.0) n) halt (append-nil (replicate p.0 n ++ replicate q.0 n) ∙ replicate-both p.0 q.0 n)
      (plays-halt config may us vs ws a b c (replicate p.0 n) (replicate q.0 n) p.1 halt q.1),
)

-- the turns to the end, or up to a full clock
pub third : {K : Type 0} (config : Config) (schedule : List Go) (ws us : List (Worker K)) (a : List Line) (vs : List (Worker K))
    (b : List Line) (p : Plays config MaySay ws us [] a (turns schedule) (Ok tt)) (xs : List (Worker K)) (c : List Line)
    → Rounds config MayWind HasNothingOpen us vs (a ++ Finish ∷ []) b (Ok tt) → AreSame true us vs → AreSame true vs xs
    → (r : Result (Unit {0}) Halt) → Rounds config MayFinish IsOver vs xs b c r → Drives config schedule ws xs c r
third config schedule ws us a vs b p xs c w same also (Ok x) r = all-phases config schedule ws us a vs b p xs c w same r also
third config schedule ws us a vs b p xs c w same also (Err halt) r = cut-third config schedule ws us a vs b p xs c w same halt r
