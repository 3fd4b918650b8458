-- From one turn of one worker to turns of many, one after the other.
use Rattle.std.proofs.Common.{ℕ, zero, suc, ◌≡◌, ◌<◌, ◌≤◌, ◌+◌, ◌*◌, ◌^◌, List, [], ◌∷◌, ◌++◌, length, get_or, set, refl, sym, ap, ◌∙◌, arith, subst, inl, inr, length-append}
use Rattle.std.specs.Prelude.{Bool, true, false, Some, None, Ok, Err, MatchOption}
use Rattle.std.proofs.lemmas.List.{append-nil, get_or-map}
use Rattle.std.proofs.lemmas.List.Sums.{sum_by-set}
use Rattle.stm_rule.specs.declared.stm.Stm.{Stm}
use Rattle.stm_model.specs.declared.config.Config.{Config}
use Rattle.stm_answers.specs.declared.answers.Begin.TheVariants as begins
use Rattle.stm_answers.specs.declared.answers.Commit.TheVariants as commits
use Rattle.stm_answers.specs.declared.answers.Irrev.TheVariants as irrevs
use Rattle.stm_model.specs.declared.stop.Stop.TheVariants as stops
use Rattle.stm_answers.specs.CallerState.{owed}
use Rattle.stm_rule.specs.Callers.{Handle, IsSameCaller}
use Rattle.stm_tx.specs.Descs.{known}
use Rattle.work_trace.specs.declared.line.Line.{Line}
use Rattle.work_trace.specs.declared.line.Line.TheVariants.{Of}
use Rattle.work_trace.specs.declared.said.Phase.TheVariants.{Between}
use Rattle.rule_base.specs.declared.seats.Who.{Who}
use Rattle.work_worker.specs.Courses.{is_cut}
use Rattle.work_trace.specs.declared.said.Said.{Said}
use Rattle.work_trace.specs.declared.said.Said.TheVariants.{TryBegin, Reply, Stopped, TryCancel, TryIrrevocable, TryCommit, TryClose, Looked, Installed, Reserved, Idle, Dropped, Reopened}
use Rattle.work_trace.specs.Fits.{no_place}
use Rattle.work_trace.specs.Places.{CallerProgress, after, clock_of}
use Rattle.work_trace.specs.Played.{Played, Halted}
use Rattle.work_trace.specs.PlayLaws.{played-none, played-one, halted-one, played-append, halted-append, played-as, halted-early}
use Rattle.work_trace.specs.Turns.{HasSizes, MaySay}
use Rattle.crossbeam_utils.specs.declared.cache_padded.CachePadded.{CachePadded}
use Rattle.std.proofs.lemmas.List.Elements.{All-set}
use Rattle.work_driver.specs.declared.workers.Runner.{Runner}
use Rattle.work_driver.specs.AllWorkers.{worker_in, workers_in}
use Rattle.work_driver.proofs.WorkersLaws.{workers-set, worker-at}
use Rattle.work_driver.specs.declared.schedule.Halt.{Halt}
use Rattle.work_driver.specs.declared.schedule.Halt.TheVariants.{ClockFull, Memory}
use Rattle.work_worker.specs.declared.worker.Worker.{Worker}
use Rattle.work_driver.specs.Schedules.{places, place_at, AreSame, AreSound, debts, AreCovered, FoundFull, Plays, Took, Turns}
use Rattle.work_worker.proofs.InstallLaws.{installed-on, knows-append, uncut-append, went-append}
use Rattle.work_worker.specs.Workers.{place_of, IsSame, Loaded, Sound, Turned}

-- who found the clock full has no attempt open
pub full-between : (at : CallerProgress) (said : Said) (clock : ℕ) → clock_of said ≡ Some clock → MaySay at said → (after at said).phase ≡ Between
full-between at (TryBegin (begins.Begun alg)) clock e m = absurd cc
full-between at (TryBegin (begins.Closed gate)) clock e m = absurd cc
full-between at (TryBegin (begins.Held word)) clock e m = absurd cc
full-between at (TryBegin (begins.ClockFull c)) clock e m = m.0
full-between at (Reply op reply) clock e m = absurd cc
full-between at (Stopped op (stops.Conflict cause)) clock e m = absurd cc
full-between at (Stopped op (stops.Full limit)) clock e m = absurd cc
full-between at (Stopped op (stops.ClockFull c)) clock e m = refl
full-between at (TryCancel c) clock e m = absurd cc
full-between at (TryIrrevocable irrevs.Granted) clock e m = absurd cc
full-between at (TryIrrevocable (irrevs.Busy caller status)) clock e m = absurd cc
full-between at (TryIrrevocable (irrevs.Taken gate)) clock e m = absurd cc
full-between at (TryIrrevocable (irrevs.Conflict cause)) clock e m = absurd cc
full-between at (TryIrrevocable (irrevs.ClockFull c)) clock e m = refl
full-between at (TryCommit (commits.Committed time)) clock e m = absurd cc
full-between at (TryCommit (commits.ReadOnly time)) clock e m = absurd cc
full-between at (TryCommit (commits.Conflict cause)) clock e m = absurd cc
full-between at (TryCommit (commits.Again word had now)) clock e m = absurd cc
full-between at (TryCommit (commits.ClockFull c)) clock e m = refl
full-between at (TryClose c) clock e m = absurd cc
full-between at (Looked l) clock e m = absurd cc
full-between at (Installed alg) clock e m = absurd cc
full-between at (Reserved reads writes) clock e m = absurd cc
full-between at Idle clock e m = absurd cc
full-between at Dropped clock e m = absurd m
full-between at Reopened clock e m = absurd m

one-more : (a b c d : ℕ) (old new : List Line) (n : ℕ) (said : Said) → a + c ≡ b + d → d ≤ c + 2 → new ≡ old ++ Of n said ∷ [] → a + 2 * length old ≤ b + 2 * length new
one-more a b c d old new n said e h lines = let l = ap length lines ∙ length-append old (Of n said ∷ []) in omega (arith, e, h, l)

module _ {K : Type 0} where
  same-twice : (d e f : Handle K) → IsSameCaller d e → IsSameCaller e f → IsSameCaller d f
  same-twice d e f a b = record { table = b.table ∙ a.table; who = b.who ∙ a.who }

  pub self-same : {cut : Bool} (w : Worker K) → IsSame cut w w
  self-same w =
      record {
        kept = record { same = record { table = refl; who = refl }; all = refl; regions = refl; policy = refl };
        course = [];
        went = λ h sizes. refl;
        uncut = λ e. tt;
        installs = sym (append-nil (known w.desc).installs);
        alone = λ one. refl;
      }

  -- what is so of a course without a cut is so of any
  same-more : {b : Bool} (v w : Worker K) → IsSame b v w → IsSame true v w
  same-more v w s = record { kept = s.kept; course = s.course; went = s.went; uncut = λ e. absurd cc; installs = s.installs; alone = s.alone }

  -- a turn of the schedule, or of a thread, cuts nothing
  pub same-said : (at : CallerProgress) (said : Said) (v w : Worker K) → MaySay at said → IsSame (is_cut said) v w → IsSame false v w
  same-said at (TryBegin b) v w m s = s
  same-said at (Reply op reply) v w m s = s
  same-said at (Stopped op stop) v w m s = s
  same-said at (TryCancel c) v w m s = s
  same-said at (TryIrrevocable r) v w m s = s
  same-said at (TryCommit c) v w m s = s
  same-said at (TryClose c) v w m s = s
  same-said at (Looked l) v w m s = s
  same-said at (Installed alg) v w m s = s
  same-said at (Reserved reads writes) v w m s = s
  same-said at Idle v w m s = s
  same-said at Dropped v w m s = absurd m
  same-said at Reopened v w m s = absurd m

  pub worker-trans : {cut : Bool} (u v w : Worker K) → IsSame cut u v → IsSame cut v w → IsSame cut u w
  worker-trans u v w a b = record {
    kept = record {
      same = same-twice u.desc v.desc w.desc a.kept.same b.kept.same;
      all = b.kept.all ∙ a.kept.all;
      regions = b.kept.regions ∙ a.kept.regions;
      policy = b.kept.policy ∙ a.kept.policy;
    };
    course = a.course ++ b.course;
    went = λ h sizes. went-append h (place_of u) (place_of v) (place_of w) a.course b.course (a.went h sizes) (b.went h (subst (λ c. HasSizes c h) (sym (ap (λ x. x.config) a.kept.same.who)) sizes));
    uncut = λ e. uncut-append a.course b.course (a.uncut e) (b.uncut e);
    installs = b.installs ∙ installed-on (known u.desc).installs (known v.desc).installs a.course b.course a.installs;
    alone = λ one. knows-append (known u.desc).alg (known v.desc).alg (known w.desc).alg a.course b.course (a.alone one) (b.alone (ap (λ (x : Who K). x.config.callers) a.kept.same.who ∙ one));
  }

  pub same-refl : (ws : List (Worker K)) → AreSame true ws ws
  same-refl [] = tt
  same-refl (w ∷ ws) = (self-same w, same-refl ws)

  pub same-trans : (us vs ws : List (Worker K)) → AreSame true us vs → AreSame true vs ws → AreSame true us ws
  same-trans [] [] [] a b = tt
  same-trans [] [] (w ∷ ws) a b = absurd b
  same-trans [] (v ∷ vs) ws a b = absurd a
  same-trans (u ∷ us) [] ws a b = absurd a
  same-trans (u ∷ us) (v ∷ vs) [] a b = absurd b
  same-trans (u ∷ us) (v ∷ vs) (w ∷ ws) a b =
      (worker-trans u v w a.0 b.0, same-trans us vs ws a.1 b.1)

  pub same-set : (ws : List (Worker K)) (n : ℕ) (d w : Worker K) → n < length ws → IsSame true (get_or ws n d) w → AreSame true ws (set ws n w)
  same-set [] n d w lt h = tt
  same-set (x ∷ ws) zero d w lt h = (h, same-refl ws)
  same-set (x ∷ ws) (suc n) d w lt h = (self-same x, same-set ws n d w (omega (arith, lt)) h)

  pub same-length : (cut : Bool) (ws vs : List (Worker K)) → AreSame cut ws vs → length ws ≡ length vs
  same-length cut [] [] a = refl
  same-length cut [] (v ∷ vs) a = absurd a
  same-length cut (w ∷ ws) [] a = absurd a
  same-length cut (w ∷ ws) (v ∷ vs) a = ap suc (same-length cut ws vs a.1)

  found-set : (ws : List (Worker K)) (n : ℕ) (w : Worker K) (clock : ℕ) → n < length ws → (w.phase ≡ Between) × (2 ^ 62 ≤ clock) × Loaded (known w.desc) clock → FoundFull (set ws n w) clock
  found-set [] n w clock lt h = absurd (omega (arith, lt))
  found-set (x ∷ ws) zero w clock lt h = inl h
  found-set (x ∷ ws) (suc n) w clock lt h = inr (found-set ws n w clock (omega (arith, lt)) h)

  -- where caller n stands
  pub place-is : (ws : List (Worker K)) (n : ℕ) (d : Worker K) → n < length ws → place_at ws n ≡ place_of (get_or ws n d)
  place-is ws n d lt = get_or-map place_of ws n d no_place lt

  module _ (config : Config) (may : CallerProgress → Said → Type 0) where
    pub plays-none : (ws : List (Worker K)) (lines : List Line) → Plays config may ws ws lines lines [] (Ok tt)
    plays-none ws lines = ((λ h sizes. played-none h may (places ws) lines), omega arith)

    pub plays-as : (ws vs : List (Worker K)) (a b : List Line) (order other : List ℕ) → order ≡ other → Plays config may ws vs a b order (Ok tt) → Plays config may ws vs a b other (Ok tt)
    plays-as ws vs a b order other e p = ((λ h sizes. played-as h may (places ws) (places vs) a b order other e (p.0 h sizes)), p.1)

    -- more was to come
    pub plays-early : (ws vs : List (Worker K)) (a b : List Line) (order more other : List ℕ) (halt : Halt) → order ++ more ≡ other
        → Plays config may ws vs a b order (Err halt) → Plays config may ws vs a b other (Err halt)
    plays-early ws vs a b order more other (ClockFull clock) e p = ((λ h sizes. halted-early h may (places ws) (places vs) a b order more other clock e (p.0 h sizes)), p.1, p.2)
    plays-early ws vs a b order more other Memory e p = tt

    module _ (us vs ws : List (Worker K)) (a b c : List Line) (first second : List ℕ) (p : Plays config may us vs a b first (Ok tt)) where
      pub plays-next : Plays config may vs ws b c second (Ok tt) → Plays config may us ws a c (first ++ second) (Ok tt)
      plays-next q =
          ((λ h sizes. played-append h may (places us) (places vs) (places ws) a b c first second (p.0 h sizes) (q.0 h sizes)), let x = p.1 in let y = q.1 in omega (arith, x, y))

      pub plays-halt : (halt : Halt) → Plays config may vs ws b c second (Err halt) → Plays config may us ws a c (first ++ second) (Err halt)
      plays-halt (ClockFull clock) q =
          ((λ h sizes. halted-append h may (places us) (places vs) (places ws) a b c first second clock (p.0 h sizes) (q.0 h sizes)), (let x = p.1 in let y = q.1 in omega (arith, x, y)), q.2)
      plays-halt Memory q = tt

  module _ (good : List ℕ → Type 0) (stm : Stm K) where
    module _ (asked may : CallerProgress → Said → Type 0) (ws vs : List (Worker K)) (old new : List Line) (n : ℕ) (said : Said) (lt : n < length ws)
        (t : Took good stm asked ws vs old new n said) (here : may (place_of (get_or ws n t.was)) said) where
      covered : AreCovered ws vs old new
      covered =
          let f : Worker K → ℕ = λ w. owed (known w.desc) in
          subst (λ x. AreCovered ws x old new) (sym t.is)
          (one-more (debts (set ws n t.now)) (debts ws) (f (get_or ws n t.was)) (f t.now) old new n said (sum_by-set f ws n t.now t.was lt) t.turned.owes t.lines)

      pub took-plays : clock_of said ≡ None → Plays stm.config may ws vs old new (n ∷ []) (Ok tt)
      took-plays calm = (
        (λ h sizes. subst (λ x. Played h may (places ws) (places x) old new (n ∷ [])) (sym t.is)
            (played-one h may place_of ws n t.was t.now said old new lt here (t.turned.fair h sizes) t.turned.now t.lines calm)),
        covered,
      )

      pub took-halts : (clock : ℕ) → clock_of said ≡ Some clock → MaySay (place_of (get_or ws n t.was)) said → Plays stm.config may ws vs old new (n ∷ []) (Err (ClockFull clock))
      took-halts clock full says =
          let between = ap (λ (p : CallerProgress). p.phase) t.turned.now ∙ full-between (place_of (get_or ws n t.was)) said clock full says in
          let found = subst (λ o. MatchOption o (Unit {0}) (λ c. (2 ^ 62 ≤ c) × Loaded (known t.now.desc) c)) full t.turned.found in (
            (λ h sizes. subst (λ x. Halted h may (places ws) (places x) old new (n ∷ []) clock) (sym t.is)
                (halted-one h may place_of ws n t.was t.now said old new lt here (t.turned.fair h sizes) t.turned.now t.lines clock full)),
            covered,
            subst (λ x. FoundFull x clock) (sym t.is) (found-set ws n t.now clock lt (between, found.0, found.1)),
          )

    -- a turn in the schedule
    pub turns-play : (ws vs : List (Worker K)) (old new : List Line) (n : ℕ) → n < length ws → Turns good stm ws vs old new n (Ok tt) → Plays stm.config MaySay ws vs old new (n ∷ []) (Ok tt)
    turns-play ws vs old new n lt h = took-plays MaySay MaySay ws vs old new n h.0 lt h.1 h.1.turned.here h.2

    pub turns-halt : (ws vs : List (Worker K)) (old new : List Line) (n : ℕ) (halt : Halt) → n < length ws → Turns good stm ws vs old new n (Err halt) → Plays stm.config MaySay ws vs old new (n ∷ []) (Err halt)
    turns-halt ws vs old new n (ClockFull clock) lt h = took-halts MaySay MaySay ws vs old new n h.0 lt h.1 h.1.turned.here clock h.2 h.1.turned.here
    turns-halt ws vs old new n Memory lt h = tt

pub still-below : {K : Type 0} (ws vs : List (Worker K)) (n : ℕ) → AreSame true ws vs → n < length ws → n < length vs
still-below ws vs n same lt = let e = same-length true ws vs same in omega (arith, e, lt)

-- one runner of many
pub sound-at : {K : Type 0} (good : List ℕ → Type 0) (stm : Stm K) (rs : List (CachePadded (Runner K))) (n : ℕ) (d : CachePadded (Runner K)) → n < length (workers_in rs) → AreSound good stm (workers_in rs)
    → Sound good stm (worker_in (get_or rs n d))
sound-at good stm rs n d lt s = subst (Sound good stm) (worker-at rs n d lt) (s n (worker_in d) lt)

-- one runner of many is another now
module _ {K : Type 0} (good : List ℕ → Type 0) (stm : Stm K) (rs : List (CachePadded (Runner K))) (n : ℕ) (d r : CachePadded (Runner K)) where
  pub set-sound : AreSound good stm (workers_in rs) → Sound good stm (worker_in r) → AreSound good stm (workers_in (set rs n r))
  set-sound s h = subst (AreSound good stm) (sym (workers-set rs n r)) (All-set (Sound good stm) (workers_in rs) n (worker_in r) h s)

  module _ (lt : n < length (workers_in rs)) where
    pub set-same : {b : Bool} → IsSame b (worker_in (get_or rs n d)) (worker_in r) → AreSame true (workers_in rs) (workers_in (set rs n r))
    set-same h =
        subst (AreSame true (workers_in rs)) (sym (workers-set rs n r)) (same-set (workers_in rs) n (worker_in d) (worker_in r) lt
        (subst (λ (x : Worker K). IsSame true x (worker_in r)) (sym (worker-at rs n d lt))
        (same-more (worker_in (get_or rs n d)) (worker_in r) h)))

    -- it took a turn
    pub took : (may : CallerProgress → Said → Type 0) (said : Said) (old new : List Line) → Turned good stm may (worker_in (get_or rs n d)) said (worker_in r) → new ≡ old ++ Of n said ∷ []
        → Took good stm may (workers_in rs) (workers_in (set rs n r)) old new n said
    took may said old new t lines = record {
      was = worker_in d;
      now = worker_in r;
      turned = subst (λ (x : Worker K). Turned good stm may x said (worker_in r)) (sym (worker-at rs n d lt)) t;
      is = workers-set rs n r;
      lines = lines;
    }
