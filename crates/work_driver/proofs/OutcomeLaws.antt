-- From the workers before the first turn to what a run came to.
use Rattle.std.proofs.Common.{ℕ, suc, ◌≡◌, ◌<◌, ◌≤◌, List, [], ◌∷◌, ◌++◌, length, get_or, take, drop, refl, sym, ap, ◌∙◌, arith, subst, inl, inr}
use Rattle.std.specs.Prelude.{Bool, true, false, Result, Ok, Err, OnOk, All, IsPermutation}
use Rattle.std.proofs.lemmas.List.{append-nil}
use Rattle.std.proofs.lemmas.List.Elements.{All-head, All-tail}
use Rattle.work_profile.specs.declared.policy.Policy.{Policy}
use Rattle.stm_rule.specs.declared.stm.Stm.{Stm}
use Rattle.crossbeam_utils.specs.declared.cache_padded.CachePadded.{CachePadded}
use Rattle.crossbeam_utils.specs.Padded.{padded_value}
use Rattle.stm_model.specs.declared.config.Config.{Config}
use Rattle.work_script.specs.declared.report.Report.{Report}
use Rattle.work_script.specs.declared.workload.Go.{Go}
use Rattle.work_script.specs.declared.workload.Workload.{Workload}
use Rattle.work_script.specs.Parts.{ReportReplays}
use Rattle.stm_rule.specs.Closings.{Ended, Closes}
use Rattle.work_trace.specs.declared.line.Line.{Line}
use Rattle.work_trace.specs.declared.said.Phase.TheVariants.{Between}
use Rattle.work_trace.specs.Fits.{all_told, first_places}
use Rattle.work_trace.specs.Fits as fits
use Rattle.work_trace.specs.Places.{items_of}
use Rattle.work_trace.specs.Turns.{IsOver}
use Rattle.work_worker.specs.declared.worker.Worker.{Worker}
use Rattle.work_worker.specs.Leavings.{IsPart}
use Rattle.work_worker.specs.Workers.{place_of, Sound}
use Rattle.work_driver.specs.declared.outcome.RunOutcome.{RunOutcome}
use Rattle.work_driver.specs.declared.outcome.RunOutcome.TheVariants.{ToEnd, ToLimit, OutOfMemory}
use Rattle.work_driver.specs.declared.schedule.Halt.{Halt}
use Rattle.work_driver.specs.declared.schedule.Halt.TheVariants.{ClockFull, Memory}
use Rattle.work_driver.specs.declared.workers.Runner.{Runner}
use Rattle.work_driver.specs.AllWorkers.{worker_in, workers_in, AreCallers, descs_of, rows_of, how_all, sooner, AreCoveredFor, IsReady, IsThrough, Finished}
use Rattle.work_driver.specs.ClosedRuns.{Reported, CutShort, Came}
use Rattle.work_script.specs.Workloads.{config_of}
use Rattle.work_script.specs.declared.workload.Item.{Item}
use Rattle.work_driver.specs.Partings.{parted}
use Rattle.work_driver.specs.Preparings.{ParsedItem, Forms, WorkloadKeeps, IsPrepared}
use Rattle.work_driver.specs.Runs.{AreFirst, ArePart, IsShown, IsStopped, IsTraced, HasRun, HasStepped, RanSome}
use Rattle.work_driver.specs.Schedules.{places, AreSame, AreSound, Drives}
use Rattle.work_driver.proofs.IdleLaws.{idle-length, idle-still}
use Rattle.work_driver.proofs.LimitLaws.{MetSome, full, cut-short}
use Rattle.work_driver.proofs.PartingLaws.{all-cons, written}
use Rattle.work_driver.proofs.PartLaws.{ran-some}
use Rattle.work_driver.proofs.PreparedLaws.{AreOwn, Begun, begun, own-callers, own-same, sizes-of}
use Rattle.work_driver.proofs.ReportLaws.{shown, shown-some, history-of}
use Rattle.work_driver.proofs.ScheduleLaws.{same-length}
use Rattle.work_driver.proofs.StandingLaws.{Each, Stood, stood-each, rows-few}
use Rattle.work_driver.proofs.WorkersLaws.{workers-length}

module _ {K : Type 0} where
  told-rows : (ws : List (Worker K)) → all_told (places ws) ≡ rows_of ws
  told-rows [] = refl
  told-rows (w ∷ ws) = ap (λ rows. w.rows.items ++ rows) (told-rows ws)

  -- each ran on its thread until it was through
  abbrev AllThrough : List (CachePadded (Runner K)) → Type 0
  AllThrough [] = Unit {0}
  AllThrough (r ∷ rs) = IsThrough (worker_in r) (padded_value r).how × AllThrough rs

  met-some : (rs : List (CachePadded (Runner K))) (clock : ℕ) → AllThrough rs → how_all rs ≡ Err (ClockFull clock) → MetSome (workers_in rs) clock
  met-some [] clock h is = absurd cc
  met-some (r ∷ rs) clock h is = by (padded_value r).how (how_all rs) h.0 is (met-some rs clock h.1)
    where
      by : (a b : Result (Unit {0}) Halt) → IsThrough (worker_in r) a → sooner a b ≡ Err (ClockFull clock) → (b ≡ Err (ClockFull clock) → MetSome (workers_in rs) clock) → MetSome (workers_in (r ∷ rs)) clock
      by (Ok x) b through is more = inr (more is)
      by (Err (ClockFull found)) (Ok x) through is more = (let same : found ≡ clock = cc in inl (subst (λ (c : ℕ). IsThrough (worker_in r) (Err (ClockFull c))) same through))
      by (Err (ClockFull found)) (Err (ClockFull other)) through is more = (let same : found ≡ clock = cc in inl (subst (λ (c : ℕ). IsThrough (worker_in r) (Err (ClockFull c))) same through))
      by (Err (ClockFull found)) (Err Memory) through is more = absurd cc
      by (Err Memory) b through is more = absurd cc

  none-left : (rs : List (CachePadded (Runner K))) → AllThrough rs → All (λ (w : Worker K). w.phase ≡ Between) (workers_in rs) → how_all rs ≡ Ok tt → All IsOver (places (workers_in rs))
  none-left [] h between is = λ i d lt. absurd (omega (arith, lt))
  none-left (r ∷ rs) h between is = by (padded_value r).how (how_all rs) h.0 is (none-left rs h.1 (All-tail P (worker_in r) (workers_in rs) between))
    where
      P : Worker K → Type 0
      P w = w.phase ≡ Between

      by : (a b : Result (Unit {0}) Halt) → IsThrough (worker_in r) a → sooner a b ≡ Ok tt → (b ≡ Ok tt → All IsOver (places (workers_in rs))) → All IsOver (places (workers_in (r ∷ rs)))
      by (Ok x) b through is more = all-cons IsOver (place_of (worker_in r)) (places (workers_in rs)) (All-head (λ (w : Worker K). w.phase ≡ Between) (worker_in r) (workers_in rs) between, through.0, through.1) (more is)
      by (Err (ClockFull found)) (Ok x) through is more = absurd cc
      by (Err (ClockFull found)) (Err (ClockFull other)) through is more = absurd cc
      by (Err (ClockFull found)) (Err Memory) through is more = absurd cc
      by (Err Memory) b through is more = absurd cc

  over-between : (ws : List (Worker K)) → All IsOver (places ws) → All (λ (w : Worker K). w.phase ≡ Between) ws
  over-between [] over = λ i d lt. absurd (omega (arith, lt))
  over-between (w ∷ ws) over =
      all-cons (λ (w : Worker K). w.phase ≡ Between) w ws (All-head IsOver (place_of w) (places ws) over).0 (over-between ws (All-tail IsOver (place_of w) (places ws) over))

  pub how-between : (ws : List (Worker K)) (how : Result (Unit {0}) Halt) → All (λ (w : Worker K). w.phase ≡ Between) ws → OnOk how (All (λ (w : Worker K). w.phase ≡ Between) ws)
  how-between ws (Ok x) between = between
  how-between ws (Err halt) between = tt

module _ {K : Type 0} (good : List ℕ → Type 0) (cut : Bool) (policy : Policy) (w : Workload) (stm : Stm K) (items : All (ParsedItem w.header) w.items) (sized : stm.config ≡ config_of w.header) where
  -- the workers after their turns, as closing wants them
  pub record Turned (ran : List (Worker K)) : Type 0 where
    pub sound : AreSound good stm ran
    pub own : AreOwn cut policy w 0 ran
    pub callers : AreCallers 0 ran
    pub count : length ran ≡ stm.config.callers
    pub rows : length (rows_of ran) ≤ length w.items

  pub turned : (begun ran : List (Worker K)) → Begun good cut policy w stm items sized begun → AreSame cut begun ran → AreSound good stm ran → Turned ran
  turned begun ran b same sound =
      let own = own-same cut policy w 0 begun ran same b.own in
      let count = same-length cut begun ran same in
      let many = b.count in
      let sizes = ap (λ (c : Config). c.callers) sized in
      record {
        sound = sound;
        own = own;
        callers = own-callers cut policy w 0 ran own;
        count = omega (arith, count, many, sizes);
        rows = rows-few good cut policy w stm sized 0 ran (stood-each good cut policy w stm sized 0 ran sound own);
      }

  stands : (ran : List (Worker K)) → Turned ran → Each (Stood good cut policy w stm sized) 0 ran
  stands ran t = stood-each good cut policy w stm sized 0 ran t.sound t.own

  -- the workers, lent as a slice for their turns, and what came back
  pub record Done (rs ran left : List (CachePadded (Runner K))) : Type 0 where
    pub begun : Begun good cut policy w stm items sized (workers_in rs)
    pub is : left ≡ ran
    pub turned : Turned (workers_in left)

  pub done : WorkloadKeeps good w → (parts : List (List Item)) → parts ≡ parted w.header.callers w.items
      → (rs lent ran : List (CachePadded (Runner K))) (n : ℕ) → IsPrepared w.header policy parts stm (workers_in rs) → lent ≡ rs
      → length lent ≡ n
      → AreSame cut (workers_in lent) (workers_in ran) → AreSound good stm (workers_in ran) → Done rs ran (take n (ran ++ drop (length ran) rs))
  done keeps parts parting rs lent ran n p same long kept sound =
      let first = begun good cut policy w stm items sized keeps parts (workers_in rs) parting p in
      let also = ap length same in
      let count = same-length cut (workers_in lent) (workers_in ran) kept in
      let a = workers-length lent in
      let b = workers-length ran in
      let is = written n ran rs (omega (arith, also, long, count, a, b)) (omega (arith, also, long)) in
      record {
        begun = first;
        is = is;
        turned = subst (λ l. Turned (workers_in l)) (sym is) (turned (workers_in rs) (workers_in ran) first (subst (λ l. AreSame cut (workers_in l) (workers_in ran)) same kept) sound);
      }

  -- what all threads did
  pub record RanAll (lent ran : List (CachePadded (Runner K))) : Type 0 where
    pub same : AreSame false (workers_in lent) (workers_in ran)
    pub sound : AreSound good stm (workers_in ran)
    pub between : All (λ (w : Worker K). w.phase ≡ Between) (workers_in ran)
    pub through : AllThrough ran
    pub covered : AreCoveredFor stm (workers_in lent) (workers_in ran)

  pub ran-all : (lent ran : List (CachePadded (Runner K))) → length ran ≡ length lent → ((i : ℕ) (d : CachePadded (Runner K)) → i < length lent → Finished good stm (get_or lent i d) (get_or ran i d)) → RanAll lent ran
  ran-all [] [] len h = record { same = tt; sound = λ i d lt. absurd (omega (arith, lt)); between = λ i d lt. absurd (omega (arith, lt)); through = tt; covered = tt }
  ran-all [] (s ∷ ran) len h = absurd cc
  ran-all (r ∷ lent) [] len h = absurd cc
  ran-all (r ∷ lent) (s ∷ ran) len h =
      let one = h 0 r (omega arith) in
      let rest = ran-all lent ran (omega (arith, len)) (λ i d lt. h (suc i) d (omega (arith, lt))) in
      record {
        same = (one.same, rest.same);
        sound = all-cons (Sound good stm) (worker_in s) (workers_in ran) one.sound rest.sound;
        between = all-cons (λ (w : Worker K). w.phase ≡ Between) (worker_in s) (workers_in ran) one.between rest.between;
        through = (one.through, rest.through);
        covered = (one.covered, rest.covered);
      }

  pub all-ready : (rs : List (CachePadded (Runner K))) → AreSound good stm (workers_in rs) → All (IsReady good stm) rs
  all-ready [] s = λ i d lt. absurd (omega (arith, lt))
  all-ready (r ∷ rs) s =
      all-cons (IsReady good stm) r rs (record { sound = All-head (Sound good stm) (worker_in r) (workers_in rs) s }) (all-ready rs (All-tail (Sound good stm) (worker_in r) (workers_in rs) s))

  module _ (theorem : ReportReplays good) (forms : Forms good w) where
    -- what was done: with nothing open the first items of each caller
    ran-first : (ran : List (Worker K)) (closed : Ended) → Turned ran → All (λ (w : Worker K). w.phase ≡ Between) ran → CutShort good stm ran closed → RanSome cut AreFirst policy w closed
    ran-first ran closed t between c =
        ran-some good cut policy w stm items sized theorem forms AreFirst (λ (w : Worker K). w.phase ≡ Between) (λ n v x s h p. (v.items_left.now, sym s.own.all ∙ h.did.calm p))
        ran c.after c.words closed (stands ran t) between c.idle (idle-length good stm ran c.after c.idle ∙ t.count) c.closes

    -- and else a part of them
    ran-part : (ran : List (Worker K)) (closed : Ended) → Turned ran → CutShort good stm ran closed → RanSome cut ArePart policy w closed
    ran-part ran closed t c =
        ran-some good cut policy w stm items sized theorem forms ArePart (λ (w : Worker K). Unit {0}) (λ n v x s h p. (v.items_left.now, subst (λ l. IsPart l v.items_left.now h.did.items) s.own.all h.did.part))
        ran c.after c.words closed (stands ran t) (λ i d lt. tt) c.idle (idle-length good stm ran c.after c.idle ∙ t.count) c.closes

    -- nothing is open, and the memory is closed
    stopped-between : (ran : List (Worker K)) (closed : Ended) → Turned ran → All (λ (w : Worker K). w.phase ≡ Between) ran → CutShort good stm ran closed → IsStopped cut AreFirst policy w closed
    stopped-between ran closed t between c = record {
      opening = c.closes.opening ∙ ap (λ (x : Config). x.clock) sized;
      history = history-of good w forms stm.config sized (descs_of c.after) c.words closed c.closes;
      ran = ran-first ran closed t between c;
    }

    -- what `run` came to
    pub has-run : cut ≡ false → (lent ran : List (CachePadded (Runner K))) (how : Result (Unit {0}) Halt) (outcome : RunOutcome)
        → Begun good cut policy w stm items sized (workers_in lent) → RanAll lent ran → Turned (workers_in ran) → how ≡ how_all ran
        → Came good stm (workers_in ran) how outcome → HasRun policy w outcome
    has-run uncut lent ran how outcome b r t is came = by how (sym is) outcome came
      where
        by : (h : Result (Unit {0}) Halt) → how_all ran ≡ h → (o : RunOutcome) → Came good stm (workers_in ran) h o → HasRun policy w o
        by (Ok x) e (ToEnd report closed) c =
            subst (λ b. IsShown b policy w report closed) uncut (shown good cut policy w stm items sized theorem forms (workers_in ran)
            c.words closed report (stands (workers_in ran) t) t.count (none-left ran r.through r.between e) c.closes c.is)
        by (Ok x) e (ToLimit clock closed) c = absurd c
        by (Ok x) e (OutOfMemory closed) c =
            (let q = c.1 in
            inl (
              c.0,
              subst (λ b. IsShown b policy w c.0 closed) uncut (shown good cut policy w stm items sized theorem forms (workers_in ran) q.words
                  closed c.0 (stands (workers_in ran) t) t.count (none-left ran r.through r.between e) q.closes q.is),
            ))
        by (Err (ClockFull found)) e (ToEnd report closed) c = absurd c
        by (Err (ClockFull found)) e (ToLimit clock closed) c =
            let after = idle-still good stm (workers_in ran) c.1.after r.between c.1.idle in
            full good cut policy w stm items sized forms (workers_in lent) (workers_in ran) c.1.words closed clock
            (subst (λ b. RanSome b AreFirst policy w closed) uncut (ran-first (workers_in ran) closed t r.between c.1)) b.covered r.covered
            (stands (workers_in ran) t) r.between t.count (met-some ran clock r.through (e ∙ ap (λ k. Err (ClockFull k)) (sym c.0)))
            (subst (λ ws. Closes good stm.config (descs_of ws) c.1.words closed) after c.1.closes)
        by (Err (ClockFull found)) e (OutOfMemory closed) c = absurd c
        by (Err Memory) e (ToEnd report closed) c = absurd c
        by (Err Memory) e (ToLimit clock closed) c = absurd c
        by (Err Memory) e (OutOfMemory closed) c = inr (subst (λ b. IsStopped b AreFirst policy w closed) uncut (stopped-between (workers_in ran) closed t r.between c))

    module _ (ruled : policy ≡ w.header.policy) (may : cut ≡ true) where
      whole-shown : (ran : List (Worker K)) (report : Report) (closed : Ended) → Turned ran → All IsOver (places ran) → Reported good stm ran report closed → IsShown true w.header.policy w report closed
      whole-shown ran report closed t over r =
          subst (λ b. IsShown b w.header.policy w report closed) may (subst (λ (p : Policy). IsShown cut p w report closed) ruled
          (shown good cut policy w stm items sized theorem forms ran r.words closed report (stands ran t) t.count over r.closes r.is))

      traced : (begun ran : List (Worker K)) (gos : List Go) (lines : List Line) (report : Report) (closed : Ended) → gos ≡ w.schedule
          → Begun good cut policy w stm items sized begun → Turned ran → Drives stm.config gos begun ran lines (Ok tt)
          → Reported good stm ran report closed → IsTraced w lines report closed
      traced begun ran gos lines report closed is b t drives r =
          let whole = drives.0 w.header (sizes-of stm.config w.header sized) report.rows (subst (λ rows. IsPermutation rows report.rows) (sym (told-rows ran)) r.is.moved) in
          let sorted = subst (λ ps. fits.IsWhole w.header ps gos lines report.rows) (b.starts ruled) whole in
          record {
            fits = subst (λ s. fits.IsWhole w.header (first_places w) s lines report.rows) is sorted;
            shown = whole-shown ran report closed t drives.1 r;
          }

      -- all was done, and no report of it was made
      stopped-whole : (begun ran : List (Worker K)) (gos : List Go) (lines : List Line) (report : Report) (closed : Ended)
          → Begun good cut policy w stm items sized begun → Turned ran → Drives stm.config gos begun ran lines (Ok tt)
          → Reported good stm ran report closed
          → IsStopped true ArePart w.header.policy w closed
      stopped-whole begun ran gos lines report closed b t d r = record {
        opening = r.closes.opening ∙ ap (λ (x : Config). x.clock) sized;
        history = history-of good w forms stm.config sized (descs_of ran) r.words closed r.closes;
        ran = record {
          part = w;
          header = refl;
          each = λ n lt. ([], (items_of n w.items, sym (append-nil (items_of n w.items)), inl refl));
          report = report;
          shown = shown-some true w.header.policy w report closed (whole-shown ran report closed t d.1 r);
        };
      }

      -- what `step` came to
      pub has-stepped : (begun ran : List (Worker K)) (gos : List Go) (lines : List Line) (how : Result (Unit {0}) Halt)
          (outcome : RunOutcome) → gos ≡ w.schedule → Begun good cut policy w stm items sized begun → Turned ran
          → Drives stm.config gos begun ran lines how
          → Came good stm ran how outcome → HasStepped w lines outcome
      has-stepped begun ran gos lines (Ok x) (ToEnd report closed) is b t d c = traced begun ran gos lines report closed is b t d c
      has-stepped begun ran gos lines (Ok x) (ToLimit clock closed) is b t d c = absurd c
      has-stepped begun ran gos lines (Ok x) (OutOfMemory closed) is b t d c = stopped-whole begun ran gos lines c.0 closed b t d c.1
      has-stepped begun ran gos lines (Err (ClockFull found)) (ToEnd report closed) is b t d c = absurd c
      has-stepped begun ran gos lines (Err (ClockFull found)) (ToLimit clock closed) is b t d c =
          cut-short good cut policy w stm items sized forms ruled begun ran gos lines clock closed is b
          (subst (λ k. Drives stm.config gos begun ran lines (Err (ClockFull k))) (sym c.0) d) c.1
          (subst (λ b. RanSome b ArePart policy w closed) may (ran-part ran closed t c.1))
      has-stepped begun ran gos lines (Err (ClockFull found)) (OutOfMemory closed) is b t d c = absurd c
      has-stepped begun ran gos lines (Err Memory) (ToEnd report closed) is b t d c = absurd c
      has-stepped begun ran gos lines (Err Memory) (ToLimit clock closed) is b t d c = absurd c
      has-stepped begun ran gos lines (Err Memory) (OutOfMemory closed) is b t d c =
          record {
            opening = c.closes.opening ∙ ap (λ (x : Config). x.clock) sized;
            history = history-of good w forms stm.config sized (descs_of c.after) c.words closed c.closes;
            ran = subst (λ b. RanSome b ArePart w.header.policy w closed) may
                (subst (λ (p : Policy). RanSome cut ArePart p w closed) ruled (ran-part ran closed t c));
          }

pub driven-between : {K : Type 0} (config : Config) (gos : List Go) (begun ran : List (Worker K)) (lines : List Line)
    (how : Result (Unit {0}) Halt) → Drives config gos begun ran lines how → OnOk how (All (λ (w : Worker K). w.phase ≡ Between) ran)
driven-between config gos begun ran lines (Ok x) d = over-between ran d.1
driven-between config gos begun ran lines (Err halt) d = tt
