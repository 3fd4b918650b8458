-- From workers whose items are all done to the report.
use Rattle.std.proofs.Common.{ℕ, zero, suc, ◌≡◌, ◌≤◌, ◌++◌, true, false, List, [], ◌∷◌, length, get_or, drop, map, refl, sym, ap, ◌∙◌, arith, subst}
use Rattle.std.specs.Prelude.{Bool, All, Contains, sum_by, IsPermutation, slice_index_or, Result, Ok, Err, IfErr}
use Rattle.std.proofs.lemmas.List.{length-map}
use Rattle.std.proofs.lemmas.List.Elements.{All-head, All-tail}
use Rattle.std.proofs.lemmas.List.Sums.{sum_by-cons}
use Rattle.work_profile.specs.declared.policy.Policy.{Policy}
use Rattle.stm_rule.specs.declared.stm.Stm.{Stm}
use Rattle.stm_model.specs.declared.alg.Alg.{Alg}
use Rattle.stm_model.specs.declared.config.Config.{Config}
use Rattle.stm_model.specs.Histories.{Entry, made_by, memory_at, IsLegal}
use Rattle.data_regions.specs.declared.region.Region.{Region}
use Rattle.data_regions.specs.Regions.{AllWellFormed}
use Rattle.work_script.specs.declared.report.Report.{Report}
use Rattle.work_script.specs.declared.report.Row.{Row}
use Rattle.work_script.specs.declared.workload.Item.{Item}
use Rattle.work_script.specs.declared.workload.Workload.{Workload}
use Rattle.work_script.specs.Parts.{Part, PartIn, IsGathered, ReportReplays, Worked, RowOf, RowIn, by_kind, all_rows}
use Rattle.work_script.specs.Reports.{rows_of as own_rows}
use Rattle.work_script.specs.Reports.{regions_of, scripts_of, script_of, nonzero, zeros, counted, Shows, RowFits}
use Rattle.stm_rule.specs.Callers.{Handle}
use Rattle.stm_rule.specs.Closings.{Ended, Closes, Told, AllTold, installs_of}
use Rattle.stm_answers.specs.CallerState.{caller_of}
use Rattle.stm_tx.specs.Descs.{known}
use Rattle.work_trace.specs.Places.{items_of}
use Rattle.work_trace.specs.Turns.{IsOver}
use Rattle.work_worker.specs.declared.worker.Worker.{Worker}
use Rattle.work_worker.specs.Courses.{all_installed}
use Rattle.work_worker.specs.Installs.{InstallsBy}
use Rattle.work_worker.proofs.InstallLaws.{courses-install}
use Rattle.work_worker.specs.Workers.{place_of}
use Rattle.work_driver.specs.Preparings.{ParsedItem, Forms}
use Rattle.work_trace.specs.Adapting.{policy_for}
use Rattle.work_driver.specs.AllWorkers.{descs_of, rows_of}
use Rattle.work_driver.specs.ClosedRuns.{IsReport}
use Rattle.work_script.specs.Workloads.{config_of}
use Rattle.work_driver.specs.Runs.{AreInstalls, IsHistory, IsShown, IsShownBy}
use Rattle.work_driver.specs.Schedules.{places}
use Rattle.work_driver.proofs.HistoryLaws.{dealt, dealt-all, all-below, made-own, made-within}
use Rattle.work_driver.proofs.AlongLaws.{goes-along}
use Rattle.work_driver.proofs.KindLaws.{kinds, kinds-each}
use Rattle.work_driver.proofs.PartingLaws.{all-cons, scripts-own}
use Rattle.work_driver.proofs.StandingLaws.{Each, Stood, stood-caller, stood-works, stood-todo, stood-within}

drop-none : {A : Type 0} (n : ℕ) (xs : List A) → [] ≡ drop n xs → length xs ≤ n
drop-none n [] h = omega arith
drop-none zero (x ∷ xs) h = absurd cc
drop-none (suc n) (x ∷ xs) h = let r = drop-none n xs h in omega arith

-- the rows of a caller, whose scripts another list has too
pub reworked : (good : List ℕ → Type 0) (opening : List ℕ) (regions : List Region) (all items : List Item) (n : ℕ) (made seen : List Entry) (front : ℕ) (rows : List Row)
    → scripts_of n all ≡ scripts_of n items → Worked good opening regions (script_of all) n made seen front rows → Worked good opening regions (script_of items) n made seen front rows
reworked good opening regions all items n made seen front rows same h = record {
  writers = h.writers;
  each = λ i d lt. row (get_or rows i d) (h.mine i d lt) (h.each i d lt);
  mine = h.mine;
  numbered = h.numbered;
  ordered = h.ordered;
  places = h.places;
}
  where
    script : (r : Row) → r.caller ≡ n → script_of all r ≡ script_of items r
    script r own = ap (λ k. slice_index_or (scripts_of k all) r.seq []) own ∙ (ap (λ s. slice_index_or s r.seq []) same ∙ ap (λ k. slice_index_or (scripts_of k items) r.seq []) (sym own))

    row : (r : Row) → r.caller ≡ n → RowIn good opening regions (script_of all) made seen front r → RowIn good opening regions (script_of items) made seen front r
    row r own at = subst (λ s. by_kind r.kind ((e : Entry) × Contains made e × RowOf good (length opening) regions s r e) ((r.place ≤ front) × RowFits regions s r (memory_at r.place seen opening))) (script r own) at

-- what is said of the history of a memory that was closed
pub history-of : {K : Type 0} (good : List ℕ → Type 0) (w : Workload) → Forms good w → (config : Config) → config ≡ config_of w.header
    → (ds : List (Handle K)) (ws : List ℕ) (closed : Ended) → Closes good config ds ws closed → IsHistory w closed
history-of good w forms config sized ds ws closed c =
    let l = c.legal in
    let legal : IsLegal (AllWellFormed (regions_of w.header)) (zeros config.words) config.clock closed.history =
    record {
      ascending = l.ascending;
      entries = l.entries;
      reads = l.reads;
      numbered = l.numbered;
      good_always = λ s. forms (memory_at s closed.history (zeros config.words)) (l.good_always s);
      words_always = l.words_always;
    } in
    record {
      legal = subst (λ (x : Config). IsLegal (AllWellFormed (regions_of w.header)) (zeros x.words) x.clock closed.history) sized legal;
      times = c.times;
    }

module _ {K : Type 0} (good : List ℕ → Type 0) (cut : Bool) (policy : Policy) (w : Workload) (stm : Stm K) (items : All (ParsedItem w.header) w.items) (sized : stm.config ≡ config_of w.header) where
  part_of : Worker K → Part
  part_of r = record { caller = caller_of r.desc.who.role; made = (known r.desc).made; seen = (known r.desc).seen; front = (known r.desc).front; rows = r.rows.items }

  parts-callers : (n : ℕ) (rs : List (Worker K)) → Each (Stood good cut policy w stm sized) n rs → map (λ (p : Part). p.caller) (map part_of rs) ≡ counted n (length rs)
  unfolding part_of
  parts-callers n [] h = refl
  parts-callers n (r ∷ rs) h = let head = stood-caller good cut policy w stm sized n r h.0 in let rest = parts-callers (suc n) rs h.1 in cc

  parts-rows : (rs : List (Worker K)) → all_rows (map part_of rs) ≡ rows_of rs
  unfolding part_of
  parts-rows [] = refl
  parts-rows (r ∷ rs) = ap (λ l. r.rows.items ++ l) (parts-rows rs)

  -- what the caller n ends with is its part of the history
  part-in : (n : ℕ) (r : Worker K) (closed : Ended) → Stood good cut policy w stm sized n r → Told closed n r.desc → IsOver (place_of r) → PartIn good w closed.history (part_of r)
  unfolding part_of
  part-in n r closed s told over =
      let u = r in
      let own = sym (stood-caller good cut policy w stm sized n r s) in
      let made : (known u.desc).made ≡ made_by n closed.history = told.made in
      let within = stood-within good cut policy w stm sized n r s in
      let nothing : [] ≡ drop (length u.rows.items) (scripts_of n w.items) = sym (ap (scripts_of n) over.1) ∙ stood-todo good cut policy w stm sized n r s in
      let count = drop-none (length u.rows.items) (scripts_of n w.items) nothing in
      let whole : length u.rows.items ≡ length (scripts_of n w.items) = omega arith in
      record {
        worked = subst (λ k. Worked good (zeros w.header.words) (regions_of w.header) (script_of w.items) k (known u.desc).made (known u.desc).seen (known u.desc).front u.rows.items) own
            (reworked good (zeros w.header.words) (regions_of w.header) (items_of n w.items) w.items n (known u.desc).made
            (known u.desc).seen (known u.desc).front u.rows.items (scripts-own n w.items)
            (stood-works good cut policy w stm sized n r s over.0));
        begins = told.seen;
        within = λ e h. made-within n closed.history e (subst (λ l. Contains l e) made h);
        owned = subst (λ k. All (λ (e : Entry). e.caller ≡ k) (known u.desc).made) own (subst (All (λ (e : Entry). e.caller ≡ n)) (sym made) (made-own n closed.history));
        whole = whole ∙ ap (λ k. length (scripts_of k w.items)) own;
      }

  parts-in : (n : ℕ) (rs : List (Worker K)) (closed : Ended) → Each (Stood good cut policy w stm sized) n rs → AllTold closed n (descs_of rs) → All IsOver (places rs) → All (PartIn good w closed.history) (map part_of rs)
  parts-in n [] closed h told over = λ i d lt. absurd (omega arith)
  parts-in n (r ∷ rs) closed h told over =
      all-cons (PartIn good w closed.history) (part_of r) (map part_of rs)
      (part-in n r closed h.0 told.0 (All-head IsOver (place_of r) (places rs) over))
      (parts-in (suc n) rs closed h.1 told.1 (All-tail IsOver (place_of r) (places rs) over))

  dealt-parts : (count : Entry → ℕ) (n : ℕ) (rs : List (Worker K)) (closed : Ended) → AllTold closed n (descs_of rs)
      → sum_by (λ (p : Part). sum_by count p.made) (map part_of rs) ≡ dealt count n (length rs) closed.history
  unfolding part_of
  dealt-parts count n [] closed told = refl
  dealt-parts count n (r ∷ rs) closed told =
      let made : (known r.desc).made ≡ made_by n closed.history = told.0.made in
      let head = ap (sum_by count) made in
      let rest = dealt-parts count (suc n) rs closed told.1 in
      let cons = sum_by-cons (λ (p : Part). sum_by count p.made) (part_of r) (map part_of rs) in
      omega arith

  -- all that the callers made is the history, each entry once
  pub all-made : (count : Entry → ℕ) (rs : List (Worker K)) (ws : List ℕ) (closed : Ended) → length rs ≡ stm.config.callers
      → Closes good stm.config (descs_of rs) ws closed → dealt count 0 (length rs) closed.history ≡ sum_by count closed.history
  all-made count rs ws closed len c = ap (λ m. dealt count 0 m closed.history) len ∙ dealt-all count stm.config.callers closed.history (all-below stm.config.callers closed.history c.nobody_else)

  -- each caller has installed what the text says, and what its policy asked for
  installs-all : (rows : List Row) (n : ℕ) (rs : List (Worker K)) → Each (Stood good cut policy w stm sized) n rs → All IsOver (places rs) → Each (λ k p. kinds (own_rows k rows) ≡ kinds p.rows) n (map part_of rs)
      → AreInstalls cut true policy w rows n (map (λ (d : Handle K). installs_of d.view) (descs_of rs))
  unfolding part_of
  installs-all rows n [] h over told = tt
  installs-all rows n (r ∷ rs) h over told =
      let own = h.0.own in
      let by = courses-install cut w.header own.start (place_of r) own.course w.header.alg (known r.desc).alg own.fresh own.went own.uncut own.alone (All-head IsOver (place_of r) (places rs) over) in (
        record {
          more = all_installed own.course;
          first = own.installs;
          done = true;
          all = λ e. refl;
          by = subst (λ k. InstallsBy cut w.header.callers true (policy_for policy n) w.header.alg (items_of n w.items) k (all_installed own.course)) (sym told.0)
              (subst (λ l. InstallsBy cut w.header.callers true (policy_for policy n) w.header.alg l (kinds r.rows.items) (all_installed own.course)) own.left
              (subst (λ p. InstallsBy cut w.header.callers true p w.header.alg own.start.left (kinds r.rows.items) (all_installed own.course)) own.by by));
        },
        installs-all rows (suc n) rs h.1 (All-tail IsOver (place_of r) (places rs) over) told.1,
      )

  descs-length : (rs : List (Worker K)) → length (descs_of rs) ≡ length rs
  descs-length [] = refl
  descs-length (r ∷ rs) = ap suc (descs-length rs)

  pub shown : ReportReplays good → Forms good w → (rs : List (Worker K)) (ws : List ℕ) (closed : Ended) (report : Report)
      → Each (Stood good cut policy w stm sized) 0 rs → length rs ≡ stm.config.callers → All IsOver (places rs)
      → Closes good stm.config (descs_of rs) ws closed
      → IsReport (rows_of rs) ws report → IsShown cut policy w report closed
  shown theorem forms rs ws closed report stood len over c r =
      let parts = map part_of rs in
      let gathered : IsGathered good w closed.history closed.clock parts report = record {
        items = λ i d lt. (items i d lt).1;
        legal = subst (λ (x : Config). IsLegal good (zeros x.words) x.clock closed.history) sized c.legal;
        times = c.times;
        callers = parts-callers 0 rs stood ∙ ap (counted 0) (len ∙ ap (λ (x : Config). x.callers) sized);
        each = parts-in 0 rs closed stood c.told over;
        gathers = λ count. sym (dealt-parts count 0 rs closed c.told ∙ all-made count rs ws closed len c);
        moved = subst (λ l. IsPermutation l report.rows) (sym (parts-rows rs)) r.moved;
        ordered = r.ordered;
        memory = r.memory ∙ ap (nonzero 0) (c.words ∙ ap (λ (x : Config). memory_at closed.clock closed.history (zeros x.words)) sized);
      } in
      let both = theorem w closed.history closed.clock parts report gathered in
      record {
        replays = both.0;
        shows = subst (λ k. Shows closed.history k closed.clock w report) (sym (c.opening ∙ ap (λ (x : Config). x.clock) sized)) both.1;
        history = history-of good w forms stm.config sized (descs_of rs) ws closed c;
        callers = ap length c.installs ∙ (length-map (descs_of rs) (λ (d : Handle K). installs_of d.view) ∙ (descs-length rs ∙ (len ∙ ap (λ (x : Config). x.callers) sized)));
        along = goes-along good w closed.history closed.clock parts report gathered w.header.clock both.0 both.1;
        installs = subst (AreInstalls cut true policy w report.rows 0) (sym c.installs) (installs-all report.rows 0 rs stood over (kinds-each good w closed.history closed.clock parts report gathered both.0));
      }

-- what is so of a whole run is so of a run of some items
pub shown-some : (cut : Bool) (policy : Policy) (w : Workload) (report : Report) (closed : Ended) → IsShown cut policy w report closed → IsShownBy cut false policy w report closed
shown-some cut policy w report closed s = record { replays = s.replays; shows = s.shows; history = s.history; callers = s.callers; along = s.along; installs = some 0 closed.installs s.installs }
  where
    some : (n : ℕ) (all : List (List Alg)) → AreInstalls cut true policy w report.rows n all → AreInstalls cut false policy w report.rows n all
    some n [] h = tt
    some n (installs ∷ all) h = (record { more = h.0.more; first = h.0.first; done = h.0.done; all = λ e. absurd cc; by = h.0.by }, some (suc n) all h.1)

-- what doesn't depend on the error
pub if-err-any : {A E P : Type 0} (r : Result A E) → P → IfErr r (λ e. P)
if-err-any (Ok a) p = tt
if-err-any (Err e) p = p
