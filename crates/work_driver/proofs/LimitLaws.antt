-- A clock that was found at its limit is the last one, and what was done can have brought it there.
use Rattle.std.proofs.Common.{ℕ, zero, suc, ◌≡◌, ◌≤◌, ◌+◌, ◌*◌, ◌^◌, Bool, true, false, refl, List, [], ◌∷◌, length, drop, sym, ap, ◌∙◌, arith, subst, inl, inr, length-append}
use Rattle.std.specs.Prelude.{◌==◌, ◌⊎◌, if◌then◌else◌, All, sum_by, Err}
use Rattle.std.proofs.lemmas.Bool.Decides.{nat_tests}
use Rattle.std.proofs.lemmas.List.Elements.{All-head, All-tail}
use Rattle.std.proofs.lemmas.List.Sums.{sum_by-cons}
use Rattle.work_profile.specs.declared.policy.Policy.{Policy}
use Rattle.stm_rule.specs.declared.stm.Stm.{Stm}
use Rattle.stm_model.specs.declared.config.Config.{Config}
use Rattle.stm_model.specs.Histories.{Entry, made_by}
use Rattle.data_regions.specs.declared.region.Region.{Region}
use Rattle.work_script.specs.declared.workload.Go.{Go}
use Rattle.work_script.specs.declared.workload.Item.{Item}
use Rattle.work_script.specs.declared.workload.Item.TheVariants.{Tx, Switch, Reserve}
use Rattle.work_script.specs.declared.workload.Workload.{Workload}
use Rattle.work_script.specs.Reports.{scripts_of}
use Rattle.stm_rule.specs.Callers.{Handle}
use Rattle.stm_rule.specs.Closings.{Ended, Closes, AllTold}
use Rattle.stm_answers.specs.CallerState.{IsIdle, caller_of}
use Rattle.stm_tx.specs.Descs.{known}
use Rattle.work_trace.specs.declared.line.Line.{Line}
use Rattle.work_trace.specs.declared.said.Phase.TheVariants.{Between}
use Rattle.work_trace.specs.Fits as fits
use Rattle.work_trace.specs.Places.{caller_in, items_of}
use Rattle.work_trace.specs.Turns.{BeforeTx}
use Rattle.work_worker.specs.declared.worker.Worker.{Worker}
use Rattle.work_worker.specs.Workers.{IsAt, Loaded}
use Rattle.work_worker.specs.Workers.{ItemsFit as OwnItems}
use Rattle.work_driver.specs.Preparings.{ParsedItem, Forms}
use Rattle.work_driver.specs.declared.schedule.Halt.TheVariants.{ClockFull}
use Rattle.work_driver.specs.AllWorkers.{AreMadeIdle, AreCoveredFor, Enough, MetLimit, descs_of, rows_of}
use Rattle.work_driver.specs.Openings.{first_installs}
use Rattle.work_trace.specs.Places.{most_failed}
use Rattle.work_worker.specs.RiseCovers.{raised}
use Rattle.work_driver.specs.ClosedRuns.{CutShort}
use Rattle.work_script.specs.Workloads.{config_of}
use Rattle.work_driver.specs.Runs.{ArePart, AreFirst, IsFull, IsCut, RanSome, most_rises}
use Rattle.work_driver.specs.Schedules.{Drives, FoundFull}
use Rattle.work_driver.proofs.HistoryLaws.{dealt, ones}
use Rattle.work_driver.proofs.IdleLaws.{idle-rises}
use Rattle.work_driver.proofs.PartingLaws.{all-cons, total, total-few, all_items, all_items-few}
use Rattle.work_driver.proofs.PreparedLaws.{Begun, StartCovered, sizes-of}
use Rattle.work_driver.proofs.ReportLaws.{all-made, history-of}
use Rattle.work_driver.proofs.StandingLaws.{Each, Stood, clock-within, made-few, stood-caller, stood-works, stood-todo, stood-within, rows-total}

-- a transaction was still to begin
left-some : (n : ℕ) (items : List Item) → BeforeTx items → All (λ i. caller_in i ≡ n) items → 1 ≤ length (scripts_of n items)
left-some n [] b own = absurd b
left-some n (Tx caller script ∷ items) b own =
    let mine : caller ≡ n = All-head (λ i. caller_in i ≡ n) (Tx caller script) items own in
    let test : (caller == n) ≡ true = grind (arith, nat_tests) in
    let some : length (scripts_of n (Tx caller script ∷ items)) ≡ suc (length (scripts_of n items)) = ap (λ t. length (if t then script ∷ scripts_of n items else scripts_of n items)) test in
    omega arith
left-some n (Switch caller alg ∷ items) b own = absurd b
left-some n (Reserve caller reads writes ∷ items) b own = absurd b

drop-some : {A : Type 0} (k : ℕ) (xs : List A) → 1 ≤ length (drop k xs) → suc k ≤ length xs
drop-some zero xs h = h
drop-some (suc k) [] h = absurd (omega arith)
drop-some (suc k) (x ∷ xs) h = let r = drop-some k xs h in omega arith

own-items : (good : List ℕ → Type 0) (words n : ℕ) (regions : List Region) (items : List Item) → OwnItems good words regions n items → All (λ i. caller_in i ≡ n) items
own-items good words n regions [] h = λ i d lt. absurd (omega arith)
own-items good words n regions (Tx caller script ∷ items) h = all-cons (λ i. caller_in i ≡ n) (Tx caller script) items h.0 (own-items good words n regions items h.3)
own-items good words n regions (Switch caller alg ∷ items) h = all-cons (λ i. caller_in i ≡ n) (Switch caller alg) items h.0 (own-items good words n regions items h.1)
own-items good words n regions (Reserve caller reads writes ∷ items) h = all-cons (λ i. caller_in i ≡ n) (Reserve caller reads writes) items h.0 (own-items good words n regions items h.3)

before-some : (items : List Item) → BeforeTx items → 1 ≤ length items
before-some [] b = absurd b
before-some (i ∷ items) b = omega arith

module _ {K : Type 0} where
  -- one of them was to begin a transaction, and met the limit
  abbrev pub MetSome : List (Worker K) → ℕ → Type 0
  MetSome [] clock = ⊥
  MetSome (w ∷ ws) clock = MetLimit w clock ⊎ MetSome ws clock

  -- the items that are still to be done
  abbrev left_items : List (Worker K) → ℕ
  left_items [] = 0
  left_items (r ∷ rs) = length r.items_left.now + left_items rs

module _ {K : Type 0} (good : List ℕ → Type 0) (cut : Bool) (policy : Policy) (w : Workload) (stm : Stm K) (items : All (ParsedItem w.header) w.items) (sized : stm.config ≡ config_of w.header) where
  -- one that met the limit has fewer rows than scripts
  met-short : (n : ℕ) (r : Worker K) (clock : ℕ) → Stood good cut policy w stm sized n r → MetLimit r clock → suc (length r.rows.items) ≤ length (scripts_of n w.items)
  met-short n r clock s met =
      let own : All (λ i. caller_in i ≡ n) r.items_left.now = subst (λ k. All (λ i. caller_in i ≡ k) r.items_left.now)
      (stood-caller good cut policy w stm sized n r s)
      (own-items good stm.config.words (caller_of r.desc.who.role) r.regions.now r.items_left.now s.sound.fits) in
      let some = left-some n r.items_left.now met.2 own in
      let todo = ap length (stood-todo good cut policy w stm sized n r s) in
      drop-some (length r.rows.items) (scripts_of n w.items) (omega arith)

  -- what follows from one that met the limit
  record MetFirst (n : ℕ) (rs : List (Worker K)) (closed : Ended) (clock : ℕ) : Type 0 where
    pub low : 2 ^ 62 ≤ clock
    pub high : clock ≤ closed.clock
    pub short : suc (length (rows_of rs)) ≤ total n (length rs) w.items
    pub left : 1 ≤ left_items rs

  met-first : (n : ℕ) (rs : List (Worker K)) (closed : Ended) (clock : ℕ) → Each (Stood good cut policy w stm sized) n rs → AllTold closed n (descs_of rs) → MetSome rs clock → MetFirst n rs closed clock
  met-first n [] closed clock h told is = absurd is
  met-first n (r ∷ rs) closed clock h told (inl met) =
      let one = met-short n r clock h.0 met in
      let rest = rows-total good cut policy w stm sized (suc n) rs h.1 in
      let both = length-append r.rows.items (rows_of rs) in
      let some = before-some r.items_left.now met.2 in
      record {
        low = met.0;
        high = clock-within closed.clock (known r.desc).step_trace met.1.0 clock told.0.clocks met.1.1;
        short = omega (arith, one, rest, both);
        left = omega (arith, some);
      }
  met-first n (r ∷ rs) closed clock h told (inr met) =
      let rest = met-first (suc n) rs closed clock h.1 told.1 met in
      let one = stood-within good cut policy w stm sized n r h.0 in
      let both = length-append r.rows.items (rows_of rs) in
      let short = rest.short in
      let l = rest.left in
      record { low = rest.low; high = rest.high; short = omega (arith, one, both, short); left = omega (arith, l) }

  made-total : (n : ℕ) (rs : List (Worker K)) (closed : Ended) → Each (Stood good cut policy w stm sized) n rs
      → All (λ (r : Worker K). r.phase ≡ Between) rs → AllTold closed n (descs_of rs)
      → dealt (λ (e : Entry). 1) n (length rs) closed.history ≤ length (rows_of rs)
  made-total n [] closed h between told = omega arith
  made-total n (r ∷ rs) closed h between told =
      let P : Worker K → Type 0 = λ (r : Worker K). r.phase ≡ Between in
      let made : (known r.desc).made ≡ made_by n closed.history = told.0.made in
      let few = made-few r.rows.items (known r.desc).made (stood-works good cut policy w stm sized n r h.0 (All-head P r rs between)).writers in
      let count = ones (made_by n closed.history) in
      let same = ap length made in
      let rest = made-total (suc n) rs closed h.1 (All-tail P r rs between) told.1 in
      let both = length-append r.rows.items (rows_of rs) in
      omega arith

  -- with nothing open all that was raised is counted
  raised-all : (n : ℕ) (r : Worker K) → Stood good cut policy w stm sized n r → r.phase ≡ Between → raised (known r.desc) ≡ r.desc.view.steps.rises
  raised-all n r s between =
      let idle : IsIdle (known r.desc) = subst (λ p. IsAt good stm.config (caller_of r.desc.who.role) p (known r.desc)) between s.sound.at in
      ap (λ b. if b then (known r.desc).base else (known r.desc).rises) idle.1

  -- so many attempts of a transaction that fail are covered
  abbrev IsEnough : ℕ → Type 0
  IsEnough most = (most_failed ≤ most) ⊎ ((stm.config.callers ≡ 1) × (1 ≤ most))

  enough-first : (most : ℕ) (u : Worker K) → u.failed ≡ 0 → IsEnough most → Enough stm most u
  enough-first most u none (inl much) = inl much
  enough-first most u none (inr e) = inr (e.0, none, e.1)

  rises-total : (each most : ℕ) → IsEnough most → most + 3 ≤ each → ((a b : ℕ) → each * (a + b) ≡ each * a + each * b) → (n : ℕ) (us rs : List (Worker K)) → StartCovered w.header.alg n us → AreCoveredFor stm us rs
      → Each (Stood good cut policy w stm sized) n rs → All (λ (r : Worker K). r.phase ≡ Between) rs
      → sum_by (λ (d : Handle K). d.view.steps.rises) (descs_of rs)
      ≤ each * all_items n (length rs) w.items + length (first_installs w.header.alg n)
  rises-total each most much wide over n [] [] starts covered h between = omega arith
  rises-total each most much wide over n [] (r ∷ rs) starts covered h between = absurd covered
  rises-total each most much wide over n (u ∷ us) [] starts covered h between = absurd covered
  rises-total each most much wide over n (u ∷ us) (r ∷ rs) starts covered h between =
      let P : Worker K → Type 0 = λ (r : Worker K). r.phase ≡ Between in
      let alone = covered.0.all (length (first_installs w.header.alg n)) each most (enough-first most u starts.2 much) wide starts.1 (starts.0 each most) in
      let all = ap (λ (l : List Item). each * length l) h.0.own.all in
      let whole = raised-all n r h.0 (All-head P r rs between) in
      let rest = rises-total each most much wide over (suc n) us rs starts.3 covered.1 h.1 (All-tail P r rs between) in
      let cons = sum_by-cons (λ (d : Handle K). d.view.steps.rises) r.desc (descs_of rs) in
      let both = over (length (items_of n w.items)) (all_items (suc n) (length rs) w.items) in
      omega (arith, alone, all, whole, rest, cons, both)

  rises-most : (us rs : List (Worker K)) → StartCovered w.header.alg 0 us → AreCoveredFor stm us rs → Each (Stood good cut policy w stm sized) 0 rs → All (λ (r : Worker K). r.phase ≡ Between) rs
      → sum_by (λ (d : Handle K). d.view.steps.rises) (descs_of rs) ≤ most_rises w.header.callers * length w.items + 1
  rises-most us rs starts covered h between = by (w.header.callers == 1) refl
    where
      few : all_items 0 (length rs) w.items ≤ length w.items
      few = all_items-few 0 (length rs) w.items

      by : (b : Bool) → (w.header.callers == 1) ≡ b → sum_by (λ (d : Handle K). d.view.steps.rises) (descs_of rs) ≤ (if b then 4 else 20) * length w.items + 1
      by true test =
          let callers = ap (λ (x : Config). x.callers) sized in
          let one : w.header.callers ≡ 1 = grind (arith, nat_tests) in
          let r = rises-total 4 1 (inr (callers ∙ one, omega arith)) (omega arith) (λ a b. omega arith) 0 us rs starts covered h between in
          let f = few in
          omega (arith, r, f)
      by false test =
          let r = rises-total 20 16 (inl (omega arith)) (omega arith) (λ a b. omega arith) 0 us rs starts covered h between in
          let f = few in
          omega (arith, r, f)

  -- none has anything open, and one met the limit
  pub full : Forms good w → (us rs : List (Worker K)) (ws : List ℕ) (closed : Ended) (clock : ℕ) → RanSome false AreFirst policy w closed
      → StartCovered w.header.alg 0 us → AreCoveredFor stm us rs → Each (Stood good cut policy w stm sized) 0 rs
      → All (λ (r : Worker K). r.phase ≡ Between) rs → length rs ≡ stm.config.callers → MetSome rs clock
      → Closes good stm.config (descs_of rs) ws closed
      → IsFull policy w clock closed
  full forms us rs ws closed clock ran starts covered stood between len is c =
      let met = met-first 0 rs closed clock stood c.told is in
      let low = met.low in
      let high = met.high in
      let short = met.short in
      let few = total-few 0 (length rs) w.items in
      let limit : closed.clock ≤ 2 ^ 62 = c.limit in
      let opening : stm.config.clock ≡ w.header.clock = ap (λ (x : Config). x.clock) sized in
      let risen = c.clock in
      let rises = rises-most us rs starts covered stood between in
      let made = made-total 0 rs closed stood between c.told in
      let all = all-made good cut policy w stm items sized (λ (e : Entry). 1) rs ws closed len c ∙ ones closed.history in
      record { opening = c.opening ∙ opening; found = omega arith; limit = omega arith; history = history-of good w forms stm.config sized (descs_of rs) ws closed c; ran = ran; left = omega arith; bound = omega arith }

  -- the clock that was found is at its limit, and at most the last
  found-within : (n : ℕ) (vs ws : List (Worker K)) (closed : Ended) (clock : ℕ) → AreMadeIdle good stm vs ws → AllTold closed n (descs_of ws) → FoundFull vs clock → (2 ^ 62 ≤ clock) × (clock ≤ closed.clock)
  found-within n [] ws closed clock e t f = absurd f
  found-within n (v ∷ vs) [] closed clock e t f = absurd e
  found-within n (v ∷ vs) (x ∷ ws) closed clock e t (inl f) =
      let same = e.0.still f.0 in
      let l = subst (λ (u : Worker K). Loaded (known u.desc) clock) (sym same) f.2 in
      (f.1, clock-within closed.clock (known x.desc).step_trace l.0 clock t.0.clocks l.1)
  found-within n (v ∷ vs) (x ∷ ws) closed clock e t (inr f) = found-within (suc n) vs ws closed clock e.1 t.1 f

  -- a call of one found the clock full, whatever the others have open
  pub cut-short : Forms good w → policy ≡ w.header.policy
      → (begun ran : List (Worker K)) (gos : List Go) (lines : List Line) (clock : ℕ) (closed : Ended) → gos ≡ w.schedule
      → Begun good cut policy w stm items sized begun → Drives stm.config gos begun ran lines (Err (ClockFull clock))
      → CutShort good stm ran closed → RanSome true ArePart policy w closed → IsCut w lines clock closed
  cut-short forms ruled begun ran gos lines clock closed is b drives c some =
      let found = found-within 0 ran c.after closed clock c.idle c.closes.told drives.2 in
      let low = found.0 in
      let high = found.1 in
      let limit : closed.clock ≤ 2 ^ 62 = c.closes.limit in
      let opening : stm.config.clock ≡ w.header.clock = ap (λ (x : Config). x.clock) sized in
      let risen = c.closes.clock in
      let rises = idle-rises good stm ran c.after c.idle in
      let covered = drives.1 in
      let none = b.owes in
      let part = drives.0 w.header (sizes-of stm.config w.header sized) in
      let sorted = subst (λ ps. fits.IsCut w.header ps gos lines clock) (b.starts ruled) part in
      record {
        fits = subst (λ s. fits.IsCut w.header (fits.first_places w) s lines clock) is sorted;
        opening = c.closes.opening ∙ opening;
        found = omega (arith, low, high, limit);
        limit = omega (arith, low, high, limit);
        history = history-of good w forms stm.config sized (descs_of c.after) c.words closed c.closes;
        ran = subst (λ (p : Policy). RanSome true ArePart p w closed) ruled some;
        bound = omega (arith, low, high, limit, opening, risen, rises, covered, none);
      }
