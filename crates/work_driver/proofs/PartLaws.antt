-- What was done before a full clock is a whole run of a part of the workload.
use Rattle.std.proofs.Common.{ℕ, suc, ◌≡◌, ◌<◌, ◌≤◌, ◌+◌, Bool, true, false, List, [], ◌∷◌, ◌++◌, length, map, refl, sym, ap, ◌∙◌, arith, subst, inl, inr}
use Rattle.std.specs.Prelude.{◌⊎◌, ◌==◌, if◌then◌else◌, All, Contains, sum_by}
use Rattle.std.proofs.lemmas.Bool.Decides.{nat_tests}
use Rattle.std.proofs.lemmas.List.{append-nil, length-map, map-append}
use Rattle.std.proofs.lemmas.List.Elements.{All-head, All-tail}
use Rattle.std.proofs.lemmas.List.Sums.{sum_by-cons}
use Rattle.work_profile.specs.declared.policy.Policy.{Policy}
use Rattle.stm_rule.specs.declared.stm.Stm.{Stm}
use Rattle.stm_model.specs.declared.alg.Alg.{Alg}
use Rattle.stm_model.specs.declared.config.Config.{Config}
use Rattle.stm_model.specs.Histories.{Entry, made_by, memory_at, IsLegal}
use Rattle.work_script.specs.declared.op.Op.{Op}
use Rattle.work_script.specs.declared.report.Report.{Report}
use Rattle.work_script.specs.declared.report.Row.{Row}
use Rattle.work_script.specs.declared.workload.Item.{Item}
use Rattle.work_script.specs.declared.workload.Item.TheVariants.{Tx, Switch, Reserve}
use Rattle.work_script.specs.declared.workload.Workload.{Workload}
use Rattle.work_script.specs.Operations.{OpFits}
use Rattle.work_script.specs.Parts.{BeginsWith, Part, PartIn, IsGathered, ReportReplays, Worked, all_rows}
use Rattle.work_script.specs.Reports.{rows_of as own_rows}
use Rattle.work_script.specs.Reports.{regions_of, scripts_of, script_of, nonzero, zeros, counted, Shows}
use Rattle.work_script.specs.Workloads.{ItemFits, config_of}
use Rattle.stm_rule.specs.Callers.{Handle}
use Rattle.stm_rule.specs.Closings.{Ended, Closes, Told, AllTold, installs_of}
use Rattle.stm_tx.specs.Descs.{known}
use Rattle.work_trace.specs.declared.said.Phase.TheVariants.{Inside}
use Rattle.work_trace.specs.Places.{caller_in, items_of}
use Rattle.work_worker.specs.declared.worker.Worker.{Worker}
use Rattle.work_worker.specs.Leavings.{BeginsNext, IsPart, MadeIdle}
use Rattle.work_worker.specs.Courses.{all_installed}
use Rattle.work_worker.specs.Installs.{InstallsBy}
use Rattle.work_worker.proofs.InstallLaws.{first-installs, open-installs}
use Rattle.work_worker.specs.Workers.{place_of, Works}
use Rattle.work_driver.specs.Preparings.{ParsedItem, Forms}
use Rattle.work_trace.specs.Adapting.{policy_for}
use Rattle.work_driver.specs.AllWorkers.{AreMadeIdle, descs_of}
use Rattle.work_driver.specs.Openings.{first_installs}
use Rattle.work_driver.specs.Runs.{AreInstalls, RanSome}
use Rattle.work_driver.proofs.HistoryLaws.{dealt, dealt-all, all-below, made-own, made-within}
use Rattle.work_driver.proofs.AlongLaws.{goes-along}
use Rattle.work_driver.proofs.KindLaws.{kinds, kinds-each}
use Rattle.work_driver.proofs.PartingLaws.{all-cons, own-all, scripts-own}
use Rattle.work_driver.proofs.ReportLaws.{reworked, history-of}
use Rattle.work_driver.proofs.SortLaws.{sorted-of}
use Rattle.work_driver.proofs.StandingLaws.{Each, Stood, stood-caller}

-- what one caller has done, with what it knows of it
pub record Did : Type 0 where
  pub items : List Item
  pub part : Part
  pub installs : List Alg

abbrev all_of : List Did → List Item
all_of [] = []
all_of (d ∷ ds) = d.items ++ all_of ds

items-append : (n : ℕ) (xs ys : List Item) → items_of n (xs ++ ys) ≡ items_of n xs ++ items_of n ys
items-append n [] ys = refl
items-append n (x ∷ xs) ys = by (caller_in x == n) (items-append n xs ys)
  where
    by : (b : Bool) → items_of n (xs ++ ys) ≡ items_of n xs ++ items_of n ys → (if b then x ∷ items_of n (xs ++ ys) else items_of n (xs ++ ys)) ≡ (if b then x ∷ items_of n xs else items_of n xs) ++ items_of n ys
    by true r = ap (λ l. x ∷ l) r
    by false r = r

items-own : (n : ℕ) (xs : List Item) → All (λ i. caller_in i ≡ n) xs → items_of n xs ≡ xs
items-own n [] h = refl
items-own n (x ∷ xs) h =
    let own = All-head (λ i. caller_in i ≡ n) x xs h in
    let test : (caller_in x == n) ≡ true = grind (arith, nat_tests) in
    ap (λ b. if b then x ∷ items_of n xs else items_of n xs) test ∙ ap (λ l. x ∷ l) (items-own n xs (All-tail (λ i. caller_in i ≡ n) x xs h))

items-others : (n k : ℕ) (xs : List Item) → k < n → All (λ i. caller_in i ≡ k) xs → items_of n xs ≡ []
items-others n k [] lt h = refl
items-others n k (x ∷ xs) lt h =
    let own = All-head (λ i. caller_in i ≡ k) x xs h in
    let test : (caller_in x == n) ≡ false = grind (arith, nat_tests) in
    ap (λ b. if b then x ∷ items_of n xs else items_of n xs) test ∙ items-others n k xs lt (All-tail (λ i. caller_in i ≡ k) x xs h)

all-first : {A : Type 0} (P : A → Type 0) (xs ys : List A) → All P (xs ++ ys) → All P xs
all-first P [] ys h = λ i d lt. absurd (omega (arith, lt))
all-first P (x ∷ xs) ys h = all-cons P x xs (All-head P x (xs ++ ys) h) (all-first P xs ys (All-tail P x (xs ++ ys) h))

all-rest : {A : Type 0} (P : A → Type 0) (xs ys : List A) → All P (xs ++ ys) → All P ys
all-rest P [] ys h = h
all-rest P (x ∷ xs) ys h = all-rest P xs ys (All-tail P x (xs ++ ys) h)

all-end : {A : Type 0} (P : A → Type 0) (xs : List A) (y : A) → All P xs → P y → All P (xs ++ y ∷ [])
all-end P [] y h e = all-cons P y [] e (λ i d lt. absurd (omega (arith, lt)))
all-end P (x ∷ xs) y h e = all-cons P x (xs ++ y ∷ []) (All-head P x xs h) (all-end P xs y (All-tail P x xs h) e)

-- what holds of all items, and of the first operations of a transaction, holds of a part
part-all : (P : Item → Type 0) → ((caller : ℕ) (ops rest : List Op) → P (Tx caller (ops ++ rest)) → P (Tx caller ops)) → (all left did : List Item) → IsPart all left did → All P all → All P did
part-all P cut all left did h a = by left (subst (All P) h.1 a) h.2
  where
    by : (l : List Item) → All P (h.0 ++ l) → (did ≡ h.0) ⊎ BeginsNext h.0 l did → All P did
    by l b (inl e) = subst (All P) (sym e) (all-first P h.0 l b)
    by [] b (inr n) = absurd n
    by (Tx caller script ∷ l) b (inr n) =
        subst (All P) (sym n.3) (all-end P h.0 (Tx caller n.0) (all-first P h.0 (Tx caller script ∷ l) b)
        (cut caller n.0 n.1 (subst (λ s. P (Tx caller s)) n.2 (All-head P (Tx caller script) l (all-rest P h.0 (Tx caller script ∷ l) b)))))
    by (Switch caller alg ∷ l) b (inr n) = absurd n
    by (Reserve caller reads writes ∷ l) b (inr n) = absurd n

-- what comes after the first items is a transaction
begins-tx : (first left did : List Item) → BeginsNext first left did → (caller : ℕ) × (ops : List Op) × (did ≡ first ++ Tx caller ops ∷ [])
begins-tx first [] did n = absurd n
begins-tx first (Tx caller script ∷ left) did n = (caller, n.0, n.3)
begins-tx first (Switch caller alg ∷ left) did n = absurd n
begins-tx first (Reserve caller reads writes ∷ left) did n = absurd n

-- what a caller installed that did these items, with these rows
pub record InstalledSome (cut : Bool) (callers : ℕ) (policy : Policy) (alg : Alg) (n : ℕ) (items : List Item) (rows : List Row) (installs : List Alg) : Type 0 where
  pub more : List Alg
  pub first : installs ≡ first_installs alg n ++ more
  pub done : Bool
  pub by : InstallsBy cut callers done (policy_for policy n) alg items (kinds rows) more

module _ {K : Type 0} (good : List ℕ → Type 0) (cut : Bool) (policy : Policy) (w : Workload) (stm : Stm K) (items : All (ParsedItem w.header) w.items) (sized : stm.config ≡ config_of w.header) where
  pub record IsDid (some : List Item → List Item → Type 0) (closed : Ended) (n : ℕ) (d : Did) : Type 0 where
    pub is : some (items_of n w.items) d.items
    pub own : All (λ i. caller_in i ≡ n) d.items
    pub fits : All (ItemFits (regions_of w.header) w.header) d.items
    pub caller : d.part.caller ≡ n
    pub worked : Worked good (zeros w.header.words) (regions_of w.header) (script_of d.items) n d.part.made d.part.seen d.part.front d.part.rows
    pub begins : BeginsWith closed.history d.part.seen d.part.front
    pub made : d.part.made ≡ made_by n closed.history
    pub whole : length d.part.rows ≡ length (scripts_of n d.items)
    pub installs : InstalledSome cut w.header.callers policy w.header.alg n d.items d.part.rows d.installs

  -- the installs of a caller that was left idle are those of the part that it did
  installs-part : (n : ℕ) (v x : Worker K) → Stood good cut policy w stm sized n v → (h : MadeIdle good stm v x) → InstalledSome cut w.header.callers policy w.header.alg n h.did.items h.did.rows (known x.desc).installs
  installs-part n v x s h =
      let own = s.own in
      let left : own.start.left ≡ v.all.now = own.left ∙ sym own.all in
      let installed = all_installed own.course in
      let by_policy : (done : Bool) → InstallsBy cut w.header.callers done own.start.policy w.header.alg h.did.items (kinds h.did.rows)
      installed → InstalledSome cut w.header.callers policy w.header.alg n h.did.items h.did.rows (known x.desc).installs =
      λ done by.
      record {
        more = installed;
        first = h.keeps.installs ∙ own.installs;
        done = done;
        by = subst (λ p. InstallsBy cut w.header.callers done p w.header.alg h.did.items (kinds h.did.rows) installed) own.by by;
      } in
      of by_policy left h.did.behind
    where
      of : ((done : Bool)
          → InstallsBy cut w.header.callers done s.own.start.policy w.header.alg h.did.items (kinds h.did.rows) (all_installed s.own.course)
          → InstalledSome cut w.header.callers policy w.header.alg n h.did.items h.did.rows (known x.desc).installs)
          → s.own.start.left ≡ v.all.now
          → ((v.all.now ≡ h.did.items ++ v.items_left.now) × (h.did.rows ≡ v.rows.items)
          ⊎ (v.phase ≡ Inside)
          × ((first : List Item) × (v.all.now ≡ first ++ v.items_left.now) × BeginsNext first v.items_left.now h.did.items)
          × ((row : Row) × (h.did.rows ≡ v.rows.items ++ row ∷ [])))
          → InstalledSome cut w.header.callers policy w.header.alg n h.did.items h.did.rows (known x.desc).installs
      of give left (inl b) =
          let i = first-installs cut w.header s.own.start (place_of v) s.own.course w.header.alg (known v.desc).alg s.own.fresh s.own.went s.own.uncut s.own.alone h.did.items (left ∙ b.0) in
          give i.0 (subst (λ rows. InstallsBy cut w.header.callers i.0 s.own.start.policy w.header.alg h.did.items (kinds rows) (all_installed s.own.course)) (sym b.1) i.2)
      of give left (inr b) =
          let next = begins-tx b.1.0 v.items_left.now h.did.items b.1.2 in
          let i = open-installs cut w.header s.own.start (place_of v) s.own.course w.header.alg (known v.desc).alg s.own.fresh s.own.went s.own.uncut s.own.alone b.1.0 (left ∙ b.1.1) b.0 next.0 next.1 b.2.0.kind in
          let rows : kinds h.did.rows ≡ kinds v.rows.items ++ b.2.0.kind ∷ [] = ap kinds b.2.1 ∙ map-append (λ (r : Row). r.kind) v.rows.items (b.2.0 ∷ []) in
          give false (subst (λ l. InstallsBy cut w.header.callers false s.own.start.policy w.header.alg l (kinds h.did.rows) (all_installed s.own.course)) (sym next.2)
          (subst (λ k. InstallsBy cut w.header.callers false s.own.start.policy w.header.alg (b.1.0 ++ Tx next.0 next.1 ∷ []) k (all_installed s.own.course)) (sym rows) i))

  did-of : (n : ℕ) (v x : Worker K) → MadeIdle good stm v x → Did
  did-of n v x h = record {
    items = h.did.items;
    part = record { caller = n; made = (known x.desc).made; seen = (known x.desc).seen; front = (known x.desc).front; rows = h.did.rows };
    installs = (known x.desc).installs;
  }

  did-is : (some : List Item → List Item → Type 0) (closed : Ended) (n : ℕ) (v x : Worker K) → Stood good cut policy w stm sized n v
      → (h : MadeIdle good stm v x) → Told closed n x.desc → some (items_of n w.items) h.did.items → IsDid some closed n (did-of n v x h)
  unfolding did-of
  did-is some closed n v x s h told is =
      let did = h.did.items in
      let all : v.all.now ≡ items_of n w.items = s.own.all in
      let part : IsPart (items_of n w.items) v.items_left.now did = subst (λ l. IsPart l v.items_left.now did) all h.did.part in
      let P : Item → Type 0 = λ i. (caller_in i ≡ n) × ItemFits (regions_of w.header) w.header i in
      let mine : All P (items_of n w.items) = λ i d lt. (let both = own-all (ParsedItem w.header) n w.items items i d lt in (both.0, both.1.1)) in
      let each : All P did = part-all P (λ caller ops rest f. (f.0, (f.1.0, all-first (OpFits (regions_of w.header) w.header.words) ops rest f.1.1))) (items_of n w.items) v.items_left.now did part mine in
      let words : stm.config.words ≡ w.header.words = ap (λ (c : Config). c.words) sized in
      let works : Works good w.header.words (regions_of w.header) did n (known x.desc) h.did.rows =
      subst (λ k. Works good k (regions_of w.header) did n (known x.desc) h.did.rows) words
      (subst (λ rs. Works good stm.config.words rs did n (known x.desc) h.did.rows) s.own.over
      (subst (λ k. Works good stm.config.words v.regions.now did k (known x.desc) h.did.rows) (stood-caller good cut policy w stm sized n v s) h.did.works)) in
      record {
        is = is;
        own = λ i d lt. (each i d lt).0;
        fits = λ i d lt. (each i d lt).1;
        caller = refl;
        worked = works;
        begins = told.seen;
        made = told.made;
        whole = h.did.whole ∙ ap (λ k. length (scripts_of k did)) (stood-caller good cut policy w stm sized n v s);
        installs = installs-part n v x s h;
      }

  -- of all callers from n on
  record AreDid (some : List Item → List Item → Type 0) (closed : Ended) (n : ℕ) (ws : List (Worker K)) : Type 0 where
    dids : List Did
    each : Each (IsDid some closed) n dids
    count : length dids ≡ length ws
    installs : map (λ (d : Handle K). installs_of d.view) (descs_of ws) ≡ map (λ (d : Did). d.installs) dids

  are-did : (some : List Item → List Item → Type 0) (P : Worker K → Type 0) → ((n : ℕ) (v x : Worker K) → Stood good cut policy w stm sized n v → (h : MadeIdle good stm v x) → P v → some (items_of n w.items) h.did.items)
      → (closed : Ended) (n : ℕ) (vs ws : List (Worker K)) → Each (Stood good cut policy w stm sized) n vs → All P vs → AreMadeIdle good stm vs ws → AllTold closed n (descs_of ws) → AreDid some closed n ws
  unfolding did-of
  are-did some P is closed n [] [] s p h t = record { dids = []; each = tt; count = refl; installs = refl }
  are-did some P is closed n [] (x ∷ ws) s p h t = absurd h
  are-did some P is closed n (v ∷ vs) [] s p h t = absurd h
  are-did some P is closed n (v ∷ vs) (x ∷ ws) s p h t =
      let rest = are-did some P is closed (suc n) vs ws s.1 (All-tail P v vs p) h.1 t.1 in
      record {
        dids = did-of n v x h.0 ∷ rest.dids;
        each = (did-is some closed n v x s.0 h.0 t.0 (is n v x s.0 h.0 (All-head P v vs p)), rest.each);
        count = ap suc rest.count;
        installs = ap (λ l. (known x.desc).installs ∷ l) rest.installs;
      }

  -- and each finds its own in what all did
  module _ (some : List Item → List Item → Type 0) (closed : Ended) (whole : List Item) where
    record IsIn (n : ℕ) (d : Did) : Type 0 where
      did : IsDid some closed n d
      here : items_of n whole ≡ d.items

    others-none : (k n : ℕ) (ds : List Did) → k < n → Each (IsDid some closed) n ds → items_of k (all_of ds) ≡ []
    others-none k n [] lt h = refl
    others-none k n (d ∷ ds) lt h =
        items-append k d.items (all_of ds) ∙ (ap (λ l. l ++ items_of k (all_of ds)) (items-below k n d.items lt h.0.own) ∙ others-none k (suc n) ds (omega (arith, lt)) h.1)
      where
        items-below : (k n : ℕ) (xs : List Item) → k < n → All (λ i. caller_in i ≡ n) xs → items_of k xs ≡ []
        items-below k n [] lt h = refl
        items-below k n (x ∷ xs) lt h =
            let own = All-head (λ i. caller_in i ≡ n) x xs h in
            let test : (caller_in x == k) ≡ false = grind (arith, nat_tests) in
            ap (λ b. if b then x ∷ items_of k xs else items_of k xs) test ∙ items-below k n xs lt (All-tail (λ i. caller_in i ≡ n) x xs h)

    all-in : (n : ℕ) (ds : List Did) → Each (IsDid some closed) n ds → ((k : ℕ) → n ≤ k → items_of k whole ≡ items_of k (all_of ds)) → Each IsIn n ds
    all-in n [] h e = tt
    all-in n (d ∷ ds) h e = (
      record {
        did = h.0;
        here =
            e n (omega arith)
            ∙ (items-append n d.items (all_of ds)
            ∙ (ap (λ l. l ++ items_of n (all_of ds)) (items-own n d.items h.0.own)
            ∙ (ap (λ l. d.items ++ l) (others-none n (suc n) ds (omega arith) h.1) ∙ append-nil d.items)));
      },
      all-in (suc n) ds h.1 (λ k le. e k (omega (arith, le)) ∙ (items-append k d.items (all_of ds) ∙ ap (λ l. l ++ items_of k (all_of ds)) (items-others k n d.items (omega (arith, le)) h.0.own))),
    )

    at-caller : (n : ℕ) (ds : List Did) → Each IsIn n ds → (k : ℕ) → n ≤ k → k < n + length ds → some (items_of k w.items) (items_of k whole)
    at-caller n [] h k le lt = absurd (omega (arith, le, lt))
    at-caller n (d ∷ ds) h k le lt = by (n == k) refl (λ above. at-caller (suc n) ds h.1 k above (omega (arith, lt)))
      where
        by : (b : Bool) → (n == k) ≡ b → (suc n ≤ k → some (items_of k w.items) (items_of k whole)) → some (items_of k w.items) (items_of k whole)
        by true test more =
            let same : n ≡ k = grind (arith, nat_tests) in
            subst (λ j. some (items_of j w.items) (items_of j whole)) same (subst (some (items_of n w.items)) (sym h.0.here) h.0.did.is)
        by false test more = more (grind (arith, nat_tests))

    callers-in : (n : ℕ) (ds : List Did) → Each IsIn n ds → map (λ (p : Part). p.caller) (map (λ (d : Did). d.part) ds) ≡ counted n (length ds)
    callers-in n [] h = refl
    callers-in n (d ∷ ds) h = let head = h.0.did.caller in let rest = callers-in (suc n) ds h.1 in cc

    fits-in : (n : ℕ) (ds : List Did) → Each IsIn n ds → All (ItemFits (regions_of w.header) w.header) (all_of ds)
    fits-in n [] h = λ i d lt. absurd (omega (arith, lt))
    fits-in n (d ∷ ds) h = all-both d.items (all_of ds) h.0.did.fits (fits-in (suc n) ds h.1)
      where
        all-both : (xs ys : List Item) → All (ItemFits (regions_of w.header) w.header) xs → All (ItemFits (regions_of w.header) w.header) ys → All (ItemFits (regions_of w.header) w.header) (xs ++ ys)
        all-both [] ys a b = b
        all-both (x ∷ xs) ys a b =
            all-cons (ItemFits (regions_of w.header) w.header) x (xs ++ ys) (All-head (ItemFits (regions_of w.header) w.header) x xs a)
            (all-both xs ys (All-tail (ItemFits (regions_of w.header) w.header) x xs a) b)

    some_of : Workload
    some_of = record { header = w.header; items = whole; schedule = w.schedule }

    parts-in : (n : ℕ) (ds : List Did) → Each IsIn n ds → All (PartIn good some_of closed.history) (map (λ (d : Did). d.part) ds)
    unfolding some_of
    parts-in n [] h = λ i d lt. absurd (omega (arith, lt))
    parts-in n (d ∷ ds) h =
        let own = sym h.0.did.caller in
        let made = h.0.did.made in
        let same : scripts_of n d.items ≡ scripts_of n whole = sym (ap (scripts_of n) h.0.here) ∙ scripts-own n whole in
        all-cons (PartIn good some_of closed.history) d.part (map (λ (e : Did). e.part) ds) (record {
          worked = subst (λ k. Worked good (zeros w.header.words) (regions_of w.header) (script_of whole) k d.part.made d.part.seen d.part.front d.part.rows) own
              (reworked good (zeros w.header.words) (regions_of w.header) d.items whole n d.part.made d.part.seen d.part.front d.part.rows same h.0.did.worked);
          begins = h.0.did.begins;
          within = λ e c. made-within n closed.history e (subst (λ l. Contains l e) made c);
          owned = subst (λ k. All (λ (e : Entry). e.caller ≡ k) d.part.made) own (subst (All (λ (e : Entry). e.caller ≡ n)) (sym made) (made-own n closed.history));
          whole = h.0.did.whole ∙ (ap length same ∙ ap (λ k. length (scripts_of k whole)) own);
        }) (parts-in (suc n) ds h.1)

    dealt-in : (count : Entry → ℕ) (n : ℕ) (ds : List Did) → Each IsIn n ds → sum_by (λ (p : Part). sum_by count p.made) (map (λ (d : Did). d.part) ds) ≡ dealt count n (length ds) closed.history
    dealt-in count n [] h = refl
    dealt-in count n (d ∷ ds) h =
        let head = ap (sum_by count) h.0.did.made in
        let rest = dealt-in count (suc n) ds h.1 in
        let cons = sum_by-cons (λ (p : Part). sum_by count p.made) d.part (map (λ (e : Did). e.part) ds) in
        omega (arith, head, rest, cons)

    installs-in : (rows : List Row) (n : ℕ) (ds : List Did) → Each IsIn n ds
        → Each (λ k p. kinds (own_rows k rows) ≡ kinds p.rows) n (map (λ (d : Did). d.part) ds)
        → AreInstalls cut false policy some_of rows n (map (λ (d : Did). d.installs) ds)
    unfolding some_of
    installs-in rows n [] h told = tt
    installs-in rows n (d ∷ ds) h told =
        let i = h.0.did.installs in (
          record {
            more = i.more;
            first = i.first;
            done = i.done;
            all = λ e. absurd cc;
            by =
                subst (λ k. InstallsBy cut w.header.callers i.done (policy_for policy n) w.header.alg (items_of n whole) k i.more)
                (sym told.0) (subst
                (λ l. InstallsBy cut w.header.callers i.done (policy_for policy n) w.header.alg l (kinds d.part.rows) i.more) (sym h.0.here)
                i.by);
          },
          installs-in rows (suc n) ds h.1 told.1,
        )

  pub ran-some : ReportReplays good → Forms good w → (some : List Item → List Item → Type 0) (P : Worker K → Type 0)
      → ((n : ℕ) (v x : Worker K) → Stood good cut policy w stm sized n v → (h : MadeIdle good stm v x) → P v
      → some (items_of n w.items) h.did.items)
      → (vs xs : List (Worker K)) (ws : List ℕ) (closed : Ended) → Each (Stood good cut policy w stm sized) 0 vs → All P vs
      → AreMadeIdle good stm vs xs → length xs ≡ stm.config.callers → Closes good stm.config (descs_of xs) ws closed
      → RanSome cut some policy w closed
  unfolding some_of
  ran-some theorem forms some P is vs xs ws closed stood p idle len c =
      let a = are-did some P is closed 0 vs xs stood p idle c.told in
      let ds = a.dids in
      let whole = all_of ds in
      let part = some_of some closed whole in
      let each = all-in some closed whole 0 ds a.each (λ k le. refl) in
      let parts = map (λ (d : Did). d.part) ds in
      let rows = sorted-of (all_rows parts) in
      let many : length ds ≡ stm.config.callers = a.count ∙ len in
      let callers : length ds ≡ w.header.callers = many ∙ ap (λ (x : Config). x.callers) sized in
      let last = memory_at closed.clock closed.history (zeros w.header.words) in
      let report : Report = record { rows = rows.sorted; memory = nonzero 0 last } in
      let gathered : IsGathered good part closed.history closed.clock parts report = record {
        items = fits-in some closed whole 0 ds each;
        legal = subst (λ (x : Config). IsLegal good (zeros x.words) x.clock closed.history) sized c.legal;
        times = c.times;
        callers = callers-in some closed whole 0 ds each ∙ ap (counted 0) callers;
        each = parts-in some closed whole 0 ds each;
        gathers =
            λ count.
            sym (dealt-in some closed whole count 0 ds each
            ∙ (ap (λ m. dealt count 0 m closed.history) many
            ∙ dealt-all count stm.config.callers closed.history (all-below stm.config.callers closed.history c.nobody_else)));
        moved = rows.moved;
        ordered = rows.ordered;
        memory = refl;
      } in
      let both = theorem part closed.history closed.clock parts report gathered in
      record {
        part = part;
        header = refl;
        each = λ n lt. at-caller some closed whole 0 ds each n (omega arith) (omega (arith, lt, callers));
        report = report;
        shown = record {
          replays = both.0;
          shows = subst (λ k. Shows closed.history k closed.clock part report) (sym (c.opening ∙ ap (λ (x : Config). x.clock) sized)) both.1;
          history = history-of good part forms stm.config sized (descs_of xs) ws closed c;
          callers = ap length (c.installs ∙ a.installs) ∙ (length-map ds (λ (d : Did). d.installs) ∙ callers);
          along = goes-along good part closed.history closed.clock parts report gathered part.header.clock both.0 both.1;
          installs =
              subst (AreInstalls cut false policy part report.rows 0) (sym (c.installs ∙ a.installs))
              (installs-in some closed whole report.rows 0 ds each
              (kinds-each good part closed.history closed.clock parts report gathered both.0));
        };
      }
