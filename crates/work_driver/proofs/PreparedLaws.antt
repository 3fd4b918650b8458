-- The workers before the first turn, and what stays so of them.
use Rattle.std.proofs.Common.{ℕ, suc, ◌≡◌, ◌<◌, ◌≤◌, ◌+◌, ◌*◌, ◌++◌, List, [], ◌∷◌, length, get_or, map, refl, sym, ap, ◌∙◌, arith, subst}
use Rattle.std.specs.Prelude.{Bool, false, All, slice_index_or, if◌then◌else◌}
use Rattle.std.proofs.lemmas.List.{append-nil}
use Rattle.std.proofs.lemmas.List.Elements.{All-head, All-tail}
use Rattle.std.proofs.lemmas.List.Sums.{sum_by-cons}
use Rattle.work_profile.specs.declared.policy.Policy.{Policy}
use Rattle.stm_rule.specs.declared.stm.Stm.{Stm}
use Rattle.stm_model.specs.declared.config.Config.{Config}
use Rattle.rule_base.specs.declared.seats.Role.TheVariants.{Caller}
use Rattle.stm_model.specs.declared.alg.Alg.{Alg}
use Rattle.data_regions.specs.declared.region.Region.{Region}
use Rattle.work_script.specs.declared.workload.Go.{Go}
use Rattle.work_script.specs.declared.workload.Header.{Header}
use Rattle.work_script.specs.declared.workload.Item.{Item}
use Rattle.work_script.specs.declared.workload.Item.TheVariants.{Tx, Switch, Reserve}
use Rattle.work_script.specs.declared.workload.Workload.{Workload}
use Rattle.work_script.specs.Reports.{counted, regions_of}
use Rattle.work_text.specs.declared.parse.Mode.{Mode}
use Rattle.work_text.specs.Parsed.{IsParsed, ParsedWorkloadsFit}
use Rattle.stm_rule.specs.Callers.{Handle, IsOf}
use Rattle.stm_answers.specs.CallerState.{CallerState, caller_of, owed}
use Rattle.stm_tx.specs.Descs.{known}
use Rattle.work_trace.specs.declared.said.Said.{Said}
use Rattle.work_trace.specs.Fits.{first_place, first_places}
use Rattle.work_trace.specs.Places.{CallerProgress, caller_in, items_of}
use Rattle.work_worker.specs.declared.worker.Worker.{Worker}
use Rattle.work_trace.specs.Turns.{HasSizes}
use Rattle.work_worker.specs.Courses.{IsFresh, IsUncut, Knows, Went, all_installed}
use Rattle.work_worker.proofs.InstallLaws.{installed-on, knows-append, uncut-append, went-append}
use Rattle.work_worker.specs.Workers.{place_of, Sound, IsFreshWorker}
use Rattle.work_worker.specs.Workers.{ItemsFit as OwnItems}
use Rattle.work_worker.specs.RiseCovers.{CountsNext, CoversBut, due_of, raised}
use Rattle.work_worker.proofs.RiseCoverLaws.{starts-counts}
use Rattle.work_trace.specs.Adapting.{policy_for}
use Rattle.work_driver.specs.AllWorkers.{AreMade, AreCallers}
use Rattle.work_script.specs.Workloads.{config_of}
use Rattle.work_driver.specs.Openings.{IsNew, first_installs, AllNew}
use Rattle.work_driver.specs.Partings.{parted}
use Rattle.work_driver.specs.Preparings.{ParsedItem, ItemKeeps, WorkloadKeeps, IsPrepared}
use Rattle.work_driver.specs.Schedules.{places, AreSame, AreSound, debts}
use Rattle.work_driver.proofs.PartingLaws.{all-cons, own-all, part-at}
use Rattle.work_driver.proofs.StartLaws.{starts-sound}
use Rattle.work_driver.proofs.WorkersLaws.{made-length, made-same}

-- the items of a workload that was parsed
pub is_parsed-items : (m : Mode) (w : Workload) → ParsedWorkloadsFit → IsParsed m w → All (ParsedItem w.header) w.items
is_parsed-items m w fit b = λ i d lt. (b.items i d lt, fit m w b i d lt)

-- a caller's items, each of which is its own
items-own : (good : List ℕ → Type 0) (h : Header) (n : ℕ) (items : List Item) → All (λ i. (caller_in i ≡ n) × (ParsedItem h i × ItemKeeps good h i)) items → OwnItems good h.words (regions_of h) n items
items-own good h n [] b = tt
items-own good h n (Tx caller script ∷ items) b =
    let P : Item → Type 0 = λ i. (caller_in i ≡ n) × (ParsedItem h i × ItemKeeps good h i) in
    let head = All-head P (Tx caller script) items b in
    (head.0, head.1.0.1.1, head.1.1, items-own good h n items (All-tail P (Tx caller script) items b))
items-own good h n (Switch caller alg ∷ items) b =
    let P : Item → Type 0 = λ i. (caller_in i ≡ n) × (ParsedItem h i × ItemKeeps good h i) in
    let head = All-head P (Switch caller alg) items b in
    (head.0, items-own good h n items (All-tail P (Switch caller alg) items b))
items-own good h n (Reserve caller reads writes ∷ items) b =
    let P : Item → Type 0 = λ i. (caller_in i ≡ n) × (ParsedItem h i × ItemKeeps good h i) in
    let head = All-head P (Reserve caller reads writes) items b in
    (head.0, head.1.0.0.1, head.1.0.0.2, items-own good h n items (All-tail P (Reserve caller reads writes) items b))

-- who has not begun owes what it raised the clock by to install
new-owes : (these : List Alg) (v : CallerState) → IsNew these v → owed v ≤ length these
new-owes these v new = subst (λ b. (if b then v.base + 2 else v.rises) ≤ length these) (sym new.idle.1) new.done.rises

pub sizes-of : (config : Config) (h : Header) → config ≡ config_of h → HasSizes config h
sizes-of config h e = (
  sym (ap (λ (c : Config). c.words) e),
  sym (ap (λ (c : Config). c.records) e),
  sym (ap (λ (c : Config). c.ring) e),
  sym (ap (λ (c : Config). c.callers) e),
  sym (ap (λ (c : Config). c.reads) e),
  sym (ap (λ (c : Config). c.writes) e),
)

module _ {K : Type 0} where
  -- each is its caller's, from caller n on, has that caller's items, and went its course from the start
  pub record IsOwn (cut : Bool) (policy : Policy) (w : Workload) (n : ℕ) (x : Worker K) : Type 0 where
    pub role : x.desc.who.role ≡ Caller n
    pub all : x.all.now ≡ items_of n w.items
    pub over : x.regions.now ≡ regions_of w.header
    pub sized : x.desc.who.config ≡ config_of w.header
    pub start : CallerProgress
    pub fresh : IsFresh start
    pub left : start.left ≡ items_of n w.items
    pub by : start.policy ≡ policy_for policy n
    pub course : List Said
    pub went : Went w.header start course (place_of x)
    pub uncut : cut ≡ false → IsUncut course
    pub installs : (known x.desc).installs ≡ first_installs w.header.alg n ++ all_installed course
    -- who is alone runs under what it installed last, first under the header's algorithm
    pub alone : w.header.callers ≡ 1 → Knows w.header.alg course (known x.desc).alg

  abbrev pub AreOwn : Bool → Policy → Workload → ℕ → List (Worker K) → Type 0
  AreOwn cut policy w n [] = Unit {0}
  AreOwn cut policy w n (x ∷ xs) = IsOwn cut policy w n x × AreOwn cut policy w (suc n) xs

  pub own-callers : (cut : Bool) (policy : Policy) (w : Workload) (n : ℕ) (xs : List (Worker K)) → AreOwn cut policy w n xs → AreCallers n xs
  own-callers cut policy w n [] h = tt
  own-callers cut policy w n (x ∷ xs) h = (h.0.role, own-callers cut policy w (suc n) xs h.1)

  pub own-same : (cut : Bool) (policy : Policy) (w : Workload) (n : ℕ) (xs ys : List (Worker K)) → AreSame cut xs ys → AreOwn cut policy w n xs → AreOwn cut policy w n ys
  own-same cut policy w n [] [] s h = tt
  own-same cut policy w n [] (y ∷ ys) s h = absurd s
  own-same cut policy w n (x ∷ xs) [] s h = absurd s
  own-same cut policy w n (x ∷ xs) (y ∷ ys) s h = (
    record {
      role = ap (λ x. x.role) s.0.kept.same.who ∙ h.0.role;
      all = s.0.kept.all ∙ h.0.all;
      over = s.0.kept.regions ∙ h.0.over;
      sized = ap (λ x. x.config) s.0.kept.same.who ∙ h.0.sized;
      start = h.0.start;
      fresh = h.0.fresh;
      left = h.0.left;
      by = h.0.by;
      course = h.0.course ++ s.0.course;
      went = went-append w.header h.0.start (place_of x) (place_of y) h.0.course s.0.course h.0.went (s.0.went w.header (sizes-of x.desc.who.config w.header h.0.sized));
      uncut = λ e. uncut-append h.0.course s.0.course (h.0.uncut e) (s.0.uncut e);
      installs = s.0.installs ∙ installed-on (first_installs w.header.alg n) (known x.desc).installs h.0.course s.0.course h.0.installs;
      alone = λ one. knows-append w.header.alg (known x.desc).alg (known y.desc).alg h.0.course s.0.course (h.0.alone one) (s.0.alone (ap (λ (c : Config). c.callers) h.0.sized ∙ one));
    },
    own-same cut policy w (suc n) xs ys s.1 h.1,
  )

  module _ (stm : Stm K) (items : List Item) (rs : List Region) (alg : Alg) (policy : Policy) where
    -- what the first install raised the clock by is all that is owed at the start
    owes-start : (n : ℕ) (ds : List (Handle K)) (ws : List (Worker K)) → AllNew stm alg n ds → AreMade (λ k. items_of k items) rs alg policy n ds ws → debts ws ≤ length (first_installs alg n)
    owes-start n [] [] o h = omega arith
    owes-start n [] (w ∷ ws) o h = absurd h
    owes-start n (d ∷ ds) [] o h = absurd h
    owes-start n (d ∷ ds) (w ∷ ws) o h =
        let s = h.0 in
        let few : owed (known w.desc) ≤ length (first_installs alg n) = subst (λ (x : Handle K). owed (known x) ≤ length (first_installs alg n)) (sym s.is_desc) (new-owes (first_installs alg n) (known d) o.2) in
        let cons = sum_by-cons (λ (x : Worker K). owed (known x.desc)) w ws in
        let rest = owes-start (suc n) ds ws o.4 h.1 in
        omega (arith, few, cons, rest)

  -- nothing is done, and nothing raised but by the first install
  abbrev pub StartCovered : Alg → ℕ → List (Worker K) → Type 0
  StartCovered alg n [] = Unit {0}
  StartCovered alg n (x ∷ ws) = ((each most : ℕ) → CoversBut (length (first_installs alg n)) each most x) × CountsNext x × (x.failed ≡ 0) × StartCovered alg (suc n) ws

  start-covers : (d : Handle K) (items : List Item) (rs : List Region) (alg : Alg) (policy : Policy) (these : List Alg) (x : Worker K)
      → IsNew these (known d) → IsFreshWorker d items rs alg policy x → (each most : ℕ) → CoversBut (length these) each most x
  start-covers d items rs alg policy these x new s each most =
      let few : raised (known x.desc) ≤ length these = subst (λ (y : Handle K). raised (known y) ≤ length these) (sym s.is_desc)
      (subst (λ b. (if b then (known d).base else (known d).rises) ≤ length these) (sym new.idle.1) new.done.rises) in
      let left : x.items_left.now ≡ x.all.now = ap (λ (p : CallerProgress). p.left) s.at ∙ sym s.all in
      let same : each * length x.items_left.now ≡ each * length x.all.now = ap (λ (l : List Item). each * length l) left in
      let due : due_of x.chosen ≡ 0 = ap (λ (p : CallerProgress). due_of p.chosen) s.at in
      omega (arith, few, same, due)

  covered-start : (stm : Stm K) (items : List Item) (rs : List Region) (alg : Alg) (policy : Policy) (n : ℕ) (ds : List (Handle K))
      (ws : List (Worker K)) → AllNew stm alg n ds → AreMade (λ k. items_of k items) rs alg policy n ds ws → StartCovered alg n ws
  covered-start stm items rs alg policy n [] [] o h = tt
  covered-start stm items rs alg policy n [] (x ∷ ws) o h = absurd h
  covered-start stm items rs alg policy n (d ∷ ds) [] o h = absurd h
  covered-start stm items rs alg policy n (d ∷ ds) (x ∷ ws) o h = (
    start-covers d (items_of n items) rs alg (policy_for policy n) (first_installs alg n) x o.2 h.0,
    starts-counts x (ap (λ (p : CallerProgress). p.failed) h.0.at) (ap (λ (p : CallerProgress). p.must) h.0.at),
    ap (λ (p : CallerProgress). p.failed) h.0.at,
    covered-start stm items rs alg policy (suc n) ds ws o.4 h.1,
  )

  -- where the callers stand at first, where caller 0 goes by the text's policy
  starts-at : (stm : Stm K) (policy : Policy) (w : Workload) → policy ≡ w.header.policy → stm.config ≡ config_of w.header
      → (n : ℕ) (ds : List (Handle K)) (ws : List (Worker K)) → AllNew stm w.header.alg n ds
      → AreMade (λ k. items_of k w.items) (regions_of w.header) w.header.alg policy n ds ws
      → places ws ≡ map (first_place w) (counted n (length ws))
  starts-at stm policy w ruled sized n [] [] o h = refl
  starts-at stm policy w ruled sized n [] (x ∷ ws) o h = absurd h
  starts-at stm policy w ruled sized n (d ∷ ds) [] o h = absurd h
  starts-at stm policy w ruled sized n (d ∷ ds) (x ∷ ws) o h =
      let caller : caller_of d.who.role ≡ n = ap caller_of o.1 in
      let own : policy_for policy n ≡ policy_for w.header.policy n = ap (λ (p : Policy). policy_for p n) ruled in
      let reads : (known d).reads_limit ≡ w.header.reads = o.3.0 ∙ ap (λ (c : Config). c.reads) sized in
      let writes : (known d).writes_limit ≡ w.header.writes = o.3.1 ∙ ap (λ (c : Config). c.writes) sized in
      let at : place_of x ≡ first_place w n = h.0.at ∙ (λ i. record (first_place w n) { caller = caller i; policy = own i; reads_limit = reads i; writes_limit = writes i }) in
      ap (λ p. p ∷ places ws) at ∙ ap (λ ps. first_place w n ∷ ps) (starts-at stm policy w ruled sized (suc n) ds ws o.4 h.1)

module _ {K : Type 0} (cut : Bool) (policy : Policy) (w : Workload) where
  own-start : (stm : Stm K) → stm.config ≡ config_of w.header → (n : ℕ) (ds : List (Handle K)) (ws : List (Worker K))
      → AllNew stm w.header.alg n ds → All (λ (d : Handle K). stm.config.callers ≡ 1 → (known d).alg ≡ w.header.alg) ds
      → AreMade (λ k. items_of k w.items) (regions_of w.header) w.header.alg policy n ds ws → AreOwn cut policy w n ws
  own-start stm sized n [] [] o knows h = tt
  own-start stm sized n [] (x ∷ ws) o knows h = absurd h
  own-start stm sized n (d ∷ ds) [] o knows h = absurd h
  own-start stm sized n (d ∷ ds) (x ∷ ws) o knows h =
      let P : Handle K → Type 0 = λ (d : Handle K). stm.config.callers ≡ 1 → (known d).alg ≡ w.header.alg in
      let s = h.0 in (
        record {
          role = ap (λ (d : Handle K). d.who.role) s.is_desc ∙ o.1;
          all = s.all;
          over = s.over;
          sized = ap (λ (h : Handle K). h.who.config) s.is_desc ∙ (o.0.config ∙ sized);
          start = place_of x;
          fresh =
              record {
                between = ap (λ (p : CallerProgress). p.phase) s.at;
                unasked = ap (λ (p : CallerProgress). p.chosen) s.at;
                noted = ap (λ (p : CallerProgress). p.profile) s.at;
                rows = ap (λ (p : CallerProgress). p.rows) s.at;
              };
          left = ap (λ (p : CallerProgress). p.left) s.at;
          by = ap (λ (p : CallerProgress). p.policy) s.at;
          course = [];
          went = refl;
          uncut = λ e. tt;
          installs = ap (λ (h : Handle K). (known h).installs) s.is_desc ∙ (o.2.done.installs ∙ sym (append-nil (first_installs w.header.alg n)));
          alone = λ one. ap (λ (h : Handle K). (known h).alg) s.is_desc ∙ All-head P d ds knows (ap (λ (c : Config). c.callers) sized ∙ one);
        },
        own-start stm sized (suc n) ds ws o.4 (All-tail P d ds knows) h.1,
      )

module _ {K : Type 0} (good : List ℕ → Type 0) (cut : Bool) (policy : Policy) (w : Workload) (stm : Stm K) (items : All (ParsedItem w.header) w.items) (sized : stm.config ≡ config_of w.header) where
  -- the workers before the first turn
  pub record Begun (ws : List (Worker K)) : Type 0 where
    pub sound : AreSound good stm ws
    pub count : length ws ≡ w.header.callers
    pub own : AreOwn cut policy w 0 ws
    pub starts : policy ≡ w.header.policy → places ws ≡ first_places w
    pub owes : debts ws ≤ 1
    pub covered : StartCovered w.header.alg 0 ws

  module _ (keeps : WorkloadKeeps good w) where
    sound-start : (alg : Alg) (n : ℕ) (d : Handle K) (u : Worker K) → IsOf d stm → d.who.role ≡ Caller n
        → IsNew (first_installs alg n) (known d) → IsFreshWorker d (items_of n w.items) (regions_of w.header) alg (policy_for policy n) u
        → Sound good stm u
    sound-start alg n d u own role new s =
        let mine = items_of n w.items in
        let words : stm.config.words ≡ w.header.words = ap (λ (c : Config). c.words) sized in
        let both : All (λ i. ParsedItem w.header i × ItemKeeps good w.header i) w.items = λ i d lt. (items i d lt, keeps i d lt) in
        let owned : OwnItems good stm.config.words (regions_of w.header) n mine = subst (λ k. OwnItems good k (regions_of w.header) n mine)
        (sym words) (items-own good w.header n mine (own-all (λ i. ParsedItem w.header i × ItemKeeps good w.header i) n w.items both)) in
        starts-sound good stm d mine (regions_of w.header) alg (policy_for policy n) (first_installs alg n) u
        (ap (λ (c : Config). c.fence) sized) own new
        (subst (λ k. OwnItems good stm.config.words (regions_of w.header) k mine) (sym (ap caller_of role)) owned) s

    sound-all : (alg : Alg) (n : ℕ) (ds : List (Handle K)) (ws : List (Worker K)) → AllNew stm alg n ds → AreMade (λ k. items_of k w.items) (regions_of w.header) alg policy n ds ws → AreSound good stm ws
    sound-all alg n [] [] opened made = λ i d lt. absurd (omega (arith, lt))
    sound-all alg n [] (x ∷ ws) opened made = absurd made
    sound-all alg n (d ∷ ds) [] opened made = absurd made
    sound-all alg n (d ∷ ds) (x ∷ ws) opened made =
        all-cons (Sound good stm) x ws (sound-start alg n d x opened.0 opened.1 opened.2 made.0) (sound-all alg (suc n) ds ws opened.4 made.1)

    pub begun : (parts : List (List Item)) (ws : List (Worker K)) → parts ≡ parted w.header.callers w.items → IsPrepared w.header policy parts stm ws → Begun ws
    begun parts ws is p =
        let callers = p.count in
        let owned = made-same (λ n. slice_index_or parts n []) (λ n. items_of n w.items) (regions_of w.header) w.header.alg policy
        w.header.callers 0 p.descs ws (λ n lt. ap (λ l. slice_index_or l n []) is ∙ part-at w.header.callers w.items n [] lt)
        (omega (arith, callers)) p.made in
        let long = made-length (λ n. items_of n w.items) (regions_of w.header) w.header.alg policy 0 p.descs ws owned ∙ callers in
        record {
          sound = sound-all w.header.alg 0 p.descs ws p.new owned;
          count = long;
          own = own-start cut policy w stm sized 0 p.descs ws p.new p.knows owned;
          starts = λ ruled. starts-at stm policy w ruled sized 0 p.descs ws p.new owned ∙ ap (λ k. map (first_place w) (counted 0 k)) long;
          owes = owes-start stm w.items (regions_of w.header) w.header.alg policy 0 p.descs ws p.new owned;
          covered = covered-start stm w.items (regions_of w.header) w.header.alg policy 0 p.descs ws p.new owned;
        }

  pub turns-below : (gos : List Go) (ws : List (Worker K)) → All (λ (go : Go). go.caller < w.header.callers) gos → Begun ws → All (λ (go : Go). go.caller < length ws) gos
  turns-below gos ws low b = λ i d lt. subst (λ k. (get_or gos i d).caller < k) (sym b.count) (low i d lt)
