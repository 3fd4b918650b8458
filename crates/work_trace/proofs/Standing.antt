-- What stays so of a caller's place, whatever it says.
use Rattle.std.proofs.Common.{ℕ, zero, suc, ◌≡◌, ◌≤◌, ◌+◌, Bool, true, false, List, [], ◌∷◌, ◌++◌, length, drop, refl, sym, ap, ◌∙◌, arith, subst, length-append, zero-add}
use Rattle.std.specs.Prelude.{map, ◌==◌, if◌then◌else◌, Option, Some, None}
use Rattle.std.proofs.lemmas.Bool.Decides.{nat_tests}
use Rattle.std.proofs.lemmas.List.{map-append}
use Rattle.stm_model.specs.declared.alg.Alg.{Alg}
use Rattle.work_script.specs.declared.op.Op.{Op}
use Rattle.work_script.specs.declared.report.Kind.{Kind}
use Rattle.work_script.specs.declared.report.Kind.TheVariants.{W, R, C}
use Rattle.work_script.specs.declared.report.Row.{Row}
use Rattle.work_script.specs.declared.workload.Item.{Item}
use Rattle.work_script.specs.declared.workload.Item.TheVariants.{Tx, Switch, Reserve}
use Rattle.work_script.specs.Reports.{counted, scripts_of}
use Rattle.stm_answers.specs.declared.answers.Begin.TheVariants.{Begun, Closed, Held, ClockFull}
use Rattle.stm_answers.specs.declared.answers.Cancel.TheVariants.{Cancelled, Irrevocable}
use Rattle.stm_answers.specs.declared.answers.CloseGate.TheVariants.{Closed, Taken}
use Rattle.stm_answers.specs.declared.answers.Commit.TheVariants.{Committed, ReadOnly, Conflict, Again, ClockFull}
use Rattle.stm_answers.specs.declared.answers.Irrev.TheVariants as irrevs
use Rattle.stm_model.specs.declared.stop.Stop.TheVariants as stops
use Rattle.stm_answers.specs.declared.answers.Look.TheVariants.{Quiet, Busy}
use Rattle.work_trace.specs.declared.said.Phase.{Phase}
use Rattle.work_trace.specs.declared.said.Phase.TheVariants.{Between, Inside, Closing, Quiet}
use Rattle.work_trace.specs.declared.said.Said.{Said}
use Rattle.work_trace.specs.declared.said.Said.TheVariants.{TryBegin, Reply, Stopped, TryCancel, TryIrrevocable, TryCommit, TryClose, Looked, Installed, Reserved, Idle, Dropped, Reopened}
use Rattle.work_trace.specs.Places.{CallerProgress, after, ended, granted_at, is_forced, lengthened, row_at, rest_of, script_at, switched, items_of}
use Rattle.work_trace.specs.Told.{AreOf, ItemsHaveScripts}
use Rattle.work_trace.specs.Turns.{MaySay, MayWind, MayFinish, BeforeTx, BeforeSwitch, Lengthens, MustSwitch, IsOver}

scripts-by : (n c : ℕ) (script : List Op) (items : List Item) (b : Bool) → (c == n) ≡ b → scripts_of n (items_of n items) ≡ scripts_of n items
    → scripts_of n (if b then Tx c script ∷ items_of n items else items_of n items) ≡ (if b then script ∷ scripts_of n items else scripts_of n items)
scripts-by n c script items true e h = rw e (ap (λ s. script ∷ s) h)
scripts-by n c script items false e h = h

switches-by : (n c : ℕ) (item : Item) (items : List Item) (b : Bool) → scripts_of n (item ∷ items_of n items) ≡ scripts_of n (items_of n items)
    → scripts_of n (if b then item ∷ items_of n items else items_of n items) ≡ scripts_of n (items_of n items)
switches-by n c item items true h = h
switches-by n c item items false h = refl

pub scripts-items : ItemsHaveScripts
scripts-items n [] = refl
scripts-items n (Tx c script ∷ items) = scripts-by n c script items (c == n) refl (scripts-items n items)
scripts-items n (Switch c alg ∷ items) = switches-by n c (Switch c alg) items (c == n) refl ∙ scripts-items n items
scripts-items n (Reserve c reads writes ∷ items) = switches-by n c (Reserve c reads writes) items (c == n) refl ∙ scripts-items n items

-- the items are the caller's
abbrev pub OwnItems : ℕ → List Item → Type 0
OwnItems n [] = Unit {0}
OwnItems n (Tx c script ∷ items) = (c ≡ n) × OwnItems n items
OwnItems n (Switch c alg ∷ items) = (c ≡ n) × OwnItems n items
OwnItems n (Reserve c reads writes ∷ items) = (c ≡ n) × OwnItems n items

own-by : (n c : ℕ) (item : Item) (items : List Item) (b : Bool) → (c == n) ≡ b → (c ≡ n → OwnItems n items → OwnItems n (item ∷ items)) → OwnItems n items
    → OwnItems n (if b then item ∷ items else items)
own-by n c item items true e f h = f (grind (arith, nat_tests, e)) h
own-by n c item items false e f h = h

pub own-items : (n : ℕ) (items : List Item) → OwnItems n (items_of n items)
own-items n [] = tt
own-items n (Tx c script ∷ items) = own-by n c (Tx c script) (items_of n items) (c == n) refl (λ e h. (e, h)) (own-items n items)
own-items n (Switch c alg ∷ items) = own-by n c (Switch c alg) (items_of n items) (c == n) refl (λ e h. (e, h)) (own-items n items)
own-items n (Reserve c reads writes ∷ items) = own-by n c (Reserve c reads writes) (items_of n items) (c == n) refl (λ e h. (e, h)) (own-items n items)

-- what an open attempt, and a closing, is for
abbrev pub Faces : Phase → Option Alg → List Item → Type 0
Faces Between chosen left = Unit {0}
Faces Inside chosen left = BeforeTx left
Faces Closing chosen left = MustSwitch chosen left
Faces Quiet chosen left = MustSwitch chosen left

-- n is the caller, and items are all of the workload
pub record Stands (items : List Item) (n : ℕ) (at : CallerProgress) : Type 0 where
  pub caller : at.caller ≡ n
  pub todo : scripts_of n at.left ≡ drop (length at.rows) (scripts_of n items)
  pub within : length at.rows ≤ length (scripts_of n items)
  pub numbered : map (λ (row : Row). row.seq) at.rows ≡ counted 0 (length at.rows)
  pub mine : AreOf n at.rows
  pub owned : OwnItems n at.left
  pub faces : Faces at.phase at.chosen at.left

drop-next : {A : Type 0} (k : ℕ) (x : A) (xs ys : List A) → x ∷ ys ≡ drop k xs → (ys ≡ drop (suc k) xs) × (suc k ≤ length xs)
drop-next zero x [] ys h = absurd cc
drop-next zero x (y ∷ xs) ys h = (cc, omega arith)
drop-next (suc k) x [] ys h = absurd cc
drop-next (suc k) x (y ∷ xs) ys h = let r = drop-next k x xs ys h in (r.0, (let b = r.1 in omega (arith, b)))

drop-none : {A : Type 0} (k : ℕ) (xs : List A) → [] ≡ drop k xs → length xs ≤ k
drop-none k [] h = omega arith
drop-none zero (x ∷ xs) h = absurd cc
drop-none (suc k) (x ∷ xs) h = let r = drop-none k xs h in omega (arith, r)

counted-next : (k n : ℕ) → counted k n ++ (k + n) ∷ [] ≡ counted k (suc n)
counted-next k zero = (let e : k + 0 ≡ k = omega arith in ap (λ (j : ℕ). j ∷ []) e)
counted-next k (suc n) = (let e : k + suc n ≡ suc k + n = omega arith in ap (λ w. k ∷ w) (ap (λ (j : ℕ). counted (suc k) n ++ j ∷ []) e ∙ counted-next (suc k) n))

areof-append : (n : ℕ) (rows : List Row) (row : Row) → AreOf n rows → row.caller ≡ n → AreOf n (rows ++ row ∷ [])
areof-append n [] row h e = (e, tt)
areof-append n (r ∷ rows) row h e = (h.0, areof-append n rows row h.1 e)

tx-scripts : (n : ℕ) (left : List Item) → BeforeTx left → OwnItems n left → scripts_of n left ≡ script_at left ∷ scripts_of n (rest_of left)
tx-scripts n [] b h = absurd b
tx-scripts n (Tx c script ∷ items) b h = (let e = h.0 in let test : (c == n) ≡ true = grind (arith, nat_tests) in rw test refl)
tx-scripts n (Switch c alg ∷ items) b h = absurd b
tx-scripts n (Reserve c reads writes ∷ items) b h = absurd b

switch-scripts : (n : ℕ) (left : List Item) → BeforeSwitch left → scripts_of n (rest_of left) ≡ scripts_of n left
switch-scripts n [] b = absurd b
switch-scripts n (Tx c script ∷ items) b = absurd b
switch-scripts n (Switch c alg ∷ items) b = refl
switch-scripts n (Reserve c reads writes ∷ items) b = absurd b

reserve-scripts : (n reads writes : ℕ) (left : List Item) → Lengthens reads writes left → scripts_of n (rest_of left) ≡ scripts_of n left
reserve-scripts n reads writes [] b = absurd b
reserve-scripts n reads writes (Tx c script ∷ items) b = absurd b
reserve-scripts n reads writes (Switch c alg ∷ items) b = absurd b
reserve-scripts n reads writes (Reserve c r w ∷ items) b = refl

own-rest : (n : ℕ) (left : List Item) → OwnItems n left → OwnItems n (rest_of left)
own-rest n [] h = tt
own-rest n (Tx c script ∷ items) h = h.1
own-rest n (Switch c alg ∷ items) h = h.1
own-rest n (Reserve c reads writes ∷ items) h = h.1

module _ (items : List Item) (n : ℕ) (at : CallerProgress) (s : Stands items n at) where
  -- nothing is done, and the phase is one that fits what is left
  moved : (to : CallerProgress) → to.caller ≡ at.caller → to.left ≡ at.left → to.rows ≡ at.rows → Faces to.phase to.chosen at.left → Stands items n to
  moved to caller left rows faces = record {
    caller = caller ∙ s.caller;
    todo = ap (scripts_of n) left ∙ (s.todo ∙ ap (λ (r : List Row). drop (length r) (scripts_of n items)) (sym rows));
    within = subst (λ (r : List Row). length r ≤ length (scripts_of n items)) (sym rows) s.within;
    numbered = subst (λ (r : List Row). map (λ (row : Row). row.seq) r ≡ counted 0 (length r)) (sym rows) s.numbered;
    mine = subst (AreOf n) (sym rows) s.mine;
    owned = subst (OwnItems n) (sym left) s.owned;
    faces = subst (Faces to.phase to.chosen) (sym left) faces;
  }

  -- the switch is done: that of the text is one item less, and that of the policy none
  stands-switched : (chosen : Option Alg) → MustSwitch chosen at.left → Stands items n (switched chosen at)
  stands-switched None b = record {
    caller = s.caller;
    todo = switch-scripts n at.left b ∙ s.todo;
    within = s.within;
    numbered = s.numbered;
    mine = s.mine;
    owned = own-rest n at.left s.owned;
    faces = tt;
  }
  stands-switched (Some alg) b = moved (switched (Some alg) at) refl refl refl tt

  -- longer logs are one item less
  stands-lengthened : (reads writes : ℕ) → Lengthens reads writes at.left → at.phase ≡ Between → Stands items n (lengthened reads writes at)
  stands-lengthened reads writes b between = record {
    caller = s.caller;
    todo = reserve-scripts n reads writes at.left b ∙ s.todo;
    within = s.within;
    numbered = s.numbered;
    mine = s.mine;
    owned = own-rest n at.left s.owned;
    faces = subst (λ p. Faces p at.chosen (rest_of at.left)) (sym between) tt;
  }

  -- the transaction has its row
  rowed : (kind : Kind) (time : ℕ) → BeforeTx at.left → Stands items n (ended kind time at)
  rowed kind time b =
      let l : length (at.rows ++ row_at kind time at ∷ []) ≡ length at.rows + 1 = length-append at.rows (row_at kind time at ∷ []) in
      let m : length (at.rows ++ row_at kind time at ∷ []) ≡ suc (length at.rows) = (let e = l in omega (arith, e)) in
      let next = drop-next (length at.rows) (script_at at.left) (scripts_of n items) (scripts_of n (rest_of at.left)) (sym (tx-scripts n at.left b s.owned) ∙ s.todo) in
      record {
        caller = s.caller;
        todo = next.0 ∙ ap (λ (k : ℕ). drop k (scripts_of n items)) (sym m);
        within = subst (λ (k : ℕ). k ≤ length (scripts_of n items)) (sym m) next.1;
        numbered =
            map-append (λ (row : Row). row.seq) at.rows (row_at kind time at ∷ [])
            ∙ (ap (λ w. w ++ length at.rows ∷ []) s.numbered
            ∙ (ap (λ (j : ℕ). counted 0 (length at.rows) ++ j ∷ []) (sym (zero-add (length at.rows)))
            ∙ (counted-next 0 (length at.rows) ∙ ap (λ (k : ℕ). counted 0 k) (sym m))));
        mine = areof-append n at.rows (row_at kind time at) s.mine s.caller;
        owned = own-rest n at.left s.owned;
        faces = tt;
      }

  facing : (p : Phase) → at.phase ≡ p → Faces p at.chosen at.left
  facing p e = subst (λ q. Faces q at.chosen at.left) e s.faces

-- a cancelled transaction's row has one reply more
rowed-cancel : (items : List Item) (n : ℕ) (at : CallerProgress) (time : ℕ) → Stands items n at → BeforeTx at.left → Stands items n (ended C time (record at { replies = at.replies ++ 1 ∷ [] }))
rowed-cancel items n at time s b =
    rowed items n (record at { replies = at.replies ++ 1 ∷ [] }) (moved items n at s (record at { replies = at.replies ++ 1 ∷ [] }) refl refl refl s.faces) C time b

stands-granted : (items : List Item) (n : ℕ) (at : CallerProgress) (forced : Bool) → Stands items n at → Stands items n (granted_at forced at)
stands-granted items n at true s = moved items n at s (granted_at true at) refl refl refl s.faces
stands-granted items n at false s = moved items n at s (granted_at false at) refl refl refl s.faces

pub stands-said : (items : List Item) (n : ℕ) (at : CallerProgress) (said : Said) → MaySay at said → Stands items n at → Stands items n (after at said)
stands-said items n at (TryBegin (Begun alg)) m s = moved items n at s (after at (TryBegin (Begun alg))) refl refl refl m.1
stands-said items n at (TryBegin (Closed gate)) m s = s
stands-said items n at (TryBegin (Held word)) m s = s
stands-said items n at (TryBegin (ClockFull clock)) m s = s
stands-said items n at (Reply op reply) m s = moved items n at s (after at (Reply op reply)) refl refl refl s.faces
stands-said items n at (Stopped op (stops.Conflict cause)) m s = moved items n at s (after at (Stopped op (stops.Conflict cause))) refl refl refl tt
stands-said items n at (Stopped op (stops.Full limit)) m s = moved items n at s (after at (Stopped op (stops.Full limit))) refl refl refl tt
stands-said items n at (Stopped op (stops.ClockFull clock)) m s = moved items n at s (after at (Stopped op (stops.ClockFull clock))) refl refl refl tt
stands-said items n at (TryCancel (Cancelled time)) m s = rowed-cancel items n at time s (facing items n at s Inside m.0)
stands-said items n at (TryCancel Irrevocable) m s = moved items n at s (after at (TryCancel Irrevocable)) refl refl refl s.faces
stands-said items n at (TryIrrevocable irrevs.Granted) m s = stands-granted items n at (is_forced at) s
stands-said items n at (TryIrrevocable (irrevs.Busy caller status)) m s = s
stands-said items n at (TryIrrevocable (irrevs.Taken gate)) m s = moved items n at s (after at (TryIrrevocable (irrevs.Taken gate))) refl refl refl tt
stands-said items n at (TryIrrevocable (irrevs.Conflict cause)) m s = moved items n at s (after at (TryIrrevocable (irrevs.Conflict cause))) refl refl refl tt
stands-said items n at (TryIrrevocable (irrevs.ClockFull clock)) m s = moved items n at s (after at (TryIrrevocable (irrevs.ClockFull clock))) refl refl refl tt
stands-said items n at (TryCommit (Committed time)) m s = rowed items n at s W time (facing items n at s Inside m.0)
stands-said items n at (TryCommit (ReadOnly time)) m s = rowed items n at s R time (facing items n at s Inside m.0)
stands-said items n at (TryCommit (Conflict cause)) m s = moved items n at s (after at (TryCommit (Conflict cause))) refl refl refl tt
stands-said items n at (TryCommit (Again word had now)) m s = s
stands-said items n at (TryCommit (ClockFull clock)) m s = moved items n at s (after at (TryCommit (ClockFull clock))) refl refl refl tt
stands-said items n at (TryClose Closed) m s = moved items n at s (after at (TryClose Closed)) refl refl refl m.1
stands-said items n at (TryClose (Taken gate)) m s = s
stands-said items n at (Looked Quiet) m s = moved items n at s (after at (Looked Quiet)) refl refl refl (facing items n at s Closing m)
stands-said items n at (Looked (Busy caller status)) m s = s
stands-said items n at (Installed alg) m s = stands-switched items n at s at.chosen (facing items n at s Quiet m.0)
stands-said items n at (Reserved reads writes) m s = stands-lengthened items n at s reads writes m.1 m.0
stands-said items n at Idle m s = s
stands-said items n at Dropped m s = absurd m
stands-said items n at Reopened m s = absurd m

pub stands-wound : (items : List Item) (n : ℕ) (at : CallerProgress) (said : Said) → MayWind at said → Stands items n at → Stands items n (after at said)
stands-wound items n at (TryBegin b) m s = stands-said items n at (TryBegin b) m.2 s
stands-wound items n at (Reply op reply) m s = stands-said items n at (Reply op reply) m.2 s
stands-wound items n at (Stopped op stop) m s = stands-said items n at (Stopped op stop) m.2 s
stands-wound items n at (TryCancel c) m s = stands-said items n at (TryCancel c) m.2 s
stands-wound items n at (TryIrrevocable r) m s = stands-said items n at (TryIrrevocable r) m.2 s
stands-wound items n at (TryCommit c) m s = stands-said items n at (TryCommit c) m.2 s
stands-wound items n at (TryClose c) m s = stands-said items n at (TryClose c) m.2 s
stands-wound items n at (Looked l) m s = stands-said items n at (Looked l) m.2 s
stands-wound items n at (Installed alg) m s = stands-said items n at (Installed alg) m.2 s
stands-wound items n at (Reserved reads writes) m s = stands-said items n at (Reserved reads writes) m.2 s
stands-wound items n at Idle m s = stands-said items n at Idle m.2 s
stands-wound items n at Dropped m s = moved items n at s (after at Dropped) refl refl refl tt
stands-wound items n at Reopened m s = moved items n at s (after at Reopened) refl refl refl tt

pub stands-finished : (items : List Item) (n : ℕ) (at : CallerProgress) (said : Said) → MayFinish at said → Stands items n at → Stands items n (after at said)
stands-finished items n at (TryBegin b) m s = stands-said items n at (TryBegin b) m s
stands-finished items n at (Reply op reply) m s = stands-said items n at (Reply op reply) m s
stands-finished items n at (Stopped op stop) m s = stands-said items n at (Stopped op stop) m s
stands-finished items n at (TryCancel c) m s = stands-said items n at (TryCancel c) m s
stands-finished items n at (TryIrrevocable r) m s = stands-said items n at (TryIrrevocable r) m s
stands-finished items n at (TryCommit c) m s = stands-said items n at (TryCommit c) m s
stands-finished items n at (TryClose c) m s = stands-said items n at (TryClose c) m s
stands-finished items n at (Looked l) m s = stands-said items n at (Looked l) m s
stands-finished items n at (Installed alg) m s = stands-said items n at (Installed alg) m s
stands-finished items n at (Reserved reads writes) m s = stands-said items n at (Reserved reads writes) m s
stands-finished items n at Idle m s = absurd m
stands-finished items n at Dropped m s = absurd m
stands-finished items n at Reopened m s = absurd m

-- who has nothing left has a row for each of its transactions
pub stands-over : (items : List Item) (n : ℕ) (at : CallerProgress) → Stands items n at → IsOver at → map (λ (row : Row). row.seq) at.rows ≡ counted 0 (length (scripts_of n items))
stands-over items n at s over =
    let most = drop-none (length at.rows) (scripts_of n items) (sym (ap (scripts_of n) over.1) ∙ s.todo) in
    let least = s.within in
    let e : length at.rows ≡ length (scripts_of n items) = omega (arith, most, least) in
    s.numbered ∙ ap (λ (k : ℕ). counted 0 k) e
