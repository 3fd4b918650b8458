-- What a caller installs in its course is what its items and its policy make of it.
use Rattle.std.proofs.Common.{ℕ, zero, suc, ◌≡◌, ◌≢◌, ◌≤◌, ◌+◌, ◌-◌, eqb, Bool, true, false, List, [], ◌∷◌, ◌++◌, length, drop, map, refl, sym, ap, ◌∙◌, arith, subst, inl, inr, length-append, append_assoc}
use Rattle.std.proofs.lemmas.Bool.{cond_both, eqb-true}
use Rattle.std.specs.Prelude.{◌⊎◌, ◌&&◌, ◌==◌, not, All, Option, Some, None, if◌then◌else◌, min}
use Rattle.std.proofs.lemmas.Bool.Decides.{nat_tests}
use Rattle.std.proofs.lemmas.List.{append-nil, append_cancel_right, drop-append-le, length-drop, map-append}
use Rattle.std.proofs.lemmas.List.Elements.{All-cons, All-head, All-nil, All-tail}
use Rattle.circular_buffer.specs.Buffer.{keep_last}
use Rattle.stm_model.specs.declared.alg.Alg.{Alg}
use Rattle.stm_model.specs.declared.stop.Stop.{Stop}
use Rattle.stm_model.specs.declared.stop.Stop.TheVariants as stops
use Rattle.work_profile.specs.declared.outcome.Outcome.{Outcome}
use Rattle.work_profile.specs.declared.outcome.Outcome.TheVariants.{Committed, ReadOnly, Cancelled, Conflict, Full}
use Rattle.work_profile.specs.declared.outcome.Outcome.TheVariants as outcomes
use Rattle.work_profile.specs.declared.policy.Policy.{Policy}
use Rattle.work_profile.specs.declared.policy.Policy.TheVariants.{Fixed, Round, Expert, State}
use Rattle.work_profile.specs.declared.profile.TheConstants.{WINDOW, MOST_SINCE}
use Rattle.work_profile.specs.Profiles.{Noted, profile_of, with_outcome}
use Rattle.work_script.specs.declared.op.Op.{Op}
use Rattle.work_script.specs.declared.op.Op.TheVariants.{Irrev}
use Rattle.work_script.specs.declared.report.Kind.{Kind}
use Rattle.work_script.specs.declared.report.Kind.TheVariants.{W, R, C}
use Rattle.work_script.specs.declared.report.Row.{Row}
use Rattle.work_script.specs.declared.workload.Header.{Header}
use Rattle.work_script.specs.declared.workload.Item.{Item}
use Rattle.work_script.specs.declared.workload.Item.TheVariants.{Tx, Switch, Reserve}
use Rattle.stm_answers.specs.declared.answers.Begin.TheVariants as begins
use Rattle.stm_answers.specs.declared.answers.Cancel.TheVariants as cancels
use Rattle.stm_answers.specs.declared.answers.CloseGate.TheVariants as closes
use Rattle.stm_answers.specs.declared.answers.Commit.TheVariants as commits
use Rattle.stm_answers.specs.declared.answers.Irrev.TheVariants as irrevs
use Rattle.stm_answers.specs.declared.answers.Look.TheVariants as looks
use Rattle.work_trace.specs.Adapting.{asked_by, outcome_of}
use Rattle.work_trace.specs.declared.said.Phase.{Phase}
use Rattle.work_trace.specs.declared.said.Phase.TheVariants.{Between, Inside}
use Rattle.work_trace.specs.declared.said.Said.{Said}
use Rattle.work_trace.specs.declared.said.Said.TheVariants.{TryBegin, Reply, Stopped, TryCancel, TryIrrevocable, TryCommit, TryClose, Looked, Installed, Reserved, Idle, Dropped, Reopened}
use Rattle.work_trace.specs.Places.{CallerProgress, after, granted_at, irrevocable, is_forced, must_next, rest_of, row_at, switched}
use Rattle.work_trace.specs.Turns.{BeforeTx, Comes, IsFair, Lengthens, MaySay, MustSwitchTo, SwitchesTo}
use Rattle.work_worker.specs.Courses.{BeginsUnder, CoursesInstall, IsFresh, IsUncut, Knows, MayTurn, Went, all_installed, installed}
use Rattle.work_worker.specs.Installs.{Adapts, InstallsBy, IsFailure, IsTried, Tried, asked_for, at_most_one, came_to, fulls, installs_by, last_of, ran_under, since_then, switches_of}

-- what may be said in a schedule, or after it, is what may be said
pub say-turn : (at : CallerProgress) (said : Said) → MaySay at said → MayTurn at said
say-turn at (TryBegin b) m = m
say-turn at (Reply op reply) m = m
say-turn at (Stopped op stop) m = m
say-turn at (TryCancel c) m = m
say-turn at (TryIrrevocable r) m = m
say-turn at (TryCommit c) m = m
say-turn at (TryClose c) m = m
say-turn at (Looked l) m = m
say-turn at (Installed alg) m = m
say-turn at (Reserved reads writes) m = m
say-turn at Idle m = m
say-turn at Dropped m = absurd m
say-turn at Reopened m = absurd m

-- one course after another
pub went-append : (h : Header) (at mid to : CallerProgress) (first second : List Said) → Went h at first mid → Went h mid second to → Went h at (first ++ second) to
went-append h at mid to [] second a b = subst (λ p. Went h p second to) (sym a) b
went-append h at mid to (said ∷ first) second a b = (a.0, a.1, went-append h (after at said) mid to first second a.2 b)

installed-append : (first second : List Said) → all_installed (first ++ second) ≡ all_installed first ++ all_installed second
installed-append [] second = refl
installed-append (said ∷ first) second = ap (λ l. installed said ++ l) (installed-append first second) ∙ sym (append_assoc (installed said) (all_installed first) (all_installed second))

-- what was installed before the second course is what was before the first and in it
pub installed-on : (before mid : List Alg) (first second : List Said) → mid ≡ before ++ all_installed first → mid ++ all_installed second ≡ before ++ all_installed (first ++ second)
installed-on before mid first second e = ap (λ l. l ++ all_installed second) e ∙ (append_assoc before (all_installed first) (all_installed second) ∙ ap (λ l. before ++ l) (sym (installed-append first second)))

drop-one : {A : Type 0} (k : ℕ) (xs : List A) → drop 1 (drop k xs) ≡ drop (suc k) xs
drop-one zero xs = refl
drop-one (suc k) [] = refl
drop-one (suc k) (x ∷ xs) = drop-one k xs

-- the last n of a list and of one more, of which n were kept
keep-more : {A : Type 0} (n : ℕ) (xs : List A) (x : A) → keep_last n (keep_last n xs ++ x ∷ []) ≡ keep_last n (xs ++ x ∷ [])
keep-more n xs x = by (length xs - n) refl
  where
    by : (k : ℕ) → length xs - n ≡ k → keep_last n (keep_last n xs ++ x ∷ []) ≡ keep_last n (xs ++ x ∷ [])
    by zero e = ap (λ (l : List _). keep_last n (l ++ x ∷ [])) (ap (λ k. drop k xs) e)
    by (suc k) e =
        let cut : length (drop (length xs - n) xs) ≡ length xs - (length xs - n) = length-drop (length xs - n) xs in
        let few = length-append (drop (length xs - n) xs) (x ∷ []) in
        let all = length-append xs (x ∷ []) in
        let one : length (keep_last n xs ++ x ∷ []) - n ≡ 1 = omega (arith, cut, few, e) in
        let more : length (xs ++ x ∷ []) - n ≡ suc (length xs - n) = omega (arith, all, e) in
        let within : length xs - n ≤ length xs = omega arith in
        ap (λ j. drop j (keep_last n xs ++ x ∷ [])) one
        ∙ (ap (drop 1) (sym (drop-append-le (length xs - n) xs (x ∷ []) within))
        ∙ (drop-one (length xs - n) (xs ++ x ∷ []) ∙ ap (λ j. drop j (xs ++ x ∷ [])) (sym more)))

-- a profile with one outcome more is that of one outcome more
pub noted-more : (os : List Outcome) (o : Outcome) → with_outcome (profile_of os) o ≡ profile_of (os ++ o ∷ [])
noted-more os o =
    let window = keep-more WINDOW os o in
    let all = length-append os (o ∷ []) in
    let since : min (min (length os) MOST_SINCE + 1) MOST_SINCE ≡ min (length (os ++ o ∷ [])) MOST_SINCE = grind (arith, nat_tests, all) in
    λ i. record { window = window i; since = since i }

-- while an attempt is open no switch is asked for, and a transaction comes next; and since: what the attempts came to
-- since the caller last switched by its policy, which is nothing where it is to switch now
abbrev pub NotedWith : Option Alg → List Outcome → Noted → Type 0
NotedWith None since p = p ≡ profile_of since
NotedWith (Some alg) since p = since ≡ []

pub record IsNoted (callers : ℕ) (policy : Policy) (knows : Alg) (since : List Outcome) (own : Policy) (phase : Phase) (left : List Item) (chosen : Option Alg) (profile : Noted) (alg : Alg) : Type 0 where
  pub by : own ≡ policy
  pub ready : phase ≡ Inside → (chosen ≡ None) × BeforeTx left
  pub noted : NotedWith chosen since profile
  -- who is alone runs under the algorithm that it knows
  pub under : callers ≡ 1 → phase ≡ Inside → alg ≡ knows

abbrev pub IsNotedAt : ℕ → Policy → Alg → List Outcome → CallerProgress → Type 0
IsNotedAt callers policy knows since at = IsNoted callers policy knows since at.policy at.phase at.left at.chosen at.profile at.alg

abbrev kinds_in : List Tried → List Kind
kinds_in tried = map (λ (t : Tried). t.kind) tried

-- where nothing was tried nothing is asked for
untried : (callers : ℕ) (done : Bool) (policy : Policy) (knows : Alg) (since other : List Outcome) (due : List Alg) (items : List Item)
    → installs_by callers done policy knows since due items [] ≡ installs_by callers done policy knows other due items []
untried callers done policy knows since other due [] = refl
untried callers done policy knows since other due (Tx caller script ∷ items) = ap (λ l. due ++ l) (untried callers done policy (last_of knows due) since other [] items)
untried callers done policy knows since other due (Switch caller alg ∷ items) = ap (λ l. due ++ alg ∷ l) (untried callers done policy alg since other [] items)
untried callers done policy knows since other due (Reserve caller reads writes ∷ items) = ap (λ l. due ++ l) (untried callers done policy (last_of knows due) since other [] items)

-- an attempt that failed is one more of the transaction that comes next
with_failure : Outcome → List Tried → List Tried
with_failure o [] = []
with_failure o (t ∷ tried) = record t { failed = o ∷ t.failed } ∷ tried

-- how many attempts of the transaction that comes next met a log that was too short
fulls_next : List Tried → ℕ
fulls_next [] = 0
fulls_next (t ∷ tried) = fulls t.failed

none-tried : fulls_next [] ≡ 0
unfolding fulls_next
none-tried = refl

fulls-one : (o : Outcome) (os : List Outcome) → fulls (o ∷ os) ≡ fulls (o ∷ []) + fulls os
fulls-one Committed os = omega arith
fulls-one ReadOnly os = omega arith
fulls-one Cancelled os = omega arith
fulls-one Conflict os = omega arith
fulls-one Full os = omega arith

fulls-few : (o : Outcome) → fulls (o ∷ []) ≤ 1
fulls-few Committed = omega arith
fulls-few ReadOnly = omega arith
fulls-few Cancelled = omega arith
fulls-few Conflict = omega arith
fulls-few Full = omega arith

failure-failed : (cut : Bool) (callers : ℕ) (o : Outcome) (tried : List Tried) → IsFailure cut callers o
    → (fulls (o ∷ []) ≡ 0) ⊎ (fulls_next tried ≡ 0) → All (IsTried cut callers) tried → All (IsTried cut callers) (with_failure o tried)
unfolding with_failure fulls_next
failure-failed cut callers o [] f few all = all
failure-failed cut callers o (t ∷ tried) f few all =
    let head = All-head (IsTried cut callers) t tried all in
    All-cons (IsTried cut callers) (record t { failed = o ∷ t.failed }) tried
    (record { failures = All-cons (IsFailure cut callers) o t.failed f head.failures; once = by few head.once })
    (All-tail (IsTried cut callers) t tried all)
  where
    by : (fulls (o ∷ []) ≡ 0) ⊎ (fulls t.failed ≡ 0) → fulls t.failed ≤ 1 → fulls (o ∷ t.failed) ≤ 1
    by (inl e) h = let q = fulls-one o t.failed in omega arith
    by (inr e) h = let q = fulls-one o t.failed in let l = fulls-few o in omega arith

failure-fulls : (o : Outcome) (tried : List Tried) → fulls (o ∷ []) ≡ 0 → fulls_next tried ≡ 0 → fulls_next (with_failure o tried) ≡ 0
unfolding with_failure fulls_next
failure-fulls o [] e h = refl
failure-fulls o (t ∷ tried) e h = let q = fulls-one o t.failed in omega arith

fulls-none : (t : Tried) (tried : List Tried) → t.failed ≡ [] → fulls_next (t ∷ tried) ≡ 0
unfolding fulls_next
fulls-none t tried e = ap fulls e

failure-kinds : (o : Outcome) (tried : List Tried) → kinds_in (with_failure o tried) ≡ kinds_in tried
unfolding with_failure
failure-kinds o [] = refl
failure-kinds o (t ∷ tried) = refl

failure-installs : (callers : ℕ) (done : Bool) (policy : Policy) (knows : Alg) (since : List Outcome) (o : Outcome) (due : List Alg)
    (items : List Item) (tried : List Tried)
    → installs_by callers done policy knows (since ++ o ∷ []) due items tried
    ≡ installs_by callers done policy knows since due items (with_failure o tried)
unfolding with_failure
failure-installs callers done policy knows since o due items [] = untried callers done policy knows (since ++ o ∷ []) since due items
failure-installs callers done policy knows since o due [] (t ∷ tried) = refl
failure-installs callers done policy knows since o due (Tx caller script ∷ items) (t ∷ tried) =
    let now = last_of knows due in
    ap (λ all.
    due
    ++ installs_by callers done policy now (since_then (asked_for policy all (ran_under callers now t)) all)
    (asked_for policy all (ran_under callers now t)) items tried) (append_assoc since (o ∷ []) (came_to t))
failure-installs callers done policy knows since o due (Switch caller alg ∷ items) (t ∷ tried) = ap (λ l. due ++ alg ∷ l) (failure-installs callers done policy alg since o [] items (t ∷ tried))
failure-installs callers done policy knows since o due (Reserve caller reads writes ∷ items) (t ∷ tried) = ap (λ l. due ++ l) (failure-installs callers done policy (last_of knows due) since o [] items (t ∷ tried))

-- the rest of a course is uncut too
uncut-on : (said : Said) (course : List Said) → IsUncut (said ∷ course) → IsUncut course
uncut-on (TryBegin b) course u = u
uncut-on (Reply op reply) course u = u
uncut-on (Stopped op stop) course u = u
uncut-on (TryCancel c) course u = u
uncut-on (TryIrrevocable r) course u = u
uncut-on (TryCommit c) course u = u
uncut-on (TryClose c) course u = u
uncut-on (Looked l) course u = u
uncut-on (Installed alg) course u = u
uncut-on (Reserved reads writes) course u = u
uncut-on Idle course u = u
uncut-on Dropped course u = absurd u
uncut-on Reopened course u = u

-- one uncut course after another
pub uncut-append : (first second : List Said) → IsUncut first → IsUncut second → IsUncut (first ++ second)
uncut-append [] second a b = b
uncut-append (TryBegin x ∷ first) second a b = uncut-append first second a b
uncut-append (Reply op reply ∷ first) second a b = uncut-append first second a b
uncut-append (Stopped op stop ∷ first) second a b = uncut-append first second a b
uncut-append (TryCancel c ∷ first) second a b = uncut-append first second a b
uncut-append (TryIrrevocable r ∷ first) second a b = uncut-append first second a b
uncut-append (TryCommit c ∷ first) second a b = uncut-append first second a b
uncut-append (TryClose c ∷ first) second a b = uncut-append first second a b
uncut-append (Looked l ∷ first) second a b = uncut-append first second a b
uncut-append (Installed alg ∷ first) second a b = uncut-append first second a b
uncut-append (Reserved reads writes ∷ first) second a b = uncut-append first second a b
uncut-append (Idle ∷ first) second a b = uncut-append first second a b
uncut-append (Dropped ∷ first) second a b = absurd a
uncut-append (Reopened ∷ first) second a b = uncut-append first second a b

-- what is known after one course is what the next one begins with
pub knows-append : (start mid last : Alg) (first second : List Said) → Knows start first mid → Knows mid second last → Knows start (first ++ second) last
knows-append start mid last [] second a b = subst (λ k. Knows k second last) a b
knows-append start mid last (said ∷ first) second a b = (a.0, knows-append (last_of start (installed said)) mid last first second a.1 b)

-- a try that ran under what it knows, where it was alone, ran under what it ran under
ran-is : (callers : ℕ) (knows alg : Alg) → (callers ≡ 1 → alg ≡ knows) → alg ≡ (if callers == 1 then knows else alg)
ran-is callers knows alg alone = cond_both (eqb callers 1) knows alg (λ x. alg ≡ x) (λ e. alone (eqb-true callers 1 e)) (λ e. refl)

-- what is due is done before the next item
due-first : (callers : ℕ) (done : Bool) (policy : Policy) (knows : Alg) (since : List Outcome) (alg : Alg) (items : List Item)
    (tried : List Tried) → (done ≡ true) ⊎ (items ≢ [])
    → alg ∷ installs_by callers done policy alg since [] items tried ≡ installs_by callers done policy knows since (alg ∷ []) items tried
due-first callers done policy knows since alg [] tried (inl e) = by done e
  where
    by : (b : Bool) → b ≡ true → alg ∷ (if b then [] else []) ≡ (if b then alg ∷ [] else [])
    by true e = refl
    by false e = absurd cc
due-first callers done policy knows since alg [] tried (inr n) = absurd (n refl)
due-first callers done policy knows since alg (Tx caller script ∷ items) [] h = refl
due-first callers done policy knows since alg (Tx caller script ∷ items) (t ∷ tried) h = refl
due-first callers done policy knows since alg (Switch caller to ∷ items) tried h = refl
due-first callers done policy knows since alg (Reserve caller reads writes ∷ items) tried h = refl

-- a switch that is asked for clears what was noted, once it is done
noted-behind : (c : Option Alg) (all : List Outcome) (p : Noted) → p ≡ profile_of all → NotedWith c (since_then (at_most_one c) all) p
noted-behind None all p e = e
noted-behind (Some alg) all p e = refl

tx-first : (left : List Item) → BeforeTx left → (caller : ℕ) × (script : List Op) × (left ≡ Tx caller script ∷ rest_of left)
tx-first [] b = absurd b
tx-first (Tx caller script ∷ items) b = (caller, script, refl)
tx-first (Switch caller alg ∷ items) b = absurd b
tx-first (Reserve caller reads writes ∷ items) b = absurd b

switch-first : (alg : Alg) (left : List Item) → SwitchesTo alg left → (caller : ℕ) × (left ≡ Switch caller alg ∷ rest_of left)
switch-first alg [] b = absurd b
switch-first alg (Tx caller script ∷ items) b = absurd b
switch-first alg (Switch caller to ∷ items) b = (caller, ap (λ a. Switch caller a ∷ items) b)
switch-first alg (Reserve caller reads writes ∷ items) b = absurd b

reserve-first : (reads writes : ℕ) (left : List Item) → Lengthens reads writes left → (caller : ℕ) × (left ≡ Reserve caller reads writes ∷ rest_of left)
reserve-first reads writes [] b = absurd b
reserve-first reads writes (Tx caller script ∷ items) b = absurd b
reserve-first reads writes (Switch caller alg ∷ items) b = absurd b
reserve-first reads writes (Reserve caller r w ∷ items) b = (caller, λ i. Reserve caller (b.0 i) (b.1 i) ∷ items)

-- after its course the caller stands at `to`; of what it had begun there these items are counted as done, with rows of
-- these kinds
module _ (h : Header) (cut done : Bool) (policy : Policy) (to : CallerProgress) (items : List Item) (kinds : List Kind) where
  -- what a course to there installs, where these items and this switch come first, under this algorithm; must: whether
  -- the next attempts must become irrevocable
  record Tells (knows : Alg) (since : List Outcome) (left : List Item) (rows : List Row) (chosen : Option Alg) (must : Bool) (course : List Said) : Type 0 where
    did : List Item
    more : List Kind
    all : left ≡ did ++ to.left
    told : map (λ (r : Row). r.kind) to.rows ≡ map (λ (r : Row). r.kind) rows ++ more
    enough : chosen ≡ None → (done ≡ true) ⊎ (did ++ items ≢ [])
    adapts : Adapts cut h.callers done policy knows since (at_most_one chosen) (did ++ items) (more ++ kinds) (all_installed course)
    first : must ≡ true → fulls_next adapts.0 ≡ 0

  abbrev TellsAt : Alg → List Outcome → CallerProgress → List Said → Type 0
  TellsAt knows since at course = Tells knows since at.left at.rows at.chosen at.must course

  abbrev Further : Alg → CallerProgress → List Said → Type 0
  Further knows at course = (since : List Outcome) → IsNotedAt h.callers policy knows since at → TellsAt knows since at course

  module _ (said : Said) (course : List Said) (at : CallerProgress) (knows : Alg) (since : List Outcome) (n : IsNotedAt h.callers policy knows since at) where
    -- nothing is done that counts
    still : installed said ≡ [] → TellsAt knows since at course → TellsAt knows since at (said ∷ course)
    still none t = let a = t.adapts in record { did = t.did; more = t.more; all = t.all; told = t.told; enough = t.enough; adapts = (a.0, a.1, a.2, ap (λ l. l ++ all_installed course) none ∙ a.3); first = t.first }

    -- an attempt failed; must: whether the next ones must become irrevocable then
    failed : (o : Outcome) (must : Bool) → IsFailure cut h.callers o → (at.must ≡ true → (fulls (o ∷ []) ≡ 0) × (must ≡ true)) → (fulls (o ∷ []) ≡ 0) ⊎ (must ≡ true) → installed said ≡ [] → at.phase ≡ Inside
        → ((other : List Outcome)
        → IsNoted h.callers policy knows other at.policy Between at.left at.chosen (with_outcome at.profile o) at.alg
        → Tells knows other at.left at.rows at.chosen must course) → TellsAt knows since at (said ∷ course)
    failed o must fails forced few none inside next =
        let c = (n.ready inside).0 in
        let noted : at.profile ≡ profile_of since = subst (λ x. NotedWith x since at.profile) c n.noted in
        let t = next (since ++ o ∷ []) (record {
          by = n.by;
          ready = λ e. absurd cc;
          noted = subst (λ x. NotedWith x (since ++ o ∷ []) (with_outcome at.profile o)) (sym c)
              (ap (λ p. with_outcome p o) noted ∙ noted-more since o);
          under = λ one e. absurd cc;
        }) in
        let a = t.adapts in
        still none (record {
          did = t.did;
          more = t.more;
          all = t.all;
          told = t.told;
          enough = t.enough;
          adapts = (
            with_failure o a.0,
            failure-failed cut h.callers o a.0 fails (rest few t.first) a.1,
            failure-kinds o a.0 ∙ a.2,
            a.3 ∙ failure-installs h.callers done policy knows since o (at_most_one at.chosen) (t.did ++ items) a.0,
          );
          first = λ e. let f = forced e in failure-fulls o a.0 f.0 (t.first f.1);
        })
      where
        rest : {k : ℕ} → (fulls (o ∷ []) ≡ 0) ⊎ (must ≡ true) → (must ≡ true → k ≡ 0) → (fulls (o ∷ []) ≡ 0) ⊎ (k ≡ 0)
        rest (inl e) h = inl e
        rest (inr e) h = inr (h e)

    -- a transaction ended by a row
    row-told : (kind : Kind) (row : Row) → row.kind ≡ kind → installed said ≡ [] → at.phase ≡ Inside
        → ((other : List Outcome)
        → IsNoted h.callers policy knows other at.policy Between (rest_of at.left)
        (asked_by at.policy (with_outcome at.profile (outcome_of kind)) at.alg) (with_outcome at.profile (outcome_of kind)) at.alg
        → Tells knows other (rest_of at.left) (at.rows ++ row ∷ []) (asked_by at.policy (with_outcome at.profile (outcome_of kind)) at.alg) false course) → TellsAt knows since at (said ∷ course)
    row-told kind row of none inside next =
        let o = outcome_of kind in
        let all = since ++ o ∷ [] in
        let c = asked_by policy (profile_of all) at.alg in
        let left = since_then (at_most_one c) all in
        let unasked = (n.ready inside).0 in
        let first = tx-first at.left (n.ready inside).1 in
        let noted : at.profile ≡ profile_of since = subst (λ x. NotedWith x since at.profile) unasked n.noted in
        let behind : with_outcome at.profile o ≡ profile_of all = ap (λ p. with_outcome p o) noted ∙ noted-more since o in
        let asked : asked_by at.policy (with_outcome at.profile o) at.alg ≡ c = λ i. asked_by (n.by i) (behind i) at.alg in
        let t = next left (record {
          by = n.by;
          ready = λ e. absurd cc;
          noted =
              subst (λ x. NotedWith x left (with_outcome at.profile o)) (sym asked) (noted-behind c all (with_outcome at.profile o) behind);
          under = λ one e. absurd cc;
        }) in
        let a = t.adapts in
        let tried : Tried = record { failed = []; alg = at.alg; kind = kind } in
        let told : map (λ (r : Row). r.kind) (at.rows ++ row ∷ []) ≡ map (λ (r : Row). r.kind) at.rows ++ kind ∷ [] =
        map-append (λ (r : Row). r.kind) at.rows (row ∷ []) ∙ ap (λ k. map (λ (r : Row). r.kind) at.rows ++ k ∷ []) of in
        let is : all_installed course ≡ installs_by h.callers done policy knows left (at_most_one c) (t.did ++ items) a.0 = a.3 ∙ ap
        (λ x. installs_by h.callers done policy knows left (at_most_one x) (t.did ++ items) a.0) asked in
        let now : knows ≡ last_of knows (at_most_one at.chosen) = ap (λ x. last_of knows (at_most_one x)) (sym unasked) in
        let ran : at.alg ≡ ran_under h.callers (last_of knows (at_most_one at.chosen)) tried = ran-is h.callers (last_of knows (at_most_one at.chosen)) at.alg (λ one. n.under one inside ∙ now) in
        let due : all_installed course ≡ installs_by h.callers done policy knows since (at_most_one at.chosen) (Tx first.0 first.1 ∷ t.did ++ items) (tried ∷ a.0) =
        is
        ∙ (λ i.
        at_most_one (sym unasked i)
        ++ installs_by h.callers done policy (now i) (since_then (at_most_one (asked_by policy (profile_of all) (ran i))) all)
        (at_most_one (asked_by policy (profile_of all) (ran i))) (t.did ++ items) a.0) in
        still none (record {
          did = Tx first.0 first.1 ∷ t.did;
          more = kind ∷ t.more;
          all = first.2 ∙ ap (λ l. Tx first.0 first.1 ∷ l) t.all;
          told = t.told ∙ (ap (λ l. l ++ t.more) told ∙ append_assoc (map (λ (r : Row). r.kind) at.rows) (kind ∷ []) t.more);
          enough = λ e. inr (λ z. absurd cc);
          adapts = (tried ∷ a.0, All-cons (IsTried cut h.callers) tried a.0 (record { failures = All-nil (IsFailure cut h.callers); once = omega arith }) a.1, ap (λ l. kind ∷ l) a.2, due);
          first = λ e. fulls-none tried a.0 refl;
        })

  -- the switch is done
  installed-told : (alg : Alg) (course : List Said) (at : CallerProgress) (knows : Alg) (since : List Outcome) (chosen : Option Alg)
      → at.chosen ≡ chosen → at.policy ≡ policy → NotedWith chosen since at.profile → MustSwitchTo alg chosen at.left
      → ((other : List Outcome) → IsNotedAt h.callers policy alg other (switched chosen at) → TellsAt alg other (switched chosen at) course)
      → Tells knows since at.left at.rows chosen at.must (Installed alg ∷ course)
  installed-told alg course at knows since None is by noted may next =
      let first = switch-first alg at.left may in
      let t = next since (record { by = by; ready = λ e. absurd cc; noted = subst (λ c. NotedWith c since at.profile) (sym is) noted; under = λ one e. absurd cc }) in
      let a = t.adapts in
      record {
        did = Switch first.0 alg ∷ t.did;
        more = t.more;
        all = first.1 ∙ ap (λ l. Switch first.0 alg ∷ l) t.all;
        told = t.told;
        enough = λ e. inr (λ z. absurd cc);
        adapts = (a.0, a.1, a.2, ap (λ l. alg ∷ l) (a.3 ∙ ap (λ c. installs_by h.callers done policy alg since (at_most_one c) (t.did ++ items) a.0) is));
        first = t.first;
      }
  installed-told alg course at knows since (Some chosen) is by noted may next =
      let t = next [] (record { by = by; ready = λ e. absurd cc; noted = refl; under = λ one e. absurd cc }) in
      let a = t.adapts in
      record {
        did = t.did;
        more = t.more;
        all = t.all;
        told = t.told;
        enough = λ e. absurd cc;
        adapts = (
          a.0,
          a.1,
          a.2,
          ap (λ l. alg ∷ l) a.3
              ∙ (due-first h.callers done policy knows [] alg (t.did ++ items) a.0 (t.enough refl)
              ∙ (λ i. installs_by h.callers done policy knows (sym noted i) (sym may i ∷ []) (t.did ++ items) a.0)),
        );
        first = t.first;
      }

  -- longer logs are made
  lengthened-told : (reads writes : ℕ) (course : List Said) (at : CallerProgress) (knows : Alg) (since : List Outcome) → at.chosen ≡ None
      → Lengthens reads writes at.left → Tells knows since (rest_of at.left) at.rows at.chosen at.must course
      → TellsAt knows since at (Reserved reads writes ∷ course)
  lengthened-told reads writes course at knows since unasked may t =
      let first = reserve-first reads writes at.left may in
      let a = t.adapts in
      record {
        did = Reserve first.0 reads writes ∷ t.did;
        more = t.more;
        all = first.1 ∙ ap (λ l. Reserve first.0 reads writes ∷ l) t.all;
        told = t.told;
        enough = λ e. inr (λ z. absurd cc);
        adapts = (
          a.0,
          a.1,
          a.2,
          a.3 ∙ (λ i. installs_by h.callers done policy knows since (at_most_one (unasked i)) (t.did ++ items) a.0)
              ∙ ap (λ c. at_most_one c ++ installs_by h.callers done policy (last_of knows (at_most_one c)) since [] (t.did ++ items) a.0)
              (sym unasked),
        );
        first = t.first;
      }

  -- a turn, by what it says
  module _ (course : List Said) (at : CallerProgress) (knows : Alg) (since : List Outcome) (n : IsNotedAt h.callers policy knows since at) where
    -- once an attempt must become irrevocable, the next ones must too
    forced-on : at.must ≡ true → must_next at.must at.failed ≡ true
    forced-on e = ap (λ m. must_next m at.failed) e

    -- an operation that was stopped was not of an attempt that must become irrevocable
    unforced : (m b : Bool) → (m && not b) ≡ false → b ≡ false → m ≡ true → ⊥
    unforced true true f i e = absurd cc
    unforced true false f i e = absurd cc
    unforced false b f i e = absurd cc

    by-stop : (op : Op) (stop : Stop) → IsFair h at (Stopped op stop) → Comes op at → Further knows (after at (Stopped op stop)) course → TellsAt knows since at (Stopped op stop ∷ course)
    by-stop op (stops.Conflict cause) fair comes next =
        failed (Stopped op (stops.Conflict cause)) course at knows since n outcomes.Conflict (must_next at.must at.failed) fair.1.0
        (λ e. (refl, forced-on e)) (inl refl) refl comes.0 next
    by-stop op (stops.Full limit) fair comes next =
        failed (Stopped op (stops.Full limit)) course at knows since n outcomes.Full true tt
        (λ e. absurd (unforced at.must (irrevocable at) comes.1 fair.0 e)) (inr refl) refl comes.0 next
    by-stop op (stops.ClockFull clock) fair comes next =
        still (Stopped op (stops.ClockFull clock)) course at knows since n refl
        (next since (record { by = n.by; ready = λ e. absurd cc; noted = n.noted; under = λ one e. absurd cc }))

    by-grant : (forced : Bool) → is_forced at ≡ forced → Further knows (granted_at forced at) course → TellsAt knows since at (TryIrrevocable irrevs.Granted ∷ course)
    by-grant true e next = still (TryIrrevocable irrevs.Granted) course at knows since n refl (next since (record { by = n.by; ready = n.ready; noted = n.noted; under = n.under }))
    by-grant false e next = still (TryIrrevocable irrevs.Granted) course at knows since n refl (next since (record { by = n.by; ready = n.ready; noted = n.noted; under = n.under }))

    asking : ((at.phase ≡ Inside) × (is_forced at ≡ true)) ⊎ Comes Irrev at → at.phase ≡ Inside
    asking (inl h) = h.0
    asking (inr h) = h.0

    -- who was cut in its attempt was so by the end of a schedule
    cut-by : (b : Bool) → (b ≡ false → ⊥) → b ≡ true
    cut-by true h = refl
    cut-by false h = absurd (h refl)

    by-said : (said : Said) → MayTurn at said → IsFair h at said → (cut ≡ false → IsUncut (said ∷ course))
        → (h.callers ≡ 1 → BeginsUnder knows said) → Further (last_of knows (installed said)) (after at said) course
        → TellsAt knows since at (said ∷ course)
    by-said (TryBegin (begins.Begun alg)) may fair uncut under next =
        still (TryBegin (begins.Begun alg)) course at knows since n refl
        (next since (record { by = n.by; ready = λ e. (may.2, may.1); noted = n.noted; under = λ one e. under one }))
    by-said (TryBegin (begins.Closed gate)) may fair uncut under next = still (TryBegin (begins.Closed gate)) course at knows since n refl (next since n)
    by-said (TryBegin (begins.Held word)) may fair uncut under next = still (TryBegin (begins.Held word)) course at knows since n refl (next since n)
    by-said (TryBegin (begins.ClockFull clock)) may fair uncut under next = still (TryBegin (begins.ClockFull clock)) course at knows since n refl (next since n)
    by-said (Reply op reply) may fair uncut under next = still (Reply op reply) course at knows since n refl (next since n)
    by-said (Stopped op stop) may fair uncut under next = by-stop op stop fair may.0 next
    by-said (TryCancel (cancels.Cancelled time)) may fair uncut under next =
        row-told (TryCancel (cancels.Cancelled time)) course at knows since n C
        (row_at C time (record at { replies = at.replies ++ 1 ∷ [] })) refl refl may.0 next
    by-said (TryCancel cancels.Irrevocable) may fair uncut under next = still (TryCancel cancels.Irrevocable) course at knows since n refl (next since n)
    by-said (TryIrrevocable irrevs.Granted) may fair uncut under next = by-grant (is_forced at) refl next
    by-said (TryIrrevocable (irrevs.Busy caller status)) may fair uncut under next = still (TryIrrevocable (irrevs.Busy caller status)) course at knows since n refl (next since n)
    by-said (TryIrrevocable (irrevs.Taken gate)) may fair uncut under next =
        failed (TryIrrevocable (irrevs.Taken gate)) course at knows since n outcomes.Cancelled (must_next at.must at.failed) (inl fair.0.2)
        (λ e. (refl, forced-on e)) (inl refl) refl (asking may) next
    by-said (TryIrrevocable (irrevs.Conflict cause)) may fair uncut under next =
        failed (TryIrrevocable (irrevs.Conflict cause)) course at knows since n outcomes.Conflict (must_next at.must at.failed) fair.1
        (λ e. (refl, forced-on e)) (inl refl) refl (asking may) next
    by-said (TryIrrevocable (irrevs.ClockFull clock)) may fair uncut under next =
        still (TryIrrevocable (irrevs.ClockFull clock)) course at knows since n refl
        (next since (record { by = n.by; ready = λ e. absurd cc; noted = n.noted; under = λ one e. absurd cc }))
    by-said (TryCommit (commits.Committed time)) may fair uncut under next = row-told (TryCommit (commits.Committed time)) course at knows since n W (row_at W time at) refl refl may.0 next
    by-said (TryCommit (commits.ReadOnly time)) may fair uncut under next = row-told (TryCommit (commits.ReadOnly time)) course at knows since n R (row_at R time at) refl refl may.0 next
    by-said (TryCommit (commits.Conflict cause)) may fair uncut under next =
        failed (TryCommit (commits.Conflict cause)) course at knows since n outcomes.Conflict (must_next at.must at.failed) fair.1
        (λ e. (refl, forced-on e)) (inl refl) refl may.0 next
    by-said (TryCommit (commits.Again word had now)) may fair uncut under next = still (TryCommit (commits.Again word had now)) course at knows since n refl (next since n)
    by-said (TryCommit (commits.ClockFull clock)) may fair uncut under next =
        still (TryCommit (commits.ClockFull clock)) course at knows since n refl
        (next since (record { by = n.by; ready = λ e. absurd cc; noted = n.noted; under = λ one e. absurd cc }))
    by-said (TryClose closes.Closed) may fair uncut under next =
        still (TryClose closes.Closed) course at knows since n refl
        (next since (record { by = n.by; ready = λ e. absurd cc; noted = n.noted; under = λ one e. absurd cc }))
    by-said (TryClose (closes.Taken gate)) may fair uncut under next = still (TryClose (closes.Taken gate)) course at knows since n refl (next since n)
    by-said (Looked looks.Quiet) may fair uncut under next =
        still (Looked looks.Quiet) course at knows since n refl
        (next since (record { by = n.by; ready = λ e. absurd cc; noted = n.noted; under = λ one e. absurd cc }))
    by-said (Looked (looks.Busy caller status)) may fair uncut under next = still (Looked (looks.Busy caller status)) course at knows since n refl (next since n)
    by-said (Installed alg) may fair uncut under next = installed-told alg course at knows since at.chosen refl n.by n.noted may.1 next
    by-said (Reserved reads writes) may fair uncut under next =
        lengthened-told reads writes course at knows since may.2 may.1 (next since
        (record {
          by = n.by;
          ready = λ e. absurd (let x = sym may.0 ∙ e in cc);
          noted = n.noted;
          under = λ one e. absurd (let x = sym may.0 ∙ e in cc);
        }))
    by-said Idle may fair uncut under next = still Idle course at knows since n refl (next since n)
    by-said Dropped may fair uncut under next = failed Dropped course at knows since n outcomes.Cancelled at.must (inr (cut-by cut uncut)) (λ e. (refl, e)) (inl refl) refl may.0 next
    by-said Reopened may fair uncut under next = still Reopened course at knows since n refl (next since (record { by = n.by; ready = λ e. absurd cc; noted = n.noted; under = λ one e. absurd cc }))

  -- the whole course, where the items that are counted as done after it install nothing
  module _
      (last : (knows : Alg) (since : List Outcome) → IsNotedAt h.callers policy knows since to → (a : Adapts cut h.callers done policy knows since (at_most_one to.chosen) items kinds []) × (fulls_next a.0 ≡ 0))
      (enough : to.chosen ≡ None → (done ≡ true) ⊎ (items ≢ [])) (end : Alg) where
    all-told : (course : List Said) (at : CallerProgress) (knows : Alg) (since : List Outcome) → IsNotedAt h.callers policy knows since at
        → Went h at course to → (cut ≡ false → IsUncut course) → (h.callers ≡ 1 → Knows knows course end) → TellsAt knows since at course
    all-told [] at knows since n went uncut alone = let a = last knows since (subst (IsNotedAt h.callers policy knows since) went n) in subst (λ p. TellsAt knows since p []) (sym went) (record {
      did = [];
      more = [];
      all = refl;
      told = sym (append-nil (map (λ (r : Row). r.kind) to.rows));
      enough = enough;
      adapts = a.0;
      first = λ e. a.1;
    })
    all-told (said ∷ course) at knows since n went uncut alone =
        by-said course at knows since n said went.0 went.1 uncut (λ one. (alone one).0) (λ other m.
        all-told course (after at said) (last_of knows (installed said)) other m went.2 (λ e. uncut-on said course (uncut e)) (λ one.
        (alone one).1))

fresh-noted : (callers : ℕ) (knows : Alg) (at : CallerProgress) → IsFresh at → IsNotedAt callers at.policy knows [] at
fresh-noted callers knows at f = record {
  by = refl;
  ready = λ e. absurd (let x = sym f.between ∙ e in cc);
  noted = subst (λ c. NotedWith c [] at.profile) (sym f.unasked) f.noted;
  under = λ one e. absurd (let x = sym f.between ∙ e in cc);
}

fixed-installs : (callers : ℕ) (done : Bool) (knows : Alg) (since : List Outcome) (items : List Item) (tried : List Tried) → installs_by callers done Fixed knows since [] items tried ≡ switches_of items
fixed-installs callers true knows since [] tried = refl
fixed-installs callers false knows since [] tried = refl
fixed-installs callers done knows since (Tx caller script ∷ items) [] = fixed-installs callers done knows since items []
fixed-installs callers done knows since (Tx caller script ∷ items) (t ∷ tried) = fixed-installs callers done knows (since ++ came_to t) items tried
fixed-installs callers done knows since (Switch caller alg ∷ items) tried = ap (λ l. alg ∷ l) (fixed-installs callers done alg since items tried)
fixed-installs callers done knows since (Reserve caller reads writes ∷ items) tried = fixed-installs callers done knows since items tried

by-policy : (cut : Bool) (callers : ℕ) (done : Bool) (policy : Policy) (start : Alg) (items : List Item) (kinds : List Kind)
    (installs : List Alg) → Adapts cut callers done policy start [] [] items kinds installs
    → InstallsBy cut callers done policy start items kinds installs
by-policy cut callers done Fixed start items kinds installs a = a.3 ∙ fixed-installs callers done start [] items a.0
by-policy cut callers done (Round n) start items kinds installs a = a
by-policy cut callers done Expert start items kinds installs a = a
by-policy cut callers done (State n) start items kinds installs a = a

-- of a caller that had done nothing, where these are the first of its items,
-- or these and the first operations of an attempt
module _ (cut : Bool) (h : Header) (at to : CallerProgress) (course : List Said) (start end : Alg) (fresh : IsFresh at)
    (went : Went h at course to) (uncut : cut ≡ false → IsUncut course) (alone : h.callers ≡ 1 → Knows start course end) (first : List Item)
    (is : at.left ≡ first ++ to.left) where
  from-start : (done : Bool) (items : List Item) (kinds : List Kind) → TellsAt h cut done at.policy to items kinds start [] at course
      → InstallsBy cut h.callers done at.policy start (first ++ items) (map (λ (r : Row). r.kind) to.rows ++ kinds) (all_installed course)
  from-start done items kinds t =
      let did : t.did ≡ first = append_cancel_right t.did first to.left (sym t.all ∙ is) in
      let told : map (λ (r : Row). r.kind) to.rows ≡ t.more = t.told ∙ ap (λ (rows : List Row). map (λ (r : Row). r.kind) rows ++ t.more) fresh.rows in
      by-policy cut h.callers done at.policy start (first ++ items) (map (λ (r : Row). r.kind) to.rows ++ kinds) (all_installed course)
      (subst (λ l. Adapts cut h.callers done at.policy start [] [] (l ++ items) (map (λ (r : Row). r.kind) to.rows ++ kinds) (all_installed course)) did
      (subst (λ k. Adapts cut h.callers done at.policy start [] [] (t.did ++ items) (k ++ kinds) (all_installed course)) (sym told)
      (subst (λ c. Adapts cut h.callers done at.policy start [] (at_most_one c) (t.did ++ items) (t.more ++ kinds) (all_installed course)) fresh.unasked t.adapts)))

  -- what was asked for last is done, where nothing is asked for any more
  pub first-installs : (done : Bool) × (to.chosen ≡ None → done ≡ true) × InstallsBy cut h.callers done at.policy start first (map (λ (r : Row). r.kind) to.rows) (all_installed course)
  first-installs = by to.chosen refl
    where
      whole : (done : Bool) → TellsAt h cut done at.policy to [] [] start [] at course → InstallsBy cut h.callers done at.policy start first (map (λ (r : Row). r.kind) to.rows) (all_installed course)
      whole done t =
          subst (λ l. InstallsBy cut h.callers done at.policy start l (map (λ (r : Row). r.kind) to.rows) (all_installed course)) (append-nil first)
          (subst (λ k. InstallsBy cut h.callers done at.policy start (first ++ []) k (all_installed course)) (append-nil (map (λ (r : Row). r.kind) to.rows)) (from-start done [] [] t))

      by : (c : Option Alg) → to.chosen ≡ c → (done : Bool) × (to.chosen ≡ None → done ≡ true) × InstallsBy cut h.callers done at.policy start first (map (λ (r : Row). r.kind) to.rows) (all_installed course)
      by None e = (
        true,
        (λ n. refl),
        whole true (all-told h cut true at.policy to [] [] (λ knows since n. (([], All-nil _, refl, ap at_most_one (sym e)), none-tried))
            (λ n. inl refl) end course at start [] (fresh-noted h.callers start at fresh) went uncut alone),
      )
      by (Some alg) e = (
        false,
        (λ n. absurd (let x = sym e ∙ n in cc)),
        whole false (all-told h cut false at.policy to [] [] (λ knows since n. (([], All-nil _, refl, refl), none-tried))
            (λ n. absurd (let x = sym e ∙ n in cc)) end course at start [] (fresh-noted h.callers start at fresh) went uncut alone),
      )

  pub open-installs : to.phase ≡ Inside → (caller : ℕ) (ops : List Op) (kind : Kind)
      → InstallsBy cut h.callers false at.policy start (first ++ Tx caller ops ∷ []) (map (λ (r : Row). r.kind) to.rows ++ kind ∷ [])
      (all_installed course)
  open-installs inside caller ops kind =
      let tried : Tried = record { failed = []; alg = to.alg; kind = kind } in
      from-start false (Tx caller ops ∷ []) (kind ∷ []) (all-told h cut false at.policy to (Tx caller ops ∷ []) (kind ∷ [])
      (λ knows since n. (
        (
          tried ∷ [],
          All-cons (IsTried cut h.callers) tried [] (record { failures = All-nil (IsFailure cut h.callers); once = omega arith }) (All-nil _),
          refl,
          ap (λ c. at_most_one c ++ []) (sym (n.ready inside).0),
        ),
        fulls-none tried [] refl,
      ))
      (λ n. inr (λ z. absurd cc)) end course at start [] (fresh-noted h.callers start at fresh) went uncut alone)

pub courses-install : CoursesInstall
courses-install cut h at to course start end fresh went uncut alone over =
    let i = first-installs cut h at to course start end fresh went uncut alone at.left (sym (ap (λ l. at.left ++ l) over.1 ∙ append-nil at.left)) in
    subst (λ b. InstallsBy cut h.callers b at.policy start at.left (map (λ (r : Row). r.kind) to.rows) (all_installed course)) (i.1 over.2) i.2
