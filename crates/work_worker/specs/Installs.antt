-- WHICH INSTALLS ARE A CALLER'S: the switches of its items, and after a transaction the switch that its policy asks
-- for. With one caller alone these are determined but for one thing:
-- whether a transaction's first attempt met a log that was too short.
use Rattle.std.specs.Prelude.{ℕ, suc, ◌≡◌, ◌<◌, ◌≤◌, ◌⊎◌, ◌==◌, Bool, true, List, [], ◌∷◌, ◌++◌, map, All, Option, Some, None, if◌then◌else◌}
use Rattle.stm_model.specs.declared.alg.Alg.{Alg}
use Rattle.work_profile.specs.declared.outcome.Outcome.{Outcome}
use Rattle.work_profile.specs.declared.outcome.Outcome.TheVariants.{Committed, ReadOnly, Cancelled, Conflict, Full}
use Rattle.work_profile.specs.declared.policy.Policy.{Policy}
use Rattle.work_profile.specs.declared.policy.Policy.TheVariants.{Fixed, Round, Expert, State}
use Rattle.work_profile.specs.Profiles.{profile_of}
use Rattle.work_script.specs.declared.report.Kind.{Kind}
use Rattle.work_script.specs.declared.workload.Item.{Item}
use Rattle.work_script.specs.declared.workload.Item.TheVariants.{Tx, Switch, Reserve}
use Rattle.work_trace.specs.Adapting.{asked_by, outcome_of}

-- the algorithms that are switched to, in the order of the text
abbrev pub switches_of : List Item → List Alg
switches_of [] = []
switches_of (Tx caller script ∷ items) = switches_of items
switches_of (Switch caller alg ∷ items) = alg ∷ switches_of items
switches_of (Reserve caller reads writes ∷ items) = switches_of items

-- the attempts of a transaction: what those came to that failed; and of the last one the algorithm that ran, and the
-- kind of its row
pub record Tried : Type 0 where
  pub failed : List Outcome
  pub alg : Alg
  pub kind : Kind

-- an attempt that failed met a log that was too short, or another of so many callers: in a conflict, or as who has the
-- gate, for whom it was cancelled. Where a schedule may end with it open (cut) that cancels it too
abbrev pub IsFailure : Bool → ℕ → Outcome → Type 0
IsFailure cut callers Committed = ⊥
IsFailure cut callers ReadOnly = ⊥
IsFailure cut callers Cancelled = (1 < callers) ⊎ (cut ≡ true)
IsFailure cut callers Conflict = 1 < callers
IsFailure cut callers Full = Unit {0}

-- how many of these attempts met a log that was too short
abbrev pub fulls : List Outcome → ℕ
fulls [] = 0
fulls (Committed ∷ more) = fulls more
fulls (ReadOnly ∷ more) = fulls more
fulls (Cancelled ∷ more) = fulls more
fulls (Conflict ∷ more) = fulls more
fulls (Full ∷ more) = suc (fulls more)

-- how the attempts of a transaction fail: after a log that was too short they are irrevocable, and need none. So with
-- one caller, and no schedule, at most one fails
pub record IsTried (cut : Bool) (callers : ℕ) (t : Tried) : Type 0 where
  pub failures : All (IsFailure cut callers) t.failed
  pub once : fulls t.failed ≤ 1

-- the algorithm that the last attempt ran under: with one caller the one that it knows, since it installed it last
abbrev pub ran_under : ℕ → Alg → Tried → Alg
ran_under callers knows t = if callers == 1 then knows else t.alg

-- what all of them came to, in their order
abbrev pub came_to : Tried → List Outcome
came_to t = t.failed ++ outcome_of t.kind ∷ []

abbrev pub at_most_one : Option Alg → List Alg
at_most_one None = []
at_most_one (Some alg) = alg ∷ []

-- the switch that the policy asks for, by these outcomes since it last asked for one that was done, while alg runs
abbrev pub asked_for : Policy → List Outcome → Alg → List Alg
asked_for policy since alg = at_most_one (asked_by policy (profile_of since) alg)

-- where it asks for one, the outcomes are forgotten
abbrev pub since_then : List Alg → List Outcome → List Outcome
since_then [] since = since
since_then (alg ∷ more) since = []

-- the algorithm that is known after these installs
abbrev pub last_of : Alg → List Alg → Alg
last_of knows [] = knows
last_of knows (alg ∷ more) = last_of alg more

-- THE INSTALLS of one of so many callers that does these items, whose transactions were tried so. knows: the algorithm
-- that was installed last; since: what its attempts came to since it last switched by its policy; due: the switch that
-- its policy asks for, which comes before the next item; done: whether it is done where no item comes
abbrev pub installs_by : ℕ → Bool → Policy → Alg → List Outcome → List Alg → List Item → List Tried → List Alg
installs_by callers done policy knows since due [] tried = if done then due else []
installs_by callers done policy knows since due (Switch caller alg ∷ items) tried = due ++ alg ∷ installs_by callers done policy alg since [] items tried
installs_by callers done policy knows since due (Reserve caller reads writes ∷ items) tried = due ++ installs_by callers done policy (last_of knows due) since [] items tried
installs_by callers done policy knows since due (Tx caller script ∷ items) [] = due ++ installs_by callers done policy (last_of knows due) since [] items []
installs_by callers done policy knows since due (Tx caller script ∷ items) (t ∷ tried) =
    let now = last_of knows due in
    let all = since ++ came_to t in
    let asked = asked_for policy all (ran_under callers now t) in
    due ++ installs_by callers done policy now (since_then asked all) asked items tried

-- there are such attempts, and the rows of the last ones are of these kinds
abbrev pub Adapts : Bool → ℕ → Bool → Policy → Alg → List Outcome → List Alg → List Item → List Kind → List Alg → Type 0
Adapts cut callers done policy knows since due items kinds installs =
    (tried : List Tried) × All (IsTried cut callers) tried × (map (λ (t : Tried). t.kind) tried ≡ kinds) × (installs ≡ installs_by callers done policy knows since due items tried)

-- these are the installs of a caller that did these items from the start, under this algorithm, one of so many, with
-- rows of these kinds; with a fixed policy nothing is installed but the switches
abbrev pub InstallsBy : Bool → ℕ → Bool → Policy → Alg → List Item → List Kind → List Alg → Type 0
InstallsBy cut callers done Fixed start items kinds installs = installs ≡ switches_of items
InstallsBy cut callers done (Round n) start items kinds installs = Adapts cut callers done (Round n) start [] [] items kinds installs
InstallsBy cut callers done Expert start items kinds installs = Adapts cut callers done Expert start [] [] items kinds installs
InstallsBy cut callers done (State n) start items kinds installs = Adapts cut callers done (State n) start [] [] items kinds installs
