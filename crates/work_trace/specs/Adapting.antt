-- ADAPTING: what a caller's attempts came to, and the switch that its policy asks for after a transaction.
use Rattle.std.specs.Prelude.{ℕ, ◌≡◌, ◌≢◌, ◌==◌, leb, [], length, Option, Some, None, if◌then◌else◌, ◌↔◌}
use Rattle.stm_model.specs.Algorithms.{alg_number}
use Rattle.stm_model.specs.declared.alg.Alg.{Alg}
use Rattle.stm_model.specs.declared.alg.Alg.TheVariants.{Cgl, Tml, OrecLazy, OrecEager, RingSw, Serial}
use Rattle.work_profile.specs.declared.outcome.Outcome.{Outcome}
use Rattle.work_profile.specs.declared.outcome.Outcome.TheVariants.{Committed, ReadOnly, Cancelled}
use Rattle.work_profile.specs.declared.policy.Policy.{Policy}
use Rattle.work_profile.specs.declared.policy.Policy.TheVariants.{Fixed, Round, Expert, State}
use Rattle.work_profile.specs.declared.profile.TheConstants.{WINDOW}
use Rattle.work_profile.specs.Policies.{Chooses, next_in_cycle, to_right, to_left}
use Rattle.work_profile.specs.Profiles.{Noted, profile_of, conflicts, full_logs, commits}
use Rattle.work_script.specs.declared.report.Kind.{Kind}
use Rattle.work_script.specs.declared.report.Kind.TheVariants.{W, R, C}

-- what the attempt came to that ended a transaction by a row of this kind
abbrev pub outcome_of : Kind → Outcome
outcome_of W = Committed
outcome_of R = ReadOnly
outcome_of C = Cancelled

-- nothing was noted since the last clear
abbrev pub no_profile : Noted
no_profile = profile_of []

-- caller 0 alone switches by a policy
abbrev pub policy_for : Policy → ℕ → Policy
policy_for policy n = if n == 0 then policy else Fixed

abbrev pub expert_choice : ℕ → ℕ → ℕ → Alg
expert_choice c f w = if leb 1 f then Cgl else if leb 12 c then Serial else if w == 0 then Tml else if leb 4 c then OrecLazy else if leb 1 c then RingSw else OrecEager

abbrev pub state_choice : ℕ → ℕ → Alg → Alg
state_choice n c alg = if leb n c then to_right alg else if c == 0 then to_left alg else alg

abbrev pub once_full : Noted → Alg → Alg → Alg
once_full p alg next = if leb WINDOW (length p.window) then next else alg

-- the algorithm that the policy chooses by the profile while this one runs
abbrev pub choice : Policy → Noted → Alg → Alg
choice Fixed p alg = alg
choice (Round n) p alg = if leb n p.since then next_in_cycle alg else alg
choice Expert p alg = once_full p alg (expert_choice (conflicts p.window) (full_logs p.window) (commits p.window))
choice (State n) p alg = once_full p alg (state_choice n (conflicts p.window) alg)

abbrev pub other_than : Alg → Alg → Option Alg
other_than alg next = if alg_number next == alg_number alg then None else Some next

-- the switch that it asks for: to what it chooses, where that is another algorithm
abbrev pub asked_by : Policy → Noted → Alg → Option Alg
asked_by Fixed p alg = None
asked_by (Round n) p alg = other_than alg (choice (Round n) p alg)
asked_by Expert p alg = other_than alg (choice Expert p alg)
asked_by (State n) p alg = other_than alg (choice (State n) p alg)

-- THE LAW OF ASKING: a switch is asked for exactly where the policy chooses that algorithm, and it is another one
abbrev pub AsksByPolicy : Type 0
AsksByPolicy = (policy : Policy) (p : Noted) (alg next : Alg) → (asked_by policy p alg ≡ Some next) ↔ (Chooses policy p alg next × (next ≢ alg))
