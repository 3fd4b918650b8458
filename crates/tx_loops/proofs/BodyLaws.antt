-- Laws of a body's attempt.
use Rattle.std.proofs.Common.{ℕ, ◌≡◌, ◌∙◌, ◌<◌, List, [], ◌∷◌, length, get_or, true, false, refl, sym, ap, subst, arith}
use Rattle.std.proofs.lemmas.List.{get_or-map, length-map}
use Rattle.std.proofs.lemmas.List.Elements.{All-cons, All-get_or, All-head, All-nil, All-tail}
use Rattle.std.specs.Prelude.{Bool, Option, None, not, if◌then◌else◌, ◌==◌}
use Rattle.stm_logs.specs.LogStates.{firsts}
use Rattle.stm_model.specs.declared.config.Config.{Config}
use Rattle.stm_model.specs.Memories.{is_empty, put}
use Rattle.stm_answers.specs.declared.answers.Commit.{Commit}
use Rattle.stm_answers.specs.declared.answers.Commit.TheVariants as commits
use Rattle.stm_answers.specs.Answers.{Commits}
use Rattle.stm_answers.specs.CallerState.{CallerState, Grows, IsIdle, IsRunning, wrote}
use Rattle.tx_checked.specs.declared.phase.CallerPhase.{CallerPhase}
use Rattle.tx_checked.specs.declared.phase.CallerPhase.TheVariants as phases
use Rattle.tx_checked.specs.Misuses.{access_at, inside_at}
use Rattle.tx_checked.specs.declared.refusal.Refusal.{Refusal}
use Rattle.tx_checked.specs.Phases.{IsInPhase}
use Rattle.tx_checked.specs.Tells.{commit_refusal}
use Rattle.tx_loops.specs.Stages.{EachSpared, IsSpared}

-- a caller that runs stands so
pub inside-in : (p : CallerPhase) (v : CallerState) → IsInPhase p v → v.running ≡ true → inside_at p ≡ None
inside-in phases.Idle v h r = absurd (let no : true ≡ false = sym r ∙ (h.0 refl).1 in cc)
inside-in phases.Running v h r = refl
inside-in phases.Beside v h r = refl
inside-in phases.Committing v h r = refl
inside-in phases.Closing v h r = absurd (let no : true ≡ false = sym r ∙ (h.4 refl).running in cc)

pub access-in : (a words : ℕ) (p : CallerPhase) (v : CallerState) → IsInPhase p v → IsRunning v → IsSpared words v.fence a → access_at a words v.fence p ≡ None
access-in a words phases.Idle v h r s = absurd (let no : true ≡ false = sym r.0 ∙ (h.0 refl).1 in cc)
access-in a words phases.Running v h r s = rw s.0 refl
access-in a words phases.Beside v h r s = rw s.0 (rw s.1 refl)
access-in a words phases.Committing v h r s = absurd (let no : true ≡ false = sym (h.3 refl).1 ∙ r.1 in cc)
access-in a words phases.Closing v h r s = absurd (let no : true ≡ false = sym r.0 ∙ (h.4 refl).running in cc)

-- who has written nothing wrote nothing
pub blank-wrote : (v : CallerState) → v.log.writes ≡ [] → wrote v ≡ false
blank-wrote v blank = ap (λ ws. not (is_empty ws)) blank

module _ (good : List ℕ → Type 0) (c : Config) (n : ℕ) where
  -- the commit of an attempt that has written nothing ends it
  pub blank-commits : (r : Commit) (v w : CallerState) → v.log.writes ≡ [] → Commits good c n r v w → IsIdle w × (w.made ≡ v.made) × Grows v w × (w.installs ≡ v.installs) × ((o : Option Refusal) → commit_refusal r o ≡ o)
  blank-commits (commits.Committed time) v w blank h = absurd (let no : false ≡ true = sym (blank-wrote v blank) ∙ h.wrote in cc)
  blank-commits (commits.ReadOnly time) v w blank h = (h.0.ends.idle, h.0.made, h.0.ends.grows, h.0.ends.installs, λ o. refl)
  blank-commits (commits.Conflict cause) v w blank h = absurd (let no : false ≡ true = sym (blank-wrote v blank) ∙ h.3 in cc)
  blank-commits (commits.Again word had now) v w blank h = absurd (let no : false ≡ true = sym (blank-wrote v blank) ∙ h.8 in cc)
  blank-commits (commits.ClockFull clock) v w blank h = absurd (let no : false ≡ true = sym (blank-wrote v blank) ∙ h.2 in cc)

-- addresses that are spared
pub spared-put : (words fence a x : ℕ) (ws : List (ℕ × ℕ)) → IsSpared words fence a → EachSpared words fence ws → EachSpared words fence (put a x ws)
spared-put words fence a x [] here h = All-cons P a [] here (All-nil P)
  where
    P : ℕ → Type 0
    P = IsSpared words fence
spared-put words fence a x (w ∷ ws) here h = by (w.0 == a) (spared-put words fence a x ws here (All-tail P w.0 (firsts ws) h))
  where
    P : ℕ → Type 0
    P = IsSpared words fence

    by : (t : Bool) → EachSpared words fence (put a x ws) → EachSpared words fence (if t then (a, x) ∷ ws else w ∷ put a x ws)
    by true k = All-cons P a (firsts ws) here (All-tail P w.0 (firsts ws) h)
    by false k = All-cons P w.0 (firsts (put a x ws)) (All-head P w.0 (firsts ws) h) k

pub spared-at : (words fence i : ℕ) (ws : List (ℕ × ℕ)) → i < length ws → EachSpared words fence ws → IsSpared words fence (get_or ws i (0, 0)).0
spared-at words fence i ws low h =
    let long = length-map ws first in
    let within : i < length (firsts ws) = omega (arith, low, long) in
    subst (IsSpared words fence) (get_or-map first ws i (0, 0) 0 low) (All-get_or (IsSpared words fence) (firsts ws) i 0 within h)
  where
    first : ℕ × ℕ → ℕ
    first w = w.0
