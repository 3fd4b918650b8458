-- PRIVATIZATION: while a caller has a range of words out of the transactions, nobody else loads or stores a word of it;
-- and what its reads there are of is the one history.
use Rattle.std.specs.Prelude.{ℕ, ◌≡◌, Bool, true, false, List, [], ◌∷◌}
use Rattle.stm_model.specs.declared.config.Config.{Config}
use Rattle.rule_base.specs.declared.layout.At.{At}
use Rattle.rule_base.specs.declared.layout.At.TheVariants.{Heap}
use Rattle.rule_base.specs.Encodings.{fenced}
use Rattle.rule_base.specs.Bridge.{public_history}
use Rattle.stm_rule.specs.Callers.{BeginsHistory}
use Rattle.stm_rule.specs.Runs.CoreRuns.{core_kind}
use Rattle.stm_rule.specs.Runs.CoreRuns.CoreStep.{fence_loads, fence_stores, unfences}
use Rattle.stm_rule.specs.Runs.NoteRuns.{Shared, Deed, SharedRule, AllMay, after_deeds}
use Rattle.stm_rule.specs.Runs.NoteRuns.Deed.{steps, tells, learns, gathers}

-- the place is no word of the fence's range
abbrev pub IsBeside : ℕ → At → Type 0
IsBeside fence (Heap a) = fenced fence a ≡ false
IsBeside fence place = Unit {0}

-- the deed of caller m loads and stores no word of the range
abbrev pub LeavesAlone : ℕ → ℕ → Deed → Type 0
LeavesAlone fence m (steps step) = IsBeside fence (core_kind m step).place
LeavesAlone fence m tells = Unit {0}
LeavesAlone fence m (learns note) = Unit {0}
LeavesAlone fence m gathers = Unit {0}

-- a load or a store of the range by the caller that has it
abbrev pub is_direct : Deed → Bool
is_direct (steps (fence_loads a)) = true
is_direct (steps (fence_stores a x)) = true
is_direct deed = false

-- the last step of a give-back
abbrev pub gives_back : Deed → Bool
gives_back (steps (unfences alg)) = true
gives_back deed = false

-- caller n gives no range back
abbrev pub KeepsRange : ℕ → List (ℕ × Deed) → Type 0
KeepsRange n [] = Unit {0}
KeepsRange n (d ∷ ds) = (d.0 ≡ n → gives_back d.1 ≡ false) × KeepsRange n ds

-- but for caller n's direct loads and stores no deed is in the range
abbrev pub AllLeaveAlone : ℕ → ℕ → List (ℕ × Deed) → Type 0
AllLeaveAlone fence n [] = Unit {0}
AllLeaveAlone fence n (d ∷ ds) = ((d.0 ≡ n → is_direct d.1 ≡ false) → LeavesAlone fence d.0 d.1) × AllLeaveAlone fence n ds

-- THE PRIVATIZATION LAW: whatever deeds any callers do from where caller n has a range, each allowed where it comes,
-- until n gives it back: nobody loads or stores a word of it but n, and n in no attempt
abbrev pub RangeIsPrivate : ((ℕ → ℕ) → Type 0) → Config → Type 0
RangeIsPrivate good c = (n : ℕ) (deeds : List (ℕ × Deed)) (x : Shared) → SharedRule good c x → AllMay good c deeds x → (x.world.views n).fence.holds ≡ true → KeepsRange n deeds → AllLeaveAlone (x.world.views n).fence.number n deeds

-- THE HISTORY OF A RANGE: whatever deeds any callers do from where caller n has a range, each allowed where it comes,
-- what had been committed as n took it begins the history after them, which is the one that closing tells
abbrev pub RangeIsHistory : ((ℕ → ℕ) → Type 0) → Config → Type 0
RangeIsHistory good c = (n : ℕ) (deeds : List (ℕ × Deed)) (x : Shared) → SharedRule good c x → AllMay good c deeds x → (x.world.views n).fence.holds ≡ true
    → BeginsHistory (public_history (x.world.views n).fence.past.seen) (x.world.views n).fence.past.front (public_history (after_deeds good c deeds x).world.history)
