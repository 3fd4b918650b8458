-- When a caller's entries were.
use Rattle.std.specs.Prelude.{ℕ, ◌≤◌, All, List}
use Rattle.stm_model.specs.Histories.{Entry}
use Rattle.stm_answers.specs.CallerState.{CallerState}

-- none of these entries is later
abbrev pub AllBy : ℕ → List Entry → Type 0
AllBy time es = All (λ (e : Entry). e.time ≤ time) es

-- no entry that it made is later than that, and it has seen all up to there
abbrev pub IsDated : ℕ → CallerState → Type 0
IsDated latest v = AllBy latest v.made × (latest ≤ v.front)
