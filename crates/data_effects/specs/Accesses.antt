-- The same over an access: its good memories and words, and its log before and after a call.
use Rattle.std.specs.Prelude.{ℕ, ◌≡◌, List, None, Some, Result, OnOk, IfErr}
use Rattle.stm_model.specs.declared.access.Access.{Ghosts}
use Rattle.stm_model.specs.declared.stop.Stop.{Stop}
use Rattle.stm_model.specs.Logs.{IsExplained, SameMemories}
use Rattle.data_effects.specs.Effects.{Effect, DoesOver, Under, Shows}

-- a good memory explains what it has read
abbrev pub ExplainedFor : {S : Type 0} → Ghosts S → S → Type 0
ExplainedFor access s = IsExplained (access.good s) (access.words s) (access.log s)

-- P holds of what it sees
abbrev pub HoldsFor : {S : Type 0} → Ghosts S → S → (List ℕ → Type 0) → Type 0
HoldsFor access s P = Under (access.good s) (access.words s) (access.log s) P

-- from s to t it did what the effect says, with this reply
abbrev pub DoesFor : {S A : Type 0} → Ghosts S → S → S → (List ℕ → Effect A) → A → Type 0
DoesFor access s t effect reply = DoesOver (access.good s) (access.words s) effect (access.log s) reply (access.log t)

-- its reads from s to t show that the value is this one of what it sees
abbrev pub ShowsFor : {S A : Type 0} → Ghosts S → S → S → (List ℕ → A) → A → Type 0
ShowsFor access s t value v = Shows (access.good s) (access.words s) (access.log s) (access.log t) (λ m. v ≡ value m)

-- THE FRAME of a call over an access, from s to t with this result: an Ok leaves an attempt that goes on and that a
-- good memory explains, an Err is what stopped it; which memories are good, their length,
-- and what the access keeps stay
pub record LeadsOn {S R : Type 0} (access : Ghosts S) (s t : S) (result : Result R Stop) : Type 0 where
  pub explained : OnOk result (ExplainedFor access t)
  pub goes : OnOk result (access.stopped t ≡ None)
  pub stops : IfErr result (λ e. access.stopped t ≡ Some e)
  pub good : SameMemories (access.good s) (access.good t)
  pub words : access.words t ≡ access.words s
  pub keeps : access.keeps s t
