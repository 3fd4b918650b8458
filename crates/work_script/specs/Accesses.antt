-- Operations and scripts over an access: its good memories and words, and its log before and after a call.
use Rattle.std.specs.Prelude.{ℕ, List}
use Rattle.stm_model.specs.declared.access.Access.{Ghosts}
use Rattle.data_effects.specs.Effects.{Under}
use Rattle.data_regions.specs.declared.region.Region.{Region}
use Rattle.work_script.specs.declared.op.Op.{Op}
use Rattle.work_script.specs.Operations.{Effect, DoesOver}
use Rattle.work_script.specs.Scripts.{Ran}
use Rattle.work_script.specs.ScriptLaws.{GaveOver, GaveUpTo}
use Rattle.work_script.specs.Keeping.{OpKeeps, ScriptKeeps}
use Rattle.work_script.specs.Outputs.{Output}

-- from s to t it did what the effect says, with this reply
abbrev pub DoesFor : {S : Type 0} → Ghosts S → S → S → (List ℕ → Effect) → ℕ → Type 0
DoesFor access s t effect reply = DoesOver (access.good s) (access.words s) effect (access.log s) reply (access.log t)

-- from s to t what ran gave this, told after what `before` has
abbrev pub GaveFor : {S : Type 0} → Ghosts S → S → S → (List ℕ → Ran) → Output → Output → Type 0
GaveFor access s t ran before after = GaveOver (access.good s) (access.words s) ran (access.log s) before (access.log t) after

-- the operations before the one that stopped gave this
abbrev pub GaveUpFor : {S : Type 0} → Ghosts S → S → List Region → List Op → Output → Output → Type 0
GaveUpFor access s regions ops before after = GaveUpTo (access.good s) (access.words s) regions ops (access.log s) before after

-- if what s sees is good, so is what t sees
abbrev pub StaysGood : {S : Type 0} → Ghosts S → S → S → Type 0
StaysGood access s t = Under (access.good s) (access.words s) (access.log s) (access.good s) → Under (access.good s) (access.words s) (access.log t) (access.good s)

-- an operation, a script, that keeps the rule on memories leads from what is good to what is good
abbrev pub OpKeepsGood : {S : Type 0} → Ghosts S → S → S → List Region → Op → Type 0
OpKeepsGood access s t regions op = OpKeeps (access.good s) (access.words s) regions op → StaysGood access s t

abbrev pub ScriptKeepsGood : {S : Type 0} → Ghosts S → S → S → List Region → List Op → Type 0
ScriptKeepsGood access s t regions ops = ScriptKeeps (access.good s) (access.words s) regions ops → StaysGood access s t
