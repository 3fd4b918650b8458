-- What a script does, by the kind of the row that tells it.
use Rattle.std.specs.Prelude.{ℕ, ◌≡◌, Bool, true, false, ◌||◌, List, [], ◌∷◌, ◌++◌, if◌then◌else◌}
use Rattle.work_script.specs.declared.op.Op.{Op}
use Rattle.data_regions.specs.declared.region.Region.{Region}
use Rattle.work_script.specs.declared.report.Kind.{Kind}
use Rattle.work_script.specs.declared.report.Kind.TheVariants.{W, R, C}
use Rattle.work_script.specs.Operations.{Effect, effect_of, is_cancel, is_irrev}

-- all replies and emits, the memory at the end, and whether anything was written
pub record Ran : Type 0 where
  pub replies : List ℕ
  pub emits : List ℕ
  pub memory : List ℕ
  pub wrote : Bool

-- an effect, and then the rest
abbrev pub then_ran : Effect → Ran → Ran
then_ran e r = record { replies = e.reply ∷ r.replies; emits = e.emits ++ r.emits; memory = r.memory; wrote = e.wrote || r.wrote }

-- the operations in order
abbrev pub run : List Region → List Op → List ℕ → Ran
run regions [] m = record { replies = []; emits = []; memory = m; wrote = false }
run regions (op ∷ ops) m = then_ran (effect_of regions op m) (run regions ops (effect_of regions op m).memory)

-- the operations up to the first cancel
abbrev pub before_cancel : List Op → List Op
before_cancel [] = []
before_cancel (op ∷ ops) = if is_cancel op then [] else op ∷ before_cancel ops

abbrev pub has_cancel : List Op → Bool
has_cancel [] = false
has_cancel (op ∷ ops) = is_cancel op || has_cancel ops

abbrev pub has_irrev : List Op → Bool
has_irrev [] = false
has_irrev (op ∷ ops) = is_irrev op || has_irrev ops

-- the first cancel replies 1, and the memory is the old one
abbrev pub cancelled : List ℕ → Ran → Ran
cancelled m r = record { replies = r.replies ++ 1 ∷ []; emits = r.emits; memory = m; wrote = r.wrote }

abbrev pub run_row : List Region → Kind → List Op → List ℕ → Ran
run_row regions W ops m = run regions ops m
run_row regions R ops m = run regions ops m
run_row regions C ops m = cancelled m (run regions (before_cancel ops) m)

-- a W row wrote something, an R row nothing; a C row's script has a cancel, and no irrev before the first one
abbrev pub KindFits : Kind → List Op → Bool → Type 0
KindFits W script wrote = wrote ≡ true
KindFits R script wrote = wrote ≡ false
KindFits C script wrote = (has_cancel script ≡ true) × (has_irrev (before_cancel script) ≡ false)

-- the operations that a transaction of this kind does before it ends
abbrev pub up_to_end : Kind → List Op → List Op
up_to_end W ops = ops
up_to_end R ops = ops
up_to_end C ops = before_cancel ops

-- the reply of the cancel, where there is one
abbrev pub cancel_replied : Bool → Ran → Ran
cancel_replied true r = record { replies = r.replies ++ 1 ∷ []; emits = r.emits; memory = r.memory; wrote = r.wrote }
cancel_replied false r = r

-- what an attempt has done when it comes to its end: as its row says,
-- but the writes before a cancel still stand in its log
abbrev pub ran_to_end : List Region → Kind → List Op → List ℕ → Ran
ran_to_end regions W ops m = run regions ops m
ran_to_end regions R ops m = run regions ops m
ran_to_end regions C ops m = cancel_replied (has_cancel ops) (run regions (before_cancel ops) m)
