-- Laws of what keeps a rule on memories, as the clauses of run_op and interpret say it.
use Rattle.std.proofs.Common.{ℕ, ◌≡◌, List, [], ◌∷◌, Bool, true, false, sym, ◌∙◌, subst}
use Rattle.std.specs.Prelude.{if◌then◌else◌}
use Rattle.std.proofs.lemmas.List.Elements.{All-head, All-tail}
use Rattle.stm_model.specs.Memories.{overlay}
use Rattle.stm_model.specs.Logs.{Log, SameMemories}
use Rattle.stm_model.specs.Overlays.{overlay-length}
use Rattle.data_effects.specs.Effects.{Under}
use Rattle.data_regions.specs.Regions.{AllWellFormed}
use Rattle.work_script.specs.declared.op.Op.{Op}
use Rattle.data_regions.specs.declared.region.Region.{Region}
use Rattle.work_script.specs.Operations.{Effect, effect_of, OpFits, DoesOver, is_cancel}
use Rattle.work_script.specs.Scripts.{run, before_cancel}
use Rattle.work_script.proofs.KeptLogs.{length-effect}
use Rattle.work_script.specs.Statements.{OperationsKeepRegions}
use Rattle.work_script.specs.Keeping.{KeepsGood, OpKeeps, ScriptKeeps}

pub keeps-does : (good : List ℕ → Type 0) (words : ℕ) (effect : List ℕ → Effect) (l : Log) (reply : ℕ) (k : Log)
    → DoesOver good words effect l reply k → KeepsGood good words (λ m. (effect m).memory) → Under good words l good → Under good words k good
keeps-does good words effect l reply k does rule h = λ m fine len ex.
    let d = does m fine len ex in
    subst good (sym d.left) (rule (overlay m l.writes) (h m fine len d.explained) (overlay-length m l.writes ∙ len))

keeps-before-by : (good : List ℕ → Type 0) (words : ℕ) (regions : List Region) (b : Bool) (op : Op) (ops : List Op)
    → OpKeeps good words regions op → KeepsGood good words (λ m. (run regions ops m).memory)
    → KeepsGood good words (λ m. (run regions (if b then [] else op ∷ ops) m).memory)
keeps-before-by good words regions true op ops one rest = λ m fine len. fine
keeps-before-by good words regions false op ops one rest = λ m fine len. rest (effect_of regions op m).memory (one.keeps m fine len) (length-effect regions op m ∙ len)

pub keeps-before : (good : List ℕ → Type 0) (words : ℕ) (regions : List Region) (ops : List Op) → ScriptKeeps good words regions ops → KeepsGood good words (λ m. (run regions (before_cancel ops) m).memory)
keeps-before good words regions [] h = λ m fine len. fine
keeps-before good words regions (op ∷ ops) h =
    let P : Op → Type 0 = OpKeeps good words regions in
    keeps-before-by good words regions (is_cancel op) op (before_cancel ops) (All-head P op ops h) (keeps-before good words regions ops (All-tail P op ops h))

-- an operation that keeps the rule
pub keeps-op : (good : List ℕ → Type 0) (words : ℕ) (regions : List Region) (op : Op) (l : Log) (reply : ℕ) (k : Log)
    → DoesOver good words (effect_of regions op) l reply k → OpKeeps good words regions op → Under good words l good → Under good words k good
keeps-op good words regions op l reply k does each = keeps-does good words (effect_of regions op) l reply k does each.keeps

-- an operation that fits leaves each region well formed under the log
pub well-op : OperationsKeepRegions → (good good' : List ℕ → Type 0) (words words' : ℕ) (regions : List Region) (op : Op) (l : Log) (reply : ℕ) (k : Log)
    → OpFits regions words op → DoesOver good words (effect_of regions op) l reply k → Under good words l (AllWellFormed regions) → SameMemories good good' → words' ≡ words
    → Under good' words' k (AllWellFormed regions)
well-op law good good' words words' regions op l reply k fits does under same w = λ m g len ex.
    let fine = (same m).1 g in
    let long = len ∙ w in
    let d = does m fine long ex in
    subst (AllWellFormed regions) (sym d.left) (law regions words op fits (overlay m l.writes) (under m fine long d.explained) (overlay-length m l.writes ∙ long))
