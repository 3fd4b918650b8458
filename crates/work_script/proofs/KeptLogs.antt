-- What keeps the rule on memories leads from a log that keeps it to one that does.
use Rattle.std.proofs.Common.{ℕ, ◌≡◌, List, [], ◌∷◌, length, get_or, Bool, true, false, refl, sym, ◌∙◌, subst}
use Rattle.std.specs.Prelude.{ltb, if◌then◌else◌}
use Rattle.std.proofs.Math.ListN.{length-set}
use Rattle.std.proofs.lemmas.List.Elements.{All-head, All-tail}
use Rattle.stm_model.specs.Memories.{overlay}
use Rattle.stm_model.specs.Logs.{Log}
use Rattle.data_effects.specs.Effects.{Under}
use Rattle.stm_model.specs.Overlays.{overlay-length}
use Rattle.work_script.specs.declared.op.Op.{Op}
use Rattle.work_script.specs.declared.op.Op.TheVariants.{Read, Write, Add, Move, Emit, Irrev, Cancel, Count, Total, ListInsert, ListRemove, ListContains, ListLength, HashInsert, HashRemove, HashContains, TreeInsert, TreeRemove, TreeContains, TreeLeast, QueuePut, QueueGet, MapPut, MapRemove, MapGet, MapSum}
use Rattle.data_regions.specs.declared.region.Region.{Region}
use Rattle.work_script.specs.Operations.{replies, moved, effect_of}
use Rattle.work_script.specs.Outputs.{Output}
use Rattle.work_script.specs.Scripts.{Ran, run}
use Rattle.work_script.specs.ScriptLaws.{GaveOver}
use Rattle.data_cells.specs.Structures.{list_of, hash_of}
use Rattle.work_script.specs.Structures.{list_in, hash_in, tree_in, queue_in, sum_map_in}
use Rattle.work_script.proofs.StructureLaws.{chain-insert-length, chain-remove-length, tree-insert-length, tree-remove-length, queue-put-length, queue-get-length, map-put-length, map-remove-length}
use Rattle.work_script.specs.Keeping.{KeepsGood, OpKeeps, ScriptKeeps}

pub keeps-gave : (good : List ℕ → Type 0) (words : ℕ) (ran : List ℕ → Ran) (l : Log) (before : Output) (k : Log) (after : Output)
    → GaveOver good words ran l before k after → KeepsGood good words (λ m. (ran m).memory) → Under good words l good → Under good words k good
keeps-gave good words ran l before k after gave rule h = λ m fine len ex.
    let d = gave m fine len ex in
    subst good (sym d.left) (rule (overlay m l.writes) (h m fine len d.explained) (overlay-length m l.writes ∙ len))

length-moves : (a b k : ℕ) (m : List ℕ) (t : Bool)
    → length (if t then replies 0 m else record { reply = 1; emits = []; memory = moved a b k m; wrote = true }).memory ≡ length m
length-moves a b k m true = refl
length-moves a b k m false = simp length-set

pub length-effect : (regions : List Region) (op : Op) (m : List ℕ) → length (effect_of regions op m).memory ≡ length m
length-effect regions (Read a) m = refl
length-effect regions (Write a v) m = simp length-set
length-effect regions (Add a k) m = simp length-set
length-effect regions (Move a b k) m = length-moves a b k m (ltb (get_or m a 0) k)
length-effect regions (Emit a) m = refl
length-effect regions Irrev m = refl
length-effect regions Cancel m = refl
length-effect regions (Count region stripe k) m = simp length-set
length-effect regions (Total region) m = refl
length-effect regions (ListInsert region key) m = chain-insert-length (list_of (list_in regions region)) key m
length-effect regions (ListRemove region key) m = chain-remove-length (list_of (list_in regions region)) key m
length-effect regions (ListContains region key) m = refl
length-effect regions (ListLength region) m = refl
length-effect regions (HashInsert region key) m = chain-insert-length (hash_of (hash_in regions region)) key m
length-effect regions (HashRemove region key) m = chain-remove-length (hash_of (hash_in regions region)) key m
length-effect regions (HashContains region key) m = refl
length-effect regions (TreeInsert region key) m = tree-insert-length (tree_in regions region) key m
length-effect regions (TreeRemove region key) m = tree-remove-length (tree_in regions region) key m
length-effect regions (TreeContains region key) m = refl
length-effect regions (TreeLeast region) m = refl
length-effect regions (QueuePut region v) m = queue-put-length (queue_in regions region) m v
length-effect regions (QueueGet region) m = queue-get-length (queue_in regions region) m
length-effect regions (MapPut region key v) m = map-put-length (sum_map_in regions region) key v m
length-effect regions (MapRemove region key) m = map-remove-length (sum_map_in regions region) key m
length-effect regions (MapGet region key) m = refl
length-effect regions (MapSum region lo hi) m = refl

-- operations that each keep the rule keep it one after the other
pub keeps-run : (good : List ℕ → Type 0) (words : ℕ) (regions : List Region) (ops : List Op) → ScriptKeeps good words regions ops → KeepsGood good words (λ m. (run regions ops m).memory)
keeps-run good words regions [] h = λ m fine len. fine
keeps-run good words regions (op ∷ ops) h = λ m fine len.
    let P : Op → Type 0 = OpKeeps good words regions in
    keeps-run good words regions ops (All-tail P op ops h) (effect_of regions op m).memory ((All-head P op ops h).keeps m fine len) (length-effect regions op m ∙ len)
