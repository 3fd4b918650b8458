-- THE WORDS ON A BOX.
use Rattle.std.specs.Prelude.{ℕ, List, [], ◌∷◌, ◌++◌, Option, Some, None, codes}
use Rattle.work_script.specs.declared.op.Op.{Op}
use Rattle.work_script.specs.declared.op.Op.TheVariants.{Read, Write, Add, Move, Cancel, Irrev, Emit, Count, Total, ListInsert, ListRemove, ListContains, ListLength, HashInsert, HashRemove, HashContains, TreeInsert, TreeRemove, TreeContains, TreeLeast, QueuePut, QueueGet, MapPut, MapRemove, MapGet, MapSum}
use Rattle.work_script.specs.declared.workload.Version.{Version}
use Rattle.work_script.specs.declared.workload.Version.TheVariants.{One, Two}
use Rattle.work_script.specs.Operations.{op_name, structure_in}
use Rattle.work_trace.specs.declared.line.Line.{Line}
use Rattle.work_trace.specs.declared.line.Line.TheVariants.{Of, Finish}
use Rattle.work_trace.specs.declared.said.Said.{Said}
use Rattle.work_trace.specs.declared.said.Said.TheVariants.{Reply, Stopped}
use Rattle.work_trace.specs.Texts.{spaced, said_bytes, stop_bytes}
use Rattle.draw_pictures.specs.declared.step.Deed.{Deed}
use Rattle.draw_pictures.specs.declared.step.Step.{Step}
use Rattle.draw_pictures.specs.declared.style.TheConstants.{ARROW}

-- the number of a region, which version 1 leaves to the operation's name
abbrev pub region_in : {A : Type 0} → Option (A × ℕ) → List ℕ
region_in None = []
region_in (Some place) = place.1 ∷ []

abbrev pub region_numbers : Version → Op → List ℕ
region_numbers One op = []
region_numbers Two op = region_in (structure_in op)

-- the other numbers of an operation
abbrev pub operands : Op → List ℕ
operands (Read a) = a ∷ []
operands (Write a v) = a ∷ v ∷ []
operands (Add a k) = a ∷ k ∷ []
operands (Move a b k) = a ∷ b ∷ k ∷ []
operands (Emit a) = a ∷ []
operands Irrev = []
operands Cancel = []
operands (Count r stripe k) = stripe ∷ k ∷ []
operands (Total r) = []
operands (ListInsert r key) = key ∷ []
operands (ListRemove r key) = key ∷ []
operands (ListContains r key) = key ∷ []
operands (ListLength r) = []
operands (HashInsert r key) = key ∷ []
operands (HashRemove r key) = key ∷ []
operands (HashContains r key) = key ∷ []
operands (TreeInsert r key) = key ∷ []
operands (TreeRemove r key) = key ∷ []
operands (TreeContains r key) = key ∷ []
operands (TreeLeast r) = []
operands (QueuePut r v) = v ∷ []
operands (QueueGet r) = []
operands (MapPut r key v) = key ∷ v ∷ []
operands (MapRemove r key) = key ∷ []
operands (MapGet r key) = key ∷ []
operands (MapSum r lo hi) = lo ∷ hi ∷ []

-- a space, and an operation as its workload writes it
abbrev pub deed_bytes : Deed → List ℕ
deed_bytes deed = codes " " ++ (op_name deed.op ++ (spaced (region_numbers deed.version deed.op) ++ spaced (operands deed.op)))

-- what it replied, or why it ended the attempt
abbrev pub done_bytes : Deed → Said → List ℕ
done_bytes deed (Reply op reply) = deed_bytes deed ++ (ARROW.now ++ spaced (reply ∷ []))
done_bytes deed (Stopped op stop) = deed_bytes deed ++ stop_bytes stop
done_bytes deed said = said_bytes said

-- the operation and what came of it, where a workload tells it; else the line's own words, after its caller
abbrev pub told_bytes : Option Deed → Said → List ℕ
told_bytes (Some deed) said = done_bytes deed said
told_bytes None said = said_bytes said

abbrev pub words_of_line : Option Deed → Line → List ℕ
words_of_line deed (Of caller said) = told_bytes deed said
words_of_line deed Finish = codes " finish"

abbrev pub label_of : Step → List ℕ
label_of step = words_of_line step.deed step.line
