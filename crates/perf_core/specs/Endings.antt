-- How a run of the program ended.
use Rattle.std.specs.Prelude.{ℕ, ◌≡◌, Bool, true, false, List, Some, None}
use Rattle.perf_core.specs.declared.ending.Ending.{Ending}
use Rattle.perf_core.specs.declared.ending.Ending.TheVariants.{Right, Help, Usage, WriteFault, Memory, Wrong}
use Rattle.perf_core.specs.declared.help.Topic.{Topic}
use Rattle.perf_core.specs.declared.report.Report.{Report}
use Rattle.perf_core.specs.Helping.{help_of}
use Rattle.perf_core.specs.Verdicts.{IsTrue}

abbrev pub exit_code_of : Ending → ℕ
exit_code_of Right = 0
exit_code_of Help = 0
exit_code_of Usage = 1
exit_code_of WriteFault = 4
exit_code_of Memory = 5
exit_code_of Wrong = 7

abbrev pub ending_of : Bool → Ending
ending_of true = Right
ending_of false = Wrong

-- a run ends by its report, whose verdict is true
abbrev pub RanTo : Ending → Type 0
RanTo ending = (r : Report) × IsTrue r × (ending ≡ ending_of r.right)

-- WHEN EACH ENDING COMES to these words, the first of them the program's name; want of memory and of an output is free
abbrev pub EndsBy : List (List ℕ) → Ending → Type 0
EndsBy words Right = (help_of words ≡ None) × RanTo Right
EndsBy words Wrong = (help_of words ≡ None) × RanTo Wrong
EndsBy words Usage = help_of words ≡ None
EndsBy words Help = (topic : Topic) × (help_of words ≡ Some topic)
EndsBy words WriteFault = Unit {0}
EndsBy words Memory = Unit {0}

-- the exit status is that of an ending which comes to these words
pub record Exits (words : List (List ℕ)) (exit : ℕ) : Type 0 where
  pub ending : Ending
  pub is : exit ≡ exit_code_of ending
  pub by : EndsBy words ending
