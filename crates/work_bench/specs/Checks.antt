-- What is said of a text under `check`.
use Rattle.std.specs.Prelude.{ℕ, ◌≡◌, List, Option, Ok, Err}
use Rattle.work_script.specs.declared.workload.Workload.{Workload}
use Rattle.work_text.specs.Grammar.{workload_of}
use Rattle.work_text.specs.declared.parse.Mode.TheVariants.{Step as Stepwise}
use Rattle.work_check.specs.Apart.{FindsApart}
use Rattle.work_check.specs.Checks.{IsYes, IsNo, IsFaulty}
use Rattle.work_check.specs.declared.checking.Finding.{Finding}
use Rattle.work_check.specs.declared.checking.Finding.TheVariants as findings
use Rattle.work_check.specs.declared.wanted.Wanted.{Wanted}
use Rattle.work_faults.specs.Faults.{number_of}
use Rattle.work_bench.specs.declared.status.Status.{Status}
use Rattle.work_bench.specs.declared.status.Status.TheVariants.{Ok as Done, Refused, No}
use Rattle.work_bench.specs.Messages.{refused_line, yes_line, no_line}

-- `yes` exactly of a workload and a report that replays it, `no` exactly of a workload and a report that doesn't, and
-- else the first fault
abbrev pub SaidOfCheck : List ℕ → Status → List ℕ → Type 0
SaidOfCheck text Done said = IsYes text × (said ≡ yes_line)
SaidOfCheck text (No line) said = IsNo text line × (said ≡ no_line line)
SaidOfCheck text (Refused line fault) said = IsFaulty text line (number_of fault) × (said ≡ refused_line line fault)
SaidOfCheck text status said = ⊥

-- the same of two texts: a check of both comes to this
abbrev pub Found : List ℕ → List ℕ → Finding → Type 0
Found text told finding = (wanted : Option Wanted) × FindsApart text told finding wanted

abbrev pub SaidOfApart : List ℕ → List ℕ → Status → List ℕ → Type 0
SaidOfApart text told Done said = Found text told findings.Yes × (said ≡ yes_line)
SaidOfApart text told (No line) said = Found text told (findings.No line) × (said ≡ no_line line)
SaidOfApart text told (Refused line fault) said = Found text told (findings.Faulty line (number_of fault)) × (said ≡ refused_line line fault)
SaidOfApart text told status said = ⊥

-- `yes` exactly of a workload's text, and else its first fault
abbrev pub SaidOfAlone : List ℕ → Status → List ℕ → Type 0
SaidOfAlone text Done said = ((w : Workload) × (workload_of Stepwise text ≡ Ok w)) × (said ≡ yes_line)
SaidOfAlone text (Refused line fault) said = (workload_of Stepwise text ≡ Err (line, number_of fault)) × (said ≡ refused_line line fault)
SaidOfAlone text status said = ⊥
