-- The faults of texts: their numbers and names.
use Rattle.std.specs.Prelude.{ℕ, ◌≡◌, ◌&&◌, Bool, true, List, Err, leb, codes}
use Rattle.work_text.specs.declared.parse.Mode.{Mode}
use Rattle.work_text.specs.Grammar.{workload_of}
use Rattle.work_check.specs.Checks.{pair_by}
use Rattle.work_check.specs.Grammar.{report_of}
use Rattle.work_faults.specs.declared.fault.Fault.{Fault}
use Rattle.work_faults.specs.declared.fault.Fault.TheVariants.{Long, Bytes, Unended, Word, Number, Range, Alg, Region, Order, Many, Extra, Report, LongReport}

-- THE TABLE: the number of each
abbrev pub number_of : Fault → ℕ
number_of Long = 1
number_of Bytes = 2
number_of Unended = 3
number_of Word = 4
number_of Number = 5
number_of Range = 6
number_of Alg = 7
number_of Region = 8
number_of Order = 9
number_of Many = 10
number_of Extra = 11
number_of Report = 12
number_of LongReport = 13

abbrev pub name_of : Fault → List ℕ
name_of Long = codes "long"
name_of Bytes = codes "bytes"
name_of Unended = codes "unended"
name_of Word = codes "word"
name_of Number = codes "number"
name_of Range = codes "range"
name_of Alg = codes "alg"
name_of Region = codes "region"
name_of Order = codes "order"
name_of Many = codes "many"
name_of Extra = codes "extra"
name_of Report = codes "report"
name_of LongReport = codes "longrep"

-- the number of a fault
abbrev pub is_code : ℕ → Bool
is_code code = leb 1 code && leb code 13

-- a text of a workload has no other code than a fault's, nor has one of a report, nor one of both
pub record CodesAreFaults : Type 0 where
  pub workload : (m : Mode) (text : List ℕ) (line code : ℕ) → workload_of m text ≡ Err (line, code) → is_code code ≡ true
  pub report : (text : List ℕ) (line code : ℕ) → report_of text ≡ Err (line, code) → is_code code ≡ true
  pub pair : (head : List ℕ) (above : ℕ) (rest : List ℕ) (line code : ℕ) → pair_by head above rest ≡ Err (line, code) → is_code code ≡ true
