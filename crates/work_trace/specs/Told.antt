-- What is so of every trace that fits.
use Rattle.std.specs.Prelude.{ℕ, ◌≡◌, ◌<◌, List, [], ◌∷◌, ◌++◌, length, map, IsPermutation, slice_index_or}
use Rattle.stm_model.specs.declared.alg.Alg.{Alg}
use Rattle.work_profile.specs.declared.policy.Policy.TheVariants.{Fixed}
use Rattle.work_script.specs.declared.op.Op.TheVariants.{Write}
use Rattle.work_script.specs.declared.report.Kind.TheVariants.{W}
use Rattle.work_script.specs.declared.report.Report.{Report}
use Rattle.work_script.specs.declared.report.Row.{Row}
use Rattle.work_script.specs.declared.workload.Header.{Header}
use Rattle.work_script.specs.declared.workload.Item.{Item}
use Rattle.work_script.specs.declared.workload.Item.TheVariants.{Tx}
use Rattle.work_script.specs.declared.workload.Workload.{Workload}
use Rattle.work_script.specs.Reports.{counted, scripts_of}
use Rattle.stm_answers.specs.declared.answers.Begin.TheVariants.{Begun}
use Rattle.stm_answers.specs.declared.answers.Commit.TheVariants.{Committed}
use Rattle.work_trace.specs.declared.line.Line.{Line}
use Rattle.work_trace.specs.declared.line.Line.TheVariants.{Of, Finish}
use Rattle.work_trace.specs.declared.said.Said.TheVariants.{TryBegin, Reply, TryCommit}
use Rattle.work_trace.specs.Fits.{TraceFits}
use Rattle.work_trace.specs.Places.{items_of}

-- a caller's items have its scripts
abbrev pub ItemsHaveScripts : Type 0
ItemsHaveScripts = (n : ℕ) (items : List Item) → scripts_of n (items_of n items) ≡ scripts_of n items

-- these are all one caller's rows
abbrev pub AreOf : ℕ → List Row → Type 0
AreOf n [] = Unit {0}
AreOf n (row ∷ rows) = (row.caller ≡ n) × AreOf n rows

abbrev pub joined : List (List Row) → List Row
joined [] = []
joined (rows ∷ others) = rows ++ joined others

-- the rows are those of the callers, and a caller's are numbered from 0, one for each of its transactions
pub record EachHasItsRow (w : Workload) (rows : List Row) : Type 0 where
  pub parts : List (List Row)
  pub told : IsPermutation (joined parts) rows
  pub count : length parts ≡ w.header.callers
  pub mine : (n : ℕ) → n < w.header.callers → AreOf n (slice_index_or parts n [])
  pub numbered : (n : ℕ) → n < w.header.callers → map (λ (row : Row). row.seq) (slice_index_or parts n []) ≡ counted 0 (length (scripts_of n w.items))

-- the report of a trace that fits has a row for each transaction, and no other
abbrev pub TellsEachOnce : Type 0
TellsEachOnce = (w : Workload) (lines : List Line) (report : Report) → TraceFits w lines report → EachHasItsRow w report.rows

-- a workload of one caller without a policy, whose one transaction writes v at a;
-- and its trace and report under an algorithm
abbrev pub one_writer : Header → ℕ → ℕ → Workload
one_writer h a v = record { header = record h { callers = 1; policy = Fixed }; items = Tx 0 (Write a v ∷ []) ∷ []; schedule = [] }

abbrev pub one_writer_lines : Alg → ℕ → ℕ → ℕ → List Line
one_writer_lines alg a v time = Finish ∷ Of 0 (TryBegin (Begun alg)) ∷ Of 0 (Reply (Write a v) v) ∷ Of 0 (TryCommit (Committed time)) ∷ []

abbrev pub one_writer_rows : ℕ → ℕ → List Row
one_writer_rows v time = record { kind = W; place = time; caller = 0; seq = 0; replies = v ∷ []; emits = [] } ∷ []

abbrev pub OneWriterFits : Type 0
OneWriterFits = (h : Header) (alg : Alg) (a v time : ℕ) (memory : List (ℕ × ℕ))
    → TraceFits (one_writer h a v) (one_writer_lines alg a v time) (record { rows = one_writer_rows v time; memory = memory })
