-- What transactions leave in the memory, as far as a verdict says it.
use Rattle.std.specs.Prelude.{ℕ, ◌≡◌, ◌*◌, true, List, length, take, get_or}
use Rattle.std.specs.List.{sum}
use Rattle.perf_core.specs.declared.plan.Workload.{Workload}
use Rattle.perf_core.specs.declared.plan.Workload.TheVariants.{Bank, Hash, List as Sorted, Count, Sum, Scan}
use Rattle.perf_core.specs.declared.plan.Plan.{Plan}
use Rattle.perf_core.specs.declared.plan.TheConstants.{ACCOUNTS, BALANCE}
use Rattle.perf_core.specs.declared.report.Report.{Report}
use Rattle.perf_core.specs.declared.work_counts.WorkCounts.{WorkCounts}
use Rattle.perf_core.specs.Rows.{row_count, seen_in}

-- the accounts have together what they began with, and no transaction saw another sum
pub record HasAllMoney (words : List ℕ) (counts : WorkCounts) : Type 0 where
  pub all : sum (take ACCOUNTS words) ≡ ACCOUNTS * BALANCE
  pub seen : counts.wrong ≡ 0

-- each scan added 1, and they saw together what scans see that take effect one after the other
pub record HasAllScans (words : List ℕ) (commits : ℕ) (counts : WorkCounts) : Type 0 where
  pub all : sum words ≡ commits
  pub seen : counts.seen ≡ seen_in (row_count (length words)) words

-- THE MEMORY that so many commits leave; what a set has is only tested
abbrev pub IsLeftBy : Workload → List ℕ → ℕ → WorkCounts → Type 0
IsLeftBy Bank words commits counts = HasAllMoney words counts
IsLeftBy Sum words commits counts = HasAllMoney words counts
IsLeftBy Scan words commits counts = HasAllScans words commits counts
IsLeftBy Count words commits counts = get_or words 0 0 ≡ commits
IsLeftBy Hash words commits counts = Unit {0}
IsLeftBy Sorted words commits counts = Unit {0}

pub record IsLeft (plan : Plan) (words : List ℕ) (commits : ℕ) (counts : WorkCounts) : Type 0 where
  pub all : commits ≡ plan.count
  pub memory : IsLeftBy plan.workload words commits counts

-- a report calls the memory right only where it is
abbrev pub IsTrue : Report → Type 0
IsTrue r = r.right ≡ true → IsLeft r.plan r.words.items r.tally.commits r.work_counts
