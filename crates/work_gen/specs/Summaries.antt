-- What a summary says of a report, and what all summaries of a generated workload say.
use Rattle.std.specs.Prelude.{ℕ, zero, suc, ◌≡◌, ◌≤◌, ◌+◌, ◌*◌, ◌/◌, ◌%◌, ◌^◌, Bool, ◌==◌, not, min, if◌then◌else◌, List, [], ◌∷◌, ◌++◌, length, codes}
use Rattle.std.specs.Fmt.{decimal}
use Rattle.data_effects.specs.Keys.{how_many}
use Rattle.data_cells.specs.Chains.{keys}
use Rattle.data_cells.specs.Counters.{count, sum_from}
use Rattle.data_cells.specs.Structures.{list_of}
use Rattle.data_regions.specs.Regions.{counter_one, list_one}
use Rattle.work_script.specs.declared.report.Kind.{Kind}
use Rattle.work_script.specs.declared.report.Kind.TheVariants.{W, R, C}
use Rattle.work_script.specs.declared.report.Row.{Row}
use Rattle.work_script.specs.declared.report.Report.{Report}
use Rattle.work_script.specs.Reports.{Replays, nonzero}
use Rattle.work_gen.specs.declared.generate.TheConstants.{MOST_TRANSACTIONS}
use Rattle.work_gen.specs.declared.summary.Summary.{Summary}
use Rattle.work_gen.specs.Generated.{generated}

abbrev pub is_committed : Kind → ℕ
is_committed W = 1
is_committed R = 1
is_committed C = 0

-- the rows W and R
abbrev pub committed : List Row → ℕ
committed [] = 0
committed (r ∷ rs) = is_committed r.kind + committed rs

-- the word at an address, by the words that aren't 0
abbrev pub word_in : List (ℕ × ℕ) → ℕ → ℕ
word_in [] a = 0
word_in (p ∷ ps) a = if p.0 == a then p.1 else word_in ps a

-- the sum of the first n words from a on
abbrev pub sum_in : List (ℕ × ℕ) → ℕ → ℕ → ℕ
sum_in pairs a zero = 0
sum_in pairs a (suc n) = sum_in pairs a n + word_in pairs (a + n)

-- cell i of the list has a key
abbrev pub is_used : List (ℕ × ℕ) → ℕ → Bool
is_used pairs i = not (word_in pairs (129 + 2 * i) == 0)

-- the accounts are the words 0 to 63, the counter's stripes the words 64 to 67, and the list has 32 cells
abbrev pub summary_of : Report → Summary
summary_of r = record {
  commits = committed r.rows;
  accounts = sum_in r.memory 0 64 % 2 ^ 64;
  counter = sum_in r.memory 64 4 % 2 ^ 64;
  list = how_many (is_used r.memory) 32;
}

-- `NAME N`
abbrev pub summary_line : List ℕ → ℕ → List ℕ
summary_line name n = name ++ (32 ∷ decimal n ++ 10 ∷ [])

-- the summary's text, a line a number
abbrev pub summary_bytes : Summary → List ℕ
summary_bytes s =
    codes "summary 1\n"
    ++ (summary_line (codes "commits") s.commits
    ++ (summary_line (codes "accounts") s.accounts
    ++ (summary_line (codes "counter") s.counter
    ++ (summary_line (codes "list") s.list ++ codes "end\n"))))

-- the summary of so many transactions after the opening one: of four one counts, and one adds a key, 24 keys in all
abbrev pub summary_for : ℕ → Summary
summary_for n = record { commits = n + 1; accounts = 64000; counter = (n + 1) / 4; list = min (n / 4) 24 }

-- of a memory whose words a report tells, its summary has the accounts' sum, the counter's total and the list's length
abbrev pub SummaryTellsMemory : Type 0
SummaryTellsMemory = (report : Report) (m : List ℕ) → report.memory ≡ nonzero 0 m →
    ((summary_of report).accounts ≡ sum_from m 0 64 % 2 ^ 64)
    × ((summary_of report).counter ≡ count counter_one m)
    × ((summary_of report).list ≡ length (keys (list_of list_one) m))

-- whatever the order of the callers was, the summary is the same
abbrev pub SummaryIsCounted : Type 0
SummaryIsCounted = (n callers seed : ℕ) (report : Report) → n ≤ MOST_TRANSACTIONS → 1 ≤ callers → Replays (generated n callers seed) report → summary_of report ≡ summary_for n
