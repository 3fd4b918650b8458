-- The lines that stand in place of a report.
use Rattle.std.specs.Prelude.{ℕ, List, ◌++◌, codes}
use Rattle.std.specs.Fmt.{decimal}
use Rattle.work_cli.specs.declared.help.Topic.{Topic}
use Rattle.work_cli.specs.declared.help.Topic.TheVariants as topics
use Rattle.work_faults.specs.declared.fault.Fault.{Fault}
use Rattle.work_faults.specs.Faults.{number_of, name_of}

abbrev pub usage_line : List ℕ
usage_line = codes "usage: stm_bench run [--policy P] / step / gen N T SEED / check\n"

-- the help that is asked for
abbrev pub help_text : Topic → List ℕ
help_text topics.All = codes "usage: stm_bench COMMAND\n\n  run [--policy P] [FILE]  runs a workload with a thread for each caller, and writes its report\n  step [FILE]              runs it on one thread, in the turns of its schedule; writes the trace and the report\n  gen N T SEED             runs N transactions of T callers drawn from SEED, and writes the summary\n  check [FILE [REPORT]]    says whether a report replays its workload\n  COMMAND --help           says more of a command\n  --version                writes the version\n\nStandard input is read where no FILE is named. docs/FORMATS.md has the formats, exit statuses and fault codes.\nAn example: stm_bench run examples/three-transactions.stm\n"
help_text topics.Run = codes "usage: stm_bench run [--policy P] [FILE]\n\nRuns the workload of FILE, or of standard input, with a thread for each caller, and writes its report.\nP is the policy of caller 0: fixed, expert, round:N with N from 1 to 65536, or state:N with N from 1 to 16.\n"
help_text topics.Step = codes "usage: stm_bench step [FILE]\n\nRuns the workload of FILE, or of standard input, on one thread, in the turns of its schedule, and writes the trace and\nthen the report.\n"
help_text topics.Gen = codes "usage: stm_bench gen N T SEED\n\nRuns N transactions (1 to 50000) of T callers (1 to 32) drawn from SEED (below 2^64), and writes the summary.\n"
help_text topics.Check = codes "usage: stm_bench check [FILE [REPORT]]\n\nSays whether a report replays its workload: yes, no and the line, or refused and the line. With FILE and REPORT the\nreport, or what step wrote, is a file of its own; with FILE alone the answer is whether it is a workload. Else standard\ninput has a workload and then a report.\n"
help_text topics.Version = codes "stm_bench 1.0.0\n"

abbrev pub read_fault_line : List ℕ
read_fault_line = codes "read fault\n"

-- `refused LINE CODE NAME`
abbrev pub refused_line : ℕ → Fault → List ℕ
refused_line line fault = codes "refused " ++ (decimal line ++ (codes " " ++ (decimal (number_of fault) ++ (codes " " ++ (name_of fault ++ codes "\n")))))

-- `yes`, and `no LINE`
abbrev pub yes_line : List ℕ
yes_line = codes "yes\n"

abbrev pub no_line : ℕ → List ℕ
no_line line = codes "no " ++ (decimal line ++ codes "\n")

-- `clock full CLOCK`
abbrev pub clock_full_line : ℕ → List ℕ
clock_full_line clock = codes "clock full " ++ (decimal clock ++ codes "\n")
