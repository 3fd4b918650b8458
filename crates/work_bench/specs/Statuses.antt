-- The exit status of the program.
use Rattle.std.specs.Prelude.{ℕ}
use Rattle.work_bench.specs.declared.status.Status.{Status}
use Rattle.work_bench.specs.declared.status.Status.TheVariants.{Ok, Help, Usage, Refused, ReadFault, WriteFault, Memory, ClockFull, No}

abbrev pub exit_code_of : Status → ℕ
exit_code_of Ok = 0
exit_code_of Help = 0
exit_code_of Usage = 1
exit_code_of (Refused line fault) = 2
exit_code_of ReadFault = 3
exit_code_of WriteFault = 4
exit_code_of Memory = 5
exit_code_of (ClockFull clock) = 6
exit_code_of (No line) = 7
