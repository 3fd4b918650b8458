use Rattle.std.proofs.Common.{◌≡◌, ◌++◌, drop, string_bytes}
use Rattle.work_trace.specs.Texts.{trace_bytes}
use Rattle.work_trace.proofs.text.put_lines.Given as goal

abbrev pub invariant-loop-line : goal.invariant-loop-line
invariant-loop-line l = string_bytes l.text ++ trace_bytes (drop l.line-index l.lines) ≡ string_bytes l.initial.text ++ trace_bytes l.lines
