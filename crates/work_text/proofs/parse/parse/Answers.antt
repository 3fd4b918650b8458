use Rattle.std.proofs.Common.{ℕ, Result, Ok, Err, subst, IfOk}
use Rattle.work_script.specs.declared.workload.Workload.{Workload}
use Rattle.work_text.specs.declared.parse.Mode.{Mode}
use Rattle.work_text.specs.declared.parse.ParseError.{ParseError}
use Rattle.work_text.specs.Lines.{lines_of}
use Rattle.work_text.specs.Drafts.{opening}
use Rattle.work_text.specs.Grammar.{Answers, parsed}
use Rattle.work_text.specs.Parsed.{IsParsed}
use Rattle.work_text.proofs.Giving.{Gives}
use Rattle.work_text.proofs.ParsedLaws.{lines-is_parsed}
use Rattle.work_text.proofs.parse.parse.Goals as goal

is_parsed-by : (m : Mode) (g : Result Workload (ℕ × ℕ)) (r : Result Workload ParseError) → Gives (IsParsed m) g → Answers r g → IfOk r (IsParsed m)
is_parsed-by m g (Ok w) h is = subst (Gives (IsParsed m)) is h
is_parsed-by m g (Err e) h is = tt

pub returns-clause-is_parsed : goal.returns-clause-is_parsed
returns-clause-is_parsed c =
    is_parsed-by c.args.mode (parsed c.args.mode opening 1 (lines_of c.args.bytes.now)) c.read_lines.result (lines-is_parsed c.args.mode (lines_of c.args.bytes.now)) c.read_lines.ensures
