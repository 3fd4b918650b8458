use Rattle.std.proofs.Common.{ℕ, List, Bool, true, false, Err, subst, length}
use Rattle.std.specs.Prelude.{ltb, if◌then◌else◌}
use Rattle.work_text.specs.declared.parse.Mode.{Mode}
use Rattle.work_text.specs.declared.parse.TheConstants.{MAX_TEXT}
use Rattle.work_text.specs.declared.code.TheConstants.{LONG}
use Rattle.work_text.specs.Lines.{lines_of}
use Rattle.work_text.specs.Drafts.{opening}
use Rattle.work_text.specs.Grammar.{parsed}
use Rattle.work_text.specs.Parsed.{IsParsed}
use Rattle.work_text.proofs.Giving.{Gives}
use Rattle.work_text.proofs.ParsedLaws.{lines-is_parsed}
use Rattle.work_text.proofs.laws.text_is_parsed.Goals as goal

by-length : (m : Mode) (text : List ℕ) (b : Bool) → Gives (IsParsed m) (if b then Err (0, LONG) else parsed m opening 1 (lines_of text))
by-length m text true = tt
by-length m text false = lines-is_parsed m (lines_of text)

pub returns : goal.returns
returns c = λ m text w is. subst (Gives (IsParsed m)) is (by-length m text (ltb MAX_TEXT (length text)))
