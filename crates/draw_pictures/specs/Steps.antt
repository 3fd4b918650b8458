-- A LINE OF A TRACE, with the operation of its caller's script that it tells of.
use Rattle.std.specs.Prelude.{List, [], ◌∷◌, None}
use Rattle.work_trace.specs.declared.line.Line.{Line}
use Rattle.draw_pictures.specs.declared.step.Step.{Step}

-- a line of a trace alone: nothing is known of what it worked on
abbrev pub bare : Line → Step
bare line = record { line = line; deed = None }

abbrev pub bare_of : List Line → List Step
bare_of [] = []
bare_of (line ∷ lines) = bare line ∷ bare_of lines
