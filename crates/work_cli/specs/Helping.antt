-- Which words ask for help, and with what.
use Rattle.std.specs.Prelude.{List, [], ◌∷◌, Option, Some, None, ◌||◌, Bool, bytes_eq, codes, if◌then◌else◌}
use Rattle.clap.specs.Words.{Text}
use Rattle.work_cli.specs.declared.help.Topic.{Topic}
use Rattle.work_cli.specs.declared.help.Topic.TheVariants.{All, Run, Step, Gen, Check, Version}

-- a word that calls for help
abbrev pub is_call : Text → Bool
is_call word = bytes_eq word (codes "--help") || bytes_eq word (codes "-h")

-- what a word alone asks for
abbrev pub asked_alone : Text → Option Topic
asked_alone word =
    if is_call word || bytes_eq word (codes "help") then Some All else
    (if bytes_eq word (codes "--version") || bytes_eq word (codes "-V") then Some Version else None)

-- the command of this name
abbrev pub topic_of : Text → Option Topic
topic_of word =
    if bytes_eq word (codes "run") then Some Run else
    (if bytes_eq word (codes "step") then Some Step else
    (if bytes_eq word (codes "gen") then Some Gen else
    (if bytes_eq word (codes "check") then Some Check else None)))

-- what two words ask for: `CMD --help`, `CMD -h` or `help CMD`
abbrev pub asked_by_two : Text → Text → Option Topic
asked_by_two first second =
    if is_call second then topic_of first else
    (if bytes_eq first (codes "help") then topic_of second else None)

-- THE HELP THAT WORDS ASK FOR, the first of them the program's name; none where they ask for none
abbrev pub help_of : List Text → Option Topic
help_of [] = None
help_of (name ∷ []) = None
help_of (name ∷ word ∷ []) = asked_alone word
help_of (name ∷ first ∷ second ∷ []) = asked_by_two first second
help_of (name ∷ first ∷ second ∷ third ∷ others) = None
