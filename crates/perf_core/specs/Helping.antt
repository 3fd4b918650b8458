-- Which words ask for help.
use Rattle.std.specs.Prelude.{ℕ, ◌||◌, List, [], ◌∷◌, if◌then◌else◌, Option, Some, None, map, codes, bytes_eq}
use Rattle.std.specs.Borrow.{Bor}
use Rattle.perf_core.specs.declared.help.Topic.{Topic}
use Rattle.perf_core.specs.declared.help.Topic.TheVariants.{All, Version}

-- what a word alone asks for
abbrev pub topic_of : List ℕ → Option Topic
topic_of word =
    if bytes_eq word (codes "--help") || bytes_eq word (codes "-h") then Some All else
    (if bytes_eq word (codes "--version") || bytes_eq word (codes "-V") then Some Version else None)

-- THE HELP THAT WORDS ASK FOR, the first of them the program's name
abbrev pub help_of : List (List ℕ) → Option Topic
help_of [] = None
help_of (name ∷ []) = None
help_of (name ∷ word ∷ []) = topic_of word
help_of (name ∷ word ∷ other ∷ words) = None

abbrev pub texts_of : List (Bor (List ℕ)) → List (List ℕ)
texts_of words = map (λ w. w.now) words
