-- WHAT THE WORDS OF A COMMAND LINE ASK FOR: `stm_draw [--lines A..B] [--callers N,N..] [FILE [TRACE]]`, or a call for
-- help.
use Rattle.std.specs.Prelude.{ℕ, ◌||◌, Bool, true, false, List, [], ◌∷◌, take, if◌then◌else◌, Option, Some, None, is_some, is_none, option_map, map, codes, bytes_eq}
use Rattle.std.specs.Borrow.{Bor}
use Rattle.work_check.specs.Grammar.{◌>>=◌}
use Rattle.draw_core.specs.declared.asking.Ask.{Ask}
use Rattle.draw_core.specs.declared.asking.Topic.{Topic}
use Rattle.draw_core.specs.declared.asking.Topic.TheVariants.{All, Version}
use Rattle.draw_core.specs.declared.asking.Waits.{Waits}
use Rattle.draw_core.specs.declared.asking.Waits.TheVariants.{ForNone, ForLines, ForCallers}
use Rattle.draw_pictures.specs.declared.part.Callers.{Callers}
use Rattle.draw_pictures.specs.declared.part.Lines.{Lines}
use Rattle.draw_pictures.specs.declared.part.Part.{Part}
use Rattle.draw_core.specs.Chosen.{callers_in, lines_in}

abbrev pub Text : Type 0
Text = List ℕ

-- the part that is named, the files, and the option whose value comes next
pub record Asked : Type 0 where
  pub part : Part
  pub first : Option Text
  pub second : Option Text
  pub waits : Waits

abbrev pub is_option : Text → Bool
is_option word = bytes_eq (take 1 word) (codes "-")

abbrev pub is_waiting : Waits → Bool
is_waiting ForNone = false
is_waiting waits = true

-- a file's name
abbrev pub named : Asked → Text → Option Asked
named a word =
    if is_none a.first then Some (record a { first = Some word }) else
    (if is_none a.second then Some (record a { second = Some word }) else None)

-- a word that may come where no value is waited for: each option comes once at most
abbrev pub opened : Asked → Text → Option Asked
opened a word =
    if bytes_eq word (codes "--lines") then (if is_some a.part.lines then None else Some (record a { waits = ForLines })) else
    (if bytes_eq word (codes "--callers") then (if is_some a.part.callers then None else Some (record a { waits = ForCallers })) else
    (if is_option word then None else named a word))

abbrev pub with_lines : Asked → Lines → Asked
with_lines a r = record a { part = record a.part { lines = Some r }; waits = ForNone }

abbrev pub with_callers : Asked → Callers → Asked
with_callers a cs = record a { part = record a.part { callers = Some cs }; waits = ForNone }

-- one word more
abbrev pub taken_by : Waits → Asked → Text → Option Asked
taken_by ForLines a word = lines_in word >>= λ r. Some (with_lines a r)
taken_by ForCallers a word = callers_in word >>= λ cs. Some (with_callers a cs)
taken_by ForNone a word = opened a word

abbrev pub taken : Asked → Text → Option Asked
taken a word = taken_by a.waits a word

abbrev pub taken_all : Option Asked → List Text → Option Asked
taken_all a [] = a
taken_all None (word ∷ words) = None
taken_all (Some a) (word ∷ words) = taken_all (taken a word) words

abbrev pub nothing : Asked
nothing = record { part = record { lines = None; callers = None }; first = None; second = None; waits = ForNone }

abbrev pub complete : Asked → Option Asked
complete a = if is_waiting a.waits then None else Some a

-- the words, the first of them the program's name
abbrev pub asked : List Text → Option Asked
asked [] = None
asked (name ∷ words) = taken_all (Some nothing) words >>= complete

-- a word alone asks for help
abbrev pub topic_of : Text → Option Topic
topic_of word =
    if bytes_eq word (codes "--help") || bytes_eq word (codes "-h") then Some All else
    (if bytes_eq word (codes "--version") || bytes_eq word (codes "-V") then Some Version else None)

abbrev pub help_of : List Text → Option Topic
help_of [] = None
help_of (name ∷ []) = None
help_of (name ∷ word ∷ []) = topic_of word
help_of (name ∷ word ∷ other ∷ words) = None

-- the texts of words
abbrev pub texts_of : List (Bor (List ℕ)) → List Text
texts_of words = map (λ w. w.now) words

abbrev pub ask_of : Ask → Asked
ask_of a = record { part = a.part; first = option_map (λ w. w.now) a.first; second = option_map (λ w. w.now) a.second; waits = a.waits }
