-- The text of a report: what may stand on a line, and the first fault.
use Rattle.std.specs.Prelude.{ℕ, ◌≡◌, ◌+◌, Bool, true, List, [], ◌∷◌, ◌++◌, length, ltb, if◌then◌else◌, Option, Some, None, Result, Ok, Err, MatchResult, codes, bytes_eq}
use Rattle.work_script.specs.declared.report.Kind.{Kind}
use Rattle.work_script.specs.declared.report.Kind.TheVariants.{W, R, C}
use Rattle.work_script.specs.declared.report.Report.{Report}
use Rattle.work_script.specs.declared.report.Row.{Row}
use Rattle.work_text.specs.declared.code.TheConstants.{UNENDED, REPORT, LONG_REPORT}
use Rattle.work_text.specs.declared.parse.ParseError.{ParseError}
use Rattle.work_text.specs.declared.parse.ParseError.TheVariants.{Fault, Memory as OutOfMemory}
use Rattle.work_text.specs.Lines.{Line, lines_of, words_of, number_of}
use Rattle.work_check.specs.declared.table.NextReportLine.{NextReportLine}
use Rattle.work_check.specs.declared.table.NextReportLine.TheVariants.{Title, Rows, Words, After}
use Rattle.work_check.specs.declared.reading.TheConstants.{MAX_REPORT}
use Rattle.work_check.specs.declared.table.WordsError.{WordsError}
use Rattle.work_check.specs.declared.table.WordsError.TheVariants.{Wrong, Memory}

-- what an answer leads to, where there is one
infixl 10 ◌>>=◌
abbrev pub ◌>>=◌ : {A B : Type 0} → Option A → (A → Option B) → Option B
Some x >>= next = next x
None >>= next = None

-- what follows a word where it is the one named
abbrev pub named : {A : Type 0} → List ℕ → List ℕ → Option A → Option A
named name word rest = if bytes_eq word name then rest else None

abbrev pub kind_of : List ℕ → Option Kind
kind_of word = if bytes_eq word (codes "W") then Some W else (if bytes_eq word (codes "R") then Some R else named (codes "C") word (Some C))

-- words that are numbers, each
abbrev pub numbers_of : List (List ℕ) → Option (List ℕ)
numbers_of [] = Some []
numbers_of (w ∷ ws) = number_of w >>= λ n. numbers_of ws >>= λ ns. Some (n ∷ ns)

-- the emits after a `!`: one at least
abbrev pub emits_of : List (List ℕ) → Option (List ℕ)
emits_of [] = None
emits_of (w ∷ ws) = numbers_of (w ∷ ws)

-- the replies, and after a `!` the emits
abbrev pub outputs_of : List (List ℕ) → Option (List ℕ × List ℕ)
outputs_of [] = Some ([], [])
outputs_of (w ∷ ws) =
    if bytes_eq w (codes "!") then emits_of ws >>= (λ es. Some ([], es))
    else number_of w >>= λ n. outputs_of ws >>= λ o. Some (n ∷ o.0, o.1)

-- `K place caller seq : r1 r2 ..`, and the emits
abbrev pub row_of : List (List ℕ) → Option Row
row_of (k ∷ p ∷ c ∷ s ∷ colon ∷ ws) =
    kind_of k >>= λ kind. number_of p >>= λ place. number_of c >>= λ caller. number_of s >>= λ seq.
    named (codes ":") colon (outputs_of ws >>= λ o. Some (record { kind = kind; place = place; caller = caller; seq = seq; replies = o.0; emits = o.1 }))
row_of ws = None

-- `mem a v`: a value that isn't 0
abbrev pub memory_word_of : List (List ℕ) → Option (ℕ × ℕ)
memory_word_of (m ∷ a ∷ v ∷ []) = named (codes "mem") m (number_of a >>= λ at. number_of v >>= λ value. if ltb 0 value then Some (at, value) else None)
memory_word_of ws = None

-- the line that comes next, and the report so far
pub record Reading : Type 0 where
  pub place : NextReportLine
  pub rows : List Row
  pub memory : List (ℕ × ℕ)

abbrev pub opening : Reading
opening = record { place = Title; rows = []; memory = [] }

-- an address above the last one told
abbrev pub above_last : List (ℕ × ℕ) → ℕ → Bool
above_last [] a = true
above_last (p ∷ []) a = ltb p.0 a
above_last (p ∷ q ∷ ps) a = above_last (q ∷ ps) a

-- one more word of the memory
abbrev pub told : Reading → ℕ × ℕ → Option Reading
told d p = if above_last d.memory p.0 then Some (record { place = Words; rows = d.rows; memory = d.memory ++ p ∷ [] }) else None

-- one more row
abbrev pub added : Reading → Row → Option Reading
added d r = Some (record d { rows = d.rows ++ r ∷ [] })

-- what a line of a word of the memory leads to, and what one of a row
abbrev pub one_word : Reading → List (List ℕ) → Option Reading
one_word d ws = memory_word_of ws >>= told d

abbrev pub one_row : Reading → List (List ℕ) → Option Reading
one_row d ws = row_of ws >>= added d

abbrev pub ended : Reading → Reading
ended d = record d { place = After }

-- THE TABLE: what the words of a line do after the lines before it
abbrev pub step_by : NextReportLine → Reading → List (List ℕ) → Option Reading
step_by Title d (w ∷ v ∷ []) = named (codes "report") w (named (codes "1") v (Some (record d { place = Rows })))
step_by Title d ws = None
step_by Rows d (w ∷ []) = named (codes "end") w (Some (ended d))
step_by Rows d (w ∷ v ∷ ws) = if bytes_eq w (codes "mem") then one_word d (w ∷ v ∷ ws) else one_row d (w ∷ v ∷ ws)
step_by Rows d [] = None
step_by Words d (w ∷ []) = named (codes "end") w (Some (ended d))
step_by Words d (w ∷ v ∷ ws) = one_word d (w ∷ v ∷ ws)
step_by Words d [] = None
step_by After d ws = None

-- what a line leads to; a wrong byte stands in no word and in no number, so a line that has one leads nowhere
abbrev pub line_by : Option Reading → Result Reading ℕ
line_by (Some d) = Ok d
line_by None = Err REPORT

abbrev pub line_of : Reading → Line → Result Reading ℕ
line_of d l = if l.ended then line_by (step_by d.place d (words_of l.bytes)) else Err UNENDED

abbrev pub whole_by : NextReportLine → Reading → Option Report
whole_by After d = Some (record { rows = d.rows; memory = d.memory })
whole_by Title d = None
whole_by Rows d = None
whole_by Words d = None

-- the report, where its end has come
abbrev pub whole : Reading → Option Report
whole d = whole_by d.place d

abbrev pub finished : Option Report → ℕ → Result Report (ℕ × ℕ)
finished (Some r) k = Ok r
finished None k = Err (k, UNENDED)

abbrev pub go_on : Result Reading ℕ → ℕ → (Reading → Result Report (ℕ × ℕ)) → Result Report (ℕ × ℕ)
go_on (Err code) k rest = Err (k, code)
go_on (Ok d) k rest = rest d

-- the report of the lines from the number k on, or the first line at fault and its lowest code
abbrev pub read : Reading → ℕ → List Line → Result Report (ℕ × ℕ)
read d k [] = finished (whole d) k
read d k (l ∷ ls) = go_on (line_of d l) k (λ e. read e (k + 1) ls)

-- the report of a text, or the line and the code of its first fault
abbrev pub report_of : List ℕ → Result Report (ℕ × ℕ)
report_of text = if ltb MAX_REPORT (length text) then Err (0, LONG_REPORT) else read opening 1 (lines_of text)

-- an error names the first fault; want of memory is free
abbrev pub IsFault : ParseError → Result Report (ℕ × ℕ) → Type 0
IsFault (Fault line code) r = r ≡ Err (line, code)
IsFault OutOfMemory r = Unit {0}

abbrev pub Answers : Result Report ParseError → Result Report (ℕ × ℕ) → Type 0
Answers result r = MatchResult result (λ got. r ≡ Ok got) (λ e. IsFault e r)

-- what a function over words answered is what they tell, unless memory was refused
abbrev pub IsNone : {A : Type 0} → WordsError → Option A → Type 0
IsNone Wrong told = told ≡ None
IsNone Memory told = Unit {0}

abbrev pub Tells : {A : Type 0} → Result A WordsError → Option A → Type 0
Tells result told = MatchResult result (λ got. told ≡ Some got) (λ e. IsNone e told)

-- the words after one, from the space on that follows it
abbrev pub words_left : List ℕ → List (List ℕ)
words_left [] = []
words_left (space ∷ bytes) = words_of bytes

-- a line of a draft: what it leads to
abbrev pub Leads : {A : Type 0} → Result A WordsError → Option Reading → Reading → Type 0
Leads result next new = MatchResult result (λ _. next ≡ Some new) (λ e. IsNone e next)
