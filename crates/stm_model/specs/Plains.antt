-- What a plain memory stands for.
use Rattle.std.specs.Prelude.{ℕ, zero, suc, List, [], ◌∷◌, Option, None, Some, Bool, false, ◌||◌, is_some}
use Rattle.stm_model.specs.Logs.{Log}
use Rattle.stm_model.specs.declared.plain.PlainWord.{PlainWord}

abbrev pub openings : List PlainWord → List ℕ
openings [] = []
openings (w ∷ ws) = w.opening ∷ openings ws

-- the words from address i on, each read at its opening value
abbrev pub reads_from : ℕ → List PlainWord → List (ℕ × ℕ)
reads_from i [] = []
reads_from i (w ∷ ws) = (i, w.opening) ∷ reads_from (suc i) ws

abbrev pub own_item : ℕ → Option ℕ → List (ℕ × ℕ) → List (ℕ × ℕ)
own_item i None rest = rest
own_item i (Some v) rest = (i, v) ∷ rest

-- the own values of the words from address i on
abbrev pub writes_from : ℕ → List PlainWord → List (ℕ × ℕ)
writes_from i [] = []
writes_from i (w ∷ ws) = own_item i w.own (writes_from (suc i) ws)

abbrev pub own_writes : List PlainWord → List (ℕ × ℕ)
own_writes ws = writes_from 0 ws

abbrev pub plain_log : List PlainWord → Log
plain_log ws = record { reads = reads_from 0 ws; writes = own_writes ws }

-- the word as the attempt sees it
abbrev pub value_of : ℕ → Option ℕ → ℕ
value_of opening None = opening
value_of opening (Some own) = own

-- a word after a commit, and after a cancel
abbrev pub settled : PlainWord → PlainWord
settled w = record { opening = value_of w.opening w.own; own = None }

abbrev pub forgotten : PlainWord → PlainWord
forgotten w = record { opening = w.opening; own = None }

-- the list with its first i words changed
abbrev pub change_first : (PlainWord → PlainWord) → ℕ → List PlainWord → List PlainWord
change_first f zero ws = ws
change_first f (suc i) [] = []
change_first f (suc i) (w ∷ ws) = f w ∷ change_first f i ws

abbrev pub any_own : List PlainWord → Bool
any_own [] = false
any_own (w ∷ ws) = is_some w.own || any_own ws
