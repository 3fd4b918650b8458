-- The note exchange of a memory: a place a caller, for a note on its way to another caller.
use Rattle.std.specs.Prelude.{ℕ, ◌≡◌, ◌≢◌, ◌<◌, ◌≤◌, ◌∷◌, Option, Some, None, length, slice_index}
use mathlib.Core.Option.{some}
use lib.ListN.{get_elem?}
use Rattle.atomic_table.specs.Table.{State, Me, Step}
use Rattle.rule_base.specs.declared.seats.Role.TheVariants.{Note}
use Rattle.stm_model.specs.declared.rule.AnyMem.{AnyMem}
use Rattle.stm_rule.specs.Callers.{Handle, front_of}
use Rattle.tx_checked.specs.declared.note_exchange.Letter.{Letter}

-- a note of the memory of which the key is a caller
pub record IsOfSameMemory (key note : Handle AnyMem) : Type 0 where
  pub role : note.who.role ≡ Note
  pub table : note.table ≡ key.table
  pub config : note.who.config ≡ key.who.config
  pub rule : note.who.rule ≡ key.who.rule

-- its note is of this memory, and was told no earlier than the letter says
pub record IsLetter (key : Handle AnyMem) (letter : Letter) : Type 0 where
  pub memory : IsOfSameMemory key letter.note
  pub dated : letter.latest ≤ front_of letter.note.view

-- there is no letter, or one of this memory
abbrev pub IsOurs : Handle AnyMem → Option Letter → Type 0
IsOurs key None = Unit {0}
IsOurs key (Some letter) = IsLetter key letter

-- the word of a place is 1 while it is open; else it is at home, and a letter that lies there is of the memory of which
-- the key is a caller. Each view is the key
pub record Kept (key : Handle AnyMem) (s : State (Option Letter) (Handle AnyMem)) : Type 0 where
  pub even : length s.words ≡ length s.homes
  pub views : (i : ℕ) (v : Handle AnyMem) → get_elem? s.views i ≡ some v → v ≡ key
  pub ours : (k : ℕ) (x : Option Letter) → get_elem? s.homes k ≡ some (some x) → IsOurs key x
  pub home : (k : ℕ) → k < length s.homes → slice_index s.words k ≢ 1 → (x : Option Letter) × (get_elem? s.homes k ≡ some (some x))

abbrev pub Hand : Type 0
Hand = Me (Option Letter) (Handle AnyMem)

-- a new seat knows the key
abbrev pub Entered : Step (Option Letter) → Hand → ℕ → Hand → Type 0
Entered s m n m' = m'.0 ≡ m.0

-- where the word was found that was wanted, the place is out with the seat, and what lies there is of the memory
abbrev pub Opened : Step (Option Letter) → Hand → ℕ → Hand → Type 0
Opened s m n m' = (m'.0 ≡ m.0) × (n ≡ s.first → (x : Option Letter) × (m'.1 ≡ (s.word, x) ∷ m.1) × IsOurs m.0 x)

abbrev pub Silent : Step (Option Letter) → Hand → ℕ → Hand → Type 0
Silent s m n m' = Unit {0}
