-- When a call doesn't fit, and what it is refused for then.
use Rattle.std.specs.Prelude.{ℕ, Bool, ltb, nat_le, ◌+◌, ◌%◌, ◌==◌, ◌&&◌, ◌||◌, if◌then◌else◌, Option, Some, None}
use Rattle.rule_base.specs.Encodings.{fenced}
use Rattle.stm_model.specs.declared.config.Config.{Config}
use Rattle.stm_tx.specs.Nesting.{live_marks}
use Rattle.stm_answers.specs.Fences.{is_within}
use Rattle.tx_checked.specs.declared.errand.Errand.{Errand}
use Rattle.tx_checked.specs.declared.errand.Errand.TheVariants.{Take, Give, End}
use Rattle.tx_checked.specs.declared.checked_caller.CheckedCaller.{CheckedCaller}
use Rattle.tx_checked.specs.declared.checked_caller.Range.{Range}
use Rattle.tx_checked.specs.declared.misuse.Misuse.{Misuse}
use Rattle.tx_checked.specs.declared.misuse.Misuse.TheVariants as wrong
use Rattle.tx_checked.specs.declared.phase.CallerPhase.{CallerPhase}
use Rattle.tx_checked.specs.declared.phase.CallerPhase.TheVariants.{Idle, Running, Beside, Committing, Closing}
use Rattle.tx_checked.specs.Errands.{same_errand}
use Rattle.tx_checked.specs.CheckedCallers.{config_of, known_to}

-- this first, and then that
abbrev pub or_else : Option Misuse → Option Misuse → Option Misuse
or_else None o = o
or_else (Some e) o = Some e

abbrev pub outside_at : CallerPhase → Option Misuse
outside_at Idle = None
outside_at Running = Some wrong.InAttempt
outside_at Beside = Some wrong.InAttempt
outside_at Committing = Some wrong.InAttempt
outside_at Closing = Some wrong.Closing

-- who has closed the gate for a call may make that call again: of `asked`, where the caller has this errand
abbrev pub errand_at : Errand → Errand → CallerPhase → Option Misuse
errand_at asked errand Idle = None
errand_at asked errand Running = Some wrong.InAttempt
errand_at asked errand Beside = Some wrong.InAttempt
errand_at asked errand Committing = Some wrong.InAttempt
errand_at asked errand Closing = if same_errand asked errand then None else Some wrong.Closing

abbrev pub closing_at : CallerPhase → Option Misuse
closing_at Idle = Some wrong.NotClosing
closing_at Running = Some wrong.InAttempt
closing_at Beside = Some wrong.InAttempt
closing_at Committing = Some wrong.InAttempt
closing_at Closing = None

abbrev pub inside_at : CallerPhase → Option Misuse
inside_at Idle = Some wrong.NoAttempt
inside_at Running = None
inside_at Beside = None
inside_at Committing = None
inside_at Closing = Some wrong.Closing

abbrev pub running_at : CallerPhase → Option Misuse
running_at Idle = Some wrong.NoAttempt
running_at Running = None
running_at Beside = None
running_at Committing = Some wrong.Committing
running_at Closing = Some wrong.Closing

-- words is how many there are, and fence what was out as the attempt began
abbrev pub access_at : ℕ → ℕ → ℕ → CallerPhase → Option Misuse
access_at a words fence Idle = Some wrong.NoAttempt
access_at a words fence Running = if ltb a words then None else Some wrong.Address
access_at a words fence Beside = if ltb a words then (if fenced fence a then Some wrong.Fenced else None) else Some wrong.Address
access_at a words fence Committing = Some wrong.Committing
access_at a words fence Closing = Some wrong.Closing

-- of a call for a caller in no attempt that hasn't closed the gate; for one in an attempt; for one in an attempt that
-- isn't in the middle of its commit; and of a read or a write of a
abbrev pub outside : CheckedCaller → Option Misuse
outside m = outside_at m.phase

-- of a call that must be alone with the memory; and of the one that gives such a call up
abbrev pub doing : Errand → CheckedCaller → Option Misuse
doing asked m = errand_at asked m.errand m.phase

abbrev pub reopening : CheckedCaller → Option Misuse
reopening m = closing_at m.phase

abbrev pub inside : CheckedCaller → Option Misuse
inside m = inside_at m.phase

abbrev pub running : CheckedCaller → Option Misuse
running m = running_at m.phase

abbrev pub access : ℕ → CheckedCaller → Option Misuse
access a m = access_at a (config_of m).words (known_to m).fence m.phase

-- of a look at the word at a
abbrev pub within : ℕ → ℕ → Option Misuse
within a words = if ltb a words then None else Some wrong.Address

abbrev pub looking : ℕ → CheckedCaller → Option Misuse
looking a m = or_else (outside m) (within a (config_of m).words)

-- of a call at mark d
abbrev pub at_mark : ℕ → CheckedCaller → Option Misuse
at_mark d m = or_else (running m) (if nat_le 1 d then (if nat_le d (live_marks (known_to m)) then None else Some wrong.Depth) else Some wrong.Depth)

-- of a call that takes words; and of one that takes `count` of them from `from`
abbrev pub takes_at : Bool → Option Misuse
takes_at takes = if takes then None else Some wrong.NoRanges

abbrev pub holds_at : Option Range → Option Misuse
holds_at None = None
holds_at (Some r) = Some wrong.HoldsRange

abbrev pub reaches : ℕ → ℕ → ℕ → Option Misuse
reaches from count words = if nat_le 1 count then (if nat_le (from + count) words then None else Some wrong.Address) else Some wrong.Address

-- in a memory that isn't small a range is a number of blocks
abbrev pub is_small : Config → Bool
is_small c = nat_le c.words 1048576 && nat_le c.callers 62

abbrev pub are_blocks : ℕ → ℕ → Bool
are_blocks from count = (from % 8192 == 0) && (count % 8192 == 0)

abbrev pub cuts : ℕ → ℕ → Config → Option Misuse
cuts from count c = if is_small c || are_blocks from count then None else Some wrong.Address

abbrev pub taking_for : Errand → CheckedCaller → Option Misuse
taking_for errand m = or_else (doing errand m) (or_else (takes_at (config_of m).fence) (holds_at m.range))

abbrev pub taking : ℕ → ℕ → CheckedCaller → Option Misuse
taking from count m = or_else (taking_for (Take from count) m) (or_else (reaches from count (config_of m).words) (cuts from count (config_of m)))

-- of one that gives a range back, and of one that asks for a there
abbrev pub gives_at : Option Range → Option Misuse
gives_at None = Some wrong.NoRange
gives_at (Some r) = None

abbrev pub has_at : ℕ → Option Range → Option Misuse
has_at a None = Some wrong.NoRange
has_at a (Some r) = if is_within r.from r.count a then None else Some wrong.NoRange

abbrev pub giving : CheckedCaller → Option Misuse
giving m = or_else (doing Give m) (gives_at m.range)

abbrev pub in_range : ℕ → CheckedCaller → Option Misuse
in_range a m = or_else (outside m) (has_at a m.range)

-- of one that hands out all words, with so much room: they are whole blocks, so it is never refused for an address
abbrev pub room_at : ℕ → ℕ → Option Misuse
room_at room words = if nat_le words room then None else Some wrong.Room

abbrev pub ending : ℕ → CheckedCaller → Option Misuse
ending room m = or_else (taking_for End m) (room_at room (config_of m).words)

-- of one that makes logs longer
abbrev pub is_length : ℕ → Bool
is_length n = nat_le 1 n && nat_le n 1048576

abbrev pub lengths : ℕ → ℕ → Option Misuse
lengths reads writes = if is_length reads && is_length writes then None else Some wrong.Logs

abbrev pub reserving : ℕ → ℕ → CheckedCaller → Option Misuse
reserving reads writes m = or_else (outside m) (lengths reads writes)
