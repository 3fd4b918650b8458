-- What a caller is told by another.
use Rattle.std.specs.Prelude.{◌≡◌, Option, Some, None, Result, Ok, Err}
use Rattle.std.specs.Arc.{arc_value}
use Rattle.rule_base.specs.declared.seats.Role.TheVariants.{Note}
use Rattle.stm_model.specs.declared.rule.AnyMem.{AnyMem}
use Rattle.stm_rule.specs.Callers.{Handle, IsOf, Learns, front_of, having_told}
use Rattle.stm_rule.specs.Counting.{TakesAtMost}
use Rattle.tx_checked.specs.declared.checked_caller.CheckedCaller.{CheckedCaller}
use Rattle.tx_checked.specs.declared.misuse.Misuse.{Misuse}
use Rattle.tx_checked.specs.declared.misuse.Misuse.TheVariants as wrong
use Rattle.tx_checked.specs.Dates.{AllBy}
use Rattle.tx_checked.specs.CheckedCallers.{IsSameCheckedCaller, IsUntouched, known_to}
use Rattle.tx_checked.specs.Misuses.{or_else, outside}

-- when no note can go from one to another: of the one that learns first
abbrev pub meeting : CheckedCaller → CheckedCaller → Option Misuse
meeting to from = or_else (outside to) (outside from)

-- it knows what a note of its memory tells, which has seen as far as all that f has made, and nothing else has changed,
-- but that the two steps of learning are in its step trace
abbrev pub HasLearned : CheckedCaller → CheckedCaller → CheckedCaller → Unit {0} → Type 0
HasLearned m f n r =
    AllBy (known_to n).front (known_to f).made × (note : Handle AnyMem) × AllBy (front_of note.view) (known_to f).made × IsOf note (arc_value m.stm) × (note.who.role ≡ Note) × Learns m.desc.view note.view n.desc.view × (n.desc.own ≡ m.desc.own) × TakesAtMost 2 m.desc.view n.desc.view
    × (n.phase ≡ m.phase) × (n.errand ≡ m.errand) × (n.range ≡ m.range) × (n.refusal ≡ m.refusal) × (n.counts ≡ m.counts)

-- as of each call, but that one that fits may be of strangers; then nothing has changed
abbrev pub TellsSameMemory : Option Misuse → (Unit {0} → Type 0) → CheckedCaller → CheckedCaller → Result (Unit {0}) Misuse → Type 0
TellsSameMemory misuse Told m n (Ok r) = (misuse ≡ None) × IsSameCheckedCaller m n × Told r
TellsSameMemory misuse Told m n (Err e) = (or_else misuse (Some wrong.Stranger) ≡ Some e) × (n ≡ m)

-- nothing of it has changed but the step trace, which has the step of telling
pub record HasTold (m n : CheckedCaller) : Type 0 where
  pub stm : n.stm ≡ m.stm
  pub note_exchange : n.note_exchange ≡ m.note_exchange
  pub desc : n.desc ≡ having_told m.desc
  pub phase : n.phase ≡ m.phase
  pub errand : n.errand ≡ m.errand
  pub range : n.range ≡ m.range
  pub refusal : n.refusal ≡ m.refusal
  pub counts : n.counts ≡ m.counts
  pub latest : n.latest ≡ m.latest

-- what becomes of the one that tells: where the call doesn't fit it isn't asked, and a stranger is told too, but
-- doesn't learn
abbrev pub IsAsked : Option Misuse → CheckedCaller → CheckedCaller → Type 0
IsAsked None m n = HasTold m n
IsAsked (Some e) m n = IsUntouched m n
