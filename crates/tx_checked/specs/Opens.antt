-- A begin without the number that it found, which is written down.
use Rattle.std.specs.Prelude.{ℕ, ◌≡◌, Option, Some}
use Rattle.stm_answers.specs.declared.answers.Begin.{Begin}
use Rattle.stm_answers.specs.declared.answers.Begin.TheVariants as begins
use Rattle.tx_checked.specs.declared.calls.Opened.{Opened}
use Rattle.tx_checked.specs.declared.calls.Opened.TheVariants as opens
use Rattle.tx_checked.specs.declared.checked_caller.CheckedCaller.{CheckedCaller}
use Rattle.tx_checked.specs.declared.refusal.Refusal.{Refusal}
use Rattle.tx_checked.specs.declared.refusal.Refusal.TheVariants as refusals
use Rattle.tx_checked.specs.CheckedCallers.{IsSameCheckedCaller}
use Rattle.tx_checked.specs.Tells.{HasBegun}

abbrev pub without_number : Begin → Opened
without_number (begins.Begun alg) = opens.Begun alg
without_number (begins.Closed gate) = opens.Closed
without_number (begins.Held word) = opens.Held
without_number (begins.ClockFull clock) = opens.ClockFull

abbrev pub with_number : Opened → ℕ → Begin
with_number (opens.Begun alg) n = begins.Begun alg
with_number opens.Closed n = begins.Closed n
with_number opens.Held n = begins.Held n
with_number opens.ClockFull n = begins.ClockFull n

-- the number that such a refusal found
abbrev pub number_found : Option Refusal → ℕ
number_found (Some (refusals.GateClosed gate)) = gate
number_found (Some (refusals.Held word)) = word
number_found (Some (refusals.ClockFull clock)) = clock
number_found refusal = 0

abbrev pub HasOpened : CheckedCaller → CheckedCaller → Opened → Type 0
HasOpened m n o = IsSameCheckedCaller m n × (r : Begin) × (o ≡ without_number r) × HasBegun m n r
