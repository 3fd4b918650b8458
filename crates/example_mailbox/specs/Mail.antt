-- The mailbox in a memory, what its parts do to it, and what a transaction that was done did, as a deed.
use Rattle.std.specs.Prelude.{ℕ, ◌≡◌, ◌<◌, ◌≤◌, ◌+◌, ◌^◌, ◌⊎◌, ◌==◌, Bool, true, false, not, if◌then◌else◌, List, [], ◌∷◌, ◌++◌, Option, Some, None}
use Rattle.tx_jobs.specs.Jobs.{Log, IsDeed, times}
use Rattle.tx_parts.specs.Laying.{EitherTells}
use Rattle.tx_parts.specs.ToldLaws.{Told}
use Rattle.data_queue.specs.declared.queue.Put.{Put}
use Rattle.data_queue.specs.declared.queue.Put.TheVariants.{Added, NoRoom}
use Rattle.data_queue.specs.declared.queue.Queue.{Queue}
use Rattle.data_queue.specs.Queues.{IsQueue, contents}
use Rattle.data_queue.specs.Statements.{Puts, Gets}
use Rattle.example_mailbox.specs.declared.mail.Mailbox.{Mailbox}

-- the urgent messages lie first, and the others after them
abbrev pub queue_of : Mailbox → Bool → Queue
queue_of mailbox urgent = record { at = if urgent then 0 else mailbox.cells + 2; cells = mailbox.cells }

-- both have room for a message, in a memory of so many words
abbrev pub Fits : Mailbox → ℕ → Type 0
Fits mailbox words = (0 < mailbox.cells) × (mailbox.cells + 2 + 2 + mailbox.cells ≤ words) × (mailbox.cells + 2 + 2 + mailbox.cells < 2 ^ 64)

-- both are well formed
abbrev pub IsMailbox : Mailbox → List ℕ → Type 0
IsMailbox mailbox m = (urgent : Bool) → IsQueue (queue_of mailbox urgent) m

-- WHAT IS SEEN: the messages of each kind, the oldest first
abbrev pub mail_in : Mailbox → List ℕ → Bool → List ℕ
mail_in mailbox m urgent = contents (queue_of mailbox urgent) m

-- the messages of the other kind are as they were
abbrev pub Spares : Bool → (Bool → List ℕ) → (Bool → List ℕ) → Type 0
Spares urgent a b = b (not urgent) ≡ a (not urgent)

-- from the memory m to n a message was posted, or there was no room; the first one was taken, or there was none
abbrev pub Posts : Mailbox → Bool → ℕ → Put → List ℕ → List ℕ → Type 0
Posts mailbox urgent message put m n = Puts (queue_of mailbox urgent) message put m n × Spares urgent (mail_in mailbox m) (mail_in mailbox n)

abbrev pub Takes : Mailbox → Bool → Option ℕ → List ℕ → List ℕ → Type 0
Takes mailbox urgent came m n = Gets (queue_of mailbox urgent) came m n × Spares urgent (mail_in mailbox m) (mail_in mailbox n)

-- whether there was room
abbrev pub put_of : Option (Unit {0}) → Put
put_of (Some done) = Added
put_of None = NoRoom

-- what a post tells, and what a take of an urgent message, or else of another
abbrev pub PostTells : Mailbox → ℕ → Bool → ℕ → Option (Unit {0}) → Log → Log → Type 0
PostTells mailbox words urgent message came = Told (IsMailbox mailbox) words (Posts mailbox urgent message (put_of came))

abbrev pub TakeTells : Mailbox → ℕ → Bool → Option ℕ → Log → Log → Type 0
TakeTells mailbox words urgent came = Told (IsMailbox mailbox) words (Takes mailbox urgent came)

abbrev pub ReceiveTells : Mailbox → ℕ → Option ℕ → Log → Log → Type 0
ReceiveTells mailbox words = EitherTells (TakeTells mailbox words true) (TakeTells mailbox words false)

-- A DEED: this message was posted, urgent or not, or received: it was the first urgent one,
-- or there was none and it was the first of the others
pub data Deed : Type 0 where
  Posted : Bool → ℕ → Deed
  Received : ℕ → Deed

abbrev pub Moves : Deed → (Bool → List ℕ) → (Bool → List ℕ) → Type 0
Moves (Posted urgent message) a b = (b urgent ≡ a urgent ++ message ∷ []) × Spares urgent a b
Moves (Received message) a b = ((a true ≡ message ∷ b true) × Spares true a b) ⊎ ((a true ≡ []) × (a false ≡ message ∷ b false) × Spares false a b)

abbrev pub Did : Mailbox → ℕ → Deed → Log → Type 0
Did mailbox words = IsDeed (IsMailbox mailbox) words (mail_in mailbox) Moves

-- how often a message waits, is posted by a deed, and is received by one
abbrev pub waiting : ℕ → (Bool → List ℕ) → ℕ
waiting message mail = times message (mail true) + times message (mail false)

abbrev pub posts : ℕ → Deed → ℕ
posts message (Posted urgent x) = if x == message then 1 else 0
posts message (Received x) = 0

abbrev pub receives : ℕ → Deed → ℕ
receives message (Posted urgent x) = 0
receives message (Received x) = if x == message then 1 else 0
