-- What callers do of a day's mail, and what it comes to.
use Rattle.std.specs.Prelude.{ℕ, ◌≡◌, ◌<◌, ◌≤◌, ◌+◌, ◌*◌, ◌%◌, ◌==◌, ltb, if◌then◌else◌, Bool, List, [], length, map, sum_by, slice_index_or}
use Rattle.std.specs.List.{range_with_len}
use Rattle.tx_jobs.specs.Jobs.{Entry, Known, HasDone, InOneOrder}
use Rattle.example_mailbox.specs.declared.mail.Mailbox.{Mailbox}
use Rattle.example_mailbox.specs.Mail.{mail_in, Deed, Posted, Received, Moves, Did, waiting, posts, receives}
use Rattle.example_mail_jobs.specs.declared.clerks.Share.{Share}
use Rattle.example_mail_jobs.specs.declared.day.TheConstants.{MAILBOX}

-- what caller n did with a message: the first two are the producers, and each third message is urgent
abbrev pub deed_of : ℕ → ℕ → Deed
deed_of n message = if ltb n 2 then Posted (message % 3 == 0) message else Received message

-- what caller n did, by what it answers
abbrev pub done_by : ℕ → Share → List Deed
done_by n share = map (deed_of n) share.messages.items

-- 300 messages at most; a producer's are the first of its own
abbrev pub IsOwn : ℕ → Share → Type 0
IsOwn n share = (length share.messages.items ≤ 300) × (n < 2 → share.messages.items ≡ range_with_len (n * 300) (length share.messages.items))

abbrev pub TellsIn : Mailbox → ℕ → ℕ → Share → Known → Known → Type 0
TellsIn mailbox words n share before after = HasDone (Did mailbox words) (done_by n share) before.made after.made × IsOwn n share

-- each producer posted all of its messages, and none waits
abbrev pub IsThrough : List ℕ → List Share → Type 0
IsThrough words shares = ((n : ℕ) (a : Share) → n < 2 → length (slice_index_or shares n a).messages.items ≡ 300) × ((urgent : Bool) → mail_in MAILBOX words urgent ≡ [])

-- The history is one of posts and receipts, and those of each caller are what it answers, in its order. They lead from
-- no message to those that wait: so at each moment an urgent one was received before the others, and each kind in its
-- order. A message that was posted was received or waits, and none was posted twice.
pub record IsDay (words : List ℕ) (shares : List Share) (history : List Entry) : Type 0 where
  pub order : InOneOrder (Did MAILBOX 20) Moves done_by 4 shares history (λ urgent. []) (mail_in MAILBOX words)
  pub own : (n : ℕ) (a : Share) → n < 4 → IsOwn n (slice_index_or shares n a)
  pub all : (message : ℕ) → sum_by (posts message) order.deeds ≡ sum_by (receives message) order.deeds + waiting message (mail_in MAILBOX words)
  pub once : (message : ℕ) → sum_by (posts message) order.deeds ≤ 1
